-- What a command has passed that a warehouse begins.
use Rattle.std.proofs.Common.{◌≡◌, ℕ, ◌==◌, true, false, Option, Some, None, refl, sym, ap, subst, ◌∙◌}
use Rattle.std.specs.Prelude.{Err, IfErr, IfSome, is_some, MatchOption, Ok, Result}
use Rattle.std.specs.Result.{IsErrAnd}
use Rattle.std.proofs.lemmas.Bool.{eqb-true}
use Rattle.hy_rows.specs.Tables.{Tables}
use Rattle.hy_schema.specs.declared.refusal.Refusal.TheVariants as refusals
use Rattle.hy_schema.specs.declared.refusal.Refusal.{Refusal}
use Rattle.hy_commands.specs.declared.command.Command.{Command}
use Rattle.hy_commands.specs.Commands.{CustomerName, customer_home_of, customer_named, home_of, home_or, refusal_of_numbers}
use Rattle.hy_commands.specs.Customers.{customer_meant}
use Rattle.hy_commands.specs.Transactions.{begin_refusal_of, has_customer, is_customer_there}
use Rattle.hy_commands.proofs.AcceptedLaws.{passed-numbers}
use Rattle.hy_commands.proofs.NamedLaws.{named-customer_home}
use Rattle.hy_layout.specs.Layout.{IsMeantAt}
use Rattle.hy_tpcc.specs.Executor.{FindsCustomer}

-- where the customer stands whom a command names
module _ (warehouse : ℕ) (command : Command) (customer : CustomerName) (tables : Tables)
    (named : customer_named command ≡ Some customer) (home : customer_home_of command ≡ warehouse) where
  here : customer.warehouse ≡ warehouse
  here = sym (ap (home_or (home_of command)) named) ∙ home

  there : has_customer command tables
      ≡ is_some (customer_meant warehouse customer.district customer.who tables.customers)
  there = ap (is_customer_there tables) named
      ∙ ap (λ w. is_some (customer_meant w customer.district customer.who tables.customers)) here

  pub begin-found : (found : Option ℕ)
      → MatchOption found (customer_meant warehouse customer.district customer.who tables.customers ≡ None)
      (IsMeantAt warehouse customer.district customer.who tables.customers)
      → FindsCustomer warehouse command tables found
  begin-found None none = there ∙ ap is_some none
  begin-found (Some place) meant = (
    there ∙ ap is_some meant.meant,
    subst (λ named. IfSome named (λ customer. IsMeantAt warehouse customer.district customer.who tables.customers place))
        (sym named) meant,
  )

-- a command that names none has none to be found
pub begin-nobody : (warehouse : ℕ) (command : Command) (tables : Tables) → customer_named command ≡ None
    → FindsCustomer warehouse command tables (Some 0)
begin-nobody warehouse command tables none = (
  ap (is_customer_there tables) none,
  subst (λ named. IfSome named (λ customer. IsMeantAt warehouse customer.district customer.who tables.customers 0))
      (sym none) tt,
)

-- who is named by a command that its numbers don't refuse is one of the warehouse
pub customer-home : (warehouse : ℕ) (command : Command)
    → refusal_of_numbers (λ named. named == warehouse) command ≡ None → customer_home_of command ≡ warehouse
customer-home warehouse command passed =
    eqb-true (customer_home_of command) warehouse
    (named-customer_home (λ named. named == warehouse) command
    (passed-numbers (λ named. named == warehouse) command passed).named)

-- why a command isn't begun, test by test
module _ (warehouse : ℕ) (command : Command) (tables : Tables) where
  pub refused-numbers : {Value : Type 0} (answer : Result Value Refusal) (why : Refusal)
      → IsErrAnd answer (λ error. error ≡ why)
      → refusal_of_numbers (λ named. named == warehouse) command ≡ Some why
      → IfErr answer (λ why. begin_refusal_of warehouse command tables ≡ Some why)
  refused-numbers (Ok value) why is refused = tt
  refused-numbers (Err error) why is refused = rw refused (ap Some (sym is))

  module _ (passed : refusal_of_numbers (λ named. named == warehouse) command ≡ None) where
    pub refused-customer : has_customer command tables ≡ false
        → begin_refusal_of warehouse command tables ≡ Some refusals.NoSuchCustomer
    refused-customer customer = rw (passed, customer) refl

    pub not-refused : has_customer command tables ≡ true → begin_refusal_of warehouse command tables ≡ None
    not-refused customer = rw (passed, customer) refl
