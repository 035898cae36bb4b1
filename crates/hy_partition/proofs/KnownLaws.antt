-- What a warehouse accepts behind any commits, the database of the load refuses for no reason.
use Rattle.std.proofs.Common.{◌≡◌, ℕ, ◌==◌, Bool, true, List, [], ◌∷◌, map, None, refl, sym, ap, ◌∙◌}
use Rattle.std.specs.List.{list_all}
use Rattle.std.proofs.lemmas.Bool.{and_parts, eqb-true}
use Rattle.hy_rows.specs.Tables.{Lists, Tables, of_warehouse}
use Rattle.hy_commands.specs.declared.command.Command.{Command}
use Rattle.hy_commands.specs.declared.command.Commit.{Commit}
use Rattle.hy_commands.specs.Commands.{customer_home_of, warehouses_of}
use Rattle.hy_commands.specs.Customers.{identity_of}
use Rattle.hy_commands.specs.Parts.{database_of, is_there, refusal_in, rows_of}
use Rattle.hy_commands.specs.Replay.{HasWarehouse, rows_after}
use Rattle.hy_commands.specs.Transactions.{refusal_of}
use Rattle.hy_commands.proofs.AcceptedLaws.{IsAccepted, IsAcceptedIn, accepted-not_refused}
use Rattle.hy_commands.proofs.DatabaseLaws.{load-there, rows-load}
use Rattle.hy_commands.proofs.SameCustomers.{has_customer-same, same-customers}
use Rattle.hy_database.proofs.KeptLaws.{passed-in}
use Rattle.hy_commands.proofs.NamedLaws.{named-customer_home}

all-weaker : (one other : ℕ → Bool) (names : List ℕ) → ((name : ℕ) → one name ≡ true → other name ≡ true)
    → list_all one names ≡ true → list_all other names ≡ true
all-weaker one other [] leads all = refl
all-weaker one other (name ∷ names) leads all =
    let both = and_parts (one name) (list_all one names) all in
    let first = leads name both.0 in
    let later = all-weaker one other names leads both.1 in
    rw (first, later) refl

pub known-local : (lists : Lists) (number : ℕ) (kept : List Commit) (command : Command) → HasWarehouse lists number
    → refusal_of lists.items number command (rows_after lists number kept) ≡ None
    → refusal_in (database_of lists) command ≡ None
known-local lists number kept command there none = passed-in (database_of lists) command passed
  where
    accepted : IsAccepted lists.items number command (rows_after lists number kept)
    accepted = accepted-not_refused lists.items number command (rows_after lists number kept) none

    home : customer_home_of command ≡ number
    home = eqb-true (customer_home_of command) number (named-customer_home (λ name. name == number) command accepted.named)

    rows-are : rows_of (customer_home_of command) (database_of lists) ≡ of_warehouse number lists.tables
    rows-are = ap (λ n. rows_of n (database_of lists)) home ∙ rows-load lists number there

    passed : IsAcceptedIn (database_of lists) command
    passed = record {
      in_range = accepted.in_range;
      named = all-weaker (λ name. name == number) (is_there (database_of lists)) (warehouses_of command)
          (λ name is. ap (is_there (database_of lists)) (eqb-true name number is) ∙ load-there lists number there)
          accepted.named;
      districts = accepted.districts;
      customer =
          has_customer-same command (rows_of (customer_home_of command) (database_of lists)) (rows_after lists number kept)
          (ap (λ (tables : Tables). map identity_of tables.customers) rows-are ∙ sym (same-customers lists number kept))
          ∙ accepted.customer;
      known = accepted.known;
    }
