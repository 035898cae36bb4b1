-- Why a command is refused, by what is found one after the other.
use Rattle.std.proofs.Common.{◌≡◌, ℕ, suc, ◌-◌, Bool, true, false, not, cond, List, length, Option, Some, None, is_some, refl, sym, ap, ◌∙◌, subst, arith}
use Rattle.std.specs.Prelude.{IfSome}
use Rattle.std.specs.List.{list_all}
use Rattle.std.specs.Option.{option_or}
use Rattle.hy_rows.specs.Ranges.{IsBetween, is_between}
use Rattle.hy_rows.specs.Tables.{Lists, Tables, of_warehouse}
use Rattle.hy_rows.proofs.BetweenLaws.{bounds}
use Rattle.hy_schema.specs.declared.refusal.Refusal.{Refusal}
use Rattle.hy_schema.specs.declared.refusal.Refusal.TheVariants as refusals
use Rattle.hy_commands.specs.declared.command.Command.{Command}
use Rattle.hy_commands.specs.Commands.{customer_home_of, has_districts, is_in_range, refusal_of_numbers, warehouses_of}
use Rattle.hy_commands.specs.Parts.{database_of, is_there, rows_of}
use Rattle.hy_commands.specs.Transactions.{has_customer, has_items}
use Rattle.hy_commands.proofs.DatabaseLaws.{length-database, rows-load, there-load}
use Rattle.hy_commands.proofs.SameCustomers.{has_customer-same, same-customers}
use Rattle.hy_commands.proofs.NamedLaws.{named-customer_home}
use Rattle.hy_crossing.proofs.PlaceLaws.{get-some}
use Rattle.hy_partition.specs.Parts.{FindsPayer}
use Rattle.hy_partition.specs.Partition.{PartitionState, rows_now}
use Rattle.hy_crossing.specs.Crossings.{ArePartitions, FindsPayerIn, IsPartition, loaded_refusal, some_is_full, with_full}

-- ---- the first that isn't so

abbrev first_of : Bool → Option Refusal → Bool → Bool → Option Refusal
first_of full numbers customer items =
    with_full full (
    option_or numbers
    (cond (not customer) (Some refusals.NoSuchCustomer) (cond (not items) (Some refusals.NoSuchItem) None))
    )

-- what the numbers of a command refuse goes before all else
numbers-first : (full range there districts : Bool) (rest : Option Refusal) (why : Refusal)
    → cond (not range) (Some refusals.OutOfRange) (cond (not there) (Some refusals.NoSuchWarehouse)
    (cond (not districts) (Some refusals.NoSuchDistrict) None)) ≡ Some why
    → with_full full (option_or (cond (not range) (Some refusals.OutOfRange)
    (cond (not there) (Some refusals.NoSuchWarehouse) (cond (not districts) (Some refusals.NoSuchDistrict) None))) rest)
    ≡ Some why
numbers-first full false there districts rest why is = is
numbers-first full true false districts rest why is = is
numbers-first full true true false rest why is = is
numbers-first full true true true rest why is = absurd (cc)

module _ (lists : Lists) (command : Command) (parts : List PartitionState) where
  abbrev full : Bool
  full = some_is_full command 1 parts

  abbrev numbers : Option Refusal
  numbers = refusal_of_numbers (is_there (database_of lists)) command

  abbrev customer : Bool
  customer = has_customer command (rows_of (customer_home_of command) (database_of lists))

  abbrev items : Bool
  items = has_items lists.items command

  pub no-numbers : (why : Refusal) → refusal_of_numbers (is_there (database_of lists)) command ≡ Some why
      → loaded_refusal lists command parts ≡ Some why
  no-numbers why is =
      numbers-first full (is_in_range command) (list_all (is_there (database_of lists)) (warehouses_of command))
      (has_districts command) _ why is

  module _ (passed : refusal_of_numbers (is_there (database_of lists)) command ≡ None) where
    placed : loaded_refusal lists command parts ≡ first_of full None customer items
    placed = ap (λ n. first_of full n customer items) passed

    pub no-customer : has_customer command (rows_of (customer_home_of command) (database_of lists)) ≡ false
        → loaded_refusal lists command parts ≡ Some refusals.NoSuchCustomer
    no-customer missing = placed ∙ ap (λ b. first_of full None b items) missing

    module _ (payer : has_customer command (rows_of (customer_home_of command) (database_of lists)) ≡ true) where
      met : loaded_refusal lists command parts ≡ first_of full None true items
      met = placed ∙ ap (λ b. first_of full None b items) payer

      pub no-room : some_is_full command 1 parts ≡ true
          → loaded_refusal lists command parts ≡ Some refusals.HistoryFull
      no-room is = met ∙ ap (λ b. first_of b None true items) is ∙ either items
        where
          either : (b : Bool) → first_of true None true b ≡ Some refusals.HistoryFull
          either true = refl
          either false = refl

      pub no-item : some_is_full command 1 parts ≡ false → has_items lists.items command ≡ false
          → loaded_refusal lists command parts ≡ Some refusals.NoSuchItem
      no-item is missing =
          met ∙ ap (λ b. first_of b None true items) is ∙ ap (λ b. first_of false None true b) missing

      pub no-refusal : some_is_full command 1 parts ≡ false → has_items lists.items command ≡ true
          → loaded_refusal lists command parts ≡ None
      no-refusal is all = met ∙ ap (λ b. first_of b None true items) is ∙ ap (λ b. first_of false None true b) all

-- ---- the customer

found-customer : (command : Command) (tables : Tables) (found : Option ℕ) → FindsPayer command tables found
    → has_customer command tables ≡ is_some found
found-customer command tables (Some number) finds = finds.0
found-customer command tables None finds = finds

-- the rows of a partition have the customers of the load
same-rows : (lists : Lists) (number : ℕ) (p : PartitionState) (command : Command) → IsPartition lists number p
    → has_customer command (rows_now p) ≡ has_customer command (of_warehouse number lists.tables)
same-rows lists number p command is =
    has_customer-same command (rows_now p) (of_warehouse p.warehouse p.load.tables)
    (same-customers p.load p.warehouse p.kept)
    ∙ ap (λ n. has_customer command (of_warehouse n p.load.tables)) is.1
    ∙ ap (λ (l : Lists). has_customer command (of_warehouse number l.tables)) is.0

pub finds-customer : (lists : Lists) (command : Command) (parts : List PartitionState) (found : Option ℕ)
    → ArePartitions lists parts → list_all (is_there (database_of lists)) (warehouses_of command) ≡ true
    → FindsPayerIn parts command found
    → has_customer command (rows_of (customer_home_of command) (database_of lists)) ≡ is_some found
finds-customer lists command parts found are there finds =
    let home : ℕ = customer_home_of command in
    let is_home = named-customer_home (is_there (database_of lists)) command there in
    let has = there-load lists home is_home in
    let ends = bounds 1 (length lists.tables.warehouses) home has in
    let next : suc (home - 1) ≡ home = omega (arith, ends.0) in
    let some = get-some parts (home - 1) (omega (arith, ends.0, ends.1, are.count)) in
    let is = subst (λ (row : Option PartitionState). IfSome row (IsPartition lists (suc (home - 1)))) some.1
    (are.each (home - 1)) in
    let finds_here = subst (λ (row : Option PartitionState). IfSome row (λ p. FindsPayer command (rows_now p) found))
    some.1 finds in
    ap (has_customer command) (rows-load lists home has)
    ∙ sym (same-rows lists home some.0 command (subst (λ n. IsPartition lists n some.0) next is))
    ∙ found-customer command (rows_now some.0) found finds_here

-- ---- the warehouses

-- those of the load are the partitions
pub same-numbers : (lists : Lists) (command : Command) (parts : List PartitionState) (count : ℕ)
    → ArePartitions lists parts → count ≡ length parts
    → refusal_of_numbers (is_between 1 count) command ≡ refusal_of_numbers (is_there (database_of lists)) command
same-numbers lists command parts count are counted =
    ap (λ n. refusal_of_numbers (is_between 1 n) command) (counted ∙ are.count ∙ sym (length-database lists))

pub home-there : (command : Command) (parts : List PartitionState) (count : ℕ) → count ≡ length parts
    → list_all (is_between 1 count) (warehouses_of command) ≡ true
    → IsBetween 1 (length parts) (customer_home_of command)
home-there command parts count counted all =
    subst (λ n. IsBetween 1 n (customer_home_of command)) counted (named-customer_home (is_between 1 count) command all)
