-- Each warehouse of a database has, after every list of commits, the rows of a replay of those that name it; so what a
-- database refuses never changes.
use Rattle.std.proofs.Common.{◌≡◌, ℕ, ◌==◌, Bool, true, false, cond, not, List, [], ◌∷◌, ◌++◌, length, map, filter, Option, Some, None, refl, sym, ap, subst, ◌∙◌, append_assoc, append-nil}
use Rattle.std.specs.Prelude.{fold}
use Rattle.std.specs.List.{list_all, list_any}
use Rattle.std.specs.Option.{option_or}
use Rattle.std.proofs.lemmas.List.Elements.{filter-append}
use Rattle.std.proofs.lemmas.List.Sums.{fold-append}
use Rattle.hy_passes.specs.SerialList.{names, projection}
use Rattle.hy_rows.specs.Ranges.{IsBetween, is_between}
use Rattle.hy_rows.specs.Tables.{Lists, Tables, of_warehouse}
use Rattle.hy_schema.specs.declared.refusal.Refusal.{Refusal}
use Rattle.hy_schema.specs.declared.refusal.Refusal.TheVariants as refusals
use Rattle.hy_commands.specs.declared.command.Command.{Command}
use Rattle.hy_commands.specs.declared.command.Commit.{Commit}
use Rattle.hy_commands.specs.declared.command.Commit.TheVariants as commits
use Rattle.hy_commands.specs.declared.edition.Edition.{Edition}
use Rattle.hy_commands.specs.Commands.{customer_home_of, has_districts, home_of, is_in_range, warehouses_of, warehouses_of_commit}
use Rattle.hy_commands.specs.Customers.{identity_of}
use Rattle.hy_commands.specs.Parts.{Database, database_of, is_there, part, part_unless, refusal_in, rows_of}
use Rattle.hy_commands.specs.Replay.{HasWarehouse, committed, rows_after}
use Rattle.hy_commands.specs.Transactions.{act, has_items}
use Rattle.hy_commands.proofs.DatabaseLaws.{length-database, rows-load, there-load}
use Rattle.hy_commands.proofs.SameCustomers.{has_customer-same, same-customers}
use Rattle.hy_database.specs.Database.{committed_in, database_after, parts_done}
use Rattle.hy_database.proofs.EachLaws.{count-committed, items-committed, rows_of-each}
use Rattle.hy_commands.proofs.NamedLaws.{named-customer_home}
use Rattle.hy_database.proofs.PartLaws.{act-elsewhere, part-unnamed, unnamed-home}

-- ---- why a command is refused

-- the chain of tests, and where two agree
abbrev chain : Bool → Bool → Bool → Bool → Bool → Option Refusal
chain in_range named districts customer items =
    option_or
    (cond (not in_range) (Some refusals.OutOfRange)
    (cond (not named) (Some refusals.NoSuchWarehouse) (cond (not districts) (Some refusals.NoSuchDistrict) None)))
    (cond (not customer) (Some refusals.NoSuchCustomer) (cond (not items) (Some refusals.NoSuchItem) None))

chain-same : (in_range named districts customer items named_other customer_other items_other : Bool)
    → named ≡ named_other → (named_other ≡ true → customer ≡ customer_other) → items ≡ items_other
    → chain in_range named districts customer items ≡ chain in_range named_other districts customer_other items_other
chain-same false named districts customer items named_other customer_other items_other same agree equal = refl
chain-same true named districts customer items true customer_other items_other same agree equal =
    rw (same, agree refl, equal) refl
chain-same true named districts customer items false customer_other items_other same agree equal =
    rw same refl

-- ---- a database that has the replays

-- the database has what the load has after the commits so far
pub record IsReplay (lists : Lists) (before : List Commit) (database : Database) : Type 0 where
  pub items : database.items ≡ lists.items
  pub count : length database.warehouses ≡ length lists.tables.warehouses
  pub rows : (number : ℕ) → HasWarehouse lists number
      → rows_of number database ≡ rows_after lists number (projection warehouses_of_commit number before)

pub replay-load : (lists : Lists) → IsReplay lists [] (database_of lists)
replay-load lists = record {
  items = refl;
  count = length-database lists;
  rows = λ number between. rows-load lists number between;
}

-- a commit more: it is replayed where it is named
replayed-more : (lists : Lists) (number : ℕ) (before : List Commit) (commit : Commit)
    → rows_after lists number (projection warehouses_of_commit number (before ++ commit ∷ []))
    ≡ cond (names warehouses_of_commit number commit)
    (committed lists number (rows_after lists number (projection warehouses_of_commit number before)) commit)
    (rows_after lists number (projection warehouses_of_commit number before))
replayed-more lists number before commit =
    let named : Commit → Bool = names warehouses_of_commit number in
    let loaded : Tables = of_warehouse number lists.tables in
    ap (fold (committed lists number) loaded) (filter-append named before (commit ∷ []))
    ∙ fold-append (committed lists number) loaded (filter named before) (cond (named commit) (commit ∷ []) [])
    ∙ elim (named commit) as (λ b.
    fold (committed lists number) (fold (committed lists number) loaded (filter named before)) (cond b (commit ∷ []) [])
    ≡ cond b (committed lists number (fold (committed lists number) loaded (filter named before)) commit)
    (fold (committed lists number) loaded (filter named before))) [
      | true ↦ refl
      | false ↦ refl
    ]

-- such a database refuses what the load refuses
pub refusal-same : (lists : Lists) (before : List Commit) (database : Database) → IsReplay lists before database
    → (command : Command) → refusal_in database command ≡ refusal_in (database_of lists) command
refusal-same lists before database replays command =
    let count : length database.warehouses ≡ length (database_of lists).warehouses =
    replays.count ∙ sym (length-database lists) in
    chain-same (is_in_range command) _ (has_districts command) _ _ _ _ _
    (ap (λ n. list_all (is_between 1 n) (warehouses_of command)) count)
    (λ all.
    let home : ℕ = customer_home_of command in
    let there : HasWarehouse lists home =
    there-load lists home (named-customer_home (is_there (database_of lists)) command all) in
    has_customer-same command (rows_of home database) (rows_of home (database_of lists))
    (ap (λ (tables : Tables). map identity_of tables.customers) (replays.rows home there)
    ∙ same-customers lists home (projection warehouses_of_commit home before)
    ∙ sym (ap (λ (tables : Tables). map identity_of tables.customers) (rows-load lists home there))))
    (ap (λ items. has_items items command) replays.items)

module _ (lists : Lists) (before : List Commit) (database : Database) (replays : IsReplay lists before database)
    (number : ℕ) (between : HasWarehouse lists number) where
  abbrev replayed : Tables
  replayed = rows_after lists number (projection warehouses_of_commit number before)

  same_rows : rows_of number database ≡ replayed
  same_rows = replays.rows number between

  there : IsBetween 1 (length database.warehouses) number
  there = subst (λ n. IsBetween 1 n number) (sym replays.count) between

  -- a commit of one warehouse acts at its home, and would change nothing elsewhere
  rows-local : (edition : Edition) (command : Command)
      → rows_of number (committed_in database (commits.Local edition command))
      ≡ cond (names warehouses_of_commit number (commits.Local edition command))
      (committed lists number replayed (commits.Local edition command)) replayed
  rows-local edition command =
      let now : Tables = rows_of number database in
      let acted : Tables = (act database.items number edition command now).tables in
      let done : rows_of number (committed_in database (commits.Local edition command)) ≡ acted =
      rows_of-each _ database number there
      ∙ elim (home_of command == number) as (λ b. (home_of command == number) ≡ b → cond b acted now ≡ acted) [
        | true ↦ λ home. refl
        | false ↦ λ other. sym (act-elsewhere database.items number edition command now other)
      ] refl in
      let again : acted ≡ (act lists.items number edition command replayed).tables =
      ap (λ items. (act items number edition command now).tables) replays.items
      ∙ ap (λ tables. (act lists.items number edition command tables).tables) same_rows in
      done ∙ again
      ∙ elim (list_any (λ named. named == number) (warehouses_of command)) as (λ b.
      list_any (λ named. named == number) (warehouses_of command) ≡ b
      → (act lists.items number edition command replayed).tables
      ≡ cond b (act lists.items number edition command replayed).tables replayed) [
        | true ↦ λ named. refl
        | false ↦ λ unnamed.
            act-elsewhere lists.items number edition command replayed (unnamed-home number command unnamed)
      ] refl

  -- a commit of several does its part in each, which is nothing where it isn't named
  part-named : (edition : Edition) (command : Command) → part lists.items number edition command replayed
      ≡ cond (list_any (λ named. named == number) (warehouses_of command))
      (part lists.items number edition command replayed) replayed
  part-named edition command =
      elim (list_any (λ named. named == number) (warehouses_of command)) as (λ b.
      list_any (λ named. named == number) (warehouses_of command) ≡ b
      → part lists.items number edition command replayed
      ≡ cond b (part lists.items number edition command replayed) replayed) [
        | true ↦ λ named. refl
        | false ↦ λ unnamed. part-unnamed lists.items number edition command replayed unnamed
      ] refl

  rows-cross : (edition : Edition) (command : Command) (refusal : Option Refusal)
      → rows_of number (parts_done refusal edition command database)
      ≡ cond (list_any (λ named. named == number) (warehouses_of command))
      (part_unless refusal lists.items number edition command replayed) replayed
  rows-cross edition command (Some why) =
      same_rows ∙ elim (list_any (λ named. named == number) (warehouses_of command)) as (λ b. replayed
      ≡ cond b replayed replayed) [
        | true ↦ refl
        | false ↦ refl
      ]
  rows-cross edition command None =
      rows_of-each _ database number there
      ∙ ap (λ items. part items number edition command (rows_of number database)) replays.items
      ∙ ap (part lists.items number edition command) same_rows
      ∙ part-named edition command

  rows-committed : (commit : Commit) → rows_of number (committed_in database commit)
      ≡ cond (names warehouses_of_commit number commit) (committed lists number replayed commit) replayed
  rows-committed (commits.Local edition command) = rows-local edition command
  rows-committed (commits.Cross edition crossing command) =
      rows-cross edition command (refusal_in database command)
      ∙ ap (λ refusal. cond (list_any (λ named. named == number) (warehouses_of command))
      (part_unless refusal lists.items number edition command replayed) replayed)
      (refusal-same lists before database replays command)

pub replay-committed : (lists : Lists) (before : List Commit) (database : Database) (commit : Commit)
    → IsReplay lists before database → IsReplay lists (before ++ commit ∷ []) (committed_in database commit)
replay-committed lists before database commit replays = record {
  items = items-committed database commit ∙ replays.items;
  count = count-committed database commit ∙ replays.count;
  rows = λ number between.
      rows-committed lists before database replays number between commit
      ∙ sym (replayed-more lists number before commit);
}

replay-from : (lists : Lists) (before : List Commit) (database : Database) (commits : List Commit)
    → IsReplay lists before database → IsReplay lists (before ++ commits) (fold committed_in database commits)
replay-from lists before database [] replays =
    subst (λ list. IsReplay lists list database) (sym (append-nil before)) replays
replay-from lists before database (commit ∷ commits) replays =
    subst (λ list. IsReplay lists list (fold committed_in (committed_in database commit) commits))
    (append_assoc before (commit ∷ []) commits)
    (replay-from lists (before ++ commit ∷ []) (committed_in database commit) commits
    (replay-committed lists before database commit replays))

pub replay-after : (lists : Lists) (commits : List Commit) → IsReplay lists commits (database_after lists commits)
replay-after lists commits = replay-from lists [] (database_of lists) commits (replay-load lists)

pub refusals-same : (lists : Lists) (commits : List Commit) (command : Command)
    → refusal_in (database_after lists commits) command ≡ refusal_in (database_of lists) command
refusals-same lists commits command =
    refusal-same lists commits (database_after lists commits) (replay-after lists commits) command
