-- What is done to each warehouse of a database, at the warehouse of a number; and that none comes or goes.
use Rattle.std.proofs.Common.{◌≡◌, ℕ, zero, suc, ◌+◌, ◌-◌, ◌<◌, List, [], ◌∷◌, length, Option, Some, None, refl, ap, ◌∙◌, arith}
use Rattle.std.specs.Prelude.{fold, slice_index_or}
use Rattle.hy_rows.specs.Ranges.{IsBetween}
use Rattle.hy_rows.specs.Tables.{Lists, Tables, no_rows}
use Rattle.hy_rows.proofs.BetweenLaws.{bounds}
use Rattle.hy_schema.specs.declared.refusal.Refusal.{Refusal}
use Rattle.hy_commands.specs.declared.command.Command.{Command}
use Rattle.hy_commands.specs.declared.command.Commit.{Commit}
use Rattle.hy_commands.specs.declared.command.Commit.TheVariants as commits
use Rattle.hy_commands.specs.declared.edition.Edition.{Edition}
use Rattle.hy_commands.specs.Parts.{Database, database_of, refusal_in, rows_of}
use Rattle.hy_commands.proofs.DatabaseLaws.{length-database}
use Rattle.hy_database.specs.Database.{committed_in, database_after, each_changed, parts_done, with_each}

-- ---- each warehouse

module _ (change : ℕ → Tables → Tables) where
  pub length-each : (first : ℕ) (warehouses : List Tables)
      → length (each_changed change first warehouses) ≡ length warehouses
  length-each first [] = refl
  length-each first (tables ∷ others) = ap suc (length-each (first + 1) others)

  at-each : (first place : ℕ) (warehouses : List Tables) → place < length warehouses
      → slice_index_or (each_changed change first warehouses) place no_rows
      ≡ change (first + place) (slice_index_or warehouses place no_rows)
  at-each first place [] within = absurd (omega arith)
  at-each first zero (tables ∷ others) within =
      let here : first ≡ first + 0 = omega arith in
      ap (λ n. change n tables) here
  at-each first (suc place) (tables ∷ others) within =
      let here : first + 1 + place ≡ first + suc place = omega arith in
      at-each (first + 1) place others (omega arith)
      ∙ ap (λ n. change n (slice_index_or others place no_rows)) here

  -- the warehouse of a number is changed as its number says
  pub rows_of-each : (database : Database) (number : ℕ) → IsBetween 1 (length database.warehouses) number
      → rows_of number (with_each change database) ≡ change number (rows_of number database)
  rows_of-each database number between =
      let ends = bounds 1 (length database.warehouses) number between in
      let here : 1 + (number - 1) ≡ number = omega (arith, ends.0) in
      at-each 1 (number - 1) database.warehouses (omega (arith, ends.0, ends.1))
      ∙ ap (λ n. change n (rows_of number database)) here

-- ---- commits

-- no warehouse comes or goes, and no item
count-parts : (refusal : Option Refusal) (edition : Edition) (command : Command) (database : Database)
    → length (parts_done refusal edition command database).warehouses ≡ length database.warehouses
count-parts (Some why) edition command database = refl
count-parts None edition command database = length-each _ 1 database.warehouses

pub count-committed : (database : Database) (commit : Commit)
    → length (committed_in database commit).warehouses ≡ length database.warehouses
count-committed database (commits.Local edition command) = length-each _ 1 database.warehouses
count-committed database (commits.Cross edition number command) =
    count-parts (refusal_in database command) edition command database

items-parts : (refusal : Option Refusal) (edition : Edition) (command : Command) (database : Database)
    → (parts_done refusal edition command database).items ≡ database.items
items-parts (Some why) edition command database = refl
items-parts None edition command database = refl

pub items-committed : (database : Database) (commit : Commit) → (committed_in database commit).items ≡ database.items
items-committed database (commits.Local edition command) = refl
items-committed database (commits.Cross edition number command) =
    items-parts (refusal_in database command) edition command database

count-fold : (database : Database) (commits : List Commit)
    → length (fold committed_in database commits).warehouses ≡ length database.warehouses
count-fold database [] = refl
count-fold database (commit ∷ commits) =
    count-fold (committed_in database commit) commits ∙ count-committed database commit

pub count-after : (lists : Lists) (commits : List Commit)
    → length (database_after lists commits).warehouses ≡ length lists.tables.warehouses
count-after lists commits = count-fold (database_of lists) commits ∙ length-database lists
