-- A commit does to each warehouse of a database the part of one command, or it changes nothing.
use Rattle.std.proofs.Common.{◌≡◌, ℕ, ◌==◌, ◌||◌, inl, inr, Bool, true, false, cond, length, Option, Some, None, refl, sym, ap, subst, ◌∙◌}
use Rattle.std.specs.Prelude.{IsTrue}
use Rattle.std.specs.List.{list_any}
use Rattle.std.proofs.lemmas.Bool.{cases_eq, eq-eqb, ne_eqb}
use Rattle.hy_rows.specs.Tables.{Tables}
use Rattle.hy_schema.specs.declared.refusal.Refusal.{Refusal}
use Rattle.hy_schema.specs.declared.refusal.Refusal.TheVariants as refusals
use Rattle.hy_commands.specs.declared.command.Command.{Command}
use Rattle.hy_commands.specs.declared.command.Commit.{Commit}
use Rattle.hy_commands.specs.declared.command.Commit.TheVariants as commits
use Rattle.hy_commands.specs.declared.edition.Edition.{Edition}
use Rattle.hy_commands.specs.Commands.{edition_of, home_of}
use Rattle.hy_commands.specs.Parts.{Database, by_number, is_there, part_unless, refusal_in, rows_of}
use Rattle.hy_commands.specs.Transactions.{act, outcome_of, refusal_of}
use Rattle.hy_commands.proofs.AcceptedLaws.{accepted-in, accepted-not_refused}
use Rattle.hy_commands.proofs.NamedLaws.{named-accepted, named-home}
use Rattle.hy_database.specs.Database.{committed_in, parts_done}
use Rattle.hy_database.proofs.EachLaws.{length-each, rows_of-each}
use Rattle.hy_database.proofs.PartLaws.{accepted-part, by_number-home, by_number-warehouses, part-unnamed}

-- each warehouse has its part of a command, whose home is there, or is as it was
pub record Does (database after : Database) (refusal : Option Refusal) (edition : Edition) (command : Command)
    : Type 0 where
  pub count : length after.warehouses ≡ length database.warehouses
  pub rows : (number : ℕ) → IsTrue (is_there database number)
      → rows_of number after ≡ part_unless refusal database.items number edition command (rows_of number database)
  pub home : refusal ≡ None → IsTrue (is_there database (home_of command))

-- ---- a command of several warehouses

does-parts : (database : Database) (edition : Edition) (command : Command) (refusal : Option Refusal)
    → refusal_in database command ≡ refusal
    → Does database (parts_done refusal edition command database) refusal edition command
does-parts database edition command (Some why) is = record {
  count = refl;
  rows = λ number there. refl;
  home = λ none. absurd (cc);
}
does-parts database edition command None is = record {
  count = length-each _ 1 database.warehouses;
  rows = λ number there. rows_of-each _ database number there;
  home = λ none. named-home (is_there database) command (accepted-in database command is).named;
}

-- ---- a command of one

module _ (database : Database) (command : Command) where
  abbrev home : ℕ
  home = home_of command

  abbrev home_rows : Tables
  home_rows = rows_of home database

  -- why it changes nothing
  abbrev local_refusal : Option Refusal
  local_refusal =
      cond (is_there database home) (refusal_of database.items home command home_rows) (Some refusals.NoSuchWarehouse)

  abbrev numbered : Command
  numbered = by_number home_rows command

  accepted-local : local_refusal ≡ None
      → IsTrue (is_there database home) × (refusal_of database.items home command home_rows ≡ None)
  accepted-local none = by (is_there database home) _ none
    where
      by : (there : Bool) (refusal : Option Refusal) → cond there refusal (Some refusals.NoSuchWarehouse) ≡ None
          → (there ≡ true) × (refusal ≡ None)
      by true refusal none = (refl, none)
      by false refusal none = absurd (cc)

  local-home : (edition : Edition) → IsTrue (is_there database home)
      → (act database.items home edition command home_rows).tables
      ≡ part_unless local_refusal database.items home edition numbered home_rows
  local-home edition there =
      by (refusal_of database.items home command home_rows) refl
      ∙ ap (λ b. part_unless (cond b (refusal_of database.items home command home_rows) (Some refusals.NoSuchWarehouse))
      database.items home edition numbered home_rows) (sym there)
    where
      by : (refusal : Option Refusal) → refusal_of database.items home command home_rows ≡ refusal
          → (outcome_of refusal database.items home edition command home_rows).tables
          ≡ part_unless refusal database.items home edition numbered home_rows
      by (Some why) is = refl
      by None is = accepted-part database.items home edition command home_rows
          (accepted-not_refused database.items home command home_rows is)

  local-elsewhere : (edition : Edition) (number : ℕ) (tables : Tables) → (home == number) ≡ false
      → tables ≡ part_unless local_refusal database.items number edition numbered tables
  local-elsewhere edition number tables other = by local_refusal refl
    where
      by : (refusal : Option Refusal) → local_refusal ≡ refusal
          → tables ≡ part_unless refusal database.items number edition numbered tables
      by (Some why) is = refl
      by None is =
          let alone = named-accepted database.items home command home_rows (accepted-local is).1 in
          sym (part-unnamed database.items number edition numbered tables
          (ap (list_any (λ named. named == number)) (by_number-warehouses command home_rows ∙ alone)
          ∙ ap (λ b. b || false) other))

  does-local : (edition : Edition)
      → Does database (committed_in database (commits.Local edition command)) local_refusal edition numbered
  does-local edition = record {
    count = length-each _ 1 database.warehouses;
    rows = λ number there.
        let now : Tables = rows_of number database in
        rows_of-each _ database number there
        ∙ elim (cases_eq home number) [
          | inl same ↦
              ap (λ b. cond b (act database.items number edition command now).tables now) (eq-eqb home number same)
              ∙ subst (λ n. IsTrue (is_there database n)
              → (act database.items n edition command (rows_of n database)).tables
              ≡ part_unless local_refusal database.items n edition numbered (rows_of n database)) same
              (local-home edition) there
          | inr apart ↦
              ap (λ b. cond b (act database.items number edition command now).tables now) (ne_eqb home number apart)
              ∙ local-elsewhere edition number now (ne_eqb home number apart)
        ];
    home = λ none. ap (is_there database) (by_number-home command home_rows) ∙ (accepted-local none).0;
  }

-- ---- each commit
pub does-committed : (database : Database) (commit : Commit)
    → (refusal : Option Refusal) × (command : Command)
    × Does database (committed_in database commit) refusal (edition_of commit) command
does-committed database (commits.Local edition command) =
    (local_refusal database command, numbered database command, does-local database command edition)
does-committed database (commits.Cross edition number command) =
    (refusal_in database command, command, does-parts database edition command (refusal_in database command) refl)
