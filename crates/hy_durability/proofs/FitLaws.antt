-- What enters a serial list can be run again on the load.
use Rattle.std.proofs.Common.{◌≡◌, ℕ, Bool, true, false, cond, List, [], ◌∷◌, length, map, None, is_none, refl, sym, ap, ◌∙◌}
use Rattle.std.specs.Prelude.{nat_lt}
use Rattle.std.proofs.lemmas.List.Elements.{All-cons, All-nil}
use Rattle.hy_rows.specs.Tables.{Lists}
use Rattle.hy_passes.specs.declared.entry.Entry.{Entry}
use Rattle.hy_commands.specs.declared.command.Command.{Command}
use Rattle.hy_commands.specs.declared.command.Commit.{Commit}
use Rattle.hy_commands.specs.declared.command.Commit.TheVariants as commits
use Rattle.hy_commands.specs.declared.edition.Edition.{Edition}
use Rattle.hy_commands.specs.declared.edition.Edition.TheVariants as editions
use Rattle.hy_commands.specs.Commands.{is_reader, kept_of, warehouses_of}
use Rattle.hy_commands.specs.Parts.{Database, database_of, is_by_number, refusal_in}
use Rattle.hy_commands.specs.Replay.{HasWarehouse, rows_after}
use Rattle.hy_commands.specs.Transactions.{refusal_of}
use Rattle.hy_database.specs.Database.{customer_rows, kept_in}
use Rattle.hy_database.proofs.PartLaws.{same-numbered}
use Rattle.hy_commands.specs.inside.Kinds.{by_payment}
use Rattle.hy_database.proofs.KeptLaws.{kept-accepted}
use Rattle.hy_partition.proofs.KnownLaws.{known-local as unrefused}
use Rattle.hy_sound.specs.Sound.{is_known}
use Rattle.hy_forks.proofs.FitsLaws.{AreFit, IsFit}
use Rattle.hy_commands.proofs.NamedLaws.{several-writes}

-- ---- of one warehouse

-- what a warehouse accepts behind any commits, the database of the load refuses for no reason
pub known-local : (lists : Lists) (number : ℕ) (kept : List Commit) (command : Command) → HasWarehouse lists number
    → refusal_of lists.items number command (rows_after lists number kept) ≡ None → is_known lists command ≡ true
known-local lists number kept command there none = ap is_none (unrefused lists number kept command there none)

-- so what it enters can be run again
pub entered-fit : (lists : Lists) (edition : Edition) (command : Command) (stamp : ℕ) → edition ≡ editions.Second
    → is_known lists command ≡ true
    → AreFit lists (map (λ commit. record { commit = commit; stamp = stamp }) (kept_of edition command))
entered-fit lists edition command stamp second known = by (is_reader command) refl
  where
    by : (reads : Bool) → is_reader command ≡ reads
        → AreFit lists
        (map (λ commit. record { commit = commit; stamp = stamp }) (cond reads [] (commits.Local edition command ∷ [])))
    by true is = All-nil (λ (entry : Entry Commit). IsFit lists entry.commit)
    by false is =
        All-cons (λ (entry : Entry Commit). IsFit lists entry.commit)
        (record { commit = commits.Local edition command; stamp = stamp }) []
        (record { edition = second; known = known; writes = is; payer = refl })
        (All-nil (λ (entry : Entry Commit). IsFit lists entry.commit))

-- ---- of several warehouses

reads-kept : (database : Database) (command : Command) → is_reader (kept_in database command) ≡ is_reader command
reads-kept database =
    by_payment (λ command. is_reader (kept_in database command) ≡ is_reader command) (λ payment. refl)
    (λ command nobody. ap is_reader (same-numbered command nobody (customer_rows command database)))

numbered-kept : (database : Database) (command : Command) → is_by_number (kept_in database command) ≡ true
numbered-kept database =
    by_payment (λ command. is_by_number (kept_in database command) ≡ true) (λ payment. refl)
    (λ command nobody. ap is_by_number (same-numbered command nobody (customer_rows command database)) ∙ nobody.by_number)

-- what is kept of an accepted command can be run again, where the database refuses what the load refuses
pub crossing-fit : (lists : Lists) (database : Database) (edition : Edition) (number : ℕ) (command : Command)
    → ((other : Command) → refusal_in database other ≡ refusal_in (database_of lists) other)
    → edition ≡ editions.Second → nat_lt 1 (length (warehouses_of command)) ≡ true → refusal_in database command ≡ None
    → IsFit lists (commits.Cross edition number (kept_in database command))
crossing-fit lists database edition number command same second several none = record {
  edition = second;
  known = ap is_none (sym (same (kept_in database command)) ∙ kept-accepted database command none);
  writes = reads-kept database command ∙ several-writes command several;
  payer = numbered-kept database command;
}
