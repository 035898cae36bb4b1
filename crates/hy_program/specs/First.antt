-- What `first` does: one payment on the generated warehouse of three customers a district.
use Rattle.std.specs.Prelude.{◌≡◌, ◌⊎◌, ℕ, ℤ, Option, None, Some, List, [], ◌∷◌, ◌++◌, codes, map}
use Rattle.std.specs.Fmt.{signed_decimal}
use Rattle.std.specs.Io.KnownBytes.{Appends}
use Rattle.hy_commands.specs.declared.command.Command.{Command}
use Rattle.hy_commands.specs.declared.command.Command.TheVariants as commands
use Rattle.hy_commands.specs.declared.command.Payment.{Payment}
use Rattle.hy_commands.specs.declared.command.Who.TheVariants as who
use Rattle.hy_commands.specs.Transactions.{act, refusal_of}
use Rattle.hy_commands.specs.declared.command.Commit.TheVariants as commits
use Rattle.hy_commands.specs.declared.edition.Edition.TheVariants as editions
use Rattle.hy_rows.specs.Tables.{Tables}
use Rattle.hy_schema.specs.declared.refusal.Refusal.{Refusal}
use Rattle.hy_schema.specs.declared.refusal.Refusal.TheVariants as refusals
use Rattle.hy_recovery.specs.of_partition.Jobs.{RunningJob}
use Rattle.hy_commands.specs.Commands.{slice_count}
use Rattle.hy_recovery.specs.of_partition.Steps.{begin_refusal}
use Rattle.hy_rows.specs.Spelling.{tables_of}
use Rattle.hy_recovery.specs.of_partition.Partition.{PartitionState, refusal_now, terms_of}
use Rattle.hy_recovery.specs.of_partition.Snapshots.{SnapshotState}
use Rattle.hy_undo.specs.UndoLog.{empty_log}
use Rattle.hy_program.specs.declared.fault.RunFault.{RunFault}
use Rattle.hy_program.specs.declared.fault.RunFault.TheVariants as fault
use Rattle.hy_program.specs.Generated.{generated, generated_items}

-- customer 1 of district 1 pays an amount there, at moment 1
abbrev pub first_payment : ℕ → Payment
first_payment amount = record {
  warehouse = 1;
  district = 1;
  customer_warehouse = 1;
  customer_district = 1;
  who = who.Number 1;
  amount = amount;
  at = 1;
}

abbrev pub first_command : ℕ → Command
first_command amount = commands.Payment (first_payment amount)

-- W_YTD of each warehouse of some rows
abbrev pub ytds_of : Tables → List ℤ
ytds_of tables = map (λ row. row.ytd) tables.warehouses

-- W_YTD of each warehouse after the payment
abbrev pub ytds_after : ℕ → List ℤ
ytds_after amount = ytds_of (act (generated_items 3) 1 editions.Second (first_command amount) (generated 3)).tables

-- W_YTD of each warehouse of a snapshot with pages of 4,096 bytes
abbrev pub ytds : SnapshotState → List ℤ
ytds snapshot = ytds_of (tables_of 4_096 snapshot.bytes)

-- the command has two slices, and none of them is done
abbrev pub HasTwoSlices : RunningJob → Type 0
HasTwoSlices job = (slice_count job.command ≡ 2) × (job.slices ≡ 0)

-- a payment was accepted and kept as one of the second edition, and nothing else
pub record IsPaid (payment : Payment) (old new : PartitionState) : Type 0 where
  pub accepted : refusal_now old (commands.Payment payment) ≡ None
  pub terms : terms_of new ≡ terms_of old
  pub idle : new.running ≡ None
  pub undo : new.undo ≡ empty_log new.space
  pub kept : new.kept ≡ old.kept ++ commits.Local editions.Second (commands.Payment payment) ∷ []

-- why the warehouse refuses the payment
abbrev pub first_refusal_of : ℕ → Option Refusal
first_refusal_of amount = refusal_of (generated_items 3) 1 (first_command amount) (generated 3)

-- the payment is accepted, and W_YTD of the one warehouse is this after it
abbrev pub IsYtdAfter : ℕ → ℤ → Type 0
IsYtdAfter amount ytd = (first_refusal_of amount ≡ None) × (ytds_after amount ≡ ytd ∷ [])

-- why the payment of `first` isn't done: the warehouse refuses it, or memory or the frames run out
abbrev pub IsFirstRefusal : ℕ → Refusal → Type 0
IsFirstRefusal amount refusal =
    (first_refusal_of amount ≡ Some refusal) ⊎ (refusal ≡ refusals.NoMemory)
    ⊎ (refusal ≡ refusals.NoFrame)

-- why a payment isn't done: it isn't begun, or the warehouse refuses it, or memory or the frames run out
abbrev pub IsPayRefusal : PartitionState → Payment → Refusal → Type 0
IsPayRefusal p payment refusal =
    (begin_refusal p (commands.Payment payment) ≡ Some refusal)
    ⊎ (refusal_now p (commands.Payment payment) ≡ Some refusal)
    ⊎ (refusal ≡ refusals.NoMemory) ⊎ (refusal ≡ refusals.NoFrame)

-- the payment was done, and what W_YTD is after it stands behind the bytes that were there
abbrev pub IsFirstPrinted : ℕ → Option (List ℕ) → Option (List ℕ) → Type 0
IsFirstPrinted amount old new =
    (ytd : ℤ) × IsYtdAfter amount ytd × Appends old new (codes "ytd " ++ signed_decimal ytd ++ codes "\n")

-- why it isn't done: it is refused, before anything was printed; or the output failed
abbrev pub IsFirstFault : ℕ → Type 0 → RunFault → Type 0
IsFirstFault amount unprinted (fault.Refused refusal) = IsFirstRefusal amount refusal × unprinted
IsFirstFault amount unprinted (fault.Writer error) = first_refusal_of amount ≡ None
IsFirstFault amount unprinted why = ⊥
