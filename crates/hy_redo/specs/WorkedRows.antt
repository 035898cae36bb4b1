-- Calls of a log, by hand. Its batches are a payment of 1.00 in warehouse 1 of two: 43 bytes each.
use Rattle.std.specs.Prelude.{ℕ, Bool, true, false, List, [], ◌++◌, take, drop, Ok, Err, refl}
use Rattle.hy_schema.specs.declared.refusal.Refusal.TheVariants as refusals
use Rattle.hy_commands.specs.declared.edition.Edition.TheVariants as editions
use Rattle.hy_batches.specs.Encoding.{number_bytes}
use Rattle.hy_batches.specs.WorkedBatches.{framed, framed_second, sample, sample_by, sample_content}
use Rattle.hy_redo.specs.Calls.{Answers, LogState}

-- a log whose writer took these bytes, with so many synced, and failed so often
abbrev pub log : List ℕ → ℕ → ℕ → Bool → LogState
log written synced failures has_failed =
    record { told = record { written = written; synced = synced; failures = failures }; has_failed = has_failed }

-- the bytes of one batch of the first edition, and of one of the second
abbrev pub one : List ℕ
one = framed 30 sample_content 69

abbrev pub second : List ℕ
second = framed_second 30 sample_content 69

-- an acknowledged batch: its 43 bytes are there and synced
first_batch : Answers (log [] 0 0 false) (log one 43 0 false) sample (Ok tt)
unfolding number_bytes
first_batch = refl

-- and one of the second edition behind it
second_edition : Answers (log one 43 0 false) (log (one ++ second) 86 0 false) (sample_by editions.Second) (Ok tt)
unfolding number_bytes
second_edition = refl

-- the writer fails behind 20 bytes of the second: it is refused, and the first stays synced
cut_short : Answers (log one 43 0 false) (log (one ++ take 20 one) 43 1 true) sample (Err refusals.LogFailed)
unfolding number_bytes
cut_short = record { refused = refl; front = take 20 one; begins = (drop 20 one, refl); changed = refl }

-- behind a failure no batch is acknowledged, also where all of it is written and synced
not_acknowledged : Answers (log one 43 1 true) (log (one ++ one) 86 1 true) sample (Ok tt) → ⊥
not_acknowledged answers = answers
