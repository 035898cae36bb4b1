-- What a stop may leave, and what no call does, by hand.
use Rattle.std.proofs.Common.{◌≡◌, ℕ, zero, suc, ◌≤◌, true, false, List, [], ◌∷◌, ◌++◌, length, take, Ok, Err, refl, sym, ap, arith, lit≤}
use Rattle.std.specs.Prelude.{slice_index}
use Rattle.std.proofs.lemmas.Bool.{false≢true}
use Rattle.std.proofs.lemmas.List.{length-take}
use Rattle.hy_schema.specs.declared.refusal.Refusal.TheVariants as refusals
use Rattle.hy_commands.specs.declared.edition.Edition.TheVariants as editions
use Rattle.hy_batches.specs.Batches.{Batch}
use Rattle.hy_batches.specs.Encoding.{number_bytes}
use Rattle.hy_batches.specs.Grammar.{are_batches}
use Rattle.hy_batches.specs.Logs.{IsLog}
use Rattle.hy_batches.specs.WorkedBatches.{sample, sample_by}
use Rattle.hy_batches.proofs.LogLaws.{log_is_read}
use Rattle.hy_redo.specs.Calls.{Answers}
use Rattle.hy_redo.specs.Disk.{MayLeave, ReadsFirst}
use Rattle.hy_redo.specs.Writers.{Told}
use Rattle.hy_redo.specs.WorkedRows.{log, one, second}

-- a writer that took two batches, of which the first is synced
abbrev two : Told
two = record { written = one ++ one; synced = 43; failures = 0 }

-- a stop may leave the first and 20 bytes of the second
within_second : MayLeave two two (take 63 (one ++ one))
within_second = (63, lit≤ tt, refl)

-- and never less than the first
short_of : (size : ℕ) → 43 ≤ size → length (take size (one ++ one)) ≡ 42 → ⊥
short_of size least same = let long = length-take size (one ++ one) in omega arith

within_first : MayLeave two two (take 42 (one ++ one)) → ⊥
within_first left = short_of left.0 left.1 (sym (ap length left.2))

-- behind a failure a refused call writes nothing
writes_on : Answers (log one 43 1 true) (log (one ++ one) 43 1 true) sample (Err refusals.LogFailed) → ⊥
writes_on answers = let same = ap (λ state. length state.told.written) answers.1 in omega arith

-- nor does an acknowledged batch of the second edition stand there with the bytes of the first
other_edition : Answers (log [] 0 0 false) (log one 43 0 false) (sample_by editions.Second) (Ok tt) → ⊥
unfolding number_bytes
other_edition answers = let same = ap (λ state. slice_index state.told.written 3) answers in omega arith

-- ---- batches of both editions

-- of one of the first and one of the second, a stop within the second leaves the first
abbrev both : List Batch
both = sample ∷ sample_by editions.Second ∷ []

within_both : IsLog (take 63 (one ++ second)) (sample ∷ []) (take 20 second)
unfolding number_bytes
within_both = record { spelled = refl; whole = refl; ended = refl }

first_is_read : ReadsFirst both 1 (take 63 (one ++ second))
first_is_read =
    (1, take 20 second, lit≤ tt, within_both, λ read by. log_is_read _ (sample ∷ []) (take 20 second) read within_both by)

-- and one behind them leaves both
behind_both : IsLog (one ++ second) both []
unfolding number_bytes
behind_both = record { spelled = refl; whole = refl; ended = refl }

both_are_read : ReadsFirst both 2 (one ++ second)
both_are_read = (2, [], lit≤ tt, behind_both, λ read by. log_is_read (one ++ second) both [] read behind_both by)

-- the other way round both aren't read, though each is a batch: so the theorem asks that an edition never falls
abbrev falling : List Batch
falling = sample_by editions.Second ∷ sample ∷ []

falls : (count : ℕ) → 2 ≤ count → are_batches (take count falling) ≡ true → ⊥
falls zero few whole = absurd (omega arith)
falls (suc zero) few whole = absurd (omega arith)
falls (suc (suc count)) few whole = false≢true whole

falling_is_not_read : ReadsFirst falling 2 (second ++ one) → ⊥
falling_is_not_read reads = falls reads.0 reads.2 reads.3.whole
