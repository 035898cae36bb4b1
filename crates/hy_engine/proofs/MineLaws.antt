-- Snapshots that were just forked can be closed by whoever has the partitions of the load.
use Rattle.std.proofs.Common.{◌≡◌, ◌∙◌, ◌⊎◌, ◌↔◌, true, false, inl, inr, List, Result, Ok, Err, IfOk, IfErr, ap, sym}
use Rattle.std.proofs.lemmas.Bool.{true≢false}
use Rattle.hy_rows.specs.Tables.{Lists}
use Rattle.hy_schema.specs.declared.refusal.Refusal.{Refusal}
use Rattle.hy_schema.specs.declared.refusal.Refusal.TheVariants as refusals
use Rattle.hy_redo_drains.specs.of_partition.Partition.{PartitionState}
use Rattle.hy_redo_drains.specs.of_partition.Snapshots.{SnapshotState}
use Rattle.hy_redo_drains.specs.of_crossing.Crossings.{ArePartitions}
use Rattle.hy_redo_drains.specs.of_forks.Forks.{IsWhyUnforked, are_from}
use Rattle.hy_redo_drains.specs.of_forks.Origins.{Origin}
use Rattle.hy_redo_drains.proofs.of_forks.ForkedLaws.{are_from-others}
use Rattle.hy_engine.specs.Engines.{AreMine, EngineState, IsWhyNotAgain, IsWhyUnseen, unforked}

pub mine-of : (kit : Origin) (lists : Lists) (news : List PartitionState) (result : Result (List SnapshotState) Refusal)
    → ArePartitions lists news → IfOk result (λ all. are_from kit all news ≡ true) → IfOk result (AreMine kit lists)
mine-of kit lists news (Ok all) are own = λ others those. are_from-others kit lists all news others are those own
mine-of kit lists news (Err why) are own = tt

-- why there are none
pub not-again : (kit : Origin) (lists : Lists) (engine : EngineState) (others : List SnapshotState) (parts : List PartitionState)
    (result : Result (List SnapshotState) Refusal) → ArePartitions lists parts
    → (result ≡ Err refusals.NotMine ↔ (are_from kit others parts ≡ false))
    → IfErr result (λ why. (why ≡ refusals.NotMine) ⊎ (why ≡ refusals.NoMemory))
    → IfErr result (IsWhyNotAgain kit lists engine others)
not-again kit lists engine others parts (Ok all) are mine why = tt
not-again kit lists engine others parts (Err why) are mine (inl is) =
    inl (is, λ own. true≢false (sym (own parts are) ∙ mine.0 (ap Err is)))
not-again kit lists engine others parts (Err why) are mine (inr memory) = inr (inr memory)

-- why there is none for a client
pub unseen : (lists : Lists) (engine : EngineState) (parts : List PartitionState) (result : Result (List SnapshotState) Refusal)
    → ArePartitions lists parts → IfErr result (IsWhyUnforked parts) → IfErr result (IsWhyUnseen lists engine)
unseen lists engine parts (Ok all) are why = tt
unseen lists engine parts (Err refusal) are why = unforked parts are why
