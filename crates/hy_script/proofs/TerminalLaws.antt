-- What a call on one partition did, by whether it was refused.
use Rattle.std.proofs.Common.{◌≡◌, ◌<◌, ℕ, List, None, Result, Ok, Err, ap, length, subst, sym}
use Rattle.std.specs.Prelude.{IfSome, MatchResult, slice_get, slice_index_or}
use Rattle.hy_schema.specs.declared.refusal.Refusal.{Refusal}
use Rattle.hy_schema.specs.declared.refusal.Refusal.TheVariants as refusals
use Rattle.hy_frames.specs.FrameTable.{IsLimitFor, free_of}
use Rattle.hy_space.specs.Space.{SameForChildren}
use Rattle.hy_session.specs.of_partition.Jobs.{JobState}
use Rattle.hy_session.specs.of_partition.Partition.{PartitionState}
use Rattle.hy_session.specs.of_partition.Steps.{IsUnbegun, KeepsJob, begin_refusal, with_job}
use Rattle.hy_session.proofs.of_crossing.PlaceLaws.{held-at, holds-at}
use Rattle.hy_session.specs.of_forks.Partitions as forks
use Rattle.hy_session.specs.of_forks.Partitions.{TriesToBegin, TriesToLimit}
use Rattle.hy_script.specs.declared.terminal.Terminal.{Terminal}
use Rattle.hy_script.specs.inside.Invariants.{IsServed, IsServedAt}

-- a job was begun, or not
pub tried-begin : (job : JobState) (result : Result (Unit {0}) (JobState × Refusal)) (p q : PartitionState)
    → TriesToBegin job result p q
    → MatchResult result (λ done. (begin_refusal p job.command ≡ None) × (q ≡ with_job p job))
    (λ refused. IsUnbegun p job.command refused.1 × (q ≡ p))
tried-begin job (Ok tt) p q (forks.begun done accepted after) = (accepted, after)
tried-begin job (Ok tt) p q (forks.unbegun why failed reason same) = absurd (cc)
tried-begin job (Err refused) p q (forks.begun done accepted after) = absurd (cc)
tried-begin job (Err refused) p q (forks.unbegun why failed reason same) =
    let this : refused ≡ (job, why) = cc in
    (subst (λ (it : Refusal). IsUnbegun p job.command it) (ap (λ pair. pair.1) (sym this)) reason, same)

-- a limit was set, or not
pub tried-limit : (max : ℕ) (result : Result (Unit {0}) Refusal) (p q : PartitionState) → TriesToLimit max result p q
    → MatchResult result (λ done. IsLimitFor p.space.frames max × (q.space.frames.max ≡ max) × KeepsJob p q
    × (q.seen ≡ p.seen) × (q.snapshots ≡ p.snapshots) × SameForChildren p.space q.space)
    (λ why. (why ≡ refusals.OutOfRange) × (¬ IsLimitFor p.space.frames max) × (q ≡ p))
tried-limit max (Ok tt) p q (forks.limited done allowed is job seen snapshots children) =
    (allowed, is, job, seen, snapshots, children)
tried-limit max (Ok tt) p q (forks.unlimited failed none same) = absurd (cc)
tried-limit max (Err why) p q (forks.limited done allowed is job seen snapshots children) = absurd (cc)
tried-limit max (Err why) p q (forks.unlimited failed none same) = (cc, none, same)

-- a terminal serves its partition, and so many frames are free
abbrev pub FindsFree : {K : Type 0} → Terminal K → ℕ → PartitionState → Type 0
FindsFree terminal free p = IsServed p terminal × (free ≡ free_of p.space.frames)

pub finds-free : {K : Type 0} (terminal : Terminal K) (free place : ℕ) (parts : List PartitionState) (p : PartitionState)
    → place < length parts → p ≡ slice_index_or parts place p → IsServedAt parts place terminal
    → free ≡ free_of p.space.frames → IfSome (slice_get parts place) (FindsFree terminal free)
finds-free terminal free place parts p within is served here =
    held-at (FindsFree terminal free) parts place p within is
    (holds-at (λ p. IsServed p terminal) parts place p within is served, here)
