-- What is said of the answer to a fork.
use Rattle.std.proofs.Common.{◌≡◌, ◌⊎◌, ◌↔◌, ◌<◌, Ok, Err, inl, inr, ap}
use Rattle.std.specs.Prelude.{IfErr, IfOk, OnErr, Result}
use Rattle.hy_schema.specs.declared.refusal.Refusal.{Refusal}
use Rattle.hy_schema.specs.declared.refusal.Refusal.TheVariants as refusals
use Rattle.hy_frames.specs.FrameTable.{free_of}
use Rattle.hy_undo.specs.Touched.{touched}
use Rattle.hy_crossing.specs.of_partition.Partition.{PartitionState}
use Rattle.hy_crossing.specs.of_partition.Steps.{StaysUnforked}
use Rattle.hy_forks.specs.inside.Places.{RefusesFork}

pub ok-map : {T E : Type 0} (F G : T → Type 0) (result : Result T E) → ((value : T) → F value → G value) → IfOk result F
    → IfOk result G
ok-map F G (Ok value) leads holds = leads value holds
ok-map F G (Err error) leads holds = tt

pub ok-both : {T E : Type 0} (F G H : T → Type 0) (result : Result T E)
    → ((value : T) → F value → G value → H value) → IfOk result F → IfOk result G → IfOk result H
ok-both F G H (Ok value) leads one other = leads value one other
ok-both F G H (Err error) leads one other = tt

pub err-holds : {T E : Type 0} (P : Type 0) (result : Result T E) → P → OnErr result P
err-holds P (Ok value) holds = tt
err-holds P (Err error) holds = holds

-- why a partition wasn't forked
pub refuses-fork : {T : Type 0} (G : Refusal → Type 0) (result : Result T Refusal) (old new : PartitionState)
    → (result ≡ Err refusals.NoFrame ↔ (free_of old.space.frames < touched old.undo))
    → IfErr result (λ why. (why ≡ refusals.NoFrame) ⊎ (why ≡ refusals.NoMemory)) → OnErr result (StaysUnforked old new)
    → ((why : Refusal) → RefusesFork why old new → G why) → IfErr result G
refuses-fork G (Ok value) old new lacks reason stays leads = tt
refuses-fork G (Err why) old new lacks (inl is) stays leads =
    leads why (record { reason = inl (is, lacks.0 (ap Err is)); stays = stays })
refuses-fork G (Err why) old new lacks (inr is) stays leads = leads why (record { reason = inr is; stays = stays })
