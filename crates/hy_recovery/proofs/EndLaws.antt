-- The end of a recovery: the replay ends in all partitions, and why there is none.
use Rattle.std.proofs.Common.{◌≡◌, ℕ, zero, suc, List, [], ◌∷◌, ◌++◌, take, Err, None, inl, inr, refl, sym, ap, ◌∙◌, subst, append_assoc}
use Rattle.std.specs.Prelude.{slice_get}
use mathlib.Core.List.{IsPrefix}
use Rattle.std.proofs.lemmas.List.Concat.{flat_map-cons}
use Rattle.hy_rows.specs.Tables.{Lists}
use Rattle.hy_schema.specs.declared.refusal.Refusal.{Refusal}
use Rattle.hy_schema.specs.declared.refusal.Refusal.TheVariants as refusals
use Rattle.hy_passes.proofs.Beginnings.{begins_longer}
use Rattle.hy_commands.specs.declared.command.Commit.{Commit}
use Rattle.hy_batches.specs.Batches.{Batch}
use Rattle.hy_forks.specs.of_partition.Jobs.{Log}
use Rattle.hy_forks.specs.of_partition.Partition.{PartitionState}
use Rattle.hy_forks.specs.of_crossing.Crossings.{ArePartitions, HaveNoPart, IsPartition}
use Rattle.hy_forks.specs.of_crossing.Making.{IsWhyNoneMade}
use Rattle.hy_forks.proofs.of_crossing.InformLaws.{some-then}
use Rattle.hy_sound.specs.Sound.{IsSoundLog, Looks, list_at}
use Rattle.hy_recovery.specs.Recovering.{IsUnfit, IsWhyUnrecovered, LacksFrame, NoneAreTooMany, StopsAtCommit, joined}
use Rattle.hy_recovery.specs.inside.Ways.{Aim, AreThere, IsBound, IsShortage}

-- ---- the partitions are those of the load still

module _ (lists : Lists) (aim : Aim) (log : Log) (parts : List PartitionState) (there : AreThere lists aim log parts)
  where
    pub ended-partitions : ArePartitions lists parts
    ended-partitions = record {
      count = there.count;
      each = λ place. some-then (slice_get parts place) (IsBound lists aim [] place) (IsPartition lists (suc place))
          (there.each place) (λ p is. (ap (λ t. t.load) is.terms, ap (λ t. t.warehouse) is.terms));
    }

    pub ended-whole : HaveNoPart parts
    ended-whole place = some-then (slice_get parts place) (IsBound lists aim [] place) (λ p. p.part ≡ None)
        (there.each place) (λ p is. is.rest.part)

-- ---- why there is no recovery

-- all batches have more of each warehouse than the first of them
joined-more : (count : ℕ) (batches : List Batch) (place : ℕ)
    → (more : List Commit) × (joined batches place ≡ joined (take count batches) place ++ more)
joined-more zero batches place = (joined batches place, refl)
joined-more (suc count) [] place = ([], refl)
joined-more (suc count) (batch ∷ batches) place =
    let later = joined-more count batches place in (
      later.0,
      flat_map-cons (λ (batch : Batch). list_at batch.lists place) batch batches
          ∙ ap (λ rows. list_at batch.lists place ++ rows) later.1
          ∙ sym (append_assoc (list_at batch.lists place) (joined (take count batches) place) later.0)
          ∙ ap (λ rows. rows ++ later.0)
          (sym (flat_map-cons (λ (batch : Batch). list_at batch.lists place) batch (take count batches))),
    )

module _ (n : ℕ) (lists : Lists) (frames : ℕ) (batches : List Batch) where
  -- a commit of the first of the batches is one of all
  pub stops-more : (count : ℕ) → StopsAtCommit n lists frames (joined (take count batches)) → LacksFrame n lists frames batches
  stops-more count stops = inr record {
    kept = stops.kept;
    begun = λ place within. wider (stops.kept place) place (stops.begun place within);
    commit = stops.commit;
    home = stops.home;
    next = wider (stops.kept stops.home ++ stops.commit ∷ []) stops.home stops.next;
    grows = stops.grows;
    place = stops.place;
    within = stops.within;
    own = stops.own;
    full = stops.full;
  }
    where
      wider : (front : List Commit) (place : ℕ) → IsPrefix front (joined (take count batches) place)
          → IsPrefix front (joined batches place)
      wider front place begins =
          let more = joined-more count batches place in
          subst (IsPrefix front) (sym more.1) (begins_longer front (joined (take count batches) place) more.0 begins)

  pub unmade-lacks : (why : Refusal) → IsWhyNoneMade n lists frames why → IsShortage (LacksFrame n lists frames batches) why
  unmade-lacks why (inl frame) = inl (frame.0, inl frame.1)
  unmade-lacks why (inr memory) = inr memory

module _ (lists : Lists) (batches : List Batch) (most : ℕ) where
  -- looking found why
  pub looking-why : (why : Refusal) → Looks lists batches (Err why) → IsUnfit lists batches most why
  looking-why (refusals.LogMalformed place) found = found
  looking-why refusals.NoMemory found = absurd found
  looking-why refusals.NoFrame found = absurd found
  looking-why refusals.HistoryFull found = absurd found
  looking-why refusals.NoSuchWarehouse found = absurd found
  looking-why refusals.NoSuchDistrict found = absurd found
  looking-why refusals.NoSuchCustomer found = absurd found
  looking-why refusals.NoSuchItem found = absurd found
  looking-why refusals.OutOfRange found = absurd found
  looking-why refusals.Busy found = absurd found
  looking-why refusals.NotRunning found = absurd found
  looking-why refusals.NotMine found = absurd found
  looking-why (refusals.BadLoad fault) found = absurd found
  looking-why (refusals.BadQuery place) found = absurd found
  looking-why refusals.LogFailed found = absurd found
  looking-why refusals.Closed found = absurd found
  looking-why refusals.QueueFull found = absurd found

module _ (n : ℕ) (lists : Lists) (frames : ℕ) (batches : List Batch) (most : ℕ) where
  -- where all batches are sound and fit, a frame or memory lacks
  pub lacking-why : (why : Refusal) → IsSoundLog lists batches → NoneAreTooMany lists batches most
      → IsShortage (LacksFrame n lists frames batches) why → IsWhyUnrecovered n lists frames batches most why
  lacking-why why sound few (inl frame) =
      subst (λ (why : Refusal). IsWhyUnrecovered n lists frames batches most why) (sym frame.0) (sound, few, frame.1)
  lacking-why why sound few (inr memory) =
      subst (λ (why : Refusal). IsWhyUnrecovered n lists frames batches most why) (sym memory) (sound, few)

  -- batches that are unfit
  pub unfit-why : (why : Refusal) → IsUnfit lists batches most why → IsWhyUnrecovered n lists frames batches most why
  unfit-why (refusals.LogMalformed place) found = found
  unfit-why refusals.NoMemory found = absurd found
  unfit-why refusals.NoFrame found = absurd found
  unfit-why refusals.HistoryFull found = found
  unfit-why refusals.NoSuchWarehouse found = absurd found
  unfit-why refusals.NoSuchDistrict found = absurd found
  unfit-why refusals.NoSuchCustomer found = absurd found
  unfit-why refusals.NoSuchItem found = absurd found
  unfit-why refusals.OutOfRange found = absurd found
  unfit-why refusals.Busy found = absurd found
  unfit-why refusals.NotRunning found = absurd found
  unfit-why refusals.NotMine found = absurd found
  unfit-why (refusals.BadLoad fault) found = absurd found
  unfit-why (refusals.BadQuery place) found = absurd found
  unfit-why refusals.LogFailed found = absurd found
  unfit-why refusals.Closed found = absurd found
  unfit-why refusals.QueueFull found = absurd found
