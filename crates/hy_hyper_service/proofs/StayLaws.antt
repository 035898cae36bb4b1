-- What a stop leaves of a service's log.
use Rattle.std.proofs.Common.{◌≡◌, ◌≤◌, ◌<◌, ◌+◌, ℕ, zero, suc, false, List, [], ◌∷◌, ◌++◌, length, take, Some, Result, Ok, refl, sym, ap, subst, ◌∙◌, append-nil, arith}
use mathlib.Core.List.{IsPrefix}
use Rattle.std.proofs.lemmas.List.Concat.{flat_map-append}
use Rattle.hy_rows.specs.Tables.{Lists}
use Rattle.hy_schema.specs.declared.refusal.Refusal.{Refusal}
use Rattle.hy_batches.specs.Batches.{Batch}
use Rattle.hy_redo.specs.Calls.{acknowledged}
use Rattle.hy_redo.specs.Disk.{MayLeave}
use Rattle.hy_sound.specs.Sound.{list_at}
use Rattle.hy_redo_drains.specs.of_forks.Drains.{drained_of}
use Rattle.hy_redo_drains.specs.of_forks.Logged.{SaySame, joined}
use Rattle.hy_redo_drains.specs.of_partition.Partition.{projection_of}
use Rattle.hy_redo_drains.specs.Following.{DrainState, Follows, LeaveBeginnings, LeavesBeginning, all_of, due_of, least_of}
use Rattle.hy_redo_drains.proofs.FollowLaws.{not-failed}
use Rattle.hy_script.specs.Databases.{DatabaseState}
use Rattle.hy_hyper_service.specs.Keeping.{HandsBatch, IsKeptIn, LoggedState, nothing_due}

-- some rows begin the first of them and others, so many that they are among these
prefix-taken : {Row : Type 0} (rows more : List Row) (count : ℕ) → length rows ≤ count
    → IsPrefix rows (take count (rows ++ more))
prefix-taken [] more count enough = (take count more, refl)
prefix-taken (row ∷ rows) more zero enough = absurd (omega (arith, enough))
prefix-taken (row ∷ rows) more (suc count) enough =
    let later = prefix-taken rows more count (omega (arith, enough)) in
    (later.0, ap (λ rest. row ∷ rest) later.1)

joined-prefix : (batches others : List Batch) (place : ℕ) → IsPrefix batches others
    → IsPrefix (joined batches place) (joined others place)
joined-prefix batches others place begins = (
  joined begins.0 place,
  sym (flat_map-append (λ (batch : Batch). list_at batch.lists place) batches begins.0)
      ∙ ap (λ rows. joined rows place) begins.1,
)

-- a log that follows a serial list up to some place, and hasn't failed: what is left of it, and of a batch that is due behind
-- that, has all up to the place
module _ (lists : Lists) (kept : LoggedState) (follows : Follows lists (nothing_due kept.log kept.seen))
    (well : kept.log.has_failed ≡ false) where
  kept-in : (drains : DrainState) (left : List ℕ) (later : Follows lists drains) → later.batches ≡ follows.batches
      → least_of lists drains later ≡ length follows.was_handed.front + acknowledged follows.was_handed.calls
      → LeavesBeginning lists drains later left → IsKeptIn lists kept.seen left
  kept-in drains left later same least leaves =
      let enough : length follows.batches ≤ leaves.count =
      omega (
        arith,
        leaves.acknowledged,
        least,
        (not-failed follows.batches kept.log follows.was_handed well).1,
      ) in
      let said : (place : ℕ) → place < length lists.tables.warehouses
      → joined follows.batches place ≡ projection_of (suc place) kept.seen =
      λ place within. ap (λ rows. joined rows place) (sym (append-nil follows.batches))
      ∙ follows.same.joined_are place within in record {
        batches = take leaves.count (all_of lists drains later);
        rest = leaves.rest;
        log = leaves.log;
        reads = leaves.reads;
        sound = leaves.sound;
        kept = λ place within.
            subst (λ rows. IsPrefix rows (joined (take leaves.count (all_of lists drains later)) place)) (said place within)
            (joined-prefix follows.batches (take leaves.count (all_of lists drains later)) place
            (subst (λ rows. IsPrefix follows.batches (take leaves.count (rows ++ due_of drains.due))) (sym same)
            (prefix-taken follows.batches (due_of drains.due) leaves.count enough)));
      }

  pub between : LeaveBeginnings → (left : List ℕ) → MayLeave kept.log.told kept.log.told left
      → IsKeptIn lists kept.seen left
  between leave left stop =
      let drains = nothing_due kept.log kept.seen in
      kept-in drains left follows refl refl
      (leave lists drains drains (Ok tt) left follows
      (record { none = refl; seen = refl; written = (refl, refl) }) stop)

  pub within : LeaveBeginnings → (new : LoggedState) (before after : DatabaseState) (answer : Result (Unit {0}) Refusal)
      (left : List ℕ) → HandsBatch lists kept new before after answer → MayLeave kept.log.told new.log.told left
      → IsKeptIn lists kept.seen left
  within leave new before after answer left hands stop =
      let batch : Batch = drained_of kept.seen after.parts in
      let due : DrainState = record { log = kept.log; seen = new.seen; due = Some batch } in
      let later : Follows lists due = record {
        batches = follows.batches;
        was_handed = follows.was_handed;
        same = hands.goes_on follows.batches
            (subst (λ rows. SaySame lists rows kept.seen) (append-nil follows.batches) follows.same);
      } in
      kept-in due left later refl refl
      (leave lists due (nothing_due new.log new.seen) answer left later
      (record { none = refl; seen = refl; written = hands.answers }) stop)
