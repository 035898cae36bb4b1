-- A fork whose snapshot was closed again, or that was refused, leaves the partition as it was.
use Rattle.std.proofs.Common.{◌≡◌, ◌∙◌, ◌⊎◌, ℕ, zero, suc, List, [], ◌∷◌, ◌++◌, Option, None, Some, count_by, inl, inr, option_map, slice_index_or, ap, refl, sym}
use Rattle.std.specs.List.{flat_map}
use Rattle.std.specs.Prelude.{option_to_list}
use Rattle.std.proofs.lemmas.Bool.{cases_eq}
use mathlib.Core.List.{IsPrefix}
use Rattle.hy_worlds.specs.Origins.{Origin}
use Rattle.hy_frames.specs.FrameTable.{count_of}
use Rattle.hy_space.specs.Space.{CountsAreExact, SpaceState, child_bytes, child_table, maps}
use Rattle.hy_crossing.specs.of_partition.Jobs.{Log}
use Rattle.hy_crossing.specs.of_partition.Partition.{PartitionState, commits_of}
use Rattle.hy_crossing.specs.of_partition.Snapshots.{SnapshotState}
use Rattle.hy_crossing.specs.of_partition.Steps.{KeepsJob, KeepsOthers, StaysUnforked}
use Rattle.hy_forks.specs.Forks.{IsUnforked}
use Rattle.hy_forks.specs.inside.Places.{ClosesExactly, ForksExactly, ForksFromExactly}

keeps-then : (old middle new : PartitionState) → KeepsJob old middle → KeepsJob middle new → KeepsJob old new
keeps-then old middle new first next = record {
  terms = next.terms ∙ first.terms;
  kept = next.kept ∙ first.kept;
  book = next.book ∙ first.book;
  running = next.running ∙ first.running;
  part = next.part ∙ first.part;
  undo = next.undo ∙ first.undo;
  finished = next.finished ∙ first.finished;
  owner = record { table = next.owner.table ∙ first.owner.table; bytes = next.owner.bytes ∙ first.owner.bytes };
}

pub unforked-same : (log : Log) (p : PartitionState) → IsUnforked log p p
unforked-same log p = record {
  job = record {
    terms = refl;
    kept = refl;
    book = refl;
    running = refl;
    part = refl;
    undo = refl;
    finished = refl;
    owner = record { table = refl; bytes = refl };
  };
  seen = inl refl;
  snapshots = λ child. refl;
  tables = λ child. refl;
  bytes = λ child. refl;
  counts = λ f. refl;
  max_frames = refl;
}

pub unforked-stays : (log : Log) (old new : PartitionState) → StaysUnforked old new → IsUnforked log old new
unforked-stays log old new stays = record {
  job = stays.job;
  seen = inl stays.seen;
  snapshots = stays.snapshots;
  tables = stays.tables;
  bytes = stays.bytes;
  counts = stays.counts;
  max_frames = stays.max_frames;
}

-- ---- exact counts of the same tables are the same

abbrev no_values : (X : Type 0) → List (Option X)
no_values X = []

past-none : (X : Type 0) (place : ℕ) → slice_index_or (no_values X) place None ≡ None
past-none X zero = refl
past-none X (suc place) = refl

-- lists that agree at each place have the same values, however many places with none stand behind them
values-same : {X : Type 0} (old new : List (Option X))
    → ((place : ℕ) → slice_index_or new place None ≡ slice_index_or old place None)
    → flat_map option_to_list new ≡ flat_map option_to_list old
values-same [] [] same = refl
values-same {X} [] (one ∷ new) same =
    let first : one ≡ None = same zero in
    let later = values-same [] new (λ place. same (suc place) ∙ sym (past-none X place)) in
    rw first later
values-same {X} (one ∷ old) [] same =
    let first : None ≡ one = same zero in
    let later = values-same old [] (λ place. past-none X place ∙ same (suc place)) in
    rw (sym first) later
values-same (one ∷ old) (other ∷ new) same =
    let first : other ≡ one = same zero in
    rw first (ap (λ values. option_to_list one ++ values) (values-same old new (λ place. same (suc place))))

counts-same : (old new : SpaceState) → CountsAreExact old → CountsAreExact new → new.owner ≡ old.owner
    → ((child : ℕ) → child_table new child ≡ child_table old child)
    → (f : ℕ) → count_of new.frames f ≡ count_of old.frames f
counts-same old new old_exact new_exact owner tables f =
    new_exact f
    ∙ ap (λ (table : List (List ℕ)). count_by (maps f) (table ∷ flat_map option_to_list new.children)) owner
    ∙ ap (λ (children : List (List (List ℕ))). count_by (maps f) (old.owner ∷ children))
    (values-same old.children new.children tables) ∙ sym (old_exact f)

none-mapped : {A B : Type 0} (to : A → B) (value : Option A) → option_map to value ≡ None → value ≡ None
none-mapped to None is = refl
none-mapped to (Some x) is = absurd (cc)

-- ---- a snapshot was taken, and closed again

module _ (snapshot : SnapshotState) (old middle new : PartitionState) (exact : CountsAreExact old.space)
    (free : child_table old.space snapshot.child ≡ None) (fresh : commits_of old snapshot.child ≡ None)
    (others : KeepsOthers old middle snapshot.child) (taken : KeepsJob old middle)
    (limit : middle.space.frames.max ≡ old.space.frames.max) (closed : ClosesExactly snapshot middle new) where
  closed_table : child_table new.space snapshot.child ≡ None
  closed_table = none-mapped _ (child_table new.space snapshot.child) closed.closes.bytes

  tables : (child : ℕ) → child_table new.space child ≡ child_table old.space child
  tables child = elim (cases_eq child snapshot.child) [
    | inl same ↦ rw same (closed_table ∙ sym free)
    | inr other ↦ closed.closes.others.bytes.tables child other ∙ others.bytes.tables child other
  ]

  commits : (child : ℕ) → commits_of new child ≡ commits_of old child
  commits child = elim (cases_eq child snapshot.child) [
    | inl same ↦ rw same (closed.closes.commits ∙ sym fresh)
    | inr other ↦ closed.closes.others.commits child other ∙ others.commits child other
  ]

  was_closed : child_bytes old.space snapshot.child ≡ None
  was_closed = ap (option_map _) free

  bytes : (child : ℕ) → child_bytes new.space child ≡ child_bytes old.space child
  bytes child = elim (cases_eq child snapshot.child) [
    | inl same ↦ rw same (closed.closes.bytes ∙ sym was_closed)
    | inr other ↦ closed.closes.others.bytes.bytes child other ∙ others.bytes.bytes child other
  ]

  restored : (log : Log) → (new.seen ≡ old.seen) ⊎ ((new.seen ≡ log) × IsPrefix old.seen log) → IsUnforked log old new
  restored log seen =
      let job = keeps-then old middle new taken closed.closes.job in
      record {
        job = job;
        seen = seen;
        snapshots = commits;
        tables = tables;
        bytes = bytes;
        counts = counts-same old.space new.space exact closed.exact job.owner.table tables;
        max_frames = closed.closes.max_frames ∙ limit;
      }

-- by a fork
pub unforked-closed : (n : ℕ) (kit : Origin) (log known : Log) (snapshot : SnapshotState) (old middle new : PartitionState)
    → ForksExactly n kit log known snapshot old middle → ClosesExactly snapshot middle new → IsUnforked log old new
unforked-closed n kit log known snapshot old middle new forked closed =
    let forks = forked.forks in
    restored snapshot old middle new forked.exact forks.child.closed forks.fresh forks.others forks.job forks.max_frames
    closed log (inr (closed.closes.seen ∙ forks.seen, forks.told))

-- by a fork of another snapshot
pub unforked-again : (kit : Origin) (log : Log) (from snapshot : SnapshotState) (old middle new : PartitionState)
    → ForksFromExactly kit from snapshot old middle → ClosesExactly snapshot middle new → IsUnforked log old new
unforked-again kit log from snapshot old middle new forked closed =
    let forks = forked.forks in
    restored snapshot old middle new forked.exact forks.child.closed forks.fresh forks.others forks.job
    forks.users.limit closed log (inl (closed.closes.seen ∙ forks.seen))
