-- Snapshots are taken of the partitions one after another, or those before one that refused are closed again.
use Rattle.std.proofs.Common.{◌≡◌, ◌∙◌, ◌⊎◌, ◌≤◌, ◌<◌, ◌+◌, ◌-◌, ℕ, List, [], ◌∷◌, ◌++◌, inl, inr, length, arith, subst, sym}
use Rattle.std.specs.Prelude.{IsSomeAnd, slice_get}
use Rattle.hy_worlds.specs.Origins.{Origin}
use Rattle.hy_crossing.specs.of_partition.Partition.{PartitionState}
use Rattle.hy_crossing.specs.of_partition.Snapshots.{SnapshotState}
use Rattle.hy_crossing.specs.Lists.{ChangesAt, Pairwise}
use Rattle.hy_crossing.specs.Pairs.{At, Before}
use Rattle.hy_crossing.proofs.PairLaws.{pairs-then}
use Rattle.hy_forks.specs.inside.Places.{AreOf, ClosesExactly, ClosesExactlyHere, IsOf}
use Rattle.hy_forks.proofs.RelationLaws.{before-more, changes-pairs, pairs-get, pairs-length}
use Rattle.hy_forks.proofs.PlaceLaws.{front-holds, get-last, get-within, some-both, some-each, some-is, some-this}

-- what is known of a snapshot of the warehouse with a number, as it was taken
abbrev pub Taking : Type 1
Taking = ℕ → SnapshotState → PartitionState → PartitionState → Type 0

-- the snapshot at the place of the warehouse with a number was taken so
abbrev pub TakesHere : Taking → List SnapshotState → ℕ → PartitionState → PartitionState → Type 0
TakesHere Takes snapshots number old new =
    IsSomeAnd (slice_get snapshots (number - 1)) (λ snapshot. Takes number snapshot old new)

module _ (Takes : Taking) (snapshots : List SnapshotState) (place : ℕ) (counted : length snapshots ≡ place)
    (olds middles : List PartitionState) (taken : Pairwise (Before (place + 1) (TakesHere Takes snapshots)) 1 olds middles)
    (within : place < length olds) where
  within_middles : place < length middles
  within_middles =
      omega (arith, within, pairs-length (Before (place + 1) (TakesHere Takes snapshots)) 1 olds middles taken)

  -- one more is taken
  pub taken-more : (Step : PartitionState → PartitionState → Type 0) (snapshot : SnapshotState)
      → ((old new : PartitionState) → Step old new → Takes (place + 1) snapshot old new)
      → (news : List PartitionState) → ChangesAt Step place middles news
      → Pairwise (Before (place + 1 + 1) (TakesHere Takes (snapshots ++ snapshot ∷ []))) 1 olds news
  taken-more Step snapshot takes news changes =
      before-more (TakesHere Takes snapshots) (TakesHere Takes (snapshots ++ snapshot ∷ [])) Step place
      (λ number old new here. front-holds (λ snapshot. Takes number snapshot old new) snapshots (snapshot ∷ [])
      (number - 1) here)
      (λ old new step. some-is (λ snapshot. Takes (place + 1) snapshot old new)
      (slice_get (snapshots ++ snapshot ∷ []) (place + 1 - 1)) snapshot
      (get-last snapshots snapshot (place + 1 - 1) (omega (arith, counted))) (takes old new step))
      olds middles news taken (changes-pairs Step place middles news within_middles changes)

  -- the next one is refused
  module _ (kit : Origin) (Unforked : PartitionState → PartitionState → Type 0) (same : (p : PartitionState) → Unforked p p)
      (of : (number : ℕ) (snapshot : SnapshotState) (old new : PartitionState) → Takes number snapshot old new
      → IsOf kit snapshot new)
      (Refused : PartitionState → PartitionState → Type 0)
      (stays : (old new : PartitionState) → Refused old new → Unforked old new)
      (thirds : List PartitionState) (refused : ChangesAt Refused place middles thirds) where
    -- those before the place are taken, and the others aren't
    abbrev IsHalf : ℕ → PartitionState → PartitionState → Type 0
    IsHalf number old new = ((number < place + 1) × TakesHere Takes snapshots number old new)
        ⊎ ((place + 1 ≤ number) × Unforked old new)

    halves : Pairwise IsHalf 1 olds thirds
    halves =
        pairs-then (Before (place + 1) (TakesHere Takes snapshots)) (At (place + 1) (λ number. Refused)) IsHalf joins 1
        olds middles thirds taken (changes-pairs Refused place middles thirds within_middles refused)
      where
        joins : (number : ℕ) (old middle new : PartitionState)
            → Before (place + 1) (TakesHere Takes snapshots) number old middle
            → At (place + 1) (λ number. Refused) number middle new → IsHalf number old new
        joins number old middle new (inl early) (inl is) = absurd (omega (arith, early.0, is.0))
        joins number old middle new (inl early) (inr other) =
            inl (
              early.0,
              subst (λ (p : PartitionState). TakesHere Takes snapshots number old p) (sym other.1) early.1,
            )
        joins number old middle new (inr late) (inl is) =
            inr (
              late.0,
              subst (λ (p : PartitionState). Unforked p new) late.1 (stays middle new is.1),
            )
        joins number old middle new (inr late) (inr other) =
            inr (
              late.0,
              subst (λ (p : PartitionState). Unforked old p) (sym (other.1 ∙ late.1)) (same old),
            )

    pub of-taken : AreOf kit snapshots thirds
    of-taken k = some-each (λ snapshot. IsSomeAnd (slice_get thirds k) (IsOf kit snapshot)) (slice_get snapshots k)
        (λ snapshot there.
        let early : k < place = omega (arith, get-within snapshots k snapshot there, counted) in
        let at = pairs-get IsHalf 1 olds thirds halves k (omega (arith, early, within)) in
        let back : 1 + k - 1 ≡ k = omega arith in
        elim at.relates [
          | inl half ↦
              some-is (IsOf kit snapshot) (slice_get thirds k) at.new at.new_is
              (of (1 + k) snapshot at.old at.new
              (some-this (λ snapshot. Takes (1 + k) snapshot at.old at.new) (slice_get snapshots k) snapshot there
              (subst (λ m. IsSomeAnd (slice_get snapshots m) (λ snapshot. Takes (1 + k) snapshot at.old at.new)) back
              half.1)))
          | inr late ↦ absurd (omega (arith, late.0, early))
        ])

    pub taken-undone :
        ((number : ℕ) (snapshot : SnapshotState) (old middle new : PartitionState) → Takes number snapshot old middle
        → ClosesExactly snapshot middle new → Unforked old new)
        → (news : List PartitionState)
        → Pairwise (Before (length snapshots + 1) (ClosesExactlyHere snapshots)) 1 thirds news
        → Pairwise (λ number. Unforked) 1 olds news
    taken-undone undone news closed =
        pairs-then IsHalf (Before (length snapshots + 1) (ClosesExactlyHere snapshots)) (λ number. Unforked) joins
        1 olds thirds news halves closed
      where
        joins : (number : ℕ) (old middle new : PartitionState) → IsHalf number old middle
            → Before (length snapshots + 1) (ClosesExactlyHere snapshots) number middle new → Unforked old new
        joins number old middle new (inl half) (inl closes) =
            some-both (λ snapshot. Takes number snapshot old middle) (λ snapshot. ClosesExactly snapshot middle new)
            (Unforked old new) (slice_get snapshots (number - 1)) half.1 closes.1
            (λ snapshot takes closed. undone number snapshot old middle new takes closed)
        joins number old middle new (inl half) (inr late) = absurd (omega (arith, half.0, late.0, counted))
        joins number old middle new (inr half) (inl closes) = absurd (omega (arith, half.0, closes.0, counted))
        joins number old middle new (inr half) (inr late) =
            subst (λ (p : PartitionState). Unforked old p) (sym late.1) half.1
