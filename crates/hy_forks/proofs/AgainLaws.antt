-- Snapshots of what other ones see, of all partitions.
use Rattle.std.proofs.Common.{◌≡◌, ◌∙◌, ◌<◌, ◌+◌, ◌-◌, ◌==◌, ◌++◌, ℕ, zero, suc, true, List, [], ◌∷◌, Some, inl, inr, length, map, refl, ap, ap₂, arith, subst, sym}
use Rattle.std.specs.Prelude.{IsSomeAnd, slice_get}
use Rattle.std.proofs.lemmas.Bool.{and_from, and_parts, eq-eqb, true≢false}
use Rattle.hy_worlds.specs.Origins.{Origin, desk_of}
use Rattle.hy_rows.specs.Tables.{Lists}
use Rattle.hy_crossing.specs.of_partition.Partition.{PartitionState, Terms}
use Rattle.hy_crossing.specs.of_partition.Snapshots.{SnapshotState}
use Rattle.hy_crossing.specs.of_partition.Steps.{ForksFrom, StaysUnforked, is_from}
use Rattle.hy_crossing.proofs.of_partition.ForkLaws.{warehouse-from}
use Rattle.hy_crossing.specs.Crossings.{ArePartitions, HaveNoPart}
use Rattle.hy_crossing.specs.Lists.{ChangesAt, Pairwise}
use Rattle.hy_crossing.specs.Pairs.{Before}
use Rattle.hy_forks.specs.Forks.{AreOfKit, ForksAllFrom, ForksFromHere, IsUnforked, IsUnforkedUntold, are_from, shown}
use Rattle.hy_forks.specs.inside.Places.{AreOf, ClosesExactlyHere, ForksFromExactly, ForksFromExactlyHere, IsOf}
use Rattle.hy_forks.proofs.ForkLaws.{unforked-again, unforked-same, unforked-stays}
use Rattle.hy_forks.proofs.TakenLaws.{Taking, of-taken, taken-more, taken-undone}
use Rattle.hy_forks.proofs.AllLaws.{unforked-partitions, unforked-whole}
use Rattle.hy_forks.proofs.RelationLaws.{before-all, pairs-get, pairs-map, pairs-same}
use Rattle.hy_forks.proofs.CloseLaws.{from-lengths}
use Rattle.hy_forks.proofs.PartsLaws.{KeepsPlace, still-partitions, still-whole}
use Rattle.hy_forks.proofs.PlaceLaws.{get-within, some-each, some-is, some-map, some-out, some-this}

-- a snapshot of a partition that was forked from another one of it
pub of-again : (kit : Origin) (from snapshot : SnapshotState) (old new : PartitionState)
    → ForksFromExactly kit from snapshot old new → IsOf kit snapshot new
of-again kit from snapshot old new forked =
    let forks = forked.forks in
    let same : new.warehouse ≡ old.warehouse = ap (λ (terms : Terms). terms.warehouse) forks.job.terms in
    record {
      from = and_from (snapshot.warehouse == new.warehouse) (snapshot.name == kit.name)
          (eq-eqb snapshot.warehouse new.warehouse (forks.warehouse ∙ sym same))
          (eq-eqb snapshot.name kit.name forks.name);
      desk = forks.desk ∙ ap (desk_of kit) (sym same);
    }

-- each snapshot says that it is one of the partition at its place, where all say so
pub from-at : (kit : Origin) (all : List SnapshotState) (parts : List PartitionState) → are_from kit all parts ≡ true
    → (place : ℕ) → place < length parts → IsSomeAnd (slice_get parts place) (λ p.
    IsSomeAnd (slice_get all place) (λ from. is_from from p.warehouse kit ≡ true))
from-at kit [] [] is place within = absurd (omega (arith, within))
from-at kit (from ∷ all) (p ∷ parts) is zero within =
    (and_parts (is_from from p.warehouse kit) (are_from kit all parts) is).0
from-at kit (from ∷ all) (p ∷ parts) is (suc place) within =
    from-at kit all parts (and_parts (is_from from p.warehouse kit) (are_from kit all parts) is).1 place
    (omega (arith, within))
from-at kit [] (p ∷ parts) is place within = absurd (true≢false (sym is))
from-at kit (from ∷ all) [] is place within = absurd (true≢false (sym is))

-- two lists of snapshots of the same length show the same where those at each place do
shown-same : (one other : List SnapshotState) → length one ≡ length other
    → ((place : ℕ) (s t : SnapshotState) → slice_get one place ≡ Some s → slice_get other place ≡ Some t → shown s ≡ shown t)
    → map shown one ≡ map shown other
shown-same [] [] counted same = refl
shown-same (s ∷ one) (t ∷ other) counted same =
    ap₂ (λ x xs. x ∷ xs) (same zero s t refl refl)
    (shown-same one other (omega (arith, counted)) (λ place s t here there. same (suc place) s t here there))
shown-same [] (t ∷ other) counted same = absurd (omega (arith, counted))
shown-same (s ∷ one) [] counted same = absurd (omega (arith, counted))

-- a snapshot shows what the one shows that it was forked from
shown-forked : (kit : Origin) (from snapshot : SnapshotState) (old new : PartitionState)
    → ForksFrom kit from old new snapshot → shown snapshot ≡ shown from
shown-forked kit from snapshot old new forks =
    let here : snapshot.warehouse ≡ from.warehouse =
    forks.warehouse ∙ sym (warehouse-from kit from old.warehouse forks.mine) in
    rw (forks.load, here, forks.commits, forks.kept, forks.bytes) refl

-- ---- one after another

-- a snapshot of the warehouse with a number was taken of what the one at its place sees
abbrev Again : Origin → List SnapshotState → Taking
Again kit all number snapshot old new =
    IsSomeAnd (slice_get all (number - 1)) (λ from. ForksFromExactly kit from snapshot old new)

of-taken-again : (kit : Origin) (all : List SnapshotState) (number : ℕ) (snapshot : SnapshotState)
    (old new : PartitionState) → Again kit all number snapshot old new → IsOf kit snapshot new
of-taken-again kit all number snapshot old new taken =
    let found = some-out (λ from. ForksFromExactly kit from snapshot old new) (slice_get all (number - 1)) taken in
    of-again kit found.0 snapshot old new found.2

module _ (kit : Origin) (all snapshots : List SnapshotState) (place : ℕ) (placed : length snapshots ≡ place)
    (olds middles : List PartitionState)
    (forked : Pairwise (Before (place + 1) (ForksFromExactlyHere kit all snapshots)) 1 olds middles)
    (within : place < length olds) where
  -- the next partition is as it was, so that the next snapshot is one of it
  pub mine-next : are_from kit all olds ≡ true → IsSomeAnd (slice_get middles place) (λ p.
      IsSomeAnd (slice_get all place) (λ from. is_from from p.warehouse kit ≡ true))
  mine-next mine =
      let at = pairs-get (Before (place + 1) (ForksFromExactlyHere kit all snapshots)) 1 olds middles forked place
      within in
      some-is (λ p. IsSomeAnd (slice_get all place) (λ from. is_from from p.warehouse kit ≡ true))
      (slice_get middles place) at.new at.new_is
      (elim at.relates [
        | inl early ↦ absurd (omega (arith, early.0))
        | inr late ↦
            subst (λ (p : PartitionState). IsSomeAnd (slice_get all place) (λ from. is_from from p.warehouse kit ≡ true))
            (sym late.1)
            (some-this (λ p. IsSomeAnd (slice_get all place) (λ from. is_from from p.warehouse kit ≡ true))
            (slice_get olds place) at.old at.old_is (from-at kit all olds mine place within))
      ])

  pub again-more : (snapshot : SnapshotState) (news : List PartitionState)
      → IsSomeAnd (slice_get all place) (λ from. ChangesAt (ForksFromExactly kit from snapshot) place middles news)
      → Pairwise (Before (place + 1 + 1) (ForksFromExactlyHere kit all (snapshots ++ snapshot ∷ []))) 1 olds news
  again-more snapshot news changes =
      let found = some-out (λ from. ChangesAt (ForksFromExactly kit from snapshot) place middles news)
      (slice_get all place) changes in
      let back : place + 1 - 1 ≡ place = omega arith in
      taken-more (Again kit all) snapshots place placed olds middles forked within
      (ForksFromExactly kit found.0 snapshot) snapshot
      (λ old new step. some-is (λ from. ForksFromExactly kit from snapshot old new) (slice_get all (place + 1 - 1))
      found.0 (ap (slice_get all) back ∙ found.1) step) news found.2

  module _ (thirds : List PartitionState) (refused : ChangesAt StaysUnforked place middles thirds) where
    pub of-halves-again : AreOf kit snapshots thirds
    of-halves-again =
        of-taken (Again kit all) snapshots place placed olds middles forked within kit IsUnforkedUntold
        (λ p log. unforked-same log p) (of-taken-again kit all) StaysUnforked
        (λ old new stays log. unforked-stays log old new stays) thirds refused

    pub all-untold : (news : List PartitionState)
        → Pairwise (Before (length snapshots + 1) (ClosesExactlyHere snapshots)) 1 thirds news
        → Pairwise (λ number. IsUnforkedUntold) 1 olds news
    all-untold =
        taken-undone (Again kit all) snapshots place placed olds middles forked within kit IsUnforkedUntold
        (λ p log. unforked-same log p) (of-taken-again kit all) StaysUnforked
        (λ old new stays log. unforked-stays log old new stays) thirds refused
        (λ number snapshot old middle new taken closed log.
        let found = some-out (λ from. ForksFromExactly kit from snapshot old middle) (slice_get all (number - 1)) taken in
        unforked-again kit log found.0 snapshot old middle new found.2 closed)

-- ---- what stays where it was refused

pub all-untold-same : (parts : List PartitionState) → Pairwise (λ number. IsUnforkedUntold) 1 parts parts
all-untold-same parts =
    pairs-same (λ number. IsUnforkedUntold) 0 (λ number p late log. unforked-same log p) 1 parts (omega arith)

module _ (olds news : List PartitionState) (untold : Pairwise (λ number. IsUnforkedUntold) 1 olds news) where
  told-nothing : Pairwise (λ number. IsUnforked []) 1 olds news
  told-nothing =
      pairs-map (λ number. IsUnforkedUntold) (λ number. IsUnforked []) (λ number old new it. it []) 1 olds news untold

  pub untold-partitions : (lists : Lists) → ArePartitions lists olds → ArePartitions lists news
  untold-partitions lists are = unforked-partitions [] olds news told-nothing lists are

  pub untold-whole : HaveNoPart olds → HaveNoPart news
  untold-whole none = unforked-whole [] olds news told-nothing none

-- ---- all of them

module _ (kit : Origin) (all snapshots : List SnapshotState) (place : ℕ) (placed : length snapshots ≡ place)
    (olds news : List PartitionState) (ends : place ≡ length olds)
    (forked : Pairwise (Before (place + 1) (ForksFromExactlyHere kit all snapshots)) 1 olds news) where
  each-exactly : Pairwise (ForksFromExactlyHere kit all snapshots) 1 olds news
  each-exactly = before-all (ForksFromExactlyHere kit all snapshots) (place + 1) 1 olds news forked (omega (arith, ends))

  pub forks-all_from : ForksAllFrom kit all olds news snapshots
  forks-all_from = record {
    count = placed ∙ ends;
    each = pairs-map (ForksFromExactlyHere kit all snapshots) (ForksFromHere kit all snapshots)
        (λ number old new here. some-map _ _ (slice_get snapshots (number - 1)) (λ snapshot held.
        some-map _ _ (slice_get all (number - 1)) (λ from forked. forked.forks) held) here) 1 olds news each-exactly;
  }

  keeps-again : (number : ℕ) (old new : PartitionState) → ForksFromExactlyHere kit all snapshots number old new
      → KeepsPlace old new
  keeps-again number old new here =
      let held = some-out (λ snapshot. IsSomeAnd (slice_get all (number - 1)) (λ from.
      ForksFromExactly kit from snapshot old new)) (slice_get snapshots (number - 1)) here in
      let forks = (some-out (λ from. ForksFromExactly kit from held.0 old new) (slice_get all (number - 1)) held.2).2.forks in
      (forks.job.terms, forks.job.part)

  pub again-whole : HaveNoPart olds → HaveNoPart news
  again-whole none = still-whole (ForksFromExactlyHere kit all snapshots) keeps-again olds news each-exactly none

  pub again-partitions : (lists : Lists) → ArePartitions lists olds → ArePartitions lists news
  again-partitions lists are =
      still-partitions (ForksFromExactlyHere kit all snapshots) keeps-again olds news each-exactly lists are

  -- both snapshots at a place, and the partition that they are of
  record At (k : ℕ) (snapshot : SnapshotState) : Type 0 where
    from : SnapshotState
    from_is : slice_get all k ≡ Some from
    old : PartitionState
    old_is : slice_get olds k ≡ Some old
    new : PartitionState
    forks : ForksFrom kit from old new snapshot

  again-at : (k : ℕ) (snapshot : SnapshotState) → slice_get snapshots k ≡ Some snapshot → At k snapshot
  again-at k snapshot there =
      let within : k < length olds = omega (arith, get-within snapshots k snapshot there, placed, ends) in
      let at = pairs-get (ForksFromExactlyHere kit all snapshots) 1 olds news each-exactly k within in
      let back : 1 + k - 1 ≡ k = omega arith in
      let here = subst (λ m. IsSomeAnd (slice_get snapshots m) (λ snapshot. IsSomeAnd (slice_get all m) (λ from.
      ForksFromExactly kit from snapshot at.old at.new))) back at.relates in
      let held = some-this (λ snapshot. IsSomeAnd (slice_get all k) (λ from.
      ForksFromExactly kit from snapshot at.old at.new)) (slice_get snapshots k) snapshot there here in
      let found = some-out (λ from. ForksFromExactly kit from snapshot at.old at.new) (slice_get all k) held in
      record { from = found.0; from_is = found.1; old = at.old; old_is = at.old_is; new = at.new; forks = found.2.forks }

  pub again-kit : AreOfKit kit snapshots
  again-kit k = some-each (λ snapshot. snapshot.name ≡ kit.name → snapshot.desk ≡ desk_of kit snapshot.warehouse)
      (slice_get snapshots k) (λ snapshot there name_is.
      let forks = (again-at k snapshot there).forks in forks.desk ∙ ap (desk_of kit) (sym forks.warehouse))

  pub again-shown : are_from kit all olds ≡ true → map shown snapshots ≡ map shown all
  again-shown mine =
      shown-same snapshots all (placed ∙ ends ∙ sym (from-lengths kit all olds mine)) (λ k snapshot from there other.
      let at = again-at k snapshot there in
      let same : at.from ≡ from = some-inj (sym at.from_is ∙ other) in
      shown-forked kit at.from snapshot at.old at.new at.forks ∙ ap shown same)
    where
      some-inj : {one other : SnapshotState} → Some one ≡ Some other → one ≡ other
      some-inj same = cc
