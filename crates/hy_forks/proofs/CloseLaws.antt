-- Snapshots of all partitions: whether they say so, and that they are closed.
use Rattle.std.proofs.Common.{◌≡◌, ◌∙◌, ◌≤◌, ◌<◌, ◌+◌, ◌-◌, ◌==◌, ◌&&◌, Bool, ℕ, zero, suc, true, drop, List, [], ◌∷◌, Some, inl, inr, length, refl, ap, arith, subst, sym, slice_index_or}
use Rattle.std.specs.Prelude.{IfSome, IsSomeAnd, Option, slice_get}
use Rattle.std.proofs.lemmas.Bool.{and_parts, eqb-true, true≢false}
use Rattle.std.proofs.lemmas.List.{drop_all, drop_more}
use Rattle.hy_worlds.specs.Origins.{Origin, desk_of}
use Rattle.hy_rows.specs.Tables.{Lists}
use Rattle.hy_crossing.specs.of_partition.Partition.{PartitionState}
use Rattle.hy_crossing.specs.of_partition.Snapshots.{SnapshotState}
use Rattle.hy_crossing.specs.of_partition.Steps.{is_from}
use Rattle.hy_crossing.specs.Crossings.{ArePartitions, HaveNoPart}
use Rattle.hy_crossing.specs.Lists.{ChangesAt, Pairwise}
use Rattle.hy_crossing.specs.Pairs.{Before}
use Rattle.hy_forks.specs.Forks.{AreOfKit, ClosesHere, are_from}
use Rattle.hy_forks.specs.inside.Places.{AreOf, ClosesExactly, ClosesExactlyHere, From, IsOf}
use Rattle.hy_forks.proofs.RelationLaws.{before-all, changes-pairs, from-all, from-more, from-start, from-still, pairs-length, pairs-map}
use Rattle.hy_forks.proofs.PartsLaws.{KeepsPlace, still-partitions, still-whole}
use Rattle.hy_forks.proofs.PlaceLaws.{get-within, some-is, some-map, some-out}

-- ---- one after the other, from the last on

module _ (kit : Origin) (all : List SnapshotState) (olds : List PartitionState) (are : AreOf kit all olds) where
  pub closed-start : Pairwise (From (length all + 1) (Before (length all + 1) (ClosesExactlyHere all))) 1 olds olds
  closed-start =
      from-start (Before (length all + 1) (ClosesExactlyHere all)) (length all + 1) olds
      (λ number row late. inr (late, refl))

  module _ (place : ℕ) (snapshot : SnapshotState) (there : slice_get all place ≡ Some snapshot)
      (middles : List PartitionState)
      (closed : Pairwise (From (place + 1 + 1) (Before (length all + 1) (ClosesExactlyHere all))) 1 olds middles) where
    of-this : IsSomeAnd (slice_get olds place) (IsOf kit snapshot)
    of-this =
        subst (λ (found : Option SnapshotState). IfSome found (λ snapshot. IsSomeAnd (slice_get olds place)
        (IsOf kit snapshot))) there (are place)

    within : place < length olds
    within =
        let found = some-out (IsOf kit snapshot) (slice_get olds place) of-this in
        get-within olds place found.0 found.1

    pub within_middles : place < length middles
    within_middles = omega (
      arith,
      within,
      pairs-length (From (place + 1 + 1) (Before (length all + 1) (ClosesExactlyHere all))) 1 olds middles closed,
    )

    pub of-here : IsSomeAnd (slice_get middles place) (IsOf kit snapshot)
    of-here =
        subst (λ (found : Option PartitionState). IsSomeAnd found (IsOf kit snapshot))
        (sym (from-still (Before (length all + 1) (ClosesExactlyHere all)) place olds middles closed within)) of-this

    pub closed-more : (news : List PartitionState) → ChangesAt (ClosesExactly snapshot) place middles news
        → Pairwise (From (place + 1) (Before (length all + 1) (ClosesExactlyHere all))) 1 olds news
    closed-more news changes =
        let early : place < length all = get-within all place snapshot there in
        from-more (Before (length all + 1) (ClosesExactlyHere all)) (ClosesExactly snapshot) place (λ old new closes.
        inl (
          omega (arith, early),
          some-is (λ snapshot. ClosesExactly snapshot old new) (slice_get all (place + 1 - 1))
              snapshot (subst (λ m. slice_get all m ≡ Some snapshot) (omega arith) there) closes,
        )) olds middles news closed
        (changes-pairs (ClosesExactly snapshot) place middles news within_middles changes)

  pub closed-end : (news : List PartitionState)
      → Pairwise (From (0 + 1) (Before (length all + 1) (ClosesExactlyHere all))) 1 olds news
      → Pairwise (Before (length all + 1) (ClosesExactlyHere all)) 1 olds news
  closed-end news closed = from-all (Before (length all + 1) (ClosesExactlyHere all)) 1 1 olds news closed (omega arith)

-- ---- whether snapshots say that they are those of the partitions

pub from-lengths : (kit : Origin) (all : List SnapshotState) (parts : List PartitionState)
    → are_from kit all parts ≡ true → length all ≡ length parts
from-lengths kit [] [] is = refl
from-lengths kit (snapshot ∷ all) (p ∷ parts) is =
    ap suc (from-lengths kit all parts (and_parts (is_from snapshot p.warehouse kit) (are_from kit all parts) is).1)
from-lengths kit [] (p ∷ parts) is = absurd (true≢false (sym is))
from-lengths kit (snapshot ∷ all) [] is = absurd (true≢false (sym is))

pub from-end : (kit : Origin) (all : List SnapshotState) (parts : List PartitionState) (place : ℕ)
    → length all ≤ place → length parts ≤ place → are_from kit (drop place all) (drop place parts) ≡ true
from-end kit all parts place all_past parts_past =
    ap (λ (snapshots : List SnapshotState). are_from kit snapshots (drop place parts)) (drop_all place all all_past)
    ∙ ap (are_from kit []) (drop_all place parts parts_past)

-- one place more, whose snapshot says that it is one of the partition there
pub from-passes : (kit : Origin) (all : List SnapshotState) (parts : List PartitionState) (place : ℕ)
    (snapshot : SnapshotState) (p : PartitionState) → place < length all → place < length parts
    → snapshot ≡ slice_index_or all place snapshot → p ≡ slice_index_or parts place p
    → is_from snapshot p.warehouse kit ≡ true
    → are_from kit (drop (place + 1) all) (drop (place + 1) parts) ≡ are_from kit (drop place all) (drop place parts)
from-passes kit all parts place snapshot p within within_parts is here mine =
    sym (ap (λ (snapshots : List SnapshotState). are_from kit snapshots (drop place parts))
    (drop_more all place snapshot within
    ∙ ap (λ (first : SnapshotState). first ∷ drop (place + 1) all) (sym is))
    ∙ ap (are_from kit (snapshot ∷ drop (place + 1) all)) (drop_more parts place p within_parts
    ∙ ap (λ (first : PartitionState). first ∷ drop (place + 1) parts) (sym here))
    ∙ ap (λ (first : Bool). first && are_from kit (drop (place + 1) all) (drop (place + 1) parts)) mine)

pub of-parts : (kit : Origin) (all : List SnapshotState) (parts : List PartitionState) → AreOfKit kit all
    → are_from kit all parts ≡ true → AreOf kit all parts
of-parts kit [] parts kits is place = tt
of-parts kit (snapshot ∷ all) [] kits is place = absurd (true≢false (sym is))
of-parts kit (snapshot ∷ all) (p ∷ parts) kits is zero =
    let from = (and_parts (is_from snapshot p.warehouse kit) (are_from kit all parts) is).0 in
    let both = and_parts (snapshot.warehouse == p.warehouse) (snapshot.name == kit.name) from in
    record {
      from = from;
      desk = kits zero (eqb-true snapshot.name kit.name both.1)
          ∙ ap (desk_of kit) (eqb-true snapshot.warehouse p.warehouse both.0);
    }
of-parts kit (snapshot ∷ all) (p ∷ parts) kits is (suc place) =
    of-parts kit all parts (λ place. kits (suc place))
    (and_parts (is_from snapshot p.warehouse kit) (are_from kit all parts) is).1 place

-- ---- all are closed

module _ (all : List SnapshotState) (olds news : List PartitionState) (counted : length all ≡ length olds)
    (closed : Pairwise (Before (length all + 1) (ClosesExactlyHere all)) 1 olds news) where
  each-closed : Pairwise (ClosesExactlyHere all) 1 olds news
  each-closed = before-all (ClosesExactlyHere all) (length all + 1) 1 olds news closed (omega (arith, counted))

  pub closes-all : Pairwise (ClosesHere all) 1 olds news
  closes-all = pairs-map (ClosesExactlyHere all) (ClosesHere all) (λ number old new here.
      some-map (λ snapshot. ClosesExactly snapshot old new) _ (slice_get all (number - 1))
      (λ snapshot closed. closed.closes) here) 1 olds news each-closed

  keeps-closed : (number : ℕ) (old new : PartitionState) → ClosesExactlyHere all number old new → KeepsPlace old new
  keeps-closed number old new here =
      let closes = (some-out (λ snapshot. ClosesExactly snapshot old new) (slice_get all (number - 1)) here).2.closes in
      (closes.job.terms, closes.job.part)

  pub closed-partitions : (lists : Lists) → ArePartitions lists olds → ArePartitions lists news
  closed-partitions lists are =
      still-partitions (ClosesExactlyHere all) keeps-closed olds news each-closed lists are

  pub closed-whole : HaveNoPart olds → HaveNoPart news
  closed-whole none = still-whole (ClosesExactlyHere all) keeps-closed olds news each-closed none
