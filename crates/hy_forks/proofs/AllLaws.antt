-- All partitions were forked, or those before one that refused it were closed again.
use Rattle.std.proofs.Common.{◌≡◌, ◌∙◌, ◌<◌, ◌+◌, ◌-◌, ◌==◌, ℕ, zero, suc, List, [], ◌∷◌, ◌++◌, Some, inl, inr, length, ap, arith, subst, sym}
use Rattle.std.specs.Prelude.{IfSome, IsSomeAnd, slice_get}
use Rattle.std.proofs.lemmas.Bool.{and_from, eq-eqb}
use mathlib.Core.List.{IsPrefix}
use Rattle.hy_worlds.specs.Origins.{Origin, desk_of}
use Rattle.hy_rows.specs.Spelling.{Spells}
use Rattle.hy_rows.specs.Tables.{Lists, Tables}
use Rattle.hy_rows.proofs.BetweenLaws.{IsBetween-bounds}
use Rattle.hy_schema.specs.declared.refusal.Refusal.{Refusal}
use Rattle.hy_frames.specs.FrameTable.{free_of}
use Rattle.hy_undo.specs.Touched.{touched}
use Rattle.hy_commands.specs.Parts.{rows_of}
use Rattle.hy_commands.specs.Replay.{HasWarehouse}
use Rattle.hy_database.proofs.EachLaws.{count-after}
use Rattle.hy_database.proofs.Replays.{replay-after}
use Rattle.hy_crossing.specs.of_partition.Jobs.{Log}
use Rattle.hy_crossing.specs.of_partition.Partition.{PartitionState, Terms, projection_of}
use Rattle.hy_crossing.specs.of_partition.Snapshots.{SnapshotState}
use Rattle.hy_crossing.specs.of_partition.Steps.{Forks}
use Rattle.hy_crossing.specs.Crossings.{ArePartitions, HaveNoPart, IsPartition, commits_in, database_behind}
use Rattle.hy_crossing.specs.Lists.{ChangesAt, Pairwise}
use Rattle.hy_crossing.specs.Pairs.{Before}
use Rattle.hy_forks.specs.Forks.{AreOfKit, ForksAll, ForksHere, IsUnforked, IsWhyUnforked, SomeLacks, SpellsDatabase}
use Rattle.hy_forks.specs.inside.Places.{AreOf, ClosesExactlyHere, ForksExactly, ForksExactlyHere, IsOf, RefusesFork}
use Rattle.hy_forks.proofs.DatabaseLaws.{rows-behind}
use Rattle.hy_forks.proofs.ForkLaws.{unforked-closed, unforked-same, unforked-stays}
use Rattle.hy_crossing.proofs.of_partition.ForkLaws.{forks-known}
use Rattle.hy_forks.proofs.TakenLaws.{of-taken, taken-more, taken-undone}
use Rattle.hy_forks.proofs.RelationLaws.{before-all, before-still, changes-get, pairs-get, pairs-length, pairs-map, pairs-same}
use Rattle.hy_forks.proofs.PartsLaws.{KeepsPlace, numbered-hold, partition-at, still-partitions, still-whole}
use Rattle.hy_forks.proofs.PlaceLaws.{get-within, some-each, some-map, some-out, some-this}

-- a snapshot of a partition that was forked
of-fork : (n : ℕ) (kit : Origin) (log known : Log) (snapshot : SnapshotState) (old new : PartitionState)
    → ForksExactly n kit log known snapshot old new → IsOf kit snapshot new
of-fork n kit log known snapshot old new forked =
    let forks = forked.forks in
    let same : new.warehouse ≡ old.warehouse = ap (λ (terms : Terms). terms.warehouse) forks.job.terms in
    record {
      from = and_from (snapshot.warehouse == new.warehouse) (snapshot.name == kit.name)
          (eq-eqb snapshot.warehouse new.warehouse (forks.warehouse ∙ sym same))
          (eq-eqb snapshot.name kit.name forks.name);
      desk = forks.desk ∙ ap (desk_of kit) (sym same);
    }

-- the partition that lacks frames is one of them
some-lacks : (parts : List PartitionState) (place : ℕ) (p : PartitionState) → slice_get parts place ≡ Some p
    → free_of p.space.frames < touched p.undo → SomeLacks parts
some-lacks [] place p is lacks = absurd (cc)
some-lacks (first ∷ parts) zero p is lacks =
    let same : first ≡ p = cc in
    inl (subst (λ (p : PartitionState). free_of p.space.frames < touched p.undo) (sym same) lacks)
some-lacks (first ∷ parts) (suc place) p is lacks = inr (some-lacks parts place p is lacks)

module _ (n : ℕ) (kit : Origin) (log known : Log) (snapshots : List SnapshotState) (place : ℕ)
    (counted : length snapshots ≡ place) (olds middles : List PartitionState)
    (forked : Pairwise (Before (place + 1) (ForksExactlyHere n kit log known snapshots)) 1 olds middles)
    (within : place < length olds) where
  within_middles : place < length middles
  within_middles = omega (
    arith,
    within,
    pairs-length (Before (place + 1) (ForksExactlyHere n kit log known snapshots)) 1 olds middles forked,
  )

  module _ (snapshot : SnapshotState) (news : List PartitionState)
      (changes : ChangesAt (ForksExactly n kit log known snapshot) place middles news) where
    pub forks-more : Pairwise (Before (place + 1 + 1) (ForksExactlyHere n kit log known (snapshots ++ snapshot ∷ []))) 1
        olds news
    forks-more =
        taken-more (λ number. ForksExactly n kit log known) snapshots place counted olds middles forked within
        (ForksExactly n kit log known snapshot) snapshot (λ old new forks. forks) news changes

  module _ (why : Refusal) (thirds : List PartitionState)
      (refused : ChangesAt (RefusesFork why) place middles thirds) where
    pub why-unforked : IsWhyUnforked olds why
    why-unforked =
        let old_is : slice_get olds place ≡ Some refused.0 =
        sym (before-still (ForksExactlyHere n kit log known snapshots) place olds middles forked within)
        ∙ changes-get (RefusesFork why) place middles thirds within_middles refused in
        elim refused.4.reason [
          | inl lacks ↦ inl (lacks.0, some-lacks olds place refused.0 old_is lacks.1)
          | inr memory ↦ inr memory
        ]

    pub of-halves : AreOf kit snapshots thirds
    of-halves =
        of-taken (λ number. ForksExactly n kit log known) snapshots place counted olds middles forked within kit
        (IsUnforked log) (unforked-same log) (λ number. of-fork n kit log known) (RefusesFork why)
        (λ old new refused. unforked-stays log old new refused.stays) thirds refused

    pub all-unforked : (news : List PartitionState)
        → Pairwise (Before (length snapshots + 1) (ClosesExactlyHere snapshots)) 1 thirds news
        → Pairwise (λ number. IsUnforked log) 1 olds news
    all-unforked =
        taken-undone (λ number. ForksExactly n kit log known) snapshots place counted olds middles forked within kit
        (IsUnforked log) (unforked-same log) (λ number. of-fork n kit log known) (RefusesFork why)
        (λ old new refused. unforked-stays log old new refused.stays) thirds refused
        (λ number snapshot old middle new forks closed. unforked-closed n kit log known snapshot old middle new forks closed)

-- ---- what stays in the end

pub unforked-all-same : (log : Log) (parts : List PartitionState) → Pairwise (λ number. IsUnforked log) 1 parts parts
unforked-all-same log parts =
    pairs-same (λ number. IsUnforked log) 0 (λ number p late. unforked-same log p) 1 parts (omega arith)

module _ (log : Log) (olds news : List PartitionState) (pairs : Pairwise (λ number. IsUnforked log) 1 olds news) where
  keeps-unforked : (number : ℕ) (old new : PartitionState) → IsUnforked log old new → KeepsPlace old new
  keeps-unforked number old new unforked = (unforked.job.terms, unforked.job.part)

  pub unforked-partitions : (lists : Lists) → ArePartitions lists olds → ArePartitions lists news
  unforked-partitions lists are = still-partitions (λ number. IsUnforked log) keeps-unforked olds news pairs lists are

  pub unforked-whole : HaveNoPart olds → HaveNoPart news
  unforked-whole none = still-whole (λ number. IsUnforked log) keeps-unforked olds news pairs none

module _ (n : ℕ) (kit : Origin) (log known : Log) (snapshots : List SnapshotState) (place : ℕ)
    (placed : length snapshots ≡ place) (olds news : List PartitionState) (ends : place ≡ length olds)
    (forked : Pairwise (Before (place + 1) (ForksExactlyHere n kit log known snapshots)) 1 olds news) where
  counted : length snapshots ≡ length olds
  counted = placed ∙ ends

  each-exactly : Pairwise (ForksExactlyHere n kit log known snapshots) 1 olds news
  each-exactly =
      before-all (ForksExactlyHere n kit log known snapshots) (place + 1) 1 olds news forked (omega (arith, ends))

  -- also for a client who has seen another beginning of the serial list
  pub forks-all : (seen : Log) → IsPrefix seen log → ForksAll n kit log seen olds news snapshots
  forks-all seen begins = record {
    count = counted;
    each = pairs-map (ForksExactlyHere n kit log known snapshots) (ForksHere n kit log seen snapshots)
        (λ number old new here. some-map (λ snapshot. ForksExactly n kit log known snapshot old new) _
        (slice_get snapshots (number - 1))
        (λ snapshot forked. forks-known n kit log known seen old new snapshot begins forked.forks) here) 1 olds news
        each-exactly;
  }

  -- the partition that a snapshot is of
  fork-at : (k : ℕ) (snapshot : SnapshotState) → slice_get snapshots k ≡ Some snapshot → (old : PartitionState)
      × (new : PartitionState) × (slice_get olds k ≡ Some old) × Forks n kit log known old new snapshot
  fork-at k snapshot there =
      let within : k < length olds = omega (arith, get-within snapshots k snapshot there, counted) in
      let at = pairs-get (ForksExactlyHere n kit log known snapshots) 1 olds news each-exactly k within in
      let back : 1 + k - 1 ≡ k = omega arith in
      let here = subst (λ m. IsSomeAnd (slice_get snapshots m) (λ snapshot. ForksExactly n kit log known snapshot at.old
      at.new)) back at.relates in (
        at.old,
        at.new,
        at.old_is,
        (some-this (λ snapshot. ForksExactly n kit log known snapshot at.old at.new) (slice_get snapshots k) snapshot
            there here).forks,
      )

  -- the snapshots are of the kit
  pub forked-kit : AreOfKit kit snapshots
  forked-kit k = some-each (λ snapshot. snapshot.name ≡ kit.name → snapshot.desk ≡ desk_of kit snapshot.warehouse)
      (slice_get snapshots k) (λ snapshot there name_is.
      let forks = (fork-at k snapshot there).3 in forks.desk ∙ ap (desk_of kit) (sym forks.warehouse))

  keeps-forked : (number : ℕ) (old new : PartitionState) → ForksExactlyHere n kit log known snapshots number old new
      → KeepsPlace old new
  keeps-forked number old new here =
      let forks = (some-out (λ snapshot. ForksExactly n kit log known snapshot old new)
      (slice_get snapshots (number - 1)) here).2.forks in
      (forks.job.terms, forks.job.part)

  pub forked-whole : HaveNoPart olds → HaveNoPart news
  forked-whole none =
      still-whole (ForksExactlyHere n kit log known snapshots) keeps-forked olds news each-exactly none

  module _ (lists : Lists) (are : ArePartitions lists olds) where
    pub forked-partitions : ArePartitions lists news
    forked-partitions =
        still-partitions (ForksExactlyHere n kit log known snapshots) keeps-forked olds news each-exactly lists are

    pub forked-kept : (place : ℕ) → IfSome (slice_get news place) (λ p. p.kept ≡ projection_of (suc place) log)
    forked-kept =
        numbered-hold (ForksExactlyHere n kit log known snapshots) olds news each-exactly (IsPartition lists)
        (λ number p. p.kept ≡ projection_of number log) (λ number old new here is.
        let forks = (some-out (λ snapshot. ForksExactly n kit log known snapshot old new)
        (slice_get snapshots (number - 1)) here).2.forks in
        forks.job.kept ∙ forks.all ∙ ap (λ w. projection_of w log) is.1) are.each

    -- one snapshot, of the partition at its place
    spells-here : (place : ℕ) (snapshot : SnapshotState) → slice_get snapshots place ≡ Some snapshot
        → (snapshot.load.items ≡ (database_behind lists log).items)
        × Spells n snapshot.bytes (rows_of (suc place) (database_behind lists log))
    spells-here place snapshot there =
        let at = fork-at place snapshot there in
        let forks = at.3 in
        let is = partition-at lists olds are place at.0 at.2 in
        let between : HasWarehouse lists (suc place) =
        IsBetween-bounds 1 (length lists.tables.warehouses) (suc place) (omega arith)
        (omega (arith, get-within snapshots place snapshot there, counted, are.count)) in (
          ap (λ (load : Lists). load.items) (forks.load ∙ is.0) ∙ sym (replay-after lists (commits_in log)).items,
          subst (λ (rows : Tables). Spells n snapshot.bytes rows)
              (rows-behind lists log (suc place) at.0 between is.0 is.1 forks.all) forks.spells,
        )

    pub spells-database : SpellsDatabase n (database_behind lists log) snapshots
    spells-database = record {
      count = counted ∙ are.count ∙ sym (count-after lists (commits_in log));
      each = λ place. some-each (λ snapshot. (snapshot.load.items ≡ (database_behind lists log).items)
          × Spells n snapshot.bytes (rows_of (suc place) (database_behind lists log))) (slice_get snapshots place)
          (spells-here place);
    }
