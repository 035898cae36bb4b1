-- What a walk over the places that a command names knows of the elements before a place, and that it knows as much before the
-- next one where the command doesn't name the place.
use Rattle.std.proofs.Common.{◌≡◌, ◌≢◌, ℕ, suc, ◌+◌, ◌<◌, ◌≤◌, true, false, None, List, length, filter, nat_lt, slice_index_or, inr, refl, sym, ◌∙◌, subst, arith}
use Rattle.std.specs.Prelude.{IfSome, slice_get}
use Rattle.std.proofs.lemmas.Bool.{true≢false}
use Rattle.hy_commands.specs.declared.command.Command.{Command}
use Rattle.hy_commands.specs.declared.edition.Edition.{Edition}
use Rattle.hy_commands.specs.Commands.{customer_home_of, home_of, warehouses_of}
use Rattle.hy_partition.specs.Jobs.{Log, share_of}
use Rattle.hy_partition.specs.Partition.{PartState, PartitionState}
use Rattle.hy_partition.specs.Unsettled.{UnsettledState, part_of}
use Rattle.hy_crossing.specs.Crossings.{DoesIfNamed, IsKnownIfNamed, KeepsPartIfNamed, RepliesFrom, UndoesIfNamed, is_named}
use Rattle.hy_crossing.specs.Lists.{IsDoneUpTo}
use Rattle.hy_crossing.specs.Named.{places_before}
use Rattle.hy_crossing.specs.Unsettled.{AreCounted}
use Rattle.hy_crossing.proofs.BeforeLaws.{before-more, some-any}
use Rattle.hy_crossing.proofs.BehindLaws.{told-same}
use Rattle.hy_crossing.proofs.KeepLaws.{home-named}
use Rattle.hy_crossing.proofs.NamedWalkLaws.{IsReached, at-end, at-next}
use Rattle.hy_crossing.proofs.PlaceLaws.{customer_home-named}
use Rattle.hy_crossing.proofs.TurnLaws.{done-same}
use Rattle.hy_crossing.proofs.UnsettledLaws.{IsLeft, IsUnkept, counted-other, left-other, unkept-other}
use Rattle.hy_crossing.proofs.WalkLaws.{start_of}

-- one that is named isn't at a place that isn't
other-home : (command : Command) (home place : ℕ) → is_named command home ≡ true → is_named command (place + 1) ≡ false
    → home ≤ place + 1 → home ≤ place
other-home command home place named unnamed passed =
    let apart : home ≢ place + 1 = λ same.
    true≢false (sym (subst (λ n. is_named command n ≡ true) same named) ∙ unnamed) in
    omega (arith, apart, passed)

-- ---- parts that are done

-- those before the place are done and counted, and the reply is there once the place of the customer's warehouse was passed
pub record AreDoneBefore (edition : Edition) (command : Command) (olds news : List PartitionState)
    (unsettled : UnsettledState) (place : ℕ) : Type 0 where
  pub done : IsDoneUpTo (DoesIfNamed edition command) place olds news
  pub early : place < customer_home_of command → unsettled.reply ≡ None
  pub late : customer_home_of command ≤ place → RepliesFrom edition command olds unsettled.reply
  pub counted : AreCounted edition command place unsettled

module _ (edition : Edition) (command : Command) (olds news : List PartitionState) (unsettled : UnsettledState) (end : ℕ)
    (places : List ℕ) (are : places ≡ places_before command end) (index : ℕ) (all : end ≡ length olds) where
  abbrev Doing : ℕ → Type 0
  Doing place = AreDoneBefore edition command olds news unsettled place

  still-doing : (place : ℕ) → place < end → is_named command (place + 1) ≡ false → Doing place → Doing (place + 1)
  still-doing place within unnamed before = record {
    done =
        done-same (DoesIfNamed edition command) place olds news before.done (omega (arith, within, all, before.done.count))
        (λ row. (None, inr (unnamed, (refl, refl))));
    early = λ ahead. before.early (omega (arith, ahead));
    late = λ passed.
        before.late (other-home command (customer_home_of command) place (customer_home-named command) unnamed passed);
    counted = counted-other edition command place unsettled unnamed before.counted;
  }

  pub doing-next : index < length places → AreDoneBefore edition command olds news unsettled (start_of places index)
      → IsReached command end (AreDoneBefore edition command olds news unsettled) (slice_index_or places index 0)
  doing-next more before = at-next command end places are index Doing still-doing more before

  pub doing-end : index ≤ length places → length places ≤ index
      → AreDoneBefore edition command olds news unsettled (start_of places index)
      → AreDoneBefore edition command olds news unsettled end
  doing-end few last before = at-end command end places are index Doing still-doing few last before

-- ---- parts that are undone

-- those before the place are undone, and counted no more
pub record AreUndoneBefore (command : Command) (end : ℕ) (part : PartState) (olds news : List PartitionState)
    (unsettled : UnsettledState) (place : ℕ) : Type 0 where
  pub undone : IsDoneUpTo (UndoesIfNamed command) place olds news
  pub left : IsLeft command place end unsettled
  pub same : part_of unsettled ≡ part

module _ (command : Command) (end : ℕ) (part : PartState) (olds news : List PartitionState) (unsettled : UnsettledState)
    (places : List ℕ) (are : places ≡ places_before command end) (index : ℕ) (there : end ≤ length olds) where
  abbrev Undoing : ℕ → Type 0
  Undoing place = AreUndoneBefore command end part olds news unsettled place

  still-undoing : (place : ℕ) → place < end → is_named command (place + 1) ≡ false → Undoing place → Undoing (place + 1)
  still-undoing place within unnamed before = record {
    undone =
        done-same (UndoesIfNamed command) place olds news before.undone
        (omega (arith, within, there, before.undone.count)) (λ row. inr (unnamed, refl));
    left = left-other command place end unsettled before.left within unnamed;
    same = before.same;
  }

  pub undoing-next : index < length places
      → AreUndoneBefore command end part olds news unsettled (start_of places index)
      → IsReached command end (AreUndoneBefore command end part olds news unsettled) (slice_index_or places index 0)
  undoing-next more before = at-next command end places are index Undoing still-undoing more before

  pub undoing-end : index ≤ length places → length places ≤ index
      → AreUndoneBefore command end part olds news unsettled (start_of places index)
      → AreUndoneBefore command end part olds news unsettled end
  undoing-end few last before = at-end command end places are index Undoing still-undoing few last before

-- ---- parts that are kept

-- those before the place are kept, told and counted no more, and the share is there once the home was passed
pub record AreKeptBefore (edition : Edition) (command : Command) (crossing : ℕ) (log : Log) (first : UnsettledState)
    (olds news : List PartitionState) (unsettled : UnsettledState) (still : List ℕ) (place : ℕ) : Type 0 where
  pub kept : IsDoneUpTo (KeepsPartIfNamed edition command crossing log) place olds news
  pub early : place < home_of command → unsettled.share ≡ None
  pub late : home_of command ≤ place → unsettled.share ≡ share_of (home_of command) command
  pub untold : still ≡ filter (λ w. nat_lt place w) (warehouses_of command)
  pub unkept : IsUnkept edition command place (length olds) first unsettled

module _ (edition : Edition) (command : Command) (crossing : ℕ) (log : Log) (first : UnsettledState)
    (olds news : List PartitionState) (unsettled : UnsettledState) (still : List ℕ) (end : ℕ) (places : List ℕ)
    (are : places ≡ places_before command end) (index : ℕ) (all : end ≡ length olds) where
  abbrev Keeping : ℕ → Type 0
  Keeping place = AreKeptBefore edition command crossing log first olds news unsettled still place

  still-keeping : (place : ℕ) → place < end → is_named command (place + 1) ≡ false → Keeping place → Keeping (place + 1)
  still-keeping place within unnamed before =
      let near : place < length olds = omega (arith, within, all) in
      record {
        kept =
            done-same (KeepsPartIfNamed edition command crossing log) place olds news before.kept
            (omega (arith, near, before.kept.count)) (λ row. (None, inr (unnamed, (refl, refl))));
        early = λ ahead. before.early (omega (arith, ahead));
        late = λ passed. before.late (other-home command (home_of command) place (home-named command) unnamed passed);
        untold = before.untold ∙ told-same place (warehouses_of command) unnamed;
        unkept = unkept-other edition command place (length olds) first unsettled before.unkept near unnamed;
      }

  pub keeping-next : index < length places
      → AreKeptBefore edition command crossing log first olds news unsettled still (start_of places index)
      → IsReached command end (AreKeptBefore edition command crossing log first olds news unsettled still)
      (slice_index_or places index 0)
  keeping-next more before = at-next command end places are index Keeping still-keeping more before

  pub keeping-end : index ≤ length places → length places ≤ index
      → AreKeptBefore edition command crossing log first olds news unsettled still (start_of places index)
      → AreKeptBefore edition command crossing log first olds news unsettled still end
  keeping-end few last before = at-end command end places are index Keeping still-keeping few last before

-- ---- partitions that are known

pub record AreKnownBefore (command : Command) (partitions : ℕ) (rows : List PartitionState) (place : ℕ) : Type 0 where
  pub each : (other : ℕ) → other < place
      → IfSome (slice_get rows other) (IsKnownIfNamed command partitions (suc other))

module _ (command : Command) (partitions : ℕ) (rows : List PartitionState) (end : ℕ) (places : List ℕ)
    (are : places ≡ places_before command end) (index : ℕ) where
  abbrev Knowing : ℕ → Type 0
  Knowing place = AreKnownBefore command partitions rows place

  still-knowing : (place : ℕ) → place < end → is_named command (place + 1) ≡ false → Knowing place → Knowing (place + 1)
  still-knowing place within unnamed before =
      let next : place + 1 ≡ suc place = omega arith in record {
        each = before-more (λ other. IsKnownIfNamed command partitions (suc other)) rows place before.each
            (some-any (IsKnownIfNamed command partitions (suc place)) (slice_get rows place) (λ p named.
            absurd (true≢false (sym named ∙ subst (λ n. is_named command n ≡ false) next unnamed))));
      }

  pub knowing-next : index < length places → AreKnownBefore command partitions rows (start_of places index)
      → IsReached command end (AreKnownBefore command partitions rows) (slice_index_or places index 0)
  knowing-next more before = at-next command end places are index Knowing still-knowing more before

  pub knowing-end : index ≤ length places → length places ≤ index
      → AreKnownBefore command partitions rows (start_of places index) → AreKnownBefore command partitions rows end
  knowing-end few last before = at-end command end places are index Knowing still-knowing few last before
