-- The partitions go on their way through a batch.
use Rattle.std.proofs.Common.{◌≡◌, ◌≢◌, ◌<◌, ◌==◌, ◌&&◌, ℕ, suc, ◌+◌, Bool, true, false, List, [], ◌∷◌, ◌++◌, drop, length, Some, None, inl, inr, refl, sym, ap, ◌∙◌, subst, arith, length-append, append_assoc}
use Rattle.std.specs.Prelude.{IfSome, nat_le, slice_get, slice_index_or, slice_set}
use Rattle.std.specs.List.{filter_map, list_all}
use mathlib.Core.List.{IsPrefix}
use Rattle.std.proofs.lemmas.Bool.{and_parts, eqb-false, eqb-true, lt-ltb}
use Rattle.std.proofs.lemmas.List.Elements.{filter_map-append}
use Rattle.hy_rows.specs.Tables.{Lists}
use Rattle.hy_passes.specs.declared.entry.Entry.{Entry}
use Rattle.hy_commands.specs.declared.command.Command.{Command}
use Rattle.hy_commands.specs.declared.command.Commit.{Commit}
use Rattle.hy_commands.specs.declared.command.Commit.TheVariants as commits
use Rattle.hy_commands.specs.declared.edition.Edition.{Edition}
use Rattle.hy_commands.specs.Commands.{is_in_range, number_of}
use Rattle.hy_commands.specs.Parts.{is_by_number}
use Rattle.hy_batches.specs.Grammar.{commit_fits, is_allowed, names, names_several}
use Rattle.hy_forks.specs.of_partition.Jobs.{Log}
use Rattle.hy_forks.specs.of_partition.Partition.{PartitionState, replays}
use Rattle.hy_forks.specs.of_crossing.Crossings.{ArePartitions, HaveNoPart}
use Rattle.hy_forks.specs.of_crossing.Lists.{Pairwise}
use Rattle.hy_forks.proofs.of_crossing.InformLaws.{pairs-count}
use Rattle.hy_sound.specs.Sound.{are_replayable, crossings_of, is_known, names_one_of}
use Rattle.hy_sound.specs.Merges.{FindsCrossing, FindsNone, LacksCrossing, MergeState, PassesCrossing, count_of, left_of, next_of}
use Rattle.hy_sound.specs.inside.Steps.{IsAtCrossing, IsSoundFrom}
use Rattle.hy_sound.proofs.ListLaws.{next-first}
use Rattle.hy_sound.proofs.SoundLaws.{known-crossing, leads-crossing, next-named, none-left, sound-local, unsound-lacking}
use Rattle.hy_recovery.specs.Recovering.{HasNoFrameLeft, StopsAtCommit}
use Rattle.hy_recovery.specs.inside.Ways.{Aim, AreOnWay, AreThere, CanRunCrossing, CanRunLocal, Enters, HasNoFrame, HasNoFrameFor, IsAlone, IsAtRest, IsBound, KeepsOne, KeepsWhereNamed, SomeHasNoFrame, crossings_in, may_stand}
use Rattle.hy_recovery.proofs.FrameLaws.{begins-with, kept-there, kept_at, named-no-frame, several-add}
use Rattle.hy_recovery.proofs.PlaceLaws.{at-place, each-from, each-set, get-some, get-there, get-within, length-set, pairs-each}

-- ---- numbers

crossings-more : (log : Log) (entry : Entry Commit) → crossings_in (log ++ entry ∷ [])
    ≡ crossings_in log + length (filter_map (λ (e : Entry Commit). number_of e.commit) (entry ∷ []))
crossings-more log entry =
    ap length (filter_map-append (λ (e : Entry Commit). number_of e.commit) log (entry ∷ []))
    ∙ length-append (filter_map (λ (e : Entry Commit). number_of e.commit) log) _

pub crossings-local : (edition : Edition) (command : Command) (before after : Log) → Enters (commits.Local edition command) before after
    → crossings_in after ≡ crossings_in before
crossings-local edition command before after enters =
    let entry : Entry Commit = record { commit = commits.Local edition command; stamp = enters.0 } in
    ap crossings_in enters.1 ∙ crossings-more before entry ∙ omega arith

pub crossings-next : (edition : Edition) (number : ℕ) (command : Command) (before after : Log)
    → Enters (commits.Cross edition number command) before after → crossings_in after ≡ suc (crossings_in before)
crossings-next edition number command before after enters =
    let entry : Entry Commit = record { commit = commits.Cross edition number command; stamp = enters.0 } in
    ap crossings_in enters.1 ∙ crossings-more before entry ∙ omega arith

-- ---- what is known of partitions on their way

module _ (lists : Lists) (aim : Aim) (merge : MergeState) (log : Log) (parts : List PartitionState)
    (way : AreOnWay lists aim merge log parts) where
  pub way-partitions : ArePartitions lists parts
  way-partitions = record {
    count = way.count;
    each = λ place. each-from _ (slice_get parts place) (λ p at.
        let bound = at-place (IsBound lists aim (left_of merge place) place) parts place p at (way.each place) in
        (ap (λ t. t.load) bound.terms, ap (λ t. t.warehouse) bound.terms));
  }

  pub way-whole : HaveNoPart parts
  way-whole place = each-from _ (slice_get parts place) (λ p at.
      (at-place (IsBound lists aim (left_of merge place) place) parts place p at (way.each place)).rest.part)

  pub way-rest : (place : ℕ) → IfSome (slice_get parts place) IsAtRest
  way-rest place = each-from IsAtRest (slice_get parts place) (λ p at.
      (at-place (IsBound lists aim (left_of merge place) place) parts place p at (way.each place)).rest)

  -- where a commit is left, the log is replayed
  way-replays : (place : ℕ) (p : PartitionState) (commit : Commit) → slice_get parts place ≡ Some p
      → next_of (left_of merge place) ≡ Some commit → replays p ≡ true
  way-replays place p commit at next =
      let bound = at-place (IsBound lists aim (left_of merge place) place) parts place p at (way.each place) in
      let rest = next-first (left_of merge place) commit next in
      let whole : length (aim.goal place) ≡ length p.kept + length (left_of merge place) =
      sym (ap length bound.kept) ∙ length-append p.kept (left_of merge place) in
      let some : length (left_of merge place) ≡ suc (length (drop 1 (left_of merge place))) = ap length rest in
      let few = way.from_log place (get-within parts place p at) in
      lt-ltb (length p.kept) p.replayed (omega (arith, whole, some, few, ap (λ t. t.replayed) bound.terms))

  way-alone : (place : ℕ) → IfSome (slice_get parts place) IsAlone
  way-alone place = each-from IsAlone (slice_get parts place) (λ p at.
      (at-place (IsBound lists aim (left_of merge place) place) parts place p at (way.each place)).snapshots)

  -- each has kept the first of what it is to keep, and where a commit is left it is the next
  begun : (place : ℕ) → place < length lists.tables.warehouses → IsPrefix (kept_at parts place) (aim.goal place)
  begun place within =
      let found = get-some parts place (omega (arith, within, way.count)) in
      let bound = at-place (IsBound lists aim (left_of merge place) place) parts place found.0 found.1 (way.each place) in
      subst (λ (rows : List Commit). IsPrefix rows (aim.goal place)) (sym (kept-there parts place found.0 found.1))
      (begins-with found.0.kept (left_of merge place) (aim.goal place) bound.kept)

  next-kept : (place : ℕ) (commit : Commit) → place < count_of merge → next_of (left_of merge place) ≡ Some commit
      → IsPrefix (kept_at parts place ++ commit ∷ []) (aim.goal place)
  next-kept place commit within next =
      let found = get-some parts place (omega (arith, within, way.lists_are)) in
      let kept : List Commit = found.0.kept in
      let rest : List Commit = drop 1 (left_of merge place) in
      let bound = at-place (IsBound lists aim (left_of merge place) place) parts place found.0 found.1 (way.each place) in
      subst (λ (rows : List Commit). IsPrefix (rows ++ commit ∷ []) (aim.goal place)) (sym (kept-there parts place found.0 found.1))
      (begins-with (kept ++ commit ∷ []) rest (aim.goal place)
      (append_assoc kept (commit ∷ []) rest ∙ ap (λ (rows : List Commit). kept ++ rows) (sym (next-first (left_of merge place) commit next))
      ∙ bound.kept))

  full-at : (n place : ℕ) (p : PartitionState) → slice_get parts place ≡ Some p → HasNoFrame n p
      → HasNoFrameLeft n lists aim.frames (suc place) (kept_at parts place)
  full-at n place p at full =
      let bound = at-place (IsBound lists aim (left_of merge place) place) parts place p at (way.each place) in
      named-no-frame n p lists aim.frames (suc place) (kept_at parts place) _ bound.terms refl refl bound.max_frames
      (sym (kept-there parts place p at)) full

  -- where a commit is left, there is room for it
  room : (place : ℕ) (p : PartitionState) (commit : Commit) → slice_get parts place ≡ Some p
      → next_of (left_of merge place) ≡ Some commit → length p.kept < p.max_kept
  room place p commit at next =
      let bound = at-place (IsBound lists aim (left_of merge place) place) parts place p at (way.each place) in
      let rest = next-first (left_of merge place) commit next in
      let whole : length (aim.goal place) ≡ length p.kept + length (left_of merge place) =
      sym (ap length bound.kept) ∙ length-append p.kept (left_of merge place) in
      let some : length (left_of merge place) ≡ suc (length (drop 1 (left_of merge place))) = ap length rest in
      let few = way.few place (get-within parts place p at) in
      omega (arith, whole, some, few, ap (λ t. t.max_kept) bound.terms)

  allowed-next : (place : ℕ) (commit : Commit) → place < count_of merge → next_of (left_of merge place) ≡ Some commit
      → may_stand (suc place) commit ≡ true
  allowed-next place commit within next =
      (and_parts (may_stand (suc place) commit) (list_all (may_stand (suc place)) (drop 1 (left_of merge place)))
      (sym (ap (list_all (may_stand (suc place))) (next-first (left_of merge place) commit next))
      ∙ way.allowed place within)).0

  -- ---- a commit of one warehouse is next

  module _ (place : ℕ) (edition : Edition) (command : Command) (p : PartitionState) (within : place < count_of merge)
      (here : p ≡ slice_index_or parts place p)
      (next : next_of (left_of merge place) ≡ Some (commits.Local edition command)) where
    inside : place < length parts
    inside = omega (arith, within, way.lists_are)

    at : slice_get parts place ≡ Some p
    at = get-there parts place p inside here

    bound : IsBound lists aim (left_of merge place) place p
    bound = at-place (IsBound lists aim (left_of merge place) place) parts place p at (way.each place)

    first : left_of merge place ≡ commits.Local edition command ∷ drop 1 (left_of merge place)
    first = next-first (left_of merge place) (commits.Local edition command) next

    pub can-local : CanRunLocal edition command p
    can-local = record {
      rest = bound.rest;
      replays = way-replays place p (commits.Local edition command) at next;
      allowed =
          ap (λ t. may_stand t.warehouse (commits.Local edition command)) bound.terms
          ∙ allowed-next place (commits.Local edition command) within next;
      known =
          ap (λ t. is_known t.load command) bound.terms
          ∙ (and_parts (is_known lists command) (are_replayable lists (drop 1 (left_of merge place)))
          (sym (ap (are_replayable lists) first) ∙ way.sound.replayable place within)).0;
      few = room place p (commits.Local edition command) at next;
      alone = bound.snapshots;
    }

    -- no frame is left for it
    pub stops-local : (n : ℕ) → HasNoFrameFor n command p → StopsAtCommit n lists aim.frames aim.goal
    stops-local n lacks = record {
      kept = kept_at parts;
      begun = begun;
      commit = commits.Local edition command;
      home = place;
      next = next-kept place (commits.Local edition command) within next;
      grows = lacks.1;
      place = place;
      within = omega (arith, within, way.lists_are, way.count);
      own = λ none. refl;
      full = full-at n place p at lacks.0;
    }

    module _ (after : MergeState) (new : PartitionState) (later : Log)
        (keeps : KeepsOne (commits.Local edition command) p new) (enters : Enters (commits.Local edition command) log later)
        (count : count_of after ≡ count_of merge) (left : left_of after place ≡ drop 1 (left_of merge place))
        (others : (other : ℕ) → other ≢ place → left_of after other ≡ left_of merge other) where
      bound-new : IsBound lists aim (left_of after place) place new
      bound-new = record {
        terms = keeps.terms ∙ bound.terms;
        kept =
            ap (λ rows. rows ++ left_of after place) keeps.kept
            ∙ append_assoc p.kept (commits.Local edition command ∷ []) (left_of after place)
            ∙ ap (λ rows. p.kept ++ commits.Local edition command ∷ rows) left
            ∙ ap (λ rows. p.kept ++ rows) (sym first) ∙ bound.kept;
        rest = keeps.rest;
        max_frames = keeps.max_frames ∙ bound.max_frames;
        snapshots = λ child. ap (λ rows. slice_index_or rows child None) keeps.snapshots ∙ bound.snapshots child;
      }

      allowed-left : (k : ℕ) → k < count_of after → (same : Bool) → (k == place) ≡ same
          → list_all (may_stand (suc k)) (left_of after k) ≡ true
      allowed-left k inside true is =
          let same : k ≡ place = eqb-true k place is in
          subst (λ k. list_all (may_stand (suc k)) (left_of after k) ≡ true) (sym same)
          (ap (list_all (may_stand (suc place))) left
          ∙ (and_parts (may_stand (suc place) (commits.Local edition command))
          (list_all (may_stand (suc place)) (drop 1 (left_of merge place)))
          (sym (ap (list_all (may_stand (suc place))) first) ∙ way.allowed place within)).1)
      allowed-left k inside false is =
          ap (list_all (may_stand (suc k))) (others k (eqb-false k place is))
          ∙ way.allowed k (omega (arith, inside, count))

      pub way-local : AreOnWay lists aim after later (slice_set parts place new)
      way-local = record {
        count = length-set parts place new ∙ way.count;
        lists_are = count ∙ way.lists_are ∙ sym (length-set parts place new);
        each = each-set (λ k p. IsBound lists aim (left_of merge k) k p) (λ k p. IsBound lists aim (left_of after k) k p)
            parts place new inside way.each bound-new
            (λ k p apart is. subst (λ rows. IsBound lists aim rows k p) (sym (others k apart)) is);
        few = λ k inside. way.few k (omega (arith, inside, length-set parts place new));
        from_log = λ k inside. way.from_log k (omega (arith, inside, length-set parts place new));
        allowed = λ k inside. allowed-left k inside (k == place) refl;
        sound =
            subst (λ n. IsSoundFrom lists n aim.last after) (sym (crossings-local edition command log later enters))
            (sound-local lists (crossings_in log) aim.last merge after place edition command count next left others way.sound);
      }

  -- ---- a commit of several warehouses is next

  module _ (edition : Edition) (number : ℕ) (command : Command)
      (finds : FindsCrossing merge (crossings_in log) edition number command)
      (stops : (place : ℕ) → place < count_of merge → IsAtCrossing (left_of merge place)) where
    next-here : (place : ℕ) → place < count_of merge → names command (suc place) ≡ true
        → next_of (left_of merge place) ≡ Some (commits.Cross edition number command)
    next-here place within named =
        next-named lists (crossings_in log) edition number command merge finds aim.last way.sound place within (stops place within)
        named

    fits : may_stand (suc finds.1.0) (commits.Cross edition number command) ≡ true
    fits = allowed-next finds.1.0 (commits.Cross edition number command) finds.1.1.within finds.1.1.next

    allowed : is_allowed (suc finds.1.0) (commits.Cross edition number command) ≡ true
    allowed = (and_parts (is_allowed (suc finds.1.0) (commits.Cross edition number command))
        (commit_fits (commits.Cross edition number command)) fits).0

    numbered : ((is_in_range command && names command (suc finds.1.0) && names_several command && nat_le 1 number) ≡ true)
        × (is_by_number command ≡ true)
    numbered = and_parts
        (is_in_range command && names command (suc finds.1.0) && names_several command && nat_le 1 number)
        (is_by_number command) allowed

    several : names_several command ≡ true
    several =
        (and_parts (is_in_range command && names command (suc finds.1.0)) (names_several command)
        (and_parts (is_in_range command && names command (suc finds.1.0) && names_several command) (nat_le 1 number)
        numbered.0).0).1

    pub can-crossing : CanRunCrossing lists number command log parts
    can-crossing = record {
      several = several;
      by_number = numbered.1;
      known = known-crossing lists (crossings_in log) edition number command merge finds aim.last way.sound;
      next = finds.0;
      rest = way-rest;
      replays = λ place. each-from _ (slice_get parts place) (λ p at named.
          way-replays place p (commits.Cross edition number command) at
          (next-here place (omega (arith, get-within parts place p at, way.lists_are)) named));
      few = λ place. each-from _ (slice_get parts place) (λ p at named.
          room place p (commits.Cross edition number command) at
          (next-here place (omega (arith, get-within parts place p at, way.lists_are)) named));
      alone = way-alone;
    }

    -- some warehouse has no frame left
    pub stops-crossing : (n : ℕ) → SomeHasNoFrame n parts → StopsAtCommit n lists aim.frames aim.goal
    stops-crossing n lacks = record {
      kept = kept_at parts;
      begun = begun;
      commit = commits.Cross edition number command;
      home = finds.1.0;
      next = next-kept finds.1.0 (commits.Cross edition number command) finds.1.1.within finds.1.1.next;
      grows = several-add command several;
      place = lacks.0;
      within = omega (arith, get-within parts lacks.0 lacks.1 lacks.2, way.count);
      own = λ none. absurd (cc);
      full = full-at n lacks.0 lacks.1 lacks.2 lacks.3;
    }

    -- no list goes on otherwise
    pub not-lacking : LacksCrossing edition number command merge → ⊥
    not-lacking lacks =
        unsound-lacking lists (crossings_in log) edition number command merge finds stops lacks aim.last way.sound

    module _ (after : MergeState) (news : List PartitionState) (later : Log)
        (passes : PassesCrossing edition number command merge after)
        (keeps : Pairwise (KeepsWhereNamed command (commits.Cross edition number command)) 1 parts news)
        (enters : Enters (commits.Cross edition number command) log later) where
      same-count : length news ≡ length parts
      same-count = pairs-count (KeepsWhereNamed command (commits.Cross edition number command)) 1 parts news keeps

      bound-after : (place : ℕ) (old new : PartitionState)
          → KeepsWhereNamed command (commits.Cross edition number command) (suc place) old new → place < count_of merge
          → IsBound lists aim (left_of merge place) place old → IsBound lists aim (left_of after place) place new
      bound-after place old new keeps within was = elim keeps [
        | inl named ↦
            let k = named.1 in
            record {
              terms = k.terms ∙ was.terms;
              kept =
                  ap (λ rows. rows ++ left_of after place) k.kept
                  ∙ append_assoc old.kept (commits.Cross edition number command ∷ []) (left_of after place)
                  ∙ ap (λ rows. old.kept ++ rows) (sym (passes.named place within named.0)) ∙ was.kept;
              rest = k.rest;
              max_frames = k.max_frames ∙ was.max_frames;
              snapshots = λ child. ap (λ rows. slice_index_or rows child None) k.snapshots ∙ was.snapshots child;
            }
        | inr other ↦
            let k = other.1 in
            record {
              terms = k.terms ∙ was.terms;
              kept =
                  ap (λ rows. rows ++ left_of after place) k.kept
                  ∙ ap (λ rows. old.kept ++ rows) (passes.others place within other.0) ∙ was.kept;
              rest = k.rest;
              max_frames = k.max_frames ∙ was.max_frames;
              snapshots = λ child. ap (λ rows. slice_index_or rows child None) k.snapshots ∙ was.snapshots child;
            }
      ]

      allowed-after : (k : ℕ) → k < count_of merge → (b : Bool) → names command (suc k) ≡ b
          → list_all (may_stand (suc k)) (left_of after k) ≡ true
      allowed-after k within true named =
          (and_parts (may_stand (suc k) (commits.Cross edition number command)) (list_all (may_stand (suc k)) (left_of after k))
          (sym (ap (list_all (may_stand (suc k))) (passes.named k within named)) ∙ way.allowed k within)).1
      allowed-after k within false other =
          ap (list_all (may_stand (suc k))) (passes.others k within other) ∙ way.allowed k within

      pub way-crossing : AreOnWay lists aim after later news
      way-crossing = record {
        count = same-count ∙ way.count;
        lists_are = passes.count ∙ way.lists_are ∙ sym same-count;
        each = pairs-each (KeepsWhereNamed command (commits.Cross edition number command))
            (λ k p. IsBound lists aim (left_of merge k) k p) (λ k p. IsBound lists aim (left_of after k) k p) parts news
            (λ place old new keeps at there was.
            bound-after place old new keeps (omega (arith, get-within parts place old at, way.lists_are)) was)
            keeps way.each;
        few = λ k inside. way.few k (omega (arith, inside, same-count));
        from_log = λ k inside. way.from_log k (omega (arith, inside, same-count));
        allowed = λ k within. allowed-after k (omega (arith, within, passes.count)) (names command (suc k)) refl;
        sound =
            let next : number ≡ crossings_in later = finds.0 ∙ sym (crossings-next edition number command log later enters) in
            subst (λ n. IsSoundFrom lists n aim.last after) next
            ((leads-crossing lists (crossings_in log) edition number command merge finds
            (known-crossing lists (crossings_in log) edition number command merge finds aim.last way.sound) after passes).forth
            aim.last way.sound);
      }

  -- ---- nothing is next

  pub way-end : FindsNone merge (crossings_in log)
      → ((place : ℕ) → place < count_of merge → IsAtCrossing (left_of merge place)) → AreThere lists aim log parts
  way-end none stops =
      let ends = none-left lists (crossings_in log) aim.last merge none stops way.sound in
      record {
        count = way.count;
        each = λ place. each-from _ (slice_get parts place) (λ p at.
            subst (λ rows. IsBound lists aim rows place p)
            (ends.1 place (omega (arith, get-within parts place p at, way.lists_are)))
            (at-place (IsBound lists aim (left_of merge place) place) parts place p at (way.each place)));
        last = sym ends.0;
      }

  -- another merge that has the same left
  pub way-same : (other : MergeState) → count_of other ≡ count_of merge
      → ((place : ℕ) → left_of other place ≡ left_of merge place) → AreOnWay lists aim other log parts
  way-same other count left = record {
    count = way.count;
    lists_are = count ∙ way.lists_are;
    each = λ place. each-from _ (slice_get parts place) (λ p at.
        subst (λ rows. IsBound lists aim rows place p) (sym (left place))
        (at-place (IsBound lists aim (left_of merge place) place) parts place p at (way.each place)));
    few = way.few;
    from_log = way.from_log;
    allowed = λ k within. ap (list_all (may_stand (suc k))) (left k) ∙ way.allowed k (omega (arith, within, count));
    sound = record {
      in_step = record {
        crossings = way.sound.in_step.crossings;
        numbered = way.sound.in_step.numbered;
        named = ap (λ n. list_all (names_one_of n) way.sound.in_step.crossings) count ∙ way.sound.in_step.named;
        each = λ place within.
            ap crossings_of (left place) ∙ way.sound.in_step.each place (omega (arith, within, count));
        last = way.sound.in_step.last;
      };
      replayable = λ place within.
          ap (are_replayable lists) (left place) ∙ way.sound.replayable place (omega (arith, within, count));
    };
  }
