use Rattle.std.proofs.Common.{◌≡◌, ◌+◌, ◌<◌, ◌≤◌, suc, true, Some, List, length, slice_index_or, inl, refl, sym, ap, ◌∙◌, subst, arith}
use Rattle.hy_partition.specs.Partition.{PartitionState}
use Rattle.hy_partition.specs.Unsettled.{part_of}
use Rattle.hy_crossing.specs.Crossings.{IsQuietIfNamed, UndoesIfNamed, is_named}
use Rattle.hy_crossing.specs.Lists.{IsDoneUpTo}
use Rattle.hy_crossing.proofs.NamedWalkLaws.{behind, is-within}
use Rattle.hy_crossing.proofs.PlaceLaws.{holds-at}
use Rattle.hy_crossing.proofs.StillLaws.{AreUndoneBefore, undoing-end, undoing-next}
use Rattle.hy_crossing.proofs.TurnLaws.{done-here, done-more, done-start}
use Rattle.hy_crossing.proofs.UnsettledLaws.{left-here, left-start, no-reply-left, none-left, some-left}
use Rattle.hy_crossing.proofs.undoing.undo_parts.Goals as goal

pub places_before-places-requires : goal.places_before-places-requires
places_before-places-requires g c = omega (arith, c.requires.end, c.requires.few)

pub loop-place-init : goal.loop-place-init
loop-place-init g c = record {
  undone = done-start (UndoesIfNamed c.args.command.now) (g.P.Parts.states c.args.parts.now);
  left =
      left-start c.args.command.now c.args.end c.args.unsettled c.requires.counted c.requires.replied c.requires.unshared;
  same = refl;
}

pub part-requires : goal.part-requires
part-requires g c =
    let within = is-within c.args.command.now c.args.end c.places_before-places.result.now
    c.places_before-places.ensures c.loop-place.place-index c.loop-place-test.true in
    omega (arith, within, c.requires.end, c.loop-place.invariant.undone.count)

pub undo_part-requires : goal.undo_part-requires
undo_part-requires g c =
    let command = c.args.command.now in
    let places = c.places_before-places.result.now in
    let place = slice_index_or places c.loop-place.place-index 0 in
    let olds = g.P.Parts.states c.args.parts.now in
    let news = g.P.Parts.states c.loop-place.parts in
    let p = c.part.result.now in
    let at = undoing-next command c.args.end (part_of c.args.unsettled) olds news c.loop-place.unsettled places
    c.places_before-places.ensures c.loop-place.place-index c.requires.end c.loop-place-test.true
    c.loop-place.invariant in
    let ends : c.args.end ≤ length olds = c.requires.end in
    let within : place < length olds = omega (arith, at.within, ends) in
    let within_news : place < length news = omega (arith, within, at.holds.undone.count) in
    let here = done-here (UndoesIfNamed command) place olds news at.holds.undone within_news p c.part.ensures.value in
    let quiet = holds-at (IsQuietIfNamed command (suc place)) olds place p within here (c.requires.quiet place) in
    let held = holds-at (λ (p : PartitionState). is_named command (suc place) ≡ true → p.part ≡ Some (part_of c.args.unsettled))
    olds place p within here (c.requires.held place at.within) in
    let next : place + 1 ≡ suc place = omega arith in
    let named : is_named command (place + 1) ≡ true = at.named in
    let named_next : is_named command (suc place) ≡ true = subst (λ n. is_named command n ≡ true) next named in (
      omega arith,
      (
        quiet named_next,
        (
          held named_next ∙ ap Some (sym at.holds.same),
          some-left command place c.args.end c.loop-place.unsettled at.holds.left at.within named,
        ),
      ),
    )

pub loop-place-preserved : goal.loop-place-preserved
loop-place-preserved g c =
    let command = c.args.command.now in
    let places = c.places_before-places.result.now in
    let place = slice_index_or places c.loop-place.place-index 0 in
    let olds = g.P.Parts.states c.args.parts.now in
    let news = g.P.Parts.states c.loop-place.parts in
    let now = c.loop-place.unsettled in
    let at = undoing-next command c.args.end (part_of c.args.unsettled) olds news now places c.places_before-places.ensures
    c.loop-place.place-index c.requires.end c.loop-place-test.true c.loop-place.invariant in
    let ends : c.args.end ≤ length olds = c.requires.end in
    let within : place < length news = omega (arith, at.within, ends, at.holds.undone.count) in
    let named : is_named command (place + 1) ≡ true = at.named in
    behind places c.loop-place.place-index (AreUndoneBefore command c.args.end (part_of c.args.unsettled) olds
    (g.P.Parts.states (g.P.Parts.put c.loop-place.parts (slice_index_or places c.loop-place.place-index 0) c.undo_part.new.self))
    c.undo_part.new.unsettled) record {
      undone = subst (λ (rows : List PartitionState). IsDoneUpTo (UndoesIfNamed command) (place + 1) olds rows)
          (sym (g.P.Parts.states_put c.loop-place.parts place _ within))
          (done-more (UndoesIfNamed command) place olds news at.holds.undone within c.part.result.now c.undo_part.new.self
          (sym c.part.ensures.value) (inl (named, c.undo_part.ensures.undone)));
      left = left-here command place c.args.end now at.holds.left at.within c.undo_part.new.unsettled named
          c.undo_part.ensures.settled;
      same = ap part_of c.undo_part.ensures.settled ∙ at.holds.same;
    }

pub close-requires-clause-settled : goal.close-requires-clause-settled
close-requires-clause-settled g c =
    let ended = undoing-end c.args.command.now c.args.end (part_of c.args.unsettled) (g.P.Parts.states c.args.parts.now)
    (g.P.Parts.states c.loop-place.parts) c.loop-place.unsettled c.places_before-places.result.now
    c.places_before-places.ensures c.loop-place.place-index c.requires.end c.loop-place.auto.place-index-end
    c.loop-place-test.false c.loop-place.invariant in
    none-left c.args.command.now c.args.end c.args.end c.loop-place.unsettled ended.left refl

pub close-requires-clause-unanswered : goal.close-requires-clause-unanswered
close-requires-clause-unanswered g c =
    let ended = undoing-end c.args.command.now c.args.end (part_of c.args.unsettled) (g.P.Parts.states c.args.parts.now)
    (g.P.Parts.states c.loop-place.parts) c.loop-place.unsettled c.places_before-places.result.now
    c.places_before-places.ensures c.loop-place.place-index c.requires.end c.loop-place.auto.place-index-end
    c.loop-place-test.false c.loop-place.invariant in
    no-reply-left c.args.command.now c.args.end c.args.end c.loop-place.unsettled ended.left refl

pub close-requires-clause-unshared : goal.close-requires-clause-unshared
close-requires-clause-unshared g c = c.loop-place.invariant.left.share

pub returns : goal.returns
returns g c =
    (undoing-end c.args.command.now c.args.end (part_of c.args.unsettled) (g.P.Parts.states c.args.parts.now)
    (g.P.Parts.states c.loop-place.parts) c.loop-place.unsettled c.places_before-places.result.now
    c.places_before-places.ensures c.loop-place.place-index c.requires.end c.loop-place.auto.place-index-end
    c.loop-place-test.false c.loop-place.invariant).undone
