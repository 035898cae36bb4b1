use Rattle.std.proofs.Common.{◌≡◌, ◌+◌, ◌<◌, ◌≤◌, List, length, slice_index_or, inl, inr, refl, sym, ◌∙◌, subst, arith}
use mathlib.Core.List.{IsPrefix}
use Rattle.hy_partition.specs.Jobs.{Log}
use Rattle.hy_partition.specs.Partition.{PartitionState, projection_of}
use Rattle.hy_crossing.specs.Crossings.{TellsIfNamed}
use Rattle.hy_crossing.specs.Lists.{IsDoneUpTo}
use Rattle.hy_crossing.proofs.NamedWalkLaws.{behind, done-next, done-rest, is-within}
use Rattle.hy_crossing.proofs.TurnLaws.{done-end, done-more}
use Rattle.hy_crossing.proofs.before.tell_named.Goals as goal

pub part-requires : goal.part-requires
part-requires g c =
    let within = is-within c.args.command.now c.len.result c.places_before-places.result.now
    c.places_before-places.ensures c.loop-place.place-index c.loop-place-test.true in
    omega (arith, within, c.len.ensures, c.loop-place.invariant.0.count)

pub loop-place-preserved : goal.loop-place-preserved
loop-place-preserved g c =
    let command = c.args.command.now in
    let places = c.places_before-places.result.now in
    let place = slice_index_or places c.loop-place.place-index 0 in
    let olds = g.P.Parts.states c.args.parts.now in
    let news = g.P.Parts.states c.loop-place.parts in
    let log : Log = c.args.journal.now.list.log in
    let there : c.len.result ≤ length olds = omega (arith, c.len.ensures) in
    let at = done-next command c.len.result places c.places_before-places.ensures c.loop-place.place-index
    (TellsIfNamed command log) olds news (λ number unnamed row. inr (unnamed, refl)) there c.loop-place-test.true
    c.loop-place.invariant.0 in
    let within : place < length news = omega (arith, at.within, there, at.holds.count) in (
      behind places c.loop-place.place-index (λ place. IsDoneUpTo (TellsIfNamed command log) place olds
          (g.P.Parts.states (g.P.Parts.put c.loop-place.parts (slice_index_or places c.loop-place.place-index 0) c.tell.new.self)))
          (subst (λ (rows : List PartitionState). IsDoneUpTo (TellsIfNamed command log) (place + 1) olds rows)
          (sym (g.P.Parts.states_put c.loop-place.parts place _ within))
          (done-more (TellsIfNamed command log) place olds news at.holds within c.part.result.now c.tell.new.self
          (sym c.part.ensures.value) (inl (
            at.named,
            subst (λ (known : Log). (c.tell.new.self ≡ record c.part.result.now { seen = known })
                × (c.part.result.now.kept ≡ projection_of c.part.result.now.warehouse known)
                × IsPrefix c.part.result.now.seen known) c.loop-place.invariant.1
                (c.tell.ensures.told, c.tell.ensures.all, c.tell.ensures.begins),
          )))),
      c.tell.ensures.log ∙ c.loop-place.invariant.1,
    )

pub returns-clause-told : goal.returns-clause-told
returns-clause-told g c =
    let command = c.args.command.now in
    let olds = g.P.Parts.states c.args.parts.now in
    let news = g.P.Parts.states c.loop-place.parts in
    let log : Log = c.args.journal.now.list.log in
    done-end (TellsIfNamed command log) c.len.result olds news
    (done-rest command c.len.result c.places_before-places.result.now c.places_before-places.ensures
    c.loop-place.place-index (TellsIfNamed command log) olds news (λ number unnamed row. inr (unnamed, refl))
    (omega (arith, c.len.ensures)) c.loop-place.auto.place-index-end c.loop-place-test.false c.loop-place.invariant.0)
    (omega (arith, c.len.ensures))
