use Rattle.std.proofs.Common.{◌≡◌, ◌+◌, ◌<◌, List, length, drop, slice_index_or, sym, ap, ◌∙◌, arith}
use Rattle.hy_partition.specs.Partition.{PartitionState}
use Rattle.hy_crossing.specs.Crossings.{some_is_full}
use Rattle.hy_crossing.proofs.FullLaws.{full-here, none-is-full, passes-free, passing-next, set-same}
use Rattle.hy_crossing.proofs.NamedWalkLaws.{behind, is-within}
use Rattle.hy_crossing.proofs.before.is_some_full.Goals as goal

pub part-requires : goal.part-requires
part-requires g c =
    let within = is-within c.args.command.now c.len.result c.places_before-places.result.now
    c.places_before-places.ensures c.loop-place.place-index c.loop-place-test.true in
    omega (arith, within, c.len.ensures, ap length c.loop-place.invariant.0)

pub returns-then-is_full-clause-full : goal.returns-then-is_full-clause-full
returns-then-is_full-clause-full g c =
    let command = c.args.command.now in
    let places = c.places_before-places.result.now in
    let place = slice_index_or places c.loop-place.place-index 0 in
    let olds = g.P.Parts.states c.args.parts.now in
    let p = c.part.result.now in
    let at = passing-next command olds c.len.result places c.places_before-places.ensures c.loop-place.place-index
    c.len.ensures c.loop-place-test.true c.loop-place.invariant.1 in
    let within : place < length olds = omega (arith, at.within, c.len.ensures) in
    sym (sym at.holds ∙ full-here command place olds p within
    (c.part.ensures.value ∙ ap (λ (rows : List PartitionState). slice_index_or rows place p) c.loop-place.invariant.0)
    at.named (sym c.is_full.ensures ∙ c.if-is_full.true))

pub returns-then-is_full-clause-same : goal.returns-then-is_full-clause-same
returns-then-is_full-clause-same g c =
    let place = slice_index_or c.places_before-places.result.now c.loop-place.place-index 0 in
    let news = g.P.Parts.states c.loop-place.parts in
    let near = is-within c.args.command.now c.len.result c.places_before-places.result.now
    c.places_before-places.ensures c.loop-place.place-index c.loop-place-test.true in
    let within : place < length news = omega (arith, near, c.len.ensures, ap length c.loop-place.invariant.0) in
    g.P.Parts.states_put c.loop-place.parts place c.part.result.now within
    ∙ set-same news place c.part.result.now c.part.ensures.value ∙ c.loop-place.invariant.0

pub loop-place-preserved : goal.loop-place-preserved
loop-place-preserved g c =
    let command = c.args.command.now in
    let places = c.places_before-places.result.now in
    let place = slice_index_or places c.loop-place.place-index 0 in
    let olds = g.P.Parts.states c.args.parts.now in
    let news = g.P.Parts.states c.loop-place.parts in
    let p = c.part.result.now in
    let same : news ≡ olds = c.loop-place.invariant.0 in
    let at = passing-next command olds c.len.result places c.places_before-places.ensures c.loop-place.place-index
    c.len.ensures c.loop-place-test.true c.loop-place.invariant.1 in
    let within : place < length olds = omega (arith, at.within, c.len.ensures) in
    let within_news : place < length news = omega (arith, within, ap length same) in (
      g.P.Parts.states_put c.loop-place.parts place p within_news ∙ set-same news place p c.part.ensures.value ∙ same,
      behind places c.loop-place.place-index
          (λ place. some_is_full command (place + 1) (drop place olds) ≡ some_is_full command 1 olds)
          (passes-free command place olds p within
          (c.part.ensures.value ∙ ap (λ (rows : List PartitionState). slice_index_or rows place p) same)
          (sym c.is_full.ensures ∙ c.if-is_full.false)
          ∙ at.holds),
    )

pub returns-clause-full : goal.returns-clause-full
returns-clause-full g c =
    sym (none-is-full c.args.command.now (g.P.Parts.states c.args.parts.now) c.len.result
    c.places_before-places.result.now c.places_before-places.ensures c.loop-place.place-index c.len.ensures
    c.loop-place.auto.place-index-end c.loop-place-test.false c.loop-place.invariant.1)
