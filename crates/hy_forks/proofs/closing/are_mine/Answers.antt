use Rattle.std.proofs.Common.{◌∙◌, ◌<◌, List, length, slice_index_or, arith, ap, sym}
use Rattle.std.proofs.lemmas.Bool.{false_from_ne_true}
use Rattle.hy_crossing.specs.of_partition.Partition.{PartitionState}
use Rattle.hy_crossing.proofs.FullLaws.{set-same}
use Rattle.hy_forks.specs.Forks.{are_from}
use Rattle.hy_forks.proofs.CloseLaws.{from-lengths, from-passes}
use Rattle.hy_forks.proofs.closing.are_mine.Goals as goal

pub returns-then-len-clause-mine : goal.returns-then-len-clause-mine
returns-then-len-clause-mine g c =
    let kit = g.K.World.passes in
    let all = c.args.all.now in
    let olds = g.P.Parts.states c.args.parts.now in
    sym (false_from_ne_true (are_from kit all olds)
    (λ is. c.if-len.true (c.len.ensures ∙ from-lengths kit all olds is ∙ sym c.len-2.ensures)))

pub returns-then-not-is_mine-clause-same : goal.returns-then-not-is_mine-clause-same
returns-then-not-is_mine-clause-same g c =
    let place = c.loop-place.place in
    let news = g.P.Parts.states c.loop-place.parts in
    let p = c.part.result.now in
    let within : place < length news = omega (
      arith,
      c.loop-place-test.true,
      c.loop-place.invariant.2,
      ap length c.loop-place.invariant.0,
    ) in
    g.P.Parts.states_put c.loop-place.parts place p within ∙ set-same news place p c.part.ensures.value
    ∙ c.loop-place.invariant.0

pub loop-place-preserved : goal.loop-place-preserved
loop-place-preserved g c =
    let kit = g.K.World.passes in
    let all = c.args.all.now in
    let place = c.loop-place.place in
    let olds = g.P.Parts.states c.args.parts.now in
    let news = g.P.Parts.states c.loop-place.parts in
    let p = c.part.result.now in
    let snapshot = c.part-in-loop-place.result.now in
    let within : place < length olds = omega (arith, c.loop-place-test.true, c.loop-place.invariant.2) in
    let within_news : place < length news = omega (arith, within, ap length c.loop-place.invariant.0) in
    let within_all : place < length all = omega (arith, within, c.if-len.false, c.len.ensures, c.len-2.ensures) in
    let here = c.part.ensures.value
    ∙ ap (λ (rows : List PartitionState). slice_index_or rows place p) c.loop-place.invariant.0 in
    let passed = sym c.is_mine.ensures ∙ c.if-not-is_mine.false in (
      g.P.Parts.states_put c.loop-place.parts place p within_news ∙ set-same news place p c.part.ensures.value
          ∙ c.loop-place.invariant.0,
      from-passes kit all olds place snapshot p within_all within c.part-in-loop-place.ensures here passed
          ∙ c.loop-place.invariant.1,
      c.loop-place.invariant.2,
    )
