use Rattle.std.proofs.Common.{◌≡◌, ◌<◌, List, length, slice_index_or, ap, ◌∙◌, arith}
use Rattle.hy_worlds.specs.Origins.{replayed_of}
use Rattle.hy_crossing.specs.of_partition.Partition.{PartitionState}
use Rattle.hy_crossing.proofs.BeforeLaws.{before-all, before-more}
use Rattle.hy_crossing.proofs.FullLaws.{set-same}
use Rattle.hy_crossing.proofs.PlaceLaws.{held-at}
use Rattle.hy_forks.proofs.knowing.know_replayed.Goals as goal

pub loop-place-preserved : goal.loop-place-preserved
loop-place-preserved g c =
    let place = c.loop-place.place in
    let olds = g.P.Parts.states c.args.parts.now in
    let news = g.P.Parts.states c.loop-place.parts in
    let p = c.part.result.now in
    let same : news ≡ olds = c.loop-place.invariant.0 in
    let within : place < length olds = omega (arith, c.loop-place-test.true, c.loop-place.invariant.2) in
    let within_news : place < length news = omega (arith, within, ap length same) in (
      g.P.Parts.states_put c.loop-place.parts place p within_news ∙ set-same news place p c.part.ensures.value ∙ same,
      before-more (λ other (p : PartitionState). p.replayed ≡ replayed_of g.K.World.passes p.warehouse) olds place
          c.loop-place.invariant.1
          (held-at (λ (p : PartitionState). p.replayed ≡ replayed_of g.K.World.passes p.warehouse) olds place p within
          (c.part.ensures.value ∙ ap (λ (rows : List PartitionState). slice_index_or rows place p) same)
          c.ties.ensures.replayed),
      c.loop-place.invariant.2,
    )

pub returns-clause-known : goal.returns-clause-known
returns-clause-known g c =
    before-all (λ other (p : PartitionState). p.replayed ≡ replayed_of g.K.World.passes p.warehouse)
    (g.P.Parts.states c.args.parts.now) c.loop-place.place c.loop-place.invariant.1
    (omega (arith, c.loop-place-test.false, c.loop-place.invariant.2))
