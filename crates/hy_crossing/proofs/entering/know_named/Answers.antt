use Rattle.std.proofs.Common.{◌≡◌, ◌<◌, ℕ, suc, List, length, slice_index_or, ap, ◌∙◌, arith}
use Rattle.hy_partition.specs.Partition.{PartitionState}
use Rattle.hy_crossing.specs.Crossings.{IsKnownIfNamed}
use Rattle.hy_crossing.proofs.BeforeLaws.{before-all, before-more}
use Rattle.hy_crossing.proofs.FullLaws.{set-same}
use Rattle.hy_crossing.proofs.NamedWalkLaws.{behind, is-within}
use Rattle.hy_crossing.proofs.PlaceLaws.{held-at}
use Rattle.hy_crossing.proofs.StillLaws.{AreKnownBefore, knowing-end, knowing-next}
use Rattle.hy_crossing.proofs.entering.know_named.Goals as goal

pub part-part-requires : goal.part-part-requires
part-part-requires g c =
    let within = is-within c.args.command.now c.len.result c.places_before-places.result.now
    c.places_before-places.ensures c.loop-place.place-index c.loop-place-test.true in
    omega (arith, within, c.len.ensures, ap length c.loop-place.invariant.0)

pub loop-place-preserved : goal.loop-place-preserved
loop-place-preserved g c =
    let command = c.args.command.now in
    let partitions : ℕ = g.K.World.passes.partitions in
    let places = c.places_before-places.result.now in
    let place = slice_index_or places c.loop-place.place-index 0 in
    let olds = g.P.Parts.states c.args.parts.now in
    let news = g.P.Parts.states c.loop-place.parts in
    let p = c.part-part.result.now in
    let same : news ≡ olds = c.loop-place.invariant.0 in
    let at = knowing-next command partitions olds c.len.result places c.places_before-places.ensures
    c.loop-place.place-index c.loop-place-test.true c.loop-place.invariant.1 in
    let within : place < length olds = omega (arith, at.within, c.len.ensures) in
    let within_news : place < length news = omega (arith, within, ap length same) in (
      g.P.Parts.states_put c.loop-place.parts place p within_news ∙ set-same news place p c.part-part.ensures.value
          ∙ same,
      behind places c.loop-place.place-index (AreKnownBefore command partitions olds) record {
        each = before-more (λ other. IsKnownIfNamed command partitions (suc other)) olds place at.holds.each
            (held-at (IsKnownIfNamed command partitions (suc place)) olds place p within
            (c.part-part.ensures.value ∙ ap (λ (rows : List PartitionState). slice_index_or rows place p) same)
            (λ named. record {
              kept = c.headline.ensures.kept_is_the_projection;
              sound = c.ties.ensures.sound;
              range = c.ties.ensures.range;
              few = c.ties.ensures.few;
              limit = c.ties.ensures.limit;
            }));
      },
    )

pub returns-clause-known : goal.returns-clause-known
returns-clause-known g c =
    let olds = g.P.Parts.states c.args.parts.now in
    before-all (λ other. IsKnownIfNamed c.args.command.now g.K.World.passes.partitions (suc other)) olds c.len.result
    (knowing-end c.args.command.now g.K.World.passes.partitions olds c.len.result c.places_before-places.result.now
    c.places_before-places.ensures c.loop-place.place-index c.loop-place.auto.place-index-end c.loop-place-test.false
    c.loop-place.invariant.1).each
    (omega (arith, c.len.ensures))
