use Rattle.std.proofs.Common.{◌≡◌, ◌∙◌, ◌+◌, ◌<◌, ◌≤◌, suc, List, length, slice_index_or, ap, arith, refl, subst}
use Rattle.hy_partition.specs.Partition.{PartitionState}
use Rattle.hy_crossing.specs.Crossings.{IsWhole}
use Rattle.hy_crossing.proofs.BeforeLaws.{before-all, before-more}
use Rattle.hy_crossing.proofs.FullLaws.{set-same}
use Rattle.hy_crossing.proofs.PlaceLaws.{held-at}
use Rattle.hy_crossing.proofs.LookingLaws.{all-whole}
use Rattle.hy_crossing.proofs.looking.are_partitions.Goals as goal

pub loop-place-preserved : goal.loop-place-preserved
loop-place-preserved g c =
    let place = c.loop-place.place in
    let lists = g.K.Loaded.load in
    let olds = g.P.Parts.states c.args.parts.now in
    let news = g.P.Parts.states c.loop-place.parts in
    let p = c.part.result.now in
    let same : news ≡ olds = c.loop-place.invariant.0 in
    let within : place < length olds = omega (arith, c.loop-place-test.true, c.loop-place.invariant.2) in
    let within_news : place < length news = omega (arith, within, ap length same) in
    let next : place + 1 ≡ suc place = omega arith in
    let whole : IsWhole lists (place + 1) p = c.is_whole.ensures.0 c.if-not-is_whole.false in (
      g.P.Parts.states_put c.loop-place.parts place p within_news ∙ set-same news place p c.part.ensures.value ∙ same,
      before-more (λ other. IsWhole lists (suc other)) olds place c.loop-place.invariant.1
          (held-at (IsWhole lists (suc place)) olds place p within
          (c.part.ensures.value ∙ ap (λ (rows : List PartitionState). slice_index_or rows place p) same)
          (subst (λ n. IsWhole lists n p) next whole)),
      c.loop-place.invariant.2,
    )

pub returns-clause-are : goal.returns-clause-are
returns-clause-are g c =
    let lists = g.K.Loaded.load in
    let olds = g.P.Parts.states c.args.parts.now in
    let each = before-all (λ other. IsWhole lists (suc other)) olds c.loop-place.place c.loop-place.invariant.1
    (omega (arith, c.loop-place-test.false, c.loop-place.invariant.2)) in
    let some : 1 ≤ length olds = omega (arith, c.len-count.ensures, c.if-count-eq0.false) in
    let count : length olds ≡ length lists.tables.warehouses = omega (
      arith,
      c.len-count.ensures,
      c.warehouses_of_load.ensures.count,
      c.if-warehouses_of_load-count.false,
    ) in
    let parts = all-whole lists olds count each in
    (λ is. (some, parts.0, parts.1), λ whole. refl)
