use Rattle.std.proofs.Common.{◌∙◌, ◌<◌, ℕ, List, length, slice_index_or, ap, arith, refl}
use Rattle.std.proofs.lemmas.Bool.{false≢true}
use Rattle.hy_frames.specs.FrameTable.{free_of}
use Rattle.hy_undo.specs.Touched.{touched}
use Rattle.hy_crossing.specs.of_partition.Partition.{PartitionState}
use Rattle.hy_crossing.proofs.BeforeLaws.{before-all, before-more}
use Rattle.hy_crossing.proofs.FullLaws.{set-same}
use Rattle.hy_crossing.proofs.PlaceLaws.{held-at}
use Rattle.hy_forks.proofs.LackLaws.{lacks-at, none-lacks}
use Rattle.hy_forks.proofs.forks.is_some_lacking.Goals as goal

pub returns-then-free-touched-clause-lacks : goal.returns-then-free-touched-clause-lacks
returns-then-free-touched-clause-lacks g c =
    let place = c.loop-place.place in
    let olds = g.P.Parts.states c.args.parts.now in
    let p = c.part-part.result.now in
    let within : place < length olds = omega (arith, c.loop-place-test.true, c.loop-place.invariant.2) in
    let here = c.part-part.ensures.value
    ∙ ap (λ (rows : List PartitionState). slice_index_or rows place p) c.loop-place.invariant.0 in
    let lacks : free_of p.space.frames < touched p.undo =
    omega (arith, c.if-free-touched.true, c.free.ensures, c.touched.ensures.touched) in
    (λ is. lacks-at olds place p within here lacks, λ some. refl)

pub returns-then-free-touched-clause-same : goal.returns-then-free-touched-clause-same
returns-then-free-touched-clause-same g c =
    let place = c.loop-place.place in
    let news = g.P.Parts.states c.loop-place.parts in
    let p = c.part-part.result.now in
    let within : place < length news = omega (
      arith,
      c.loop-place-test.true,
      c.loop-place.invariant.2,
      ap length c.loop-place.invariant.0,
    ) in
    g.P.Parts.states_put c.loop-place.parts place p within ∙ set-same news place p c.part-part.ensures.value
    ∙ c.loop-place.invariant.0

pub loop-place-preserved : goal.loop-place-preserved
loop-place-preserved g c =
    let place = c.loop-place.place in
    let olds = g.P.Parts.states c.args.parts.now in
    let news = g.P.Parts.states c.loop-place.parts in
    let p = c.part-part.result.now in
    let within : place < length olds = omega (arith, c.loop-place-test.true, c.loop-place.invariant.2) in
    let within_news : place < length news = omega (arith, within, ap length c.loop-place.invariant.0) in
    let here = c.part-part.ensures.value
    ∙ ap (λ (rows : List PartitionState). slice_index_or rows place p) c.loop-place.invariant.0 in (
      g.P.Parts.states_put c.loop-place.parts place p within_news
          ∙ set-same news place p c.part-part.ensures.value ∙ c.loop-place.invariant.0,
      before-more (λ (other : ℕ) (q : PartitionState). free_of q.space.frames < touched q.undo → ⊥) olds place
          c.loop-place.invariant.1
          (held-at (λ (q : PartitionState). free_of q.space.frames < touched q.undo → ⊥) olds place p within here
          (λ lacks. omega (arith, lacks, c.if-free-touched.false, c.free.ensures, c.touched.ensures.touched))),
      c.loop-place.invariant.2,
    )

pub returns-clause-lacks : goal.returns-clause-lacks
returns-clause-lacks g c =
    let olds = g.P.Parts.states c.args.parts.now in
    let none = before-all (λ (other : ℕ) (q : PartitionState). free_of q.space.frames < touched q.undo → ⊥) olds
    c.loop-place.place c.loop-place.invariant.1
    (omega (arith, c.loop-place-test.false, c.loop-place.invariant.2)) in
    (λ is. absurd (false≢true is), λ some. absurd (none-lacks olds none some))
