use Rattle.std.proofs.Common.{◌∙◌, ◌+◌, List, length, arith, subst, sym}
use Rattle.hy_crossing.specs.of_partition.Partition.{PartitionState}
use Rattle.hy_crossing.specs.of_partition.Snapshots.{SnapshotState}
use Rattle.hy_crossing.specs.Lists.{Pairwise}
use Rattle.hy_crossing.specs.Pairs.{Before}
use Rattle.hy_forks.specs.inside.Places.{AreOf, ClosesExactlyHere}
use Rattle.hy_forks.specs.Forks.{ClosesHere}
use Rattle.hy_forks.proofs.PartsLaws.{as-whole}
use Rattle.hy_forks.proofs.CloseLaws.{closed-partitions, closed-whole, closes-all, from-lengths, of-parts}
use Rattle.hy_forks.proofs.partitions.Partitions.close_all.Goals as goal

abbrev IsClosed : List PartitionState → List SnapshotState → List PartitionState → Type 0
IsClosed news snapshots olds = Pairwise (Before (length snapshots + 1) (ClosesExactlyHere snapshots)) 1 olds news

pub close_each-requires : goal.close_each-requires
close_each-requires g c =
    let kit = g.K.World.passes in
    let all = c.args.all in
    let olds = g.P.Parts.states c.self.inside.parts in
    let are = of-parts kit all olds c.requires.kit (sym c.are_mine.ensures.mine ∙ c.if-not-are_mine.false) in (
      omega arith,
      subst (λ (snapshots : List SnapshotState). AreOf kit snapshots (g.P.Parts.states c.are_mine.new.parts))
          (sym c.take_apart.ensures) (subst (AreOf kit all) (sym c.are_mine.ensures.same) are),
    )

pub returns-clause-closes : goal.returns-clause-closes
returns-clause-closes g c =
    let all = c.args.all in
    let olds = g.P.Parts.states c.self.inside.parts in
    let news = g.P.Parts.states c.close_each.new.parts in
    subst (λ (rows : List PartitionState). Pairwise (ClosesHere all) 1 rows news) c.self.view_is (closes-all all olds news
    (from-lengths g.K.World.passes all olds (sym c.are_mine.ensures.mine ∙ c.if-not-are_mine.false))
    (subst (IsClosed news all) c.are_mine.ensures.same
    (subst (λ (snapshots : List SnapshotState). IsClosed news snapshots (g.P.Parts.states c.are_mine.new.parts))
    c.take_apart.ensures c.close_each.ensures)))

pub invariant_of-self-2 : goal.invariant_of-self-2
invariant_of-self-2 g c =
    let all = c.args.all in
    let olds = g.P.Parts.states c.self.inside.parts in
    let news = g.P.Parts.states c.close_each.new.parts in
    let count = from-lengths g.K.World.passes all olds (sym c.are_mine.ensures.mine ∙ c.if-not-are_mine.false) in
    let closed = subst (IsClosed news all) c.are_mine.ensures.same
    (subst (λ (snapshots : List SnapshotState). IsClosed news snapshots (g.P.Parts.states c.are_mine.new.parts))
    c.take_apart.ensures c.close_each.ensures) in
    as-whole g.K.Loaded.load olds news c.self.invariant (closed-partitions all olds news count closed g.K.Loaded.load)
    (closed-whole all olds news count closed)
