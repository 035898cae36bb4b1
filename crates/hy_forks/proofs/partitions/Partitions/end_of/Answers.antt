use Rattle.std.proofs.Common.{◌≡◌, ◌-◌, ◌<◌, ◌≤◌, ℕ, suc, List, length, sym, ap, subst, arith}
use Rattle.std.specs.Prelude.{Option, IfSome, slice_get}
use Rattle.hy_worlds.specs.Origins.{replayed_of}
use Rattle.hy_crossing.specs.of_partition.Jobs.{Log}
use Rattle.hy_crossing.specs.of_partition.Partition.{PartitionState, projection_of}
use Rattle.hy_crossing.specs.Crossings.{IsPartition}
use Rattle.hy_crossing.proofs.PlaceLaws.{get-some}
use Rattle.hy_forks.specs.Drains.{TellsHere}
use Rattle.hy_forks.proofs.PartsLaws.{numbered-hold}
use Rattle.hy_forks.proofs.RelationLaws.{pairs-length}
use Rattle.hy_forks.proofs.partitions.Partitions.end_of.Goals as goal

-- each warehouse has its place, where the partition has kept what the serial list has of it
pub new-requires : goal.new-requires
new-requires g c = record { replayed = replayed }
  where
    log : Log
    log = c.args.journal.now.list.log

    Has : ℕ → PartitionState → Type 0
    Has number p = p.replayed ≤ length p.kept

    replayed : (warehouse : ℕ) → 1 ≤ warehouse → warehouse ≤ g.K.World.passes.partitions
        → replayed_of g.K.World.passes warehouse ≤ length (projection_of warehouse c.tell_all.new.journal.list.log)
    replayed warehouse first last =
        let place = warehouse - 1 in
        let olds = g.P.Parts.states c.self.inside.parts in
        let news = g.P.Parts.states c.tell_all.new.parts in
        let told = c.tell_all.ensures.told in
        let within : place < length news =
        omega (arith, first, last, c.requires.partitions, c.self.invariant.partitions.count, pairs-length (TellsHere log) 1 olds news told) in
        let found = get-some news place within in
        let p = found.0 in
        let at : (Holds : PartitionState → Type 0) → IfSome (slice_get news place) Holds → Holds p =
        λ Holds holds. subst (λ (found : Option PartitionState). IfSome found Holds) found.1 holds in
        let number : suc place ≡ warehouse = omega (arith, first) in
        let is = (at (IsPartition g.K.Loaded.load (suc place)) (c.tell_all.ensures.parts.each place)).1 in
        let has = at (Has (suc place))
        (numbered-hold (TellsHere log) olds news told Has Has
        (λ other old new tells holds. subst (λ (p : PartitionState). p.replayed ≤ length p.kept) (sym tells.0) holds)
        (subst (λ (rows : List PartitionState). (place : ℕ) → IfSome (slice_get rows place) (λ p. p.replayed ≤ length p.kept))
        (sym c.self.view_is) c.requires.replayed) place) in
        let known = at (λ p. p.replayed ≡ replayed_of g.K.World.passes p.warehouse) (c.know_replayed.ensures.known place) in
        let kept = at (λ p. p.kept ≡ projection_of (suc place) log) (c.tell_all.ensures.history.kept place) in
        subst (λ (l : Log). replayed_of g.K.World.passes warehouse ≤ length (projection_of warehouse l))
        (sym c.tell_all.ensures.log)
        (subst (λ w. replayed_of g.K.World.passes w ≤ length (projection_of w log)) number
        (omega (arith, has, known, ap (replayed_of g.K.World.passes) is, ap length kept)))
