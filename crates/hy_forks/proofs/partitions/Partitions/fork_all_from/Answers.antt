use Rattle.std.proofs.Common.{◌≡◌, ◌∙◌, ◌+◌, ◌<◌, true, List, length, map, ap, arith, subst, sym}
use Rattle.std.proofs.lemmas.List.{length_push}
use Rattle.hy_crossing.specs.of_partition.Partition.{PartitionState}
use Rattle.hy_crossing.specs.of_partition.Snapshots.{SnapshotState}
use Rattle.hy_crossing.specs.Lists.{Pairwise}
use Rattle.hy_crossing.specs.Pairs.{Before}
use Rattle.hy_forks.specs.Forks.{AreOfKit, ForksAllFrom, IsUnforkedUntold, are_from, shown}
use Rattle.hy_forks.specs.inside.Places.{ForksFromExactlyHere}
use Rattle.hy_forks.proofs.AgainLaws.{again-kit, again-partitions, again-shown, again-whole, again-more, all-untold, all-untold-same, forks-all_from, mine-next, of-halves-again, untold-partitions, untold-whole}
use Rattle.hy_forks.specs.Partitions.{AreWhole}
use Rattle.hy_forks.proofs.CloseLaws.{from-lengths}
use Rattle.hy_forks.proofs.ForkedLaws.{are_from-again}
use Rattle.hy_forks.proofs.PartsLaws.{as-whole}
use Rattle.hy_forks.proofs.RelationLaws.{before-start, pairs-length}
use Rattle.hy_forks.proofs.ResultLaws.{err-holds}
use Rattle.hy_forks.proofs.partitions.Partitions.fork_all_from.Goals as goal

pub returns-then-not-are_mine-clause-err : goal.returns-then-not-are_mine-clause-err
returns-then-not-are_mine-clause-err g c =
    let olds = c.args.self.now in
    subst (λ (rows : List PartitionState). Pairwise (λ number. IsUnforkedUntold) 1 olds rows)
    (sym (c.are_mine.ensures.same ∙ c.self.view_is)) (all-untold-same olds)

pub returns-in_err-snapshots-clause-err : goal.returns-in_err-snapshots-clause-err
returns-in_err-snapshots-clause-err g c =
    let olds = c.args.self.now in
    let looked = g.P.Parts.states c.are_mine.new.parts in
    err-holds (Pairwise (λ number. IsUnforkedUntold) 1 olds looked) c.from_residual.result
    (subst (λ (rows : List PartitionState). Pairwise (λ number. IsUnforkedUntold) 1 olds rows)
    (sym (c.are_mine.ensures.same ∙ c.self.view_is)) (all-untold-same olds))

pub loop-place-init : goal.loop-place-init
loop-place-init g c =
    let olds = c.args.self.now in
    let here = ForksFromExactlyHere g.K.World.passes c.args.all.now c.in_ok-snapshots.snapshots.items in (
      subst (λ (rows : List PartitionState). Pairwise (Before 1 here) 1 olds rows) (sym (c.are_mine.ensures.same ∙ c.self.view_is))
          (before-start here olds),
      ap length c.in_ok-snapshots.ensures.items,
      omega (arith, c.in_ok-snapshots.ensures.capacity, c.len.ensures, ap length (c.are_mine.ensures.same ∙ c.self.view_is)),
      c.len-place-end.ensures ∙ ap length (c.are_mine.ensures.same ∙ c.self.view_is),
    )

pub fork_here-requires : goal.fork_here-requires
fork_here-requires g c =
    let kit = g.K.World.passes in
    let all = c.args.all.now in
    let place = c.loop-place.place in
    let snapshots = c.loop-place.snapshots.items in
    let olds = c.args.self.now in
    let middles = g.P.Parts.states c.loop-place.parts in
    let within : place < length olds = omega (arith, c.loop-place-test.true, c.loop-place.invariant.3) in
    let counted = pairs-length (Before (place + 1) (ForksFromExactlyHere kit all snapshots)) 1 olds middles
    c.loop-place.invariant.0 in
    let mine : are_from kit all olds ≡ true = sym (c.are_mine.ensures.mine ∙ ap (are_from g.K.World.passes c.args.all.now) c.self.view_is) ∙ c.if-not-are_mine.false in (
      omega arith,
      (
        omega arith,
        (
          omega (arith, within, counted),
          (
            omega (arith, within, from-lengths kit all olds mine),
            mine-next kit all snapshots place c.loop-place.invariant.1 olds middles c.loop-place.invariant.0 within mine,
          ),
        ),
      ),
    )

pub close_each-requires : goal.close_each-requires
close_each-requires g c =
    let place = c.loop-place.place in
    let olds = c.args.self.now in
    let within : place < length olds = omega (arith, c.loop-place-test.true, c.loop-place.invariant.3) in (
      omega arith,
      of-halves-again g.K.World.passes c.args.all.now c.loop-place.snapshots.items place c.loop-place.invariant.1 olds
          (g.P.Parts.states c.loop-place.parts) c.loop-place.invariant.0 within
          (g.P.Parts.states c.fork_here.new.parts) c.in-Err.ensures.refused,
    )

pub returns-in-Err-clause-err : goal.returns-in-Err-clause-err
returns-in-Err-clause-err g c =
    let place = c.loop-place.place in
    let olds = c.args.self.now in
    let within : place < length olds = omega (arith, c.loop-place-test.true, c.loop-place.invariant.3) in
    all-untold g.K.World.passes c.args.all.now c.loop-place.snapshots.items place c.loop-place.invariant.1 olds
    (g.P.Parts.states c.loop-place.parts) c.loop-place.invariant.0 within (g.P.Parts.states c.fork_here.new.parts)
    c.in-Err.ensures.refused (g.P.Parts.states c.close_each.new.parts) c.close_each.ensures

pub loop-place-preserved : goal.loop-place-preserved
loop-place-preserved g c =
    let kit = g.K.World.passes in
    let all = c.args.all.now in
    let place = c.loop-place.place in
    let snapshot = c.in-Ok.snapshot in
    let snapshots = c.loop-place.snapshots.items in
    let olds = c.args.self.now in
    let news = g.P.Parts.states c.fork_here.new.parts in
    let within : place < length olds = omega (arith, c.loop-place-test.true, c.loop-place.invariant.3) in
    let pushed = c.push_reserved.ensures.items in (
      subst (λ (list : List SnapshotState). Pairwise (Before (place + 1 + 1) (ForksFromExactlyHere kit all list)) 1 olds news)
          (sym pushed)
          (again-more kit all snapshots place c.loop-place.invariant.1 olds (g.P.Parts.states c.loop-place.parts)
          c.loop-place.invariant.0 within snapshot news c.in-Ok.ensures.forks),
      ap length pushed ∙ length_push snapshots snapshot ∙ ap (λ n. n + 1) c.loop-place.invariant.1,
      omega (arith, c.push_reserved.ensures.capacity, c.loop-place.invariant.2),
      c.loop-place.invariant.3,
    )

pub returns-clause-forks : goal.returns-clause-forks
returns-clause-forks g c =
    let place = c.loop-place.place in
    let olds = c.args.self.now in
    let ends : place ≡ length olds =
    omega (arith, c.loop-place-test.false, c.loop-place.auto.place-end, c.loop-place.invariant.3) in
    subst (ForksAllFrom g.K.World.passes c.args.all.now olds (g.P.Parts.states c.loop-place.parts)) (sym c.new.ensures)
    (forks-all_from g.K.World.passes c.args.all.now c.loop-place.snapshots.items place c.loop-place.invariant.1 olds
    (g.P.Parts.states c.loop-place.parts) ends c.loop-place.invariant.0)

pub returns-clause-shown : goal.returns-clause-shown
returns-clause-shown g c =
    let place = c.loop-place.place in
    let olds = c.args.self.now in
    let ends : place ≡ length olds =
    omega (arith, c.loop-place-test.false, c.loop-place.auto.place-end, c.loop-place.invariant.3) in
    ap (map shown) c.new.ensures
    ∙ again-shown g.K.World.passes c.args.all.now c.loop-place.snapshots.items place c.loop-place.invariant.1 olds
    (g.P.Parts.states c.loop-place.parts) ends c.loop-place.invariant.0
    (sym (c.are_mine.ensures.mine ∙ ap (are_from g.K.World.passes c.args.all.now) c.self.view_is) ∙ c.if-not-are_mine.false)

pub returns-clause-kit : goal.returns-clause-kit
returns-clause-kit g c =
    let place = c.loop-place.place in
    let olds = c.args.self.now in
    let ends : place ≡ length olds =
    omega (arith, c.loop-place-test.false, c.loop-place.auto.place-end, c.loop-place.invariant.3) in
    subst (AreOfKit g.K.World.passes) (sym c.new.ensures)
    (again-kit g.K.World.passes c.args.all.now c.loop-place.snapshots.items place c.loop-place.invariant.1 olds
    (g.P.Parts.states c.loop-place.parts) ends c.loop-place.invariant.0)

pub returns-clause-own : goal.returns-clause-own
returns-clause-own g c =
    let place = c.loop-place.place in
    let olds = c.args.self.now in
    let news = g.P.Parts.states c.loop-place.parts in
    let ends : place ≡ length olds =
    omega (arith, c.loop-place-test.false, c.loop-place.auto.place-end, c.loop-place.invariant.3) in
    subst (λ (all : List SnapshotState). are_from g.K.World.passes all news ≡ true) (sym c.new.ensures)
    (are_from-again g.K.World.passes c.args.all.now c.loop-place.snapshots.items olds news
    (forks-all_from g.K.World.passes c.args.all.now c.loop-place.snapshots.items place c.loop-place.invariant.1 olds
    news ends c.loop-place.invariant.0))

pub invariant_of-self-in-Err : goal.invariant_of-self-in-Err
invariant_of-self-in-Err g c =
    let place = c.loop-place.place in
    let olds = c.args.self.now in
    let news = g.P.Parts.states c.close_each.new.parts in
    let within : place < length olds = omega (arith, c.loop-place-test.true, c.loop-place.invariant.3) in
    let untold = all-untold g.K.World.passes c.args.all.now c.loop-place.snapshots.items place c.loop-place.invariant.1
    olds (g.P.Parts.states c.loop-place.parts) c.loop-place.invariant.0 within (g.P.Parts.states c.fork_here.new.parts)
    c.in-Err.ensures.refused news c.close_each.ensures in
    as-whole g.K.Loaded.load olds news (subst (AreWhole g.K.Loaded.load) c.self.view_is c.self.invariant)
    (untold-partitions olds news untold g.K.Loaded.load) (untold-whole olds news untold)

pub invariant_of-self-2 : goal.invariant_of-self-2
invariant_of-self-2 g c =
    let place = c.loop-place.place in
    let olds = c.args.self.now in
    let news = g.P.Parts.states c.loop-place.parts in
    let ends : place ≡ length olds =
    omega (arith, c.loop-place-test.false, c.loop-place.auto.place-end, c.loop-place.invariant.3) in
    as-whole g.K.Loaded.load olds news (subst (AreWhole g.K.Loaded.load) c.self.view_is c.self.invariant)
    (again-partitions g.K.World.passes c.args.all.now c.loop-place.snapshots.items place c.loop-place.invariant.1 olds
    news ends c.loop-place.invariant.0 g.K.Loaded.load)
    (again-whole g.K.World.passes c.args.all.now c.loop-place.snapshots.items place c.loop-place.invariant.1 olds
    news ends c.loop-place.invariant.0)

pub new-requires : goal.new-requires
new-requires g c =
    let olds = c.args.self.now in
    let counted = from-lengths g.K.World.passes c.args.all.now olds
    (sym (c.are_mine.ensures.mine ∙ ap (are_from g.K.World.passes c.args.all.now) c.self.view_is) ∙ c.if-not-are_mine.false) in (
      omega arith,
      (
        omega arith,
        omega (
          arith,
          c.few.ensures,
          counted,
          c.loop-place-test.false,
          c.loop-place.auto.place-end,
          c.loop-place.invariant.1,
          c.loop-place.invariant.3,
        ),
      ),
    )
