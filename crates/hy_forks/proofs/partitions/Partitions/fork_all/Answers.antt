use Rattle.std.proofs.Common.{◌≡◌, ◌∙◌, ◌+◌, ◌<◌, true, List, [], length, arith, ap, refl, subst, sym}
use Rattle.std.proofs.lemmas.List.{length_push}
use mathlib.Core.List.{IsPrefix}
use Rattle.hy_crossing.specs.of_partition.Jobs.{Log}
use Rattle.hy_crossing.proofs.of_partition.ForkLaws.{begins_from_nothing}
use Rattle.hy_crossing.specs.of_partition.Partition.{PartitionState}
use Rattle.hy_crossing.specs.of_partition.Snapshots.{SnapshotState}
use Rattle.hy_crossing.specs.Crossings.{database_behind}
use Rattle.hy_crossing.specs.Lists.{ChangesAt, Pairwise}
use Rattle.hy_crossing.specs.Pairs.{Before}
use Rattle.hy_forks.specs.Forks.{AreOfKit, ForksAll, IsUnforked, SpellsDatabase, are_from}
use Rattle.hy_forks.specs.inside.Places.{ForksExactly, ForksExactlyHere}
use Rattle.hy_forks.proofs.AllLaws.{all-unforked, forked-kept, forked-kit, forked-partitions, forked-whole, forks-all, forks-more, of-halves, spells-database, unforked-all-same, unforked-partitions, unforked-whole, why-unforked}
use Rattle.hy_forks.specs.Partitions.{AreWhole}
use Rattle.hy_forks.proofs.DatabaseLaws.{consistent-behind}
use Rattle.hy_forks.proofs.ForkedLaws.{are_from-forks}
use Rattle.hy_forks.proofs.PartsLaws.{as-whole}
use Rattle.hy_forks.proofs.HistoryLaws.{one-history}
use Rattle.hy_forks.proofs.RelationLaws.{before-start, pairs-length}
use Rattle.hy_forks.proofs.ResultLaws.{err-holds}
use Rattle.hy_forks.proofs.partitions.Partitions.fork_all.Goals as goal

pub returns-in_err-snapshots-clause-err : goal.returns-in_err-snapshots-clause-err
returns-in_err-snapshots-clause-err g c =
    let log : Log = c.args.journal.now.list.log in
    let olds = c.args.self.now in
    let looked = g.P.Parts.states c.is_some_lacking.new.parts in
    err-holds (Pairwise (λ number. IsUnforked log) 1 olds looked) c.from_residual.result
    (subst (λ (rows : List PartitionState). Pairwise (λ number. IsUnforked log) 1 olds rows)
    (sym (c.is_some_lacking.ensures.same ∙ c.self.view_is)) (unforked-all-same log olds))

pub returns-then-is_some_lacking-clause-err : goal.returns-then-is_some_lacking-clause-err
returns-then-is_some_lacking-clause-err g c =
    let log : Log = c.args.journal.now.list.log in
    let olds = c.args.self.now in
    subst (λ (rows : List PartitionState). Pairwise (λ number. IsUnforked log) 1 olds rows)
    (sym (c.is_some_lacking.ensures.same ∙ c.self.view_is)) (unforked-all-same log olds)

pub loop-place-init : goal.loop-place-init
loop-place-init g c =
    let log : Log = c.args.journal.now.list.log in
    let olds = c.args.self.now in
    let before = Before 1 (ForksExactlyHere g.row.N g.K.World.passes log []
    c.in_ok-snapshots.snapshots.items) in (
      subst (λ (rows : List PartitionState). Pairwise before 1 olds rows)
          (sym (c.know_load.ensures.same ∙ (c.is_some_lacking.ensures.same ∙ c.self.view_is)))
          (before-start (ForksExactlyHere g.row.N g.K.World.passes log []
          c.in_ok-snapshots.snapshots.items) olds),
      ap length c.in_ok-snapshots.ensures.items,
      omega (arith, c.in_ok-snapshots.ensures.capacity, c.len.ensures, ap length (c.is_some_lacking.ensures.same ∙ c.self.view_is)),
      refl,
      c.len-place-end.ensures ∙ ap length (c.know_load.ensures.same ∙ (c.is_some_lacking.ensures.same ∙ c.self.view_is)),
    )

pub fork_here-requires : goal.fork_here-requires
fork_here-requires g c =
    let log : Log = c.args.journal.now.list.log in
    let olds = c.args.self.now in
    let middles = g.P.Parts.states c.loop-place.parts in
    let counted = pairs-length (Before (c.loop-place.place + 1) (ForksExactlyHere g.row.N g.K.World.passes log
    [] c.loop-place.snapshots.items)) 1 olds middles c.loop-place.invariant.0 in
    (omega arith, omega (arith, c.loop-place-test.true, c.loop-place.invariant.4, counted))

pub close_each-requires : goal.close_each-requires
close_each-requires g c =
    let place = c.loop-place.place in
    let log : Log = c.args.journal.now.list.log in
    let olds = c.args.self.now in
    let within : place < length olds = omega (arith, c.loop-place-test.true, c.loop-place.invariant.4) in (
      omega arith,
      of-halves g.row.N g.K.World.passes log [] c.loop-place.snapshots.items place
          c.loop-place.invariant.1 olds (g.P.Parts.states c.loop-place.parts) c.loop-place.invariant.0 within
          c.in-Err.refusal (g.P.Parts.states c.fork_here.new.parts) c.in-Err.ensures.refused,
    )

pub returns-in-Err-clause-refused : goal.returns-in-Err-clause-refused
returns-in-Err-clause-refused g c =
    let place = c.loop-place.place in
    let log : Log = c.args.journal.now.list.log in
    let olds = c.args.self.now in
    let within : place < length olds = omega (arith, c.loop-place-test.true, c.loop-place.invariant.4) in
    why-unforked g.row.N g.K.World.passes log [] c.loop-place.snapshots.items place
    c.loop-place.invariant.1 olds (g.P.Parts.states c.loop-place.parts) c.loop-place.invariant.0 within
    c.in-Err.refusal (g.P.Parts.states c.fork_here.new.parts) c.in-Err.ensures.refused

pub returns-in-Err-clause-err : goal.returns-in-Err-clause-err
returns-in-Err-clause-err g c =
    let place = c.loop-place.place in
    let log : Log = c.args.journal.now.list.log in
    let olds = c.args.self.now in
    let within : place < length olds = omega (arith, c.loop-place-test.true, c.loop-place.invariant.4) in
    all-unforked g.row.N g.K.World.passes log [] c.loop-place.snapshots.items place
    c.loop-place.invariant.1 olds (g.P.Parts.states c.loop-place.parts) c.loop-place.invariant.0 within
    c.in-Err.refusal (g.P.Parts.states c.fork_here.new.parts) c.in-Err.ensures.refused
    (g.P.Parts.states c.close_each.new.parts) c.close_each.ensures

pub loop-place-preserved : goal.loop-place-preserved
loop-place-preserved g c =
    let place = c.loop-place.place in
    let log : Log = c.args.journal.now.list.log in
    let kit = g.K.World.passes in
    let snapshot = c.in-Ok.snapshot in
    let snapshots = c.loop-place.snapshots.items in
    let olds = c.args.self.now in
    let middles = g.P.Parts.states c.loop-place.parts in
    let news = g.P.Parts.states c.fork_here.new.parts in
    let within : place < length olds = omega (arith, c.loop-place-test.true, c.loop-place.invariant.4) in
    let changes = subst (λ (log : Log). ChangesAt (ForksExactly g.row.N kit log [] snapshot) place middles news)
    c.loop-place.invariant.3 c.in-Ok.ensures.forks in
    let pushed = c.push_reserved.ensures.items in (
      subst (λ (list : List SnapshotState). Pairwise (Before (place + 1 + 1) (ForksExactlyHere g.row.N kit log []
          list)) 1 olds news) (sym pushed)
          (forks-more g.row.N kit log [] snapshots place c.loop-place.invariant.1 olds middles
          c.loop-place.invariant.0 within snapshot news changes),
      ap length pushed ∙ length_push snapshots snapshot ∙ ap (λ n. n + 1) c.loop-place.invariant.1,
      omega (arith, c.push_reserved.ensures.capacity, c.loop-place.invariant.2),
      c.in-Ok.ensures.log ∙ c.loop-place.invariant.3,
      c.loop-place.invariant.4,
    )

pub returns-clause-forks : goal.returns-clause-forks
returns-clause-forks g c =
    let place = c.loop-place.place in
    let log : Log = c.args.journal.now.list.log in
    let olds = c.args.self.now in
    let ends : place ≡ length olds =
    omega (arith, c.loop-place-test.false, c.loop-place.auto.place-end, c.loop-place.invariant.4) in
    let known : Log = c.args.pass.now.seen in
    subst (ForksAll g.row.N g.K.World.passes log known olds (g.P.Parts.states c.loop-place.parts))
    (sym c.new.ensures) (forks-all g.row.N g.K.World.passes log [] c.loop-place.snapshots.items place
    c.loop-place.invariant.1 olds (g.P.Parts.states c.loop-place.parts) ends c.loop-place.invariant.0 known
    (subst (λ (serial : Log). IsPrefix known serial) c.loop-place.invariant.3 c.tell_client.ensures.begins))

pub returns-clause-database : goal.returns-clause-database
returns-clause-database g c =
    let place = c.loop-place.place in
    let log : Log = c.args.journal.now.list.log in
    let olds = c.args.self.now in
    let ends : place ≡ length olds =
    omega (arith, c.loop-place-test.false, c.loop-place.auto.place-end, c.loop-place.invariant.4) in
    subst (SpellsDatabase g.row.N (database_behind g.K.Loaded.load log)) (sym c.new.ensures)
    (spells-database g.row.N g.K.World.passes log [] c.loop-place.snapshots.items place
    c.loop-place.invariant.1 olds (g.P.Parts.states c.loop-place.parts) ends c.loop-place.invariant.0
    g.K.Loaded.load (subst (AreWhole g.K.Loaded.load) c.self.view_is c.self.invariant).partitions)

pub returns-clause-kit : goal.returns-clause-kit
returns-clause-kit g c =
    let place = c.loop-place.place in
    let log : Log = c.args.journal.now.list.log in
    let olds = c.args.self.now in
    let ends : place ≡ length olds =
    omega (arith, c.loop-place-test.false, c.loop-place.auto.place-end, c.loop-place.invariant.4) in
    subst (AreOfKit g.K.World.passes) (sym c.new.ensures)
    (forked-kit g.row.N g.K.World.passes log [] c.loop-place.snapshots.items place
    c.loop-place.invariant.1 olds (g.P.Parts.states c.loop-place.parts) ends c.loop-place.invariant.0)

pub returns-clause-consistent : goal.returns-clause-consistent
returns-clause-consistent g c =
    consistent-behind g.K.Loaded.load c.args.journal.now.list.log
    (λ some. c.know_load.ensures.load (omega (
      arith,
      some,
      (subst (AreWhole g.K.Loaded.load) c.self.view_is c.self.invariant).partitions.count,
      ap length (c.is_some_lacking.ensures.same ∙ c.self.view_is),
    )))

pub returns-clause-history : goal.returns-clause-history
returns-clause-history g c =
    let place = c.loop-place.place in
    let log : Log = c.args.journal.now.list.log in
    let olds = c.args.self.now in
    let ends : place ≡ length olds =
    omega (arith, c.loop-place-test.false, c.loop-place.auto.place-end, c.loop-place.invariant.4) in
    let news = g.P.Parts.states c.loop-place.parts in
    let counted = pairs-length (Before (place + 1) (ForksExactlyHere g.row.N g.K.World.passes log []
    c.loop-place.snapshots.items)) 1 olds news c.loop-place.invariant.0 in
    one-history g.K.World.passes.partitions log news c.know_list.ensures.serial c.know_list.ensures.agree
    (omega (arith, counted, c.know_load.ensures.range, ap length (c.is_some_lacking.ensures.same ∙ c.self.view_is)))
    (forked-kept g.row.N g.K.World.passes log [] c.loop-place.snapshots.items place
    c.loop-place.invariant.1 olds (g.P.Parts.states c.loop-place.parts) ends c.loop-place.invariant.0
    g.K.Loaded.load (subst (AreWhole g.K.Loaded.load) c.self.view_is c.self.invariant).partitions)

pub returns-clause-mine : goal.returns-clause-mine
returns-clause-mine g c =
    let place = c.loop-place.place in
    let log : Log = c.args.journal.now.list.log in
    let olds = c.args.self.now in
    let news = g.P.Parts.states c.loop-place.parts in
    let ends : place ≡ length olds =
    omega (arith, c.loop-place-test.false, c.loop-place.auto.place-end, c.loop-place.invariant.4) in
    subst (λ (all : List SnapshotState). are_from g.K.World.passes all news ≡ true) (sym c.new.ensures)
    (are_from-forks g.row.N g.K.World.passes log [] c.loop-place.snapshots.items olds news
    (forks-all g.row.N g.K.World.passes log [] c.loop-place.snapshots.items place
    c.loop-place.invariant.1 olds news ends c.loop-place.invariant.0 [] (begins_from_nothing log)))

pub invariant_of-self-in-Err : goal.invariant_of-self-in-Err
invariant_of-self-in-Err g c =
    let place = c.loop-place.place in
    let log : Log = c.args.journal.now.list.log in
    let olds = c.args.self.now in
    let news = g.P.Parts.states c.close_each.new.parts in
    let within : place < length olds = omega (arith, c.loop-place-test.true, c.loop-place.invariant.4) in
    let unforked = all-unforked g.row.N g.K.World.passes log [] c.loop-place.snapshots.items place
    c.loop-place.invariant.1 olds (g.P.Parts.states c.loop-place.parts) c.loop-place.invariant.0 within
    c.in-Err.refusal (g.P.Parts.states c.fork_here.new.parts) c.in-Err.ensures.refused news c.close_each.ensures in
    as-whole g.K.Loaded.load olds news (subst (AreWhole g.K.Loaded.load) c.self.view_is c.self.invariant)
    (unforked-partitions log olds news unforked g.K.Loaded.load) (unforked-whole log olds news unforked)

pub invariant_of-self-2 : goal.invariant_of-self-2
invariant_of-self-2 g c =
    let place = c.loop-place.place in
    let log : Log = c.args.journal.now.list.log in
    let olds = c.args.self.now in
    let news = g.P.Parts.states c.loop-place.parts in
    let ends : place ≡ length olds =
    omega (arith, c.loop-place-test.false, c.loop-place.auto.place-end, c.loop-place.invariant.4) in
    as-whole g.K.Loaded.load olds news (subst (AreWhole g.K.Loaded.load) c.self.view_is c.self.invariant)
    (forked-partitions g.row.N g.K.World.passes log [] c.loop-place.snapshots.items place
    c.loop-place.invariant.1 olds news ends c.loop-place.invariant.0 g.K.Loaded.load)
    (forked-whole g.row.N g.K.World.passes log [] c.loop-place.snapshots.items place
    c.loop-place.invariant.1 olds news ends c.loop-place.invariant.0)
