use Rattle.std.proofs.Common.{◌∙◌, ◌+◌, ◌<◌, List, length, arith, subst, sym}
use Rattle.hy_crossing.specs.of_partition.Jobs.{Log}
use Rattle.hy_crossing.specs.of_partition.Partition.{PartitionState}
use Rattle.hy_crossing.specs.Lists.{IsDoneUpTo}
use Rattle.hy_crossing.proofs.TurnLaws.{done-end, done-more}
use Rattle.hy_forks.specs.Drains.{TellsHere}
use Rattle.hy_forks.proofs.HistoryLaws.{one-history}
use Rattle.hy_forks.proofs.RelationLaws.{pairs-length}
use Rattle.hy_forks.proofs.TellLaws.{told-kept, told-partitions, told-whole}
use Rattle.hy_forks.proofs.history.tell_all.Goals as goal

pub loop-place-preserved : goal.loop-place-preserved
loop-place-preserved g c =
    let place = c.loop-place.place in
    let olds = g.P.Parts.states c.args.parts.now in
    let news = g.P.Parts.states c.loop-place.parts in
    let log : Log = c.args.journal.now.list.log in
    let done = c.loop-place.invariant.0 in
    let within : place < length news =
    omega (arith, c.loop-place-test.true, c.loop-place.invariant.2, done.count) in
    let tells = subst (λ (known : Log). TellsHere known (place + 1) c.part.result.now c.tell.new.self)
    c.loop-place.invariant.1 (c.tell.ensures.told, c.tell.ensures.all, c.tell.ensures.begins) in (
      subst (λ (rows : List PartitionState). IsDoneUpTo (TellsHere log) (place + 1) olds rows)
          (sym (g.P.Parts.states_put c.loop-place.parts place c.tell.new.self within))
          (done-more (TellsHere log) place olds news done within c.part.result.now c.tell.new.self
          (sym c.part.ensures.value) tells),
      c.tell.ensures.log ∙ c.loop-place.invariant.1,
      c.loop-place.invariant.2,
    )

pub returns-clause-told : goal.returns-clause-told
returns-clause-told g c =
    done-end (TellsHere c.args.journal.now.list.log) c.loop-place.place (g.P.Parts.states c.args.parts.now)
    (g.P.Parts.states c.loop-place.parts) c.loop-place.invariant.0
    (omega (arith, c.loop-place.invariant.2, c.loop-place-test.false))

pub returns-clause-history : goal.returns-clause-history
returns-clause-history g c =
    let log : Log = c.args.journal.now.list.log in
    let olds = g.P.Parts.states c.args.parts.now in
    let news = g.P.Parts.states c.loop-place.parts in
    let told = done-end (TellsHere log) c.loop-place.place olds news c.loop-place.invariant.0
    (omega (arith, c.loop-place.invariant.2, c.loop-place-test.false)) in
    one-history g.K.World.passes.partitions log news c.know_list.ensures.serial c.know_list.ensures.agree
    (omega (arith, pairs-length (TellsHere log) 1 olds news told, c.know_load.ensures.range))
    (told-kept g.K.Loaded.load log olds news c.requires.parts told)

pub returns-clause-parts : goal.returns-clause-parts
returns-clause-parts g c =
    let log : Log = c.args.journal.now.list.log in
    let olds = g.P.Parts.states c.args.parts.now in
    let news = g.P.Parts.states c.loop-place.parts in
    told-partitions g.K.Loaded.load log olds news c.requires.parts
    (done-end (TellsHere log) c.loop-place.place olds news c.loop-place.invariant.0
    (omega (arith, c.loop-place.invariant.2, c.loop-place-test.false)))

pub returns-clause-whole : goal.returns-clause-whole
returns-clause-whole g c =
    let log : Log = c.args.journal.now.list.log in
    let olds = g.P.Parts.states c.args.parts.now in
    let news = g.P.Parts.states c.loop-place.parts in
    told-whole g.K.Loaded.load log olds news c.requires.parts
    (done-end (TellsHere log) c.loop-place.place olds news c.loop-place.invariant.0
    (omega (arith, c.loop-place.invariant.2, c.loop-place-test.false))) c.requires.whole
