-- Each call on one partition is an event of its world; what is done to each is one event of the whole.
use Rattle.std.proofs.Common.{refl, suc}
use Rattle.hy_forks.specs.of_partition.Schedules.{begins, closes, forks, forks_from, steps, takes}
use Rattle.hy_schedules.specs.Schedules.{world_at}
use Rattle.hy_schedules.proofs.CallLaws.{is-fresh, leads-at, leads-close_all, leads-drain, leads-fork_all, leads-fork_all_from, leads-look, stays-at, stays-told, stays-unforked}
use Rattle.hy_schedules.proofs.CrossLaws.{leads-cross}
use Rattle.hy_schedules.proofs.theorem.calls_of_all_are_events.Goals as goal

pub returns-clause-new : goal.returns-clause-new
returns-clause-new c = λ n lists frames commits parts count each.
    is-fresh n lists frames commits parts
    (λ number p begin. c.calls_are_events.ensures.new n lists number frames commits p begin) count each

pub returns-clause-begin : goal.returns-clause-begin
returns-clause-begin c = λ n place log parts news whole job is within known new changes.
    leads-at n place log log parts whole is within (begins job.pass.client job.command) changes.0 changes.1 news refl
    changes.2 changes.3
    (λ before world. c.calls_are_events.ensures.begin n log changes.0 changes.1 (world_at whole (suc place) before) job
    world known new changes.4.0 changes.4.1)

pub returns-clause-step : goal.returns-clause-step
returns-clause-step c = λ n place log after parts news whole job progress is within changes.
    leads-at n place log after parts whole is within steps changes.0 changes.1 news refl changes.2 changes.3
    (λ before world. c.calls_are_events.ensures.step n log after changes.0 changes.1 (world_at whole (suc place) before)
    job progress world changes.4.0 changes.4.1)

pub returns-clause-take : goal.returns-clause-take
returns-clause-take c = λ n place log parts news whole is within changes.
    leads-at n place log log parts whole is within takes changes.0 changes.1 news refl changes.2 changes.3
    (λ before world. c.calls_are_events.ensures.take n log changes.0 changes.1 (world_at whole (suc place) before) world
    changes.4.0 changes.4.1)

pub returns-clause-fork : goal.returns-clause-fork
returns-clause-fork c = λ n place kit log known client parts news whole snapshot is within changes.
    leads-at n place log log parts whole is within (forks client snapshot.child) changes.0 changes.1 news refl changes.2
    changes.3
    (λ before world. c.calls_are_events.ensures.fork n kit log known client changes.0 changes.1
    (world_at whole (suc place) before) snapshot world changes.4)

pub returns-clause-fork_from : goal.returns-clause-fork_from
returns-clause-fork_from c = λ n place kit log parts news whole from snapshot is within changes.
    leads-at n place log log parts whole is within (forks_from from.child snapshot.child) changes.0 changes.1 news refl
    changes.2 changes.3
    (λ before world. c.calls_are_events.ensures.fork_from n kit log changes.0 changes.1
    (world_at whole (suc place) before) from snapshot world changes.4)

pub returns-clause-refused_fork : goal.returns-clause-refused_fork
returns-clause-refused_fork c = λ n place log parts news whole is within changes.
    stays-at n place log log parts whole is within changes.0 changes.1 news changes.2 changes.3 changes.4.job
    changes.4.snapshots changes.4.bytes

pub returns-clause-close : goal.returns-clause-close
returns-clause-close c = λ n place log parts news whole child is within changes.
    leads-at n place log log parts whole is within (closes child) changes.0 changes.1 news refl changes.2 changes.3
    (λ before world. c.calls_are_events.ensures.close n log changes.0 changes.1 (world_at whole (suc place) before)
    child world changes.4)

pub returns-clause-cross : goal.returns-clause-cross
returns-clause-cross c = λ n lists job amid log after parts news answer whole is is_load are several known new does.
    leads-cross n lists job amid parts news answer whole is_load are several known new log after is does

pub returns-clause-fork_all : goal.returns-clause-fork_all
returns-clause-fork_all c = λ n kit log known client parts news whole snapshots is forked.
    leads-fork_all n log parts news whole is kit known client snapshots
    (λ p q world snapshot is forks. c.calls_are_events.ensures.fork n kit log known client p q world snapshot is forks)
    forked

pub returns-clause-fork_all_from : goal.returns-clause-fork_all_from
returns-clause-fork_all_from c = λ n kit log parts news whole all snapshots is forked.
    leads-fork_all_from n log parts news whole is kit all snapshots
    (λ p q world from snapshot is forks. c.calls_are_events.ensures.fork_from n kit log p q world from snapshot is forks)
    forked

pub returns-clause-refused_fork_all : goal.returns-clause-refused_fork_all
returns-clause-refused_fork_all c = λ n log parts news whole is pairs. stays-unforked n log parts news whole is pairs

pub returns-clause-close_all : goal.returns-clause-close_all
returns-clause-close_all c = λ n log parts news whole snapshots is closed.
    leads-close_all n log parts news whole is snapshots
    (λ p q world child is closes. c.calls_are_events.ensures.close n log p q world child is closes) closed

pub returns-clause-drain : goal.returns-clause-drain
returns-clause-drain c = λ n log parts news whole is pairs. leads-drain n log parts news whole is pairs

pub returns-clause-tell : goal.returns-clause-tell
returns-clause-tell c = λ n log parts news whole is pairs. stays-told n log parts news whole is pairs

pub returns-clause-look : goal.returns-clause-look
returns-clause-look c = λ n log client parts whole is. leads-look n log parts parts whole is client
