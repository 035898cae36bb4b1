-- Each call is an event, and leaves what the model knows of clients with the passes that there are.
use Rattle.std.proofs.Common.{◌∷◌, refl, suc, sym, ap, ◌∙◌}
use Rattle.std.specs.Prelude.{is_some}
use Rattle.hy_forks.specs.of_partition.Jobs.{told}
use Rattle.hy_forks.specs.of_partition.Schedules.{World, begins, closes, forks, forks_from, takes, with_known}
use Rattle.hy_schedules.specs.Clients.{passes_in}
use Rattle.hy_schedules.specs.Schedules.{Whole, at, children_of, closes_all, drains, forks_all, forks_all_from, looks, no_looks}
use Rattle.hy_schedules.proofs.ClientLaws.{knows-fewer, knows-kit, knows-permuted, knows-still, knows-told, some-known, told-of}
use Rattle.hy_schedules.proofs.CrossLaws.{crosses-alone, knows-cross}
use Rattle.hy_schedules.proofs.TellingLaws.{knows-begun, knows-fresh, knows-rested, knows-step, knows-taken, leads-knowing, passes-changed, passes-closed, passes-forked, passes-forked_from, passes-told, passes-unforked}
use Rattle.hy_schedules.proofs.theorem.calls_of_all_tell_clients.Goals as goal

pub returns-clause-new : goal.returns-clause-new
returns-clause-new c = λ n lists frames commits clients parts count each. (
  c.calls_of_all_are_events.ensures.new n lists frames commits parts count each,
  knows-fresh lists frames commits clients parts each,
)

pub returns-clause-kit : goal.returns-clause-kit
returns-clause-kit c = λ clients. (knows-kit clients).apart

pub returns-clause-rests : goal.returns-clause-rests
returns-clause-rests c = λ log passes apart within. some-known log passes apart within

pub returns-clause-rested : goal.returns-clause-rested
returns-clause-rested c = λ n lists log before parts held is apart within.
    knows-rested n lists log before parts held is apart within

pub returns-clause-begin : goal.returns-clause-begin
returns-clause-begin c = λ n place log parts news held whole job is within knows new changes.
    leads-knowing n (at (suc place) (begins job.pass.client job.command)) whole log news held whole.known
    (c.calls_of_all_are_events.ensures.begin n place log parts news whole job is within
    (told-of whole.known (passes_in parts) job.pass held knows) new changes)
    (λ next does. ap (λ (w : World). w.known) does.1.change.3)
    (knows-begun whole.known parts news place changes.0 changes.1 held within changes.2 changes.3 job changes.4.0
    changes.4.1 knows)

pub returns-clause-step : goal.returns-clause-step
returns-clause-step c = λ n place log after parts news held whole job progress is within knows changes.
    knows-step n place log after parts news held whole job progress changes.0 changes.1 is within changes.2 changes.3
    changes.4.0 changes.4.1 knows

pub returns-clause-take : goal.returns-clause-take
returns-clause-take c = λ n place log parts news held whole answer is within knows changes.
    leads-knowing n (at (suc place) takes) whole log news (answer.pass ∷ held) whole.known
    (c.calls_of_all_are_events.ensures.take n place log parts news whole is within
    (changes.0, changes.1, changes.2, changes.3, (ap is_some changes.4.0, changes.4.1)))
    (λ next does. ap (λ (w : World). w.known) does.1.change.1)
    (knows-taken whole.known parts news place changes.0 changes.1 held within changes.2 changes.3 answer changes.4.0
    changes.4.1 knows)

pub returns-clause-fork : goal.returns-clause-fork
returns-clause-fork c = λ n place kit log known pass parts news held whole snapshot is within knows changes.
    leads-knowing n (at (suc place) (forks pass.client snapshot.child)) whole log news (told pass log ∷ held)
    (with_known whole.known pass.client whole.log)
    (c.calls_of_all_are_events.ensures.fork n place kit log known pass.client parts news whole snapshot is within changes)
    (λ next does. ap (λ (w : World). w.known) does.1.change.1)
    (knows-told whole.known (passes_in parts) (passes_in news) pass (told pass log) held whole.log
    (passes-changed parts news place changes.0 changes.1 changes.2 changes.3 changes.4.job.running
    changes.4.job.finished) refl (sym is.0) knows)

pub returns-clause-fork_from : goal.returns-clause-fork_from
returns-clause-fork_from c = λ n place kit log parts news held whole from snapshot is within knows changes.
    leads-knowing n (at (suc place) (forks_from from.child snapshot.child)) whole log news held whole.known
    (c.calls_of_all_are_events.ensures.fork_from n place kit log parts news whole from snapshot is within changes)
    (λ next does. ap (λ (w : World). w.known) does.1.change.2)
    (knows-still whole.known parts news held (passes-changed parts news place changes.0 changes.1 changes.2 changes.3
    changes.4.job.running changes.4.job.finished) knows)

pub returns-clause-refused_fork : goal.returns-clause-refused_fork
returns-clause-refused_fork c = λ n place log parts news held whole is within knows changes. (
  c.calls_of_all_are_events.ensures.refused_fork n place log parts news whole is within changes,
  knows-still whole.known parts news held (passes-changed parts news place changes.0 changes.1 changes.2 changes.3
      changes.4.job.running changes.4.job.finished) knows,
)

pub returns-clause-close : goal.returns-clause-close
returns-clause-close c = λ n place log parts news held whole child is within knows changes.
    leads-knowing n (at (suc place) (closes child)) whole log news held whole.known
    (c.calls_of_all_are_events.ensures.close n place log parts news whole child is within changes)
    (λ next does. ap (λ (w : World). w.known) does.1.change.1)
    (knows-still whole.known parts news held (passes-changed parts news place changes.0 changes.1 changes.2 changes.3
    changes.4.job.running changes.4.job.finished) knows)

pub returns-clause-cross : goal.returns-clause-cross
returns-clause-cross c = λ n lists job log after parts news held answer whole is is_load are several knows new does.
    knows-cross n lists job no_looks parts news answer whole is_load are several
    (told-of whole.known (passes_in parts) job.pass held knows) new (record { log = log; held = held })
    (record { log = after; held = held }) is knows (crosses-alone lists job log after held parts news answer does)

pub returns-clause-cross_looking : goal.returns-clause-cross_looking
returns-clause-cross_looking c = λ n lists job amid before after parts news answer whole is is_load are several knows
    new does.
    knows-cross n lists job amid parts news answer whole is_load are several
    (told-of whole.known (passes_in parts) job.pass before.held knows) new before after is knows does

pub returns-clause-fork_all : goal.returns-clause-fork_all
returns-clause-fork_all c = λ n kit log known pass parts news held whole snapshots is knows forked.
    leads-knowing n (forks_all pass.client (children_of snapshots)) whole log news (told pass log ∷ held)
    (with_known whole.known pass.client whole.log)
    (c.calls_of_all_are_events.ensures.fork_all n kit log known pass.client parts news whole snapshots is forked)
    (λ next does. ap (λ (w : Whole). w.known) does.1)
    (knows-told whole.known (passes_in parts) (passes_in news) pass (told pass log) held whole.log
    (passes-forked n kit log known snapshots parts news forked.each) refl (sym is.0) knows)

pub returns-clause-fork_all_from : goal.returns-clause-fork_all_from
returns-clause-fork_all_from c = λ n kit log parts news held whole all snapshots is knows forked.
    leads-knowing n (forks_all_from (children_of all) (children_of snapshots)) whole log news held whole.known
    (c.calls_of_all_are_events.ensures.fork_all_from n kit log parts news whole all snapshots is forked)
    (λ next does. ap (λ (w : Whole). w.known) does.1)
    (knows-still whole.known parts news held (passes-forked_from kit all snapshots parts news forked.each) knows)

pub returns-clause-refused_fork_all : goal.returns-clause-refused_fork_all
returns-clause-refused_fork_all c = λ n log parts news held whole is knows pairs. (
  c.calls_of_all_are_events.ensures.refused_fork_all n log parts news whole is pairs,
  knows-still whole.known parts news held (passes-unforked log parts news pairs) knows,
)

pub returns-clause-close_all : goal.returns-clause-close_all
returns-clause-close_all c = λ n log parts news held whole snapshots is knows closed.
    leads-knowing n (closes_all (children_of snapshots)) whole log news held whole.known
    (c.calls_of_all_are_events.ensures.close_all n log parts news whole snapshots is closed)
    (λ next does. ap (λ (w : Whole). w.known) does.1)
    (knows-still whole.known parts news held (passes-closed snapshots parts news closed) knows)

pub returns-clause-drain : goal.returns-clause-drain
returns-clause-drain c = λ n log parts news held whole is knows pairs.
    leads-knowing n drains whole log news held whole.known
    (c.calls_of_all_are_events.ensures.drain n log parts news whole is pairs)
    (λ next does. ap (λ (w : Whole). w.known) does)
    (knows-still whole.known parts news held (passes-told log parts news pairs) knows)

pub returns-clause-tell : goal.returns-clause-tell
returns-clause-tell c = λ n log parts news held whole is knows pairs. (
  c.calls_of_all_are_events.ensures.tell n log parts news whole is pairs,
  knows-still whole.known parts news held (passes-told log parts news pairs) knows,
)

pub returns-clause-look : goal.returns-clause-look
returns-clause-look c = λ n log pass now parts held whole is knows client seen.
    leads-knowing n (looks pass.client) whole log parts (now ∷ held) (with_known whole.known pass.client whole.log)
    (c.calls_of_all_are_events.ensures.look n log pass.client parts whole is)
    (λ next does. ap (λ (w : Whole). w.known) does)
    (knows-told whole.known (passes_in parts) (passes_in parts) pass now held whole.log refl client (seen ∙ sym is.0)
    knows)

pub returns-clause-any_order : goal.returns-clause-any_order
returns-clause-any_order c = λ known passes others moved knows. knows-permuted known passes others moved knows

pub returns-clause-fewer : goal.returns-clause-fewer
returns-clause-fewer c = λ known passes others pass knows. knows-fewer known passes others pass knows
