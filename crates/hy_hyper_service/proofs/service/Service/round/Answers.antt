-- A round of the service's parts is one of the service.
use Rattle.std.proofs.Common.{◌≡◌, Ok, ap, subst, sym}
use Rattle.hy_hyper_input.specs.Inputs.{InputState}
use Rattle.hy_hyper_service.specs.Endings.{EndsParts}
use Rattle.hy_hyper_service.specs.Keeping.{LoggedState}
use Rattle.hy_hyper_service.specs.Rounds.{RunsRound, ServiceState, logged}
use Rattle.hy_hyper_service.proofs.ServiceLaws.{ends-by, round-of}
use Rattle.hy_hyper_service.proofs.service.Service.round.Goals as goal

pub returns-in-Ok-clause-went : goal.returns-in-Ok-clause-went
returns-in-Ok-clause-went g c =
    let parts = c.self.inside in
    let new = c.run_round.new in
    let next : ServiceState = record {
      database = new.database;
      log = new.log.log;
      style = new.answers.style;
      out = g.O.Output.contents new.out;
    } in
    subst (λ (old : ServiceState). RunsRound 4_096 g.K.Loaded.load old next c.args.input.now new.input c.in-Ok.end)
    c.self.view_is
    (round-of 4_096 g.K.Loaded.load parts.database new.database parts.log new.log parts.answers new.answers
    (g.O.Output.contents parts.out) (g.O.Output.contents new.out) c.args.input.now new.input c.in-Ok.end
    c.self.invariant.0 c.in-Ok.ensures.settled c.in-Ok.ensures.done)

pub returns-in-Ok-clause-waits : goal.returns-in-Ok-clause-waits
returns-in-Ok-clause-waits g c = λ is. c.in-Ok.ensures.waits (ap Ok is)

pub returns-in-Err-clause-ended : goal.returns-in-Err-clause-ended
returns-in-Err-clause-ended g c =
    let parts = c.self.inside in
    let new = c.run_round.new in
    let inputs : InputState × InputState = (c.args.input.now, new.input) in
    let old : ServiceState = record {
      database = parts.database;
      log = parts.log.log;
      style = parts.answers.style;
      out = g.O.Output.contents parts.out;
    } in
    subst (λ (old : ServiceState). (x : LoggedState) × (x.log ≡ c.into_log-log.result)
    × EndsParts 4_096 g.K.Loaded.load old.style old.database inputs (logged old) x (g.O.Output.contents new.out ≡ old.out)
    (g.O.Output.has_failed new.out) c.in-Err.why) c.self.view_is (
      new.log,
      sym c.into_log-log.ensures,
      ends-by 4_096 g.K.Loaded.load old.style old.database inputs (logged old) new.log (new.out ≡ parts.out)
          (g.O.Output.contents new.out ≡ old.out) (g.O.Output.has_failed new.out) c.in-Err.why
          (λ same. ap g.O.Output.contents same)
          (subst (λ seen. EndsParts 4_096 g.K.Loaded.load parts.answers.style parts.database inputs
          (record { log = parts.log.log; seen = seen }) new.log (new.out ≡ parts.out)
          (g.O.Output.has_failed new.out) c.in-Err.why) c.self.invariant.0 c.in-Err.ensures.ended),
    )
