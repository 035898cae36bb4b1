-- Why a life was cut off: its output failed at the begin, a round or the input ended it, or its output failed at the end.
use Rattle.std.proofs.Common.{refl}
use Rattle.hy_hyper_service.proofs.RoundLaws.{handed-on}
use Rattle.hy_hyper_life.specs.Lives.{IsCutOff}
use Rattle.hy_hyper_life.specs.Lives.IsCutOff.{at_begin, at_end, under_way}
use Rattle.hy_hyper_life.proofs.life.serve.Goals as goal

pub returns-in_err-service-clause-cut_off : goal.returns-in_err-service-clause-cut_off
returns-in_err-service-clause-cut_off g c =
    let ended = c.in_err-service.field-0.0 in
    let why = c.in_err-service.ensures.ended in
    handed-on c.from_residual.result ended (λ ended. IsCutOff 4_096 g.K.Loaded.load c.args.service c.args.input.now
    c.args.input.now ended.log (g.O.Output.contents ended.out) (g.O.Output.has_failed ended.out) ended.why)
    c.from_residual.ensures.1 (at_begin why.2.0 why.2.1 why.1 refl why.0)

pub returns-in_err-service-2-clause-cut_off : goal.returns-in_err-service-2-clause-cut_off
returns-in_err-service-2-clause-cut_off g c =
    let ended = c.in_err-service-2.field-0.0 in
    handed-on c.from_residual-in_err-service-2.result ended (λ ended. IsCutOff 4_096 g.K.Loaded.load c.args.service
    c.args.input.now c.serve_input.new.input ended.log (g.O.Output.contents ended.out) (g.O.Output.has_failed ended.out)
    ended.why)
    c.from_residual-in_err-service-2.ensures.1
    (under_way c.in_ok-service.service c.in_ok-service.ensures.told c.in_err-service-2.ensures.ended)

pub returns-in_err-service-3-clause-cut_off : goal.returns-in_err-service-3-clause-cut_off
returns-in_err-service-3-clause-cut_off g c =
    let ended = c.in_err-service-3.field-0.0 in
    let why = c.in_err-service-3.ensures.ended in
    handed-on c.from_residual-in_err-service-3.result ended (λ ended. IsCutOff 4_096 g.K.Loaded.load c.args.service
    c.args.input.now c.serve_input.new.input ended.log (g.O.Output.contents ended.out) (g.O.Output.has_failed ended.out)
    ended.why)
    c.from_residual-in_err-service-3.ensures.1
    (at_end c.in_ok-service.service c.in_ok-service-2.service c.in_ok-service.ensures.told c.in_ok-service-2.ensures.served
    why.2.0 why.2.1 why.1 why.0)
