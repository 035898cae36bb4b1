-- Nothing is told of bytes that come, nor of a failure.
use Rattle.hy_hyper_input.proofs.HearsLaws.{hears-failed, hears-filled}
use Rattle.hy_hyper_service.proofs.serving.has_more.Goals as goal

pub returns-in-Ok-clause-heard : goal.returns-in-Ok-clause-heard
returns-in-Ok-clause-heard g c = hears-filled c.args.input.now c.fill.new.self c.in-Ok.more c.requires c.in-Ok.ensures.filled

pub returns-in-Err-clause-heard : goal.returns-in-Err-clause-heard
returns-in-Err-clause-heard g c = hears-failed c.args.input.now c.fill.new.self c.requires c.in-Err.ensures.failed
