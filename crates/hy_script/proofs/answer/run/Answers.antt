use Rattle.std.proofs.Common.{refl}
use Rattle.hy_events.specs.Replies.{reply_text}
use Rattle.hy_script.proofs.ChangesLaws.{changes-map}
use Rattle.hy_script.proofs.ResultLaws.{on_ok}
use Rattle.hy_script.proofs.answer.run.Goals as goal

pub returns-clause-granted : goal.returns-clause-granted
returns-clause-granted g c =
    let reply = c.run-reply.result in
    changes-map _ _ c.args.place c.args.partitions.now c.run-reply.new.partitions (λ p q runs. (
      on_ok c.write_reply.result c.write_reply.ensures.written
          (λ written. (reply_text reply, (reply, runs.0, refl), written)),
      runs.1,
    )) c.run-reply.ensures.runs
