use Rattle.hy_script.proofs.OpenLaws.{opened-name_from}
use Rattle.hy_script.proofs.event.fork_from.Goals as goal

pub returns-clause-answered : goal.returns-clause-answered
returns-clause-answered g c =
    opened-name_from c.args.name.now c.as_bytes.result.now c.args.database.now c.fork_from.new.self
    (g.O.Output.contents c.args.out.now) (g.O.Output.contents c.write_opened.new.out) c.in-None-Some.ensures
    c.as_bytes.ensures c.in_ok-write_opened.ensures.written c.in_default-fork_from.ensures.log c.args.from.now
    c.in-None-Some.place c.in-None-Some.ensures' c.in_default-fork_from.ensures.opens
