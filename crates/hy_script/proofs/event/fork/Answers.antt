use Rattle.std.proofs.Common.{◌∙◌, sym}
use Rattle.hy_script.proofs.OpenLaws.{opened-name, unnamed}
use Rattle.hy_script.proofs.event.fork.Goals as goal

pub returns-in_ok-write_opened-in-Ok-clause-answered : goal.returns-in_ok-write_opened-in-Ok-clause-answered
returns-in_ok-write_opened-in-Ok-clause-answered g c =
    opened-name c.args.name.now c.as_bytes.result.now c.args.database.now c.fork.new.self
    (g.O.Output.contents c.args.out.now) (g.O.Output.contents c.write_opened.new.out)
    (unnamed c.args.database.now.snapshots c.args.name.now c.place_of_name.result
    (sym c.is_some.ensures ∙ c.if-is_some.false) c.place_of_name.ensures) c.as_bytes.ensures
    c.in_ok-write_opened-in-Ok.ensures.written c.in-Ok.ensures.log g.row.N c.in-Ok.ensures.opens
