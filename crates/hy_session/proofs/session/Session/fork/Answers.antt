use Rattle.std.proofs.Common.{◌∙◌, ap, map}
use Rattle.hy_forks.specs.Forks.{shown}
use Rattle.hy_session.proofs.AgainLaws.{rows-again}
use Rattle.hy_session.proofs.session.Session.fork.Goals as goal

pub returns-clause-rows : goal.returns-clause-rows
returns-clause-rows g c =
    rows-again g.row.N c.in_ok-all.all c.args.self.now (c.in_ok-all.ensures.shown ∙ ap (map shown) c.self.view_is)
