use Rattle.hy_session.proofs.ShownLaws.{same-lists}
use Rattle.hy_session.proofs.session.Session.shows.Goals as goal

pub returns : goal.returns
returns g c = λ database some spells. same-lists g.row.N database c.args.self.now some spells
