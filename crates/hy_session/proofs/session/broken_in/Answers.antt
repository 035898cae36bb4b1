use Rattle.hy_session.specs.Reports.{broken_condition}
use Rattle.hy_session.proofs.session.broken_in.Goals as goal

pub returns : goal.returns
unfolding broken_condition
returns g c = rw c.in_ok-tables.ensures at c.first_broken.ensures
