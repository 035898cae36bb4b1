use Rattle.std.proofs.Common.{refl, rules, w64}
use Rattle.std.proofs.lemmas.Int.{to_z-of_z}
use Rattle.hy_session.proofs.session.line_of.Goals as goal

pub returns : goal.returns
returns c = rw (to_z-of_z w64 c.args.row.now.ytd (search rules), c.undelivered_of.ensures) refl
