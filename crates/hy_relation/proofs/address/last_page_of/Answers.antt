use Rattle.std.proofs.Common.{arith}
use Rattle.hy_relation.proofs.address.last_page_of.Goals as goal

pub returns : goal.returns
returns c = omega (arith, c.address_behind.ensures.page)
