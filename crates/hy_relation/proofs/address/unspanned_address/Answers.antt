use Rattle.std.proofs.Common.{sym}
use Rattle.hy_relation.proofs.AddressLaws.{offset-unspanned}
use Rattle.hy_relation.proofs.address.unspanned_address.Goals as goal

pub returns-clause-offset : goal.returns-clause-offset
returns-clause-offset c = sym (offset-unspanned c.args.size c.args.row_bytes c.args.slot c.requires.least c.requires.unspanned)
