use Rattle.std.proofs.Common.{rules}
use Rattle.std.proofs.lemmas.Int.{wraps}
use Rattle.hy_tallies.proofs.owned.OwnedValues.add.Goals as goal

pub returns : goal.returns
returns c = search (rules, wraps)
