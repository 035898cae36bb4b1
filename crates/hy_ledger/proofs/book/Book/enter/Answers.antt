use Rattle.std.proofs.Common.{rules}
use Rattle.hy_ledger.proofs.Insides.{entered-book}
use Rattle.hy_ledger.proofs.book.Book.enter.Goals as goal

pub invariant_of-self : goal.invariant_of-self
invariant_of-self g c =
    entered-book g.K.World.passes _ _ _ _ _ _ c.args.cents c.self.invariant (search rules) c.requires.small _ _ (search rules) (search rules)
