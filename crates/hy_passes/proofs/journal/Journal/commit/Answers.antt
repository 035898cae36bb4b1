use Rattle.std.proofs.Common.{◌≡◌, true, sym, subst}
use Rattle.hy_passes.specs.SerialList.{are_warehouses}
use Rattle.hy_passes.proofs.SerialLaws.{named-alone}
use Rattle.hy_passes.proofs.journal.Journal.commit.Goals as goal

pub append-requires-clause-named : goal.append-requires-clause-named
append-requires-clause-named g c =
    let range = c.tell.ensures.range in
    subst (λ named. are_warehouses g.K.World.passes.partitions named ≡ true) (sym c.requires.alone) (named-alone _ _ range.0 range.1)
