use Rattle.std.proofs.Common.{rules, refl}
use Rattle.hy_passes.proofs.Steps.{appends_at}
use Rattle.hy_passes.proofs.passes.Passes.append.Goals as goal

pub compare_exchange_with-requires : goal.compare_exchange_with-requires
compare_exchange_with-requires g c =
    (search rules, search rules, appends_at g.C.Commits.warehouses _ _ _ c.args.entry.now _ _ c.requires.place.1 c.requires.length refl)
