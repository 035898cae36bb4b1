use Rattle.std.proofs.Common.{rules}
use Rattle.hy_passes.proofs.Steps.{admits_at, boards_at, leaves_at, meets_at}
use Rattle.hy_passes.proofs.passes.Passes.meet.Goals as goal

pub split_seat-blank-requires : goal.split_seat-blank-requires
split_seat-blank-requires g c = (search rules, search rules, admits_at g.C.Commits.warehouses _ _ (search rules))

pub join_seat-requires : goal.join_seat-requires
join_seat-requires g c =
    (search rules, search rules, search rules, search rules, boards_at g.C.Commits.warehouses _ _ _ _ (search rules))

pub load-requires : goal.load-requires
load-requires g c = (search rules, search rules, meets_at g.C.Commits.warehouses _ _ _ (search rules))

pub split_seat-requires : goal.split_seat-requires
split_seat-requires g c = (search rules, search rules, leaves_at g.C.Commits.warehouses _ _ (search rules))
