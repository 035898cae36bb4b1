use Rattle.std.proofs.Common.{rules}
use Rattle.hy_tickets.proofs.Steps.{lays_at, takes_at}
use Rattle.hy_tickets.proofs.desk.Desk.take_back.Goals as goal

pub join_seat-requires : goal.join_seat-requires
join_seat-requires g c =
    (search rules, search rules, search rules, search rules, lays_at _ _ _ _ (search rules) (search rules))

pub load-requires : goal.load-requires
load-requires g c = (search rules, search rules, takes_at _ _ _ (search rules) (search rules))
