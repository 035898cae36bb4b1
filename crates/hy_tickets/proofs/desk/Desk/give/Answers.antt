use Rattle.std.proofs.Common.{rules}
use Rattle.hy_tickets.proofs.Steps.{hands_at, writes_at}
use Rattle.hy_tickets.proofs.desk.Desk.give.Goals as goal

pub compare_exchange-requires : goal.compare_exchange-requires
compare_exchange-requires g c =
    (search rules, search rules, writes_at _ _ _ _ (search rules) (search rules) (search rules))

pub split_seat-seat-requires : goal.split_seat-seat-requires
split_seat-seat-requires g c = (search rules, search rules, hands_at _ _ (search rules) (search rules))
