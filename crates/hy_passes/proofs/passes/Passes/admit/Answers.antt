use Rattle.std.proofs.Common.{rules}
use Rattle.hy_passes.proofs.Steps.{admits_at}
use Rattle.hy_passes.proofs.passes.Passes.admit.Goals as goal

pub split_seat-seat-requires : goal.split_seat-seat-requires
split_seat-seat-requires g c = (search rules, search rules, admits_at g.C.Commits.warehouses _ _ c.requires.journal.1)
