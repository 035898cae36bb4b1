use Rattle.std.proofs.Common.{◌≡◌, true, ap, arith}
use Rattle.std.proofs.lemmas.Bool.{false≢true}
use Rattle.std.proofs.lemmas.Bool.Decides.{nat_tests}
use Rattle.hy_recovery.specs.of_partition.Steps.{is_from}
use Rattle.hy_program.proofs.first.ytd_now.Goals as goal

-- the snapshot that was just taken says that it is the warehouse's
pub unreachable-requires : goal.unreachable-requires
unreachable-requires g c =
    let forks = c.in_ok-snapshot.ensures.forks in
    let here : c.fork.new.self.warehouse ≡ c.args.partition.now.warehouse = ap (λ terms. terms.warehouse) forks.job.terms in
    let own : is_from c.in_ok-snapshot.snapshot c.fork.new.self.warehouse g.K.World.passes ≡ true =
    rw (forks.warehouse, forks.name, here) (grind (arith, nat_tests)) in
    false≢true (c.in-Err.ensures.mine.1 own)
