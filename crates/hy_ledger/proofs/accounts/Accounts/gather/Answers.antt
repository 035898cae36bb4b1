use Rattle.std.proofs.Common.{rules, subst, ◌≤◌}
use Rattle.hy_ledger.specs.Books.{max_commits}
use Rattle.hy_ledger.specs.Law.{weigh_own}
use Rattle.hy_ledger.proofs.Steps.{counts, gathers}
use Rattle.hy_ledger.proofs.accounts.Accounts.gather.Goals as goal

pub join_seat-requires : goal.join_seat-requires
join_seat-requires c = (search rules, search rules, search rules, search rules, gathers _ _ _ _)

pub load-requires : goal.load-requires
load-requires c = (search rules, search rules, counts _ _ _)

pub returns-clause-few : goal.returns-clause-few
returns-clause-few c =
    λ w. subst (λ me. weigh_own (λ _. 1) w me.0.held ≤ max_commits) c.join_seat.ensures.2 (c.load.ensures.2.1 w)
