use Rattle.std.proofs.Common.{◌≡◌, length}
use Rattle.hy_crossing.specs.of_partition.Jobs.{Log}
use Rattle.hy_forks.specs.Accounts.{HaveBooks, HaveKept}
use Rattle.hy_forks.proofs.gathering.audit_all.Given as goal

-- the books before the place were laid beside the purse, and all partitions stay
abbrev pub invariant-loop-place : goal.invariant-loop-place
invariant-loop-place g l =
    (g.P.Parts.states l.parts ≡ g.P.Parts.states l.fn.parts) × (l.balance.audited ≡ l.place)
    × (l.balance.shares ≡ l.fn.balance.shares)
    × ((log : Log) → HaveKept log (g.P.Parts.states l.fn.parts) → HaveBooks g.K.Loaded.load log l.place l.balance.books)
    × (l.place-end ≡ length (g.P.Parts.states l.fn.parts))
