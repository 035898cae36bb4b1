use Rattle.hy_bench.proofs.payment_rounds.run.Given as goal

-- the kit that was just made
abbrev pub ghosts-payments-K-World : goal.ghosts-payments-K-World
ghosts-payments-K-World a = record { passes = a.kit }

-- and the load
abbrev pub ghosts-payments-K-Loaded : goal.ghosts-payments-K-Loaded
ghosts-payments-K-Loaded a = record { load = a.load.now }
