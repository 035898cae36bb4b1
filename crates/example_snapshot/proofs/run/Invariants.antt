use Rattle.example_snapshot.proofs.run.Given as goal

-- the kit that was just made
abbrev pub ghosts-pay_and_look-K-World : goal.ghosts-pay_and_look-K-World
ghosts-pay_and_look-K-World a = record { passes = a.kit }

-- and the load
abbrev pub ghosts-pay_and_look-K-Loaded : goal.ghosts-pay_and_look-K-Loaded
ghosts-pay_and_look-K-Loaded a = record { load = a.load.now }
