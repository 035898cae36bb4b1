use Rattle.hy_program.proofs.first.first.Given as goal

-- the kit that was just made
abbrev pub ghosts-first_of-K-World : goal.ghosts-first_of-K-World
ghosts-first_of-K-World a = record { passes = a.kit }

-- and the load
abbrev pub ghosts-first_of-K-Loaded : goal.ghosts-first_of-K-Loaded
ghosts-first_of-K-Loaded a = record { load = a.load.now }
