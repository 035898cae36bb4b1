use Rattle.hy_program.proofs.replay.recovered_from.Given as goal

-- the kit that was just made
abbrev pub ghosts-tables_behind-K-World : goal.ghosts-tables_behind-K-World
ghosts-tables_behind-K-World a = record { passes = a.kit }

-- and the load
abbrev pub ghosts-tables_behind-K-Loaded : goal.ghosts-tables_behind-K-Loaded
ghosts-tables_behind-K-Loaded a = record { load = a.load.now }
