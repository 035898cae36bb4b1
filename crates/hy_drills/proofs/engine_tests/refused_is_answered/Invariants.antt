use Rattle.hy_drills.proofs.engine_tests.refused_is_answered.Given as goal

-- the kit that was just made
abbrev pub ghosts-refuses-K-World : goal.ghosts-refuses-K-World
ghosts-refuses-K-World g a = record { passes = a.kit }

-- and the load
abbrev pub ghosts-refuses-K-Loaded : goal.ghosts-refuses-K-Loaded
ghosts-refuses-K-Loaded g a = record { load = a.load.now }
