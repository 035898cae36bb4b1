use Rattle.hy_drills.proofs.engine_tests.reads_its_write.Given as goal

-- the kit that was just made
abbrev pub ghosts-reads-K-World : goal.ghosts-reads-K-World
ghosts-reads-K-World g a = record { passes = a.kit }

-- and the load
abbrev pub ghosts-reads-K-Loaded : goal.ghosts-reads-K-Loaded
ghosts-reads-K-Loaded g a = record { load = a.load.now }
