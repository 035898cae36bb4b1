use Rattle.hy_drills.proofs.stranger_tests.a_snapshot_of_another_engine_comes_back.Given as goal

-- the kits that were just made
abbrev pub ghosts-strangers-K-World : goal.ghosts-strangers-K-World
ghosts-strangers-K-World g a = record { passes = a.kit }

abbrev pub ghosts-strangers-L-World : goal.ghosts-strangers-L-World
ghosts-strangers-L-World g a = record { passes = a.other }

-- and the load of both
abbrev pub ghosts-strangers-K-Loaded : goal.ghosts-strangers-K-Loaded
ghosts-strangers-K-Loaded g a = record { load = a.load.now }

abbrev pub ghosts-strangers-L-Loaded : goal.ghosts-strangers-L-Loaded
ghosts-strangers-L-Loaded g a = record { load = a.load.now }
