use Rattle.hy_drills.proofs.session_tests.a_session_is_passed_on.Given as goal

-- the kit that was just made
abbrev pub ghosts-passes_on-K-World : goal.ghosts-passes_on-K-World
ghosts-passes_on-K-World g a = record { passes = a.kit }

-- and the load
abbrev pub ghosts-passes_on-K-Loaded : goal.ghosts-passes_on-K-Loaded
ghosts-passes_on-K-Loaded g a = record { load = a.load.now }
