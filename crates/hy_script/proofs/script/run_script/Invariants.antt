use Rattle.hy_script.proofs.script.run_script.Given as goal

-- the kit that was just made, and the load
abbrev pub ghosts-run_over-K-World : goal.ghosts-run_over-K-World
ghosts-run_over-K-World g a = record { passes = a.kit }

abbrev pub ghosts-run_over-K-Loaded : goal.ghosts-run_over-K-Loaded
ghosts-run_over-K-Loaded g a = record { load = a.load.now }
