use Rattle.hy_drills.proofs.reply_tests.replies_are_those_of_a_script.Given as goal

-- the kit that was just made
abbrev pub ghosts-replies-K-World : goal.ghosts-replies-K-World
ghosts-replies-K-World g a = record { passes = a.kit }

-- and the load
abbrev pub ghosts-replies-K-Loaded : goal.ghosts-replies-K-Loaded
ghosts-replies-K-Loaded g a = record { load = a.load.now }
