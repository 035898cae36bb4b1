use Rattle.hy_ledger.proofs.accounts.Accounts.enter.Given as goal

-- the cents that are entered
abbrev pub ghosts-tell : goal.ghosts-tell
ghosts-tell a = record { cents = a.cents }
