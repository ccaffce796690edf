use Rattle.call_tests.proofs.stages.decimals_are_kept.Given as goal

-- the ledger is the blank's
abbrev pub ghosts-keeps_decimals : goal.ghosts-keeps_decimals
ghosts-keeps_decimals g a = record { name = a.blank.name; parts = a.blank.parts }
