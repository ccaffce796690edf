use Rattle.call_tests.proofs.stages.decimals_are_handed_on.Given as goal

-- the ledger is the blank's
abbrev pub ghosts-hands_on_decimals : goal.ghosts-hands_on_decimals
ghosts-hands_on_decimals g a = record { name = a.blank.name; parts = a.blank.parts }
