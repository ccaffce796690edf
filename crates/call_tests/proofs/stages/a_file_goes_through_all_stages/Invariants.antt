use Rattle.call_tests.proofs.stages.a_file_goes_through_all_stages.Given as goal

-- the ledger is the blank's
abbrev pub ghosts-exported : goal.ghosts-exported
ghosts-exported g a = record { name = a.blank.name; parts = a.blank.parts }
