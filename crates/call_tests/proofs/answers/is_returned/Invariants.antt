use Rattle.call_tests.proofs.answers.is_returned.Given as goal

-- the ledger is the blank's
abbrev pub ghosts-returned : goal.ghosts-returned
ghosts-returned g a = record { name = a.blank.name; parts = a.blank.parts }
