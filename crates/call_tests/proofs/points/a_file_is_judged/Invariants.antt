use Rattle.call_tests.proofs.points.a_file_is_judged.Given as goal

-- the ledger is the blank's
abbrev pub ghosts-columns_of : goal.ghosts-columns_of
ghosts-columns_of g a = record { name = a.blank.name; parts = a.blank.parts }
