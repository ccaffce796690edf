use Rattle.call_tests.proofs.stages.a_multiple_is_added.Given as goal

-- the ledger is the blank's
abbrev pub ghosts-doubled : goal.ghosts-doubled
ghosts-doubled g a = record { name = a.blank.name; parts = a.blank.parts }

abbrev pub ghosts-doubled_closed : goal.ghosts-doubled_closed
ghosts-doubled_closed g a = record { name = a.blank.name; parts = a.blank.parts }
