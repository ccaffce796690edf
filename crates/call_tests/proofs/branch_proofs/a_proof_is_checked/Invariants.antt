use Rattle.call_tests.proofs.branch_proofs.a_proof_is_checked.Given as goal

-- the ledger is the blank's
abbrev pub ghosts-verdict_on : goal.ghosts-verdict_on
ghosts-verdict_on g a = record { name = a.blank.name; parts = a.blank.parts }
