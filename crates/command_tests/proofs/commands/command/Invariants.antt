use Rattle.command_tests.proofs.commands.command.Given as goal

-- the ledger is the blank's
abbrev pub ghosts-run : goal.ghosts-run
ghosts-run g a = record { name = a.blank.name; parts = a.blank.parts }
