use Rattle.certified_solution.proofs.Decimals.{AreFirst}
use Rattle.certified_solution.proofs.numbers.decimals_of.Given as goal

abbrev pub invariant-numbers : goal.invariant-numbers
invariant-numbers l = AreFirst l.numbers l.decimals l.number-index
