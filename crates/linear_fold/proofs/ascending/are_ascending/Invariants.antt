use Rattle.std.proofs.Common.{◌↔◌, drop}
use Rattle.nl_model.specs.Expressions.{linear_terms}
use Rattle.linear_fold.specs.InsideLinearTerms.{AreStrictlyAscending}
use Rattle.linear_fold.proofs.ascending.are_ascending.Given as goal

abbrev pub invariant-loop-variable : goal.invariant-loop-variable
invariant-loop-variable l = AreStrictlyAscending l.least (linear_terms (drop l.variable-index l.terms)) ↔ AreStrictlyAscending 0 (linear_terms l.terms)
