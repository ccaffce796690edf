use Rattle.std.proofs.Common.{◌↔◌, drop}
use Rattle.nl_model.specs.Expressions.{linear_terms}
use Rattle.linear_fold.specs.InsideLinearTerms.{AreZeroTerms}
use Rattle.linear_fold.proofs.ascending.are_zero.Given as goal

abbrev pub invariant-loop-factor : goal.invariant-loop-factor
invariant-loop-factor l = AreZeroTerms (linear_terms (drop l.factor-index l.terms)) ↔ AreZeroTerms (linear_terms l.terms)
