use Rattle.std.proofs.Common.{◌≡◌, drop}
use Rattle.mps_program.specs.Terms.{has_wide_term}
use Rattle.mps_program.proofs.terms.has_wide_term.Given as goal

abbrev pub invariant-terms : goal.invariant-terms
invariant-terms l = has_wide_term (drop l.term-index l.terms) ≡ has_wide_term l.terms
