use Rattle.mps_program.proofs.TermLemmas.{AreOnTheirWay}
use Rattle.mps_program.proofs.terms.terms_by_row.Given as goal

abbrev pub invariant-columns : goal.invariant-columns
invariant-columns l = AreOnTheirWay l.mps l.j l.terms
