use Rattle.std.proofs.Common.{◌≡◌, ℕ, ◌+◌, ◌<◌, length, get_or, take}
use Rattle.nl_model.specs.UseCounts.{uses_in}
use Rattle.nl_writer.proofs.columns.count_terms.Given as goal

abbrev pub invariant-loop-term : goal.invariant-loop-term
invariant-loop-term l = (j : ℕ) → j < length l.initial.uses → get_or l.uses j 0 ≡ get_or l.initial.uses j 0 + uses_in (take l.term-index l.terms) j
