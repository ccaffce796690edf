use Rattle.std.proofs.Common.{◌≡◌, ◌+◌, drop}
use Rattle.nl_model.specs.Faults.{line_with_terms, terms_fault}
use Rattle.nl_model.specs.Expressions.{linear_terms}
use Rattle.linear_program.specs.Forms.{place_count, sum_line}
use Rattle.linear_fold.proofs.expression.add_linear_terms.Given as goal

abbrev pub invariant-loop-index : goal.invariant-loop-index
invariant-loop-index g l =
    record {
      fault : terms_fault (sum_line l.total) (l.first + l.index) (linear_terms (drop l.index l.terms)) ≡ terms_fault (sum_line l.fn.total) l.first (linear_terms l.terms);
      line : line_with_terms (sum_line l.total) (linear_terms (drop l.index l.terms)) ≡ line_with_terms (sum_line l.fn.total) (linear_terms l.terms);
      places : place_count l.total ≡ place_count l.fn.total;
      counted : l.steps ≡ l.fn.steps + l.index;
    }
