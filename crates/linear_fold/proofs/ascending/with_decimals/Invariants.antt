use Rattle.std.proofs.Common.{◌≡◌, ◌+◌, [], drop, take}
use Rattle.exact_numbers.specs.Values.{frac_value}
use Rattle.nl_model.specs.Expressions.{linear_terms}
use Rattle.linear_program.specs.Decimals.{fraction_terms}
use Rattle.linear_program.proofs.DecimalLemmas.{AllFit}
use Rattle.linear_fold.proofs.Expressions.{IsListed, list_line}
use Rattle.linear_fold.proofs.ascending.with_decimals.Given as goal

abbrev pub invariant-loop-index : goal.invariant-loop-index
invariant-loop-index g l =
    record {
      listed : IsListed (list_line (frac_value l.number) []) l.first (linear_terms l.terms) (frac_value l.number)
          (fraction_terms (take l.index l.terms)) (l.first + l.index) (linear_terms (drop l.index l.terms));
      fit : AllFit (drop l.index l.terms) → AllFit l.terms;
      counted : l.steps ≡ l.fn.steps + 1 + l.index;
    }
