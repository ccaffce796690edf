-- Rows and columns that are put together from a linear program.
use Rattle.std.proofs.Common.{◌≡◌, ℕ, ◌+◌, ◌≤◌, arith, ◌^◌, ◌∙◌, sym, ap, ap₂, subst, Bool, List, length, map, Option}
use Rattle.std.specs.Global.{Vec}
use Rattle.std.specs.Prelude.{slice_get}
use Rattle.std.proofs.lemmas.List.{length-map}
use Rattle.exact_numbers.specs.declared.dec.Dec.{Dec}
use Rattle.exact_numbers.specs.declared.frac.Frac.{Frac}
use Rattle.linear_program.specs.declared.kind.Kind.{Kind}
use Rattle.linear_program.specs.Elements.{elements_from}
use Rattle.linear_program.specs.Coefs.{Term, AreAscending, AreBelow}
use Rattle.linear_program.specs.Programs.{IsLinear, LinearValue, linear_value}
use Rattle.exact_checks.specs.declared.form.Body.{Body}
use Rattle.exact_checks.specs.declared.form.Row.{Row}
use Rattle.exact_checks.specs.Built.{AreColumnsOf, AreCostsOf, AreRowsOf, AreWithin, IsCopy}
use Rattle.exact_checks.specs.Lists.{AreSound, AreTransposed}
use Rattle.exact_checks.specs.Programs.{form_of, program_row, program_variable}
use Rattle.exact_checks.specs.Terms.{AreTerms}
use Rattle.exact_checks.proofs.Copied.{are_terms, copy_is, rows_are, rows_count, variables_are}
use Rattle.exact_checks.proofs.Transposed.{columns_same, columns_terms}

-- the terms of a copied objective
pub objective_within : (l : LinearValue) (objective : Body) (bounds : ℕ) → IsLinear l → IsCopy l.objective objective
    → AreAscending 0 objective.terms → bounds ≡ length l.bounds → AreTerms 0 bounds objective.terms
objective_within l objective bounds folded copy up e =
    subst (λ n. AreTerms 0 n objective.terms) (sym e)
    (are_terms 0 (length l.bounds) objective.terms up (subst (AreBelow (length l.bounds)) (sym copy.terms) folded.objective))

module _ (l : LinearValue) (folded : IsLinear l) (rows : List Row) (objective : Body) (lower upper : List (Option Dec))
    (copies : AreRowsOf l.bodies l.sides rows) (within : AreWithin (length l.bounds) rows)
    (copy : IsCopy l.objective objective)
    (up : AreAscending 0 objective.terms) (lows : lower ≡ map (λ b. b.lo) l.bounds) (highs : upper ≡ map (λ b. b.hi) l.bounds) where
  lower_count : length lower ≡ length l.bounds
  lower_count = ap length lows ∙ length-map l.bounds (λ b. b.lo)

  pub upper_count : length upper ≡ length lower
  upper_count = ap length highs ∙ length-map l.bounds (λ b. b.hi) ∙ sym lower_count

  pub sound : AreSound (length lower) rows objective
  sound =
      record {
        few_rows = subst (λ m. m ≤ 2 ^ 20) (sym (rows_count l.bodies l.sides rows copies)) folded.few_rows;
        few_columns = subst (λ m. m ≤ 2 ^ 20) (sym lower_count) folded.few_columns;
        objective_terms = objective_within l objective (length lower) folded copy up lower_count;
        rows_terms = subst (λ m. AreWithin m rows) (sym lower_count) within;
      }

  pub program_is : (kinds : List Kind) (max : Bool) → kinds ≡ l.kinds → max ≡ l.maximise →
      record {
        rows = elements_from (program_row rows) 0 (length rows);
        variables = elements_from (program_variable lower upper kinds) 0 (length lower);
        objective = form_of objective;
        maximise = max;
      }
      ≡ linear_value l
  unfolding linear_value
  program_is kinds max same sense =
      let variables =
      ap₂ (λ lo hi. elements_from (program_variable lo hi kinds) 0 (length lower)) lows highs
      ∙ ap₂ (λ ks m. elements_from (program_variable (map (λ b. b.lo) l.bounds) (map (λ b. b.hi) l.bounds) ks) 0 m) same lower_count
      ∙ variables_are l.bounds l.kinds folded.kinds in
      let all = rows_are (length l.bounds) rows 0 l.bodies l.sides rows folded.bodies copies (λ k r at. let same : 0 + k ≡ k = omega arith in ap (slice_get rows) same ∙ at) in
      λ q. record {
        rows = all q;
        variables = variables q;
        objective = copy_is l.objective objective copy q;
        maximise = sense q;
      }

pub columns_are : (n : ℕ) (rows : List Row) (columns : List (Vec Term)) (costs : List Frac) (objective : Body)
    → AreSound n rows objective → AreColumnsOf n rows columns → AreCostsOf n objective.terms costs
    → AreTransposed rows columns costs objective
columns_are n rows columns costs objective sound by_column priced =
    record {
      columns_terms = columns_terms n rows columns sound.rows_terms by_column;
      priced = priced.values;
      same = columns_same n rows columns sound.rows_terms by_column;
    }

pub ruleset assembled = (objective_within, program_is, rows_count)
