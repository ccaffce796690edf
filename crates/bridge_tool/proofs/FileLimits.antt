-- The linear program of a file is named by number, and within the limits of what is exported where the file folds.
use Rattle.std.proofs.Common.{◌≡◌, ◌∙◌, if◌then◌else◌, ℕ, zero, suc, ◌+◌, ◌≤◌, ◌^◌, Bool, true, false, nat_lt, List, []}
use Rattle.std.proofs.Common.{◌∷◌, ◌++◌, length, get_or, Option, Some, None, refl, sym, ap, ap₂, subst, arith}
use Rattle.std.specs.Prelude.{All, IfSome, option_map}
use Rattle.std.specs.List.{sum_by}
use Rattle.std.proofs.lemmas.Bool.{ltb-false}
use Rattle.std.proofs.lemmas.List.Sums.{sum_by-append, sum_by-cons, sum_by_push}
use Rattle.exact_numbers.proofs.Tests.{option_or-none}
use Rattle.exact_numbers.specs.declared.dec.Dec.{Dec}
use Rattle.exact_numbers.specs.Values.{FitsDec, dec_value}
use Rattle.exact_numbers.proofs.Fitting.{dec_fits}
use Rattle.linear_program.specs.declared.interval.Interval.{Interval as Sides}
use Rattle.linear_program.specs.Intervals.{interval_of, no_sides}
use Rattle.linear_program.specs.Elements.{elements_from}
use Rattle.linear_program.specs.Linear.{Interval, Variable, no_row, no_variable, row_count, variable_count}
use Rattle.linear_program.specs.Lines.{Line, form_of_line}
use Rattle.linear_program.specs.Names.{row_name, variable_name}
use Rattle.linear_program.proofs.Elements.{all_elements, elements_at, elements_length}
use Rattle.nl_model.specs.File.{File}
use Rattle.nl_model.specs.Rules.{IsFile}
use Rattle.nl_model.proofs.Headers.{counts_of_header}
use Rattle.nl_model.specs.Expressions.{definitions_of, body_of, objective_of}
use Rattle.nl_model.specs.FoldFaults.{FoldFault, Owned, coefficient_count, fold_fault, has_objective, head_fault, most_coefficients, owned_by, owned_definition, owned_line, owners_fault}
use Rattle.nl_model.specs.LinearFile.{linear_of, linear_row, linear_variable, objective_form}
use Rattle.nl_model.proofs.Files.{linear_lem}
use Rattle.nl_model.proofs.Formed.{file_formed}
use Rattle.round_trips.specs.Exportable.{HasDecimalBounds, IsExportable, IsNamedByNumber, coefficient_total, form_count}
use Rattle.nl_model.specs.declared.at.Owner.{Owner}
use Rattle.nl_model.specs.declared.at.Owner.TheVariants.{Con, Obj}

-- ---- counts and names

pub file_rows : (f : File) (k : ℕ) → row_count (linear_of f k) ≡ f.counts.n_con
unfolding linear_of
file_rows f k = elements_length (linear_row f) 0 f.counts.n_con

pub file_variables : (f : File) (k : ℕ) → variable_count (linear_of f k) ≡ f.counts.n_var
unfolding linear_of
file_variables f k = elements_length (linear_variable f) 0 f.counts.n_var

pub file_named : (f : File) (k : ℕ) → IsFile f → IsNamedByNumber (linear_of f k)
unfolding linear_of
file_named f k file =
    let counts = counts_of_header f.options f.counts file.ruled in
    let rows = elements_length (linear_row f) 0 f.counts.n_con in
    let variables = elements_length (linear_variable f) 0 f.counts.n_var in
    record {
      rows = λ i lt. ap (λ r. r.name) (elements_at (linear_row f) 0 f.counts.n_con i no_row (omega (arith, lt, rows))) ∙ ap row_name (omega arith);
      variables = λ j lt. ap (λ v. v.name) (elements_at (linear_variable f) 0 f.counts.n_var j no_variable (omega (arith, lt, variables))) ∙ ap variable_name (omega arith);
      few_rows = omega (arith, rows, counts.constraints);
      few_variables = omega (arith, variables, counts.variables);
    }

-- ---- bounds

dec_side : (o : Option Dec) → IfSome (option_map dec_value o) FitsDec
dec_side None = tt
dec_side (Some d) = dec_fits d

sides_decimal : (s : Sides) (x : Variable) → x.bound ≡ interval_of s → HasDecimalBounds x
sides_decimal s x e = record {
  lower = subst (λ (i : Interval). IfSome i.lower FitsDec) (sym e) (dec_side s.lo);
  upper = subst (λ (i : Interval). IfSome i.upper FitsDec) (sym e) (dec_side s.hi);
}

bounds_decimal : (f : File) (k : ℕ) → All HasDecimalBounds (linear_of f k).variables
unfolding linear_of
bounds_decimal f k = all_elements (linear_variable f) HasDecimalBounds f.counts.n_var (λ j lt. sides_decimal (get_or f.bounds j no_sides) (linear_variable f j) refl)

-- ---- coefficients

few_at_head : (o : Owner) (count : ℕ) → head_fault o count ≡ None → count ≤ most_coefficients
few_at_head o count e = by (nat_lt most_coefficients count) refl e
  where
    by : (b : Bool) → nat_lt most_coefficients count ≡ b → (if b then Some (FoldFault.fold_too_large o) else None) ≡ None → count ≤ most_coefficients
    by true q h = absurd cc
    by false q h = ltb-false most_coefficients count q

abbrev size : ℕ → Owned → ℕ
size n o = coefficient_count n (owned_line o)

few_owned : (n count : ℕ) (os : List Owned) → count ≤ most_coefficients → owners_fault n count os ≡ None → count + sum_by (size n) os ≤ most_coefficients
few_owned n count [] le e = omega (arith, le)
few_owned n count (o ∷ os) le e =
    let total : ℕ = count + size n o in
    let parts = option_or-none _ _ e in
    let head = option_or-none _ _ parts.0 in
    let here : total ≤ most_coefficients = few_at_head o.owner total head.1 in
    few_more count (size n o) (sum_by (size n) os) (sum_by (size n) (o ∷ os)) (sum_by-cons (size n) o os) (few_owned n total os here parts.1)
  where
    few_more : (a b c d : ℕ) → d ≡ b + c → (a + b) + c ≤ most_coefficients → a + d ≤ most_coefficients
    few_more a b c d same h = omega (arith, same, h)

same_count : (l : Line) (n : ℕ) → coefficient_count n l ≡ form_count n (form_of_line l)
same_count l zero = refl
same_count l (suc n) = omega (arith, same_count l n)

-- the bodies' lines are those of the linear program
bodies_count : (f : File) (n i m : ℕ) → sum_by (size n) (elements_from (λ i. owned_by f (Con i) (body_of f i)) i m) ≡ sum_by (λ r. form_count n r.body) (elements_from (linear_row f) i m)
unfolding elements_from
bodies_count f n i zero = refl
bodies_count f n i (suc m) =
    sum_by-cons (size n) (owned_by f (Con i) (body_of f i))
    (elements_from (λ i. owned_by f (Con i) (body_of f i)) (suc i) m)
    ∙ ap₂ (λ (a b : ℕ). a + b) (same_count (owned_line (owned_by f (Con i) (body_of f i))) n)
    (bodies_count f n (suc i) m)
    ∙ sym (sum_by-cons (λ r. form_count n r.body) (linear_row f i) (elements_from (linear_row f) (suc i) m))

few_coefficients : (f : File) (k : ℕ) → fold_fault f k ≡ None
    → sum_by (λ r. form_count f.counts.n_var r.body) (elements_from (linear_row f) 0 f.counts.n_con) + form_count f.counts.n_var (objective_form f k) ≤ most_coefficients
unfolding fold_fault
few_coefficients f k e = by (has_objective f k) e
  where
    n : ℕ
    n = f.counts.n_var

    bodies : List Owned
    bodies = elements_from (λ i. owned_by f (Con i) (body_of f i)) 0 f.counts.n_con

    definitions : List Owned
    definitions = elements_from (owned_definition (definitions_of f)) 0 (length (definitions_of f))

    by : (b : Bool) → (if b then owners_fault n 0 (definitions ++ (bodies ++ owned_by f (Obj k) (objective_of f k) ∷ [])) else Some (FoldFault.no_such_objective k)) ≡ None
        → sum_by (λ r. form_count n r.body) (elements_from (linear_row f) 0 f.counts.n_con) + form_count n (objective_form f k) ≤ most_coefficients
    by true h = omega (
      arith,
      few_owned n 0 (definitions ++ (bodies ++ owned_by f (Obj k) (objective_of f k) ∷ [])) (omega arith) h,
      sum_by-append (size n) definitions (bodies ++ owned_by f (Obj k) (objective_of f k) ∷ []),
      sum_by_push (size n) bodies (owned_by f (Obj k) (objective_of f k)),
      same_count (owned_line (owned_by f (Obj k) (objective_of f k))) n,
      bodies_count f n 0 f.counts.n_con,
    )
    by false h = absurd cc

-- ---- a file that folds

total_of : (f : File) (k : ℕ) → fold_fault f k ≡ None → coefficient_total (linear_of f k) ≤ 2 ^ 23
unfolding linear_of
total_of f k folded =
    subst (λ (n : ℕ). sum_by (λ r. form_count n r.body) (elements_from (linear_row f) 0 f.counts.n_con)
    + form_count n (objective_form f k) ≤ 2 ^ 23) (sym (elements_length (linear_variable f) 0 f.counts.n_var))
    (few_coefficients f k folded)

pub file_exportable : (f : File) (k : ℕ) → IsFile f → fold_fault f k ≡ None → IsExportable (linear_of f k)
file_exportable f k file folded = record { named = file_named f k file; linear = linear_lem f k (file_formed f file k); few_coefficients = total_of f k folded; bounds = bounds_decimal f k }
