-- The numbers of an imported objective are decimals.
use Rattle.std.proofs.Common.{◌≡◌, ◌≢◌, ◌∙◌, ℕ, zero, suc, Bool, true, false, ◌&&◌, not, cond, nat_eq, List, [], ◌∷◌}
use Rattle.std.proofs.Common.{◌++◌, get_or, All, AllPairs, refl, sym, ap, ap₂, subst, arith, Some, None, if◌then◌else◌}
use Rattle.std.specs.List.{cons_option, filter_map}
use Rattle.std.proofs.lemmas.Bool.{eq-eqb, eqb-true, ne_eqb}
use Rattle.std.proofs.lemmas.List.Elements.{All-append, All-cons, All-nil}
use Rattle.exact_numbers.specs.Rational.{ℚ, zero_ℚ, ◌+ℚ◌}
use Rattle.exact_numbers.specs.Sums.{sum_over}
use Rattle.exact_numbers.proofs.Adding.{sum_over-append}
use Rattle.exact_numbers.proofs.RationalLaws.{+ℚ_zero, zero-+ℚ}
use Rattle.exact_numbers.specs.declared.dec.Dec.{Dec}
use Rattle.exact_numbers.specs.Values.{FitsDec, dec_value}
use Rattle.nl_model.specs.File.{Term}
use Rattle.nl_model.specs.Expressions.{definitions_of}
use Rattle.linear_program.specs.Decimals.{coefficient_of}
use Rattle.nl_model.specs.LinearFile.{linear_of, objective_form}
use Rattle.nl_model.proofs.Plain.{plain_coefficient, plain_constant}
use Rattle.linear_program.specs.Linear.{variable_count}
use Rattle.mps_model.specs.Mps.{Entry, Mps, no_column, objective_row, rhs_at, with_values}
use Rattle.mps_model.specs.Valid.{IsMps}
use Rattle.scaled_program.specs.Fits.{IsDecimal}
use Rattle.scaled_program.specs.Factor.{coefficients_below}
use Rattle.mps_import.specs.Decimals.{number_tree}
use Rattle.mps_import.specs.Import.{entries_at, import_of, objective_constant, objective_terms, row_terms, terms_from}
use Rattle.mps_program.specs.Terms.{is_zero_dec, term_of}
use Rattle.mps_import.specs.Variables.{order_of_columns}
use Rattle.mps_program.specs.Program.{values_of}
use Rattle.mps_import.proofs.PartLemmas.{all_columns}
use Rattle.mps_program.proofs.SideLemmas.{rhs_fits, spelled_value}
use Rattle.exact_numbers.proofs.Fitting.{dec_fits, neg_fits, zero_fits}
use Rattle.round_trips.proofs.Files.{all_terms_from, column_terms}

-- ---- the coefficients of variables

none_there : (ts : List Term) (q : ℕ) → All (λ t. t.0 ≢ q) ts → coefficient_of ts q ≡ zero_ℚ
unfolding coefficient_of sum_over
none_there [] q h = refl
none_there (t ∷ ts) q h = ap₂ (λ b s. cond b (dec_value t.1) zero_ℚ +ℚ s) (ne_eqb t.0 q (h 0 t (omega arith))) (none_there ts q (λ k d lt. h (suc k) d (omega (arith, lt)))) ∙ +ℚ_zero zero_ℚ

both_parts : (xs ys : List Term) (q : ℕ) → coefficient_of (xs ++ ys) q ≡ coefficient_of xs q +ℚ coefficient_of ys q
unfolding coefficient_of
both_parts xs ys q = sum_over-append (λ t. cond (nat_eq t.0 q) (dec_value t.1) zero_ℚ) xs ys

none_fits : (q : ℕ) → FitsDec (coefficient_of [] q)
unfolding coefficient_of sum_over
none_fits q = zero_fits

one_fits : (p : ℕ) (d : Dec) → FitsDec (coefficient_of ((p, d) ∷ []) p)
unfolding coefficient_of sum_over
one_fits p d = subst FitsDec (sym (ap (λ b. cond b (dec_value d) zero_ℚ +ℚ zero_ℚ) (eq-eqb p p refl) ∙ +ℚ_zero (dec_value d))) (dec_fits d)

abbrev AreApart : List (Entry Dec) → Type 0
AreApart es = AllPairs (λ e g. e.row ≢ g.row) es

-- a column has at most one entry in a row
none_in_row : (i p : ℕ) (es : List (Entry Dec)) → All (λ e. e.row ≢ i) es → filter_map (term_of i p) es ≡ []
none_in_row i p [] h = refl
none_in_row i p (e ∷ es) h =
    ap (λ b. cons_option (if b && not (is_zero_dec e.value) then Some (p, e.value) else None) (filter_map (term_of i p) es)) (ne_eqb e.row i (h 0 e (omega arith)))
    ∙ none_in_row i p es (λ k d lt. h (suc k) d (omega (arith, lt)))

column_fits : (i p : ℕ) (es : List (Entry Dec)) → AreApart es → FitsDec (coefficient_of (filter_map (term_of i p) es) p)
column_fits i p [] apart = none_fits p
column_fits i p (e ∷ es) apart = by (nat_eq e.row i) (is_zero_dec e.value) refl (column_fits i p es (λ j k d lt within. apart (suc j) (suc k) d (omega (arith, lt)) (omega (arith, within))))
  where
    alone : e.row ≡ i → filter_map (term_of i p) es ≡ []
    alone same = none_in_row i p es (λ k d lt other. apart 0 (suc k) d (omega arith) (omega (arith, lt)) (same ∙ sym other))

    by : (a z : Bool) → nat_eq e.row i ≡ a → FitsDec (coefficient_of (filter_map (term_of i p) es) p)
        → FitsDec (coefficient_of (cons_option (if a && not z then Some (p, e.value) else None)
        (filter_map (term_of i p) es)) p)
    by true true s later = later
    by true false s later = subst (λ ts. FitsDec (coefficient_of ((p, e.value) ∷ ts) p)) (sym (alone (eqb-true e.row i s))) (one_fits p e.value)
    by false z s later = later

row_fits : (m : Mps Dec) (i p : ℕ) (js : List ℕ) (q : ℕ) → All (λ j. AreApart (entries_at m j)) js → FitsDec (coefficient_of (terms_from m i p js) q)
unfolding terms_from
row_fits m i p [] q apart = none_fits q
row_fits m i p (j ∷ js) q apart = subst FitsDec (sym (both_parts here rest q)) (by (nat_eq p q) refl (row_fits m i (suc p) js q (λ k d lt. apart (suc k) d (omega (arith, lt)))))
  where
    here : List Term
    here = filter_map (term_of i p) (entries_at m j)

    rest : List Term
    rest = terms_from m i (suc p) js

    own : FitsDec (coefficient_of here p)
    own = column_fits i p (entries_at m j) (apart 0 j (omega arith))

    later_ones : p ≡ q → coefficient_of rest q ≡ zero_ℚ
    later_ones same = none_there rest q (all_terms_from (λ t. t.0 ≢ q) m i (suc p) js (λ k d from below e. absurd (omega (arith, same, from, e))))

    own_ones : nat_eq p q ≡ false → coefficient_of here q ≡ zero_ℚ
    own_ones s = none_there here q (column_terms (λ t. t.0 ≢ q) i p (entries_at m j) (λ d e. let t = eq-eqb p q e in cc))

    by : (b : Bool) → nat_eq p q ≡ b → FitsDec (coefficient_of rest q) → FitsDec (coefficient_of here q +ℚ coefficient_of rest q)
    by true s later =
        let same = eqb-true p q s in
        subst FitsDec (sym (ap (λ x. coefficient_of here q +ℚ x) (later_ones same) ∙ +ℚ_zero (coefficient_of here q))) (subst (λ k. FitsDec (coefficient_of here k)) same own)
    by false s later = subst FitsDec (sym (ap (λ x. x +ℚ coefficient_of rest q) (own_ones s) ∙ zero-+ℚ (coefficient_of rest q))) later

-- ---- the objective

all_below : (c : ℕ → ℚ) (n : ℕ) → ((j : ℕ) → FitsDec (c j)) → All FitsDec (coefficients_below c n)
all_below c zero each = All-nil FitsDec
all_below c (suc n) each = All-append FitsDec (coefficients_below c n) (c n ∷ []) (all_below c n each) (All-cons FitsDec (c n) [] (each n) (All-nil FitsDec))

pub objective_decimal : (m : Mps Dec) → IsMps dec_value m → IsDecimal (linear_of (import_of m) 0)
unfolding import_of linear_of with_values row_terms
objective_decimal m valid =
    let x = objective_constant m in
    let ds = definitions_of (import_of m) in
    let o = objective_row m.rows in
    let fits = neg_fits (rhs_at (values_of m) o) (rhs_fits o m.rhs) in
    let form = objective_form (import_of m) 0 in
    let constant : form.constant ≡ x = plain_constant ds (number_tree x) (objective_terms m) tt ∙ spelled_value x fits in
    let apart : All (λ j. AreApart (entries_at m j)) (order_of_columns m) = λ k d lt. (valid.part.columns.entries (get_or (order_of_columns m) k d) no_column (all_columns m k d lt)).apart in
    All-cons FitsDec form.constant (coefficients_below form.coefficient (variable_count (linear_of (import_of m) 0))) (subst FitsDec (sym constant) fits)
    (all_below form.coefficient (variable_count (linear_of (import_of m) 0))
    (λ j. subst FitsDec (sym (plain_coefficient ds (number_tree x) (objective_terms m) tt j)) (row_fits m o 0 (order_of_columns m) j apart)))
