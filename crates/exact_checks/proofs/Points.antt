-- The loop over the terms of a form.
use Rattle.std.proofs.Common.{◌≡◌, ℕ, ◌+◌, ◌<◌, ◌≤◌, ◌∙◌, sym, ap, subst, refl, List, length, get_or, map, option_map, Option, Some, None}
use Rattle.std.specs.Prelude.{option_and_then}
use Rattle.std.proofs.lemmas.List.{length-map}
use Rattle.std.proofs.lemmas.Option.{slice_get-get_or, slice_get-map, get_or_from_slice_get}
use Rattle.exact_numbers.specs.Rational.{ℚ, zero_ℚ}
use Rattle.linear_program.specs.Linear.{value_at}
use Rattle.exact_numbers.specs.declared.dec.Dec.{Dec}
use Rattle.exact_numbers.specs.Values.{dec_value, frac_value}
use Rattle.certificates.specs.Checked.{fitting, plus_product, less_product, run}
use Rattle.certificates.specs.Verdict.{run_form}
use Rattle.linear_program.specs.Coefs.{Term, coef_in}
use Rattle.exact_checks.specs.declared.form.Body.{Body}
use Rattle.exact_checks.specs.Terms.{AreTerms, values_of}
use Rattle.exact_checks.specs.Programs.{form_of}
use Rattle.exact_checks.specs.InsideCosts.{column_step, column_cost}
use Rattle.exact_checks.proofs.Sparse.{OnTheWay, way_begins, way_ends, way_index, way_goes_on, way_stops}

-- the numbers of a list, by index
abbrev pub point_of : List Dec → ℕ → ℚ
point_of xs = value_at (values_of xs)

pub count_of_values : (xs : List Dec) → length (values_of xs) ≡ length xs
count_of_values xs = length-map xs dec_value

pub point_at : (xs : List Dec) (j : ℕ) (d : Dec) → j < length xs → d ≡ get_or xs j d → point_of xs j ≡ dec_value d
point_at xs j d l is =
    get_or_from_slice_get (map dec_value xs) j (dec_value d) zero_ℚ
    (slice_get-map dec_value xs j ∙ ap (λ o. option_map dec_value o) (slice_get-get_or xs j d l) ∙ ap (λ e. Some (dec_value e)) (sym is))

-- a loop over the terms of a list that acts on the number of each term
abbrev pub acting : (ℚ → ℚ → ℚ → Option ℚ) → (ℕ → ℚ) → ℚ → ℕ → ℚ → Option ℚ
acting act x s j a = act s a (x j)

-- sum + factor * number
abbrev pub adding : ℚ → ℚ → ℚ → Option ℚ
adding s a v = option_and_then (λ w. plus_product s a w) (fitting v)

-- sum - number * factor
abbrev pub taking : ℚ → ℚ → ℚ → Option ℚ
taking s a v = option_and_then (λ w. less_product s w a) (fitting v)

abbrev pub OnForm : Body → List Dec → ℕ → ℚ → Type 0
OnForm f xs k s = OnTheWay (acting adding (point_of xs)) (length xs) (run_form (length xs) (form_of f) (point_of xs)) f.terms k s

pub form_begins : (f : Body) (xs : List Dec) → AreTerms 0 (length xs) f.terms → OnForm f xs 0 (frac_value f.constant)
unfolding run_form
form_begins f xs ok = way_begins (acting adding (point_of xs)) (length xs) (coef_in f.terms) (frac_value f.constant) f.terms ok (λ j l. refl)

abbrev pub OnColumn : ℚ → List Term → List Dec → ℕ → ℚ → Type 0
OnColumn cost ts xs i s = OnTheWay (acting taking (point_of xs)) (length xs) (column_cost cost ts (values_of xs)) ts i s

pub column_begins : (cost : ℚ) (ts : List Term) (xs : List Dec) → AreTerms 0 (length xs) ts → OnColumn cost ts xs 0 cost
unfolding column_cost
column_begins cost ts xs ok =
    subst (λ n. OnTheWay (acting taking (point_of xs)) (length xs) (run (column_step ts (values_of xs)) cost n) ts 0 cost) (sym (count_of_values xs))
    (way_begins (acting taking (point_of xs)) (length xs) (coef_in ts) cost ts ok (λ j l. refl))

module _ (act : ℚ → ℚ → ℚ → Option ℚ) (answer : Option ℚ) (terms items : List Term) (xs : List Dec)
    (same : items ≡ terms) (k : ℕ) (s : ℚ) (on : OnTheWay (acting act (point_of xs)) (length xs) answer terms k s) where
  pub terms_end : length items ≤ k → Some s ≡ answer
  terms_end l = sym (way_ends _ _ _ _ k s on (subst (λ ts. length ts ≤ k) same l))

  module _ (t : Term) (l : k < length items) (is : t ≡ get_or items k t) where
    in_range : k < length terms
    in_range = subst (λ ts. k < length ts) same l

    is_item : t ≡ get_or terms k t
    is_item = subst (λ ts. t ≡ get_or ts k t) same is

    pub terms_index : t.0 < length xs
    terms_index = way_index _ _ _ _ k s on t in_range is_item

    module _ (d : Dec) (at : d ≡ get_or xs t.0 d) where
      moved : (o : Option ℚ) → o ≡ act s (frac_value t.1) (dec_value d) → acting act (point_of xs) s t.0 (frac_value t.1) ≡ o
      moved o e = ap (λ v. act s (frac_value t.1) v) (point_at xs t.0 d terms_index at) ∙ sym e

      pub terms_stop : None ≡ act s (frac_value t.1) (dec_value d) → None ≡ answer
      terms_stop e = sym (way_stops _ _ _ _ k s on t in_range is_item (moved None e))

      pub terms_go_on : (r : ℚ) → Some r ≡ act s (frac_value t.1) (dec_value d) → OnTheWay (acting act (point_of xs)) (length xs) answer terms (k + 1) r
      terms_go_on r e = way_goes_on _ _ _ _ k s on t in_range is_item r (moved (Some r) e)
