-- The loop over the terms of a form, at a point of fractions.
use Rattle.std.proofs.Common.{◌≡◌, ℕ, ◌+◌, ◌<◌, ◌≤◌, ◌∙◌, sym, ap, List, length, get_or, map, option_map, refl, Option, Some, None, true}
use Rattle.std.specs.Prelude.{if◌then◌else◌, option_and_then}
use Rattle.std.proofs.lemmas.Option.{slice_get-get_or, slice_get-map, get_or_from_slice_get}
use Rattle.exact_numbers.specs.Fits.{fits}
use Rattle.exact_numbers.specs.Rational.{ℚ, zero_ℚ}
use Rattle.linear_program.specs.Linear.{Form, value_at}
use Rattle.certificates.specs.Checked.{plus_product}
use Rattle.certificates.specs.Verdict.{run_form}
use Rattle.exact_numbers.specs.declared.frac.Frac.{Frac}
use Rattle.exact_numbers.specs.Values.{frac_value}
use Rattle.exact_numbers.proofs.Bridge.{frac_fits_lem}
use Rattle.exact_numbers.proofs.Zeros.{fits_zero}
use Rattle.linear_program.specs.Coefs.{Term, coef_in}
use Rattle.exact_checks.specs.Terms.{AreTerms}
use Rattle.exact_checks.proofs.CostLemmas.{plus_zero}
use Rattle.exact_checks.proofs.Points.{acting, adding}
use Rattle.exact_checks.proofs.Sparse.{OnTheWay, way_begins, way_ends, way_index, way_goes_on, way_stops}

-- the numbers of a list, by index
abbrev pub point_of : List Frac → ℕ → ℚ
point_of xs = value_at (map frac_value xs)

pub point_at : (xs : List Frac) (j : ℕ) (x : Frac) → j < length xs → x ≡ get_or xs j x → point_of xs j ≡ frac_value x
point_at xs j x l is =
    get_or_from_slice_get (map frac_value xs) j (frac_value x) zero_ℚ
    (slice_get-map frac_value xs j ∙ ap (λ o. option_map frac_value o) (slice_get-get_or xs j x l) ∙ ap (λ e. Some (frac_value e)) (sym is))

abbrev pub form_with : ℚ → List Term → Form
form_with constant ts = record { constant = constant; coefficient = coef_in ts }

abbrev pub OnForm : ℚ → List Term → List Frac → ℕ → ℚ → Type 0
OnForm constant ts xs k s = OnTheWay (acting adding (point_of xs)) (length xs) (run_form (length xs) (form_with constant ts) (point_of xs)) ts k s

pub form_begins : (constant : ℚ) (ts : List Term) (xs : List Frac) → AreTerms 0 (length xs) ts → OnForm constant ts xs 0 constant
unfolding run_form
form_begins constant ts xs ok = way_begins (acting adding (point_of xs)) (length xs) (coef_in ts) constant ts ok (λ j l. refl)

module _ (constant : ℚ) (ts : List Term) (xs : List Frac) (k : ℕ) (s : ℚ) (on : OnForm constant ts xs k s) where
  pub form_ends : length ts ≤ k → Some s ≡ run_form (length xs) (form_with constant ts) (point_of xs)
  form_ends l = sym (way_ends _ _ _ _ k s on l)

  module _ (t : Term) (l : k < length ts) (is : t ≡ get_or ts k t) where
    pub form_index : t.0 < length xs
    form_index = way_index _ _ _ _ k s on t l is

    pub form_skips : (x : Frac) → x ≡ get_or xs t.0 x → frac_value x ≡ zero_ℚ → fits s ≡ true → OnForm constant ts xs (k + 1) s
    form_skips x at z f =
        way_goes_on _ _ _ _ k s on t l is s
        (ap (λ v. adding s (frac_value t.1) v) (point_at xs t.0 x form_index at ∙ z)
        ∙ ap (λ b. option_and_then (λ w. plus_product s (frac_value t.1) w) (if b then Some zero_ℚ else None)) fits_zero
        ∙ plus_zero s (frac_value t.1) f)

    module _ (x : Frac) (at : x ≡ get_or xs t.0 x) (o : Option ℚ) (e : o ≡ plus_product s (frac_value t.1) (frac_value x)) where
      moved : acting adding (point_of xs) s t.0 (frac_value t.1) ≡ o
      moved =
          ap (λ v. adding s (frac_value t.1) v) (point_at xs t.0 x form_index at)
          ∙ ap (λ b. option_and_then (λ w. plus_product s (frac_value t.1) w) (if b then Some (frac_value x) else None)) (frac_fits_lem x)
          ∙ sym e

      pub form_stops : o ≡ None → None ≡ run_form (length xs) (form_with constant ts) (point_of xs)
      form_stops n = sym (way_stops _ _ _ _ k s on t l is (moved ∙ n))

      pub form_goes_on : (r : ℚ) → o ≡ Some r → OnForm constant ts xs (k + 1) r
      form_goes_on r h = way_goes_on _ _ _ _ k s on t l is r (moved ∙ h)
