-- Decimals and the fractions that they are.
use Rattle.std.proofs.Common.{◌≡◌, ℕ, zero, suc, ◌+◌, ◌<◌, ◌∙◌, sym, ap, refl, subst, arith, Bool, true, false, List, [], ◌∷◌, ◌++◌, Some, length, drop, take, get_or, option_map}
use Rattle.std.proofs.lemmas.List.{map_more}
use Rattle.std.proofs.lemmas.Option.{get_or_from_slice_get, slice_get-map, slice_get_read}
use mathlib.Core.HLevel.{is_prop→PathP}
use Rattle.std.proofs.Props.{props}
use Rattle.exact_numbers.specs.declared.dec.Dec.{Dec}
use Rattle.exact_numbers.specs.declared.frac.Frac.{Frac}
use Rattle.exact_numbers.specs.Fraction.{IsFrac}
use Rattle.exact_numbers.specs.Values.{dec_value, frac_value}
use Rattle.exact_numbers.specs.Fits.{fits}
use Rattle.exact_numbers.proofs.Values.{own_value, same_value}
use Rattle.exact_numbers.specs.Rational.{ℚ}
use Rattle.linear_program.specs.Coefs.{AreAscending, AreDecimalsOf}
use Rattle.linear_program.specs.Decimals.{DecimalTerm, AreDecimals, frac_of, frac_where, fraction_term, fraction_terms}

-- two fractions of one value are one fraction
pub same_frac : (f g : Frac) → frac_value f ≡ frac_value g → f ≡ g
same_frac f g e =
    λ i. record { num = (e i).top; den = (e i).bottom; spelled = is_prop→PathP (λ j. IsFrac (e j).top (e j).bottom) (λ j. hlevel props) f.spelled g.spelled i }

value_where : (x : ℚ) (fit : Bool) (h : fits x ≡ fit) → fit ≡ true → frac_value (frac_where x fit h) ≡ x
value_where x true h e = same_value (own_value (frac_value (frac_where x true h))) (own_value x) refl
value_where x false h e = absurd cc

-- the fraction of a decimal has its value, where that fits
pub frac_of-value : (d : Dec) → fits (dec_value d) ≡ true → frac_value (frac_of d) ≡ dec_value d
unfolding frac_of
frac_of-value d h = value_where (dec_value d) (fits (dec_value d)) refl h

pub is_frac_of : (d : Dec) (f : Frac) → fits (dec_value d) ≡ true → frac_value f ≡ dec_value d → f ≡ frac_of d
is_frac_of d f h e = same_frac f (frac_of d) (e ∙ sym (frac_of-value d h))

pub fractions_ascend : (n : ℕ) (ds : List DecimalTerm) → AreDecimals n ds → AreAscending n (fraction_terms ds)
fractions_ascend n [] a = tt
fractions_ascend n (d ∷ ds) a = (a.0, λ z. a.1 (sym (frac_of-value d.1 a.2) ∙ z), fractions_ascend (suc d.0) ds a.3)

pub decimals_of : (n : ℕ) (ds : List DecimalTerm) → AreDecimals n ds → AreDecimalsOf ds (fraction_terms ds)
decimals_of n [] a = tt
decimals_of n (d ∷ ds) a = (refl, sym (frac_of-value d.1 a.2), decimals_of (suc d.0) ds a.3)

-- ---- one of them
module _ (ds : List DecimalTerm) (p : ℕ) (d : DecimalTerm) (within : p < length ds) (is : d ≡ get_or ds p d) where
  pub fits_at : AreDecimals 0 ds → fits (dec_value d.1) ≡ true
  fits_at = from 0 ds p within is
    where
      from : (n : ℕ) (xs : List DecimalTerm) (q : ℕ) → q < length xs → d ≡ get_or xs q d → AreDecimals n xs → fits (dec_value d.1) ≡ true
      from n [] q h e a = absurd (omega arith)
      from n (x ∷ xs) zero h e a = ap (λ (y : DecimalTerm). fits (dec_value y.1)) e ∙ a.2
      from n (x ∷ xs) (suc q) h e a = from (suc x.0) xs q (omega arith) e a.3

  pub fraction_at : AreDecimals 0 ds → (f : Frac) → frac_value f ≡ dec_value d.1 → (d.0, f) ≡ get_or (fraction_terms ds) p (d.0, f)
  fraction_at a f e =
      sym (get_or_from_slice_get (fraction_terms ds) p (d.0, f) (d.0, f)
      (slice_get-map fraction_term ds p ∙ ap (option_map fraction_term) (slice_get_read ds (length ds) p d refl within is)
      ∙ ap (λ g. Some (d.0, g)) (sym (is_frac_of d.1 f (fits_at a) e))))

-- ---- decimals that ascend, and of which each has a fraction
abbrev pub AllFit : List DecimalTerm → Type 0
AllFit [] = Unit {0}
AllFit (d ∷ ds) = (fits (dec_value d.1) ≡ true) × AllFit ds

pub fit_more : (ds rest : List DecimalTerm) (i : ℕ) (d : DecimalTerm) (all : Type 0) → drop i ds ≡ d ∷ rest → fits (dec_value d.1) ≡ true → (AllFit (drop i ds) → all) → AllFit rest → all
fit_more ds rest i d all at fit h r = h (subst AllFit (sym at) (fit, r))

pub one_fraction_more : (ds : List DecimalTerm) (i : ℕ) (d : DecimalTerm) → i < length ds → d ≡ get_or ds i d → fraction_terms (take (i + 1) ds) ≡ fraction_terms (take i ds) ++ fraction_term d ∷ []
one_fraction_more ds i d h e = map_more fraction_term ds i d h ∙ ap (λ (y : DecimalTerm). fraction_terms (take i ds) ++ fraction_term y ∷ []) (sym e)
