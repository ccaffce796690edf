-- The Frac of a value.
use Rattle.std.proofs.Common.{◌≡◌, ◌∙◌, ℕ, zero, suc, ℤ, pos, negsuc, unsigned_abs, Bool, true, false, cond, nat_eq, Option, Some, None, refl, sym, ap, ap₂, subst₂, arith, inl, inr}
use Rattle.std.proofs.Props.{props}
use Rattle.std.proofs.lemmas.Bool.{ne_eqb}
use mathlib.Core.HLevel.{is_prop→PathP}
use Rattle.exact_numbers.specs.Fits.{fits}
use Rattle.exact_numbers.specs.Rational.{ℚ}
use Rattle.exact_numbers.specs.Fraction.{IsFrac}
use Rattle.exact_numbers.specs.Values.{frac_value, quotient, IsFracOf, IsQuotientOf}
use Rattle.exact_numbers.specs.declared.frac.Frac.{Frac}
use Rattle.exact_numbers.proofs.NumberLemmas.{clash}
use Rattle.exact_numbers.specs.Words.{frac_from, frac_where, ratio}

same_frac : (f g : Frac) → f.num ≡ g.num → f.den ≡ g.den → f ≡ g
same_frac f g e d =
    λ i. record { num = e i; den = d i; spelled = is_prop→PathP (λ j. IsFrac (e j) (d j)) (λ j. hlevel props) f.spelled g.spelled i }

pub frac_from-some : (x : ℚ) (f : Frac) → fits x ≡ true → frac_value f ≡ x → frac_from x ≡ Some f
unfolding frac_from
frac_from-some x f small same = by (fits x) refl
  where
    by : (b : Bool) (h : fits x ≡ b) → frac_where x b h ≡ Some f
    by false h = clash (fits x) h small
    by true h = ap Some (same_frac _ f (ap (λ (y : ℚ). y.top) (sym same)) (ap (λ (y : ℚ). y.bottom) (sym same)))

pub frac_from-none : (x : ℚ) → fits x ≡ false → frac_from x ≡ None
unfolding frac_from
frac_from-none x wide = by (fits x) refl
  where
    by : (b : Bool) (h : fits x ≡ b) → frac_where x b h ≡ None
    by false h = refl
    by true h = clash (fits x) wide h

pub frac_is : (r : Option Frac) (x : ℚ) → IsFracOf r x → r ≡ frac_from x
frac_is None x h = sym (frac_from-none x h)
frac_is (Some f) x h = sym (frac_from-some x f h.0 h.1)

-- the divisor's test
not_zero : (n : ℕ) → nat_eq (suc n) 0 ≡ false
not_zero n = ne_eqb (suc n) 0 (λ e. omega (arith, e))

unless : (b : Bool) (r : Option Frac) (x : ℚ) → b ≡ false → r ≡ frac_from x → r ≡ cond b None (frac_from x)
unless true r x e h = absurd cc
unless false r x e h = h

not_over_zero : {D : Type 0} (r : Option Frac) (x : ℚ) → (D → ⊥) → IsQuotientOf D r x → r ≡ frac_from x
not_over_zero None x never (inl e) = absurd (never e)
not_over_zero None x never (inr e) = sym (frac_from-none x e)
not_over_zero (Some f) x never h = sym (frac_from-some x f h.1 h.2)

over_zero : (r : Option Frac) (q : ℤ) (x : ℚ) → IsQuotientOf (q ≡ pos 0) r x → r ≡ cond (nat_eq (unsigned_abs q) 0) None (frac_from x)
over_zero None (pos zero) x h = refl
over_zero (Some f) (pos zero) x h = absurd (h.0 refl)
over_zero r (pos (suc n)) x h = unless _ r x (not_zero n) (not_over_zero r x (λ e. (cc)) h)
over_zero r (negsuc n) x h = unless _ r x (not_zero n) (not_over_zero r x (λ e. (cc)) h)

pub ratio_is : (r : Option Frac) (p q : ℤ) → IsQuotientOf (q ≡ pos 0) r (quotient p q) → r ≡ ratio (Some p) (Some q)
ratio_is r p q h = over_zero r q (quotient p q) h

-- the same of numbers that are held
pub ratio_of_held : (r : Option Frac) (top bottom : Option ℤ) (p q n d : ℤ) → top ≡ Some p → bottom ≡ Some q → n ≡ p → d ≡ q → IsQuotientOf (d ≡ pos 0) r (quotient n d) → r ≡ ratio top bottom
ratio_of_held r top bottom p q n d t b e f h =
    ratio_is r p q (subst₂ (λ x y. IsQuotientOf (y ≡ pos 0) r (quotient x y)) e f h) ∙ ap₂ ratio (sym t) (sym b)
