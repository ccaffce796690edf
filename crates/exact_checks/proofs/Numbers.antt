-- What the calls on Frac and Dec say, as equations.
use Rattle.std.proofs.Common.{◌≡◌, ◌↔◌, ◌∙◌, sym, ap, subst, refl, arith, Bool, true, false, T, IsTrue, Option, Some, None, MatchOption, ℤ, pos, ◌*ℤ◌, ◌≤ℤ◌, ◌<ℤ◌, int_le, int_lt}
use lib.IntN.{*ℤ-one, zero-*ℤ}
use Rattle.std.specs.Prelude.{if◌then◌else◌}
use Rattle.std.specs.Cmp.{int_ranks}
use Rattle.std.specs.Int.Signed.{le_z_yes, lt_z_yes, clash_ℤ}
use Rattle.std.specs.Ordering.{int_cmp, is_le, MatchOrdering}
use Rattle.std.specs.declared.cmp.Ordering.{Ordering}
use Rattle.std.specs.declared.cmp.Ordering.TheVariants.{Less, Equal, Greater}
use Rattle.std.proofs.lemmas.Int.{ints}
use Rattle.exact_numbers.specs.Rational.{ℚ, whole, zero_ℚ, ◌<ℚ◌}
use Rattle.exact_numbers.proofs.RationalLaws.{zero-is_zero}
use Rattle.exact_numbers.specs.declared.frac.Frac.{Frac}
use Rattle.exact_numbers.specs.Values.{frac_value, order_of}
use Rattle.certificates.specs.Checked.{is_at_most}
use Rattle.exact_numbers.specs.Functions.{is_zero}
use Rattle.exact_numbers.proofs.Tests.{is_zero-true}
use Rattle.exact_checks.specs.Terms.{value_found}

-- a value where a test holds, and none where it does not
pub found : (o : Option Frac) (b : Bool) (x : ℚ) → MatchOption o (b ≡ false) (λ f. (b ≡ true) × (frac_value f ≡ x)) → value_found o ≡ (if b then Some x else None)
found None b x h = sym (ap (λ t. if t then Some x else None) h)
found (Some f) b x h = ap Some h.1 ∙ sym (ap (λ t. if t then Some x else None) h.0)

-- ---- tests
pub same_test : (a b : Bool) → (a ≡ true → b ≡ true) → (b ≡ true → a ≡ true) → a ≡ b
same_test true b h k = sym (h refl)
same_test false true h k = k refl
same_test false false h k = refl

pub zero_test : (x : ℚ) (b : Bool) → IsTrue b ↔ (x ≡ zero_ℚ) → b ≡ is_zero x
zero_test x b h = same_test b (is_zero x) (λ e. zero-is_zero x (h.0 e)) (λ e. h.1 (is_zero-true x e))

lt_true : (x y : ℤ) → x <ℤ y → int_lt x y ≡ true
lt_true x y h = by (int_lt x y) h.lt
  where
    by : (b : Bool) → T b → b ≡ true
    by true t = refl
    by false t = absurd t

below_zero : (x : ℚ) → (x <ℚ zero_ℚ) ↔ (x.top <ℤ pos 0)
unfolding whole lib.IntN.one
below_zero x =
    let left : x.top *ℤ pos 1 ≡ x.top = *ℤ-one x.top in
    let right : pos 0 *ℤ pos x.bottom ≡ pos 0 = zero-*ℤ (pos x.bottom) in (
      (λ h. subst (λ z. x.top <ℤ z) right (subst (λ z. z <ℤ (pos 0 *ℤ pos x.bottom)) left h.crosswise)),
      (λ h. record { crosswise = subst (λ z. z <ℤ (pos 0 *ℤ pos x.bottom)) (sym left) (subst (λ z. x.top <ℤ z) (sym right) h) }),
    )

pub negative_test : (x : ℚ) (b : Bool) → IsTrue b ↔ (x <ℚ zero_ℚ) → b ≡ int_lt x.top (pos 0)
negative_test x b h = same_test b (int_lt x.top (pos 0)) (λ e. lt_true x.top (pos 0) ((below_zero x).0 (h.0 e))) (λ e. h.1 ((below_zero x).1 (lt_z_yes (subst T (sym e) tt))))

-- ---- order
not_yes : (b : Bool) → (b ≡ true → ⊥) → false ≡ b
not_yes true h = absurd (h refl)
not_yes false h = refl

le_yes : (x y : ℤ) → x ≤ℤ y → int_le x y ≡ true
le_yes x y h = by (int_le x y) h.le
  where
    by : (b : Bool) → T b → b ≡ true
    by true t = refl
    by false t = absurd t

not_greater : (x y : ℤ) → is_le (int_cmp x y) ≡ int_le x y
not_greater x y = by (int_cmp x y) (int_ranks x y)
  where
    by : (o : Ordering) → MatchOrdering o (x <ℤ y) (x ≡ y) (y <ℤ x) → is_le o ≡ int_le x y
    by Less h = sym (le_yes x y (omega (arith, ints)))
    by Equal h = sym (le_yes x y (omega (arith, ints)))
    by Greater h = not_yes (int_le x y) (λ e. clash_ℤ h (le_z_yes (subst T (sym e) tt)))

pub order_test : (o : Ordering) (x y : ℚ) → o ≡ order_of x y → is_le o ≡ is_at_most x y
unfolding is_at_most
order_test o x y h = ap is_le h ∙ not_greater (x.top *ℤ pos y.bottom) (y.top *ℤ pos x.bottom)
