-- Sums and products of whole numbers.
use Rattle.std.proofs.Common.{◌≡◌, ℕ, ◌*◌, ◌^◌, ◌<◌, sym, ap₂, refl, subst, subst₂, lit<, mul-pos, ℤ, pos, ◌+ℤ◌, ◌*ℤ◌, unsigned_abs, int_lt, not}
use Rattle.std.proofs.Math.IntN.{*ℤ-one}
use Rattle.std.specs.Int.{IsGcd}
use Rattle.std.proofs.lemmas.Nat.Gcd.{IsGcd-from_zero, IsGcd-from_mod}
use mathlib.Core.Bool.{beq}
use Rattle.exact_numbers.specs.LowestLemmas.{one_coprime}
use Rattle.exact_numbers.specs.Fraction.{IsFrac}
use Rattle.exact_numbers.proofs.Pairs.{SameValue, SumFits, pair, product_of, sum_of}
use Rattle.exact_numbers.proofs.Coprime.{Crosswise}
use Rattle.exact_numbers.proofs.Fractions.{Multiplied, product_same, only_coprime, is_frac_signed, added}

-- what the sum of whole numbers stands on
pub record WholeSum (n : ℤ) (d : ℕ) (k : ℤ) (e : ℕ) : Type 0 where
  pub only : SumFits n d k e → unsigned_abs (n +ℤ k) < 2 ^ 127
  pub fits : unsigned_abs (n +ℤ k) < 2 ^ 127 → SumFits n d k e
  pub same : SameValue (pair (n +ℤ k) 1) (sum_of (pair n d) (pair k e))

one_gcd : IsGcd 1 1 1
one_gcd = IsGcd-from_mod 1 1 1 (IsGcd-from_zero 1 0 refl)

sum_of_ones : (n k : ℤ) → IsFrac n 1 → IsFrac k 1 → WholeSum n 1 k 1
unfolding lib.IntN.one
sum_of_ones n k x y =
    let w = added n 1 k 1 1 x y one_gcd in
    let same : n *ℤ pos 1 +ℤ k *ℤ pos 1 ≡ n +ℤ k = ap₂ ◌+ℤ◌ (*ℤ-one n) (*ℤ-one k) in
    record {
      only = λ f. subst (λ z. unsigned_abs z < 2 ^ 127) same (w.only f).3;
      fits = λ h. w.fits (lit< tt) (subst (λ z. unsigned_abs z < 2 ^ 127) (sym (*ℤ-one n)) x.size)
          (subst (λ z. unsigned_abs z < 2 ^ 127) (sym (*ℤ-one k)) y.size)
          (subst (λ z. unsigned_abs z < 2 ^ 127) (sym same) h);
      same = subst (λ z. SameValue (pair z 1) (sum_of (pair n 1) (pair k 1))) same w.same;
    }

pub whole_sum : (n : ℤ) (d : ℕ) (k : ℤ) (e : ℕ) → IsFrac n d → IsFrac k e → d ≡ 1 → e ≡ 1 → WholeSum n d k e
whole_sum n d k e x y p q = subst₂ (λ b c. WholeSum n b k c) (sym p) (sym q) (sum_of_ones n k (subst (λ b. IsFrac n b) p x) (subst (λ c. IsFrac k c) q y))

pub whole_frac : (n : ℤ) → unsigned_abs n < 2 ^ 127 → IsFrac n 1
whole_frac n h = record { size = h; above = lit< tt; small = lit< tt; reduced = one_coprime (unsigned_abs n) }

pub whole_product : (m k : ℤ) (a c b d : ℕ) → a ≡ unsigned_abs m → c ≡ unsigned_abs k → IsFrac m b → IsFrac k d → b ≡ 1 → d ≡ 1 → Multiplied m k a c b d (a * c) 1
whole_product m k a c b d p r x y e f =
    let s = not (beq (int_lt m (pos 0)) (int_lt k (pos 0))) in
    let w : Crosswise a b c d (a * c) 1 = record { above = lit< tt; coprime = one_coprime (a * c); same = ap₂ (λ u v. a * c * (u * v)) e f } in
    let value = product_same m k a c b d _ _ p r w in
    record {
      only = only_coprime s _ _ (product_of (pair m b) (pair k d)) w.above (mul-pos x.above y.above) w.coprime value;
      is_frac = λ u v. is_frac_signed s _ _ u w.above v w.coprime;
      same = value;
    }
