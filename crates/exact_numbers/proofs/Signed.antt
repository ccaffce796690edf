-- Products of signed numbers, and pairs of one value.
use Rattle.std.proofs.Common.{◌≡◌, ℕ, ◌*◌, ◌<◌, ◌∙◌, sym, ap, arith, ℤ, pos, ◌+ℤ◌, ◌*ℤ◌}
use Rattle.std.proofs.Math.Nat.{eq_of_mul-eq-mul_right}
use Rattle.exact_numbers.proofs.Pairs.{Fraction, SameValue}
use borrow.Author.Differences.{up, down}
pub use Rattle.exact_numbers.proofs.Values.{sizes_of}
pub use Rattle.exact_numbers.proofs.IntegerLaws.{same_halves, up_times, down_times, times_twice}
use Rattle.exact_numbers.proofs.IntegerLaws.{*ℤ-+ℤ}

pub parts_of : (a b : ℤ) (p q : ℕ) → a *ℤ pos p ≡ b *ℤ pos q → (up a * p ≡ up b * q) × (down a * p ≡ down b * q)
parts_of a b p q e =
    (sym (up_times a p) ∙ ap up e ∙ up_times b q, sym (down_times a p) ∙ ap down e ∙ down_times b q)

pub from_parts : (a b : ℤ) (p q : ℕ) → up a * p ≡ up b * q → down a * p ≡ down b * q → a *ℤ pos p ≡ b *ℤ pos q
from_parts a b p q e f = same_halves _ _ (up_times a p ∙ e ∙ sym (up_times b q)) (down_times a p ∙ f ∙ sym (down_times b q))

cross_trans : (a b c p q r : ℕ) → 0 < q → a * q ≡ b * p → b * r ≡ c * q → a * r ≡ c * p
cross_trans a b c p q r some e f =
    eq_of_mul-eq-mul_right q some _ _ (omega (arith, ap (λ n. n * r) e, ap (λ n. n * p) f))

pub SameValue-trans : {x y z : Fraction} → 0 < y.bottom → SameValue x y → SameValue y z → SameValue x z
SameValue-trans {x} {y} {z} some e f =
    let first = parts_of x.top y.top y.bottom x.bottom e.equal in
    let second = parts_of y.top z.top z.bottom y.bottom f.equal in
    record { equal = from_parts x.top z.top z.bottom x.bottom (cross_trans _ _ _ _ _ _ some first.0 second.0) (cross_trans _ _ _ _ _ _ some first.1 second.1) }

pub SameValue-sym : {x y : Fraction} → SameValue x y → SameValue y x
SameValue-sym e = record { equal = sym e.equal }

pub sum_times : (x y : ℤ) (p : ℕ) → (x +ℤ y) *ℤ pos p ≡ x *ℤ pos p +ℤ y *ℤ pos p
sum_times x y p = *ℤ-+ℤ x y (pos p)
