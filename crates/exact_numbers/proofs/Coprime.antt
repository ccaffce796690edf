-- Divisors, and numbers without a common one.
use Prim.Native.Nat.{◌∣◌}
use Rattle.std.proofs.Common.{◌≡◌, ℕ, ◌*◌, ◌/◌, ◌<◌, ◌∙◌, sym, ap, ap₂, arith, subst, mul-pos}
use Rattle.std.proofs.Math.Nat.{dvd-mul_right, mul-div_cancel_left}
use Rattle.std.proofs.lemmas.Nat.Gcd.{dvd_trans, dvd_antisymm}
use Rattle.std.specs.Int.{IsGcd}
use Rattle.exact_numbers.specs.Divisors.{AreCoprime}
use Rattle.exact_numbers.specs.Fraction.{IsLcm}
pub use Rattle.exact_numbers.proofs.Coprimes.{coprime-mul, coprime-pow}
pub use Rattle.exact_numbers.specs.LowestLemmas.{dvd_other, coprime-swap, same_reduced, Reduced, reduced_by, lcm_by}

-- divisors of coprime numbers
pub coprime_parts : (a b c d : ℕ) → c ∣ a → d ∣ b → AreCoprime a b → AreCoprime c d
coprime_parts a b c d p q h e r s = h e (dvd_trans e r p) (dvd_trans e s q)

-- a product that is cancelled crosswise: a / b times c / d, with g of a and d, and h of c and b
pub record Crosswise (a b c d n q : ℕ) : Type 0 where
  pub above : 0 < q
  pub coprime : AreCoprime n q
  pub same : n * (b * d) ≡ a * c * q

crossed : (x y u v g h : ℕ) → x * y * (u * h * (v * g)) ≡ x * g * (y * h) * (u * v)
crossed x y u v g h = omega arith

part_of : (a g k : ℕ) → k * g ≡ a → k ∣ a
part_of a g k e = subst (λ x. k ∣ x) e (dvd-mul_right k g)

pub crosswise : (a b c d g h : ℕ) → 0 < b → 0 < d → AreCoprime a b → AreCoprime c d → IsGcd a d g → IsGcd c b h → Crosswise a b c d (a / g * (c / h)) (b / h * (d / g))
crosswise a b c d g h sb sd ab cd isg ish =
    let r = reduced_by a d g sd isg in
    let s = reduced_by c b h sb ish in
    let x = a / g in
    let y = c / h in
    let u = b / h in
    let v = d / g in
    let xu : AreCoprime x u = coprime_parts a b x u (part_of a g x r.first) (part_of b h u s.second) ab in
    let yv : AreCoprime y v = coprime_parts c d y v (part_of c h y s.first) (part_of d g v r.second) cd in
    let left : AreCoprime x (u * v) = coprime-mul x u v xu r.coprime in
    let right : AreCoprime y (u * v) = coprime-mul y u v s.coprime yv in
    record {
      above = mul-pos s.some r.some;
      coprime = coprime-swap (u * v) (x * y) (coprime-mul (u * v) x y (coprime-swap x (u * v) left) (coprime-swap y (u * v) right));
      same = ap₂ (λ m n. x * y * (m * n)) (sym s.second) (sym r.second) ∙ crossed x y u v g h ∙ ap₂ (λ m n. m * n * (u * v)) r.first s.first;
    }

pub same_lcm : (a b m k : ℕ) → IsLcm a b m → IsLcm a b k → m ≡ k
same_lcm a b m k p q = dvd_antisymm (p.2 k q.0 q.1) (q.2 m p.0 p.1)

pub lcm_over : (a b g : ℕ) → 0 < a → 0 < b → Reduced a b g → (a * (b / g) / a ≡ b / g) × (a * (b / g) / b ≡ a / g)
lcm_over a b g p q r =
    let turned : a * (b / g) ≡ b * (a / g) = ap (λ x. x * (b / g)) (sym r.first) ∙ omega arith ∙ ap (λ x. x * (a / g)) r.second in
    (mul-div_cancel_left (b / g) p, ap (λ x. x / b) turned ∙ mul-div_cancel_left (a / g) q)
