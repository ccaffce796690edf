-- Numbers without a common divisor.
use Rattle.std.proofs.Common.{ℕ, zero, suc, ◌*◌, ◌^◌, sym, subst, pow-suc}
use Rattle.std.proofs.Math.Nat.{pow-zero, eq-one_of_dvd-one}
use Rattle.std.proofs.lemmas.Nat.Gcd.{dvd_trans}
use Rattle.exact_numbers.specs.Divisors.{AreCoprime}
use Rattle.exact_numbers.specs.LowestLemmas.{dvd_other}

pub coprime-mul : (a b c : ℕ) → AreCoprime a b → AreCoprime a c → AreCoprime a (b * c)
coprime-mul a b c h k d p q = k d p (dvd_other d b c (λ e r s. h e (dvd_trans e r p) s) q)

pub coprime-pow : (n f k : ℕ) → AreCoprime n f → AreCoprime n (f ^ k)
coprime-pow n f zero h = subst (λ x. AreCoprime n x) (sym (pow-zero f)) (λ d p q. eq-one_of_dvd-one q)
coprime-pow n f (suc k) h = subst (λ x. AreCoprime n x) (sym (pow-suc f k)) (coprime-mul n (f ^ k) f (coprime-pow n f k h) h)
