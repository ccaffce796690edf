-- Reduced pairs that are finite decimals.
use Prim.Native.Nat.{◌∣◌}
use Rattle.std.proofs.Common.{◌≡◌, ◌≢◌, ℕ, zero, suc, ◌-◌, ◌*◌, ◌%◌, ◌^◌, ◌<◌, ◌≤◌, ◌⊎◌, inl, inr, max, ◌∙◌, sym, ap}
use Rattle.std.proofs.Common.{ap₂, arith, ℤ, pos, neg_ℤ, ◌*ℤ◌, unsigned_abs, subst, ⊎_elim, int_lt, pow-suc, pow-add}
use Rattle.std.proofs.Common.{mul_comm, mul-one, one-mul}
use Rattle.std.proofs.lemmas.Int.{ints}
use Rattle.std.proofs.Math.Nat.{dvd-mul_left, dvd-mul_right, dvd-mul_right_of_dvd}
use Rattle.std.proofs.lemmas.Bool.{cases_lt}
use Rattle.std.proofs.lemmas.Nat.{mul-pow}
use Rattle.std.proofs.lemmas.Nat.Gcd.{dvd_of_mod-eq-zero, dvd_trans, dvd_refl}
use Rattle.exact_numbers.specs.Divisors.{AreCoprime}
use Rattle.exact_numbers.proofs.Pairs.{SameValue, pair, scaled, HasDec}
use Rattle.exact_numbers.specs.Fraction.{IsFrac, IsCofactor}
use Rattle.exact_numbers.specs.Decimal.{signed}
use Rattle.exact_numbers.proofs.Coprime.{coprime-mul, coprime-pow, coprime-swap, dvd_other}
use Rattle.exact_numbers.proofs.Signed.{sizes_of}
use Rattle.exact_numbers.proofs.Decimals.{only_value, size_of}
use Rattle.exact_numbers.proofs.OfDec.{coprime_two, coprime_five}
use Rattle.exact_numbers.proofs.Fractions.{signed_times, signed_self}
use borrow.Author.Differences.{up, down}

-- a fraction that is a finite decimal has no cofactor but 1
pub finite : (n : ℤ) (d c : ℕ) → IsFrac n d → IsCofactor d c → HasDec (pair n d) → c ≡ 1
finite n d c frac cof fits =
    let sizes : unsigned_abs (fits.m *ℤ pos (10 ^ up fits.e)) * d ≡ unsigned_abs n * 10 ^ down fits.e = sizes_of _ n d _ fits.same.equal in
    let whole : d ∣ unsigned_abs n * 10 ^ down fits.e = subst (λ x. d ∣ x) sizes (dvd-mul_left d (unsigned_abs (fits.m *ℤ pos (10 ^ up fits.e)))) in
    let tens : d ∣ 10 ^ down fits.e = dvd_other d (unsigned_abs n) (10 ^ down fits.e) (coprime-swap (unsigned_abs n) d frac.reduced) whole in
    coprime-pow c 10 (down fits.e) cof.1 c (dvd_refl c) (dvd_trans c cof.0 tens)

two_apart : AreCoprime 2 5
two_apart = coprime_five 2 (λ z. omega (arith, z))

five_apart : AreCoprime 5 2
five_apart = coprime_two 5 (λ z. omega (arith, z))

-- a number that 10 divides has the divisors 2 and 5
by_two : (s : ℕ) → AreCoprime 2 s → s % 10 ≡ 0 → ⊥
by_two s h z = let e : 2 ≡ 1 = h 2 (dvd_refl 2) (dvd_trans 2 (dvd-mul_right 2 5) (dvd_of_mod-eq-zero 10 z)) in omega (arith, e)

by_five : (s : ℕ) → AreCoprime 5 s → s % 10 ≡ 0 → ⊥
by_five s h z = let e : 5 ≡ 1 = h 5 (dvd_refl 5) (dvd_trans 5 (dvd-mul_left 5 2) (dvd_of_mod-eq-zero 10 z)) in omega (arith, e)

power_divides : (f k : ℕ) → 0 < k → f ∣ f ^ k
power_divides f zero h = absurd (omega arith)
power_divides f (suc k) h = subst (λ x. f ∣ x) (sym (pow-suc f k)) (dvd-mul_left f (f ^ k))

module _ (n : ℤ) (d i j p : ℕ) (frac : IsFrac n d) (whole : d ≡ 2 ^ i * 5 ^ j) (a : i ≤ p) (b : j ≤ p) where
  pub raised : unsigned_abs n * 2 ^ (p - i) * 5 ^ (p - j) * d ≡ unsigned_abs n * 10 ^ p
  raised =
      let tens : 2 ^ (p - i) * 2 ^ i * (5 ^ (p - j) * 5 ^ j) ≡ 10 ^ p =
      sym (mul-pow 2 5 p ∙ ap₂ (λ x y. x * y) (ap (λ k. 2 ^ k) (omega (arith, a)) ∙ pow-add 2 (p - i) i)
      (ap (λ k. 5 ^ k) (omega (arith, b)) ∙ pow-add 5 (p - j) j)) in
      ap (λ x. unsigned_abs n * 2 ^ (p - i) * 5 ^ (p - j) * x) whole ∙ moved (unsigned_abs n) (2 ^ (p - i)) (5 ^ (p - j)) (2 ^ i) (5 ^ j) ∙ ap (λ x. unsigned_abs n * x) tens
    where
      moved : (s x y u v : ℕ) → s * x * y * (u * v) ≡ s * (x * u * (y * v))
      moved s x y u v = omega arith

  -- what is beyond the greatest size does not end in 0
  pub raised_odd : (p ≡ i) ⊎ (p ≡ j) → 2 ^ 127 ≤ unsigned_abs n * 2 ^ (p - i) * 5 ^ (p - j) → unsigned_abs n * 2 ^ (p - i) * 5 ^ (p - j) % 10 ≢ 0
  raised_odd top wide = ⊎_elim (λ l. ⊎_elim (even l) (odd l) top) flat (cases_lt 0 p)
    where
      flat : p ≤ 0 → unsigned_abs n * 2 ^ (p - i) * 5 ^ (p - j) % 10 ≢ 0
      flat z =
          let x : p - i ≡ 0 = omega arith in
          let y : p - j ≡ 0 = omega arith in
          let same : unsigned_abs n * 2 ^ (p - i) * 5 ^ (p - j) ≡ unsigned_abs n = ap₂ (λ u v. unsigned_abs n * 2 ^ u * 5 ^ v) x y ∙ omega arith in
          absurd (omega (arith, same, wide, frac.size))

      even : 0 < p → p ≡ i → unsigned_abs n * 2 ^ (p - i) * 5 ^ (p - j) % 10 ≢ 0
      even l e =
          let divides : 2 ∣ d = subst (λ x. 2 ∣ x) (sym whole) (dvd-mul_right_of_dvd 2 (power_divides 2 i (omega arith)) (5 ^ j)) in
          let apart : AreCoprime 2 (unsigned_abs n) = λ t r s. frac.reduced t s (dvd_trans t r divides) in
          let x : p - i ≡ 0 = omega arith in
          let same : unsigned_abs n * 2 ^ (p - i) * 5 ^ (p - j) ≡ unsigned_abs n * 5 ^ (p - j) = ap (λ u. unsigned_abs n * 2 ^ u * 5 ^ (p - j)) x ∙ omega arith in
          subst (λ s. s % 10 ≢ 0) (sym same) (by_two _ (coprime-mul 2 (unsigned_abs n) (5 ^ (p - j)) apart (coprime-pow 2 5 (p - j) two_apart)))

      odd : 0 < p → p ≡ j → unsigned_abs n * 2 ^ (p - i) * 5 ^ (p - j) % 10 ≢ 0
      odd l e =
          let divides : 5 ∣ d = subst (λ x. 5 ∣ x) (sym (whole ∙ mul_comm (2 ^ i) (5 ^ j))) (dvd-mul_right_of_dvd 5 (power_divides 5 j (omega arith)) (2 ^ i)) in
          let apart : AreCoprime 5 (unsigned_abs n) = λ t r s. frac.reduced t s (dvd_trans t r divides) in
          let x : p - j ≡ 0 = omega arith in
          let same : unsigned_abs n * 2 ^ (p - i) * 5 ^ (p - j) ≡ unsigned_abs n * 2 ^ (p - i) = ap (λ u. unsigned_abs n * 2 ^ (p - i) * 5 ^ u) x ∙ omega arith in
          subst (λ s. s % 10 ≢ 0) (sym same) (by_five _ (coprime-mul 5 (unsigned_abs n) (2 ^ (p - i)) apart (coprime-pow 5 2 (p - i) five_apart)))

  pub raised_same : (f : ℤ) → up f ≡ 0 → down f ≡ p → SameValue (scaled (signed (int_lt n (pos 0)) (unsigned_abs n * 2 ^ (p - i) * 5 ^ (p - j))) f) (pair n d)
  raised_same f x y =
      let s = int_lt n (pos 0) in
      let k = unsigned_abs n * 2 ^ (p - i) * 5 ^ (p - j) in
      record {
        equal =
            ap (λ u. signed s k *ℤ pos (10 ^ u) *ℤ pos d) x
            ∙ ap (λ z. z *ℤ pos d) (signed_times s k 1 ∙ ap (signed s) (mul-one k))
            ∙ signed_times s k d ∙ ap (signed s) raised ∙ sym (signed_times s (unsigned_abs n) (10 ^ p))
            ∙ ap₂ (λ z u. z *ℤ pos (10 ^ u)) (signed_self n) (sym y);
      }

  pub raised_only : (p ≡ i) ⊎ (p ≡ j) → (f : ℤ) → up f ≡ 0 → down f ≡ p → 2 ^ 127 ≤ unsigned_abs n * 2 ^ (p - i) * 5 ^ (p - j) → HasDec (pair n d) → ⊥
  raised_only top f x y wide fits =
      let s = int_lt n (pos 0) in
      let k = unsigned_abs n * 2 ^ (p - i) * 5 ^ (p - j) in
      let size = size_of s k in
      let only = only_value (pair n d) (signed s k) f frac.above (λ h. raised_odd top wide (ap (λ u. u % 10) (sym size) ∙ h)) (raised_same f x y) fits in
      omega (arith, only.0, size, wide)

-- the denominator is 2 ^ i * 5 ^ j, and p is the greater of both
pub record Places (d i j p : ℕ) : Type 0 where
  pub whole : d ≡ 2 ^ i * 5 ^ j
  pub top : (p ≡ i) ⊎ (p ≡ j)
  pub first : i ≤ p
  pub second : j ≤ p

pub places_of : (d t c i j p : ℕ) → d ≡ t * 2 ^ i → t ≡ c * 5 ^ j → c ≡ 1 → p ≡ max i j → Places d i j p
places_of d t c i j p twos fives none e =
    record {
      whole = twos ∙ ap (λ x. x * 2 ^ i) (fives ∙ ap (λ x. x * 5 ^ j) none ∙ one-mul (5 ^ j)) ∙ mul_comm (5 ^ j) (2 ^ i);
      top = ⊎_elim (λ l. inr (omega (arith, e))) (λ g. inl (omega (arith, e))) (cases_lt i j);
      first = omega (arith, e);
      second = omega (arith, e);
    }

module _ (n : ℤ) (d i j p : ℕ) (frac : IsFrac n d) (q : Places d i j p) where
  up_none : up (neg_ℤ (pos p)) ≡ 0
  up_none = omega (arith, ints)

  down_all : down (neg_ℤ (pos p)) ≡ p
  down_all = omega (arith, ints)

  pub no_dec_above : 2 ^ 127 ≤ unsigned_abs n * 2 ^ (p - i) * 5 ^ (p - j) → HasDec (pair n d) → ⊥
  no_dec_above wide = raised_only n d i j p frac q.whole q.first q.second q.top (neg_ℤ (pos p)) up_none down_all wide

  pub same_at : (m f : ℤ) → m ≡ signed (int_lt n (pos 0)) (unsigned_abs n * 2 ^ (p - i) * 5 ^ (p - j)) → f ≡ neg_ℤ (pos p) → SameValue (scaled m f) (pair n d)
  same_at m f sign plain =
      subst (λ x. SameValue (scaled x f) (pair n d)) (sym sign)
      (raised_same n d i j p frac q.whole q.first q.second f (ap up plain ∙ up_none) (ap down plain ∙ down_all))
