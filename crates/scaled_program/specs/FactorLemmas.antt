-- There is a least factor: the least common multiple of the cofactors.
use Prim.Native.Nat.{◌∣◌}
use Rattle.std.proofs.Common.{◌≡◌, ℕ, zero, suc, ◌*◌, ◌/◌, ◌^◌, ◌<◌, ◌≤◌, ◌∙◌, sym, ap, refl, arith, subst, subst₂, ◌⊎◌, ⊎_elim, ◌↔◌, Bool, true, false, cond, nat_eq, mul_comm, mul-one, one-mul, mul-pos, pow-suc, ℤ, pos, ◌*ℤ◌, neg_ℤ, unsigned_abs, List, [], ◌∷◌, All}
use Rattle.std.proofs.Math.Nat.{pow-zero, mul-le-mul_left, dvd-mul_left, dvd-mul_right, mul-dvd-mul, mul-dvd-mul_left, dvd_of_mul-dvd-mul_right, mul-div_cancel', div-mul_cancel, eq-one_of_dvd-one, pos_of_dvd_of_pos, eq_of_mul-eq-mul_right}
use Rattle.std.proofs.lemmas.Bool.{eqb-true, eqb-false, cases_lt, cases_Bool}
use Rattle.std.proofs.lemmas.Int.{ints, unsigned_abs-mul}
use Rattle.std.proofs.lemmas.Nat.Gcd.{dvd_trans, dvd_refl, dvd_antisymm, le_of_dvd}
use Rattle.std.proofs.lemmas.List.Elements.{All-nil, All-cons, All-head, All-tail}
use Rattle.exact_numbers.specs.Fits.{least_multiple}
use Rattle.exact_numbers.specs.Divisors.{AreCoprime}
use Rattle.exact_numbers.specs.LowestLemmas.{gcd_of, is_gcd, dvd_other, coprime-swap, Reduced, reduced_lem}
use Rattle.exact_numbers.specs.Rational.{ℚ, whole, ◌*ℚ◌, decimal_value, above_zero, below_zero}
use Rattle.exact_numbers.proofs.RationalLaws.{decimal_value_lem}
use Rattle.exact_numbers.proofs.Coprimes.{coprime-pow}
use Rattle.exact_numbers.proofs.Values.{HasValue, sizes_of, own_value, whole_value, product_value, scaled_value, same_over}
use Rattle.scaled_program.specs.Finite.{IsFinite, IsLeastFactor}

-- ---- by divisors

-- n without what it shares with 10, in at most as many steps as the first number
unfoldable pub steps_to_cofactor : ℕ → ℕ → ℕ
steps_to_cofactor zero n = n
steps_to_cofactor (suc k) n =
    cond (nat_eq (gcd_of n 10) 1) n (steps_to_cofactor k (n / gcd_of n 10))

-- the part of n that is prime to 10
unfoldable pub cofactor_of : ℕ → ℕ
cofactor_of n = steps_to_cofactor n n

-- the least common multiple of the cofactors of the denominators
unfoldable pub factor_by_steps : List ℚ → ℕ
factor_by_steps [] = 1
factor_by_steps (x ∷ xs) = least_multiple (cofactor_of x.bottom) (factor_by_steps xs)

ten-pos : (k : ℕ) → 0 < 10 ^ k
ten-pos zero = subst (λ x. 0 < x) (sym (pow-zero 10)) (omega arith)
ten-pos (suc k) = subst (λ x. 0 < x) (sym (pow-suc 10 k)) (omega (arith, ten-pos k))

-- ---- n is c times a divisor of a power of ten, c being prime to 10
pub record IsSplit (n c : ℕ) : Type 0 where
  pub rest : ℕ
  pub e : ℕ
  pub whole : n ≡ c * rest
  pub coprime : AreCoprime c 10
  pub tens : rest ∣ 10 ^ e

split_steps : (k n : ℕ) → 0 < n → n ≤ k → IsSplit n (steps_to_cofactor k n)
unfolding steps_to_cofactor
split_steps zero n some h = absurd (omega arith)
split_steps (suc k) n some h =
    let g = gcd_of n 10 in
    let r = is_gcd n 10 in
    let above : 0 < g = pos_of_dvd_of_pos r.0 some in
    let back : n / g * g ≡ n = div-mul_cancel g r.0 in
    ⊎_elim
    (λ (e : nat_eq g 1 ≡ true).
    subst (λ b. IsSplit n (cond b n (steps_to_cofactor k (n / g)))) (sym e)
    (record {
      rest = 1;
      e = 0;
      whole = sym (mul-one n);
      coprime = λ d p q. eq-one_of_dvd-one (subst (λ x. d ∣ x) (eqb-true g 1 e) (r.2 d p q));
      tens = dvd-mul_right 1 (10 ^ 0);
    }))
    (λ (e : nat_eq g 1 ≡ false).
    let more : 2 ≤ g = omega (arith, eqb-false g 1 e, above) in
    let less : n / g < n = smaller (n / g) g n back more some in
    let lives : 0 < n / g = live (n / g) g n back some in
    let ih = split_steps k (n / g) lives (omega (arith, less)) in
    subst (λ b. IsSplit n (cond b n (steps_to_cofactor k (n / g)))) (sym e)
    (record {
      rest = ih.rest * g;
      e = suc ih.e;
      whole = sym back ∙ ap (λ x. x * g) ih.whole ∙ omega arith;
      coprime = ih.coprime;
      tens = subst (λ x. ih.rest * g ∣ x) (sym (pow-suc 10 ih.e)) (mul-dvd-mul ih.rest g ih.tens r.1);
    }))
    (cases (nat_eq g 1))
  where
    cases : (b : Bool) → (b ≡ true) ⊎ (b ≡ false)
    cases b = cases_Bool b

    live : (q g n : ℕ) → q * g ≡ n → 0 < n → 0 < q
    live zero g n e h = absurd (omega arith)
    live (suc q) g n e h = omega arith

    smaller : (q g n : ℕ) → q * g ≡ n → 2 ≤ g → 0 < n → q < n
    smaller zero g n e m h = h
    smaller (suc q) g n e m h = let two : suc q * 2 ≤ suc q * g = grow (suc q) g m in omega (arith, two, e)
      where
        grow : (a g : ℕ) → 2 ≤ g → a * 2 ≤ a * g
        grow a g m = omega (arith, mul-le-mul_left a m)

pub split_of : (n : ℕ) → 0 < n → IsSplit n (cofactor_of n)
unfolding cofactor_of
split_of n h = split_steps n n h (omega arith)

-- ---- finite decimals by their denominators
record IsTenth (x : ℚ) : Type 0 where
  e : ℕ
  tens : x.bottom ∣ 10 ^ e

tenth_of : (x : ℚ) → IsFinite x → IsTenth x
tenth_of x h =
    let v : HasValue x (h.m *ℤ pos (10 ^ above_zero h.e)) (10 ^ below_zero h.e) = subst (λ y. HasValue y (h.m *ℤ pos (10 ^ above_zero h.e)) (10 ^ below_zero h.e)) (sym h.same) (decimal_value_lem h.m h.e) in
    let size : unsigned_abs x.top * 10 ^ below_zero h.e ≡ unsigned_abs (h.m *ℤ pos (10 ^ above_zero h.e)) * x.bottom = sizes_of x.top (h.m *ℤ pos (10 ^ above_zero h.e)) (10 ^ below_zero h.e) x.bottom v.equal in
    record {
      e = below_zero h.e;
      tens = dvd_other x.bottom (unsigned_abs x.top) (10 ^ below_zero h.e) (coprime-swap (unsigned_abs x.top) x.bottom x.lowest)
          (subst (λ n. x.bottom ∣ n) (sym size) (dvd-mul_left x.bottom (unsigned_abs (h.m *ℤ pos (10 ^ above_zero h.e)))));
    }

none_above : (e : ℕ) → above_zero (neg_ℤ (pos e)) ≡ 0
none_above zero = refl
none_above (suc e) = refl

all_below : (e : ℕ) → below_zero (neg_ℤ (pos e)) ≡ e
all_below zero = refl
all_below (suc e) = refl

times_one : (z : ℤ) → z *ℤ pos (10 ^ 0) ≡ z
times_one z = omega (arith, ints)

finite_of : (x : ℚ) → IsTenth x → IsFinite x
finite_of x h =
    let q = 10 ^ h.e / x.bottom in
    let whole : x.bottom * q ≡ 10 ^ h.e = mul-div_cancel' x.bottom h.tens in
    let some : 0 < q = live q x.bottom (10 ^ h.e) whole (ten-pos h.e) in
    let m = x.top *ℤ pos q in
    record {
      m = m;
      e = neg_ℤ (pos h.e);
      same = same_over (subst (λ n. HasValue x m n) whole (scaled_value q some (own_value x)))
          (subst (λ n. HasValue (decimal_value m (neg_ℤ (pos h.e))) (m *ℤ pos (10 ^ above_zero (neg_ℤ (pos h.e)))) (10 ^ n)) (all_below h.e) (decimal_value_lem m (neg_ℤ (pos h.e))))
          (sym (ap (λ n. m *ℤ pos (10 ^ n)) (none_above h.e) ∙ times_one m));
    }
  where
    live : (q b n : ℕ) → b * q ≡ n → 0 < n → 0 < q
    live zero b n e h = absurd (omega arith)
    live (suc q) b n e h = omega arith

-- ---- the multiples that are finite
module _ (k : ℕ) (x : ℚ) where
  product_sizes : unsigned_abs (whole (pos k) *ℚ x).top * x.bottom ≡ k * unsigned_abs x.top * (whole (pos k) *ℚ x).bottom
  product_sizes =
      let y = whole (pos k) *ℚ x in
      let v = product_value (whole_value (pos k)) (own_value x) in
      ap (λ n. unsigned_abs y.top * n) (sym (one-mul x.bottom)) ∙ sizes_of y.top (pos k *ℤ x.top) (1 * x.bottom) y.bottom v.equal ∙ ap (λ n. n * y.bottom) (unsigned_abs-mul (pos k) x.top)

  to_multiple : (e : ℕ) → (whole (pos k) *ℚ x).bottom ∣ 10 ^ e → x.bottom ∣ k * 10 ^ e
  to_multiple e h =
      let y = whole (pos k) *ℚ x in
      let q = 10 ^ e / y.bottom in
      let tens : y.bottom * q ≡ 10 ^ e = mul-div_cancel' y.bottom h in
      let same : unsigned_abs y.top * q * x.bottom ≡ unsigned_abs x.top * (k * 10 ^ e) = moved (unsigned_abs y.top) q x.bottom k (unsigned_abs x.top) y.bottom (10 ^ e) product_sizes tens in
      dvd_other x.bottom (unsigned_abs x.top) (k * 10 ^ e) (coprime-swap (unsigned_abs x.top) x.bottom x.lowest) (subst (λ n. x.bottom ∣ n) same (dvd-mul_left x.bottom (unsigned_abs y.top * q)))
    where
      moved : (t q b k s c p : ℕ) → t * b ≡ k * s * c → c * q ≡ p → t * q * b ≡ s * (k * p)
      moved t q b k s c p e f = regroup t q b ∙ ap (λ n. n * q) e ∙ again k s c q ∙ ap (λ n. s * (k * n)) f
        where
          regroup : (t q b : ℕ) → t * q * b ≡ t * b * q
          regroup t q b = omega arith

          again : (k s c q : ℕ) → k * s * c * q ≡ s * (k * (c * q))
          again k s c q = omega arith

  from_multiple : (e : ℕ) → x.bottom ∣ k * 10 ^ e → (whole (pos k) *ℚ x).bottom ∣ 10 ^ e
  from_multiple e h =
      let y = whole (pos k) *ℚ x in
      let q = k * 10 ^ e / x.bottom in
      let tens : x.bottom * q ≡ k * 10 ^ e = mul-div_cancel' x.bottom h in
      let same : unsigned_abs y.top * 10 ^ e ≡ q * unsigned_abs x.top * y.bottom = eq_of_mul-eq-mul_right x.bottom x.above (unsigned_abs y.top * 10 ^ e) (q * unsigned_abs x.top * y.bottom) (moved (unsigned_abs y.top) q x.bottom k (unsigned_abs x.top) y.bottom (10 ^ e) product_sizes tens) in
      dvd_other y.bottom (unsigned_abs y.top) (10 ^ e) (coprime-swap (unsigned_abs y.top) y.bottom y.lowest) (subst (λ n. y.bottom ∣ n) (sym same) (dvd-mul_left y.bottom (q * unsigned_abs x.top)))
    where
      moved : (t q b k s c p : ℕ) → t * b ≡ k * s * c → b * q ≡ k * p → t * p * b ≡ q * s * c * b
      moved t q b k s c p e f = first t p b ∙ ap (λ n. n * p) e ∙ second k s c p ∙ ap (λ n. n * (s * c)) (sym f) ∙ third b q s c
        where
          first : (t p b : ℕ) → t * p * b ≡ t * b * p
          first t p b = omega arith

          second : (k s c p : ℕ) → k * s * c * p ≡ k * p * (s * c)
          second k s c p = omega arith

          third : (b q s c : ℕ) → b * q * (s * c) ≡ q * s * c * b
          third b q s c = omega arith

  pub finite_multiple : IsFinite (whole (pos k) *ℚ x) ↔ (cofactor_of x.bottom ∣ k)
  finite_multiple =
      let s = split_of x.bottom x.above in
      let c = cofactor_of x.bottom in (
        λ f.
            let t = tenth_of (whole (pos k) *ℚ x) f in
            let within : c ∣ k * 10 ^ t.e = dvd_trans c (subst (λ n. c ∣ n) (sym s.whole) (dvd-mul_right c s.rest)) (to_multiple t.e t.tens) in
            dvd_other c (10 ^ t.e) k (coprime-pow c 10 t.e s.coprime) (subst (λ n. c ∣ n) (mul_comm k (10 ^ t.e)) within),
        λ d. finite_of (whole (pos k) *ℚ x) (record { e = s.e; tens = from_multiple s.e (subst (λ n. n ∣ k * 10 ^ s.e) (sym s.whole) (mul-dvd-mul c s.rest d s.tens)) }),
      )

-- ---- least common multiples
pub record IsLeastMultiple (a b m : ℕ) : Type 0 where
  pub first : a ∣ m
  pub second : b ∣ m
  pub least : (k : ℕ) → a ∣ k → b ∣ k → m ∣ k

lcm_by : (a b g : ℕ) → Reduced a b g → IsLeastMultiple a b (a * (b / g))
lcm_by a b g r =
    let turned : a * (b / g) ≡ a / g * b = ap (λ x. x * (b / g)) (sym r.first) ∙ omega arith ∙ ap (λ x. a / g * x) r.second in
    record { first = dvd-mul_right a (b / g); second = subst (λ x. b ∣ x) (sym turned) (dvd-mul_left b (a / g)); least = least }
  where
    least : (k : ℕ) → a ∣ k → b ∣ k → a * (b / g) ∣ k
    least k p q =
        let split : a * (k / a) ≡ k = mul-div_cancel' a p in
        let within : b / g * g ∣ a / g * (k / a) * g = subst₂ (λ x y. x ∣ y) (sym r.second) (sym split ∙ ap (λ x. x * (k / a)) (sym r.first) ∙ omega arith) q in
        let left : b / g ∣ a / g * (k / a) = dvd_of_mul-dvd-mul_right (b / g) r.above within in
        subst (λ x. a * (b / g) ∣ x) split (mul-dvd-mul_left (b / g) a (dvd_other (b / g) (a / g) (k / a) (coprime-swap (a / g) (b / g) r.coprime) left))

pub is_lcm : (a b : ℕ) → 0 < b → IsLeastMultiple a b (least_multiple a b)
is_lcm a b h = lcm_by a b (gcd_of a b) (reduced_lem a b h)

pub cofactor_above : (n : ℕ) → 0 < n → 0 < cofactor_of n
cofactor_above n h = let s = split_of n h in ⊎_elim (λ l. l) (λ (z : cofactor_of n ≤ 0). absurd (gone (cofactor_of n) s.rest n (omega arith) (sym s.whole) h)) (cases_lt 0 (cofactor_of n))
  where
    gone : (c r n : ℕ) → c ≡ 0 → c * r ≡ n → 0 < n → ⊥
    gone zero r n z e h = omega arith
    gone (suc c) r n z e h = omega arith

pub steps_above : (xs : List ℚ) → 0 < factor_by_steps xs
unfolding factor_by_steps
steps_above [] = omega arith
steps_above (x ∷ xs) = mul-pos (cofactor_above x.bottom x.above) (reduced_lem (cofactor_of x.bottom) (factor_by_steps xs) (steps_above xs)).some

-- the factors are the multiples of the least one
pub steps_multiples : (xs : List ℚ) (k : ℕ) → All (λ x. IsFinite (whole (pos k) *ℚ x)) xs ↔ (factor_by_steps xs ∣ k)
unfolding factor_by_steps
steps_multiples [] k = (λ h. dvd-mul k, λ h. All-nil (λ x. IsFinite (whole (pos k) *ℚ x)))
  where
    dvd-mul : (k : ℕ) → 1 ∣ k
    dvd-mul k = subst (λ n. 1 ∣ n) (one-mul k) (dvd-mul_right 1 k)
steps_multiples (x ∷ xs) k =
    let P = λ (x : ℚ). IsFinite (whole (pos k) *ℚ x) in
    let l = is_lcm (cofactor_of x.bottom) (factor_by_steps xs) (steps_above xs) in
    let ih = steps_multiples xs k in
    let one = finite_multiple k x in (
      λ h. l.least k (one.0 (All-head P x xs h)) (ih.0 (All-tail P x xs h)),
      λ d. All-cons P x xs (one.1 (dvd_trans (cofactor_of x.bottom) l.first d)) (ih.1 (dvd_trans (factor_by_steps xs) l.second d)),
    )

pub steps_are_least : (xs : List ℚ) → IsLeastFactor xs (factor_by_steps xs)
steps_are_least xs = record {
  factor = record { above = steps_above xs; finite = (steps_multiples xs (factor_by_steps xs)).1 (dvd_refl (factor_by_steps xs)) };
  least = λ l f. le_of_dvd f.above ((steps_multiples xs l).0 f.finite);
}

-- the greatest divisor that is prime to 10
pub only_cofactor : (n c : ℕ) → 0 < n → c ∣ n → AreCoprime c 10 → ((d : ℕ) → d ∣ n → AreCoprime d 10 → d ∣ c) → c ≡ cofactor_of n
only_cofactor n c some divides coprime greatest =
    let s = split_of n some in
    let k = cofactor_of n in
    let within : c ∣ k * 10 ^ s.e = dvd_trans c (subst (λ m. c ∣ m) s.whole divides) (mul-dvd-mul k s.rest (dvd_refl k) s.tens) in
    dvd_antisymm
    (dvd_other c (10 ^ s.e) k (coprime-pow c 10 s.e coprime) (subst (λ m. c ∣ m) (mul_comm k (10 ^ s.e)) within))
    (greatest k (subst (λ m. k ∣ m) (sym s.whole) (dvd-mul_right k s.rest)) s.coprime)

-- each list of numbers has a least factor
abbrev pub a_least_factor : (xs : List ℚ) → (k : ℕ) × IsLeastFactor xs k
a_least_factor xs = (factor_by_steps xs, steps_are_least xs)
