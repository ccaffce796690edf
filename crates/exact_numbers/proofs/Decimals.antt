-- Which numbers m * 10 ^ e a Dec holds.
use Rattle.std.proofs.Common.{◌≡◌, ◌≢◌, ℕ, ◌+◌, ◌*◌, ◌%◌, ◌^◌, ◌<◌, ◌≤◌, ◌⊎◌, ◌∙◌, sym, ap, refl, arith, ℤ, pos, negsuc}
use Rattle.std.proofs.Common.{◌+ℤ◌, ◌*ℤ◌, ◌≤ℤ◌, neg_ℤ, unsigned_abs, pow-add, subst, ⊎_elim, inl, inr, zero-mul, Bool}
use Rattle.std.proofs.Common.{true, false, int_lt, zero-le, zero, suc, ◌-ℤ◌, ◌/◌, mul-one, mul_assoc, pow-suc, lit<}
use Rattle.std.proofs.Common.{lit≤}
use Rattle.std.proofs.lemmas.Bool.{le-ltb, cases_eq, cases_lt}
use Prim.Native.Nat.{◌∣◌}
use Rattle.std.proofs.lemmas.Nat.Gcd.{dvd_trans, mod-eq-zero_of_dvd}
use Rattle.std.proofs.Math.Nat.{one-dvd, dvd-mul_left, eq_of_mul-eq-mul_right}
use Rattle.std.proofs.lemmas.Int.{ints, unsigned_abs-mul}
use Rattle.exact_numbers.proofs.Pairs.{Fraction, SameValue, HasDec, scaled}
use Rattle.exact_numbers.specs.Decimal.{IsDec, signed}
use Rattle.exact_numbers.specs.Text.{IsCapped}
use Rattle.exact_numbers.proofs.Tens.{ten-pos, same_shortest, strip_more, few_zeros}
use Rattle.exact_numbers.proofs.Signed.{times_twice, SameValue-trans, SameValue-sym, sizes_of, from_parts}
use borrow.Author.Differences.{up, down, same_in}

-- both sides times the powers that stand below
same_scaled_out : (m e n f : ℤ) → SameValue (scaled m e) (scaled n f) → m *ℤ pos (10 ^ (up e + down f)) ≡ n *ℤ pos (10 ^ (up f + down e))
same_scaled_out m e n f h =
    ap (λ k. m *ℤ pos k) (pow-add 10 (up e) (down f)) ∙ sym (times_twice m _ _) ∙ h.equal ∙ times_twice n _ _ ∙ ap (λ k. n *ℤ pos k) (sym (pow-add 10 (up f) (down e)))

same_scaled_in : (m e n f : ℤ) → m *ℤ pos (10 ^ (up e + down f)) ≡ n *ℤ pos (10 ^ (up f + down e)) → SameValue (scaled m e) (scaled n f)
same_scaled_in m e n f h =
    record { equal = times_twice m _ _ ∙ ap (λ k. m *ℤ pos k) (sym (pow-add 10 (up e) (down f))) ∙ h ∙ ap (λ k. n *ℤ pos k) (pow-add 10 (up f) (down e)) ∙ sym (times_twice n _ _) }

-- two shortest forms of one value have one size and one exponent
pub same_form : (m e n f : ℤ) → unsigned_abs m % 10 ≢ 0 → unsigned_abs n % 10 ≢ 0 → SameValue (scaled m e) (scaled n f) → (unsigned_abs m ≡ unsigned_abs n) × (e ≡ f)
same_form m e n f p q h =
    let both = same_shortest (unsigned_abs m) (unsigned_abs n) _ _ p q (sizes_of m n _ _ (same_scaled_out m e n f h)) in
    (both.0, same_in e f both.1)

-- zeros at the end of m, moved to the exponent
pub moved_zeros : (m e n f : ℤ) (z : ℕ) → up m ≡ up n * 10 ^ z → down m ≡ down n * 10 ^ z → f ≡ e +ℤ pos z → SameValue (scaled n f) (scaled m e)
moved_zeros m e n f z p q is =
    same_scaled_in n f m e (from_parts n m _ _ (step (up n) (up m) p) (step (down n) (down m) q))
  where
    places : up f + down e ≡ z + (up e + down f)
    places = omega (arith, ints, is)

    step : (a b : ℕ) → b ≡ a * 10 ^ z → a * 10 ^ (up f + down e) ≡ b * 10 ^ (up e + down f)
    step a b h = ap (λ k. a * 10 ^ k) places ∙ ap (λ k. a * k) (pow-add 10 z (up e + down f)) ∙ omega (arith, ap (λ k. k * 10 ^ (up e + down f)) h)

pub scaled-bottom : (m e : ℤ) → 0 < (scaled m e).bottom
scaled-bottom m e = ten-pos (down e)

gone : (n p : ℕ) → 0 < p → n * p ≡ 0 → n % 10 ≡ 0
gone n p some e = ap (λ k. k % 10) (eq_of_mul-eq-mul_right p some n 0 (e ∙ sym (zero-mul p)))

-- a Dec of the value x has its shortest form
pub only_value : (x : Fraction) (n f : ℤ) → 0 < x.bottom → unsigned_abs n % 10 ≢ 0 → SameValue (scaled n f) x → HasDec x → (unsigned_abs n < 2 ^ 127) × (unsigned_abs f ≤ 400)
only_value x n f bottom odd h fits =
    let k = fits.m in
    let g = fits.e in
    let dec = fits.dec in
    let same : SameValue (scaled n f) (scaled k g) = SameValue-trans bottom h (SameValue-sym fits.same) in
    let sizes : unsigned_abs n * 10 ^ (up f + down g) ≡ unsigned_abs k * 10 ^ (up g + down f) = sizes_of n k _ _ (same_scaled_out n f k g same) in
    let live : unsigned_abs k % 10 ≢ 0 = λ z. odd (gone (unsigned_abs n) _ (ten-pos (up f + down g)) (sizes ∙ ap (λ x. unsigned_abs x * 10 ^ (up g + down f)) (dec.shortest z).0 ∙ zero-mul _)) in
    let form = same_form n f k g odd live same in
    (subst (λ x. x < 2 ^ 127) (sym form.0) dec.mantissa, subst (λ x. unsigned_abs x ≤ 400) (sym form.1) dec.exponent)

pub only_form : (m e n f : ℤ) → unsigned_abs n % 10 ≢ 0 → SameValue (scaled n f) (scaled m e) → HasDec (scaled m e) → (unsigned_abs n < 2 ^ 127) × (unsigned_abs f ≤ 400)
only_form m e n f odd h fits = only_value (scaled m e) n f (scaled-bottom m e) odd h fits

pub abs_is : (z : ℤ) → unsigned_abs z ≡ up z + down z
abs_is (pos n) = omega arith
abs_is (negsuc n) = omega arith

pub size_of : (b : Bool) (r : ℕ) → unsigned_abs (signed b r) ≡ r
size_of true r = let n = neg_ℤ (pos r) in omega (arith, ints, abs_is n)
size_of false r = refl

-- n has the size r and the sign of m
abbrev pub is_negative : ℤ → Bool
is_negative (pos n) = false
is_negative (negsuc n) = true

pub negative_test : (m : ℤ) → int_lt m (pos 0) ≡ is_negative m
negative_test (pos k) = le-ltb k 0 zero-le
negative_test (negsuc k) = refl

halves : (m : ℤ) (r t : ℕ) → unsigned_abs m ≡ r * t → (up m ≡ up (signed (is_negative m) r) * t) × (down m ≡ down (signed (is_negative m) r) * t)
halves (pos k) r t e = (e, sym (zero-mul t))
halves (negsuc k) r t e =
    let n = neg_ℤ (pos r) in
    let minus : down n ≡ r = omega (arith, ints) in
    let none : up n ≡ 0 = omega (arith, ints) in
    (sym (ap (λ x. x * t) none ∙ zero-mul t), e ∙ ap (λ x. x * t) (sym minus))

-- what `Dec::new` answers, once the zeros at the end of m are off
pub shortened : (m e n f : ℤ) (r z : ℕ) → unsigned_abs m ≡ r * 10 ^ z → n ≡ signed (int_lt m (pos 0)) r → f ≡ e +ℤ pos z → SameValue (scaled n f) (scaled m e)
shortened m e n f r z whole sign is =
    let h = halves m r (10 ^ z) whole in
    let same : signed (is_negative m) r ≡ n = ap (λ b. signed b r) (sym (negative_test m)) ∙ sym sign in
    moved_zeros m e n f z (h.0 ∙ ap (λ x. up x * 10 ^ z) same) (h.1 ∙ ap (λ x. down x * 10 ^ z) same) is

pub only_shortened : (m e : ℤ) (r z : ℕ) → unsigned_abs m ≡ r * 10 ^ z → r % 10 ≢ 0 → HasDec (scaled m e) → (r < 2 ^ 127) × (unsigned_abs (e +ℤ pos z) ≤ 400)
only_shortened m e r z whole odd fits =
    let size = size_of (int_lt m (pos 0)) r in
    let f = only_form m e _ (e +ℤ pos z) (λ h. odd (ap (λ x. x % 10) (sym size) ∙ h)) (shortened m e _ (e +ℤ pos z) r z whole refl refl) fits in
    (subst (λ x. x < 2 ^ 127) size f.0, f.1)

pub is_dec : (b : Bool) (n f : ℤ) (r : ℕ) → n ≡ signed b r → r % 10 ≢ 0 → r < 2 ^ 127 → neg_ℤ (pos 400) ≤ℤ f → f ≤ℤ pos 400 → IsDec n f
is_dec b n f r sign odd small low high =
    let size : unsigned_abs n ≡ r = ap unsigned_abs sign ∙ size_of b r in
    record {
      mantissa = subst (λ x. x < 2 ^ 127) (sym size) small;
      exponent = omega (arith, ints, abs_is f);
      shortest = λ h. absurd (odd (ap (λ x. x % 10) (sym size) ∙ h));
    }

pub signed_moved : (b : Bool) (s n z : ℕ) (e f : ℤ) → n ≡ s * 10 ^ z → f ≡ e +ℤ pos z → SameValue (scaled (signed b s) f) (scaled (signed b n) e)
signed_moved false s n z e f whole is = moved_zeros (pos n) e (pos s) f z whole (sym (zero-mul (10 ^ z))) is
signed_moved true s n z e f whole is =
    let up_n : up (neg_ℤ (pos n)) ≡ 0 = let k = neg_ℤ (pos n) in omega (arith, ints) in
    let up_s : up (neg_ℤ (pos s)) ≡ 0 = let k = neg_ℤ (pos s) in omega (arith, ints) in
    let down_n : down (neg_ℤ (pos n)) ≡ n = let k = neg_ℤ (pos n) in omega (arith, ints) in
    let down_s : down (neg_ℤ (pos s)) ≡ s = let k = neg_ℤ (pos s) in omega (arith, ints) in
    moved_zeros (neg_ℤ (pos n)) e (neg_ℤ (pos s)) f z
    (up_n ∙ sym (zero-mul (10 ^ z)) ∙ ap (λ x. x * 10 ^ z) (sym up_s))
    (down_n ∙ whole ∙ ap (λ x. x * 10 ^ z) (sym down_s)) is

pub only_signed : (b : Bool) (s n z : ℕ) (e : ℤ) → n ≡ s * 10 ^ z → s % 10 ≢ 0 → HasDec (scaled (signed b n) e) → (s < 2 ^ 127) × (unsigned_abs (e +ℤ pos z) ≤ 400)
only_signed b s n z e whole odd fits =
    let size = size_of b s in
    let f = only_form (signed b n) e (signed b s) (e +ℤ pos z) (λ h. odd (ap (λ x. x % 10) (sym size) ∙ h)) (signed_moved b s n z e (e +ℤ pos z) whole refl) fits in
    (subst (λ x. x < 2 ^ 127) size f.0, f.1)

pub zero_same : (b : Bool) (n : ℕ) (e : ℤ) → n ≡ 0 → SameValue (scaled (pos 0) (pos 0)) (scaled (signed b n) e)
zero_same b n e z = subst (λ m. SameValue (scaled (pos 0) (pos 0)) (scaled m e)) (sym (ap (signed b) z ∙ none b))
    (same_scaled_in (pos 0) (pos 0) (pos 0) e (from_parts (pos 0) (pos 0) _ _ (zero-mul _ ∙ sym (zero-mul _))
    (zero-mul _ ∙ sym (zero-mul _))))
  where
    none : (b : Bool) → signed b 0 ≡ pos 0
    none true = refl
    none false = refl

-- each number above 0 has a shortest form
pub record Shortest (n : ℕ) : Type 0 where
  pub rest : ℕ
  pub zeros : ℕ
  pub whole : n ≡ rest * 10 ^ zeros
  pub odd : rest % 10 ≢ 0

one_more : (n : ℕ) → n % 10 ≡ 0 → Shortest (n / 10) → Shortest n
one_more n e s =
    record {
      rest = s.rest;
      zeros = s.zeros + 1;
      whole = strip_more n n 0 (sym (mul-one n)) e ∙ ap (λ x. x * 10 ^ 1) s.whole ∙ mul_assoc s.rest (10 ^ s.zeros) 10
          ∙ ap (λ x. s.rest * x) (sym (pow-suc 10 s.zeros) ∙ ap (λ k. 10 ^ k) (omega arith));
      odd = s.odd;
    }

shortest_within : (fuel n : ℕ) → n ≤ fuel → 0 < n → Shortest n
shortest_within zero n h p = absurd (omega arith)
shortest_within (suc fuel) n h p =
    ⊎_elim
    (λ e. one_more n e (shortest_within fuel (n / 10) (omega arith) (omega arith)))
    (λ odd. record { rest = n; zeros = 0; whole = sym (mul-one n); odd = odd })
    (cases_eq (n % 10) 0)

pub shortest_of : (n : ℕ) → 0 < n → Shortest n
shortest_of n p = shortest_within n n (omega arith) p

-- no exponent as large as the cap brings a number of few digits into range
pub far_out : (b : Bool) (n k l : ℕ) (y : ℤ) → 0 < n → n < 10 ^ k → k < 2 ^ 70 → l < 2 ^ 70 → (pos (2 ^ 80) ≤ℤ y) ⊎ (y ≤ℤ neg_ℤ (pos (2 ^ 80))) → HasDec (scaled (signed b n) (y -ℤ pos l)) → ⊥
far_out b n k l y some small few short far fits =
    let s = shortest_of n some in
    let only = only_signed b s.rest n s.zeros (y -ℤ pos l) s.whole s.odd fits in
    let live : 0 < s.rest = ⊎_elim (λ p. p) (λ z. absurd (s.odd (let none : s.rest ≡ 0 = omega arith in ap (λ x. x % 10) none))) (cases_lt 0 s.rest) in
    let zeros = few_zeros n s.rest s.zeros k live s.whole small in
    let near = abs_is (y -ℤ pos l +ℤ pos s.zeros) in
    ⊎_elim (λ h. omega (arith, ints, only.1)) (λ h. omega (arith, ints, only.1)) far

module _ (b : Bool) (n k l : ℕ) (x y : ℤ) (small : n < 10 ^ k) (few : k < 2 ^ 70) (short : l < 2 ^ 70) (c : IsCapped x y) where
  capped_far : 0 < n → (x ≡ y) ⊎ ((HasDec (scaled (signed b n) (x -ℤ pos l)) → ⊥) × (HasDec (scaled (signed b n) (y -ℤ pos l)) → ⊥))
  capped_far some =
      ⊎_elim inl
      (λ far. inr (
        far_out b n k l x some small few short (⊎_elim (λ h. let e = c.above h in inl (omega (arith, ints)))
            (λ h. let e = c.below h in inr (omega (arith, ints))) far),
        far_out b n k l y some small few short far,
      ))
      c.exact

  pub capped_some : (m e : ℤ) → IsDec m e → SameValue (scaled m e) (scaled (signed b n) (x -ℤ pos l)) → SameValue (scaled m e) (scaled (signed b n) (y -ℤ pos l))
  capped_some m e dec same =
      ⊎_elim
      (λ some. ⊎_elim (λ h. subst (λ z. SameValue (scaled m e) (scaled (signed b n) (z -ℤ pos l))) h same) (λ h. absurd (h.0 (record { m = m; e = e; dec = dec; same = same }))) (capped_far some))
      (λ z. let none : n ≡ 0 = omega arith in
      SameValue-trans (scaled-bottom (pos 0) (pos 0)) (SameValue-trans (scaled-bottom (signed b n) (x -ℤ pos l)) same
      (SameValue-sym (zero_same b n (x -ℤ pos l) none))) (zero_same b n (y -ℤ pos l) none))
      (cases_lt 0 n)

  pub capped_none : (HasDec (scaled (signed b n) (x -ℤ pos l)) → ⊥) → HasDec (scaled (signed b n) (y -ℤ pos l)) → ⊥
  capped_none h fits =
      ⊎_elim
      (λ some. ⊎_elim (λ e. h (subst (λ z. HasDec (scaled (signed b n) (z -ℤ pos l))) (sym e) fits)) (λ g. g.1 fits) (capped_far some))
      (λ z. let none : n ≡ 0 = omega arith in
      h (record { m = pos 0; e = pos 0; dec = zero_dec; same = zero_same b n (x -ℤ pos l) none }))
      (cases_lt 0 n)
    where
      zero_dec : IsDec (pos 0) (pos 0)
      zero_dec = record { mantissa = lit< tt; exponent = lit≤ tt; shortest = λ h. (refl, refl) }

-- a number m * 10 ^ e that is whole has no places after the point
pub whole_above : (m e : ℤ) → pos 0 ≤ℤ e → (scaled m e).bottom ∣ unsigned_abs (scaled m e).top
whole_above m (pos k) h = one-dvd (unsigned_abs (m *ℤ pos (10 ^ k)))
whole_above m (negsuc k) h = absurd (omega (arith, ints))

pub above_whole : (m e : ℤ) → IsDec m e → (scaled m e).bottom ∣ unsigned_abs (scaled m e).top → pos 0 ≤ℤ e
above_whole m (pos k) dec h = omega (arith, ints)
above_whole m (negsuc k) dec h =
    let size : unsigned_abs (m *ℤ pos (10 ^ 0)) ≡ unsigned_abs m = unsigned_abs-mul m (pos 1) ∙ mul-one (unsigned_abs m) in
    let ten : 10 ∣ unsigned_abs m = subst (λ x. 10 ∣ x) size (dvd_trans 10 (subst (λ x. 10 ∣ x) (sym (pow-suc 10 k)) (dvd-mul_left 10 (10 ^ k))) h) in
    absurd (no_zero (dec.shortest (mod-eq-zero_of_dvd 10 ten)).1)
  where
    no_zero : negsuc k ≡ pos 0 → ⊥
    no_zero e = cc
