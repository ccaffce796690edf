use Rattle.std.proofs.Common.{◌≡◌, ◌<◌, ◌⊎◌, unsigned_abs, ◌^◌, ◌∙◌, sym, ap, refl, arith, ⊎_elim, ℤ, pos, true, false}
use Rattle.std.proofs.Common.{ℕ, ◌≤◌, subst, List, [], ◌∷◌, ◌++◌, length, Option, Some, None, MatchOption, append_assoc}
use Rattle.std.proofs.Common.{append-nil, mul-pos, one-mul, ◌<ℤ◌, length-append, ◌*◌, ap₂, ◌*ℤ◌, IfSome, negsuc}
use Rattle.std.proofs.lemmas.Int.{ints}
use Rattle.exact_numbers.specs.Fits.{fits, is_small, least_multiple}
use Rattle.exact_numbers.specs.Rational.{ℚ, whole, over, one_ℚ, ◌*ℚ◌, above_zero, below_zero, decimal_value}
use Rattle.exact_numbers.proofs.RationalLaws.{decimal_value_lem, one-*ℚ, over_whole}
use Rattle.std.proofs.lemmas.Bool.{ltb-true, and_from}
use Prim.Native.Nat.{◌∣◌}
use Rattle.std.proofs.Math.Nat.{dvd-mul_right, eq-one_of_dvd-one}
use Rattle.std.proofs.Math.Seq.{get_or-append_seam}
use Rattle.std.proofs.lemmas.List.Elements.{All-push}
use Rattle.std.proofs.lemmas.Nat.Gcd.{dvd_antisymm, dvd_refl, le_of_dvd, dvd_trans}
use Rattle.exact_numbers.specs.LowestLemmas.{reduced_lem}
use Rattle.scaled_program.specs.Factor.{least_factor, cofactor_of, IsFinite}
use Rattle.scaled_program.specs.FactorLemmas.{factor_by_steps}
use Rattle.scaled_program.proofs.Factor.{cofactor_above, factor_multiples, factor_above, finite_multiple, only_cofactor, is_lcm}
use Rattle.exact_numbers.specs.Fraction.{IsCofactor, IsLcm}
use Rattle.exact_numbers.specs.declared.frac.Frac.{Frac}
use Rattle.exact_numbers.specs.Values.{frac_value, dec_value, FitsDec, IsDecOf}
use Rattle.linear_program.specs.Coefs.{Term, AreDecimalsOf}
use Rattle.row_scaling.specs.Fitting.{coefficients_in, NumberFits, AreTermsTimes}
use Rattle.row_scaling.proofs.FitLemmas.{Finite, all_left, fraction_small}
use Rattle.exact_numbers.proofs.IntegerLaws.{times_twice}
use Rattle.exact_numbers.proofs.Values.{over_value, own_value, product_value, same_value}
use lib.IntN.{*ℤ_comm}
use Rattle.exact_numbers.proofs.Coprime.{coprime-pow}
use Rattle.exact_numbers.proofs.Bridge.{frac_fits_lem}
use Rattle.exact_numbers.specs.declared.dec.Dec.{Dec}
use Rattle.row_scaling.specs.Rows.{TermOf}
use Rattle.exact_numbers.proofs.Fitting.{whole_fits as whole_fits_dec}

-- ---- whole numbers
pub whole_fits : (z : ℤ) → unsigned_abs z < 2 ^ 127 → fits (over z 1) ≡ true
unfolding whole
whole_fits z h = ap fits (over_whole z) ∙ and_from (is_small (unsigned_abs z)) (is_small 1) (grind (arith, ltb-true)) refl

whole_fits_value : (z : ℤ) → unsigned_abs z < 2 ^ 127 → fits (decimal_value z (pos 0)) ≡ true
whole_fits_value z h = ap fits (same_value (decimal_value_lem z (pos 0)) (over_value z 1 (omega arith)) (times_twice z 1 1)) ∙ whole_fits z h

pub over_one_is : (x : ℚ) (z : ℤ) → x ≡ over z 1 → x ≡ whole z
over_one_is x z e = e ∙ over_whole z

pub one_not_none : (z : ℤ) → (pos 1 ≡ pos 0) ⊎ (fits (over z 1) ≡ false) → unsigned_abs z < 2 ^ 127 → ⊥
one_not_none z h small =
    ⊎_elim (λ (e : pos 1 ≡ pos 0). omega (arith, ints, e)) (λ (e : fits (over z 1) ≡ false). (let clash : true ≡ false = sym (whole_fits z small) ∙ e in cc)) h

-- The least factor of more and more numbers.

-- fewer numbers have a factor that divides
pub factor_of_fewer : (xs ys : List ℚ) → least_factor xs ∣ least_factor (xs ++ ys)
factor_of_fewer xs ys =
    let k = least_factor (xs ++ ys) in
    (factor_multiples xs k).0 (all_left (Finite k) xs ys ((factor_multiples (xs ++ ys) k).1 (dvd_refl k)))

-- one number more
pub factor_of_more : (xs : List ℚ) (x : ℚ) (m : ℕ) → least_factor xs ∣ m → cofactor_of x.bottom ∣ m
    → ((k : ℕ) → least_factor xs ∣ k → cofactor_of x.bottom ∣ k → m ∣ k) → m ≡ least_factor (xs ++ x ∷ [])
factor_of_more xs x m first second least =
    let k = least_factor (xs ++ x ∷ []) in
    dvd_antisymm
    (least k (factor_of_fewer xs (x ∷ [])) ((finite_multiple k x).0
    (subst (Finite k) (get_or-append_seam xs x [] x) ((factor_multiples (xs ++ x ∷ []) k).1 (dvd_refl k) (length xs)
    x (omega (arith, length-append xs (x ∷ [])))))))
    ((factor_multiples (xs ++ x ∷ []) m).0 (All-push (Finite m) xs x ((factor_multiples xs m).1 first) ((finite_multiple m x).1 second)))

pub one_more : (xs : List ℚ) (x : ℚ) → least_multiple (least_factor xs) (cofactor_of x.bottom) ≡ least_factor (xs ++ x ∷ [])
one_more xs x =
    let l = is_lcm (least_factor xs) (cofactor_of x.bottom) (cofactor_above x.bottom x.above) in
    factor_of_more xs x (least_multiple (least_factor xs) (cofactor_of x.bottom)) l.first l.second l.least

pub fewer_wide : (xs ys : List ℚ) → 2 ^ 127 ≤ least_factor xs → 2 ^ 127 ≤ least_factor (xs ++ ys)
fewer_wide xs ys h = let small : least_factor xs ≤ least_factor (xs ++ ys) = le_of_dvd (factor_above (xs ++ ys)) (factor_of_fewer xs ys) in omega (arith, h, small)

-- ---- the answer of the least common multiple
pub same_lcm : (a b m : ℕ) → 0 < b → IsLcm a b m → m ≡ least_multiple a b
same_lcm a b m h l = let r = is_lcm a b h in dvd_antisymm (l.2 (least_multiple a b) r.first r.second) (r.least m l.0 l.1)

pub back_to : (z : ℤ) (n : ℕ) → pos 0 <ℤ z → unsigned_abs z ≡ n → z ≡ pos n
back_to z n h e = omega (arith, ints, h, e)

pub by_lcm : (o : Option ℤ) (a b c : ℕ) → 0 < b → b ≡ c → MatchOption o ((m : ℕ) → IsLcm a b m → 2 ^ 127 ≤ m) (λ m. (pos 0 <ℤ m) × IsLcm a b (unsigned_abs m)) →
    MatchOption o (2 ^ 127 ≤ least_multiple a c) (λ k. k ≡ pos (least_multiple a c))
by_lcm None a b c some e h = let r = is_lcm a b some in subst (λ n. 2 ^ 127 ≤ least_multiple a n) e (h (least_multiple a b) (r.first, r.second, r.least))
by_lcm (Some k) a b c some e h = back_to k (least_multiple a c) h.0 (same_lcm a b (unsigned_abs k) some h.1 ∙ ap (least_multiple a) e)

pub cofactor_is : (x : Frac) (c : ℕ) → IsCofactor (frac_value x).bottom c → c ≡ cofactor_of (frac_value x).bottom
cofactor_is x c h = only_cofactor (frac_value x).bottom c (frac_value x).above h.0 h.1 h.2

pub one_dvd : (k : ℕ) → 1 ∣ k
one_dvd k = subst (λ n. 1 ∣ n) (one-mul k) (dvd-mul_right 1 k)

pub with_none : (z : ℤ) (x : Frac) → pos 0 <ℤ z → cofactor_of (frac_value x).bottom ≡ 1 → z ≡ pos (least_multiple (unsigned_abs z) (cofactor_of (frac_value x).bottom))
with_none z x h none =
    let one : 1 ≡ cofactor_of (frac_value x).bottom = sym none in
    back_to z _ h (same_lcm (unsigned_abs z) (cofactor_of (frac_value x).bottom) (unsigned_abs z) (omega (arith, one))
    (subst (λ n. IsLcm (unsigned_abs z) n (unsigned_abs z)) one
    (dvd_refl (unsigned_abs z), one_dvd (unsigned_abs z), λ k p q. p)))

pub with_one : (z : ℤ) (x : Frac) (c : ℤ) → pos 0 <ℤ z → c ≡ pos 1 → IsCofactor (frac_value x).bottom (unsigned_abs c) → z ≡ pos (least_multiple (unsigned_abs z) (cofactor_of (frac_value x).bottom))
with_one z x c h e is = with_none z x h (sym (cofactor_is x (unsigned_abs c) is) ∙ ap unsigned_abs e)

-- ---- a number more for each term
abbrev pub running : ℕ → List Term → ℕ
running k [] = k
running k (t ∷ ts) = running (least_multiple k (cofactor_of (frac_value t.1).bottom)) ts

pub running_is : (xs : List ℚ) (ts : List Term) → running (least_factor xs) ts ≡ least_factor (xs ++ coefficients_in ts)
running_is xs [] = ap least_factor (sym (append-nil xs))
running_is xs (t ∷ ts) =
    ap (λ k. running k ts) (one_more xs (frac_value t.1)) ∙ running_is (xs ++ frac_value t.1 ∷ []) ts ∙ ap least_factor (append_assoc xs (frac_value t.1 ∷ []) (coefficients_in ts))

pub lcm_above : (a b : ℕ) → 0 < a → 0 < b → 0 < least_multiple a b
lcm_above a b p q = mul-pos p (reduced_lem a b q).some

pub running_above : (k : ℕ) (ts : List Term) → 0 < k → k ≤ running k ts
running_above k [] h = omega arith
running_above k (t ∷ ts) h =
    let c = cofactor_of (frac_value t.1).bottom in
    let some : 0 < least_multiple k c = lcm_above k c h (cofactor_above (frac_value t.1).bottom (frac_value t.1).above) in
    let more : k ≤ least_multiple k c = le_of_dvd some (is_lcm k c (cofactor_above (frac_value t.1).bottom (frac_value t.1).above)).first in
    let rest : least_multiple k c ≤ running (least_multiple k c) ts = running_above (least_multiple k c) ts some in
    omega (arith, more, rest)

pub running_end : (start : ℤ) (xs : List ℚ) (ts : List Term) → start ≡ pos (least_factor xs) → running (unsigned_abs start) ts ≡ least_factor (xs ++ coefficients_in ts)
running_end start xs ts e = ap (λ z. running (unsigned_abs z) ts) e ∙ running_is xs ts

-- one term is added, and the rest is left
pub running_wide : (k n : ℕ) (t : Term) (ts rest : List Term) → 0 < k → rest ≡ t ∷ ts → running k rest ≡ n → 2 ^ 127 ≤ least_multiple k (cofactor_of (frac_value t.1).bottom) → 2 ^ 127 ≤ n
running_wide k n t ts rest h is e wide =
    let c = cofactor_of (frac_value t.1).bottom in
    let more : least_multiple k c ≤ running (least_multiple k c) ts = running_above (least_multiple k c) ts (lcm_above k c h (cofactor_above (frac_value t.1).bottom (frac_value t.1).above)) in
    let same : running (least_multiple k c) ts ≡ n = sym (ap (running k) is) ∙ e in
    omega (arith, more, same, wide)

pub next_above : (z f : ℤ) (x : Frac) → pos 0 <ℤ f → z ≡ pos (least_multiple (unsigned_abs f) (cofactor_of (frac_value x).bottom)) → pos 0 <ℤ z
next_above z f x h e =
    let some : 0 < least_multiple (unsigned_abs f) (cofactor_of (frac_value x).bottom) =
    lcm_above (unsigned_abs f) (cofactor_of (frac_value x).bottom) (omega (arith, ints, h))
    (cofactor_above (frac_value x).bottom (frac_value x).above) in
    omega (arith, ints, e, some)

pub size_above : (f : ℤ) → pos 0 <ℤ f → 0 < unsigned_abs f
size_above f h = omega (arith, ints, h)

pub no_factor : pos 1 ≡ pos (least_factor [])
unfolding least_factor factor_by_steps
no_factor = refl

pub first_number : (x y : ℚ) → x ≡ y → least_multiple 1 (cofactor_of x.bottom) ≡ least_factor (y ∷ [])
unfolding least_factor factor_by_steps
first_number x y e = one_more [] x ∙ ap (λ z. least_factor (z ∷ [])) e

pub factor_positive : (z : ℤ) (xs : List ℚ) → z ≡ pos (least_factor xs) → pos 0 <ℤ z
factor_positive z xs e = let some = factor_above xs in omega (arith, ints, e, some)

-- Decimals with few places behind the point.

pub no_cofactor : (x : ℚ) (k p : ℕ) → x.bottom * k ≡ 10 ^ p → cofactor_of x.bottom ≡ 1
no_cofactor x k p e =
    let tens : x.bottom ∣ 10 ^ p = subst (λ n. x.bottom ∣ n) e (dvd-mul_right x.bottom k) in
    sym (only_cofactor x.bottom 1 x.above (one_dvd x.bottom) (λ d h l. eq-one_of_dvd-one h)
    (λ d h apart. subst (λ n. d ∣ n) (coprime-pow d 10 p apart d (dvd_refl d) (dvd_trans d h tens)) (dvd_refl d)))

pub short_value : (x : ℚ) (k : ℕ) (e : ℤ) → above_zero e ≡ 0 → x.bottom * k ≡ 10 ^ below_zero e → decimal_value (x.top *ℤ pos k) e ≡ x
short_value x k e none is =
    same_value (decimal_value_lem (x.top *ℤ pos k) e) (own_value x)
    (times_twice (x.top *ℤ pos k) (10 ^ above_zero e) x.bottom ∙ times_twice x.top k (10 ^ above_zero e * x.bottom)
    ∙ ap (λ n. x.top *ℤ pos n) (ap (λ z. k * (10 ^ z * x.bottom)) none ∙ turned k x.bottom ∙ is))
  where
    turned : (k b : ℕ) → k * (1 * b) ≡ b * k
    turned k b = omega arith

pub short_is : (o : Option Dec) (x : ℚ) (m e f : ℤ) (k : ℕ) → m ≡ x.top *ℤ pos k → f ≡ e → above_zero e ≡ 0
    → x.bottom * k ≡ 10 ^ below_zero e → IsDecOf o (decimal_value m f) → IfSome o (λ d. dec_value d ≡ x)
short_is None x m e f k top same places whole h = tt
short_is (Some d) x m e f k top same places whole h = h ∙ ap₂ decimal_value top same ∙ short_value x k e places whole

-- a number times a whole number that its denominator divides
pub whole_times : (q x : ℚ) (k : ℕ) → q.bottom ≡ 1 → q.top ≡ pos (x.bottom * k) → decimal_value (x.top *ℤ pos k) (pos 0) ≡ q *ℚ x
whole_times q x k one top =
    same_value (decimal_value_lem (x.top *ℤ pos k) (pos 0)) (product_value (own_value q) (own_value x))
    (times_twice (x.top *ℤ pos k) 1 (q.bottom * x.bottom) ∙ times_twice x.top k (1 * (q.bottom * x.bottom))
    ∙ ap (λ n. x.top *ℤ pos n) (ap (λ b. k * (1 * (b * x.bottom))) one ∙ turned k x.bottom)
    ∙ sym (times_twice x.top (x.bottom * k) 1) ∙ ap (λ z. z *ℤ pos 1) (*ℤ_comm x.top (pos (x.bottom * k)) ∙ ap (λ z. z *ℤ x.top) (sym top)))
  where
    turned : (k b : ℕ) → k * (1 * (1 * b)) ≡ b * k * 1
    turned k b = omega arith

pub whole_product_is : (o : Option Dec) (q x : ℚ) (k : ℕ) (m e : ℤ) → q.bottom ≡ 1 → q.top ≡ pos (x.bottom * k)
    → m ≡ x.top *ℤ pos k → unsigned_abs m < 2 ^ 127 → e ≡ pos 0 → IsDecOf o (decimal_value m e) →
    IfSome o (λ d. NumberFits q x × (dec_value d ≡ q *ℚ x))
whole_product_is None q x k m e one top same small none h = tt
whole_product_is (Some d) q x k m e one top same small none h =
    let is : dec_value d ≡ q *ℚ x = h ∙ ap₂ decimal_value same none ∙ whole_times q x k one top in
    let fine : fits (q *ℚ x) ≡ true = ap fits (sym (whole_times q x k one top) ∙ ap (λ z. decimal_value z (pos 0)) (sym same)) ∙ whole_fits_value m small in
    (record { frac = fine; dec = record { m = d.m; e = d.e; dec = d.spelled; same = is } }, is)

-- a number times 1
pub plain_number : (o : Option Dec) (q : ℚ) (x : Frac) → q ≡ one_ℚ → IsDecOf o (frac_value x) →
    MatchOption o (¬ NumberFits q (frac_value x)) (λ d. NumberFits q (frac_value x) × (dec_value d ≡ q *ℚ frac_value x))
plain_number None q x e h = λ n. h (subst FitsDec (ap (λ r. r *ℚ frac_value x) e ∙ one-*ℚ (frac_value x)) n.dec)
plain_number (Some d) q x e h =
    let same : q *ℚ frac_value x ≡ frac_value x = ap (λ r. r *ℚ frac_value x) e ∙ one-*ℚ (frac_value x) in (
      record {
        frac = ap fits same ∙ frac_fits_lem x;
        dec = record { m = d.m; e = d.e; dec = d.spelled; same = h ∙ sym same };
      },
      h ∙ sym same,
    )

-- Coefficients that are kept as decimals.

-- a decimal has no cofactor
pub decimal_cofactor : (d : Dec) (x : ℚ) → dec_value d ≡ x → cofactor_of x.bottom ≡ 1
decimal_cofactor d x same =
    let finite : IsFinite (whole (pos 1) *ℚ x) = record { m = d.m; e = d.e; same = one-*ℚ x ∙ sym same } in
    eq-one_of_dvd-one ((finite_multiple 1 x).0 finite)

pub same_multiple : (k c : ℕ) → c ≡ 1 → least_multiple k c ≡ k
same_multiple k c e =
    let one : 1 ≡ c = sym e in
    sym (same_lcm k c k (subst (λ n. 0 < n) one (omega arith)) (subst (λ n. IsLcm k n k) one (dvd_refl k, one_dvd k, λ m p q. p)))

-- decimals leave the factor as it is
pub running_same : (k : ℕ) (ds : List TermOf) (ts : List Term) → AreDecimalsOf ds ts → running k ts ≡ k
running_same k [] [] h = refl
running_same k (d ∷ ds) (t ∷ ts) h =
    ap (λ n. running n ts) (same_multiple k (cofactor_of (frac_value t.1).bottom) (decimal_cofactor d.1 (frac_value t.1) h.1)) ∙ running_same k ds ts h.2
running_same k ds ts h = absurd h

pub factor_same : (xs : List ℚ) (ds : List TermOf) (ts : List Term) → AreDecimalsOf ds ts → least_factor xs ≡ least_factor (xs ++ coefficients_in ts)
factor_same xs ds ts h = sym (running_same (least_factor xs) ds ts h) ∙ running_is xs ts

-- decimals are their own multiples by 1
pub plain_terms : (q : ℚ) → q ≡ one_ℚ → (ds : List TermOf) (ts : List Term) → AreDecimalsOf ds ts → AreTermsTimes q ts ds
plain_terms q e [] [] h = tt
plain_terms q e (d ∷ ds) (t ∷ ts) h =
    let n = plain_number (Some d.1) q t.1 e h.1 in (record { variable = h.0; fits = n.0; value = n.1 }, plain_terms q e ds ts h.2)
plain_terms q e ds ts h = absurd h

pub plain_if_some : {X : Type 0} (items : X → List TermOf) (q : ℚ) → q ≡ one_ℚ → (ts : List Term) (o : Option X)
    → IfSome o (λ x. AreDecimalsOf (items x) ts) → IfSome o (λ x. AreTermsTimes q ts (items x))
plain_if_some items q e ts None h = tt
plain_if_some items q e ts (Some x) h = plain_terms q e (items x) ts h

pub fraction_decimal : (x : Frac) (z : ℤ) → pos 0 <ℤ z → frac_value x ≡ whole z → FitsDec (frac_value x)
fraction_decimal x (pos n) h e = subst FitsDec (sym e) (whole_fits_dec (pos n) (fraction_small x n e))
fraction_decimal x (negsuc n) h e = absurd (omega (arith, ints, h))
