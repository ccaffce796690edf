-- How long written numbers are.
use Rattle.std.proofs.Common.{◌≡◌, ℕ, suc, ◌+◌, ◌-◌, ◌<◌, ◌≤◌, ◌^◌, Bool, true, false, cond, List, [], ◌∷◌, ◌++◌}
use Rattle.std.proofs.Common.{length, take, drop, ℤ, pos, negsuc, refl, ap, arith, length-append, lit<, lt_trans}
use Rattle.std.proofs.Common.{lt_of_le_of_lt, nat_le, int_lt, unsigned_abs}
use Rattle.std.specs.Fmt.{decimal, signed_decimal}
use Rattle.std.proofs.lemmas.Bool.{leb-true, ltb-true}
use Rattle.std.proofs.lemmas.Fmt.{length-decimal-le_wide}
use Rattle.std.proofs.lemmas.List.{take-append-drop}
use Rattle.exact_numbers.specs.Numbers.{has_31_bits}
use Rattle.exact_numbers.specs.Written.{zeros, with_point, padded, scaled_text}
use Rattle.exact_numbers.specs.declared.dec.Dec.{Dec}
use Rattle.exact_numbers.specs.Values.{text_of}
use Rattle.exact_numbers.proofs.Reading.{zeros-length}

-- ---- whole numbers

-- below 10^10
pub decimal-length : (n : ℕ) → n < 10 ^ 10 → length (decimal n) ≤ 10
decimal-length n small = length-decimal-le_wide 10 n (omega arith) small (lt_trans small (lit< tt))

pub signed_31-length : (z : ℤ) → has_31_bits z ≡ true → length (signed_decimal z) ≤ 11
signed_31-length (pos n) e =
    let small = ltb-true n (2 ^ 31) e in
    omega (arith, decimal-length n (lt_trans small (lit< tt)))
signed_31-length (negsuc n) e =
    let small = ltb-true n (2 ^ 31) e in
    let near : suc n ≤ 2 ^ 31 = omega arith in
    omega (arith, decimal-length (suc n) (lt_of_le_of_lt near (lit< tt)))

-- ---- decimals

pub pointed-length : (k : ℕ) (ds : List ℕ) → length (with_point k ds) ≤ length ds + 1
pointed-length k ds =
    let whole = ap (length {A = ℕ}) (take-append-drop (length ds - k) ds) in
    omega (arith, whole, length-append (take (length ds - k) ds) (drop (length ds - k) ds), length-append (take (length ds - k) ds) (46 ∷ drop (length ds - k) ds))

exponent-length : (k : ℕ) → k ≤ 400 → length (decimal k) ≤ 3
exponent-length k le = length-decimal-le_wide 3 k (omega arith) (omega arith) (omega arith)

scaled-length : (xs : List ℕ) (e : ℤ) → length xs ≤ 39 → unsigned_abs e ≤ 400 → length (scaled_text xs e) ≤ 59
scaled-length xs (pos k) few le = by (nat_le k 20) refl
  where
    by : (t : Bool) → nat_le k 20 ≡ t → length (cond t (xs ++ zeros k) (xs ++ 101 ∷ decimal k)) ≤ 59
    by true e = let near = leb-true k 20 e in omega (arith, few, near, zeros-length k, length-append xs (zeros k))
    by false e = omega (arith, few, exponent-length k le, length-append xs (101 ∷ decimal k))
scaled-length xs (negsuc k) few le = by (nat_le (k + 1) 38) refl
  where
    by : (t : Bool) → nat_le (k + 1) 38 ≡ t → length (cond t (with_point (k + 1) (padded (k + 1) xs)) (xs ++ 101 ∷ 45 ∷ decimal (k + 1))) ≤ 59
    by true e =
        let near = leb-true (k + 1) 38 e in
        omega (arith, few, near, pointed-length (k + 1) (padded (k + 1) xs), length-append (zeros (k + 1 + 1 - length xs)) xs, zeros-length (k + 1 + 1 - length xs))
    by false e = let one : k + 1 ≤ 400 = omega arith in omega (arith, few, exponent-length (k + 1) one, length-append xs (101 ∷ 45 ∷ decimal (k + 1)))

with_sign-length : (b : Bool) (xs : List ℕ) → length (cond b (45 ∷ []) [] ++ xs) ≤ length xs + 1
with_sign-length true xs = omega arith
with_sign-length false xs = omega arith

pub text-length : (d : Dec) → length (text_of d) ≤ 60
text-length d =
    let size : ℕ = unsigned_abs d.m in
    let few : length (decimal size) ≤ 39 = length-decimal-le_wide 39 size (omega arith) (lt_trans d.spelled.mantissa (lit< tt)) (lt_trans d.spelled.mantissa (lit< tt)) in
    omega (arith, scaled-length (decimal size) d.e few d.spelled.exponent, with_sign-length (int_lt d.m (pos 0)) (scaled_text (decimal size) d.e))
