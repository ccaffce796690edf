-- The digits of a number with a point, one after the other from its end.
use Rattle.std.proofs.Common.{◌≡◌, ◌∙◌, ℕ, suc, ◌+◌, ◌-◌, ◌/◌, ◌%◌, ◌^◌, ◌<◌, ◌≤◌, List, [], ◌∷◌, ◌++◌, length, take, drop, sym, ap, arith, ◌⊎◌, inl, inr, append_assoc, length-append}
use Rattle.std.proofs.lemmas.Fmt.{decimal_digit, decimal_step_wide, length-decimal-le}
use Rattle.std.proofs.lemmas.Bool.{cases_lt}
use Rattle.std.proofs.lemmas.List.{length-replicate, take_all, drop_all, take-append-le, drop-append-le}
use Rattle.std.proofs.lemmas.Grind.{replicate_next}
use Rattle.std.specs.Fmt.{decimal}
use Rattle.exact_numbers.specs.Written.{zeros, with_point, padded}
use Rattle.exact_numbers.specs.Values.{text_of}
use Rattle.exact_numbers.specs.declared.dec.Dec.{Dec}
use Rattle.written_texts.proofs.Lengths.{pointed-length, text-length}

zeros-end : (k : ℕ) → zeros (k + 1) ≡ zeros k ++ 48 ∷ []
zeros-end k = replicate_next k 48

padded-length : (k : ℕ) (ds : List ℕ) → k ≤ length (padded k ds)
padded-length k ds = omega (arith, length-append (zeros (k + 1 - length ds)) ds, length-replicate {A = ℕ} (k + 1 - length ds) 48)

-- the last digit of the padded digits
padded-last : (k n : ℕ) → n < 10 ^ 64 → padded (suc k) (decimal n) ≡ padded k (decimal (n / 10)) ++ (48 + n % 10) ∷ []
padded-last k n small = by (cases_lt n 10)
  where
    by : (n < 10) ⊎ (10 ≤ n) → padded (suc k) (decimal n) ≡ padded k (decimal (n / 10)) ++ (48 + n % 10) ∷ []
    by (inl few) =
        let none : n / 10 ≡ 0 = omega arith in
        let last : n % 10 ≡ n = omega arith in
        let more : suc k + 1 - 1 ≡ k + 1 = omega arith in
        let same : k + 1 - 1 ≡ k = omega arith in
        rw (none, last, decimal_digit n few, decimal_digit 0 (omega arith))
        (ap (λ i. zeros i ++ (48 + n) ∷ []) more ∙ ap (λ ds. ds ++ (48 + n) ∷ []) (zeros-end k ∙ ap (λ i. zeros i ++ 48 ∷ []) (sym same)))
    by (inr more) =
        let front = decimal (n / 10) in
        let size : suc k + 1 - length (front ++ (48 + n % 10) ∷ []) ≡ k + 1 - length front = omega (arith, length-append front ((48 + n % 10) ∷ [])) in
        rw (decimal_step_wide n more small, size) (sym (append_assoc (zeros (k + 1 - length front)) front ((48 + n % 10) ∷ [])))

point-last : (k x : ℕ) (ds : List ℕ) → k ≤ length ds → with_point (suc k) (ds ++ x ∷ []) ≡ with_point k ds ++ x ∷ []
point-last k x ds le =
    let front = length ds - k in
    let size : length (ds ++ x ∷ []) - suc k ≡ front = omega (arith, length-append ds (x ∷ [])) in
    let within : front ≤ length ds = omega arith in
    rw (size, take-append-le front ds (x ∷ []) within, drop-append-le front ds (x ∷ []) within) (sym (append_assoc (take front ds) (46 ∷ drop front ds) (x ∷ [])))

-- one digit behind the point
pub one-place : (k n : ℕ) (rest total : List ℕ) → n < 10 ^ 64 → with_point (suc k) (padded (suc k) (decimal n)) ++ rest ≡ total →
    with_point k (padded k (decimal (n / 10))) ++ (48 + n % 10) ∷ rest ≡ total
one-place k n rest total small is =
    let front = padded k (decimal (n / 10)) in
    sym (append_assoc (with_point k front) ((48 + n % 10) ∷ []) rest)
    ∙ ap (λ ds. ds ++ rest) (sym (point-last k (48 + n % 10) front (padded-length k (decimal (n / 10)))) ∙ ap (with_point (suc k)) (sym (padded-last k n small)))
    ∙ is

-- the point, and the digits before it
pub no-place : (ds rest : List ℕ) → 0 < length ds → with_point 0 (padded 0 ds) ++ rest ≡ ds ++ 46 ∷ rest
no-place ds rest some =
    let none : 0 + 1 - length ds ≡ 0 = omega arith in
    let whole : length ds - 0 ≡ length ds = omega arith in
    rw (none, whole, take_all (length ds) ds (omega arith), drop_all (length ds) ds (omega arith)) (append_assoc ds (46 ∷ []) rest)

-- how long such digits are with a text behind them
pub places-before : (k n : ℕ) (rest total : List ℕ) → k ≤ 38 → n < 2 ^ 64 → total ≡ with_point k (padded k (decimal n)) ++ rest → length total ≤ length rest + 40
places-before k n rest total few small is =
    let digits = decimal n in
    omega (
      arith,
      ap length is,
      length-append (with_point k (padded k digits)) rest,
      pointed-length k (padded k digits),
      length-append (zeros (k + 1 - length digits)) digits,
      length-replicate {A = ℕ} (k + 1 - length digits) 48,
      length-decimal-le 20 n (omega arith) (omega arith) small,
    )

-- a decimal in front of a text
pub text-before : (d : Dec) (rest total : List ℕ) → total ≡ text_of d ++ rest → length total ≤ length rest + 60
text-before d rest total is = omega (arith, ap length is, length-append (text_of d) rest, text-length d)

-- how long a number is with zeros and a text behind it
pub zeros-before : (k n : ℕ) (rest total : List ℕ) → k ≤ 20 → n < 2 ^ 64 → total ≡ (decimal n ++ zeros k) ++ rest → length total ≤ length rest + 40
zeros-before k n rest total few small is =
    omega (arith, ap length is, length-append (decimal n ++ zeros k) rest, length-append (decimal n) (zeros k), length-replicate {A = ℕ} k 48, length-decimal-le 20 n (omega arith) (omega arith) small)
