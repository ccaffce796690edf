-- Codes of one prefix and numbers one after the other.
use Rattle.std.proofs.Common.{◌≡◌, ◌≢◌, ◌∙◌, ℕ, ◌+◌, ◌*◌, ◌/◌, ◌%◌, ◌<◌, ◌≤◌, ◌^◌, List, false, ◌==◌, ap, arith}
use Rattle.std.specs.Prelude.{fold}
use Rattle.std.specs.Fmt.{decimal}
use Rattle.std.proofs.lemmas.Bool.Decides.{nat_tests}
use Rattle.std.proofs.lemmas.Fmt.{decimal_digit, decimal_step}
use Rattle.std.proofs.lemmas.List.Sums.{fold_push}
use Rattle.mps_words.specs.InsideCodes.{with_byte}
use Rattle.mps_words.specs.InsideRuns.{numbered}

numbered_digit : (prefix n : ℕ) → n ≤ 9 → numbered prefix n ≡ prefix * 256 + (48 + n)
numbered_digit prefix n few = ap (λ (ds : List ℕ). fold with_byte prefix ds) (decimal_digit n (omega (arith, few)))

numbered_step : (prefix n : ℕ) → 9 < n → n < 2 ^ 64 → numbered prefix n ≡ numbered prefix (n / 10) * 256 + (48 + n % 10)
numbered_step prefix n many fits =
    ap (λ (ds : List ℕ). fold with_byte prefix ds) (decimal_step n (omega (arith, many)) fits) ∙ fold_push with_byte prefix (decimal (n / 10)) (48 + n % 10)

-- the last digit is the same
pub digit_same : (front prefix left : ℕ) → 9 < left → left < 2 ^ 64 → front % 256 ≡ 48 + left % 10 → (front / 256 == numbered prefix (left / 10)) ≡ (front == numbered prefix left)
digit_same front prefix left many fits same =
    let step = numbered_step prefix left many fits in
    grind (arith, nat_tests, step, same)

-- the last digit is another one
pub digit_other : (front prefix left : ℕ) → 9 < left → left < 2 ^ 64 → front % 256 ≢ 48 + left % 10 → (front == numbered prefix left) ≡ false
digit_other front prefix left many fits other =
    let step = numbered_step prefix left many fits in
    grind (arith, nat_tests, step, other)

-- one digit is left
pub last_same : (front prefix left : ℕ) → left ≤ 9 → front % 256 ≡ 48 + left → (front / 256 == prefix) ≡ (front == numbered prefix left)
last_same front prefix left few same =
    let step = numbered_digit prefix left few in
    grind (arith, nat_tests, step, same)

pub last_other : (front prefix left : ℕ) → left ≤ 9 → front % 256 ≢ 48 + left → (front % 256 == 48 + left) ≡ (front == numbered prefix left)
last_other front prefix left few other =
    let step = numbered_digit prefix left few in
    grind (arith, nat_tests, step, other)
