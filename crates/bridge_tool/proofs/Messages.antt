-- The line of a claim that holds is one line of a message, where the numbers that are told fit.
use Rattle.std.proofs.Common.{◌≡◌, Option, Some, None, ℕ, suc, ◌<◌, ◌^◌, ℤ, pos, negsuc, Bool, true, false, List, []}
use Rattle.std.proofs.Common.{◌∷◌, ◌++◌, length, if◌then◌else◌, refl, subst, arith, append_assoc, codes, nat_lt, nat_eq}
use Rattle.std.specs.Prelude.{unsigned_abs}
use Rattle.std.specs.List.{list_all}
use Rattle.std.specs.Fmt.{decimal, signed_decimal}
use Rattle.std.proofs.lemmas.Bool.{and_parts, ltb-true}
use Rattle.std.proofs.lemmas.List.{length-append}
use Rattle.std.proofs.lemmas.Bool.Decides.{nat_tests}
use Rattle.std.proofs.lemmas.Fmt.{decimal_is_IsNumeral_wide}
use Rattle.exact_numbers.proofs.Plain.{digits_unmarked}
use Rattle.exact_numbers.specs.Numbers.{IsUnmarked}
use Rattle.exact_numbers.specs.Fits.{fits, is_small}
use Rattle.exact_numbers.specs.Rational.{ℚ}
use Rattle.text_base.proofs.LineLemmas.{EndsFree, last-free, trimmed-free}
use Rattle.text_base.specs.Cut.{HasNoEnd}
use Rattle.exact_numbers.specs.declared.frac.Frac.{Frac}
use Rattle.exact_numbers.specs.Values.{frac_value}
use Rattle.exact_numbers.proofs.Bridge.{frac_fits_lem}
use Rattle.std.proofs.lemmas.Option.{same_Some}
use Rattle.linear_program.specs.Numbers.{number_value}
use Rattle.exact_checks.specs.Terms.{value_found}
use Rattle.certificates.specs.Told.{told_claim}
use Rattle.certificates.specs.declared.certificate.Claim.{Claim}
use Rattle.certificates.specs.declared.certificate.Claim.TheVariants.{Optimal, Within, Bound, Feasible, Infeasible, Unbounded}
use Rattle.certificates.specs.ToldMeaning.{Told, optimal, within, bound, feasible, infeasible, unbounded}
use Rattle.sol_files.specs.Built.{IsMessageLine}
use Rattle.sol_files.specs.Parts.{is_options}
use Rattle.command_core.specs.Told.{number_text}
use Rattle.command_parts.specs.CertificateTold.{HasFittingBound, objective_text, told_text}

abbrev pub IsPrinted : List ℕ → Type 0
IsPrinted [] = Unit {0}
IsPrinted (b ∷ bytes) = (13 < b) × IsPrinted bytes

printed-append : (xs ys : List ℕ) → IsPrinted xs → IsPrinted ys → IsPrinted (xs ++ ys)
printed-append [] ys x y = y
printed-append (b ∷ xs) ys x y = (x.0, printed-append xs ys x.1 y)

unmarked_printed : (word : List ℕ) → IsUnmarked word → IsPrinted word
unmarked_printed [] h = tt
unmarked_printed (b ∷ word) h = (omega (arith, h.0), unmarked_printed word h.1)

decimal_printed : (n : ℕ) → n < 10 ^ 64 → IsPrinted (decimal n)
decimal_printed n h = unmarked_printed (decimal n) (digits_unmarked (decimal n) (decimal_is_IsNumeral_wide n h).0.1)

signed_printed : (z : ℤ) → unsigned_abs z < 2 ^ 127 → IsPrinted (signed_decimal z)
signed_printed (pos n) h = decimal_printed n (omega (arith, h))
signed_printed (negsuc n) h = (omega arith, decimal_printed (suc n) (omega (arith, h)))

no_end : (bytes : List ℕ) → IsPrinted bytes → HasNoEnd bytes
no_end [] h = tt
no_end (b ∷ bytes) h = (grind (arith, nat_tests, h.0), no_end bytes h.1)

free : (front word : List ℕ) → 0 < length word → IsPrinted word → EndsFree (front ++ word)
free front [] some all = absurd (omega arith)
free front (b ∷ []) some all = last-free front b (grind (arith, nat_tests, all.0))
free front (b ∷ c ∷ word) some all = subst EndsFree (append_assoc front (b ∷ []) (c ∷ word)) (free (front ++ b ∷ []) (c ∷ word) (omega arith) all.1)

number_printed : (x : ℚ) → fits x ≡ true → IsPrinted (number_text x)
number_printed x e =
    let parts = and_parts (is_small (unsigned_abs x.top)) (is_small x.bottom) e in
    printed-append (signed_decimal x.top) (if nat_eq x.bottom 1 then [] else (47 ∷ decimal x.bottom))
    (signed_printed x.top (ltb-true (unsigned_abs x.top) (2 ^ 127) parts.0))
    (by (ltb-true x.bottom (2 ^ 127) parts.1) (nat_eq x.bottom 1))
  where
    by : x.bottom < 2 ^ 127 → (b : Bool) → IsPrinted (if b then [] else (47 ∷ decimal x.bottom))
    by h true = tt
    by h false = (omega arith, decimal_printed x.bottom (omega (arith, h)))

all_printed : (xs : List ℕ) → list_all (λ b. nat_lt 13 b) xs ≡ true → IsPrinted xs
all_printed [] e = tt
all_printed (b ∷ xs) e = let parts = and_parts (nat_lt 13 b) (list_all (λ c. nat_lt 13 c) xs) e in (ltb-true 13 b parts.0, all_printed xs parts.1)

-- the numbers that are told fit
abbrev pub IsFitting : Told → Type 0
IsFitting (optimal v) = fits v ≡ true
IsFitting (within b v) = (fits b ≡ true) × (fits v ≡ true)
IsFitting (bound v) = fits v ≡ true
IsFitting (feasible v) = fits v ≡ true
IsFitting infeasible = Unit {0}
IsFitting unbounded = Unit {0}

word_printed : (word : List ℕ) → list_all (λ b. nat_lt 13 b) word ≡ true → (v : ℚ) → fits v ≡ true → IsPrinted (word ++ number_text v)
word_printed word e v h = printed-append word (number_text v) (all_printed word e) (number_printed v h)

told_printed : (t : Told) → IsFitting t → IsPrinted (told_text t)
told_printed (optimal v) h = word_printed (codes "optimal ") refl v h
told_printed (within b v) h =
    printed-append (codes "within " ++ number_text b ++ codes " ") (number_text v)
    (printed-append (codes "within " ++ number_text b) (codes " ") (word_printed (codes "within ") refl b h.0) (all_printed (codes " ") refl)) (number_printed v h.1)
told_printed (bound v) h = word_printed (codes "bound ") refl v h
told_printed (feasible v) h = word_printed (codes "feasible ") refl v h
told_printed infeasible h = all_printed (codes "infeasible") refl
told_printed unbounded h = all_printed (codes "unbounded") refl

objective_printed : (k : ℕ) → k < 2 ^ 31 → IsPrinted (objective_text k)
objective_printed k h = by (nat_lt 0 k)
  where
    by : (b : Bool) → IsPrinted (if b then (codes " of objective " ++ decimal k) else [])
    by true = printed-append (codes " of objective ") (decimal k) (all_printed (codes " of objective ") refl) (decimal_printed k (omega (arith, h)))
    by false = tt

no_options : (t : Told) (more : List ℕ) → is_options (told_text t ++ more) ≡ false
no_options (optimal v) more = refl
no_options (within b v) more = refl
no_options (bound v) more = refl
no_options (feasible v) more = refl
no_options infeasible more = refl
no_options unbounded more = refl

some_text : (t : Told) → 0 < length (told_text t)
some_text (optimal v) = omega arith
some_text (within b v) = omega arith
some_text (bound v) = omega arith
some_text (feasible v) = omega arith
some_text infeasible = omega arith
some_text unbounded = omega arith

pub message_line : (t : Told) (k : ℕ) → IsFitting t → k < 2 ^ 31 → IsMessageLine (told_text t ++ objective_text k)
message_line t k fine small =
    let all = printed-append (told_text t) (objective_text k) (told_printed t fine) (objective_printed k small) in
    let some : 0 < length (told_text t ++ objective_text k) = omega (arith, some_text t, length-append (told_text t) (objective_text k)) in
    record {
      one = record { no_end = no_end (told_text t ++ objective_text k) all; no_cr = trimmed-free (told_text t ++ objective_text k) (free [] (told_text t ++ objective_text k) some all) };
      other = no_options t (objective_text k);
    }

-- what is told of a claim whose bound fits fits
pub told_fits : (claim : Claim) (v : Option Frac) (t : Told) → HasFittingBound claim → told_claim claim (value_found v) ≡ Some t → IsFitting t
told_fits (Optimal k) None t fine e = absurd cc
told_fits (Optimal k) (Some v) t fine e = subst IsFitting (same_Some (optimal (frac_value v)) t e) (frac_fits_lem v)
told_fits (Within k b) None t fine e = absurd cc
told_fits (Within k b) (Some v) t fine e = subst IsFitting (same_Some (within (number_value b) (frac_value v)) t e) (fine, frac_fits_lem v)
told_fits (Bound k b) None t fine e = absurd cc
told_fits (Bound k b) (Some v) t fine e = subst IsFitting (same_Some (bound (frac_value v)) t e) (frac_fits_lem v)
told_fits (Feasible k) None t fine e = absurd cc
told_fits (Feasible k) (Some v) t fine e = subst IsFitting (same_Some (feasible (frac_value v)) t e) (frac_fits_lem v)
told_fits Infeasible None t fine e = subst IsFitting (same_Some infeasible t e) tt
told_fits Infeasible (Some v) t fine e = absurd cc
told_fits (Unbounded k) None t fine e = subst IsFitting (same_Some unbounded t e) tt
told_fits (Unbounded k) (Some v) t fine e = absurd cc
