-- The written lines of options, sizes and values are read back.
use Rattle.std.proofs.Common.{◌≡◌, ℕ, suc, ◌+◌, ◌-◌, ◌<◌, ◌≤◌, ◌^◌, ℤ, pos, Bool, true, false, ◌&&◌, ◌||◌, List, []}
use Rattle.std.proofs.Common.{◌∷◌, ◌++◌, length, map, Option, Some, None, inl, inr, refl, sym, ap, subst, arith, ◌==◌}
use Rattle.std.proofs.Common.{nat_lt}
use Rattle.std.specs.Prelude.{codes, IfSome}
use Rattle.std.specs.List.{AllByRecursion}
use Rattle.std.specs.Ordering.{int_eq}
use Rattle.std.specs.Fmt.{decimal, signed_decimal}
use Rattle.std.proofs.lemmas.Bool.{lt-ltb, eq-eqb, ne_eqb}
use Rattle.std.proofs.lemmas.List.{append-nil, append_assoc}
use Rattle.exact_numbers.specs.declared.dec.Dec.{Dec}
use Rattle.exact_numbers.specs.Numbers.{has_31_bits, are_digits, whole_of}
use Rattle.exact_numbers.proofs.NumberLemmas.{signed_of-signed_decimal}
use Rattle.nl_model.specs.Options.{has_second_three}
use Rattle.sol_files.specs.declared.awaited.Awaited.TheVariants.{OptionCount, Options, Constraints, DualCount, Variables, PrimalCount, Duals, Primals, Tail}
use Rattle.sol_files.specs.Sol.{Sol}
use Rattle.sol_files.specs.Built.{IsEmptyOrFull}
use Rattle.sol_files.specs.Tests.{row_tests, tail_tests, is_given_count}
use Rattle.sol_files.specs.Steps.{after_row, options_await, values_await}
use Rattle.sol_files.specs.Written.{objno_lines, IsSignedPair}
use Rattle.exact_numbers.specs.Values.{text_of}
use Rattle.sol_files.proofs.ShortWords.{IsShortWord, word-decimal, word-signed, word-text}
use Rattle.written_texts.proofs.NumbersRead.{whole_of-decimal, are_digits-decimal, dec_of-text}
use Rattle.sol_files.proofs.Reached.{IsReached, AreWords, also, at, reached_row}
use Rattle.sol_files.proofs.StandingLemmas.{is_plain}
use Rattle.sol_files.specs.Progress.{Progress, kind_of, seen}
use Rattle.text_base.specs.Judged.{first_reason}

pub one_word : (word : List ℕ) → IsShortWord word → AreWords (word ∷ [])
one_word word w = record { some = omega arith; few = omega arith; each = (w, tt) }

-- ---- options

pub count_reached : (lines : List (List ℕ)) (s : Sol) (k : ℕ) → k ≤ 9 → IsReached lines (at OptionCount s 0 0 0 0 0) → IsReached (lines ++ decimal k ∷ []) (at (options_await k) s 0 0 0 0 0)
unfolding row_tests after_row
count_reached lines s k le h =
    let small : k < 2 ^ 31 = omega arith in
    let below : k < 10 = omega arith in
    reached_row lines (at OptionCount s 0 0 0 0 0) (at (options_await k) s 0 0 0 0 0) (decimal k ∷ []) h refl (one_word (decimal k) (word-decimal k (omega arith)))
    (rw (are_digits-decimal k small, whole_of-decimal k small, lt-ltb k 10 below) refl)
    (rw (whole_of-decimal k small) refl)

options_some : (n : ℕ) → options_await (suc n) ≡ Options (suc n)
options_some n = rw (lt-ltb 0 (suc n) (omega arith)) refl

second_fine : (done : List ℤ) (z : ℤ) (more : List ℤ) → has_second_three (done ++ z ∷ more) ≡ false → ((length done == 1) && int_eq z (pos 3)) ≡ false
second_fine [] z more h = refl
second_fine (a ∷ []) z more h = h
second_fine (a ∷ b ∷ done) z more h = rw (ne_eqb (length (a ∷ b ∷ done)) 1 (λ e. omega (arith, e))) refl

pub options_reached : (lines : List (List ℕ)) (s : Sol) (rest : List ℤ) → AllByRecursion (λ z. has_31_bits z ≡ true) rest → has_second_three (s.options ++ rest) ≡ false
    → IsReached lines (at (options_await (length rest)) s 0 0 0 0 0) → IsReached (lines ++ map signed_decimal rest) (at Constraints (record s { options = s.options ++ rest }) 0 0 0 0 0)
unfolding row_tests after_row
options_reached lines s [] all second h =
    subst (λ ls. IsReached ls (at Constraints (record s { options = s.options ++ [] }) 0 0 0 0 0)) (sym (append-nil lines))
    (also lines (at Constraints s 0 0 0 0 0) _ (ap (λ os. at Constraints (record s { options = os }) 0 0 0 0 0) (sym (append-nil s.options))) h)
options_reached lines s (z ∷ rest) all second h =
    let read = signed_of-signed_decimal z all.0 in
    let less : suc (length rest) - 1 ≡ length rest = omega arith in
    let next : Sol = record s { options = s.options ++ z ∷ [] } in
    let here = also lines _ (at (Options (suc (length rest))) s 0 0 0 0 0) (ap (λ a. at a s 0 0 0 0 0) (options_some (length rest))) h in
    let one = reached_row lines (at (Options (suc (length rest))) s 0 0 0 0 0)
    (at (options_await (length rest)) next 0 0 0 0 0) (signed_decimal z ∷ []) here refl
    (one_word (signed_decimal z) (word-signed z all.0))
    (rw (read, second_fine s.options z rest second) refl)
    (rw (read, less) refl) in
    let same = append_assoc s.options (z ∷ []) rest in
    let all_read = options_reached (lines ++ signed_decimal z ∷ []) next rest all.1 (rw same second) one in
    subst (λ ls. IsReached ls (at Constraints (record s { options = s.options ++ z ∷ rest }) 0 0 0 0 0)) (append_assoc lines (signed_decimal z ∷ []) (map signed_decimal rest))
    (also _ _ _ (ap (λ os. at Constraints (record s { options = os }) 0 0 0 0 0) same) all_read)

-- ---- the four numbers

given_is : (full n : ℕ) → IsEmptyOrFull full n → is_given_count full n ≡ true
given_is full n (inl z) = rw (eq-eqb n 0 z) refl
given_is full n (inr e) = by (n == 0)
  where
    by : (b : Bool) → (b || (n == full)) ≡ true
    by true = refl
    by false = eq-eqb n full e

-- a row of one number
number_reached : (lines : List (List ℕ)) (s t : Progress) (n : ℕ) → n ≤ 2 ^ 20 → IsReached lines s → is_plain s.awaited ≡ true
    → (are_digits (decimal n) ≡ true → whole_of (decimal n) ≡ Some n → nat_lt n (2 ^ 20 + 1) ≡ true
    → (first_reason (row_tests (kind_of s.awaited) (seen s) (decimal n ∷ [])) ≡ None)
    × (after_row s.awaited s (decimal n ∷ []) ≡ t))
    → IsReached (lines ++ decimal n ∷ []) t
number_reached lines s t n le h plain given =
    let small : n < 2 ^ 31 = omega arith in
    let fine = given (are_digits-decimal n small) (whole_of-decimal n small) (lt-ltb n (2 ^ 20 + 1) (omega arith)) in
    reached_row lines s t (decimal n ∷ []) h plain (one_word (decimal n) (word-decimal n (omega arith))) fine.0 fine.1

pub con_reached : (lines : List (List ℕ)) (s : Sol) (n : ℕ) → n ≤ 2 ^ 20 → IsReached lines (at Constraints s 0 0 0 0 0)
    → IsReached (lines ++ decimal n ∷ []) (at DualCount (record s { n_con = n }) 0 0 0 0 0)
unfolding row_tests after_row
con_reached lines s n le h = number_reached lines (at Constraints s 0 0 0 0 0)
    (at DualCount (record s { n_con = n }) 0 0 0 0 0) n le h refl
    (λ digits whole below. (rw (digits, whole, below) refl, rw whole refl))

pub dual_count_reached : (lines : List (List ℕ)) (s : Sol) (n : ℕ) → n ≤ 2 ^ 20 → IsEmptyOrFull s.n_con n
    → IsReached lines (at DualCount s 0 0 0 0 0) → IsReached (lines ++ decimal n ∷ []) (at Variables s n 0 0 0 0)
unfolding row_tests after_row
dual_count_reached lines s n le given h = number_reached lines (at DualCount s 0 0 0 0 0) (at Variables s n 0 0 0 0) n
    le h refl (λ digits whole below. (rw (digits, whole, below, given_is s.n_con n given) refl, rw whole refl))

pub var_reached : (lines : List (List ℕ)) (s : Sol) (d n : ℕ) → n ≤ 2 ^ 20 → IsReached lines (at Variables s d 0 0 0 0)
    → IsReached (lines ++ decimal n ∷ []) (at PrimalCount (record s { n_var = n }) d 0 0 0 0)
unfolding row_tests after_row
var_reached lines s d n le h = number_reached lines (at Variables s d 0 0 0 0)
    (at PrimalCount (record s { n_var = n }) d 0 0 0 0) n le h refl
    (λ digits whole below. (rw (digits, whole, below) refl, rw whole refl))

pub primal_count_reached : (lines : List (List ℕ)) (s : Sol) (d n : ℕ) → n ≤ 2 ^ 20 → IsEmptyOrFull s.n_var n
    → IsReached lines (at PrimalCount s d 0 0 0 0) → IsReached (lines ++ decimal n ∷ [])
    (at (values_await d n) s d n 0 0 0)
unfolding row_tests after_row
primal_count_reached lines s d n le given h = number_reached lines (at PrimalCount s d 0 0 0 0)
    (at (values_await d n) s d n 0 0 0) n le h refl (λ digits whole below.
    (rw (digits, whole, below, given_is s.n_var n given) refl, rw whole refl))

-- ---- values

duals_some : (n p : ℕ) → values_await (suc n) p ≡ Duals (suc n)
duals_some n p = rw (lt-ltb 0 (suc n) (omega arith)) refl

primals_some : (n : ℕ) → values_await 0 (suc n) ≡ Primals (suc n)
primals_some n = rw (lt-ltb 0 (suc n) (omega arith)) refl

pub duals_reached : (lines : List (List ℕ)) (s : Sol) (d p : ℕ) (rest : List Dec)
    → IsReached lines (at (values_await (length rest) p) s d p 0 0 0)
    → IsReached (lines ++ map text_of rest) (at (values_await 0 p) (record s { duals = s.duals ++ rest }) d p 0 0 0)
unfolding row_tests after_row
duals_reached lines s d p [] h =
    subst (λ ls. IsReached ls (at (values_await 0 p) (record s { duals = s.duals ++ [] }) d p 0 0 0)) (sym (append-nil lines))
    (also lines (at (values_await 0 p) s d p 0 0 0) _ (ap (λ xs. at (values_await 0 p) (record s { duals = xs }) d p 0 0 0) (sym (append-nil s.duals))) h)
duals_reached lines s d p (x ∷ rest) h =
    let less : suc (length rest) - 1 ≡ length rest = omega arith in
    let next : Sol = record s { duals = s.duals ++ x ∷ [] } in
    let here = also lines _ (at (Duals (suc (length rest))) s d p 0 0 0) (ap (λ a. at a s d p 0 0 0) (duals_some (length rest) p)) h in
    let one = reached_row lines (at (Duals (suc (length rest))) s d p 0 0 0) (at (values_await (length rest) p) next d p 0 0 0) (text_of x ∷ []) here refl (one_word (text_of x) (word-text x))
    (rw (dec_of-text x) refl)
    (rw (dec_of-text x, less) refl) in
    subst (λ ls. IsReached ls (at (values_await 0 p) (record s { duals = s.duals ++ x ∷ rest }) d p 0 0 0)) (append_assoc lines (text_of x ∷ []) (map text_of rest))
    (also _ _ _ (ap (λ xs. at (values_await 0 p) (record s { duals = xs }) d p 0 0 0) (append_assoc s.duals (x ∷ []) rest)) (duals_reached (lines ++ text_of x ∷ []) next d p rest one))

pub primals_reached : (lines : List (List ℕ)) (s : Sol) (d p : ℕ) (rest : List Dec)
    → IsReached lines (at (values_await 0 (length rest)) s d p 0 0 0)
    → IsReached (lines ++ map text_of rest) (at Tail (record s { primals = s.primals ++ rest }) d p 0 0 0)
unfolding row_tests after_row
primals_reached lines s d p [] h =
    subst (λ ls. IsReached ls (at Tail (record s { primals = s.primals ++ [] }) d p 0 0 0)) (sym (append-nil lines))
    (also lines (at Tail s d p 0 0 0) _ (ap (λ xs. at Tail (record s { primals = xs }) d p 0 0 0) (sym (append-nil s.primals))) h)
primals_reached lines s d p (x ∷ rest) h =
    let less : suc (length rest) - 1 ≡ length rest = omega arith in
    let next : Sol = record s { primals = s.primals ++ x ∷ [] } in
    let here = also lines _ (at (Primals (suc (length rest))) s d p 0 0 0) (ap (λ a. at a s d p 0 0 0) (primals_some (length rest))) h in
    let one = reached_row lines (at (Primals (suc (length rest))) s d p 0 0 0) (at (values_await 0 (length rest)) next d p 0 0 0) (text_of x ∷ []) here refl (one_word (text_of x) (word-text x))
    (rw (dec_of-text x) refl)
    (rw (dec_of-text x, less) refl) in
    subst (λ ls. IsReached ls (at Tail (record s { primals = s.primals ++ x ∷ rest }) d p 0 0 0)) (append_assoc lines (text_of x ∷ []) (map text_of rest))
    (also _ _ _ (ap (λ xs. at Tail (record s { primals = xs }) d p 0 0 0) (append_assoc s.primals (x ∷ []) rest)) (primals_reached (lines ++ text_of x ∷ []) next d p rest one))

-- ---- the number of the objective

pub objno_reached : (lines : List (List ℕ)) (s : Sol) (d p : ℕ) (objno : Option (ℤ × ℤ)) → s.objno ≡ None
    → IfSome objno IsSignedPair → IsReached lines (at Tail s d p 0 0 0)
    → IsReached (lines ++ objno_lines objno) (at Tail (record s { objno = objno }) d p 0 0 0)
unfolding row_tests tail_tests after_row
objno_reached lines s d p None none fits h =
    subst (λ ls. IsReached ls (at Tail (record s { objno = None }) d p 0 0 0)) (sym (append-nil lines))
    (also lines (at Tail s d p 0 0 0) _ (ap (λ o. at Tail (record s { objno = o }) d p 0 0 0) none) h)
objno_reached lines s d p (Some t) none fits h =
    let first = signed_of-signed_decimal t.0 fits.0 in
    let second = signed_of-signed_decimal t.1 fits.1 in
    reached_row lines (at Tail s d p 0 0 0) (at Tail (record s { objno = Some t }) d p 0 0 0) (codes "objno" ∷ signed_decimal t.0 ∷ signed_decimal t.1 ∷ []) h refl
    (record {
      some = omega arith;
      few = omega arith;
      each = (
        record { is = record { some = omega arith; bytes = refl }; short = omega arith },
        (word-signed t.0 fits.0, (word-signed t.1 fits.1, tt)),
      );
    })
    (rw (none, first, second) refl)
    (rw (none, first, second) refl)
