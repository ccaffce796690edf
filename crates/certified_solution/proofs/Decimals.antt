-- Decimals of numbers, found one by one.
use Rattle.std.proofs.Common.{◌≡◌, ◌∙◌, ℕ, ◌+◌, ◌<◌, ◌≤◌, Bool, true, false, List, [], ◌∷◌, ◌++◌, length, drop, map, Option, Some, None, refl, sym, ap, ap₂}
use Rattle.std.specs.Prelude.{◌&&◌, get_or, MatchOption}
use Rattle.std.proofs.lemmas.Bool.{both_ways, and_parts, false_from_ne_true}
use Rattle.std.proofs.lemmas.List.{append-nil, append_assoc, drop_all, map-append}
use Rattle.exact_numbers.specs.Rational.{ℚ}
use Rattle.exact_numbers.specs.declared.dec.Dec.{Dec}
use Rattle.exact_numbers.specs.declared.frac.Frac.{Frac}
use Rattle.exact_numbers.specs.Numbers.{dec_from}
use Rattle.exact_numbers.specs.Values.{dec_value, fits_dec, frac_value, FitsDec}
use Rattle.exact_numbers.proofs.NumberLemmas.{dec_from-some, dec_from-fits}
use Rattle.exact_numbers.proofs.Spelling.{fits_dec_out}
use Rattle.linear_program.proofs.ListLemmas.{rest_of}
use Rattle.exact_checks.specs.Terms.{values_of}
use Rattle.certified_solution.specs.Solution.{AreDecimalsOf, are_decimal}

-- ---- one number

pub dec_same : (c d : Dec) → dec_value c ≡ dec_value d → c ≡ d
dec_same c d e = let some : Some c ≡ Some d = sym (dec_from-some c) ∙ ap dec_from e ∙ dec_from-some d in cc

pub dec_for : (x : ℚ) → fits_dec x ≡ true → (d : Dec) × (dec_value d ≡ x)
dec_for x e = by (dec_from x) (dec_from-fits x)
  where
    by : (o : Option Dec) → MatchOption o (fits_dec x ≡ false) (λ d. (fits_dec x ≡ true) × (dec_value d ≡ x)) → (d : Dec) × (dec_value d ≡ x)
    by None f = absurd (both_ways (fits_dec x) f e)
    by (Some d) h = (d, h.1)

-- a decimal has a decimal
pub fits_value : (d : Dec) → fits_dec (dec_value d) ≡ true
fits_value d = by (dec_from (dec_value d)) (dec_from-some d) (dec_from-fits (dec_value d))
  where
    by : (o : Option Dec) → o ≡ Some d → MatchOption o (fits_dec (dec_value d) ≡ false) (λ x. (fits_dec (dec_value d) ≡ true) × (dec_value x ≡ dec_value d)) → fits_dec (dec_value d) ≡ true
    by None e f = absurd cc
    by (Some x) e h = h.0

and_false : (b : Bool) → b && false ≡ false
and_false true = refl
and_false false = refl

-- ---- lists

pub same_decimals : (a b : List Dec) → values_of a ≡ values_of b → a ≡ b
same_decimals [] [] e = refl
same_decimals [] (d ∷ ds) e = absurd cc
same_decimals (d ∷ ds) [] e = absurd cc
same_decimals (c ∷ cs) (d ∷ ds) e =
    let first : dec_value c ≡ dec_value d = cc in
    let rest : values_of cs ≡ values_of ds = cc in
    ap₂ (λ x xs. x ∷ xs) (dec_same c d first) (same_decimals cs ds rest)

pub decimals_for : (xs : List ℚ) → are_decimal xs ≡ true → (ds : List Dec) × (values_of ds ≡ xs)
decimals_for [] e = ([], refl)
decimals_for (x ∷ xs) e =
    let parts = and_parts (fits_dec x) (are_decimal xs) e in
    let first = dec_for x parts.0 in
    let rest = decimals_for xs parts.1 in
    (first.0 ∷ rest.0, ap₂ (λ y ys. y ∷ ys) first.1 rest.1)

pub values_decimal : (ds : List Dec) → are_decimal (values_of ds) ≡ true
values_decimal [] = refl
values_decimal (d ∷ ds) = ap₂ (λ a b. a && b) (fits_value d) (values_decimal ds)

-- a number without a decimal among them
not_all : (xs : List ℚ) (x : ℚ) (ys : List ℚ) → fits_dec x ≡ false → are_decimal (xs ++ x ∷ ys) ≡ false
not_all [] x ys e = ap (λ b. b && are_decimal ys) e
not_all (z ∷ zs) x ys e = ap (λ b. fits_dec z && b) (not_all zs x ys e) ∙ and_false (fits_dec z)

-- ---- the loop: those that were found stand for the front

pub record AreFirst (numbers : List Frac) (found : List Dec) (k : ℕ) : Type 0 where
  pub values : values_of found ++ map frac_value (drop k numbers) ≡ map frac_value numbers

pub none_first : (numbers : List Frac) → AreFirst numbers [] 0
none_first numbers = record { values = refl }

module _ (numbers : List Frac) (found : List Dec) (k : ℕ) (x : Frac) (a : AreFirst numbers found k) (h : k < length numbers) (is : x ≡ get_or numbers k x) where
  next_is : values_of found ++ (frac_value x ∷ map frac_value (drop (k + 1) numbers)) ≡ map frac_value numbers
  next_is = ap (λ ys. values_of found ++ map frac_value ys) (sym (rest_of numbers k x h is)) ∙ a.values

  pub one_more : (d : Dec) → dec_value d ≡ frac_value x → AreFirst numbers (found ++ d ∷ []) (k + 1)
  one_more d e = record {
    values = ap (λ ys. ys ++ map frac_value (drop (k + 1) numbers)) (map-append dec_value found (d ∷ []))
        ∙ append_assoc (values_of found) (dec_value d ∷ []) (map frac_value (drop (k + 1) numbers))
        ∙ ap (λ y. values_of found ++ (y ∷ map frac_value (drop (k + 1) numbers))) e
        ∙ next_is;
  }

  pub one_without : (FitsDec (frac_value x) → ⊥) → are_decimal (map frac_value numbers) ≡ false
  one_without none = ap are_decimal (sym next_is) ∙ not_all (values_of found) (frac_value x)
      (map frac_value (drop (k + 1) numbers)) (false_from_ne_true (fits_dec (frac_value x))
      (λ t. none (fits_dec_out (frac_value x) t)))

pub all_found : (numbers : List Frac) (found : List Dec) (k : ℕ) → AreFirst numbers found k → length numbers ≤ k → AreDecimalsOf (Some found) (map frac_value numbers)
all_found numbers found k a h =
    let same : values_of found ≡ map frac_value numbers = sym (append-nil (values_of found)) ∙ ap (λ ys. values_of found ++ map frac_value ys) (sym (drop_all k numbers h)) ∙ a.values in
    (ap are_decimal (sym same) ∙ values_decimal found, same)
