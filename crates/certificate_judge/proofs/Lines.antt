-- Each line has one cause: the cause is read back from the words of the line.
use Rattle.std.proofs.Common.{◌≡◌, ◌∙◌, ℕ, suc, ◌-◌, ◌<◌, ◌^◌, ◌≤◌, Bool, true, false, nat_eq, List, [], ◌∷◌, ◌++◌}
use Rattle.std.proofs.Common.{Option, Some, None, ℤ, pos, negsuc, unsigned_abs, refl, sym, ap, ap₂, append_assoc, arith}
use Rattle.std.specs.Prelude.{codes, if◌then◌else◌}
use Rattle.std.proofs.lemmas.Bool.Decides.{nat_tests}
use Rattle.std.proofs.lemmas.Fmt.{decimal_is_IsNumeral_wide}
use Rattle.std.specs.Char.{digit_value}
use Rattle.std.specs.Fmt.{decimal, signed_decimal}
use Rattle.std.specs.Str.{bytes_eq}
use Rattle.std.specs.Str.Parse.{AllDigits, digits_value}
use Rattle.exact_numbers.specs.Fits.{fits}
use Rattle.exact_numbers.specs.Rational.{ℚ, zero_ℚ}
use Rattle.exact_numbers.proofs.Values.{same_parts}
use Rattle.linear_program.specs.Linear.{Linear}
use Rattle.certificates.specs.Branch.{LeafFault, row_side, bound_side, wide, open_gap}
use Rattle.certificates.specs.Certificate.{Cause, Certificate, at_point, not_whole, objective_wide, at_ray, at_leaf}
use Rattle.certificates.specs.Problem.{Problem}
use Rattle.certificates.specs.ProblemSays.{Denies}
use Rattle.certificates.specs.Ray.{RayFault, ray_row_wide, ray_row_broken, ray_bound_broken, ray_objective_wide, ray_no_better}
use Rattle.certificates.specs.Verdict.{Place, at_row, at_bound, at_cost, at_objective, at_total, Fault, row_broken, bound_broken, row_side_missing, bound_side_missing, too_wide}
use Rattle.certificates.proofs.Problems.{not_at_objective}
use Rattle.exact_numbers.specs.SpelledLemmas.{fitted}
use Rattle.exact_numbers.specs.Values.{frac_value}
use Rattle.exact_numbers.specs.Written.{frac_text}
use Rattle.exact_numbers.specs.declared.frac.Frac.{Frac}
use Rattle.exact_numbers.proofs.Texts.{digit_byte}
use Rattle.exact_numbers.specs.Words.{frac_of}
use Rattle.exact_numbers.proofs.Written.{fraction_read}
use Rattle.exact_checks.specs.Reasons.{cause_text}
use Rattle.certificate_judge.specs.Reasons.{failed_text, fault_index, place_index, ray_index, leaf_fault_text, open_text, IsShort, IsShortLeaf}

-- ---- words, between blanks
abbrev onto : ℕ → List (List ℕ) → List (List ℕ)
onto x [] = (x ∷ []) ∷ []
onto x (w ∷ ws) = (x ∷ w) ∷ ws

abbrev words : List ℕ → List (List ℕ)
words [] = [] ∷ []
words (x ∷ xs) = if nat_eq x 32 then [] ∷ words xs else onto x (words xs)

abbrev NoBlank : List ℕ → Type 0
NoBlank [] = Unit {0}
NoBlank (x ∷ xs) = (nat_eq x 32 ≡ false) × NoBlank xs

first_word : (w rest : List ℕ) → NoBlank w → words (w ++ 32 ∷ rest) ≡ w ∷ words rest
first_word [] rest h = refl
first_word (x ∷ w) rest h = ap₂ (λ (b : Bool) (ws : List (List ℕ)). if b then [] ∷ ws else onto x ws) h.0 (first_word w rest h.1)

last_word : (w : List ℕ) → NoBlank w → words w ≡ w ∷ []
last_word [] h = refl
last_word (x ∷ w) h = ap₂ (λ (b : Bool) (ws : List (List ℕ)). if b then [] ∷ ws else onto x ws) h.0 (last_word w h.1)

-- ---- numbers
no_blank : (b : ℕ) → (48 ≤ b) × (b ≤ 57) × (digit_value b ≡ b - 48) → nat_eq b 32 ≡ false
no_blank b h = grind (arith, nat_tests)

digits_no_blank : (xs : List ℕ) → AllDigits 10 xs → NoBlank xs
digits_no_blank [] h = tt
digits_no_blank (x ∷ xs) h = (no_blank x (digit_byte x h.0), digits_no_blank xs h.1)

decimal_no_blank : (n : ℕ) → n < 10 ^ 64 → NoBlank (decimal n)
decimal_no_blank n h = digits_no_blank (decimal n) (decimal_is_IsNumeral_wide n h).0.1

both_no_blank : (xs ys : List ℕ) → NoBlank xs → NoBlank ys → NoBlank (xs ++ ys)
both_no_blank [] ys h k = k
both_no_blank (x ∷ xs) ys h k = (h.0, both_no_blank xs ys h.1 k)

signed_no_blank : (z : ℤ) → unsigned_abs z < 10 ^ 64 → NoBlank (signed_decimal z)
signed_no_blank (pos n) h = decimal_no_blank n h
signed_no_blank (negsuc n) h = (refl, decimal_no_blank (suc n) h)

frac_no_blank : (x : ℚ) → fits x ≡ true → NoBlank (frac_text x.top x.bottom)
frac_no_blank x h =
    let are = fitted x h in
    both_no_blank (signed_decimal x.top) _ (signed_no_blank x.top (omega (arith, are.size))) (by (nat_eq x.bottom 1) (decimal_no_blank x.bottom (omega (arith, are.small))))
  where
    by : (b : Bool) → NoBlank (decimal x.bottom) → NoBlank (if b then [] else 47 ∷ decimal x.bottom)
    by true k = tt
    by false k = (refl, k)

abbrev value : List ℕ → ℕ
value w = digits_value 10 w

value_is : (n : ℕ) → n < 2 ^ 32 → value (decimal n) ≡ n
value_is n h = (decimal_is_IsNumeral_wide n (omega (arith, h))).1

abbrev fraction : Option Frac → ℚ
fraction None = zero_ℚ
fraction (Some f) = frac_value f

fraction_is : (x : ℚ) → fits x ≡ true → fraction (frac_of (frac_text x.top x.bottom)) ≡ x
fraction_is x h =
    let f : Frac = record { num = x.top; den = x.bottom; spelled = fitted x h } in
    ap fraction (fraction_read f) ∙ same_parts (frac_value f) x refl refl

-- a number and a blank, or the end
number : (n : ℕ) → n < 2 ^ 32 → (rest : List ℕ) → words (decimal n ++ 32 ∷ rest) ≡ decimal n ∷ words rest
number n h rest = first_word (decimal n) rest (decimal_no_blank n (omega (arith, h)))

number_last : (n : ℕ) → n < 2 ^ 32 → words (decimal n) ≡ decimal n ∷ []
number_last n h = last_word (decimal n) (decimal_no_blank n (omega (arith, h)))

-- ---- the cause of a line's words
abbrev is : List ℕ → List ℕ → Bool
is v w = bytes_eq v w

abbrev side_or_broken : (ℕ → Fault) → (ℕ → Fault) → List (List ℕ) → Cause
side_or_broken broken side (n ∷ w ∷ ws) = if is w (codes "broken") then at_point (broken (value n)) else at_point (side (value n))
side_or_broken broken side other = objective_wide

abbrev wide_at : List ℕ → ℕ → Cause
wide_at w n =
    if is w (codes "row") then at_point (too_wide (at_row n))
    else if is w (codes "bound") then at_point (too_wide (at_bound n))
    else if is w (codes "cost") then at_point (too_wide (at_cost n))
    else at_ray ray_objective_wide

-- what follows "too"
abbrev too : List (List ℕ) → Cause
too (a ∷ b ∷ w ∷ []) = if is w (codes "total") then at_point (too_wide at_total) else objective_wide
too (a ∷ b ∷ w ∷ n ∷ []) = wide_at w (value n)
too (a ∷ b ∷ w ∷ v ∷ n ∷ ws) = at_ray (ray_row_wide (value n))
too other = objective_wide

abbrev along : List (List ℕ) → Cause
along (w ∷ n ∷ ws) =
    if is w (codes "row") then at_ray (ray_row_broken (value n))
    else if is w (codes "bound") then at_ray (ray_bound_broken (value n))
    else at_ray ray_no_better
along other = objective_wide

abbrev open_leaf : ℕ → List ℕ → List ℕ → LeafFault
open_leaf n w v =
    if is w (codes "row") then row_side n (value v)
    else if is w (codes "bound") then bound_side n (value v)
    else if is w (codes "too") then wide n
    else open_gap n (fraction (frac_of v))

abbrev of_leaf : List (List ℕ) → Cause
of_leaf (n ∷ w ∷ v ∷ ws) = at_leaf (open_leaf (value n) w v)
of_leaf other = objective_wide

abbrev whole_variable : List (List ℕ) → Cause
whole_variable (n ∷ ws) = not_whole (value n)
whole_variable [] = objective_wide

abbrev read : List (List ℕ) → Cause
read (w ∷ ws) =
    if is w (codes "row") then side_or_broken row_broken row_side_missing ws
    else if is w (codes "bound") then side_or_broken bound_broken bound_side_missing ws
    else if is w (codes "variable") then whole_variable ws
    else if is w (codes "too") then too ws
    else if is w (codes "ray") then along ws
    else of_leaf ws
read [] = objective_wide

-- the two causes of one line are the same
abbrev told : Cause → Cause
told (at_point (too_wide at_objective)) = objective_wide
told other = other

read_place : (place : Place) → place_index place < 2 ^ 32 → read (words (failed_text (at_point (too_wide place)))) ≡ told (at_point (too_wide place))
read_place (at_row i) h = ap (λ ws. too (codes "wide" ∷ codes "at" ∷ codes "row" ∷ ws)) (number_last i h) ∙ ap (λ k. at_point (too_wide (at_row k))) (value_is i h)
read_place (at_bound j) h = ap (λ ws. too (codes "wide" ∷ codes "at" ∷ codes "bound" ∷ ws)) (number_last j h) ∙ ap (λ k. at_point (too_wide (at_bound k))) (value_is j h)
read_place (at_cost j) h = ap (λ ws. too (codes "wide" ∷ codes "at" ∷ codes "cost" ∷ ws)) (number_last j h) ∙ ap (λ k. at_point (too_wide (at_cost k))) (value_is j h)
read_place at_objective h = refl
read_place at_total h = refl

read_fault : (g : Fault) → fault_index g < 2 ^ 32 → read (words (failed_text (at_point g))) ≡ told (at_point g)
read_fault (row_broken i) h = ap (side_or_broken row_broken row_side_missing) (number i h (codes "broken")) ∙ ap (λ k. at_point (row_broken k)) (value_is i h)
read_fault (bound_broken j) h = ap (side_or_broken bound_broken bound_side_missing) (number j h (codes "broken")) ∙ ap (λ k. at_point (bound_broken k)) (value_is j h)
read_fault (row_side_missing i) h = ap (side_or_broken row_broken row_side_missing) (number i h (codes "has no side")) ∙ ap (λ k. at_point (row_side_missing k)) (value_is i h)
read_fault (bound_side_missing j) h = ap (side_or_broken bound_broken bound_side_missing) (number j h (codes "has no side")) ∙ ap (λ k. at_point (bound_side_missing k)) (value_is j h)
read_fault (too_wide place) h = read_place place h

read_ray : (g : RayFault) → ray_index g < 2 ^ 32 → read (words (failed_text (at_ray g))) ≡ at_ray g
read_ray (ray_row_wide i) h = ap (λ ws. too (codes "wide" ∷ codes "at" ∷ codes "ray" ∷ codes "row" ∷ ws)) (number_last i h) ∙ ap (λ k. at_ray (ray_row_wide k)) (value_is i h)
read_ray (ray_row_broken i) h = ap (λ ws. along (codes "row" ∷ ws)) (number i h (codes "broken")) ∙ ap (λ k. at_ray (ray_row_broken k)) (value_is i h)
read_ray (ray_bound_broken j) h = ap (λ ws. along (codes "bound" ∷ ws)) (number j h (codes "broken")) ∙ ap (λ k. at_ray (ray_bound_broken k)) (value_is j h)
read_ray ray_objective_wide h = refl
read_ray ray_no_better h = refl

-- the number of a leaf, and why it does not close
leaf_words : (n : ℕ) → n < 2 ^ 32 → (rest : List ℕ) → read (words (codes "leaf " ++ decimal n ++ codes " " ++ rest)) ≡ of_leaf (decimal n ∷ words rest)
leaf_words n h rest =
    ap (λ t. read (words t)) (append_assoc (codes "leaf " ++ decimal n) (codes " ") rest) ∙ ap of_leaf (number n h rest)

read_leaf : (g : LeafFault) → IsShortLeaf g → read (words (failed_text (at_leaf g))) ≡ at_leaf g
read_leaf (row_side n i) h =
    leaf_words n h.0 (open_text (row_side n i)) ∙ ap (λ ws. of_leaf (decimal n ∷ codes "row" ∷ ws)) (number i h.1 (codes "has no side"))
    ∙ ap₂ (λ k l. at_leaf (row_side k l)) (value_is n h.0) (value_is i h.1)
read_leaf (bound_side n j) h =
    leaf_words n h.0 (open_text (bound_side n j)) ∙ ap (λ ws. of_leaf (decimal n ∷ codes "bound" ∷ ws)) (number j h.1 (codes "has no side"))
    ∙ ap₂ (λ k l. at_leaf (bound_side k l)) (value_is n h.0) (value_is j h.1)
read_leaf (wide n) h = leaf_words n h (open_text (wide n)) ∙ ap (λ k. at_leaf (wide k)) (value_is n h)
read_leaf (open_gap n b) h =
    leaf_words n h.0 (open_text (open_gap n b)) ∙ ap (λ ws. of_leaf (decimal n ∷ codes "gap" ∷ ws)) (last_word (frac_text b.top b.bottom) (frac_no_blank b h.1))
    ∙ ap₂ (λ k v. at_leaf (open_gap k v)) (value_is n h.0) (fraction_is b h.1)

read_cause : (c : Cause) → IsShort c → read (words (failed_text c)) ≡ told c
read_cause (at_point g) h = read_fault g h
read_cause (not_whole j) h = ap whole_variable (number j h (codes "not whole")) ∙ ap not_whole (value_is j h)
read_cause objective_wide h = refl
read_cause (at_ray g) h = read_ray g h
read_cause (at_leaf g) h = read_leaf g h

same_told : (a b : Cause) → IsShort a → IsShort b → failed_text a ≡ failed_text b → told a ≡ told b
same_told a b h k e = sym (read_cause a h) ∙ ap (λ t. read (words t)) e ∙ read_cause b k

-- ---- one cause
abbrev fault_in : Cause → Fault
fault_in (at_point g) = g
fault_in other = too_wide at_objective

fault_told : (g : Fault) → fault_in (told (at_point g)) ≡ g
fault_told (row_broken i) = refl
fault_told (bound_broken j) = refl
fault_told (row_side_missing i) = refl
fault_told (bound_side_missing j) = refl
fault_told (too_wide (at_row i)) = refl
fault_told (too_wide (at_bound j)) = refl
fault_told (too_wide (at_cost j)) = refl
fault_told (too_wide at_objective) = refl
fault_told (too_wide at_total) = refl

pub one_fault : (a b : Fault) → fault_index a < 2 ^ 32 → fault_index b < 2 ^ 32 → cause_text a ≡ cause_text b → a ≡ b
one_fault a b h k e = sym (fault_told a) ∙ ap fault_in (same_told (at_point a) (at_point b) h k e) ∙ fault_told b

abbrev leaf_in : Cause → LeafFault
leaf_in (at_leaf g) = g
leaf_in other = wide 0

pub one_leaf_fault : (a b : LeafFault) → IsShortLeaf a → IsShortLeaf b → leaf_fault_text a ≡ leaf_fault_text b → a ≡ b
one_leaf_fault a b h k e = ap leaf_in (same_told (at_leaf a) (at_leaf b) h k e)

-- a cause that is denied is the one that is told
denied_told : (p : Problem) (f : Linear) (c : Certificate) (a : Cause) → Denies p f c a → told a ≡ a
denied_told p f c (at_point (row_broken i)) h = refl
denied_told p f c (at_point (bound_broken j)) h = refl
denied_told p f c (at_point (row_side_missing i)) h = refl
denied_told p f c (at_point (bound_side_missing j)) h = refl
denied_told p f c (at_point (too_wide (at_row i))) h = refl
denied_told p f c (at_point (too_wide (at_bound j))) h = refl
denied_told p f c (at_point (too_wide (at_cost j))) h = refl
denied_told p f c (at_point (too_wide at_objective)) h = absurd (not_at_objective p f c h)
denied_told p f c (at_point (too_wide at_total)) h = refl
denied_told p f c (not_whole j) h = refl
denied_told p f c objective_wide h = refl
denied_told p f c (at_ray g) h = refl
denied_told p f c (at_leaf g) h = refl

pub one_cause : (p : Problem) (f : Linear) (c : Certificate) (a b : Cause) → IsShort a → IsShort b → Denies p f c a → Denies p f c b → failed_text a ≡ failed_text b → a ≡ b
one_cause p f c a b h k da db e = sym (denied_told p f c a da) ∙ same_told a b h k e ∙ denied_told p f c b db
