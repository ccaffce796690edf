-- Equations between sums and products, by computation: `ring (x ∷ y ∷ []) t u refl` proves `t ≡ u` where both come to the same polynomial.
use Rattle.std.proofs.Common.{◌≡◌, ℕ, zero, suc, ◌∙◌, sym, ap, ap₂, refl, List, [], ◌∷◌, Bool, true, false, ◌&&◌, ℤ, pos, negsuc, ◌+ℤ◌, ◌*ℤ◌, neg_ℤ}
use Rattle.std.proofs.lemmas.Bool.{and_parts}
use Rattle.exact_numbers.specs.Rational.{ℚ, whole, zero_ℚ, one_ℚ, ◌+ℚ◌, ◌*ℚ◌, ◌-ℚ◌, neg_ℚ}
use Rattle.exact_numbers.proofs.RationalLaws.{+ℚ_comm, +ℚ_assoc, +ℚ_zero, zero-+ℚ, +ℚ-neg, +ℚ_cancel, *ℚ_comm, *ℚ_assoc}
use Rattle.exact_numbers.proofs.RationalLaws.{*ℚ_one, one-*ℚ, *ℚ_zero, zero-*ℚ, *ℚ-+ℚ, +ℚ-*ℚ, neg-*ℚ, neg-+ℚ}
use Rattle.exact_numbers.proofs.RationalLaws.{neg_zero, -ℚ_lem, whole-+ℚ, whole-*ℚ, whole-neg}

infixl 6 ◌⊕◌ ◌⊖◌
infixl 7 ◌⊗◌
-- an expression over numbered numbers
pub data Term : Type 0 where
  v : ℕ → Term
  num : ℤ → Term
  ◌⊕◌ : Term → Term → Term
  ◌⊖◌ : Term → Term → Term
  ◌⊗◌ : Term → Term → Term
  opp : Term → Term

abbrev pub nth : List ℚ → ℕ → ℚ
nth [] i = zero_ℚ
nth (x ∷ xs) zero = x
nth (x ∷ xs) (suc i) = nth xs i

abbrev pub value_of : List ℚ → Term → ℚ
value_of xs (v i) = nth xs i
value_of xs (num z) = whole z
value_of xs (s ⊕ t) = value_of xs s +ℚ value_of xs t
value_of xs (s ⊖ t) = value_of xs s -ℚ value_of xs t
value_of xs (s ⊗ t) = value_of xs s *ℚ value_of xs t
value_of xs (opp t) = neg_ℚ (value_of xs t)

-- a whole number times a product of variables, in ascending order
pub record Part : Type 0 where
  pub factor : ℤ
  pub of : List ℕ

abbrev is_at_most : ℕ → ℕ → Bool
is_at_most zero n = true
is_at_most (suc m) zero = false
is_at_most (suc m) (suc n) = is_at_most m n

abbrev is_same : ℕ → ℕ → Bool
is_same zero zero = true
is_same zero (suc n) = false
is_same (suc m) zero = false
is_same (suc m) (suc n) = is_same m n

abbrev are_same : List ℕ → List ℕ → Bool
are_same [] [] = true
are_same [] (j ∷ js) = false
are_same (i ∷ is) [] = false
are_same (i ∷ is) (j ∷ js) = is_same i j && are_same is js

abbrev choose : {A : Type 0} → Bool → A → A → A
choose true x y = x
choose false x y = y

abbrev with_one : ℕ → List ℕ → List ℕ
with_one i [] = i ∷ []
with_one i (j ∷ js) = choose (is_at_most i j) (i ∷ j ∷ js) (j ∷ with_one i js)

abbrev with_all : List ℕ → List ℕ → List ℕ
with_all [] js = js
with_all (i ∷ is) js = with_one i (with_all is js)

abbrev plus_one : Part → List Part → List Part
plus_one p [] = p ∷ []
plus_one p (q ∷ qs) = choose (are_same p.of q.of) (record { factor = p.factor +ℤ q.factor; of = q.of } ∷ qs) (q ∷ plus_one p qs)

abbrev plus : List Part → List Part → List Part
plus [] qs = qs
plus (p ∷ ps) qs = plus_one p (plus ps qs)

abbrev times_one : Part → List Part → List Part
times_one p [] = []
times_one p (q ∷ qs) = plus_one (record { factor = p.factor *ℤ q.factor; of = with_all p.of q.of }) (times_one p qs)

abbrev times : List Part → List Part → List Part
times [] qs = []
times (p ∷ ps) qs = plus (times_one p qs) (times ps qs)

abbrev turned : List Part → List Part
turned [] = []
turned (p ∷ ps) = record { factor = neg_ℤ p.factor; of = p.of } ∷ turned ps

abbrev parts_of : Term → List Part
parts_of (v i) = record { factor = pos 1; of = i ∷ [] } ∷ []
parts_of (num z) = record { factor = z; of = [] } ∷ []
parts_of (s ⊕ t) = plus (parts_of s) (parts_of t)
parts_of (s ⊖ t) = plus (parts_of s) (turned (parts_of t))
parts_of (s ⊗ t) = times (parts_of s) (parts_of t)
parts_of (opp t) = turned (parts_of t)

abbrev is_nothing : ℤ → Bool
is_nothing (pos zero) = true
is_nothing (pos (suc n)) = false
is_nothing (negsuc n) = false

abbrev are_nothing : List Part → Bool
are_nothing [] = true
are_nothing (p ∷ ps) = is_nothing p.factor && are_nothing ps

-- whether two expressions come to the same polynomial
abbrev pub agree : Term → Term → Bool
agree s t = are_nothing (parts_of (s ⊖ t))

-- ---- what the parts are worth
same-true : (m n : ℕ) → is_same m n ≡ true → m ≡ n
same-true zero zero e = refl
same-true zero (suc n) e = cc
same-true (suc m) zero e = cc
same-true (suc m) (suc n) e = ap suc (same-true m n e)

are-true : (a b : List ℕ) → are_same a b ≡ true → a ≡ b
are-true [] [] e = refl
are-true [] (j ∷ js) e = cc
are-true (i ∷ is) [] e = cc
are-true (i ∷ is) (j ∷ js) e = let h = and_parts (is_same i j) (are_same is js) e in ap₂ ◌∷◌ (same-true i j h.0) (are-true is js h.1)

nothing-true : (z : ℤ) → is_nothing z ≡ true → z ≡ pos 0
nothing-true (pos zero) e = refl
nothing-true (pos (suc n)) e = cc
nothing-true (negsuc n) e = cc

abbrev product : List ℚ → List ℕ → ℚ
product xs [] = one_ℚ
product xs (i ∷ is) = nth xs i *ℚ product xs is

abbrev worth : List ℚ → List Part → ℚ
worth xs [] = zero_ℚ
worth xs (p ∷ ps) = whole p.factor *ℚ product xs p.of +ℚ worth xs ps

choose_value : {A : Type 0} (f : A → ℚ) (b : Bool) (x y : A) (r : ℚ) → (b ≡ true → f x ≡ r) → f y ≡ r → f (choose b x y) ≡ r
choose_value f true x y r p q = p refl
choose_value f false x y r p q = q

move_left : (a b c : ℚ) → a *ℚ (b *ℚ c) ≡ b *ℚ (a *ℚ c)
move_left a b c = sym (*ℚ_assoc a b c) ∙ ap (λ x. x *ℚ c) (*ℚ_comm a b) ∙ *ℚ_assoc b a c

add_left : (a b c : ℚ) → a +ℚ (b +ℚ c) ≡ b +ℚ (a +ℚ c)
add_left a b c = sym (+ℚ_assoc a b c) ∙ ap (λ x. x +ℚ c) (+ℚ_comm a b) ∙ +ℚ_assoc b a c

product-one : (xs : List ℚ) (i : ℕ) (js : List ℕ) → product xs (with_one i js) ≡ nth xs i *ℚ product xs js
product-one xs i [] = refl
product-one xs i (j ∷ js) =
    choose_value (product xs) (is_at_most i j) (i ∷ j ∷ js) (j ∷ with_one i js) _ (λ e. refl)
    (ap (λ x. nth xs j *ℚ x) (product-one xs i js) ∙ move_left (nth xs j) (nth xs i) (product xs js))

product-all : (xs : List ℚ) (is js : List ℕ) → product xs (with_all is js) ≡ product xs is *ℚ product xs js
product-all xs [] js = sym (one-*ℚ (product xs js))
product-all xs (i ∷ is) js =
    product-one xs i (with_all is js) ∙ ap (λ x. nth xs i *ℚ x) (product-all xs is js) ∙ sym (*ℚ_assoc (nth xs i) (product xs is) (product xs js))

worth-plus_one : (xs : List ℚ) (p : Part) (qs : List Part) → worth xs (plus_one p qs) ≡ whole p.factor *ℚ product xs p.of +ℚ worth xs qs
worth-plus_one xs p [] = refl
worth-plus_one xs p (q ∷ qs) =
    choose_value (worth xs) (are_same p.of q.of) (record { factor = p.factor +ℤ q.factor; of = q.of } ∷ qs) (q ∷ plus_one p qs) _
    (λ e.
    ap (λ x. x *ℚ product xs q.of +ℚ worth xs qs) (sym (whole-+ℚ p.factor q.factor))
    ∙ ap (λ x. x +ℚ worth xs qs) (+ℚ-*ℚ (whole p.factor) (whole q.factor) (product xs q.of))
    ∙ +ℚ_assoc (whole p.factor *ℚ product xs q.of) (whole q.factor *ℚ product xs q.of) (worth xs qs)
    ∙ ap (λ is. whole p.factor *ℚ product xs is +ℚ (whole q.factor *ℚ product xs q.of +ℚ worth xs qs)) (sym (are-true p.of q.of e)))
    (ap (λ x. whole q.factor *ℚ product xs q.of +ℚ x) (worth-plus_one xs p qs) ∙ add_left (whole q.factor *ℚ product xs q.of) (whole p.factor *ℚ product xs p.of) (worth xs qs))

worth-plus : (xs : List ℚ) (ps qs : List Part) → worth xs (plus ps qs) ≡ worth xs ps +ℚ worth xs qs
worth-plus xs [] qs = sym (zero-+ℚ (worth xs qs))
worth-plus xs (p ∷ ps) qs =
    worth-plus_one xs p (plus ps qs) ∙ ap (λ x. whole p.factor *ℚ product xs p.of +ℚ x) (worth-plus xs ps qs)
    ∙ sym (+ℚ_assoc (whole p.factor *ℚ product xs p.of) (worth xs ps) (worth xs qs))

times_four : (a b c d : ℚ) → a *ℚ b *ℚ (c *ℚ d) ≡ a *ℚ c *ℚ (b *ℚ d)
times_four a b c d = *ℚ_assoc a b (c *ℚ d) ∙ ap (λ x. a *ℚ x) (move_left b c d) ∙ sym (*ℚ_assoc a c (b *ℚ d))

worth-times_one : (xs : List ℚ) (p : Part) (qs : List Part) → worth xs (times_one p qs) ≡ whole p.factor *ℚ product xs p.of *ℚ worth xs qs
worth-times_one xs p [] = sym (*ℚ_zero (whole p.factor *ℚ product xs p.of))
worth-times_one xs p (q ∷ qs) =
    worth-plus_one xs (record { factor = p.factor *ℤ q.factor; of = with_all p.of q.of }) (times_one p qs)
    ∙ ap₂ ◌+ℚ◌
    (ap₂ ◌*ℚ◌ (sym (whole-*ℚ p.factor q.factor)) (product-all xs p.of q.of) ∙ times_four (whole p.factor) (whole q.factor) (product xs p.of) (product xs q.of))
    (worth-times_one xs p qs)
    ∙ sym (*ℚ-+ℚ (whole p.factor *ℚ product xs p.of) (whole q.factor *ℚ product xs q.of) (worth xs qs))

worth-times : (xs : List ℚ) (ps qs : List Part) → worth xs (times ps qs) ≡ worth xs ps *ℚ worth xs qs
worth-times xs [] qs = sym (zero-*ℚ (worth xs qs))
worth-times xs (p ∷ ps) qs =
    worth-plus xs (times_one p qs) (times ps qs) ∙ ap₂ ◌+ℚ◌ (worth-times_one xs p qs) (worth-times xs ps qs)
    ∙ sym (+ℚ-*ℚ (whole p.factor *ℚ product xs p.of) (worth xs ps) (worth xs qs))

worth-turned : (xs : List ℚ) (ps : List Part) → worth xs (turned ps) ≡ neg_ℚ (worth xs ps)
worth-turned xs [] = sym neg_zero
worth-turned xs (p ∷ ps) =
    ap₂ ◌+ℚ◌ (ap (λ x. x *ℚ product xs p.of) (sym (whole-neg p.factor)) ∙ neg-*ℚ (whole p.factor) (product xs p.of)) (worth-turned xs ps)
    ∙ sym (neg-+ℚ (whole p.factor *ℚ product xs p.of) (worth xs ps))

worth-parts : (xs : List ℚ) (t : Term) → worth xs (parts_of t) ≡ value_of xs t
worth-parts xs (v i) = +ℚ_zero (one_ℚ *ℚ (nth xs i *ℚ one_ℚ)) ∙ one-*ℚ (nth xs i *ℚ one_ℚ) ∙ *ℚ_one (nth xs i)
worth-parts xs (num z) = +ℚ_zero (whole z *ℚ one_ℚ) ∙ *ℚ_one (whole z)
worth-parts xs (s ⊕ t) = worth-plus xs (parts_of s) (parts_of t) ∙ ap₂ ◌+ℚ◌ (worth-parts xs s) (worth-parts xs t)
worth-parts xs (s ⊖ t) =
    worth-plus xs (parts_of s) (turned (parts_of t)) ∙ ap₂ ◌+ℚ◌ (worth-parts xs s) (worth-turned xs (parts_of t) ∙ ap neg_ℚ (worth-parts xs t))
    ∙ sym (-ℚ_lem (value_of xs s) (value_of xs t))
worth-parts xs (s ⊗ t) = worth-times xs (parts_of s) (parts_of t) ∙ ap₂ ◌*ℚ◌ (worth-parts xs s) (worth-parts xs t)
worth-parts xs (opp t) = worth-turned xs (parts_of t) ∙ ap neg_ℚ (worth-parts xs t)

worth-nothing : (xs : List ℚ) (ps : List Part) → are_nothing ps ≡ true → worth xs ps ≡ zero_ℚ
worth-nothing xs [] e = refl
worth-nothing xs (p ∷ ps) e =
    let h = and_parts (is_nothing p.factor) (are_nothing ps) e in
    ap₂ ◌+ℚ◌ (ap (λ z. whole z *ℚ product xs p.of) (nothing-true p.factor h.0) ∙ zero-*ℚ (product xs p.of)) (worth-nothing xs ps h.1) ∙ +ℚ_zero zero_ℚ

-- no difference: the same number
pub same_from_difference : (x y : ℚ) → x -ℚ y ≡ zero_ℚ → x ≡ y
same_from_difference x y e = +ℚ_cancel x y (neg_ℚ y) (sym (-ℚ_lem x y) ∙ e ∙ sym (+ℚ-neg y))

pub ring : (xs : List ℚ) (s t : Term) → agree s t ≡ true → value_of xs s ≡ value_of xs t
ring xs s t e = same_from_difference _ _ (sym (worth-parts xs (s ⊖ t)) ∙ worth-nothing xs (parts_of (s ⊖ t)) e)
