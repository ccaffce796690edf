-- Lists that grow at the end.
use Rattle.std.proofs.Common.{◌≡◌, ℕ, zero, suc, ◌<◌, sym, ap, refl, arith, List, [], ◌∷◌, ◌++◌, ◌-◌, ◌∙◌, length, get_or, All, Bor, MatchOption, Option, Some, None, subst}
use Rattle.std.specs.Option.{option_copied}
use Rattle.std.specs.Prelude.{slice_get}
use Rattle.certificate_judge.specs.InsidePaths.{last_of}

pub data Placed {A : Type 0} (xs : List A) (y : A) (i : ℕ) (x : A) : Type 0 where
  inside : i < length xs → slice_get xs i ≡ Some x → Placed xs y i x
  last : i ≡ length xs → y ≡ x → Placed xs y i x

pub placed : {A : Type 0} (xs : List A) (y : A) (i : ℕ) (x : A) → slice_get (xs ++ y ∷ []) i ≡ Some x → Placed xs y i x
placed [] y zero x e = last refl (let same : y ≡ x = cc in same)
placed [] y (suc i) x e = absurd (cc)
placed (z ∷ xs) y zero x e = inside (omega arith) e
placed (z ∷ xs) y (suc i) x e = elim (placed xs y i x e) [ inside l h ↦ inside (omega (arith, l)) h | last l h ↦ last (ap suc l) h ]

pub get_inside : {A : Type 0} (xs : List A) (y d : A) (i : ℕ) → i < length xs → get_or (xs ++ y ∷ []) i d ≡ get_or xs i d
get_inside [] y d i l = absurd (omega arith)
get_inside (x ∷ xs) y d zero l = refl
get_inside (x ∷ xs) y d (suc i) l = get_inside xs y d i (omega arith)

pub get_last : {A : Type 0} (xs : List A) (y d : A) → get_or (xs ++ y ∷ []) (length xs) d ≡ y
get_last [] y d = refl
get_last (x ∷ xs) y d = get_last xs y d

pub last_more : {A : Type 0} (xs : List A) (x : A) → last_of (xs ++ x ∷ []) ≡ Some x
last_more (y ∷ z ∷ xs) x = last_more (z ∷ xs) x
last_more xs x = refl

pub last_got : {A : Type 0} (xs : List A) → slice_get xs (length xs - 1) ≡ last_of xs
last_got [] = refl
last_got (x ∷ []) = let e : length (x ∷ []) - 1 ≡ 0 = omega arith in ap (slice_get (x ∷ [])) e
last_got (x ∷ y ∷ xs) = let e : length (x ∷ y ∷ xs) - 1 ≡ suc (length (y ∷ xs) - 1) = omega arith in ap (slice_get (x ∷ y ∷ xs)) e ∙ last_got (y ∷ xs)

pub last_found : {A : Type 0} (xs : List A) (r : Option (Bor A)) → option_copied r ≡ slice_get xs (length xs - 1) → MatchOption r (last_of xs ≡ None) (λ x. last_of xs ≡ Some x.now)
last_found xs None e = sym (e ∙ last_got xs)
last_found xs (Some x) e = sym (e ∙ last_got xs)

pub last_all : {A : Type 0} (P : A → Type 0) (xs : List A) (x : A) → All P xs → last_of xs ≡ Some x → P x
last_all P [] x h e = absurd (cc)
last_all P (y ∷ []) x h e = subst P (let same : y ≡ x = cc in same) (h 0 y (omega arith))
last_all P (y ∷ z ∷ xs) x h e = last_all P (z ∷ xs) x (λ i d l. h (suc i) d (omega arith)) e
