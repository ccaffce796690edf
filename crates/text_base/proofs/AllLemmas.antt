-- What holds of each element of a list also holds of each of a longer one, and of one of them.
use Rattle.std.proofs.Common.{◌<◌, List, [], ◌∷◌, ◌++◌, length, map, get_or, sym, subst, arith}
use Rattle.std.specs.List.{AllByRecursion, AllPairs}
use Rattle.std.proofs.lemmas.List.{length-map, get_or-map}

pub all_append : {X : Type 0} (P : X → Type 0) (xs ys : List X) → AllByRecursion P xs → AllByRecursion P ys → AllByRecursion P (xs ++ ys)
all_append P [] ys f g = g
all_append P (x ∷ xs) ys f g = (f.0, all_append P xs ys f.1 g)

pub all_here : {X : Type 0} (P : X → Type 0) (xs ys : List X) (x : X) → AllByRecursion P (xs ++ x ∷ ys) → P x
all_here P [] ys x all = all.0
all_here P (z ∷ xs) ys x all = all_here P xs ys x all.1

pub all_push : {X : Type 0} (P : X → Type 0) (xs : List X) (x : X) → AllByRecursion P xs → P x → AllByRecursion P (xs ++ x ∷ [])
all_push P xs x all here = all_append P xs (x ∷ []) all (here, tt)

pub pairs_mapped : {X Y : Type 0} (R : Y → Y → Type 0) (f : X → Y) (xs : List X) → AllPairs (λ x y. R (f x) (f y)) xs → AllPairs R (map f xs)
pairs_mapped R f [] h i j d lt within = absurd (omega (arith, within))
pairs_mapped R f (x ∷ xs) h i j d lt within =
    let inside : j < length (x ∷ xs) = omega (arith, within, length-map (x ∷ xs) f) in
    let first = get_or-map f (x ∷ xs) i x d (omega (arith, lt, inside)) in
    let second = get_or-map f (x ∷ xs) j x d inside in
    subst (λ u. R u (get_or (map f (x ∷ xs)) j d)) (sym first) (subst (λ u. R (f (get_or (x ∷ xs) i x)) u) (sym second) (h i j x lt inside))
