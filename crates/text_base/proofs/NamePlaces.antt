-- The places of names in a list, and names as keys of a set.
use Rattle.std.proofs.Common.{◌≡◌, ◌≢◌, ◌∙◌, ℕ, zero, suc, ◌+◌, ◌<◌, ◌≤◌, not, cond, Bool, true, false, List, [], ◌∷◌, ◌++◌, length, map, get_or, Some, None, refl, sym, ap, arith}
use Rattle.std.specs.Prelude.{nat_lt, slice_get, option_map, All, AllPairs}
use Rattle.std.specs.Global.{Vec}
use Rattle.std.specs.List.{position, position_or_len, prefix_len, list_any}
use Rattle.std.specs.Str.{bytes_eq}
use Rattle.std.proofs.lemmas.Bool.{lt-ltb}
use Rattle.std.proofs.lemmas.Option.{slice_get-map}
use Rattle.std.proofs.lemmas.List.{length-map, map-append}
use Rattle.std.proofs.lemmas.List.Quantifiers.{position-Some}
use Rattle.std.proofs.lemmas.List.Sums.{position_or_len_is}
use Rattle.std.proofs.lemmas.Slice.Eq.{bytes_eq-Decides}
use Rattle.text_base.specs.Names.{place_of}

-- ---- equal bytes

pub bytes_same : (a b : List ℕ) → bytes_eq a b ≡ true → a ≡ b
bytes_same a b e = (bytes_eq-Decides a b).0 e

pub bytes_self : (a : List ℕ) → bytes_eq a a ≡ true
bytes_self a = (bytes_eq-Decides a a).1 refl

pub bytes_other : (a b : List ℕ) → a ≢ b → bytes_eq a b ≡ false
bytes_other a b other = by (bytes_eq a b) refl
  where
    by : (t : Bool) → bytes_eq a b ≡ t → bytes_eq a b ≡ false
    by true e = absurd (other (bytes_same a b e))
    by false e = e

pub bytes_differ : (a b : List ℕ) → bytes_eq a b ≡ false → a ≢ b
bytes_differ a b e = λ same. let yes_same : bytes_eq a b ≡ true = (bytes_eq-Decides a b).1 same in absurd cc

-- ---- places

pub past_all : {X : Type 0} (p : X → Bool) (xs : List X) → position p xs ≡ None → length xs ≤ position_or_len p xs
past_all p xs e = by (nat_lt (position_or_len p xs) (length xs)) refl
  where
    by : (b : Bool) → nat_lt (position_or_len p xs) (length xs) ≡ b → length xs ≤ position_or_len p xs
    by true is = absurd (cc (rw is at e))
    by false is = grind arith

none_passes : {X : Type 0} (p : X → Bool) (xs : List X) → length xs ≤ position_or_len p xs → All (λ x. p x ≡ false) xs
none_passes p [] le = λ k d lt. absurd (omega arith)
none_passes {X = X} p (x ∷ xs) le = by (none_passes p xs) (p x) refl
  where
    by : (length xs ≤ position_or_len p xs → All (λ x. p x ≡ false) xs) → (b : Bool) → p x ≡ b → All (λ x. p x ≡ false) (x ∷ xs)
    by rest true is = absurd (omega (arith, rw is at le))
    by rest false is =
        let more = rest (omega (arith, rw is at le)) in
        λ k d lt. at k d lt is more
      where
        at : (k : ℕ) (d : X) → k < length (x ∷ xs) → p x ≡ false → All (λ x. p x ≡ false) xs → p (get_or (x ∷ xs) k d) ≡ false
        at zero d lt is more = is
        at (suc k) d lt is more = more k d (omega arith)

-- no name is this one
pub place_none : (names : List (List ℕ)) (name : List ℕ) → place_of names name ≡ None → All (λ n. bytes_eq name n ≡ false) names
place_none names name e = none_passes (bytes_eq name) names (past_all (bytes_eq name) names e)

-- the name at the place is this one
pub record IsAt (names : List (List ℕ)) (name : List ℕ) (i : ℕ) : Type 0 where
  pub within : i < length names
  pub same : name ≡ get_or names i []

pub place_some : (names : List (List ℕ)) (name : List ℕ) (i : ℕ) → place_of names name ≡ Some i → IsAt names name i
place_some names name i e =
    let at = position-Some (bytes_eq name) names i [] e in
    record { within = at.0; same = bytes_same name (get_or names i []) at.1 }

-- names that are apart have their places
pub place_at : (names : List (List ℕ)) (i : ℕ) (d : List ℕ) → AllPairs (λ m n. m ≢ n) names → i < length names → place_of names (get_or names i d) ≡ Some i
place_at names i d apart lt =
    let name : List ℕ = get_or names i d in
    let first : position_or_len (bytes_eq name) names ≡ i =
    position_or_len_is (bytes_eq name) names i d (omega arith)
    (λ k below. bytes_other name (get_or names k d) (λ same. apart k i d below lt (sym same)))
    (λ within. bytes_self name) in
    rw (first, lt-ltb i (length names) lt) refl

-- ---- keys

abbrev pub texts_of : List (Vec ℕ) → List (List ℕ)
texts_of keys = map (λ k. k.items) keys

prefix_len-texts : (keys : List (Vec ℕ)) (name : List ℕ) → prefix_len (λ n. not (bytes_eq name n)) (texts_of keys) ≡ prefix_len (λ k. not (bytes_eq name k.items)) keys
prefix_len-texts [] name = refl
prefix_len-texts (k ∷ keys) name = ap (λ (n : ℕ). cond (not (bytes_eq name k.items)) (1 + n) 0) (prefix_len-texts keys name)

pub place_of-texts : (keys : List (Vec ℕ)) (name : List ℕ) → place_of (texts_of keys) name ≡ position (λ k. bytes_eq name k.items) keys
place_of-texts keys name = rw (prefix_len-texts keys name, length-map keys (λ k. k.items)) refl

all_texts : (keys : List (Vec ℕ)) (name : List ℕ) → All (λ n. bytes_eq name n ≡ false) (texts_of keys) → list_any (λ k. bytes_eq name k.items) keys ≡ false
all_texts [] name h = refl
all_texts (k ∷ keys) name h =
    let here : bytes_eq name k.items ≡ false = h 0 [] (omega arith) in
    rw here (all_texts keys name (λ i d lt. h (suc i) d (omega arith)))

-- a name that has no place
pub new_name : (keys : List (Vec ℕ)) (name : List ℕ) → place_of (texts_of keys) name ≡ None → list_any (λ k. bytes_eq name k.items) keys ≡ false
new_name keys name none = all_texts keys name (place_none (texts_of keys) name none)

pub texts_of-push : (keys : List (Vec ℕ)) (key : Vec ℕ) (name : List ℕ) → key.items ≡ name → texts_of (keys ++ key ∷ []) ≡ texts_of keys ++ name ∷ []
texts_of-push keys key name e = map-append (λ k. k.items) keys (key ∷ []) ∙ ap (λ n. texts_of keys ++ n ∷ []) e

pub slice_get-texts : (keys : List (Vec ℕ)) (i : ℕ) → slice_get (texts_of keys) i ≡ option_map (λ k. k.items) (slice_get keys i)
slice_get-texts keys i = slice_get-map (λ k. k.items) keys i
