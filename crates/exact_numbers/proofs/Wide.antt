-- Signed whole numbers of 128 bits, as they are read.
use Rattle.std.proofs.Common.{◌≡◌, ◌∙◌, ℕ, suc, ◌-◌, ◌^◌, ◌<◌, Bool, true, false, cond, ◌&&◌, List, ℤ, pos, negsuc, unsigned_abs, Some, None, refl, sym, ap, arith, subst, to_z, of_z, to_z-of_z}
use Rattle.std.proofs.lemmas.Bool.{lt-ltb, ltb-true}
use Rattle.std.specs.Prelude.{FitsSigned}
use Rattle.std.specs.Str.Parse.{IsNumeral, signed_digits_value, without_leading_sign}
use mir.Syntax.{w128}
use Rattle.exact_numbers.specs.Fits.{is_small}
use Rattle.exact_numbers.specs.Numbers.{are_digits}
use Rattle.exact_numbers.proofs.NumberLemmas.{are_digits-all, are_digits-some, digits_are, first_of_both, second_of_both}
use Rattle.exact_numbers.specs.Words.{wide_of}

pub wide_of-some : (word : List ℕ) (z : ℤ) → IsNumeral 10 (without_leading_sign word) → z ≡ signed_digits_value 10 word → unsigned_abs z < 2 ^ 127 → wide_of word ≡ Some z
unfolding wide_of
wide_of-some word z is same small =
    rw (digits_are (without_leading_sign word) is.0 is.1, lt-ltb (unsigned_abs (signed_digits_value 10 word)) (2 ^ 127) (subst (λ y. unsigned_abs y < 2 ^ 127) same small)) (ap Some (sym same))

pub wide_of-none : (word : List ℕ) → (IsNumeral 10 (without_leading_sign word) → unsigned_abs (signed_digits_value 10 word) < 2 ^ 127 → ⊥) → wide_of word ≡ None
unfolding wide_of
wide_of-none word isnt = by (are_digits (without_leading_sign word) && is_small (unsigned_abs (signed_digits_value 10 word))) refl
  where
    by : (t : Bool) → (are_digits (without_leading_sign word) && is_small (unsigned_abs (signed_digits_value 10 word))) ≡ t → wide_of word ≡ None
    by true e =
        let d : are_digits (without_leading_sign word) ≡ true = first_of_both _ _ e in
        absurd (isnt (are_digits-some _ d, are_digits-all _ d) (ltb-true _ _ (second_of_both _ _ e)))
    by false e = rw e refl

fits-from_small : (z : ℤ) → unsigned_abs z < 2 ^ 127 → FitsSigned w128 z
fits-from_small (pos n) h = record { sfits = h }
fits-from_small (negsuc n) h = record { sfits = omega arith }

small-from_fits : (z : ℤ) → FitsSigned w128 z → (of_z w128 z ≡ 2 ^ 127 → ⊥) → unsigned_abs z < 2 ^ 127
small-from_fits (pos n) f other = f.sfits
small-from_fits (negsuc n) f other = omega (arith, f.sfits, ends)
  where
    ends : suc n ≡ 2 ^ 127 → ⊥
    ends e = other (ap (λ m. 2 ^ 128 - m) e)

-- ---- by what std reads
pub wide_no_text : (word : List ℕ) → (IsNumeral 10 (without_leading_sign word) → ⊥) → None ≡ wide_of word
wide_no_text word isnt = sym (wide_of-none word (λ is small. isnt is))

pub wide_no_number : (word text : List ℕ) → text ≡ word → (IsNumeral 10 (without_leading_sign text) × FitsSigned w128 (signed_digits_value 10 text) → ⊥) → None ≡ wide_of word
wide_no_number word text same isnt = sym (wide_of-none text (λ is small. isnt (is, fits-from_small _ small))) ∙ ap wide_of same

pub wide_least : (word text : List ℕ) (z : ℤ) → text ≡ word → FitsSigned w128 z → z ≡ signed_digits_value 10 text → of_z w128 z ≡ 2 ^ 127 → None ≡ wide_of word
wide_least word text z same fits value least = sym (wide_of-none text (λ is small. too_big (subst (λ y. unsigned_abs y < 2 ^ 127) (sym value ∙ it) small))) ∙ ap wide_of same
  where
    it : z ≡ to_z w128 (2 ^ 127)
    it = sym (to_z-of_z {w = w128} fits) ∙ ap (to_z w128) least

    too_big : unsigned_abs (to_z w128 (2 ^ 127)) < 2 ^ 127 → ⊥
    too_big h = omega (arith, h)

pub wide_some : (word text : List ℕ) (z : ℤ) → text ≡ word → IsNumeral 10 (without_leading_sign text) × FitsSigned w128 (signed_digits_value 10 text) → z ≡ signed_digits_value 10 text
    → (of_z w128 z ≡ 2 ^ 127 → ⊥) → Some (to_z w128 (of_z w128 z)) ≡ wide_of word
wide_some word text z same is value other =
    let fits : FitsSigned w128 z = subst (FitsSigned w128) (sym value) is.1 in
    ap Some (to_z-of_z {w = w128} fits) ∙ sym (wide_of-some text z is.0 value (small-from_fits z fits other)) ∙ ap wide_of same

wide_of-small : (word : List ℕ) (z : ℤ) → Some z ≡ wide_of word → unsigned_abs z < 2 ^ 127
unfolding wide_of
wide_of-small word z = by (are_digits (without_leading_sign word) && is_small (unsigned_abs (signed_digits_value 10 word))) refl
  where
    by : (t : Bool) → (are_digits (without_leading_sign word) && is_small (unsigned_abs (signed_digits_value 10 word)))
        ≡ t → Some z ≡ cond t (Some (signed_digits_value 10 word)) None → unsigned_abs z < 2 ^ 127
    by true e same =
        let is : signed_digits_value 10 word ≡ z = cc in
        subst (λ y. unsigned_abs y < 2 ^ 127) is (ltb-true _ _ (second_of_both _ _ e))
    by false e same = absurd cc

-- what is held of it
pub wide_held : (word : List ℕ) (z : ℤ) → Some z ≡ wide_of word → to_z w128 (of_z w128 z) ≡ z
wide_held word z is = to_z-of_z {w = w128} (fits-from_small z (wide_of-small word z is))
