use Rattle.std.proofs.Common.{◌∙◌, rules, arith, ◌≡◌, ap, ℕ, ℤ, Bool, List, pos, ◌+◌, ◌<◌, ◌^◌, ◌++◌, length, subst, to_z, of_z, ◌-ℤ◌}
use Rattle.std.proofs.lemmas.Grind.{common_steps}
use Rattle.std.specs.Int.{w128}
use Rattle.std.specs.Str.Parse.{AllDigits, digits_value}
use Rattle.exact_numbers.specs.Decimal.{signed}
use Rattle.exact_numbers.specs.Text.{begins_minus, exponent_value, text_value, IsCapped, IsDecText, IsExponent}
use Rattle.std.proofs.lemmas.Int.{ints}
use Rattle.exact_numbers.proofs.Decimals.{capped_some, capped_none}
use Rattle.exact_numbers.proofs.Texts.{Parts, parts_of, dec_text_from, dec_value_is, digits_small}
use Rattle.exact_numbers.specs.Values.{dec_value, FitsDec}
use Rattle.exact_numbers.specs.Rational.{ℚ, decimal_value}
use Rattle.exact_numbers.specs.declared.dec.Dec.{Dec}
use Rattle.exact_numbers.proofs.Bridge.{no_dec, not_dec, dec_same, same_dec_value, decimal_is}
use Rattle.exact_numbers.proofs.read.read_any.Goals as goal

pub dec_of_digits-requires-clause-low : goal.dec_of_digits-requires-clause-low
dec_of_digits-requires-clause-low c = let h = c.in-Some.ensures.1 in let low = h.low in let high = h.high in omega (arith, ints)

pub dec_of_digits-requires-clause-high : goal.dec_of_digits-requires-clause-high
dec_of_digits-requires-clause-high c = let h = c.in-Some.ensures.1 in let low = h.low in let high = h.high in omega (arith, ints)

-- a text whose parts are digits, with an exponent that is capped
module _ (text whole fraction exponent : List ℕ) (negative : Bool) (x : ℤ) (p : Parts text whole fraction exponent) (sign : negative ≡ begins_minus text) (short : length text < 2 ^ 64)
    (dw : AllDigits 10 whole) (df : AllDigits 10 fraction) (some : 0 < length whole + length fraction) (e : IsExponent exponent × IsCapped x (exponent_value exponent)) where
  abbrev n : ℕ
  n = digits_value 10 (whole ++ fraction)

  -- the number, as `dec_of_digits` is asked for it
  abbrev asked : ℚ
  asked = decimal_value (signed negative n) (to_z w128 (of_z w128 x) -ℤ pos (length fraction))

  plain : to_z w128 (of_z w128 x) ≡ x
  plain = let low = e.1.low in let high = e.1.high in omega (arith, ints)

  few : length whole + length fraction < 2 ^ 70
  few = omega (arith, p.small)

  few_after : length fraction < 2 ^ 70
  few_after = omega (arith, p.small)

  is_text : IsDecText text
  is_text = dec_text_from text whole fraction exponent p dw df some e.0

  value : decimal_value (signed negative n) (exponent_value exponent -ℤ pos (length fraction)) ≡ text_value text
  value = dec_value_is text whole fraction exponent p negative sign

  read_some : (d : Dec) → dec_value d ≡ asked → IsDecText text × (dec_value d ≡ text_value text)
  read_some d h =
      let read : dec_value d ≡ decimal_value (signed negative n) (x -ℤ pos (length fraction)) = h ∙ ap (λ y. decimal_value (signed negative n) (y -ℤ pos (length fraction))) plain in
      let same = dec_same d.m d.e _ _ (decimal_is _ _) read in (
        is_text,
        same_dec_value d.m d.e _ _ (decimal_is _ _)
            (capped_some negative n (length whole + length fraction) (length fraction) x (exponent_value exponent)
            (digits_small whole fraction dw df) few few_after e.1 d.m d.e d.spelled same) ∙ value,
      )

  read_none : (FitsDec asked → ⊥) → IsDecText text × (FitsDec (text_value text) → ⊥)
  read_none h =
      let none : FitsDec (decimal_value (signed negative n) (x -ℤ pos (length fraction))) → ⊥ = subst (λ y. FitsDec (decimal_value (signed negative n) (y -ℤ pos (length fraction))) → ⊥) plain h in (
        is_text,
        subst (λ v. FitsDec v → ⊥) value (not_dec _ _ (decimal_is _ _)
            (capped_none negative n (length whole + length fraction) (length fraction) x (exponent_value exponent)
            (digits_small whole fraction dw df) few few_after e.1 (no_dec _ _ (decimal_is _ _) none))),
      )

pub returns-in-Some-dec_of_digits : goal.returns-in-Some-dec_of_digits
returns-in-Some-dec_of_digits c =
    let p = parts_of c.args.text.now _ _ _ _ c.without_sign-body.ensures c.mark_place-mark.ensures.place
    c.point_place-point.ensures.place c.mark_place-mark.ensures.within c.point_place-point.ensures.within
    c.after_place-fraction.ensures in
    read_some _ _ _ _ _ _ p c.has_minus.ensures (omega arith) (search rules) (search rules) (omega arith) c.in-Some.ensures c.in-Some-dec_of_digits.number c.in-Some-dec_of_digits.ensures

pub returns-in-None : goal.returns-in-None
returns-in-None c =
    let p = parts_of c.args.text.now _ _ _ _ c.without_sign-body.ensures c.mark_place-mark.ensures.place
    c.point_place-point.ensures.place c.mark_place-mark.ensures.within c.point_place-point.ensures.within
    c.after_place-fraction.ensures in
    read_none _ _ _ _ _ _ p c.has_minus.ensures (omega arith) (search rules) (search rules) (omega arith) c.in-Some.ensures c.in-None.ensures

pub returns-in_default : goal.returns-in_default
returns-in_default c = grind (arith, common_steps)
