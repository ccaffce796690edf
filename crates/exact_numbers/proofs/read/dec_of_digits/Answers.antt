use Rattle.std.proofs.Common.{arith, List, get_or, ◌≡◌, ◌≢◌, ℕ, ℤ, pos, ◌+◌, ◌-◌, ◌*◌, ◌<◌, ◌≤◌, ◌^◌, ◌++◌, ◌-ℤ◌, ◌+ℤ◌}
use Rattle.std.proofs.Common.{length, take, subst, sym, ap, ◌∙◌, le_trans, to_z-of_z, to_z, of_z, w32, zero-mul}
use Rattle.std.specs.Int.{w128}
use Rattle.std.proofs.lemmas.Int.{ints}
use Rattle.std.specs.Str.Parse.{AllDigits, digits_value, digits_value_after}
use Rattle.exact_numbers.proofs.Pairs.{scaled, HasDec, SameValue}
use Rattle.exact_numbers.specs.Decimal.{signed}
use Rattle.exact_numbers.proofs.Decimals.{only_signed, signed_moved, zero_same, abs_is}
use Rattle.exact_numbers.proofs.Texts.{Kept, kept_number, kept-value, kept-shortest, digits-take, after-ge}
use Rattle.exact_numbers.proofs.Bridge.{not_dec, same_dec_value, decimal_is, match_dec}
use Rattle.exact_numbers.proofs.read.dec_of_digits.Goals as goal
use Rattle.exact_numbers.proofs.read.dec_of_digits.Goals.{then-place-ltminus1000-via-then-place-ltminus1000, then-place-ltminus1000-via-else-place-ltminus1000+then-place-gt1000}

lt_or_le : (n : ℕ) → (n < 2 ^ 127 → ⊥) → 2 ^ 127 ≤ n
lt_or_le n h = omega arith

pub with_digits-requires-clause-digits : goal.with_digits-requires-clause-digits
with_digits-requires-clause-digits c = digits-take c.args.whole.now _ c.requires.whole

pub with_digits-requires-2-clause-digits : goal.with_digits-requires-2-clause-digits
with_digits-requires-2-clause-digits c = digits-take c.args.fraction.now _ c.requires.fraction

-- a number that is not within the greatest size fits no Dec
too_wide : (b : _) (whole fraction : _) (w f : ℕ) (e : ℤ) → AllDigits 10 whole → AllDigits 10 fraction
    → Kept whole fraction w f → 2 ^ 127 ≤ kept_number whole fraction w f
    → HasDec (scaled (signed b (digits_value 10 (whole ++ fraction))) e) → ⊥
too_wide b whole fraction w f e dw df k wide fits =
    let some : kept_number whole fraction w f ≢ 0 = λ z. omega (arith, z) in
    let only = only_signed b _ _ _ e (kept-value whole fraction w f k) (kept-shortest whole fraction w f dw df k some) fits in
    omega (arith, only.0)

-- what is kept, as the two calls ensure it
kept_of : (whole fraction : List ℕ) (w f : ℕ) → f ≤ length fraction → ((k : ℕ) → f ≤ k → k < length fraction → get_or fraction k 0 ≡ 48) → (0 < f → get_or fraction (f - 1) 0 ≢ 48)
    → w ≤ length whole → ((k : ℕ) → w ≤ k → k < length whole → get_or whole k 0 ≡ 48) → (f ≡ 0 → 0 < w → get_or whole (w - 1) 0 ≢ 48) → (0 < f → w ≡ length whole) → Kept whole fraction w f
kept_of whole fraction w f a b d e g h i = record {
  within = a;
  zeros = b;
  shortest = d;
  whole_within = e;
  whole_zeros = g;
  whole_shortest = h;
  all_whole = i;
}

size_of_kept : (whole fraction : List ℕ) (w f front size : ℕ) → front ≡ digits_value_after 10 0 (take w whole)
    → size ≡ digits_value_after 10 front (take f fraction) → size ≡ kept_number whole fraction w f
size_of_kept whole fraction w f front size first second = second ∙ ap (λ n. digits_value_after 10 n (take f fraction)) first

pub returns-in_default : goal.returns-in_default
returns-in_default c = not_dec _ _ (decimal_is _ _) (λ fits.
    let after = c.kept_length-fraction_kept.ensures in
    let before = c.kept_before-whole_kept.ensures in
    let k = kept_of _ _ _ _ after.within after.zeros after.shortest before.within before.zeros before.shortest before.all in
    let n = digits_value_after 10 0 (take c.kept_before-whole_kept.result c.args.whole.now) in
    too_wide c.args.negative c.args.whole.now c.args.fraction.now _ _ _ c.requires.whole c.requires.fraction k
    (le_trans (lt_or_le n c.in_default.ensures) (after-ge n
    (take c.kept_length-fraction_kept.result c.args.fraction.now))) fits)

pub returns-in_default-with_digits : goal.returns-in_default-with_digits
returns-in_default-with_digits c = not_dec _ _ (decimal_is _ _) (λ fits.
    let after = c.kept_length-fraction_kept.ensures in
    let before = c.kept_before-whole_kept.ensures in
    let k = kept_of _ _ _ _ after.within after.zeros after.shortest before.within before.zeros before.shortest before.all in
    let f = c.kept_length-fraction_kept.result in
    let front = c.in-Some.ensures.1 in
    let wide = lt_or_le (digits_value_after 10 c.in-Some.front (take f c.args.fraction.now)) c.in_default-with_digits.ensures in
    too_wide c.args.negative c.args.whole.now c.args.fraction.now _ _ _ c.requires.whole c.requires.fraction k
    (subst (λ n. 2 ^ 127 ≤ digits_value_after 10 n (take f c.args.fraction.now)) front wide) fits)

pub returns-then-size-eq0 : goal.returns-then-size-eq0
returns-then-size-eq0 c =
    let after = c.kept_length-fraction_kept.ensures in
    let before = c.kept_before-whole_kept.ensures in
    let k = kept_of _ _ _ _ after.within after.zeros after.shortest before.within before.zeros before.shortest before.all in
    let size = size_of_kept c.args.whole.now c.args.fraction.now _ _ _ _ c.in-Some.ensures.1 c.in-Some-with_digits.ensures.1 in
    let none : digits_value 10 (c.args.whole.now ++ c.args.fraction.now) ≡ 0 =
    kept-value _ _ _ _ k ∙ ap (λ n. n * 10 ^ (length c.args.fraction.now - c.kept_length-fraction_kept.result
    + (length c.args.whole.now - c.kept_before-whole_kept.result))) (sym size ∙ c.if-size-eq0.true)
    ∙ zero-mul _ in
    let e = c.args.exponent -ℤ pos (length c.args.fraction.now) in
    let n = digits_value 10 (c.args.whole.now ++ c.args.fraction.now) in
    match_dec c.new.result _ _ (same_dec_value (pos 0) (pos 0) _ _ (decimal_is (signed c.args.negative n) e) (zero_same c.args.negative n e none)) c.new.ensures

pub returns-then-place-ltminus1000 : goal.returns-then-place-ltminus1000
returns-then-place-ltminus1000 c = not_dec _ _ (decimal_is _ _) (λ fits.
    let after = c.kept_length-fraction_kept.ensures in
    let before = c.kept_before-whole_kept.ensures in
    let k = kept_of _ _ _ _ after.within after.zeros after.shortest before.within before.zeros before.shortest before.all in
    let size = size_of_kept c.args.whole.now c.args.fraction.now _ _ _ _ c.in-Some.ensures.1 c.in-Some-with_digits.ensures.1 in
    let some : kept_number c.args.whole.now c.args.fraction.now c.kept_before-whole_kept.result c.kept_length-fraction_kept.result ≢ 0 = λ z. c.if-size-eq0.false (size ∙ z) in
    let z = length c.args.fraction.now - c.kept_length-fraction_kept.result + (length c.args.whole.now - c.kept_before-whole_kept.result) in
    let e = c.args.exponent -ℤ pos (length c.args.fraction.now) in
    let only = only_signed c.args.negative _ _ _ e (kept-value _ _ _ _ k) (kept-shortest _ _ _ _ c.requires.whole c.requires.fraction k some) fits in
    let near = abs_is (e +ℤ pos z) in
    elim c.then-place-ltminus1000.branch [
      | then-place-ltminus1000-via-then-place-ltminus1000 w ↦ omega (arith, ints, only.1, k.within, k.whole_within)
      | then-place-ltminus1000-via-else-place-ltminus1000+then-place-gt1000 w ↦ omega (arith, ints, only.1, k.within, k.whole_within)
    ])

pub returns : goal.returns
returns c =
    let after = c.kept_length-fraction_kept.ensures in
    let before = c.kept_before-whole_kept.ensures in
    let k = kept_of _ _ _ _ after.within after.zeros after.shortest before.within before.zeros before.shortest before.all in
    let size = size_of_kept c.args.whole.now c.args.fraction.now _ _ _ _ c.in-Some.ensures.1 c.in-Some-with_digits.ensures.1 in
    let z = length c.args.fraction.now - c.kept_length-fraction_kept.result + (length c.args.whole.now - c.kept_before-whole_kept.result) in
    let e = c.args.exponent -ℤ pos (length c.args.fraction.now) in
    let n = digits_value 10 (c.args.whole.now ++ c.args.fraction.now) in
    let m = to_z w128 (of_z w128 c.with_sign.result) in
    let f = to_z w32 (of_z w32 (to_z w128 (of_z w128 (to_z w128
    (of_z w128 (to_z w128 (of_z w128 c.args.exponent) -ℤ to_z w128 c.kept_length-fraction_kept.result))
    +ℤ to_z w128 (length c.args.whole.now - c.kept_before-whole_kept.result))))) in
    let sign : m ≡ signed c.args.negative (kept_number c.args.whole.now c.args.fraction.now c.kept_before-whole_kept.result c.kept_length-fraction_kept.result) =
    to_z-of_z {w = w128} (record { sfits = c.with_sign.type_inv }) ∙ c.with_sign.ensures ∙ ap (signed c.args.negative) size in
    let place : f ≡ e +ℤ pos z = omega (arith, ints, k.within, k.whole_within) in
    let value : SameValue (scaled m f) (scaled (signed c.args.negative n) e) =
    subst (λ x. SameValue (scaled x f) (scaled (signed c.args.negative n) e)) (sym sign) (signed_moved c.args.negative _ n z e f (kept-value _ _ _ _ k) place) in
    match_dec c.new-2.result _ _ (same_dec_value m f _ _ (decimal_is (signed c.args.negative n) e) value) c.new-2.ensures
