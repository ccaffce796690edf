use Rattle.std.proofs.Common.{sym, ◌∙◌, ◌≡◌, ◌<◌, ◌≤◌, ◌+◌, ◌-◌, ◌*◌, ◌^◌, ℕ, Bool, true, min, get_or, arith, subst, List, length, refl}
use Rattle.std.proofs.lemmas.Int.Digits.{digits_more}
use Rattle.std.specs.Char.{digit_value, is_ascii_digit}
use Rattle.exact_numbers.proofs.Texts.{digit_from, digit_byte, after_more}
use Rattle.exact_numbers.proofs.Tens.{room_for_one, room_left}
use Rattle.exact_numbers.proofs.front.sum_front.Goals as goal

pub digits-init : goal.digits-init
digits-init c = record {
  within = omega arith;
  few = omega arith;
  small = subst (λ k. (c.args.start + 1) * 10 ^ k ≤ 10 ^ 18) (omega arith) c.requires;
  digits = tt;
  number = refl;
}

-- the digit at the place, and that there is room for it
record Digit (text : List ℕ) (i number most : ℕ) : Type 0 where
  within : i < length text
  more : i < most
  digit : digit_value (get_or text i 0) < 10
  byte : (48 ≤ get_or text i 0) × (get_or text i 0 ≤ 57) × (digit_value (get_or text i 0) ≡ get_or text i 0 - 48)
  room : (number + 1) * 10 ≤ 10 ^ 18

digit_here : (text : List ℕ) (i number most end : ℕ) (t : Bool) → end ≡ min (length text) most → i < end
    → t ≡ is_ascii_digit (get_or text i 0) → t ≡ true → (number + 1) * 10 ^ (most - i) ≤ 10 ^ 18
    → Digit text i number most
digit_here text i number most end t is more value ascii room =
    let digit = digit_from (get_or text i 0) (sym ascii ∙ value) in
    let few : i < most = omega (arith, is) in
    record {
      within = omega (arith, is);
      more = few;
      digit = digit;
      byte = digit_byte (get_or text i 0) digit;
      room = room_for_one number i most (10 ^ 18) few room;
    }

pub overflow_mul-number : goal.overflow_mul-number
overflow_mul-number c =
    omega (
      arith,
      (digit_here c.args.text.now c.digits.len c.digits.number c.args.most _ _ c.min-end.ensures
          c.digits-test.true c.is_ascii_digit.ensures.value c.if-not-is_ascii_digit.false
          c.digits.invariant.small).room,
    )

pub overflow_add-number : goal.overflow_add-number
overflow_add-number c =
    let d = digit_here c.args.text.now c.digits.len c.digits.number c.args.most _ _ c.min-end.ensures c.digits-test.true
    c.is_ascii_digit.ensures.value c.if-not-is_ascii_digit.false c.digits.invariant.small in
    omega (arith, d.room, d.byte)

pub digits-preserved : goal.digits-preserved
digits-preserved c =
    let i = c.digits.len in
    let d = digit_here c.args.text.now i c.digits.number c.args.most _ _ c.min-end.ensures c.digits-test.true c.is_ascii_digit.ensures.value c.if-not-is_ascii_digit.false c.digits.invariant.small in
    record {
      within = omega (arith, d.within);
      few = omega (arith, d.more);
      small = room_left c.digits.number (get_or c.args.text.now i 0 - 48) i c.args.most (10 ^ 18) (omega (arith, d.byte)) d.more c.digits.invariant.small;
      digits = digits_more _ _ _ d.within c.digits.invariant.digits d.digit;
      number = omega (arith, d.byte, c.digits.invariant.number, after_more c.args.start c.args.text.now i d.within);
    }
