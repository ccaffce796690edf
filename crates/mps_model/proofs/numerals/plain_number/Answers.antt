use Rattle.std.proofs.Common.{subst, sym}
use Rattle.mps_model.proofs.NumeralLemmas.{zeros_in_front, is_number, one_zero, IsNumber}
use Rattle.mps_model.proofs.numerals.plain_number.Goals as goal
use Rattle.mps_model.proofs.numerals.plain_number.Goals.{else-digits-gt1-via-then-digits-gt1+else-digits-eq48, else-digits-gt1-via-else-digits-gt1}

pub returns-then-digits-eq48 : goal.returns-then-digits-eq48
returns-then-digits-eq48 c = zeros_in_front c.args.digits.now c.if-digits-gt1.true c.if-digits-eq48.true

pub returns : goal.returns
returns c =
    let digits = c.args.digits.now in
    subst (IsNumber digits) (sym c.whole_of.ensures)
    (is_number digits (λ zero.
    elim c.else-digits-gt1.branch [
      | else-digits-gt1-via-then-digits-gt1+else-digits-eq48 w ↦ absurd (w.if-digits-eq48.false zero)
      | else-digits-gt1-via-else-digits-gt1 w ↦ one_zero digits w.if-digits-gt1.false zero
    ]))
