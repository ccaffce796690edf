use Rattle.std.proofs.Common.{List, ℕ, arith, subst, sym}
use Rattle.mps_words.specs.InsideFronts.{IsNumberText}
use Rattle.mps_words.proofs.FrontWords.{number_text}
use Rattle.mps_words.proofs.front_words.first_number.Goals as goal

pub returns : goal.returns
returns c =
    let number = c.in-Some.ensures in
    subst (λ (rest : List ℕ). IsNumberText c.args.text.now c.in-Some.number.value rest) (sym c.split_at.ensures.back)
    (number_text c.args.text.now c.in-Some.number.len c.in-Some.number.value (omega (arith, c.if-number-text.false)) c.if-text-number-ne10.false number.1 number.2 number.3 number.4)
