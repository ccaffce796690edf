use Rattle.std.proofs.Common.{sym, subst}
use Rattle.std.specs.Prelude.{FitsSigned}
use mir.Syntax.{w128}
use Rattle.exact_numbers.proofs.NumberLemmas.{signed_utf8}
use Rattle.exact_numbers.proofs.Wide.{wide_least, wide_no_number, wide_no_text, wide_some}
use Rattle.exact_numbers.proofs.fraction_words.wide_of.Goals as goal

pub returns-in_default : goal.returns-in_default
returns-in_default c = wide_no_text _ (λ is. c.in_default.ensures.cases.0 (signed_utf8 _ is.1))

pub returns-in_default-from_str_radix : goal.returns-in_default-from_str_radix
returns-in_default-from_str_radix c = wide_no_number _ _ c.in-Ok.ensures.cases.0 c.in_default-from_str_radix.ensures.value

pub returns-then-number : goal.returns-then-number
returns-then-number c =
    let read = c.in-Ok-from_str_radix.ensures.value in
    wide_least _ _ c.in-Ok-from_str_radix.number c.in-Ok.ensures.cases.0 (subst (FitsSigned w128) (sym read.1) read.0.1) read.1 c.if-number.true

pub returns : goal.returns
returns c =
    let read = c.in-Ok-from_str_radix.ensures.value in
    wide_some _ _ c.in-Ok-from_str_radix.number c.in-Ok.ensures.cases.0 read.0 read.1 c.if-number.false
