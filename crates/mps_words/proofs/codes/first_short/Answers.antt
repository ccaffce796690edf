use Rattle.std.proofs.Common.{arith, refl}
use Rattle.mps_words.proofs.CodeLemmas.{are_bytes}
use Rattle.mps_words.proofs.ShortNames.{head_begins, head_name}
use Rattle.mps_words.proofs.codes.first_short.Goals as goal

pub returns : goal.returns
returns c =
    let bytes = are_bytes c.args.text.now c.type_inv.text in
    let first = head_begins c.args.text.now c.in-Some.head bytes c.in-Some.ensures.long c.in-Some.ensures.value (omega arith) in
    head_name 8 c.args.text.now c.split_at.result.1.now c.in-Some.head c.size_before-size.result c.args.end _
    bytes c.in-Some.ensures.long (omega arith) c.in-Some.ensures.value
    (omega arith) (omega arith) first (omega arith) (omega arith) c.split_at.ensures.back refl
