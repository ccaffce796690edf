use Rattle.std.proofs.Common.{◌≡◌, ◌∙◌, ◌*◌, ◌+◌, ◌^◌, ◌≤◌, List, ℕ, arith, refl, ap, subst, length, take, drop, fold}
use Rattle.std.proofs.lemmas.List.{length-drop}
use Rattle.mps_words.specs.InsideCodes.{with_byte}
use Rattle.mps_words.proofs.CodeLemmas.{are_bytes}
use Rattle.mps_words.proofs.ShortNames.{both_heads, head_begins, head_name}
use Rattle.mps_words.proofs.codes.first_wide.Goals as goal

pub returns : goal.returns
returns c =
    let text = c.args.text.now in
    let bytes = are_bytes text c.type_inv.text in
    let tail : c.in-Some.tail ≡ fold with_byte 0 (take 8 (drop 8 text)) = c.in-Some.ensures.value ∙ ap (λ (bs : List ℕ). fold with_byte 0 (take 8 bs)) c.split_at.ensures.back in
    let more : 8 ≤ length (drop 8 text) = subst (λ (bs : List ℕ). 8 ≤ length bs) c.split_at.ensures.back c.in-Some.ensures.long in
    let long : 16 ≤ length text = omega (arith, more, length-drop 8 text) in
    let both = both_heads text c.args.head c.in-Some.tail more c.requires.value tail in
    let first = head_begins text c.args.head bytes (omega (arith, long)) c.requires.value c.requires.first in
    head_name 16 text c.split_at-2.result.1.now (c.args.head * 2 ^ 64 + c.in-Some.tail) (8 + c.size_before-count.result) c.args.end _
    bytes long (omega arith) both
    (omega arith) (omega arith) first (omega arith) (omega arith) c.split_at-2.ensures.back refl
