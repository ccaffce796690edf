use Rattle.std.proofs.Common.{◌≡◌, ◌∙◌, sym, ap, subst, Some, None}
use Rattle.text_base.specs.Judged.{first_reason}
use Rattle.text_base.specs.Words.{texts}
use Rattle.nl_segments.specs.InsideHeadSteps.{held_head_tests}
use Rattle.nl_lines.specs.Heads.{head_of}
use Rattle.nl_lines.specs.Tests.{head_form_tests}
use Rattle.nl_segments.proofs.HeadLaw.{form_fault, form_fine}
use Rattle.nl_segments.proofs.body_heads.new_head.Goals as goal

pub returns-in-Err : goal.returns-in-Err
returns-in-Err c =
    form_fault c.args.builder.now.counts c.args.is_open c.args.seen.now c.args.builder.now.suffixes c.args.suffixes (texts c.args.words.now) _ c.if-is_open.false
    (subst (λ k. first_reason (head_form_tests k (texts c.args.words.now)) ≡ Some c.in-Err.reason) (c.counts.ensures.value ∙ c.header.ensures.counts) c.in-Err.ensures)

pub returns-in-Ok-judge : goal.returns-in-Ok-judge
returns-in-Ok-judge c =
    let is = subst (λ k. head_of k (texts c.args.words.now) ≡ Some c.in-Ok.head) (c.counts.ensures.value ∙ c.header.ensures.counts) c.in-Ok.ensures.1 in (
      form_fine c.args.builder.now.counts c.args.is_open c.args.seen.now c.args.builder.now.suffixes c.args.suffixes (texts c.args.words.now) c.in-Ok.head c.if-is_open.false
          (subst (λ k. first_reason (head_form_tests k (texts c.args.words.now)) ≡ None) (c.counts.ensures.value ∙ c.header.ensures.counts) c.in-Ok.ensures.0)
          is
          ∙ ap (λ name. first_reason (held_head_tests c.args.builder.now.counts c.args.seen.now c.args.builder.now.suffixes c.args.suffixes name c.in-Ok.head)) (sym c.word_at.ensures)
          ∙ c.in-Ok-judge.ensures.0,
      is,
    )

pub returns-in-Err-judge : goal.returns-in-Err-judge
returns-in-Err-judge c =
    form_fine c.args.builder.now.counts c.args.is_open c.args.seen.now c.args.builder.now.suffixes c.args.suffixes (texts c.args.words.now) c.in-Ok.head c.if-is_open.false
    (subst (λ k. first_reason (head_form_tests k (texts c.args.words.now)) ≡ None) (c.counts.ensures.value ∙ c.header.ensures.counts) c.in-Ok.ensures.0)
    (subst (λ k. head_of k (texts c.args.words.now) ≡ Some c.in-Ok.head) (c.counts.ensures.value ∙ c.header.ensures.counts) c.in-Ok.ensures.1)
    ∙ ap (λ name. first_reason (held_head_tests c.args.builder.now.counts c.args.seen.now c.args.builder.now.suffixes c.args.suffixes name c.in-Ok.head)) (sym c.word_at.ensures)
    ∙ c.in-Err-judge.ensures
