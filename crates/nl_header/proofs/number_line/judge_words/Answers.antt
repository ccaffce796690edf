use Rattle.nl_header.proofs.HeadLemmas.{words_fault-at, words_fault-on, words_fault-end, next-some, next-small}
use Rattle.nl_header.proofs.number_line.judge_words.Goals as goal

pub returns-in-Err : goal.returns-in-Err
returns-in-Err c =
    words_fault-at _ _ _ _ _ _ _ _ c.words.invariant.4 c.in-Some.ensures.steps c.field_at-field.ensures c.in-Err.ensures

pub words-preserved : goal.words-preserved
words-preserved c = (
  tt,
  tt,
  next-some _ _ c.next_place-place.ensures,
  next-small _ _ c.next_place-place.ensures,
  words_fault-on _ _ _ _ _ _ _ _ c.words.invariant.4 c.in-Some.ensures.steps c.field_at-field.ensures c.in_default-judge_word.ensures c.words.invariant.3 c.next_place-place.ensures,
)

pub returns : goal.returns
returns c = words_fault-end _ _ _ _ c.words.invariant.4 c.in_default.ensures.steps.0
