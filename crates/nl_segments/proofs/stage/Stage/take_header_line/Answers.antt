use Rattle.std.proofs.Common.{◌∙◌, not, ap, sym}
use Rattle.nl_segments.specs.Held.{in_header, body_of, HoldsStanding}
use Rattle.nl_segments.proofs.StandingLemmas.{header_last, header_refused, header_row, no_row, row_holds_words}
use Rattle.nl_segments.proofs.stage.Stage.take_header_line.Goals as goal

pub returns-then-is_empty : goal.returns-then-is_empty
returns-then-is_empty c = rw c.in-Header.is
    (no_row (λ s. HoldsStanding s (in_header c.in-Header.header)) c.args.line.now c.args.number
    (row_holds_words c.args.line.now c.strip_comment-text.result.now c.words.result.now c.strip_comment-text.ensures
    (c.words.ensures ∙ c.of-row.ensures) ∙ ap not (sym c.is_empty.ensures ∙ c.if-is_empty.true)))

pub returns-in-Ok-None : goal.returns-in-Ok-None
returns-in-Ok-None c = rw c.in-Header.is
    (header_row c.in-Header.header c.args.line.now c.args.number
    (row_holds_words c.args.line.now c.strip_comment-text.result.now c.words.result.now c.strip_comment-text.ensures
    (c.words.ensures ∙ c.of-row.ensures) ∙ ap not (sym c.is_empty.ensures ∙ c.if-is_empty.false))
    c.line.new.self (rw (← c.strip_comment-text.ensures) (λ before reading. rw c.in-Ok-None.field-0-is at
    (c.in-Ok-None.ensures.takes before reading))) (rw c.in-Ok-None.field-0-is at c.in-Ok-None.ensures.count).1)

pub returns-in_ok-body-in-Ok-Some : goal.returns-in_ok-body-in-Ok-Some
returns-in_ok-body-in-Ok-Some c = rw c.in-Header.is
    (header_last c.in-Header.header c.args.line.now c.args.number
    (row_holds_words c.args.line.now c.strip_comment-text.result.now c.words.result.now c.strip_comment-text.ensures
    (c.words.ensures ∙ c.of-row.ensures) ∙ ap not (sym c.is_empty.ensures ∙ c.if-is_empty.false))
    c.in-Ok-Some.whole c.line.new.self (body_of c.in_ok-body-in-Ok-Some.body)
    (rw (← c.strip_comment-text.ensures) (λ before reading. rw c.in-Ok-Some.field-0-is at
    (c.in-Ok-Some.ensures.takes before reading))) c.in_ok-body-in-Ok-Some.ensures)

pub returns-in-Err : goal.returns-in-Err
returns-in-Err c = rw (c.in-Header.is, c.reason_of.ensures)
    (header_refused c.in-Header.header c.args.line.now c.args.number
    (row_holds_words c.args.line.now c.strip_comment-text.result.now c.words.result.now c.strip_comment-text.ensures
    (c.words.ensures ∙ c.of-row.ensures) ∙ ap not (sym c.is_empty.ensures ∙ c.if-is_empty.false))
    c.in-Err.fault c.line.new.self (rw (← c.strip_comment-text.ensures) c.in-Err.ensures.takes))
