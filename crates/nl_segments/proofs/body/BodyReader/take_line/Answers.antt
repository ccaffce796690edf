use Rattle.std.proofs.Common.{◌≡◌, ◌∙◌, not, sym, ap, refl, subst}
use Rattle.text_base.specs.Words.{row_of, texts, without_comment}
use Rattle.nl_segments.specs.Held.{TakesRow, body_of, IsHeld}
use Rattle.nl_segments.proofs.StandingLemmas.{row_holds_words, no_row, some_row}
use Rattle.nl_segments.proofs.body.BodyReader.take_line.Goals as goal

pub returns-then-is_empty : goal.returns-then-is_empty
returns-then-is_empty c =
    no_row (λ s. IsHeld s (body_of c.args.self.now)) c.args.line.now c.args.number
    (row_holds_words c.args.line.now c.strip_comment-text.result.now c.words.result.now c.strip_comment-text.ensures
    (c.words.ensures ∙ c.of-row.ensures) ∙ ap not (sym c.is_empty.ensures ∙ c.if-is_empty.true))

pub take-requires-clause-exists : goal.take-requires-clause-exists
take-requires-clause-exists c = (record { line = c.args.number; text = c.strip_comment-text.result.now }, record { same_words = sym (c.words-2.ensures ∙ c.of-row.ensures); same_line = refl })

pub returns : goal.returns
returns c =
    let words : texts c.words-2.result.now ≡ row_of (without_comment c.args.line.now) = c.words-2.ensures ∙ c.of-row.ensures ∙ ap row_of c.strip_comment-text.ensures in
    some_row (body_of c.args.self.now) (body_of c.take.new.self) c.args.line.now c.args.number c.take.result
    (row_holds_words c.args.line.now c.strip_comment-text.result.now c.words.result.now c.strip_comment-text.ensures
    (c.words.ensures ∙ c.of-row.ensures) ∙ ap not (sym c.is_empty.ensures ∙ c.if-is_empty.false))
    (subst (λ ws. TakesRow (body_of c.args.self.now) ws c.args.number c.take.result (body_of c.take.new.self)) words c.take.ensures)
