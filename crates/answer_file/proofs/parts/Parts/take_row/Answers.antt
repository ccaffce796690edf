use Rattle.std.proofs.Common.{◌∙◌, List, ℕ, Some, None, Err, sym, ap, subst, refl}
use Rattle.text_base.specs.Judged.{Takes}
use Rattle.text_base.specs.declared.stop.Stop.TheVariants.{Fault}
use Rattle.answer_file.specs.declared.fault.AnswerReason.TheVariants.{BadLine}
use Rattle.answer_file.specs.declared.keyword.Keyword.TheVariants.{Status, Message, Sign, Objno, Col, Row, Suffix}
use Rattle.answer_file.specs.Entries.{MessageLine}
use Rattle.answer_file.specs.Grammar.{message_tests}
use Rattle.answer_file.specs.Steps.{with_entry}
use Rattle.answer_file.proofs.PartLemmas.{row-taken}
use Rattle.answer_file.proofs.parts.Parts.take_row.Goals as goal

pub returns-in-Some-Status : goal.returns-in-Some-Status
returns-in-Some-Status c = row-taken c.args.scope.now c.args.self.now c.take_status.new.self c.args.line.now _ _
    (Some Status) c.take_status.result c.requires c.word_at.ensures
    (sym c.in-Some-Status.ensures ∙ ap Some c.in-Some-Status.field-0-is) c.take_status.ensures

pub returns-in-Some-Sign : goal.returns-in-Some-Sign
returns-in-Some-Sign c = row-taken c.args.scope.now c.args.self.now c.take_sign.new.self c.args.line.now _ _ (Some Sign)
    c.take_sign.result c.requires c.word_at.ensures (sym c.in-Some-Sign.ensures ∙ ap Some c.in-Some-Sign.field-0-is)
    c.take_sign.ensures

pub returns-in-Some-Objno : goal.returns-in-Some-Objno
returns-in-Some-Objno c = row-taken c.args.scope.now c.args.self.now c.take_objective.new.self c.args.line.now _ _
    (Some Objno) c.take_objective.result c.requires c.word_at.ensures
    (sym c.in-Some-Objno.ensures ∙ ap Some c.in-Some-Objno.field-0-is) c.take_objective.ensures

pub returns-in-Some-Col : goal.returns-in-Some-Col
returns-in-Some-Col c = row-taken c.args.scope.now c.args.self.now c.take_column.new.self c.args.line.now _ _ (Some Col)
    c.take_column.result c.requires c.word_at.ensures (sym c.in-Some-Col.ensures ∙ ap Some c.in-Some-Col.field-0-is)
    c.take_column.ensures

pub returns-in-Some-Row : goal.returns-in-Some-Row
returns-in-Some-Row c = row-taken c.args.scope.now c.args.self.now c.take_row_value.new.self c.args.line.now _ _
    (Some Row) c.take_row_value.result c.requires c.word_at.ensures
    (sym c.in-Some-Row.ensures ∙ ap Some c.in-Some-Row.field-0-is) c.take_row_value.ensures

pub returns-in-Some-Suffix : goal.returns-in-Some-Suffix
returns-in-Some-Suffix c = row-taken c.args.scope.now c.args.self.now c.take_suffix.new.self c.args.line.now _ _
    (Some Suffix) c.take_suffix.result c.requires c.word_at.ensures
    (sym c.in-Some-Suffix.ensures ∙ ap Some c.in-Some-Suffix.field-0-is) c.take_suffix.ensures

pub returns-in-Some-Message : goal.returns-in-Some-Message
returns-in-Some-Message c =
    row-taken c.args.scope.now c.args.self.now c.take_message.new.self c.args.line.now _ _ (Some Message)
    c.take_message.result c.requires c.word_at.ensures (sym c.in-Some-Message.ensures
    ∙ ap Some c.in-Some-Message.field-0-is)
    (subst (λ (text : List ℕ). Takes (message_tests c.args.self.now text)
    (with_entry c.args.self.now (MessageLine text)) c.take_message.result c.take_message.new.self)
    c.message_in.ensures c.take_message.ensures)

pub returns-in-None : goal.returns-in-None
returns-in-None c = row-taken c.args.scope.now c.args.self.now c.args.self.now c.args.line.now _ _ None (Err (Fault BadLine)) c.requires c.word_at.ensures (sym c.in-None.ensures) refl
