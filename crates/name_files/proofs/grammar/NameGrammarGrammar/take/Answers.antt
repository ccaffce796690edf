use Rattle.std.proofs.Common.{◌∙◌, sym}
use Rattle.name_files.specs.Names.{standing}
use Rattle.name_files.proofs.GrammarLemmas.{no_words, standing-same, left_out, line_done}
use Rattle.name_files.proofs.grammar.NameGrammarGrammar.take.Goals as goal

pub returns-then-is_empty-clause-taken : goal.returns-then-is_empty-clause-taken
returns-then-is_empty-clause-taken c = λ lines e h. h ∙ sym
    (standing-same c.args.self.now.counts lines c.args.line.now
    (sym (no_words c.args.line.now c.words-words.result.now (c.words-words.ensures ∙ c.of-row.ensures))
    ∙ sym c.if-is_empty.ensures))

pub returns-then-is_empty-clause-fine : goal.returns-then-is_empty-clause-fine
returns-then-is_empty-clause-fine c = λ lines e h. left_out c.args.self.now.counts
    (standing c.args.self.now.counts lines) c.args.line.now (sym
    (no_words c.args.line.now c.words-words.result.now (c.words-words.ensures ∙ c.of-row.ensures))
    ∙ sym c.if-is_empty.ensures)

pub returns-clause-taken : goal.returns-clause-taken
returns-clause-taken c = (line_done c.args.self.now.counts c.take_words.new.self.counts c.args.self.now.standing
    c.take_words.new.self.standing c.args.line.now _ c.args._number c.take_words.result
    (sym (no_words c.args.line.now c.words-words.result.now (c.words-words.ensures ∙ c.of-row.ensures))
    ∙ sym c.if-is_empty.ensures) (c.words-words.ensures ∙ c.of-row.ensures) c.take_words.ensures.counts
    c.take_words.ensures.takes).0

pub returns-clause-fine : goal.returns-clause-fine
returns-clause-fine c = (line_done c.args.self.now.counts c.take_words.new.self.counts c.args.self.now.standing
    c.take_words.new.self.standing c.args.line.now _ c.args._number c.take_words.result
    (sym (no_words c.args.line.now c.words-words.result.now (c.words-words.ensures ∙ c.of-row.ensures))
    ∙ sym c.if-is_empty.ensures) (c.words-words.ensures ∙ c.of-row.ensures) c.take_words.ensures.counts
    c.take_words.ensures.takes).1

pub returns-clause-fault : goal.returns-clause-fault
returns-clause-fault c = (line_done c.args.self.now.counts c.take_words.new.self.counts c.args.self.now.standing
    c.take_words.new.self.standing c.args.line.now _ c.args._number c.take_words.result
    (sym (no_words c.args.line.now c.words-words.result.now (c.words-words.ensures ∙ c.of-row.ensures))
    ∙ sym c.if-is_empty.ensures) (c.words-words.ensures ∙ c.of-row.ensures) c.take_words.ensures.counts
    c.take_words.ensures.takes).2
