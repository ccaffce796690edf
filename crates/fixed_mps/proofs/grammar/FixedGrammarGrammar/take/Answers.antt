use Rattle.std.proofs.Common.{◌∙◌, sym, subst}
use Rattle.text_base.specs.Cut.{IsTextLine}
use Rattle.fixed_mps.proofs.FreeLines.{text_line}
use Rattle.fixed_mps.proofs.GrammarLemmas.{same_line, data_line, line_taken, line_fine, line_fault}
use Rattle.fixed_mps.proofs.grammar.FixedGrammarGrammar.take.Goals as goal

pub returns-then-is_as_it_is-clause-taken : goal.returns-then-is_as_it_is-clause-taken
returns-then-is_as_it_is-clause-taken c = line_taken c.self.inside.grammar c.args.self.now c.take.new.self
    c.args.line.now c.args.line.now c.args.number c.take.result c.self.view_is
    (same_line c.args.line.now (sym c.if-is_as_it_is.ensures)) c.take.ensures.taken

pub returns-then-is_as_it_is-clause-fine : goal.returns-then-is_as_it_is-clause-fine
returns-then-is_as_it_is-clause-fine c = line_fine c.self.inside.grammar c.args.self.now c.args.line.now c.args.line.now
    c.args.number c.take.result c.self.view_is (same_line c.args.line.now (sym c.if-is_as_it_is.ensures))
    c.take.ensures.fine

pub returns-then-is_as_it_is-clause-fault : goal.returns-then-is_as_it_is-clause-fault
returns-then-is_as_it_is-clause-fault c = line_fault c.self.inside.grammar c.args.self.now c.args.line.now
    c.args.line.now c.args.number c.take.result c.self.view_is (same_line c.args.line.now (sym c.if-is_as_it_is.ensures))
    c.take.ensures.fault

pub returns-clause-taken : goal.returns-clause-taken
returns-clause-taken c = line_taken c.self.inside.grammar c.args.self.now c.take-2.new.self c.args.line.now _
    c.args.number c.take-2.result c.self.view_is (data_line c.args.line.now _ (sym c.if-is_as_it_is.ensures)
    (c.deref.ensures.value ∙ c.in_ok-make_free.ensures)) c.take-2.ensures.taken

pub returns-clause-fine : goal.returns-clause-fine
returns-clause-fine c = line_fine c.self.inside.grammar c.args.self.now c.args.line.now _ c.args.number c.take-2.result
    c.self.view_is (data_line c.args.line.now _ (sym c.if-is_as_it_is.ensures)
    (c.deref.ensures.value ∙ c.in_ok-make_free.ensures)) c.take-2.ensures.fine

pub returns-clause-fault : goal.returns-clause-fault
returns-clause-fault c = line_fault c.self.inside.grammar c.args.self.now c.args.line.now _ c.args.number
    c.take-2.result c.self.view_is (data_line c.args.line.now _ (sym c.if-is_as_it_is.ensures)
    (c.deref.ensures.value ∙ c.in_ok-make_free.ensures)) c.take-2.ensures.fault

pub take-requires-2 : goal.take-requires-2
take-requires-2 c = subst IsTextLine (sym (c.deref.ensures.value ∙ c.in_ok-make_free.ensures)) (text_line c.args.line.now (sym c.if-is_as_it_is.ensures) c.requires)
