use Rattle.std.proofs.Common.{◌∙◌, ap, subst, sym, arith}
use Rattle.text_base.specs.Cut.{IsTextLine}
use Rattle.text_base.specs.Lines.{trimmed}
use Rattle.text_base.proofs.LineLemmas.{trimmed-text_line}
use Rattle.text_base.proofs.lines.Lines.line.Goals as goal

pub returns-clause-one : goal.returns-clause-one
returns-clause-one c =
    subst IsTextLine (sym (c.trim.ensures ∙ ap trimmed c.deref.ensures.value)) (trimmed-text_line c.self.inside.line.items (c.self.invariant.no_end, omega (arith, c.self.invariant.line)))
