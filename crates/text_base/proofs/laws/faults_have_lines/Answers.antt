use Rattle.std.proofs.Common.{◌++◌}
use Rattle.text_base.proofs.ReadingLemmas.{so_far-append, so_far-whole}
use Rattle.text_base.proofs.JudgedLemmas.{fault_line}
use Rattle.text_base.specs.Reading.{lines_of, last_of}
use Rattle.text_base.proofs.laws.faults_have_lines.Goals as goal

pub returns-clause-whole : goal.returns-clause-whole
returns-clause-whole g c = λ rules text fault h. fault_line rules (lines_of text) (last_of text) fault.line fault.reason h

pub returns-clause-so_far : goal.returns-clause-so_far
returns-clause-so_far g c = λ rules text more fault h.
    fault_line rules (lines_of (text ++ more)) (last_of (text ++ more)) fault.line fault.reason (so_far-whole rules (text ++ more) fault (so_far-append rules text more fault h))
