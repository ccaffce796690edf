use Rattle.std.proofs.Common.{◌++◌}
use Rattle.text_base.proofs.ReadingLemmas.{so_far-append, so_far-whole}
use Rattle.text_base.proofs.laws.fault_stays.Goals as goal

pub returns-clause-so_far : goal.returns-clause-so_far
returns-clause-so_far g c = λ rules text more fault h. so_far-append rules text more fault h

pub returns-clause-whole : goal.returns-clause-whole
returns-clause-whole g c = λ rules text more fault h. so_far-whole rules (text ++ more) fault (so_far-append rules text more fault h)
