use Rattle.text_base.proofs.ScanLemmas.{match_some, whole_text, whole_line}
use Rattle.text_base.proofs.LineLemmas.{whole-text_line}
use Rattle.text_base.proofs.lines.Lines.take_whole.Goals as goal

pub returns-clause-one : goal.returns-clause-one
returns-clause-one c = match_some _ _ _ c.take_front.result c.take_front.ensures (λ w h. whole-text_line c.args.self.now c.take_front.new.self c.args.piece.now w.line.now w.len h.0)

pub returns-clause-text : goal.returns-clause-text
returns-clause-text c = match_some _ _ _ c.take_front.result c.take_front.ensures
    (λ w h text stands. whole_text c.args.self.now c.take_front.new.self c.args.piece.now w.line.now text w.len h.0
    stands)

pub returns-clause-line : goal.returns-clause-line
returns-clause-line c = match_some _ _ _ c.take_front.result c.take_front.ensures
    (λ w h text stands. whole_line c.args.self.now c.take_front.new.self c.args.piece.now w.line.now text w.len h.0
    stands)
