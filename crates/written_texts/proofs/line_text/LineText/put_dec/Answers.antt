use Rattle.written_texts.proofs.Points.{text-before}
use Rattle.written_texts.proofs.line_text.LineText.put_dec.Goals as goal

pub returns-then-size-clause-short : goal.returns-then-size-clause-short
returns-then-size-clause-short g c = text-before c.args.value c.args.self.now c.put_any.new.self c.put_any.ensures
