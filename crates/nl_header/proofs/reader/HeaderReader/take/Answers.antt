use Rattle.std.proofs.Common.{ap, sym, ◌∙◌}
use Rattle.text_base.specs.Words.{words_of}
use Rattle.nl_header.proofs.ReaderLemmas.{first-ok, first-err}
use Rattle.nl_header.proofs.TakeLemmas.{number-ok, number-err}
use Rattle.nl_header.proofs.reader.HeaderReader.take.Goals as goal

pub returns-in-Ok-clause-takes : goal.returns-in-Ok-clause-takes
returns-in-Ok-clause-takes c = λ before reading. first-ok c.args.self.now _ before (words_of c.args.text.now) _
    c.of-row.ensures (sym (ap (λ s. s.lines) c.self.view_is) ∙ c.if-self-eq0.true) reading c.in-Ok.ensures.judges
    c.in-Ok.ensures.step

pub returns-in-Err-clause-takes : goal.returns-in-Err-clause-takes
returns-in-Err-clause-takes c = λ before reading. first-err c.args.self.now before (words_of c.args.text.now) _ _
    c.of-row.ensures (sym (ap (λ s. s.lines) c.self.view_is) ∙ c.if-self-eq0.true) reading c.in-Err.ensures.judges

pub returns-in-Ok-take_numbers-clause-takes : goal.returns-in-Ok-take_numbers-clause-takes
returns-in-Ok-take_numbers-clause-takes c =
    λ before reading.
    number-ok c.args.self.now _ _ before (words_of c.args.text.now) _ _ _ c.of-row.ensures (λ e. c.if-self-eq0.false (ap (λ s. s.lines) c.self.view_is ∙ e)) reading
    c.in-Ok-take_numbers.ensures.step c.in-Ok-take_numbers.ensures.ok.0 c.in-Ok-take_numbers.ensures.ok.1 c.end_line.ensures.ends

pub returns-in-Err-take_numbers-clause-takes : goal.returns-in-Err-take_numbers-clause-takes
returns-in-Err-take_numbers-clause-takes c =
    λ before reading.
    number-err c.args.self.now before (words_of c.args.text.now) _ _ c.of-row.ensures (λ e. c.if-self-eq0.false (ap (λ s. s.lines) c.self.view_is ∙ e)) reading c.in-Err-take_numbers.ensures.err
