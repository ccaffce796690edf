use Rattle.std.proofs.Common.{◌∙◌, sym}
use Rattle.text_base.specs.Words.{texts}
use Rattle.nl_segments.specs.Held.{body_of}
use Rattle.nl_segments.proofs.HeadLaw.{extra_line}
use Rattle.nl_segments.proofs.body.BodyReader.take_plain.Goals as goal

pub returns-in-Nothing : goal.returns-in-Nothing
returns-in-Nothing c = λ s h. extra_line s (body_of c.args.self.now) (texts c.args.words.now) c.requires.row (sym c.awaited.ensures ∙ c.in-Nothing.is) h
