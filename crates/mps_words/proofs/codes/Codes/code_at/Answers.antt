use Rattle.std.proofs.Common.{◌∙◌, ℕ, Option, ap}
use Rattle.std.specs.Prelude.{unwrap_or}
use Rattle.std.proofs.lemmas.Option.{unwrap_or-slice_get}
use Rattle.mps_words.proofs.codes.Codes.code_at.Goals as goal

pub returns : goal.returns
returns c = c.unwrap_or.ensures ∙ ap (λ (code : Option ℕ). unwrap_or code 0) c.get.ensures ∙ unwrap_or-slice_get c.args.self.now c.args.place 0
