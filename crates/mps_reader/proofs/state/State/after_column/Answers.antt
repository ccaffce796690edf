use Rattle.std.proofs.Common.{◌≡◌, ◌∙◌, ◌∷◌, ap, sym}
use Rattle.mps_words.specs.declared.keyword.Keyword.TheVariants.{Columns}
use Rattle.mps_reader.specs.InsideHeld.{Held}
use Rattle.mps_reader.specs.InsideLines.{IsAfterHead}
use Rattle.mps_reader.proofs.FrontLines.{of_column, some_more}
use Rattle.mps_reader.proofs.state.State.after_column.Goals as goal

pub returns : goal.returns
returns c =
    some_more c.after_space.result (λ rest. c.in-Some.rest.now ≡ 32 ∷ rest.now) (λ rest. IsAfterHead Columns c.args.self.now c.args.text.now rest.now)
    (λ rest second.
    of_column c.args.self.now c.self.inside.columns c.args.text.now c.in-Some.rest.now rest.now c.requires
    (ap (λ (h : Held). h.columns) c.self.view_is) (ap (λ (h : Held). h.standing.draft.current) (sym c.self.view_is)
    ∙ c.if-not-self.false)
    c.in-Some.ensures.parts second c.in-Some.ensures.name) c.after_space.ensures
