use Rattle.std.proofs.Common.{◌≡◌, arith, ◌∙◌, ap, sym, replicate, length, ℕ, false, lit<, ◌==◌}
use Rattle.std.proofs.lemmas.List.{length-map}
use Rattle.text_base.specs.InsideStamps.{marked}
use Rattle.text_base.proofs.MarkLemmas.{none_marked}
use Rattle.text_base.proofs.marks.Marks.wipe.Goals as goal

pub returns : goal.returns
returns c =
    let same : c.self.inside.stamps.len ≡ length c.self.inside.stamps.items = omega (arith, c.self.inside.stamps.ok.0) in
    ap (marked 1) (c.fill.ensures.items (λ y e. e) ∙ ap (λ (n : ℕ). replicate n 0) same) ∙ none_marked 1 (length c.self.inside.stamps.items) (lit< tt)
    ∙ ap (λ (n : ℕ). replicate n false) (sym (length-map c.self.inside.stamps.items (λ s. s == c.self.inside.stamp)) ∙ ap (λ bs. length bs) c.self.view_is)
