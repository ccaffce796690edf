use Rattle.std.proofs.Common.{◌∙◌, ap, sym, replicate, length, ℕ, false, ◌==◌}
use Rattle.std.proofs.lemmas.List.{length-map}
use Rattle.text_base.proofs.MarkLemmas.{past_marked}
use Rattle.text_base.proofs.marks.Marks.clear.Goals as goal

pub returns : goal.returns
returns c =
    past_marked c.self.inside.stamp c.self.inside.stamps.items c.self.invariant.past
    ∙ ap (λ (n : ℕ). replicate n false) (sym (length-map c.self.inside.stamps.items (λ s. s == c.self.inside.stamp)) ∙ ap (λ bs. length bs) c.self.view_is)
