use Rattle.std.proofs.Common.{◌∙◌, ap, slice_set, true}
use Rattle.text_base.proofs.MarkLemmas.{marked_set}
use Rattle.text_base.proofs.marks.Marks.mark.Goals as goal

pub returns : goal.returns
returns c = marked_set c.self.inside.stamp c.self.inside.stamps.items c.args.index ∙ ap (λ bs. slice_set bs c.args.index true) c.self.view_is
