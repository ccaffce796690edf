use Rattle.std.proofs.Common.{◌∙◌, ap, lit<}
use Rattle.text_base.specs.InsideStamps.{marked}
use Rattle.text_base.proofs.MarkLemmas.{none_marked}
use Rattle.text_base.proofs.marks.Marks.new.Goals as goal

pub returns : goal.returns
returns c = ap (marked 1) c.in_ok-stamps.ensures ∙ none_marked 1 c.args.len (lit< tt)
