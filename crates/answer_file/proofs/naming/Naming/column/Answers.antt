use Rattle.std.proofs.Common.{◌∙◌}
use Rattle.answer_file.proofs.ListedLemmas.{place_numbered}
use Rattle.answer_file.proofs.naming.Naming.column.Goals as goal

pub returns-in-Listed : goal.returns-in-Listed
returns-in-Listed c = rw c.in-Listed.is (c.find.ensures ∙ place_numbered _ _ _ (rw c.in-Listed.is at c.requires.named))
