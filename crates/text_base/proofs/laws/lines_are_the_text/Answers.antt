use Rattle.text_base.proofs.CutLemmas.{scan_cut}
use Rattle.text_base.proofs.laws.lines_are_the_text.Goals as goal

pub returns : goal.returns
returns c = scan_cut
