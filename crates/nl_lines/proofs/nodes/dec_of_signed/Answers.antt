use Rattle.std.proofs.Common.{sym}
use Rattle.nl_lines.proofs.NumberLemmas.{dec_of_signed-some, dec_of_signed-none}
use Rattle.nl_lines.proofs.nodes.dec_of_signed.Goals as goal

pub returns-in-Some : goal.returns-in-Some
returns-in-Some c = sym (dec_of_signed-some _ _ _ _ c.signed_of.ensures c.in-Some.is c.of_whole.ensures)

pub returns-in-None : goal.returns-in-None
returns-in-None c = sym (dec_of_signed-none _ _ c.signed_of.ensures c.in-None.is)
