use Rattle.nl_segments.specs.Reader.{value_of}
use Rattle.bridge_tool.specs.Check.{IsCertified, IsNotCertified}
use Rattle.command_core.specs.SeveralFiles.{itself}
use Rattle.command_parts.proofs.TextsRead.{nl_read}
use Rattle.bridge_tool.proofs.Exporting.{text_file}
use Rattle.bridge_tool.proofs.Verdicts.{check_last, meant_so}
use Rattle.command_core.proofs.SeveralFiles.{both_ended, both_stopped, second_stopped}
use Rattle.bridge_tool.proofs.check.check.Goals as goal

pub returns-in-Err : goal.returns-in-Err
returns-in-Err g c = both_stopped nl_read check_last (λ nl s bytes. IsCertified nl s) IsNotCertified c.args.nl.now c.args.sol.now value_of _ _ _ c.in-Err.ended c.in-Err.ensures.reads

pub returns-in-Err-open_sol : goal.returns-in-Err-open_sol
returns-in-Err-open_sol g c = second_stopped nl_read check_last (λ nl s bytes. IsCertified nl s) IsNotCertified
    c.args.nl.now c.args.sol.now value_of itself _ _ _ c.in-Ok.read c.in-Ok.ensures.reads _ c.in-Err-open_sol.answer
    c.in-Err-open_sol.ensures.reads

pub returns : goal.returns
returns g c =
    both_ended nl_read check_last (λ nl s bytes. IsCertified nl s) IsNotCertified c.args.nl.now c.args.sol.now value_of
    itself _ _ _ c.in-Ok.read c.in-Ok.ensures.reads c.in-Ok-open_sol.solution c.in-Ok-open_sol.ensures.reads _ _ _ _ _
    c.to_verdict-judged.ensures.comes (meant_so (value_of c.in-Ok.read) c.in-Ok-open_sol.solution _
    (text_file _ _ c.in-Ok.ensures.reads.judged.says) c.to_verdict-judged.ensures.comes) c.end.ensures
    c.to_verdict-judged.ensures.above c.to_verdict-judged.ensures.counts
