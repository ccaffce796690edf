use Rattle.nl_segments.specs.Reader.{value_of}
use Rattle.bridge_tool.specs.Prove.{IsLeftOpen, IsProvedOf}
use Rattle.command_core.specs.SeveralFiles.{itself}
use Rattle.command_parts.proofs.TextsRead.{nl_read}
use Rattle.bridge_tool.proofs.Verdicts.{prove_last}
use Rattle.command_core.proofs.SeveralFiles.{both_ended, both_stopped, second_stopped}
use Rattle.bridge_tool.proofs.prove.prove.Goals as goal

pub returns-in-Err : goal.returns-in-Err
returns-in-Err g c = both_stopped nl_read prove_last (λ nl p bytes. IsProvedOf nl p) IsLeftOpen c.args.nl.now c.args.proof.now value_of _ _ _ c.in-Err.ended c.in-Err.ensures.reads

pub returns-in-Err-open_proof : goal.returns-in-Err-open_proof
returns-in-Err-open_proof g c = second_stopped nl_read prove_last (λ nl p bytes. IsProvedOf nl p) IsLeftOpen
    c.args.nl.now c.args.proof.now value_of itself _ _ _ c.in-Ok.read c.in-Ok.ensures.reads _ c.in-Err-open_proof.answer
    c.in-Err-open_proof.ensures.reads

pub returns : goal.returns
returns g c =
    both_ended nl_read prove_last (λ nl p bytes. IsProvedOf nl p) IsLeftOpen c.args.nl.now c.args.proof.now value_of
    itself _ _ _ c.in-Ok.read c.in-Ok.ensures.reads c.in-Ok-open_proof.given c.in-Ok-open_proof.ensures.reads _ _ _ _
    _
    c.to_verdict-judged.ensures.comes c.to_verdict-judged.ensures.says c.end.ensures c.to_verdict-judged.ensures.above c.to_verdict-judged.ensures.counts
