use Rattle.nl_segments.specs.Reader.{value_of}
use Rattle.answer_file.specs.declared.naming.Naming.TheVariants.{Numbered}
use Rattle.bridge_tool.specs.Return.{IsReturnMeant}
use Rattle.command_core.specs.SeveralFiles.{itself}
use Rattle.command_parts.proofs.TextsRead.{nl_read}
use Rattle.bridge_tool.proofs.Exporting.{text_file}
use Rattle.bridge_tool.proofs.Returning.{return_last, return_meant}
use Rattle.command_core.proofs.SeveralFiles.{NoVerdict, both_ended, both_stopped, meant_anyway, second_stopped}
use Rattle.bridge_tool.proofs.returns.return_answer.Goals as goal

pub returns-in-Err : goal.returns-in-Err
returns-in-Err g c = both_stopped nl_read return_last (λ nl a bytes. IsReturnMeant nl a) (λ nl. NoVerdict) c.args.nl.now c.args.answer.now value_of _ _ _ c.in-Err.ended c.in-Err.ensures.reads

pub returns-in-Err-open_answer : goal.returns-in-Err-open_answer
returns-in-Err-open_answer g c = second_stopped nl_read return_last (λ nl a bytes. IsReturnMeant nl a) (λ nl. NoVerdict)
    c.args.nl.now c.args.answer.now value_of itself _ _ _ c.in-Ok.read c.in-Ok.ensures.reads _ c.in-Err-open_answer.ended
    c.in-Err-open_answer.ensures.reads

pub to_output-judged-requires-clause-made : goal.to_output-judged-requires-clause-made
to_output-judged-requires-clause-made g c = let said = c.in-Ok-open_answer.ensures.reads.judged in (Numbered, said.bytes, said.says)

pub returns : goal.returns
returns g c =
    both_ended nl_read return_last (λ nl a bytes. IsReturnMeant nl a) (λ nl. NoVerdict) c.args.nl.now c.args.answer.now
    value_of itself _ _ _ c.in-Ok.read c.in-Ok.ensures.reads c.in-Ok-open_answer.given
    c.in-Ok-open_answer.ensures.reads _ _ _ _ _
    c.to_output-judged.ensures.comes (meant_anyway _ _ (return_meant (value_of c.in-Ok.read) c.in-Ok-open_answer.given
    (text_file _ _ c.in-Ok.ensures.reads.judged.says))) c.end.ensures c.to_output-judged.ensures.above
    c.to_output-judged.ensures.counts
