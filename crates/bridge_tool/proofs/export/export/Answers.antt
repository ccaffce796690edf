use Rattle.nl_segments.specs.Reader.{value_of}
use Rattle.bridge_tool.specs.Export.{IsExportMeant}
use Rattle.bridge_tool.proofs.Exporting.{export_last}
use Rattle.command_core.proofs.SeveralFiles.{NoVerdict, ended_in_pieces, meant_always, only_stopped}
use Rattle.bridge_tool.proofs.export.export.Goals as goal

pub returns-in-Err : goal.returns-in-Err
returns-in-Err g c = only_stopped (export_last c.args.objective) (λ nl bytes. IsExportMeant nl c.args.objective) NoVerdict c.args.file.now value_of _ _ _ c.in-Err.ended c.in-Err.ensures.reads

pub returns : goal.returns
returns g c =
    ended_in_pieces (export_last c.args.objective) (λ nl bytes. IsExportMeant nl c.args.objective) NoVerdict c.args.file.now value_of _ _ c.in-Ok.read c.in-Ok.ensures.reads _ _ _ _ _
    c.to_output-judged.ensures.comes (meant_always c.to_output-judged.result _ c.to_output-judged.ensures.means)
    c.end_in_pieces.ensures c.to_output-judged.ensures.above c.to_output-judged.ensures.counts
