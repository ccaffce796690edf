use Rattle.nl_segments.specs.Reader.{value_of}
use Rattle.command_core.specs.SeveralFiles.{itself}
use Rattle.command_core.proofs.SeveralFiles.{meant_always, meant_anyway}
use Rattle.bridge_tool.specs.declared.one_file.OneFile.TheVariants.{Import, Mps, Nl, Sol}
use Rattle.bridge_tool.proofs.OneFile.{ended, meant_so, sol_meant, stopped}
use Rattle.round_trips.proofs.Rewriting.{written_again}
use Rattle.bridge_tool.proofs.one_file.rewrite.Goals as goal

pub returns-in-Err : goal.returns-in-Err
returns-in-Err g c = rw c.in-Nl.is (stopped Nl c.args.file.now value_of _ _ c.in-Err.ended c.in-Err.ensures.reads)

pub returns-in-Err-open_text : goal.returns-in-Err-open_text
returns-in-Err-open_text g c = rw c.in-Mps.is (stopped (Mps c.in-Mps.layout) c.args.file.now itself _ _ c.in-Err-open_text.ended c.in-Err-open_text.ensures.reads)

pub returns-in-Err-open_sol : goal.returns-in-Err-open_sol
returns-in-Err-open_sol g c = rw c.in-Sol.is (stopped Sol c.args.file.now itself _ _ c.in-Err-open_sol.ended c.in-Err-open_sol.ensures.reads)

pub returns-in-Err-open_mps : goal.returns-in-Err-open_mps
returns-in-Err-open_mps g c = rw c.in-Import.is (stopped Import c.args.file.now itself _ _ c.in-Err-open_mps.ended c.in-Err-open_mps.ensures.reads)

pub returns-in-Ok : goal.returns-in-Ok
returns-in-Ok g c =
    let h = c.in-Ok.ensures.reads in
    rw c.in-Nl.is (ended Nl c.args.file.now value_of _ _ _ c.in-Ok.read c.nl_output-judged.result _ h
    c.nl_output-judged.ensures (meant_anyway _ _ (written_again h.judged.bytes (value_of c.in-Ok.read)
    h.judged.says)) c.end.ensures)

pub returns-in-Ok-open_text : goal.returns-in-Ok-open_text
returns-in-Ok-open_text g c =
    rw c.in-Mps.is (ended (Mps c.in-Mps.layout) c.args.file.now itself _ _ _ c.in-Ok-open_text.mps
    c.mps_output-judged.result _ c.in-Ok-open_text.ensures.reads c.mps_output-judged.ensures.comes
    (meant_always c.mps_output-judged.result _ c.mps_output-judged.ensures.means) c.end-in-Mps.ensures)

pub returns-in-Ok-open_sol : goal.returns-in-Ok-open_sol
returns-in-Ok-open_sol g c =
    let h = c.in-Ok-open_sol.ensures.reads in
    rw c.in-Sol.is (ended Sol c.args.file.now itself _ _ _ c.in-Ok-open_sol.sol c.sol_output-judged.result _ h
    c.sol_output-judged.ensures (meant_anyway _ _ (sol_meant h.judged.bytes c.in-Ok-open_sol.sol h.judged.says))
    c.end-in-Sol.ensures)

pub returns-in-Ok-open_mps : goal.returns-in-Ok-open_mps
returns-in-Ok-open_mps g c =
    rw c.in-Import.is (ended Import c.args.file.now itself _ _ _ c.in-Ok-open_mps.mps c.import_output-judged.result _
    c.in-Ok-open_mps.ensures.reads c.import_output-judged.ensures
    (meant_so c.in-Ok-open_mps.mps _ c.import_output-judged.ensures) c.end-in-Import.ensures)
