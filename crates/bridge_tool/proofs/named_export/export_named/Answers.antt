use Rattle.std.proofs.Common.{false, refl}
use Rattle.nl_segments.specs.Reader.{value_of}
use Rattle.bridge_tool.specs.NamedExport.{AreNamedMeant, named_told}
use Rattle.command_core.specs.SeveralFiles.{itself}
use Rattle.command_parts.proofs.NameLists.{columns_stopped, listed_sound, nl_stopped, rows_down, rows_stopped}
use Rattle.bridge_tool.proofs.NamedExporting.{after_names, named_last, names_sound, of_lists}
use Rattle.command_core.proofs.SeveralFiles.{NoVerdict, last_ended, meant_always}
use Rattle.bridge_tool.proofs.named_export.export_named.Goals as goal

pub returns-in-Err : goal.returns-in-Err
returns-in-Err g c = nl_stopped false 2 c.args.file.now c.args.rows.now c.args.columns.now
    (after_names c.args.objective c.args.columns.now) (names_sound c.args.objective c.args.columns.now) value_of _ _ _
    c.in-Err.ended c.in-Err.ensures.reads

pub returns-in-Err-open_rows : goal.returns-in-Err-open_rows
returns-in-Err-open_rows g c =
    rows_stopped false 2 c.args.file.now c.args.rows.now c.args.columns.now
    (after_names c.args.objective c.args.columns.now) (names_sound c.args.objective c.args.columns.now) value_of _ _
    c.in-Ok.read c.in-Ok.ensures.reads
    _ _ c.in-Err-open_rows.ended c.in-Err-open_rows.ensures.reads

pub returns-in-Err-open_columns : goal.returns-in-Err-open_columns
returns-in-Err-open_columns g c =
    columns_stopped false 2 c.args.file.now c.args.rows.now c.args.columns.now
    (after_names c.args.objective c.args.columns.now) (names_sound c.args.objective c.args.columns.now) value_of _ _
    c.in-Ok.read c.in-Ok.ensures.reads
    _ c.in-Ok-open_rows.names c.in-Ok-open_rows.ensures.reads _ _ c.in-Err-open_columns.ended c.in-Err-open_columns.ensures.reads

pub returns : goal.returns
returns g c =
    last_ended (named_last c.args.objective (value_of c.in-Ok.read) c.in-Ok-open_rows.names)
    (λ k bytes. AreNamedMeant (of_lists c.args.objective (value_of c.in-Ok.read) c.in-Ok-open_rows.names k)) NoVerdict
    c.args.columns.now
    (named_told c.args.file.now c.args.objective c.args.rows.now c.args.columns.now)
    (listed_sound false 2 c.args.file.now c.args.rows.now c.args.columns.now
    (after_names c.args.objective c.args.columns.now) (names_sound c.args.objective c.args.columns.now)) _ _
    (rows_down false 2 c.args.file.now c.args.rows.now c.args.columns.now
    (after_names c.args.objective c.args.columns.now) (names_sound c.args.objective c.args.columns.now) value_of _ _
    c.in-Ok.read c.in-Ok.ensures.reads
    _ c.in-Ok-open_rows.names c.in-Ok-open_rows.ensures.reads)
    itself _ c.in-Ok-open_columns.names c.in-Ok-open_columns.ensures.reads _ _ _ _ _ (c.to_output-judged.ensures.comes _ refl)
    (meant_always c.to_output-judged.result _ (c.to_output-judged.ensures.means _ refl)) c.end.ensures c.to_output-judged.ensures.above (c.to_output-judged.ensures.counts _ refl)
