use Rattle.std.proofs.Common.{false}
use Rattle.nl_segments.specs.Reader.{value_of}
use Rattle.answer_file.specs.Names.{named_setting}
use Rattle.answer_file.specs.declared.naming.Naming.TheVariants.{Listed}
use Rattle.bridge_tool.specs.Return.{IsReturnMeant, named_return_told}
use Rattle.command_core.specs.SeveralFiles.{itself}
use Rattle.command_parts.proofs.NameLists.{columns_down, columns_stopped, listed_sound, nl_stopped, rows_stopped}
use Rattle.bridge_tool.proofs.Exporting.{text_file}
use Rattle.bridge_tool.proofs.Returning.{after_names, answer_last, names_sound, return_meant}
use Rattle.command_core.proofs.SeveralFiles.{NoVerdict, last_ended, last_stopped, meant_anyway}
use Rattle.bridge_tool.proofs.returns.return_named.Goals as goal

pub returns-in-Err : goal.returns-in-Err
returns-in-Err g c = nl_stopped false 3 c.args.nl.now c.args.rows.now c.args.columns.now (after_names c.args.answer.now)
    (names_sound c.args.answer.now) value_of _ _ _ c.in-Err.ended c.in-Err.ensures.reads

pub returns-in-Err-open_rows : goal.returns-in-Err-open_rows
returns-in-Err-open_rows g c =
    rows_stopped false 3 c.args.nl.now c.args.rows.now c.args.columns.now (after_names c.args.answer.now) (names_sound c.args.answer.now) value_of _ _ c.in-Ok.read c.in-Ok.ensures.reads
    _ _ c.in-Err-open_rows.ended c.in-Err-open_rows.ensures.reads

pub returns-in-Err-open_columns : goal.returns-in-Err-open_columns
returns-in-Err-open_columns g c =
    columns_stopped false 3 c.args.nl.now c.args.rows.now c.args.columns.now (after_names c.args.answer.now) (names_sound c.args.answer.now) value_of _ _ c.in-Ok.read c.in-Ok.ensures.reads
    _ c.in-Ok-open_rows.names c.in-Ok-open_rows.ensures.reads _ _ c.in-Err-open_columns.ended c.in-Err-open_columns.ensures.reads

pub returns-in-Err-open_named : goal.returns-in-Err-open_named
returns-in-Err-open_named g c =
    last_stopped (answer_last (named_setting c.in-Ok.read.file c.in-Ok-open_rows.names c.in-Ok-open_columns.names)
    (value_of c.in-Ok.read)) (λ a bytes. IsReturnMeant (value_of c.in-Ok.read) a) NoVerdict c.args.answer.now
    (named_return_told c.args.nl.now c.args.answer.now c.args.rows.now c.args.columns.now)
    (listed_sound false 3 c.args.nl.now c.args.rows.now c.args.columns.now (after_names c.args.answer.now)
    (names_sound c.args.answer.now)) _ _
    (columns_down false 3 c.args.nl.now c.args.rows.now c.args.columns.now (after_names c.args.answer.now) (names_sound c.args.answer.now) value_of _ _ c.in-Ok.read c.in-Ok.ensures.reads
    _ c.in-Ok-open_rows.names c.in-Ok-open_rows.ensures.reads _ c.in-Ok-open_columns.names c.in-Ok-open_columns.ensures.reads)
    itself _ _ c.in-Err-open_named.ended c.in-Err-open_named.ensures.reads

pub to_output-judged-requires-clause-made : goal.to_output-judged-requires-clause-made
to_output-judged-requires-clause-made g c =
    let said = c.in-Ok-open_named.ensures.reads.judged in
    (Listed c.in-Ok-open_rows.names c.in-Ok-open_columns.names, said.bytes, said.says)

pub returns : goal.returns
returns g c =
    last_ended (answer_last (named_setting c.in-Ok.read.file c.in-Ok-open_rows.names c.in-Ok-open_columns.names)
    (value_of c.in-Ok.read)) (λ a bytes. IsReturnMeant (value_of c.in-Ok.read) a) NoVerdict c.args.answer.now
    (named_return_told c.args.nl.now c.args.answer.now c.args.rows.now c.args.columns.now)
    (listed_sound false 3 c.args.nl.now c.args.rows.now c.args.columns.now (after_names c.args.answer.now)
    (names_sound c.args.answer.now)) _ _
    (columns_down false 3 c.args.nl.now c.args.rows.now c.args.columns.now (after_names c.args.answer.now) (names_sound c.args.answer.now) value_of _ _ c.in-Ok.read c.in-Ok.ensures.reads
    _ c.in-Ok-open_rows.names c.in-Ok-open_rows.ensures.reads _ c.in-Ok-open_columns.names c.in-Ok-open_columns.ensures.reads)
    itself _ c.in-Ok-open_named.given c.in-Ok-open_named.ensures.reads _ _ _ _ _ c.to_output-judged.ensures.comes
    (meant_anyway _ _ (return_meant (value_of c.in-Ok.read) c.in-Ok-open_named.given
    (text_file _ _ c.in-Ok.ensures.reads.judged.says))) c.end.ensures c.to_output-judged.ensures.above
    c.to_output-judged.ensures.counts
