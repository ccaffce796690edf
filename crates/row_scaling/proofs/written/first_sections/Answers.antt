use Rattle.std.proofs.Common.{◌≡◌, ◌++◌, ◌∷◌, [], ◌∙◌, ap, codes, map}
use Rattle.scaled_program.specs.ExportedProgram.{nl_name}
use Rattle.mps_model.specs.Text.{name_lines, row_line, section, sense_lines}
use Rattle.text_base.specs.WordLines.{lines_text}
use Rattle.written_texts.proofs.Writing.{lines_after}
use Rattle.row_scaling.specs.InsideSections.{all_rows}
use Rattle.row_scaling.proofs.written.first_sections.Goals as goal

pub returns : goal.returns
returns c =
    let s = c.args.scaled.now in
    let to_name = name_lines nl_name in
    let name : c.put.new.out ≡ lines_text to_name = c.in_ok-put.ensures ∙ ap (λ x. x ++ lines_text to_name) c.in_ok-out.ensures in
    let sense = lines_after [] _ _ to_name (sense_lines s.maximise) name (c.in_ok-put_sense.ensures ∙ ap (λ b. c.put.new.out ++ lines_text (sense_lines b)) c.maximise.ensures.value) in
    lines_after [] _ _ (to_name ++ sense_lines s.maximise) (section (codes "ROWS") ∷ map row_line (all_rows s)) sense c.in_ok-put_rows.ensures
