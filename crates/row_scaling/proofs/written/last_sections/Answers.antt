use Rattle.std.proofs.Common.{◌≡◌, ◌++◌, ◌∷◌, [], ◌∙◌, ap, codes, map}
use Rattle.exact_numbers.specs.Values.{value_text}
use Rattle.mps_model.specs.Text.{bound_line, entry_lines, section}
use Rattle.text_base.specs.WordLines.{lines_text, unless_empty}
use Rattle.written_texts.proofs.Writing.{line_after, lines_after}
use Rattle.row_scaling.specs.InsideSections.{all_bounds, all_columns, all_ranges, all_rows, all_sides}
use Rattle.row_scaling.proofs.written.last_sections.Goals as goal

pub returns : goal.returns
returns c =
    let s = c.args.scaled.now in
    let side_part = section (codes "RHS") ∷ entry_lines value_text (all_rows s) (codes "RHS") (all_sides s) in
    let range_part = unless_empty (all_ranges s) (section (codes "RANGES") ∷ entry_lines value_text (all_rows s) (codes "RNG") (all_ranges s)) in
    let bound_part = unless_empty (all_bounds s) (section (codes "BOUNDS") ∷ map (bound_line value_text (all_columns s)) (all_bounds s)) in
    let sides : c.put_sides.new.out ≡ lines_text side_part = c.in_ok-put_sides.ensures ∙ ap (λ x. x ++ lines_text side_part) c.in_ok-out.ensures in
    let ranges = lines_after [] _ _ side_part range_part sides c.in_ok-put_ranges.ensures in
    let bounds = lines_after [] _ _ (side_part ++ range_part) bound_part ranges c.in_ok-put_bounds.ensures in
    line_after [] _ _ (side_part ++ range_part ++ bound_part) (section (codes "ENDATA")) bounds c.in_ok-put_line.ensures
