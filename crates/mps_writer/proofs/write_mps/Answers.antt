use Rattle.std.proofs.Common.{◌≡◌, ◌<◌, ◌++◌, ◌∷◌, [], ◌∙◌, ap, ap₂, false, length, List, map, subst, sym, All, codes}
use Rattle.exact_numbers.specs.Values.{text_of}
use Rattle.text_base.specs.Names.{IsName}
use Rattle.text_base.specs.WordLines.{lines_text, unless_empty}
use Rattle.written_texts.proofs.Writing.{lines_after, line_after}
use Rattle.mps_model.specs.Built.{entry_of, bound_of}
use Rattle.mps_model.specs.Mps.{MpsRow}
use Rattle.mps_model.specs.Text.{mps_lines, name_lines, sense_lines, section, row_line, column_lines, entry_lines, bound_line}
use Rattle.mps_writer.proofs.Writing.{terms_in_rows, bounds_in_columns, unless_map, text_of_values}
use Rattle.mps_writer.proofs.write_mps.Goals as goal

abbrev are_named : List MpsRow → Type 0
are_named rows = All (λ (r : MpsRow). IsName r.name) rows

pub put_columns-requires-clause-rows : goal.put_columns-requires-clause-rows
put_columns-requires-clause-rows c = subst are_named (sym c.rows-rows.ensures.value) c.rows-rows.ensures.valid.part.rows.named

pub put_rhs-requires-clause-rows : goal.put_rhs-requires-clause-rows
put_rhs-requires-clause-rows c = subst are_named (sym c.rows-rows.ensures.value) c.rows-rows.ensures.valid.part.rows.named

pub put_ranges-requires-clause-rows : goal.put_ranges-requires-clause-rows
put_ranges-requires-clause-rows c = subst are_named (sym c.rows-rows.ensures.value) c.rows-rows.ensures.valid.part.rows.named

pub put_rhs-requires-clause-within : goal.put_rhs-requires-clause-within
put_rhs-requires-clause-within c =
    subst (λ n. All (λ t. t.0 < length n) c.rhs-rhs.result.now) (sym c.rows-rows.ensures.value)
    (terms_in_rows (length c.args.mps.now.rows) c.rhs-rhs.result.now c.args.mps.now.rhs c.rhs-rhs.ensures.value
    c.rhs-rhs.ensures.valid.part.rhs.within)

pub put_ranges-requires-clause-within : goal.put_ranges-requires-clause-within
put_ranges-requires-clause-within c =
    subst (λ n. All (λ t. t.0 < length n) c.ranges-ranges.result.now) (sym c.rows-rows.ensures.value)
    (terms_in_rows (length c.args.mps.now.rows) c.ranges-ranges.result.now c.args.mps.now.ranges c.ranges-ranges.ensures.value c.ranges-ranges.ensures.valid.part.ranges.entries.within)

pub put_bounds-requires : goal.put_bounds-requires
put_bounds-requires c =
    subst (λ n. All (λ t. t.1 < length n) c.bounds-bounds.result.now) (sym c.columns-columns.ensures.value)
    (bounds_in_columns (length c.args.mps.now.columns) c.bounds-bounds.result.now c.args.mps.now.bounds c.bounds-bounds.ensures.value c.bounds-bounds.ensures.valid.part.bounds.within)

pub returns-clause-spelling : goal.returns-clause-spelling
unfolding mps_lines
returns-clause-spelling c =
    let m = c.args.mps.now in
    let r : c.rows-rows.result.now ≡ m.rows = c.rows-rows.ensures.value in
    let name : c.put_program_name.new.out.items ≡ lines_text (name_lines m.name) = c.in_ok-put_program_name.ensures ∙ ap (λ x. x ++ lines_text (name_lines m.name)) c.in_ok-out.ensures.items in
    let sense = lines_after [] _ _ _ (sense_lines m.maximise) name (c.in_ok-put_sense.ensures ∙ ap (λ b. c.put_program_name.new.out.items ++ lines_text (sense_lines b)) c.maximise.ensures) in
    let rows = lines_after [] _ _ _ (section (codes "ROWS") ∷ map row_line m.rows) sense
    (c.in_ok-put_rows.ensures ∙ ap (λ x. c.put_sense.new.out.items ++ lines_text (section (codes "ROWS") ∷ map row_line x)) r) in
    let columns = lines_after [] _ _ _ (section (codes "COLUMNS") ∷ column_lines text_of m.rows false 0 m.columns) rows
    (c.in_ok-put_columns.ensures ∙ ap₂ (λ x y. c.put_rows.new.out.items ++ lines_text (section (codes "COLUMNS") ∷ column_lines text_of x false 0 y)) r c.columns-columns.ensures.value) in
    let rhs = lines_after [] _ _ _ (section (codes "RHS") ∷ entry_lines text_of m.rows (codes "RHS") m.rhs) columns
    (c.in_ok-put_rhs.ensures ∙ ap₂ (λ x y. c.put_columns.new.out.items ++ lines_text (section (codes "RHS") ∷ entry_lines text_of x (codes "RHS") y)) r c.rhs-rhs.ensures.value) in
    let ranges = lines_after [] _ _ _ (unless_empty m.ranges (section (codes "RANGES") ∷ entry_lines text_of m.rows (codes "RNG") m.ranges)) rhs
    (c.in_ok-put_ranges.ensures ∙ ap (λ x. c.put_rhs.new.out.items ++ lines_text x)
    (unless_map entry_of c.ranges-ranges.result.now m.ranges _ c.ranges-ranges.ensures.value
    ∙ ap₂ (λ x y. unless_empty m.ranges (section (codes "RANGES") ∷ entry_lines text_of x (codes "RNG") y)) r c.ranges-ranges.ensures.value)) in
    let bounds = lines_after [] _ _ _ (unless_empty m.bounds (section (codes "BOUNDS") ∷ map (bound_line text_of m.columns) m.bounds)) ranges
    (c.in_ok-put_bounds.ensures ∙ ap (λ x. c.put_ranges.new.out.items ++ lines_text x)
    (unless_map bound_of c.bounds-bounds.result.now m.bounds _ c.bounds-bounds.ensures.value
    ∙ ap₂ (λ x y. unless_empty m.bounds (section (codes "BOUNDS") ∷ map (bound_line text_of x) y)) c.columns-columns.ensures.value c.bounds-bounds.ensures.value)) in
    line_after [] _ _ _ (section (codes "ENDATA")) bounds c.in_ok-put_line.ensures

pub returns-clause-text : goal.returns-clause-text
returns-clause-text c = returns-clause-spelling c ∙ text_of_values c.args.mps.now
