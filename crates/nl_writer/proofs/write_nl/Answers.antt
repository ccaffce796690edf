use Rattle.std.proofs.Common.{[], ◌∙◌, ◌++◌, ap}
use Rattle.std.specs.Prelude.{codes}
use Rattle.std.specs.List.{flat_map}
use Rattle.text_base.specs.WordLines.{lines_text}
use Rattle.nl_writer.specs.Written.{header_lines, suffix_piece, definition_piece, by_number, body_piece, objective_piece, guess_piece, interval_piece, column_piece, term_piece, body_lines}
use Rattle.written_texts.proofs.Writing.{lines_after}
use Rattle.nl_writer.proofs.write_nl.Goals as goal

pub returns : goal.returns
returns c =
    let f = c.args.file.now in
    let start = c.put_header.new.out.items in
    let suffixes = c.in_ok-put_suffixes.ensures ∙ ap (λ x. start ++ lines_text (flat_map suffix_piece x)) c.suffixes.ensures in
    let definitions = lines_after start _ _ (flat_map suffix_piece f.suffixes) (flat_map definition_piece f.definitions)
    suffixes (c.in_ok-put_definitions.ensures ∙ ap (λ x. c.put_suffixes.new.out.items
    ++ lines_text (flat_map definition_piece x)) c.defs.ensures) in
    let bodies = lines_after start _ _ _ (by_number body_piece 0 f.bodies) definitions c.in_ok-put_bodies.ensures in
    let objectives = lines_after start _ _ _ (by_number objective_piece 0 f.objectives) bodies c.in_ok-put_objectives.ensures in
    let duals = lines_after start _ _ _ (guess_piece (codes "d") f.dual_guesses) objectives
    (c.in_ok-put_guesses.ensures ∙ ap (λ x. c.put_objectives.new.out.items ++ lines_text (guess_piece (codes "d") x))
    c.dual_guesses.ensures) in
    let primals = lines_after start _ _ _ (guess_piece (codes "x") f.primal_guesses) duals
    (c.in_ok-put_guesses-2.ensures ∙ ap (λ x. c.put_guesses.new.out.items ++ lines_text (guess_piece (codes "x") x))
    c.primal_guesses.ensures) in
    let sides = lines_after start _ _ _ (interval_piece (codes "r") f.sides) primals c.in_ok-put_sides.ensures in
    let bounds = lines_after start _ _ _ (interval_piece (codes "b") f.bounds) sides c.in_ok-put_bounds.ensures in
    let columns = lines_after start _ _ _ (column_piece f.counts.n_var f.terms) bounds c.in_ok-put_columns.ensures in
    let terms = lines_after start _ _ _ (by_number (term_piece (codes "J")) 0 f.terms) columns c.in_ok-put_terms.ensures in
    let slopes = lines_after start _ _ _ (by_number (term_piece (codes "G")) 0 f.slopes) terms c.in_ok-put_slopes.ensures in
    lines_after [] start _ (header_lines f.options f.counts) (body_lines f) (c.in_ok-put_header.ensures ∙ ap (λ x. x ++ lines_text (header_lines f.options f.counts)) c.new-out.ensures.items) slopes
