use Rattle.std.proofs.Common.{◌≡◌, ◌∙◌, sym, ap, arith, map, length, get_or, None}
use Rattle.std.proofs.lemmas.List.{get_or_default}
use Rattle.mps_model.specs.Mps.{MpsRow, no_mps_row, at_row, row_interval}
use Rattle.mps_program.specs.Decimals.{sides_from}
use Rattle.mps_program.specs.Faults.{is_row_wide}
use Rattle.mps_program.specs.Program.{is_bounded_kind, is_constraint, constraints}
use Rattle.mps_program.specs.Places.{places}
use Rattle.mps_program.specs.Program.{values_of}
use Rattle.mps_program.proofs.FirstLemmas.{first_here, none_more}
use Rattle.mps_program.proofs.PartLemmas.{row_wide, row_side, place_pushed}
use Rattle.mps_program.proofs.rows.constraint_sides.Goals as goal

pub returns-in_default-clause-fault : goal.returns-in_default-clause-fault
returns-in_default-clause-fault c =
    let m = c.args.mps.now in
    let i = c.rows.i in
    let row : c.index-rows-i.result ≡ get_or m.rows i no_mps_row =
    c.index-rows-i.is ∙ ap (λ rs. get_or rs i c.index-rows-i.result) c.rows-rows.ensures.value
    ∙ get_or_default m.rows i c.index-rows-i.result no_mps_row (omega (arith, ap length c.rows-rows.ensures.value)) in
    let kind : c.row.inside.kind ≡ (get_or m.rows i no_mps_row).kind = ap (λ (r : MpsRow). r.kind) (c.row.view_is ∙ row) in
    let rhs : c.index.result.now ≡ at_row i m.rhs = c.index.ensures
    ∙ get_or_default c.in_ok-rhs.rhs.items i c.index.result.now None (omega (arith, c.in_ok-rhs.ensures.count))
    ∙ c.in_ok-rhs.ensures.value i (omega arith) ∙ ap (at_row i) c.rhs.ensures.value in
    let range : c.index-in-rows.result.now ≡ at_row i m.ranges =
    c.index-in-rows.ensures ∙ get_or_default c.in_ok-ranges.ranges.items i c.index-in-rows.result.now None
    (omega (arith, c.in_ok-ranges.ensures.count)) ∙ c.in_ok-ranges.ensures.value i (omega arith)
    ∙ ap (at_row i) c.ranges-2.ensures.value in
    first_here (is_row_wide m) (length m.rows) i (omega (arith, ap length c.rows-rows.ensures.value))
    c.rows.invariant.none (sym (row_wide m i c.row.inside.kind c.index.result.now c.index-in-rows.result.now kind rhs
    range) ∙ c.in_default.ensures)

pub rows-preserved : goal.rows-preserved
rows-preserved c =
    let m = c.args.mps.now in
    let i = c.rows.i in
    let row : c.index-rows-i.result ≡ get_or m.rows i no_mps_row =
    c.index-rows-i.is ∙ ap (λ rs. get_or rs i c.index-rows-i.result) c.rows-rows.ensures.value
    ∙ get_or_default m.rows i c.index-rows-i.result no_mps_row (omega (arith, ap length c.rows-rows.ensures.value)) in
    let kind : c.row.inside.kind ≡ (get_or m.rows i no_mps_row).kind = ap (λ (r : MpsRow). r.kind) (c.row.view_is ∙ row) in
    let rhs : c.index.result.now ≡ at_row i m.rhs = c.index.ensures
    ∙ get_or_default c.in_ok-rhs.rhs.items i c.index.result.now None (omega (arith, c.in_ok-rhs.ensures.count))
    ∙ c.in_ok-rhs.ensures.value i (omega arith) ∙ ap (at_row i) c.rhs.ensures.value in
    let range : c.index-in-rows.result.now ≡ at_row i m.ranges =
    c.index-in-rows.ensures ∙ get_or_default c.in_ok-ranges.ranges.items i c.index-in-rows.result.now None
    (omega (arith, c.in_ok-ranges.ensures.count)) ∙ c.in_ok-ranges.ensures.value i (omega arith)
    ∙ ap (at_row i) c.ranges-2.ensures.value in
    record {
      sides = place_pushed (λ i. sides_from (row_interval (values_of m) i)) (is_constraint m.rows) i c.rows.sides.items
          c.add_where.new.sides.items c.is_bounded_kind.result c.in-Some.side c.rows.invariant.sides
          (c.is_bounded_kind.ensures ∙ ap is_bounded_kind kind)
          (c.in-Some.ensures.1 ∙ row_side m i c.row.inside.kind c.index.result.now c.index-in-rows.result.now kind rhs
          range) c.in_ok-add_where.ensures;
      none = none_more (is_row_wide m) i c.rows.invariant.none (sym (row_wide m i c.row.inside.kind c.index.result.now c.index-in-rows.result.now kind rhs range) ∙ c.in-Some.ensures.0);
    }

pub returns-clause-sides : goal.returns-clause-sides
unfolding constraints
returns-clause-sides c =
    let m = c.args.mps.now in
    let end : c.rows.i ≡ length m.rows = omega (arith, ap length c.rows-rows.ensures.value) in
    c.rows.invariant.sides ∙ ap (λ n. map (λ i. sides_from (row_interval (values_of m) i)) (places (is_constraint m.rows) n)) end
