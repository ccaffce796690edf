use Rattle.std.proofs.Common.{◌≡◌, ◌∙◌, sym, ap, ap₂, arith, length, ◌+◌}
use Rattle.std.proofs.lemmas.List.{get_or_default}
use Rattle.mps_model.specs.Mps.{MpsRow, no_mps_row}
use Rattle.mps_program.specs.Places.{places, one_if}
use Rattle.mps_program.specs.Program.{is_bounded_kind, is_constraint, constraints}
use Rattle.mps_program.proofs.FirstLemmas.{before_more, before_small}
use Rattle.mps_program.proofs.rows.count_constraints.Goals as goal

pub with_one-count-requires : goal.with_one-count-requires
with_one-count-requires c = omega (arith, c.rows.invariant, before_small (is_constraint c.args.rows.now) c.rows.row-index, c.requires)

pub rows-preserved : goal.rows-preserved
rows-preserved c =
    let test : c.is_bounded_kind.result ≡ is_constraint c.args.rows.now c.rows.row-index =
    c.is_bounded_kind.ensures ∙ ap (λ (r : MpsRow). is_bounded_kind r.kind)
    (c.row.view_is ∙ c.row-item.is ∙ get_or_default c.args.rows.now c.rows.row-index c.row-item.result no_mps_row
    (omega arith)) in
    c.with_one-count.ensures ∙ ap₂ (λ n b. n + one_if b) c.rows.invariant test ∙ sym (before_more (is_constraint c.args.rows.now) c.rows.row-index)

pub returns : goal.returns
unfolding constraints
returns c = c.rows.invariant ∙ ap (λ n. length (places (is_constraint c.args.rows.now) n)) (omega arith)
