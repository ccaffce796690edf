use Rattle.std.proofs.Common.{◌≡◌, ◌+◌, ◌∙◌, sym, ap, ap₂, arith, nat_eq}
use Rattle.std.proofs.lemmas.List.{get_or_default}
use Rattle.mps_model.specs.Mps.{MpsRow, no_mps_row}
use Rattle.mps_program.specs.Program.{is_bounded_kind, is_constraint}
use Rattle.mps_import.specs.InsideUses.{use_of}
use Rattle.mps_program.specs.Places.{one_if}
use Rattle.mps_program.proofs.FirstLemmas.{listed_push, before_more, before_small}
use Rattle.mps_import.proofs.PartLemmas.{use_is}
use Rattle.mps_import.proofs.rows.row_uses.Goals as goal

pub with_one-count-requires : goal.with_one-count-requires
with_one-count-requires c = omega (arith, c.rows.invariant.count, before_small (is_constraint c.args.rows.now) c.rows.i, c.requires)

pub rows-preserved : goal.rows-preserved
rows-preserved c =
    let test : c.is_bounded_kind-is_constraint.result ≡ is_constraint c.args.rows.now c.rows.i =
    c.is_bounded_kind-is_constraint.ensures ∙ ap (λ (r : MpsRow). is_bounded_kind r.kind)
    (c.row.view_is ∙ c.index-rows-i.is ∙ get_or_default c.args.rows.now c.rows.i c.index-rows-i.result no_mps_row
    (omega arith)) in
    record {
      uses = c.in_ok-push.ensures.items ∙ listed_push (use_of c.args.rows.now) c.rows.i c.rows.uses.items
          c.row_use-next.result c.rows.invariant.uses (use_is c.args.rows.now c.rows.i
          c.is_bounded_kind-is_constraint.result (nat_eq c.rows.i c.objective_row-objective.result) c.rows.count
          c.row_use-next.result c.row_use-next.ensures test c.rows.invariant.count
          (ap (nat_eq c.rows.i) c.objective_row-objective.ensures));
      count = c.with_one-count.ensures ∙ ap₂ (λ n b. n + one_if b) c.rows.invariant.count test ∙ sym (before_more (is_constraint c.args.rows.now) c.rows.i);
    }
