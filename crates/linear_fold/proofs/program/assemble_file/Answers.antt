use Rattle.std.proofs.Common.{◌≡◌, ◌∙◌, ap, sym, subst}
use Rattle.linear_program.specs.Programs.{LinearValue, linear_value}
use Rattle.linear_fold.specs.InsideHeldBodies.{bodies_in, completed}
use Rattle.linear_fold.specs.InsideOwnerFolds.{AreFormsOf}
use Rattle.linear_fold.proofs.BodyLemmas.{is_linear, is_program}
use Rattle.linear_fold.proofs.program.assemble_file.Goals as goal
use Rattle.linear_fold.proofs.program.assemble_file.Goals.{After-completed_forms-all}

-- the forms are those of the bodies, with their terms
forms_of : (c : After-completed_forms-all) → AreFormsOf c.args.file c.args.objective c.completed_forms-all.result.items c.args.form
forms_of c =
    let same : c.completed_forms-all.result.items ≡ bodies_in c.args.file c.args.bodies =
    c.completed_forms-all.ensures ∙ ap (λ hs. completed hs c.into_rows-terms.result.0.items c.args.bodies.forms.items)
    c.deref.ensures.value ∙ ap (λ tss. completed c.args.bodies.held.items tss c.args.bodies.forms.items)
    c.into_rows-terms.ensures.terms in
    subst (λ bs. AreFormsOf c.args.file c.args.objective bs c.args.form) (sym same) c.requires.forms

pub of_parts-requires : goal.of_parts-requires
of_parts-requires c =
    is_linear c.args.file c.requires.file c.args.objective c.completed_forms-all.result.items c.args.form
    (forms_of (goal.at.of_parts-requires c).After-completed_forms-all) c.is_maximised-maximise.result
    c.into_rows-terms.result.1.items c.into_rows-terms.result.2.items c.in_ok-kinds.kinds.items
    c.is_maximised-maximise.ensures c.into_rows-terms.ensures.sides c.into_rows-terms.ensures.bounds
    c.in_ok-kinds.ensures c.requires.counts

pub returns : goal.returns
returns c =
    record {
      linear = ap linear_value c.of_parts.ensures ∙ is_program c.args.file c.requires.file c.args.objective
          c.completed_forms-all.result.items c.args.form (forms_of (goal.at.returns c).After-completed_forms-all)
          c.is_maximised-maximise.result c.into_rows-terms.result.1.items c.into_rows-terms.result.2.items
          c.in_ok-kinds.kinds.items c.is_maximised-maximise.ensures c.into_rows-terms.ensures.sides
          c.into_rows-terms.ensures.bounds c.in_ok-kinds.ensures;
      number = ap (λ (l : LinearValue). l.number) c.of_parts.ensures;
      sides = ap (λ (l : LinearValue). l.sides) c.of_parts.ensures ∙ c.into_rows-terms.ensures.sides;
      bounds = ap (λ (l : LinearValue). l.bounds) c.of_parts.ensures ∙ c.into_rows-terms.ensures.bounds;
      kinds = ap (λ (l : LinearValue). l.kinds) c.of_parts.ensures ∙ c.in_ok-kinds.ensures;
    }
