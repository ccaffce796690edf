use Rattle.std.proofs.Common.{◌≡◌, ◌∙◌, ◌==◌, ◌&&◌, ◌||◌, nat_lt, ap, sym, option_map}
use Rattle.linear_fold.specs.FoldedFaults.{named_fault}
use Rattle.linear_fold.proofs.BodyLemmas.{fault_of_owners, no_objective_there, owners_stopped, folds_with, are_fold_steps}
use Rattle.linear_fold.proofs.program.forms_of.Goals as goal

pub returns-then-not-has_objective-clause-fault : goal.returns-then-not-has_objective-clause-fault
returns-then-not-has_objective-clause-fault g c =
    record {
      first = ap (option_map (named_fault c.args.file.now))
          (no_objective_there c.args.file.now c.args.objective
          (let same : c.args.file.now.counts.n_obj ≡ c.counts.result.now.n_obj =
          ap (λ x. x.n_obj) (sym (c.counts.ensures.value ∙ c.header.ensures.counts)) in
          ap (λ n. nat_lt c.args.objective n || ((c.args.objective == 0) && (n == 0))) same
          ∙ sym c.has_objective.ensures ∙ c.if-not-has_objective.true));
      place = tt;
    }

pub returns-in-Err-clause-fault : goal.returns-in-Err-clause-fault
returns-in-Err-clause-fault g c = owners_stopped c.args.file.now c.args.objective c.in-Err.stop
    (let same : c.args.file.now.counts.n_obj ≡ c.counts.result.now.n_obj =
    ap (λ x. x.n_obj) (sym (c.counts.ensures.value ∙ c.header.ensures.counts)) in
    ap (λ n. nat_lt c.args.objective n || ((c.args.objective == 0) && (n == 0))) same ∙ sym c.has_objective.ensures
    ∙ c.if-not-has_objective.false) c.in-Err.ensures.fault c.in-Err.ensures.place

pub returns-clause-folds : goal.returns-clause-folds
returns-clause-folds g c = folds_with c.args.file.now c.args.objective c.header.ensures.file
    (fault_of_owners c.args.file.now c.args.objective (let same : c.args.file.now.counts.n_obj
    ≡ c.counts.result.now.n_obj = ap (λ x. x.n_obj) (sym (c.counts.ensures.value ∙ c.header.ensures.counts)) in
    ap (λ n. nat_lt c.args.objective n || ((c.args.objective == 0) && (n == 0))) same ∙ sym c.has_objective.ensures
    ∙ c.if-not-has_objective.false) ∙ c.in-Ok.ensures.fine)

pub returns-in-Err-clause-steps : goal.returns-in-Err-clause-steps
returns-in-Err-clause-steps g c = are_fold_steps c.args.file.now c.args.objective c.args.steps.now
    c.fold_forms.new.steps (let same : c.args.file.now.counts.n_obj ≡ c.counts.result.now.n_obj =
    ap (λ x. x.n_obj) (sym (c.counts.ensures.value ∙ c.header.ensures.counts)) in
    ap (λ n. nat_lt c.args.objective n || ((c.args.objective == 0) && (n == 0))) same ∙ sym c.has_objective.ensures
    ∙ c.if-not-has_objective.false) c.in-Err.ensures.above c.in-Err.ensures.below

pub returns-clause-steps : goal.returns-clause-steps
returns-clause-steps g c = are_fold_steps c.args.file.now c.args.objective c.args.steps.now c.fold_forms.new.steps
    (let same : c.args.file.now.counts.n_obj ≡ c.counts.result.now.n_obj =
    ap (λ x. x.n_obj) (sym (c.counts.ensures.value ∙ c.header.ensures.counts)) in
    ap (λ n. nat_lt c.args.objective n || ((c.args.objective == 0) && (n == 0))) same ∙ sym c.has_objective.ensures
    ∙ c.if-not-has_objective.false) c.in-Ok.ensures.above c.in-Ok.ensures.below
