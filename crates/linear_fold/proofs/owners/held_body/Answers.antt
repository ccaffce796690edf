use Rattle.std.proofs.Common.{◌≡◌, ◌+◌, ◌<◌, ◌∙◌, ap, sym, subst, arith, length, Some}
use Rattle.nl_model.specs.Trees.{tree_size}
use Rattle.nl_model.specs.declared.at.Owner.TheVariants.{Con}
use Rattle.nl_model.specs.FilePlaces.{terms_at, tree_at}
use Rattle.nl_model.specs.Expressions.{tree_or_zero}
use Rattle.nl_model.specs.FoldFaults.{most_coefficients}
use Rattle.linear_fold.specs.FoldedFaults.{HasFaultPlace, fault_for, place_after}
use Rattle.linear_fold.specs.InsideHeldBodies.{IsHeldAt}
use Rattle.linear_fold.specs.InsideOwnerFolds.{IsFormOf}
use Rattle.linear_fold.proofs.HeldLemmas.{broken_placed, broken_small, broken_stop, held_same, number_clean, number_form, number_head, number_large, number_length}
use Rattle.linear_fold.proofs.owners.held_body.Goals as goal

pub fault_of-requires : goal.fault_of-requires
fault_of-requires c =
    let f = c.args.file.now in
    let i = c.args.con in
    let same : c.node_count.result ≡ tree_size (tree_or_zero (tree_at f (Con i))) = c.node_count.ensures.nodes ∙ ap (λ t. tree_size (tree_or_zero t)) c.expression_of.ensures.tree in
    broken_small f c.requires.file i c.requires.con c.in-Broken.fault (subst (IsHeldAt f i) c.in-Broken.is c.requires.held) (let few = c.node_count.ensures.few in omega arith)

pub returns-in-Broken-clause-folded : goal.returns-in-Broken-clause-folded
returns-in-Broken-clause-folded c rest =
    let f = c.args.file.now in
    let i = c.args.con in
    let x = c.in-Broken.fault in
    let same : tree_size (tree_or_zero (tree_at f (Con i))) ≡ c.node_count.result = ap (λ t. tree_size (tree_or_zero t)) (sym c.expression_of.ensures.tree) ∙ sym c.node_count.ensures.nodes in
    broken_stop f c.requires.file i c.requires.con x (subst (IsHeldAt f i) c.in-Broken.is c.requires.held) c.args.folder.now.count rest
    ∙ ap (λ size. Some (fault_for x.reason (place_after size (Con i) x.place))) same
    ∙ ap Some (sym c.fault_of.ensures)

pub returns-in-Broken-clause-place : goal.returns-in-Broken-clause-place
returns-in-Broken-clause-place c =
    let f = c.args.file.now in
    let i = c.args.con in
    let x = c.in-Broken.fault in
    let same : tree_size (tree_or_zero (tree_at f (Con i))) ≡ c.node_count.result = ap (λ t. tree_size (tree_or_zero t)) (sym c.expression_of.ensures.tree) ∙ sym c.node_count.ensures.nodes in
    subst (HasFaultPlace f) (ap (λ size. fault_for x.reason (place_after size (Con i) x.place)) same ∙ sym c.fault_of.ensures)
    (broken_placed f c.requires.file i c.requires.con x (subst (IsHeldAt f i) c.in-Broken.is c.requires.held))

pub returns-in-Ok-clause-form : goal.returns-in-Ok-clause-form
returns-in-Ok-clause-form c =
    let f = c.args.file.now in
    let i = c.args.con in
    let k = c.in-Number.number in
    let is = subst (IsHeldAt f i) c.in-Number.is c.requires.held in
    record {
      form_is = subst (IsFormOf f (Con i)) (sym (held_same k c.of_constant-form.result (terms_at f (Con i)) c.of_constant-form.ensures.line)) (number_form f c.requires.file i c.requires.con k is);
      decimals = is.decimals;
    }

pub returns-in-Ok-clause-count : goal.returns-in-Ok-clause-count
returns-in-Ok-clause-count c =
    let f = c.args.file.now in
    let i = c.args.con in
    let k = c.in-Number.number in
    let is = subst (IsHeldAt f i) c.in-Number.is c.requires.held in
    c.in-Ok.ensures.count
    ∙ ap (λ m. c.args.folder.now.count + m)
    (c.len.ensures ∙ ap length c.expression_of.ensures.terms ∙ sym (number_length f c.requires.file i c.requires.con k is))

pub returns-in-Ok-clause-folded : goal.returns-in-Ok-clause-folded
returns-in-Ok-clause-folded c =
    let f = c.args.file.now in
    let i = c.args.con in
    let k = c.in-Number.number in
    let is = subst (IsHeldAt f i) c.in-Number.is c.requires.held in
    let many = c.len.ensures ∙ ap length c.expression_of.ensures.terms in
    number_clean f c.requires.file i c.requires.con k is c.args.folder.now.count c.in-Ok.count (c.in-Ok.ensures.count ∙ ap (λ m. c.args.folder.now.count + m) many) c.in-Ok.ensures.few

pub returns-in-Err-clause-folded : goal.returns-in-Err-clause-folded
returns-in-Err-clause-folded c rest =
    let f = c.args.file.now in
    let i = c.args.con in
    let k = c.in-Number.number in
    let is = subst (IsHeldAt f i) c.in-Number.is c.requires.held in
    let many = c.len.ensures ∙ ap length c.expression_of.ensures.terms in
    number_large f c.requires.file i c.requires.con k is c.args.folder.now.count (subst (λ m. most_coefficients < c.args.folder.now.count + m) many c.in-Err.ensures.many) rest
    ∙ ap Some (sym c.in-Err.ensures.fault)

pub returns-in-Err-clause-place : goal.returns-in-Err-clause-place
returns-in-Err-clause-place c =
    let f = c.args.file.now in
    let i = c.args.con in
    let k = c.in-Number.number in
    let is = subst (IsHeldAt f i) c.in-Number.is c.requires.held in
    let many = c.len.ensures ∙ ap length c.expression_of.ensures.terms in
    subst (HasFaultPlace f) (sym c.in-Err.ensures.fault)
    (number_head f c.requires.file i c.requires.con k is c.args.folder.now.count c.requires.folder.few (subst (λ m. most_coefficients < c.args.folder.now.count + m) many c.in-Err.ensures.many))
