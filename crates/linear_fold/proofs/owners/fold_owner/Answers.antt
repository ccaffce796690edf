use Rattle.std.proofs.Common.{◌≡◌, ◌∙◌, ap, sym, subst, subst₂, arith, option_copied, length, Some}
use Rattle.nl_model.specs.Trees.{tree_size}
use Rattle.nl_model.specs.FilePlaces.{terms_at, tree_at}
use Rattle.nl_model.specs.Expressions.{tree_or_zero}
use Rattle.linear_fold.specs.FoldedFaults.{HasFaultPlace, fault_for, place_after}
use Rattle.linear_fold.specs.InsideFolds.{IsEntryWithin, IsExpressionFolded}
use Rattle.linear_fold.specs.InsideOperates.{IsPad}
use Rattle.linear_program.specs.Forms.{form_terms}
use Rattle.linear_fold.specs.InsideOwnerFolds.{definitions_before, expression_at, known_by}
use Rattle.linear_fold.proofs.CountLemmas.{over_of}
use Rattle.linear_fold.proofs.OwnerLemmas.{below_seen, broken_folded, entry_seen, expression_among, given_seen}
use Rattle.linear_fold.proofs.OwnerLemmas.{head_placed, large_folded, linear_folded, owner_count, owner_place}
use Rattle.linear_fold.proofs.OwnerLemmas.{owner_terms, place_bound, within_seen}
use Rattle.linear_fold.proofs.owners.fold_owner.Goals as goal

pub fold_expression-requires-clause-given : goal.fold_expression-requires-clause-given
fold_expression-requires-clause-given g c = given_seen c.args.file.now c.args.owner c.args.folder.now.variables
    (option_copied c.expression_of.result.0) c.expression_of.result.1.now c.args.folder.now.slots.items c.deref.result.now
    c.requires.folder.variables c.expression_of.ensures.tree c.expression_of.ensures.terms c.deref.ensures.value
    c.requires.folder.slots c.requires.file c.requires.owner

pub fold_expression-requires-clause-below : goal.fold_expression-requires-clause-below
fold_expression-requires-clause-below g c = below_seen c.args.file.now c.args.owner c.args.folder.now.variables
    (option_copied c.expression_of.result.0) c.expression_of.result.1.now c.args.folder.now.slots.items c.deref.result.now
    c.requires.folder.variables c.expression_of.ensures.tree c.expression_of.ensures.terms c.deref.ensures.value
    c.requires.folder.slots c.requires.file c.requires.owner

pub fold_expression-requires-clause-slots : goal.fold_expression-requires-clause-slots
fold_expression-requires-clause-slots g c = within_seen c.args.file.now c.args.owner c.args.folder.now.variables
    (option_copied c.expression_of.result.0) c.expression_of.result.1.now c.args.folder.now.slots.items c.deref.result.now
    c.requires.folder.variables c.expression_of.ensures.tree c.expression_of.ensures.terms c.deref.ensures.value
    c.requires.folder.slots

pub fault_of-requires : goal.fault_of-requires
fault_of-requires g c =
    let f = c.args.file.now in
    let o = c.args.owner in
    let broken = subst (IsExpressionFolded (known_by (definitions_before c.args.file.now c.args.owner))
    c.args.file.now.counts.n_var (expression_at c.args.file.now c.args.owner)) c.in-Broken.is
    (entry_seen c.args.file.now c.args.owner c.args.folder.now.variables (option_copied c.expression_of.result.0)
    c.expression_of.result.1.now c.args.folder.now.slots.items c.deref.result.now c.requires.folder.variables
    c.expression_of.ensures.tree c.expression_of.ensures.terms c.deref.ensures.value c.requires.folder.slots
    c.in_ok-entry.entry c.in_ok-entry.ensures.entry) in
    let same : c.node_count.result ≡ tree_size (tree_or_zero (tree_at f o)) = c.node_count.ensures.nodes ∙ ap (λ t. tree_size (tree_or_zero t)) c.expression_of.ensures.tree in
    place_bound (tree_at f o) (terms_at f o) c.in-Broken.fault.place
    (expression_among (known_by (definitions_before f o)) f.counts.n_var (tree_at f o) (terms_at f o) c.in-Broken.fault broken)
    (let few = c.node_count.ensures.few in omega arith)
    (owner_terms f c.requires.file o c.requires.owner).1

pub returns-in-Broken-clause-folded : goal.returns-in-Broken-clause-folded
returns-in-Broken-clause-folded g c rest =
    let broken = subst (IsExpressionFolded (known_by (definitions_before c.args.file.now c.args.owner))
    c.args.file.now.counts.n_var (expression_at c.args.file.now c.args.owner)) c.in-Broken.is
    (entry_seen c.args.file.now c.args.owner c.args.folder.now.variables (option_copied c.expression_of.result.0)
    c.expression_of.result.1.now c.args.folder.now.slots.items c.deref.result.now c.requires.folder.variables
    c.expression_of.ensures.tree c.expression_of.ensures.terms c.deref.ensures.value c.requires.folder.slots
    c.in_ok-entry.entry c.in_ok-entry.ensures.entry) in
    let same : tree_size (tree_or_zero (tree_at c.args.file.now c.args.owner)) ≡ c.node_count.result =
    ap (λ t. tree_size (tree_or_zero t)) (sym c.expression_of.ensures.tree) ∙ sym c.node_count.ensures.nodes in
    broken_folded c.args.file.now c.args.owner c.args.folder.now.count c.in-Broken.fault broken rest
    ∙ ap (λ size. Some (fault_for c.in-Broken.fault.reason (place_after size c.args.owner c.in-Broken.fault.place))) same
    ∙ ap Some (sym c.fault_of.ensures)

pub returns-in-Broken-clause-place : goal.returns-in-Broken-clause-place
returns-in-Broken-clause-place g c =
    let f = c.args.file.now in
    let o = c.args.owner in
    let broken = subst (IsExpressionFolded (known_by (definitions_before c.args.file.now c.args.owner))
    c.args.file.now.counts.n_var (expression_at c.args.file.now c.args.owner)) c.in-Broken.is
    (entry_seen c.args.file.now c.args.owner c.args.folder.now.variables (option_copied c.expression_of.result.0)
    c.expression_of.result.1.now c.args.folder.now.slots.items c.deref.result.now c.requires.folder.variables
    c.expression_of.ensures.tree c.expression_of.ensures.terms c.deref.ensures.value c.requires.folder.slots
    c.in_ok-entry.entry c.in_ok-entry.ensures.entry) in
    let same : tree_size (tree_or_zero (tree_at c.args.file.now c.args.owner)) ≡ c.node_count.result =
    ap (λ t. tree_size (tree_or_zero t)) (sym c.expression_of.ensures.tree) ∙ sym c.node_count.ensures.nodes in
    subst (HasFaultPlace f) (ap (λ size. fault_for c.in-Broken.fault.reason (place_after size o c.in-Broken.fault.place)) same ∙ sym c.fault_of.ensures)
    (owner_place f o c.in-Broken.fault.reason c.in-Broken.fault.place (expression_among (known_by (definitions_before f o)) f.counts.n_var (tree_at f o) (terms_at f o) c.in-Broken.fault broken))

pub returns-in-Ok-clause-form : goal.returns-in-Ok-clause-form
returns-in-Ok-clause-form g c =
    let linear = subst (IsExpressionFolded (known_by (definitions_before c.args.file.now c.args.owner))
    c.args.file.now.counts.n_var (expression_at c.args.file.now c.args.owner)) c.in-Linear.is
    (entry_seen c.args.file.now c.args.owner c.args.folder.now.variables (option_copied c.expression_of.result.0)
    c.expression_of.result.1.now c.args.folder.now.slots.items c.deref.result.now c.requires.folder.variables
    c.expression_of.ensures.tree c.expression_of.ensures.terms c.deref.ensures.value c.requires.folder.slots
    c.in_ok-entry.entry c.in_ok-entry.ensures.entry) in
    let within = subst₂ IsEntryWithin c.requires.folder.variables c.in-Linear.is c.in_ok-entry.ensures.within in
    record { values = linear.1; within = within; over = over_of c.args.file.now.counts.n_var c.in-Linear.form within c.count_with.ensures.ascending }

pub returns-in-Ok-clause-folded : goal.returns-in-Ok-clause-folded
returns-in-Ok-clause-folded g c =
    let linear = subst (IsExpressionFolded (known_by (definitions_before c.args.file.now c.args.owner))
    c.args.file.now.counts.n_var (expression_at c.args.file.now c.args.owner)) c.in-Linear.is
    (entry_seen c.args.file.now c.args.owner c.args.folder.now.variables (option_copied c.expression_of.result.0)
    c.expression_of.result.1.now c.args.folder.now.slots.items c.deref.result.now c.requires.folder.variables
    c.expression_of.ensures.tree c.expression_of.ensures.terms c.deref.ensures.value c.requires.folder.slots
    c.in_ok-entry.entry c.in_ok-entry.ensures.entry) in
    let within = subst₂ IsEntryWithin c.requires.folder.variables c.in-Linear.is c.in_ok-entry.ensures.within in
    linear_folded c.args.file.now c.args.owner c.args.folder.now.count (length (form_terms c.in-Linear.form)) c.in-Ok.count linear.0
    (owner_count c.args.file.now c.args.owner c.in-Linear.form within c.count_with.ensures.ascending linear.1) c.in-Ok.ensures.count c.in-Ok.ensures.few

pub returns-in-Err-clause-folded : goal.returns-in-Err-clause-folded
returns-in-Err-clause-folded g c rest =
    let linear = subst (IsExpressionFolded (known_by (definitions_before c.args.file.now c.args.owner))
    c.args.file.now.counts.n_var (expression_at c.args.file.now c.args.owner)) c.in-Linear.is
    (entry_seen c.args.file.now c.args.owner c.args.folder.now.variables (option_copied c.expression_of.result.0)
    c.expression_of.result.1.now c.args.folder.now.slots.items c.deref.result.now c.requires.folder.variables
    c.expression_of.ensures.tree c.expression_of.ensures.terms c.deref.ensures.value c.requires.folder.slots
    c.in_ok-entry.entry c.in_ok-entry.ensures.entry) in
    let within = subst₂ IsEntryWithin c.requires.folder.variables c.in-Linear.is c.in_ok-entry.ensures.within in
    large_folded c.args.file.now c.args.owner c.args.folder.now.count (length (form_terms c.in-Linear.form)) linear.0
    (owner_count c.args.file.now c.args.owner c.in-Linear.form within c.count_with.ensures.ascending linear.1) c.in-Err.ensures.many rest
    ∙ ap Some (sym c.in-Err.ensures.fault)

pub returns-in-Err-clause-place : goal.returns-in-Err-clause-place
returns-in-Err-clause-place g c =
    let linear = subst (IsExpressionFolded (known_by (definitions_before c.args.file.now c.args.owner))
    c.args.file.now.counts.n_var (expression_at c.args.file.now c.args.owner)) c.in-Linear.is
    (entry_seen c.args.file.now c.args.owner c.args.folder.now.variables (option_copied c.expression_of.result.0)
    c.expression_of.result.1.now c.args.folder.now.slots.items c.deref.result.now c.requires.folder.variables
    c.expression_of.ensures.tree c.expression_of.ensures.terms c.deref.ensures.value c.requires.folder.slots
    c.in_ok-entry.entry c.in_ok-entry.ensures.entry) in
    let within = subst₂ IsEntryWithin c.requires.folder.variables c.in-Linear.is c.in_ok-entry.ensures.within in
    subst (HasFaultPlace c.args.file.now) (sym c.in-Err.ensures.fault)
    (head_placed c.args.file.now c.args.owner c.in-Linear.form c.args.folder.now.count within c.count_with.ensures.ascending linear.1 c.requires.folder.few c.in-Err.ensures.many)

pub fold_expression-requires-clause-pad : goal.fold_expression-requires-clause-pad
fold_expression-requires-clause-pad g c = subst (λ n. IsPad n c.args.folder.now.room.pad) (sym c.requires.folder.variables) c.requires.folder.pad
