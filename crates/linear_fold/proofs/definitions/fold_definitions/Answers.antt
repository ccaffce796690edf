use Rattle.std.proofs.Common.{◌+◌, ◌<◌, ◌≤◌, ◌*◌, sym, subst, arith, length, take}
use Rattle.std.proofs.lemmas.List.{take_all}
use Rattle.nl_model.specs.Trees.{tree_size}
use Rattle.nl_model.specs.declared.at.Owner.TheVariants.{Def as OfDefinition}
use Rattle.linear_fold.specs.InsideOwnerFolds.{HasFolded, definitions_size, owned_at}
use Rattle.linear_fold.proofs.BodyLemmas.{at_position, definition_size, definitions_size_le, left_end, left_more, left_stop, position_small, steps_more, steps_within}
use Rattle.linear_fold.proofs.definitions.fold_definitions.Goals as goal

pub overflow_cast-index : goal.overflow_cast-index
overflow_cast-index g c =
    let below : c.loop-index.index ≤ length c.args.file.now.definitions = subst (λ xs. c.loop-index.index ≤ length xs) c.defs-definition-items.ensures c.loop-index.auto.index-end in
    let small = position_small c.args.file.now c.loop-index.index c.loop-index.folder below c.loop-index.invariant.folder_now c.requires.counts.defined in
    omega arith

pub fold_definition-requires-clause-at : goal.fold_definition-requires-clause-at
fold_definition-requires-clause-at g c =
    at_position c.args.file.now.definitions c.defs-definition-items.result.now c.defs-definition-items.ensures c.loop-index.index c.definition-item.result c.loop-index-test.true c.definition-item.is

pub loop-index-preserved : goal.loop-index-preserved
loop-index-preserved g c =
    let f = c.args.file.now in
    let i = c.loop-index.index in
    let below : i < length f.definitions = subst (λ xs. i < length xs) c.defs-definition-items.ensures c.loop-index-test.true in
    let at = at_position f.definitions c.defs-definition-items.result.now c.defs-definition-items.ensures i c.definition-item.result c.loop-index-test.true c.definition-item.is in
    record {
      folder_now = c.in-Ok.ensures.folder;
      left = left_more f c.args.folder.now.count (λ j. owned_at f (OfDefinition j)) (length f.definitions)
          c.loop-index.folder.count c.fold_definition.new.folder.count i below c.loop-index.invariant.left
          c.in-Ok.ensures.folded;
      above = (let h = c.loop-index.invariant.above in let k = c.in-Ok.ensures.above in omega arith);
      below =
          subst (λ m. c.fold_definition.new.steps ≤ c.args.steps.now + 2 * (f.counts.n_var + 1) * m) (sym (definition_size f c.requires.file i c.definition-item.result at))
          (steps_more f.counts.n_var c.args.steps.now c.loop-index.steps c.fold_definition.new.steps
          (definitions_size (take i f.definitions)) (tree_size c.definition-item.result.tree
          + length c.definition-item.result.terms) c.loop-index.invariant.below c.in-Ok.ensures.below);
    }

pub returns-in-Err-clause-folded : goal.returns-in-Err-clause-folded
returns-in-Err-clause-folded g c =
    let f = c.args.file.now in
    let i = c.loop-index.index in
    let below : i < length f.definitions = subst (λ xs. i < length xs) c.defs-definition-items.ensures c.loop-index-test.true in
    left_stop f c.args.folder.now.count (λ j. owned_at f (OfDefinition j)) (length f.definitions) c.loop-index.folder.count i c.in-Err.stop below c.loop-index.invariant.left c.in-Err.ensures.folded

pub returns-in-Err-clause-below : goal.returns-in-Err-clause-below
returns-in-Err-clause-below g c =
    let f = c.args.file.now in
    let i = c.loop-index.index in
    let at = at_position f.definitions c.defs-definition-items.result.now c.defs-definition-items.ensures i c.definition-item.result c.loop-index-test.true c.definition-item.is in
    steps_within f.counts.n_var c.args.steps.now c.fold_definition.new.steps
    (definitions_size (take (i + 1) f.definitions)) (definitions_size f.definitions)
    (definitions_size_le f.definitions (i + 1))
    (subst (λ m. c.fold_definition.new.steps ≤ c.args.steps.now + 2 * (f.counts.n_var + 1) * m) (sym (definition_size f c.requires.file i c.definition-item.result at))
    (steps_more f.counts.n_var c.args.steps.now c.loop-index.steps c.fold_definition.new.steps
    (definitions_size (take i f.definitions)) (tree_size c.definition-item.result.tree
    + length c.definition-item.result.terms) c.loop-index.invariant.below c.in-Err.ensures.below))

pub returns-clause-folded : goal.returns-clause-folded
returns-clause-folded g c =
    let f = c.args.file.now in
    left_end f c.args.folder.now.count (λ j. owned_at f (OfDefinition j)) (length f.definitions) c.loop-index.folder.count c.loop-index.index
    (let h = c.loop-index-test.false in subst (λ xs. length xs ≤ c.loop-index.index) c.defs-definition-items.ensures (omega arith)) c.loop-index.invariant.left

pub returns-clause-folder : goal.returns-clause-folder
returns-clause-folder g c =
    let f = c.args.file.now in
    subst (λ ds. HasFolded f ds c.loop-index.folder)
    (take_all c.loop-index.index f.definitions (let h = c.loop-index-test.false in subst (λ xs. length xs ≤ c.loop-index.index) c.defs-definition-items.ensures (omega arith)))
    c.loop-index.invariant.folder_now

pub returns-clause-below : goal.returns-clause-below
returns-clause-below g c =
    let f = c.args.file.now in
    let i = c.loop-index.index in
    steps_within f.counts.n_var c.args.steps.now c.loop-index.steps (definitions_size (take i f.definitions))
    (definitions_size f.definitions) (definitions_size_le f.definitions i) c.loop-index.invariant.below
