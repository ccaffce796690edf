use Rattle.std.proofs.Common.{◌≡◌, ◌<◌, [], Some, ap, length, option_map, slice_get, subst, sym}
use Rattle.std.specs.Option.{option_map_or}
use Rattle.linear_fold.specs.InsideOwnerFolds.{HasOwner}
use Rattle.linear_fold.proofs.BodyLemmas.{at_position}
use Rattle.linear_fold.proofs.owners.expression_of.Goals as goal
use Rattle.linear_fold.proofs.owners.expression_of.Goals.{After-index-defs-index}

here : (c : After-index-defs-index) → slice_get c.args.file.now.definitions c.in-Def.index ≡ Some c.index-defs-index.result
here c =
    let below = subst (HasOwner c.args.file.now) c.in-Def.is c.requires in
    at_position c.args.file.now.definitions c.defs.result.now c.defs.ensures c.in-Def.index c.index-defs-index.result
    (subst (λ xs. c.in-Def.index < length xs) (sym c.defs.ensures) below) c.index-defs-index.is

pub returns-in-Def-clause-tree : goal.returns-in-Def-clause-tree
returns-in-Def-clause-tree c = rw c.in-Def.is (ap (option_map (λ d. d.tree)) (sym (here c)))

pub returns-in-Def-clause-terms : goal.returns-in-Def-clause-terms
returns-in-Def-clause-terms c = rw c.in-Def.is (ap (λ x. option_map_or (λ d. d.terms) x []) (sym (here c)))
