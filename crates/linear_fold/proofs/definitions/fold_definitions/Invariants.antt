use Rattle.std.proofs.Common.{◌≤◌, ◌+◌, ◌*◌, length, take}
use Rattle.nl_model.specs.declared.at.Owner.TheVariants.{Def as OfDefinition}
use Rattle.linear_fold.specs.InsideOwnerFolds.{HasFolded, definitions_size, owned_at}
use Rattle.linear_fold.proofs.BodyLemmas.{LeftOwners}
use Rattle.linear_fold.proofs.definitions.fold_definitions.Given as goal

abbrev pub invariant-loop-index : goal.invariant-loop-index
invariant-loop-index g l =
    record {
      folder_now : HasFolded l.file (take l.index l.file.definitions) l.folder;
      left : LeftOwners l.file l.fn.folder.count (λ i. owned_at l.file (OfDefinition i)) (length l.file.definitions) l.folder.count l.index;
      above : l.fn.steps ≤ l.steps;
      below : l.steps ≤ l.fn.steps + 2 * (l.file.counts.n_var + 1) * definitions_size (take l.index l.file.definitions);
    }
