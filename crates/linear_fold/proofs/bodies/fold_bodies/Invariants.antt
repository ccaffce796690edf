use Rattle.std.proofs.Common.{◌≡◌, ◌≤◌, ◌+◌, ◌*◌, false, length, take}
use Rattle.nl_model.specs.declared.at.Owner.TheVariants.{Con as OfConstraint}
use Rattle.linear_fold.specs.InsideHeldBodies.{AreStillDecimals, completed}
use Rattle.linear_fold.specs.InsideOwnerFolds.{AreBodiesOf, HasFolded, bodies_size, coefficients_of, owned_at}
use Rattle.linear_fold.proofs.BodyLemmas.{LeftOwners}
use Rattle.linear_fold.proofs.bodies.fold_bodies.Given as goal

abbrev pub invariant-loop-con : goal.invariant-loop-con
invariant-loop-con g l =
    record {
      folder_now : HasFolded l.file l.file.definitions l.folder;
      left : LeftOwners l.file l.fn.folder.count (λ i. owned_at l.file (OfConstraint i)) l.file.counts.n_con l.folder.count l.con;
      bodies_are : AreBodiesOf l.file 0 (completed l.held.items l.file.terms l.forms.items);
      still : AreStillDecimals l.held.items l.file.terms;
      number : length l.forms.items ≡ l.con;
      marks : length l.held.items ≡ l.con;
      as_they_are : l.hold ≡ false → completed l.held.items l.file.terms l.forms.items ≡ l.forms.items;
      counted : l.folder.count ≡ l.fn.folder.count + coefficients_of (completed l.held.items l.file.terms l.forms.items);
      above : l.fn.steps ≤ l.steps;
      below : l.steps ≤ l.fn.steps + 2 * (l.file.counts.n_var + 1) * bodies_size (take l.con l.file.bodies) (take l.con l.file.terms);
    }
