-- What folding a file with one of its objectives answers.
use Rattle.std.specs.Prelude.{◌≡◌, ◌+◌, ◌≤◌, ℕ, Some, None, false}
use Rattle.nl_model.specs.FoldFaults.{fold_fault, has_objective}
use Rattle.nl_model.specs.LinearFile.{linear_of, HasLines}
use Rattle.linear_program.specs.Programs.{LinearValue, linear_value}
use Rattle.nl_model.specs.File.{File}
use Rattle.nl_model.specs.Kinds.{kinds_in}
use Rattle.linear_fold.specs.FoldedFaults.{first_fold_fault, HasFaultPlace, step_bound}
use Rattle.linear_fold.specs.declared.fold_fault.FoldFault.{FoldFault}

-- the linear program of the file with objective k; sides, bounds and kinds are the file's own
pub record IsLinearOf (f : File) (k : ℕ) (l : LinearValue) : Type 0 where
  pub linear : linear_value l ≡ linear_of f k
  pub number : l.number ≡ k
  pub sides : l.sides ≡ f.sides
  pub bounds : l.bounds ≡ f.bounds
  pub kinds : l.kinds ≡ kinds_in f

-- the file has no fault, and at every assignment each body and the objective have the values of
-- their forms
pub record FoldsWith (f : File) (k : ℕ) : Type 0 where
  pub fine : fold_fault f k ≡ None
  pub values : HasLines f k

-- the first fault of the file, at a place of it
pub record IsFirstFault (f : File) (k : ℕ) (fault : FoldFault) : Type 0 where
  pub first : first_fold_fault f k ≡ Some fault
  pub place : HasFaultPlace f fault

-- the steps before and after: none is counted where there is no such objective
pub record AreFoldSteps (f : File) (k before after : ℕ) : Type 0 where
  pub above : before ≤ after
  pub below : after ≤ before + step_bound f
  pub none : has_objective f k ≡ false → after ≡ before
