use Rattle.std.proofs.Common.{◌∙◌, ap}
use Rattle.exact_numbers.specs.Rational.{neg_ℚ}
use Rattle.mps_model.specs.Mps.{rhs_at}
use Rattle.mps_program.specs.Program.{values_of}
use Rattle.mps_import.proofs.build.constant_of.Goals as goal

pub returns : goal.returns
returns c = c.neg.ensures ∙ ap neg_ℚ (c.right_side-side.ensures ∙ ap (rhs_at (values_of c.args.mps.now)) c.requires)
