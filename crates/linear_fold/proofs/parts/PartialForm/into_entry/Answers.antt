use Rattle.std.proofs.Common.{subst}
use Rattle.linear_program.specs.Forms.{form_line}
use Rattle.linear_fold.specs.InsideFolds.{IsPartWithin}
use Rattle.linear_fold.proofs.SumLemmas.{neg_zero_from}
use Rattle.linear_fold.proofs.parts.PartialForm.into_entry.Goals as goal

pub opposite_form-requires : goal.opposite_form-requires
opposite_form-requires g c = neg_zero_from c.args.variables (form_line c.in-Opposite.form) (subst (IsPartWithin c.args.variables) c.in-Opposite.is c.requires).zero_from
