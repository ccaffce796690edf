use Rattle.std.proofs.Common.{arith}
use Rattle.exact_numbers.specs.Values.{frac_value}
use Rattle.linear_program.specs.Forms.{form_line}
use Rattle.linear_fold.proofs.Operators.{few_of_form}
use Rattle.linear_fold.proofs.SumLemmas.{zero_comes}
use Rattle.linear_fold.proofs.operate.scaled_form.Goals as goal

pub returns-in-Ok-clause-below : goal.returns-in-Ok-clause-below
returns-in-Ok-clause-below g c = let few = few_of_form c.args.variables c.args.a.now c.requires c.in-Ok.ensures.ascending in let h = c.in-Ok.ensures.below in omega arith

pub returns-in-Err-Fault-clause-below : goal.returns-in-Err-Fault-clause-below
returns-in-Err-Fault-clause-below g c = let few = few_of_form c.args.variables c.args.a.now c.requires c.in-Err-Fault.ensures.ascending in let h = c.in-Err-Fault.ensures.below in omega arith

pub returns-in-Err-Memory-clause-below : goal.returns-in-Err-Memory-clause-below
returns-in-Err-Memory-clause-below g c = let few = few_of_form c.args.variables c.args.a.now c.requires c.in-Err-Memory.ensures.ascending in let h = c.in-Err-Memory.ensures.below in omega arith

pub returns-then-is_zero-clause-outcome : goal.returns-then-is_zero-clause-outcome
returns-then-is_zero-clause-outcome g c =
    let zero = zero_comes c.args.variables (frac_value c.args.k) (form_line c.args.a.now) (c.is_zero.ensures.0 c.if-is_zero.true) in
    (zero.0, zero.1, tt)
