use Rattle.std.proofs.Common.{◌≡◌, ◌∙◌, arith}
use Rattle.exact_checks.specs.Programs.{program_value}
use Rattle.certificate_judge.proofs.Beginnings.{at_begins}
use Rattle.certificate_judge.proofs.path.Path.new.Goals as goal

pub returns-clause-at : goal.returns-clause-at
returns-clause-at c =
    let last : c.loop-var.var ≡ c.n_var-var-end.result = omega (arith, c.loop-var-test.false, c.loop-var.auto.var-end) in
    at_begins (program_value c.args.program.now) (record {
      lo = c.loop-var.lo;
      hi = c.loop-var.hi;
      added =
          c.in_ok-added.added;
      lemmas = c.in_ok-lemmas.lemmas;
      steps = c.in_ok-steps.steps;
    }) c.loop-var.var
    (last ∙ c.n_var-var-end.ensures) c.loop-var.invariant.lower c.loop-var.invariant.upper c.in_ok-added.ensures.items
    c.in_ok-lemmas.ensures.items c.in_ok-steps.ensures.items
