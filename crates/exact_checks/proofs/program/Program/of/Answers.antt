use Rattle.std.proofs.Common.{◌∙◌, ap, subst, map}
use Rattle.linear_program.specs.declared.form.Form.{Form}
use Rattle.exact_checks.specs.Built.{IsCopy}
use Rattle.exact_checks.proofs.Assembled.{sound, upper_count}
use Rattle.exact_checks.proofs.program.Program.of.Goals as goal

pub invariant_of-result : goal.invariant_of-result
invariant_of-result c =
    let l = c.args.linear.now in
    let copied = subst (λ (f : Form). IsCopy f c.in_ok-objective.objective) c.objective-form.ensures.objective c.in_ok-objective.ensures.copy in
    let lows = c.in_ok-lower.ensures ∙ ap (map (λ b. b.lo)) c.bounds-bounds.ensures in
    let highs = c.in_ok-upper.ensures ∙ ap (map (λ b. b.hi)) c.bounds-bounds.ensures in
    record {
      uppers = upper_count l c.objective-form.ensures.folded c.in_ok-rows.rows.items c.in_ok-objective.objective
          c.in_ok-lower.lower.items c.in_ok-upper.upper.items c.in_ok-rows.ensures.rows c.in_ok-rows.ensures.within copied
          c.in_ok-objective.ensures.ascending lows highs;
      sound = sound l c.objective-form.ensures.folded c.in_ok-rows.rows.items c.in_ok-objective.objective
          c.in_ok-lower.lower.items c.in_ok-upper.upper.items c.in_ok-rows.ensures.rows c.in_ok-rows.ensures.within copied
          c.in_ok-objective.ensures.ascending lows highs;
    }
