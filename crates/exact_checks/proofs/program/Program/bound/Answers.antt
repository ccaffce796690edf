use Rattle.std.proofs.Common.{◌∙◌, ap, ap₂}
use Rattle.exact_checks.specs.Programs.{bounds_in}
use Rattle.exact_checks.proofs.Rows.{own_bounds}
use Rattle.exact_checks.proofs.program.Program.bound.Goals as goal

pub returns : goal.returns
returns c =
    c.interval_at.ensures
    ∙ ap₂ (λ lo hi. bounds_in lo hi c.args.var) c.deref.ensures.value c.deref-2.ensures.value
    ∙ ap (λ box. box c.args.var) (own_bounds c.args.self.now)
