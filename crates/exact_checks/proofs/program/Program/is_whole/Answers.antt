use Rattle.std.proofs.Common.{◌<◌, ◌≤◌, ◌∙◌, ap, get_or, length, subst, sym}
use Rattle.std.proofs.lemmas.List.{get_or_past}
use Rattle.linear_program.specs.Intervals.{is_whole_kind}
use Rattle.linear_program.specs.declared.kind.Kind.TheVariants.{Continuous}
use Rattle.exact_checks.proofs.Rows.{variables_counted, whole_here}
use Rattle.exact_checks.proofs.program.Program.is_whole.Goals as goal

pub returns-in-Some : goal.returns-in-Some
returns-in-Some c =
    c.is_whole_kind.ensures
    ∙ ap is_whole_kind (c.in-Some.ensures.lookup.3.1 Continuous ∙ ap (λ ks. get_or ks c.args.var Continuous) c.deref.ensures.value)
    ∙ whole_here c.args.self.now c.args.var (subst (λ n. c.args.var < n) (variables_counted c.args.self.now) c.requires)

pub returns-in-None : goal.returns-in-None
returns-in-None c =
    sym (ap is_whole_kind (get_or_past c.args.self.now.kinds.items c.args.var Continuous (subst (λ ks. length ks ≤ c.args.var) c.deref.ensures.value c.in-None.ensures.lookup.3)))
    ∙ whole_here c.args.self.now c.args.var (subst (λ n. c.args.var < n) (variables_counted c.args.self.now) c.requires)
