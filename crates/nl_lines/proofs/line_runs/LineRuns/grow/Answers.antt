use Rattle.std.proofs.Common.{◌≡◌, ◌+◌, ◌-◌, ◌≤◌, arith, refl}
use Rattle.std.proofs.lemmas.Bool.Decides.{nat_tests}
use Rattle.nl_lines.proofs.RunLemmas.{grown}
use Rattle.nl_lines.proofs.line_runs.LineRuns.grow.Goals as goal

pub returns : goal.returns
returns c =
    let some : c.self.inside.last.first ≤ c.self.inside.last.last = grind (arith, nat_tests, c.if-self.false) in
    let last : c.args.line + (c.args.count - 1) + 1 ≡ c.args.line + c.args.count = grind (arith, nat_tests, c.if-count-eq0.false) in
    grown c.args.self.now c.self.inside.earlier c.self.inside.last _ c.args.line c.args.count c.self.view_is c.requires.next some refl last
