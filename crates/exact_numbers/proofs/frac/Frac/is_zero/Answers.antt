use Rattle.std.proofs.Common.{rules, pos, ◌≡◌, IsTrue, ◌↔◌, of_z}
use mir.Syntax.{w128}
use lib.Dec.{eqb}
use Rattle.exact_numbers.proofs.Bridge.{zero_link}
use Rattle.exact_numbers.proofs.frac.Frac.is_zero.Goals as goal

pub returns : goal.returns
returns c =
    let test : IsTrue (eqb (of_z w128 c.args.self.num) 0) ↔ (c.args.self.num ≡ pos 0) = search rules in
    let link = zero_link c.args.self in
    (λ t. link.0 (test.0 t), λ e. test.1 (link.1 e))
