use Rattle.std.proofs.Common.{rules, pos, ◌≡◌, IsTrue, ◌↔◌, of_z, sym, ◌∙◌}
use mir.Syntax.{w128}
use lib.Dec.{eqb}
use Rattle.exact_numbers.proofs.Signs.{dec_zero}
use Rattle.exact_numbers.proofs.dec.Dec.is_zero.Goals as goal

pub returns : goal.returns
returns c =
    let test : IsTrue (eqb (of_z w128 c.m.result) 0) ↔ (c.m.result ≡ pos 0) = search rules in
    let link = dec_zero c.args.self.m c.args.self.e in
    (λ t. link.0 (sym c.m.ensures ∙ test.0 t), λ e. test.1 (c.m.ensures ∙ link.1 e))
