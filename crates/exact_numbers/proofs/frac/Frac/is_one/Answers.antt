use Rattle.std.proofs.Common.{rules, pos, ◌≡◌}
use Rattle.std.proofs.lemmas.Bool.{eqb-true}
use Rattle.exact_numbers.proofs.Bridge.{one_is}
use Rattle.exact_numbers.proofs.frac.Frac.is_one.Goals as goal

pub returns-then-self-eq1 : goal.returns-then-self-eq1
returns-then-self-eq1 c t =
    let top : c.args.self.num ≡ pos 1 = search rules in
    one_is c.args.self top (eqb-true _ _ t)
