use Rattle.exact_numbers.specs.Values.{frac_value}
use Rattle.exact_numbers.proofs.Bridge.{subtracted}
use Rattle.exact_numbers.proofs.frac.Frac.sub.Goals as goal

pub returns : goal.returns
returns c = subtracted c.add.result (frac_value c.args.self) (frac_value c.neg.result) (frac_value c.args.other) c.neg.ensures c.add.ensures
