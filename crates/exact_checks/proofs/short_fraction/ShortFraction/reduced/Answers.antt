use Rattle.std.proofs.Common.{rules, ◌≡◌, pos, to_z}
use Rattle.std.specs.Int.{w128}
use Rattle.exact_checks.proofs.ShortLemmas.{reduced_is}
use Rattle.exact_checks.proofs.short_fraction.ShortFraction.reduced.Goals as goal

pub returns : goal.returns
returns c =
    let d : to_z w128 c.args.self.den ≡ pos c.args.self.den = search rules in
    reduced_is c.new.result c.args.self.num c.args.self.den _ _ (search rules) d c.args.self.size c.args.self.above c.args.self.small c.new.ensures
