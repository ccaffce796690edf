use Rattle.std.proofs.Common.{⊎_elim, ◌≡◌, pos}
use Rattle.std.proofs.lemmas.Int.{to_z-of_z}
use Rattle.exact_numbers.specs.Values.{frac_value}
use Rattle.linear_fold.proofs.ConstantLemmas.{whole_fits, whole_is}
use Rattle.linear_fold.proofs.constants.whole.Goals as goal

pub unreachable-requires : goal.unreachable-requires
unreachable-requires c = ⊎_elim (λ (e : pos 1 ≡ pos 0). cc) (whole_fits c.args.num _ (to_z-of_z _ c.args.num c.ranges.num) c.requires) (c.in-None.ensures)

pub returns : goal.returns
returns c = whole_is c.args.num _ (frac_value c.in-Some.number) (to_z-of_z _ c.args.num c.ranges.num) c.in-Some.ensures.2
