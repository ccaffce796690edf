use Rattle.exact_numbers.specs.Values.{dec_value, order_of}
use Rattle.mps_import.proofs.PartLemmas.{choose_equal, choose_other}
use Rattle.mps_import.proofs.build.compares.Goals as goal

pub returns-then-equal : goal.returns-then-equal
returns-then-equal c = choose_equal c.args.equal c.are_equal.result (order_of (dec_value c.args.lower) (dec_value c.args.upper)) c.if-equal.true c.are_equal.ensures

pub returns-else-equal : goal.returns-else-equal
returns-else-equal c = choose_other c.args.equal c.are_equal-else-equal.result (order_of (dec_value c.args.lower) (dec_value c.args.upper)) c.if-equal.false c.are_equal-else-equal.ensures
