use Rattle.std.proofs.Common.{◌≡◌, ◌+◌, ◌-◌, ◌++◌, length}
use Rattle.std.specs.Fmt.{decimal}
use Rattle.exact_numbers.specs.Written.{padded, with_point}
use Rattle.written_texts.proofs.line_text.LineText.put_places.Given as goal

abbrev pub invariant-loop : goal.invariant-loop
invariant-loop g l = record {
  rest : with_point (l.places - l.counter) (padded (l.places - l.counter) (decimal l.left)) ++ l.self ≡ with_point l.places (padded l.places (decimal l.number)) ++ l.fn.self;
  size : length l.self ≡ length l.fn.self + l.counter;
}
