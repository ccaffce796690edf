use Rattle.std.proofs.Common.{◌≡◌, ◌++◌}
use Rattle.exact_numbers.specs.Written.{zeros}
use Rattle.written_texts.proofs.line_text.LineText.put_zeros.Given as goal

abbrev pub invariant-loop : goal.invariant-loop
invariant-loop g l = l.self ≡ zeros l.counter ++ l.fn.self
