use Rattle.std.proofs.Common.{◌≡◌, ℕ, ◌<◌, ◌≤◌, length, slice_index, slice_index_or}
use Rattle.text_base.specs.Words.{texts}
use Rattle.nl_header.specs.Head.{no_field_row, number_after}
use Rattle.nl_header.proofs.number_line.put_numbers.Given as goal

abbrev pub invariant-rows : goal.invariant-rows
invariant-rows g l = record {
  done : (k : ℕ) → k < l.i → slice_index l.numbers k ≡ number_after (slice_index_or l.table.rows k no_field_row) l.line (texts l.words) (slice_index l.fn.numbers k);
  size : length l.numbers ≡ length l.fn.numbers;
  rest : (k : ℕ) → l.i ≤ k → slice_index l.numbers k ≡ slice_index l.fn.numbers k;
}
