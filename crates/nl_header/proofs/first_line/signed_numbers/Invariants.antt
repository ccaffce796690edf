use Rattle.std.proofs.Common.{◌≡◌, ◌≤◌, length, take, filter_map}
use Rattle.text_base.specs.Words.{texts}
use Rattle.exact_numbers.specs.Numbers.{signed_of}
use Rattle.nl_header.proofs.first_line.signed_numbers.Given as goal

abbrev pub invariant-words : goal.invariant-words
invariant-words l = record {
  kept : l.options ≡ filter_map signed_of (texts (take l.word-index l.words));
  room : length l.options ≤ l.word-index;
}
