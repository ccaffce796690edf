use Rattle.std.proofs.Common.{slice_index_or, ◌∙◌, sym, arith}
use Rattle.std.proofs.lemmas.List.{length-set}
use Rattle.text_base.specs.Words.{texts}
use Rattle.nl_header.specs.Head.{no_field_row, number_after}
use Rattle.nl_header.proofs.HeadLemmas.{set-done, set-rest, put_in-each}
use Rattle.nl_header.proofs.number_line.put_numbers.Goals as goal

pub rows-preserved : goal.rows-preserved
rows-preserved g c = record {
  done = set-done c.rows.i c.rows.numbers c.args.numbers.now _ (λ k n. number_after (slice_index_or c.args.table.now.rows k no_field_row) c.args.line (texts c.args.words.now) n)
      (omega (arith, c.rows-test.true, c.rows.invariant.size, c.told-numbers)) c.rows.invariant.done c.rows.invariant.rest c.number_after-number.ensures;
  size = length-set _ _ _ ∙ c.rows.invariant.size;
  rest = set-rest _ _ _ _ c.rows.invariant.rest;
}

pub returns : goal.returns
returns g c =
    put_in-each _ _ _ _ _ (c.requires ∙ sym c.told-numbers) c.rows.invariant.size
    (λ k lt. c.rows.invariant.done k (omega (arith, lt, c.told-numbers, c.rows-test.false)))
