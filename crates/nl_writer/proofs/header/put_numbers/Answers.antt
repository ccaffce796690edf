use Rattle.std.proofs.Common.{rules}
use Rattle.std.specs.Fmt.{decimal}
use Rattle.written_texts.proofs.Writing.{words_written}
use Rattle.nl_writer.proofs.header.put_numbers.Goals as goal

pub returns : goal.returns
returns c = words_written (decimal c.args.first) decimal c.args.others.now c.args.out.now.items
    c.put_number.new.out.items c.put_next_numbers.new.out.items _ c.in_ok-put_number.ensures
    c.in_ok-put_next_numbers.ensures (search rules)
