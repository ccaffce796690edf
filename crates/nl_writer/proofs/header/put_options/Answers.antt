use Rattle.std.proofs.Common.{rules, length}
use Rattle.std.specs.Prelude.{codes}
use Rattle.std.specs.Fmt.{signed_decimal}
use Rattle.nl_writer.specs.Written.{lettered}
use Rattle.written_texts.proofs.Writing.{words_written}
use Rattle.nl_writer.proofs.header.put_options.Goals as goal

pub returns : goal.returns
returns c = words_written (lettered (codes "g") (length c.args.options.now)) signed_decimal c.args.options.now
    c.args.out.now.items c.put_lettered.new.out.items c.put_next_options.new.out.items _ (search rules)
    c.in_ok-put_next_options.ensures (search rules)
