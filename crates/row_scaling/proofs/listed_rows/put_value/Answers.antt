use Rattle.mps_writer.specs.Names.{name_bytes}
use Rattle.row_scaling.proofs.LineLemmas.{value_written}
use Rattle.row_scaling.proofs.listed_rows.put_value.Goals as goal

pub returns : goal.returns
returns c = value_written c.args.word.now (name_bytes c.args.name.now) c.args.value c.in-Some.number c.args.out.now c.put_entry.new.out c.in-Some.is c.in_ok-put_entry.ensures
