use Rattle.nl_writer.specs.Written.{interval_line}
use Rattle.written_texts.proofs.Writing.{line_written}
use Rattle.nl_writer.proofs.intervals.put_sides.Goals as goal

pub loop-con-preserved : goal.loop-con-preserved
loop-con-preserved c = line_written interval_line c.args.file.now.sides c.loop-con.con c.side.result
    c.loop-con.out.items c.put_interval.new.out.items _ c.side.ensures c.loop-con.invariant c.in_ok-put_interval.ensures
