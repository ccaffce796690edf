use Rattle.nl_writer.specs.Written.{interval_line}
use Rattle.written_texts.proofs.Writing.{line_written}
use Rattle.nl_writer.proofs.intervals.put_bounds.Goals as goal

pub loop-var-preserved : goal.loop-var-preserved
loop-var-preserved c = line_written interval_line c.args.file.now.bounds c.loop-var.var c.bound.result
    c.loop-var.out.items c.put_interval.new.out.items _ c.bound.ensures c.loop-var.invariant c.in_ok-put_interval.ensures
