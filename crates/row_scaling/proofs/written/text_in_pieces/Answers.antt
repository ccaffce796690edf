use Rattle.row_scaling.proofs.written.text_in_pieces.Goals as goal

pub returns : goal.returns
returns c = c.with_columns.ensures c.args.scaled c.in_ok-first.ensures c.in_ok-last.ensures c.in_ok-heads.ensures c.in_ok-buckets.ensures
