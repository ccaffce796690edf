use Rattle.std.proofs.Common.{◌∙◌, arith}
use Rattle.row_scaling.proofs.AddLemmas.{can_put_row, row_put}
use Rattle.row_scaling.proofs.rows.add_listed_rows.Goals as goal

pub add_row-requires : goal.add_row-requires
add_row-requires c =
    can_put_row c.args.n c.args.rows.now c.args.builder.now c.loop-i.builder c.loop-i.i c.index-rows-i.result
    c.in-Some.factored _ c.loop-i.invariant (omega arith) c.requires.short c.index-rows-i.is c.in-Some.is
    c.requires.few (c.in_ok-name_of.ensures ∙ c.row_name-name.ensures.text)

pub loop-i-preserved : goal.loop-i-preserved
loop-i-preserved c =
    row_put c.args.n c.args.rows.now c.args.builder.now c.loop-i.builder c.add_row.new.self c.loop-i.i
    c.index-rows-i.result c.in-Some.factored _ c.kind_of-kind.result c.loop-i.invariant
    (omega (arith, c.requires.small)) (omega arith) c.index-rows-i.is c.in-Some.is
    (c.in_ok-name_of.ensures ∙ c.row_name-name.ensures.text) c.kind_of-kind.ensures c.in_ok-add_row.ensures.ok
