use Rattle.std.proofs.Common.{◌++◌, ◌∙◌, ap, append-nil, arith, sym}
use Rattle.std.specs.List.{flat_map}
use Rattle.row_scaling.specs.Parts.{name_in, rows_in}
use Rattle.text_base.specs.WordLines.{lines_text}
use Rattle.mps_writer.specs.Names.{name_bytes}
use Rattle.row_scaling.specs.InsideSections.{lines_in}
use Rattle.row_scaling.proofs.ColumnLemmas.{left_end, left_none}
use Rattle.row_scaling.proofs.LineLemmas.{next_written}
use Rattle.row_scaling.proofs.listed_rows.put_listed.Goals as goal

pub loop-i-preserved-in_default : goal.loop-i-preserved-in_default
loop-i-preserved-in_default c =
    ap (λ rs. c.loop-i.out ++ lines_text (flat_map (lines_in c.args.section) rs))
    (sym (left_none (name_in c.constraints-n.result) c.program_rows-rows.result.now c.loop-i.i c.index-rows-i.result
    (omega arith) c.index-rows-i.is c.in_default.is)) ∙ c.loop-i.invariant

pub loop-i-preserved : goal.loop-i-preserved
loop-i-preserved c =
    next_written (lines_in c.args.section) (name_in c.constraints-n.result) c.program_rows-rows.result.now c.loop-i.i
    c.index-rows-i.result c.in-Some.factored (name_bytes c.row_name-name.result) c.loop-i.out c.put_row_in.new.out _
    (omega arith) c.index-rows-i.is c.in-Some.is
    c.row_name-name.ensures.text c.loop-i.invariant c.in_ok-put_row_in.ensures

pub returns : goal.returns
returns c =
    sym (append-nil c.loop-i.out)
    ∙ ap (λ rs. c.loop-i.out ++ lines_text (flat_map (lines_in c.args.section) rs)) (sym (left_end (name_in c.constraints-n.result) c.program_rows-rows.result.now c.loop-i.i (omega arith)))
    ∙ c.loop-i.invariant
    ∙ ap (λ rs. c.args.out.now ++ lines_text (flat_map (lines_in c.args.section) rs))
    (ap (λ n. rows_in (name_in n) 0 c.program_rows-rows.result.now) c.constraints-n.ensures.value
    ∙ c.program_rows-rows.ensures.rows.named)
