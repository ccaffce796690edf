use Rattle.std.proofs.Common.{subst, sym}
use Rattle.std.specs.Prelude.{IfSome}
use Rattle.mps_words.specs.declared.keyword.Keyword.{Keyword}
use Rattle.mps_words.specs.declared.keyword.Keyword.TheVariants.{Bounds, Ranges, Rhs}
use Rattle.mps_reader.specs.InsideLines.{IsAfterHead}
use Rattle.mps_reader.proofs.FrontLines.{set_of_sides, some_more}
use Rattle.mps_reader.proofs.state.State.after_head.Goals as goal

pub returns-in-Columns : goal.returns-in-Columns
returns-in-Columns c =
    subst (λ (k : Keyword). IfSome c.after_column.result (λ rest. IsAfterHead k c.args.self.now c.args.text.now rest.now)) (sym c.in-Columns.is) c.after_column.ensures

pub returns-in-Rhs : goal.returns-in-Rhs
returns-in-Rhs c =
    subst (λ (k : Keyword). IfSome c.after_set.result (λ rest. IsAfterHead k c.args.self.now c.args.text.now rest.now)) (sym c.in-Rhs.is)
    (some_more c.after_set.result (λ rest. IsAfterHead Bounds c.args.self.now c.args.text.now rest.now)
    (λ rest. IsAfterHead Rhs c.args.self.now c.args.text.now rest.now)
    (λ rest o. (set_of_sides c.args.self.now c.args.text.now rest.now o).0) c.after_set.ensures)

pub returns-in-Ranges : goal.returns-in-Ranges
returns-in-Ranges c =
    subst (λ (k : Keyword). IfSome c.after_set-in-Ranges.result (λ rest. IsAfterHead k c.args.self.now c.args.text.now rest.now)) (sym c.in-Ranges.is)
    (some_more c.after_set-in-Ranges.result (λ rest. IsAfterHead Bounds c.args.self.now c.args.text.now rest.now)
    (λ rest. IsAfterHead Ranges c.args.self.now c.args.text.now rest.now)
    (λ rest o. (set_of_sides c.args.self.now c.args.text.now rest.now o).1) c.after_set-in-Ranges.ensures)
