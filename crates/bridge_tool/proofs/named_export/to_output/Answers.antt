use Rattle.std.proofs.Common.{sym, subst}
use Rattle.nl_segments.specs.Reader.{value_of}
use Rattle.row_scaling.specs.Exported.{scaled_as}
use Rattle.bridge_tool.specs.NamedExport.{AreNamedMeant, IsNamedExport, Named}
use Rattle.bridge_tool.proofs.NamedExporting.{written_so, export_named, named_meant}
use Rattle.command_parts.proofs.ExportStages.{exports_so}
use Rattle.bridge_tool.proofs.named_export.to_output.Goals as goal

pub write_named-requires : goal.write_named-requires
write_named-requires g c =
    let exports = exports_so (value_of c.args.read) c.args.objective c.in_ok-linear.linear c.in_ok-linear.ensures.folds c.in_ok-scaled.scaled c.in_ok-scaled.ensures in
    export_named c.args.read.file c.args.objective (scaled_as c.in_ok-scaled.scaled) _ _ c.in_ok-linear.ensures.file exports c.requires.rows c.requires.columns

pub returns-clause-comes : goal.returns-clause-comes
returns-clause-comes g c = λ n is.
    let own : Named = record { nl = value_of c.args.read; objective = c.args.objective; rows = c.args.rows.now; columns = c.args.columns.now } in
    subst (λ (x : Named). IsNamedExport x c.in_ok-out.out.items) (sym is)
    (written_so own c.in_ok-linear.linear c.in_ok-scaled.scaled c.in_ok-out.out.items c.in_ok-linear.ensures.folds c.in_ok-scaled.ensures c.in_ok-out.ensures)

pub returns-clause-means : goal.returns-clause-means
returns-clause-means g c = λ n is.
    let own : Named = record { nl = value_of c.args.read; objective = c.args.objective; rows = c.args.rows.now; columns = c.args.columns.now } in
    let exports = exports_so (value_of c.args.read) c.args.objective c.in_ok-linear.linear c.in_ok-linear.ensures.folds c.in_ok-scaled.scaled c.in_ok-scaled.ensures in
    subst AreNamedMeant (sym is) (named_meant own (scaled_as c.in_ok-scaled.scaled) c.in_ok-out.out.items c.in_ok-linear.ensures.file exports c.in_ok-out.ensures)
