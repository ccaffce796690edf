use Rattle.std.proofs.Common.{length, sym, subst}
use Rattle.name_files.specs.Renamed.{HasExportedNames}
use Rattle.bridge_tool.proofs.NamedExporting.{decimal_names, named_text}
use Rattle.bridge_tool.proofs.named_export.write_named.Goals as goal

pub renamed-requires : goal.renamed-requires
renamed-requires c = decimal_names _ _ c.in_ok-plain.plain (subst (HasExportedNames (length c.args.rows.now) (length c.args.columns.now)) (sym c.in_ok-plain.ensures) c.requires)

pub returns : goal.returns
returns c = named_text _ _ c.in_ok-plain.plain c.in_ok-mps.mps _ _ c.in_ok-plain.ensures c.in_ok-mps.ensures c.rows.ensures.valid c.in_ok-out.ensures.text
