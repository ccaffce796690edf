use Rattle.std.specs.List.{flat_map}
use Rattle.nl_segments.specs.Reader.{value_of}
use Rattle.bridge_tool.proofs.Exporting.{export_meant, exported_so}
use Rattle.bridge_tool.proofs.export.to_output.Goals as goal

pub returns-clause-comes : goal.returns-clause-comes
returns-clause-comes g c =
    exported_so (value_of c.args.read) c.args.objective c.in_ok-linear.linear c.in_ok-scaled.scaled
    (flat_map (λ p. p.items) c.in_ok-out.out.items) c.in_ok-linear.ensures.folds c.in_ok-scaled.ensures
    c.in_ok-out.ensures

pub returns-clause-means : goal.returns-clause-means
returns-clause-means g c = export_meant (value_of c.args.read) c.args.objective c.in_ok-linear.ensures.file
