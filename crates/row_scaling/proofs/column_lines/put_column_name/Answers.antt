use Rattle.std.proofs.Common.{◌∙◌, ◌++◌, ap}
use Rattle.std.proofs.lemmas.List.{append-nil}
use Rattle.mps_writer.specs.Names.{name_bytes}
use Rattle.row_scaling.proofs.LineLemmas.{name_is}
use Rattle.row_scaling.proofs.column_lines.put_column_name.Goals as goal

pub returns-clause-text : goal.returns-clause-text
returns-clause-text c = λ s h.
    c.put_name.ensures ∙ ap (λ w. name_bytes c.column_name.result ++ w) c.clear.ensures ∙ append-nil (name_bytes c.column_name.result)
    ∙ name_is s c.args.heads.now h c.args.j c.requires _ c.column_name.ensures.text
