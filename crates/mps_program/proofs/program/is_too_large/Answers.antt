use Rattle.std.proofs.Common.{◌∙◌, ap, length}
use Rattle.mps_model.specs.Valid.{entry_count}
use Rattle.mps_program.specs.Program.{constraints}
use Rattle.mps_program.proofs.FaultLemmas.{large_is}
use Rattle.mps_program.proofs.program.is_too_large.Goals as goal

pub returns-clause-value : goal.returns-clause-value
returns-clause-value c =
    large_is c.args.mps.now c.count_constraints-constraints.result (length c.columns-columns.result.now) c.count_entries.result c.is_beyond.result
    (c.count_constraints-constraints.ensures ∙ ap (λ rs. length (constraints rs)) c.rows.ensures.value)
    (ap length c.columns-columns.ensures.value)
    (c.count_entries.ensures ∙ ap entry_count c.columns-columns.ensures.value)
    c.is_beyond.ensures
