use Rattle.std.proofs.Common.{◌∙◌}
use Rattle.problems.specs.Files.{IsProofIn}
use Rattle.problems.specs.NlSetting.{setting_of}
use Rattle.branch_proof.specs.Reader.{IsProofText}
use Rattle.branch_proof.proofs.TextTrees.{text_is_proof}
use Rattle.command_parts.specs.Refusal.{IsProofRefused}
use Rattle.command_core.specs.SeveralFiles.{itself}
use Rattle.command_parts.proofs.Opened.{known_of, setting_in}
use Rattle.command_parts.proofs.proof_input.open_proof.Goals as goal

pub returns-clause-reads : goal.returns-clause-reads
returns-clause-reads g c =
    c.open.ensures.reads_so (setting_of c.args.file.now)
    (setting_in c.args.file.now _ _ _ (c.counts-counts.ensures.value ∙ c.header.ensures.counts) c.in_ok-kinds.ensures c.in_ok-grammar.ensures.setting)

pub returns-clause-proof : goal.returns-clause-proof
returns-clause-proof g c =
    let s = setting_of c.args.file.now in
    known_of itself (IsProofText s) (IsProofRefused s c.args.number) (IsProofIn c.args.file.now) (text_is_proof s) c.args.name.now _ _ c.open.result
    (c.open.ensures.reads_so s
    (setting_in c.args.file.now _ _ _ (c.counts-counts.ensures.value ∙ c.header.ensures.counts) c.in_ok-kinds.ensures c.in_ok-grammar.ensures.setting))
