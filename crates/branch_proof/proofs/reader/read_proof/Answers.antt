use Rattle.branch_proof.specs.Setting.{setting_of}
use Rattle.branch_proof.proofs.ReadingLemmas.{proof_from}
use Rattle.branch_proof.proofs.reader.read_proof.Goals as goal

pub returns-clause-proof : goal.returns-clause-proof
returns-clause-proof c = proof_from (setting_of c.args.file.now) c.args.text.now c.in_ok-grammar.grammar.setting c.in_ok-grammar.ensures.setting c.read.result c.read.ensures
