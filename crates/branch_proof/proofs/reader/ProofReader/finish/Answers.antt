use Rattle.branch_proof.specs.contracts.reader.ProofReader.{the_view}
use Rattle.branch_proof.proofs.ReadingLemmas.{proof_read}
use Rattle.branch_proof.proofs.reader.ProofReader.finish.Goals as goal

pub returns-clause-proof : goal.returns-clause-proof
returns-clause-proof c = proof_read (the_view c.self.inside) c.args.self c.finish.result c.self.view_is c.finish.ensures.reads
