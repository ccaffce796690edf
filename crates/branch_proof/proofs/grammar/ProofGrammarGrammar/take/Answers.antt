use Rattle.branch_proof.specs.Tests.{proof_line_tests}
use Rattle.branch_proof.proofs.GrammarLemmas.{took_more}
use Rattle.branch_proof.proofs.grammar.ProofGrammarGrammar.take.Goals as goal

pub returns-clause-taken : goal.returns-clause-taken
returns-clause-taken c =
    took_more (proof_line_tests c.args.self.now.setting c.args.self.now.standing c.args.line.now) c.args.self.now
    c.take_line.new.self c.args.line.now c.args.number c.take_line.result c.take_line.ensures.row
