use Rattle.std.proofs.Common.{◌∙◌, ap, sym}
use Rattle.sol_files.specs.Standing.{Standing}
use Rattle.sol_files.specs.Tests.{fault_refusal}
use Rattle.sol_files.proofs.StandingLemmas.{standing-held}
use Rattle.sol_files.proofs.grammar.SolGrammarGrammar.line_fault.Goals as goal

pub returns : goal.returns
returns c = λ lines e. c.refuse.ensures ∙ sym (ap (λ (s : Standing). fault_refusal s c.args.fault) (standing-held c.args.self.now lines e))
