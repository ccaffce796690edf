use Rattle.std.proofs.Common.{◌∙◌, ap, sym}
use Rattle.text_base.specs.Judged.{first_reason}
use Rattle.sol_files.specs.Standing.{Standing}
use Rattle.sol_files.specs.Tests.{end_tests}
use Rattle.sol_files.proofs.StandingLemmas.{standing-held}
use Rattle.sol_files.proofs.grammar.SolGrammarGrammar.finish.Goals as goal

pub returns-in-Ok-clause-value : goal.returns-in-Ok-clause-value
returns-in-Ok-clause-value c = λ lines e. c.in-Ok.ensures.sol.0 ∙ sym (ap (λ (s : Standing). s.sol) (standing-held c.args.self lines e))

pub returns-in-Ok-clause-fine : goal.returns-in-Ok-clause-fine
returns-in-Ok-clause-fine c = λ lines e. ap (λ (s : Standing). first_reason (end_tests s)) (standing-held c.args.self lines e) ∙ c.in-Ok.ensures.sol.1

pub returns-in-Err-clause-fault : goal.returns-in-Err-clause-fault
returns-in-Err-clause-fault c = λ lines e. ap (λ (s : Standing). first_reason (end_tests s)) (standing-held c.args.self lines e) ∙ c.in-Err.ensures.fault
