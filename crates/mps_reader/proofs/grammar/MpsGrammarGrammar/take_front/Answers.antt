use Rattle.std.proofs.Common.{◌≡◌, subst}
use Rattle.text_base.specs.Fronts.{TakesFront}
use Rattle.mps_reader.specs.Grammar.{mps_rules, standing}
use Rattle.mps_reader.specs.Tests.{Standing}
use Rattle.mps_reader.proofs.FrontLines.{front_taken}
use Rattle.mps_reader.proofs.grammar.MpsGrammarGrammar.take_front.Goals as goal

pub returns-clause-front : goal.returns-clause-front
returns-clause-front c =
    subst (λ (s : Standing). TakesFront mps_rules (λ lines. s ≡ standing lines)
    (λ lines. c.take_front-taken.new.self.standing ≡ standing lines) c.args.piece.now c.args.number
    c.take_front-taken.result.front) c.self.view_is
    (front_taken c.self.inside.state c.take_front-taken.new.self c.args.piece.now c.args.number c.take_front-taken.result.front c.take_front-taken.ensures.lines)
