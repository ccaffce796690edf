use Rattle.std.proofs.Common.{◌+◌, ◌≤◌, ◌^◌, ◌++◌, arith, subst, sym, take}
use Rattle.std.proofs.lemmas.List.{length-take}
use Rattle.text_base.specs.Fronts.{TakesFront}
use Rattle.text_base.specs.Reading.{IsGoing}
use Rattle.text_base.proofs.FrontLemmas.{front_few, going-front}
use Rattle.text_base.proofs.reader.Reader.take_front.Goals as goal

pub pass-requires-clause-few : goal.pass-requires-clause-few
pass-requires-clause-few g c = let h = c.take_front-front.ensures.front in front_few c.split_at.result.0.now c.take_front-front.result h.lines h.is

pub returns-clause-goes : goal.returns-clause-goes
returns-clause-goes g c = λ text going.
    let rules = g.G.Grammar.rules (g.G.Grammar.setting c.args.self.now.grammar) in
    let took = g.G.Grammar.took c.args.self.now.grammar in
    let now = g.G.Grammar.took c.take_front-front.new.self in
    let between = c.is_between.ensures c.if-not-is_between.false in
    let front = c.take_front-front.result in
    let number = c.next_number.result in
    let most = c.min-most.result in
    let h : TakesFront rules took now (take most c.args.piece.now) number front =
    subst (λ bytes. TakesFront rules took now bytes number front) c.split_at.ensures.front
    c.take_front-front.ensures.front in
    let room : c.args.self.now.lines.total + front.len ≤ 2 ^ 31 = omega (arith, h.is.within, length-take most c.args.piece.now, c.min-most.ensures, c.room.ensures) in
    subst (λ s. IsGoing rules now s (text ++ take front.len c.args.piece.now)) (sym c.pass.ensures)
    (going-front rules took now c.args.self.now.lines number front most c.args.piece.now text between.0 between.1 c.next_number.ensures.value room h going)
