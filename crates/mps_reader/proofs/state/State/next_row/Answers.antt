use Rattle.std.proofs.Common.{◌∙◌, ◌<◌, ◌^◌, ap, arith, length, sym}
use Rattle.mps_reader.specs.InsideHeld.{Held}
use Rattle.mps_reader.specs.Saying.{place_of}
use Rattle.mps_reader.proofs.FrontAdded.{next_is_row, row_can}
use Rattle.mps_reader.proofs.state.State.next_row.Goals as goal

pub returns-clause-next : goal.returns-clause-next
returns-clause-next c =
    let few : length c.args.self.now.rows < 2 ^ 21 = omega (arith, c.takes.ensures.room c.if-not-takes.false, ap (λ (h : Held). length h.rows) c.self.view_is) in
    next_is_row c.args.self.now c.args.text.now c.in-Some.row.name.now c.in-Some.row.rest.now c.in-Some.row.kind
    c.requires.sound.kept c.requires.current c.in-Some.ensures (sym c.if-is_marker_word.ensures)
    (ap (λ (h : Held). place_of h.rows c.in-Some.row.name.now) (sym c.self.view_is)
    ∙ c.takes.ensures.new c.if-not-takes.false) few

pub returns-clause-name : goal.returns-clause-name
returns-clause-name c = c.in-Some.ensures.is_name

pub returns-clause-can : goal.returns-clause-can
returns-clause-can c =
    let few : length c.args.self.now.rows < 2 ^ 21 = omega (arith, c.takes.ensures.room c.if-not-takes.false, ap (λ (h : Held). length h.rows) c.self.view_is) in
    row_can c.args.self.now c.args.text.now c.in-Some.row.name.now c.in-Some.row.rest.now c.in-Some.row.kind
    c.requires.sound.kept c.in-Some.ensures (sym c.if-is_marker_word.ensures)
    (ap (λ (h : Held). place_of h.rows c.in-Some.row.name.now) (sym c.self.view_is)
    ∙ c.takes.ensures.new c.if-not-takes.false) few

pub returns-clause-new : goal.returns-clause-new
returns-clause-new c = ap (λ (h : Held). place_of h.rows c.in-Some.row.name.now) (sym c.self.view_is) ∙ c.takes.ensures.new c.if-not-takes.false
