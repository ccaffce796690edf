use Rattle.std.proofs.Common.{List, ap, subst, sym, ℕ}
use Rattle.mps_reader.specs.InsideHeld.{Held}
use Rattle.mps_reader.specs.InsideLines.{IsColumnBound}
use Rattle.mps_reader.proofs.FrontEntries.{found_number}
use Rattle.mps_reader.proofs.state.State.short_bound.Goals as goal

pub returns : goal.returns
returns c =
    subst (λ (names : List (List ℕ)). IsColumnBound names c.args.kind c.args.text.now c.in-Some-find_front.column
    c.in-Some-first_number.number.value c.in-Some-first_number.number.rest.now)
    (ap (λ (h : Held). h.columns) c.self.view_is)
    (found_number c.self.inside.columns c.args.kind c.args.text.now c.in-Some-find_front.behind.now
    c.in-Some-first_number.number.rest.now c.in-Some-find_front.column c.in-Some-first_number.number.value
    (sym c.if-not-needs_number.ensures) c.in-Some-find_front.ensures c.in-Some-first_number.ensures)
