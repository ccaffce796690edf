use Rattle.bridge_tool.proofs.DrawLemmas.{five_after, next_row, row_drawn}
use Rattle.bridge_tool.proofs.draws.Draws.row.Goals as goal

pub returns-clause-state : goal.returns-clause-state
returns-clause-state c = λ seed k at.
    next_row seed k _ _ _ _ _ (five_after seed k _ _ _ _ _ _ at c.draw-defining.ensures.state
    c.draw-linear.ensures.state c.draw-most.ensures.state c.draw-bound.ensures.state c.draw-slope.ensures.state)

pub returns-clause-row : goal.returns-clause-row
returns-clause-row c = λ seed k at.
    row_drawn seed k _ _ _ _ _ _ _ _ _ _
    (five_after seed k _ _ _ _ _ _ at c.draw-defining.ensures.state c.draw-linear.ensures.state c.draw-most.ensures.state c.draw-bound.ensures.state c.draw-slope.ensures.state)
    c.draw-defining.ensures.value c.draw-linear.ensures.value c.draw-most.ensures.value c.draw-bound.ensures.value c.draw-slope.ensures.value
