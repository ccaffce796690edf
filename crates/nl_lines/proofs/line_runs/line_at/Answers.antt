use Rattle.std.proofs.Common.{◌∙◌, ◌+◌, ◌≡◌, [], arith, refl, suc, sym}
use Rattle.nl_lines.specs.declared.line_runs.LineRun.{LineRun}
use Rattle.nl_lines.specs.InsideLineRuns.{lines_in}
use Rattle.nl_lines.proofs.RunLemmas.{found_after, found_in, nothing_there, only_last}
use Rattle.nl_lines.proofs.line_runs.line_at.Goals as goal

pub returns-in-Ok : goal.returns-in-Ok
returns-in-Ok c =
    let d : LineRun = record { first = 0; last = 0 } in
    found_in c.args.earlier.now c.loop-run.run-index d _ (lines_in c.args.last) c.loop-run.left c.in-Ok.line _ c.loop-run-test.true refl c.in-Ok.ensures c.loop-run.invariant

pub loop-run-preserved : goal.loop-run-preserved
loop-run-preserved c =
    let d : LineRun = record { first = 0; last = 0 } in
    let i = c.loop-run.run-index in
    let after : i + 1 ≡ suc i = omega arith in
    found_after c.args.earlier.now i (i + 1) d _ (lines_in c.args.last) c.loop-run.left c.in-Err.next _ after c.loop-run-test.true refl c.in-Err.ensures c.loop-run.invariant

pub returns-in-Ok-line_in : goal.returns-in-Ok-line_in
returns-in-Ok-line_in c =
    sym (c.in-Ok-line_in.ensures []) ∙ only_last c.args.earlier.now c.loop-run.run-index c.loop-run.left (lines_in c.args.last) _ (omega (arith, c.loop-run-test.false)) c.loop-run.invariant

pub returns-in-Err-line_in : goal.returns-in-Err-line_in
returns-in-Err-line_in c =
    let left = c.in-Err-line_in.field-0 in
    sym (c.in-Err-line_in.ensures [] ∙ nothing_there [] left refl)
    ∙ only_last c.args.earlier.now c.loop-run.run-index c.loop-run.left (lines_in c.args.last) _ (omega (arith, c.loop-run-test.false)) c.loop-run.invariant
