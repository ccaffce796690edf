use Rattle.std.proofs.Common.{◌≡◌, ◌∙◌, ap, arith, length}
use Rattle.nl_model.proofs.KindRuns.{run_pushed, runs_done}
use Rattle.nl_model.proofs.kinds.all_kinds.Goals as goal

pub runs-preserved : goal.runs-preserved
runs-preserved c =
    let nine : length c.runs_of-runs.result ≡ 9 = ap length c.runs_of-runs.ensures in
    run_pushed c.runs_of-runs.result c.runs.i _ c.counts-counts.result.now.n_var c.runs.kinds.items
    c.push_run.new.kinds.items _ (let h = c.runs-test.true in omega (arith, nine)) c.runs.invariant.0
    c.runs.invariant.1 c.in_ok-push_run.ensures.items

pub returns : goal.returns
returns c =
    let nine : length c.runs_of-runs.result ≡ 9 = ap length c.runs_of-runs.ensures in
    runs_done c.counts-counts.result.now c.args.file.now.counts c.runs_of-runs.result c.runs.i c.runs.kinds.items
    c.resize.new.self.items (let h = c.runs-test.false in omega (arith, nine)) c.runs.invariant.0 c.runs.invariant.1
    c.runs_of-runs.ensures (c.counts-counts.ensures.value ∙ c.header.ensures.counts) c.runs.kinds.len
    (omega (arith, c.runs.kinds.ok.0)) c.in_ok-resize.ensures.items
