use Rattle.std.proofs.Common.{refl, arith}
use Rattle.linear_program.specs.Programs.{linear_value}
use Rattle.certificates.specs.Setting.{program_setting}
use Rattle.certificates.proofs.Settings.{certificate_for, program_has_setting}
use Rattle.command_core.specs.SeveralFiles.{itself}
use Rattle.bridge_tool.specs.Verify.{IsDenied, IsVerified, mps_claim_row}
use Rattle.bridge_tool.specs.declared.verify.ProblemText.TheVariants.{Mps}
use Rattle.bridge_tool.proofs.Programs.{claim_counted, claim_last, claim_meant, claimed, comes_as, opened_as, program_ended, program_is, program_there, text_ended}
use Rattle.command_core.proofs.SeveralFiles.{at_rest, both_ended, both_stopped, second_stopped}
use Rattle.bridge_tool.proofs.verify_mps.verify_program.Goals as goal

pub returns-in-Err : goal.returns-in-Err
returns-in-Err g c =
    let row = mps_claim_row c.args.layout in
    let d = claimed (Mps c.args.layout) in
    let read = text_ended c.args.layout c.args.mps.now _ _ c.in-Err.ended c.in-Err.ensures.reads in
    at_rest (λ n. claim_counted row d c.args.mps.now c.args.certificate.now _
    (both_stopped d.read (claim_last row d) (IsVerified row) (IsDenied row) c.args.mps.now c.args.certificate.now
    itself n _ _ c.in-Err.ended read))

pub returns-in-Err-answered : goal.returns-in-Err-answered
returns-in-Err-answered g c =
    let row = mps_claim_row c.args.layout in
    let d = claimed (Mps c.args.layout) in
    let read = program_ended c.args.layout c.args.mps.now _ _ c.in-Ok.read c.in-Ok.ensures.reads _ c.in-Err-answered.ended c.to_linear-judged.ensures c.in-Err-answered.ensures in
    at_rest (λ n. claim_counted row d c.args.mps.now c.args.certificate.now _
    (both_stopped d.read (claim_last row d) (IsVerified row) (IsDenied row) c.args.mps.now c.args.certificate.now
    itself n _ _ c.in-Err-answered.ended read))

pub returns-in-Err-open_for : goal.returns-in-Err-open_for
returns-in-Err-open_for g c =
    let row = mps_claim_row c.args.layout in
    let d = claimed (Mps c.args.layout) in
    let m = c.in-Ok.read in
    let l = c.in-Ok-answered.linear in
    let is = program_is c.args.layout c.args.mps.now _ _ m c.in-Ok.ensures.reads _ l c.to_linear-judged.ensures c.in-Ok-answered.ensures in
    let first = program_there c.args.layout c.args.mps.now _ _ m c.in-Ok.ensures.reads l is in
    let second = opened_as m l is c.args.certificate.now _ _ _ c.in-Err-open_for.ensures.reads in
    at_rest (λ n. claim_counted row d c.args.mps.now c.args.certificate.now _
    (second_stopped d.read (claim_last row d) (IsVerified row) (IsDenied row) c.args.mps.now c.args.certificate.now
    itself itself _ _ _ m first n c.in-Err-open_for.ended second))

pub returns : goal.returns
returns g c =
    let row = mps_claim_row c.args.layout in
    let d = claimed (Mps c.args.layout) in
    let m = c.in-Ok.read in
    let l = c.in-Ok-answered.linear in
    let given = c.in-Ok-open_for.given in
    let is = program_is c.args.layout c.args.mps.now _ _ m c.in-Ok.ensures.reads _ l c.to_linear-judged.ensures c.in-Ok-answered.ensures in
    let first = program_there c.args.layout c.args.mps.now _ _ m c.in-Ok.ensures.reads l is in
    let second = opened_as m l is c.args.certificate.now _ _ _ c.in-Ok-open_for.ensures.reads in
    let comes = comes_as m l is c.args.layout given c.to_verdict-verdict.result c.to_verdict-verdict.ensures in
    let means = claim_meant row d first.judged.bytes second.judged.bytes m given first.judged.says second.judged.says c.to_verdict-verdict.result comes in
    at_rest
    (λ n. claim_counted row d c.args.mps.now c.args.certificate.now _
    (both_ended d.read (claim_last row d) (IsVerified row) (IsDenied row) c.args.mps.now c.args.certificate.now itself
    itself _ _ _ m first given second n n _ _ _ comes means c.end.ensures (omega arith) refl))

pub to_verdict-verdict-requires : goal.to_verdict-verdict-requires
to_verdict-verdict-requires g c =
    let l = c.in-Ok-answered.linear in
    certificate_for (linear_value l) (program_setting l) (program_has_setting l c.in-Ok-open_for.ensures.valid) c.in-Ok-open_for.given c.in-Ok-open_for.ensures.for_setting
