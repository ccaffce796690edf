use Rattle.nl_segments.specs.Reader.{value_of}
use Rattle.command_core.specs.SeveralFiles.{itself}
use Rattle.bridge_tool.specs.Verify.{IsDenied, IsVerified, nl_claim_row}
use Rattle.bridge_tool.specs.declared.verify.ProblemText.TheVariants.{Nl}
use Rattle.bridge_tool.proofs.Programs.{claim_counted, claim_last, claim_meant, claimed}
use Rattle.command_core.proofs.SeveralFiles.{both_ended, both_stopped, second_stopped}
use Rattle.bridge_tool.proofs.verify.verify.Goals as goal

pub returns-in-Err : goal.returns-in-Err
returns-in-Err g c =
    let d = claimed Nl in
    claim_counted nl_claim_row d c.args.nl.now c.args.certificate.now _
    (both_stopped d.read (claim_last nl_claim_row d) (IsVerified nl_claim_row) (IsDenied nl_claim_row) c.args.nl.now
    c.args.certificate.now value_of _ _ _ c.in-Err.ended c.in-Err.ensures.reads)

pub returns-in-Err-open_certificate : goal.returns-in-Err-open_certificate
returns-in-Err-open_certificate g c =
    let d = claimed Nl in
    claim_counted nl_claim_row d c.args.nl.now c.args.certificate.now _
    (second_stopped d.read (claim_last nl_claim_row d) (IsVerified nl_claim_row) (IsDenied nl_claim_row) c.args.nl.now
    c.args.certificate.now value_of itself _ _ _ c.in-Ok.read c.in-Ok.ensures.reads _ c.in-Err-open_certificate.answer
    c.in-Err-open_certificate.ensures.reads)

pub returns : goal.returns
returns g c =
    let d = claimed Nl in
    let first = c.in-Ok.ensures.reads in
    let second = c.in-Ok-open_certificate.ensures.reads in
    let means = claim_meant nl_claim_row d first.judged.bytes second.judged.bytes (value_of c.in-Ok.read)
    c.in-Ok-open_certificate.given first.judged.says second.judged.says _ c.to_verdict-judged.ensures.comes in
    claim_counted nl_claim_row d c.args.nl.now c.args.certificate.now _
    (both_ended d.read (claim_last nl_claim_row d) (IsVerified nl_claim_row) (IsDenied nl_claim_row) c.args.nl.now
    c.args.certificate.now value_of itself _ _ _ c.in-Ok.read first c.in-Ok-open_certificate.given second _ _ _ _ _
    c.to_verdict-judged.ensures.comes means c.end.ensures c.to_verdict-judged.ensures.above c.to_verdict-judged.ensures.counts)
