use Rattle.nl_segments.specs.Reader.{value_of}
use Rattle.command_core.specs.SeveralFiles.{itself}
use Rattle.command_core.proofs.SeveralFiles.{both_ended, both_stopped, second_stopped}
use Rattle.command_parts.proofs.TextsRead.{nl_read}
use Rattle.bridge_tool.specs.Certified.{IsCertifiedTrue, IsNotShown}
use Rattle.bridge_tool.proofs.Certifying.{certified_counted, certified_last, certified_meant}
use Rattle.bridge_tool.proofs.certified.certified.Goals as goal

pub returns-in-Err : goal.returns-in-Err
returns-in-Err g c =
    certified_counted c.args.nl.now c.args.certificate.now _
    (both_stopped nl_read certified_last IsCertifiedTrue IsNotShown c.args.nl.now c.args.certificate.now value_of _ _ _ c.in-Err.ended c.in-Err.ensures.reads)

pub returns-in-Err-open_certificate : goal.returns-in-Err-open_certificate
returns-in-Err-open_certificate g c =
    certified_counted c.args.nl.now c.args.certificate.now _
    (second_stopped nl_read certified_last IsCertifiedTrue IsNotShown c.args.nl.now c.args.certificate.now value_of
    itself _ _ _ c.in-Ok.read c.in-Ok.ensures.reads _ c.in-Err-open_certificate.answer
    c.in-Err-open_certificate.ensures.reads)

pub returns : goal.returns
returns g c =
    let first = c.in-Ok.ensures.reads in
    let second = c.in-Ok-open_certificate.ensures.reads in
    let means = certified_meant first.judged.bytes second.judged.bytes (value_of c.in-Ok.read) c.in-Ok-open_certificate.given first.judged.says second.judged.says _ c.to_output-judged.ensures.comes in
    certified_counted c.args.nl.now c.args.certificate.now _
    (both_ended nl_read certified_last IsCertifiedTrue IsNotShown c.args.nl.now c.args.certificate.now value_of itself _ _ _ c.in-Ok.read first c.in-Ok-open_certificate.given second _ _ _ _ _
    c.to_output-judged.ensures.comes means c.end.ensures c.to_output-judged.ensures.above c.to_output-judged.ensures.counts)
