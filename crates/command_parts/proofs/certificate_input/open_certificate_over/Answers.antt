use Rattle.certificates.specs.Setting.{IsCertificateFor, Setting}
use Rattle.certificate_text.specs.Reader.{IsCertificateText}
use Rattle.command_parts.specs.Refusal.{IsCertificateRefused}
use Rattle.command_core.specs.SeveralFiles.{itself}
use Rattle.command_parts.proofs.Opened.{certificate_known, known_of}
use Rattle.command_parts.proofs.certificate_input.open_certificate_over.Goals as goal

pub returns-clause-reads : goal.returns-clause-reads
returns-clause-reads g c = c.open.ensures.reads_so (record { rows = c.args.rows; kinds = c.args.kinds.items }) c.in_ok-grammar.ensures.setting

pub returns-clause-certificate : goal.returns-clause-certificate
returns-clause-certificate g c =
    let s : Setting = record { rows = c.args.rows; kinds = c.args.kinds.items } in
    known_of itself (IsCertificateText s) (IsCertificateRefused s c.args.number) (IsCertificateFor s)
    (certificate_known s) c.args.name.now _ _ c.open.result
    (c.open.ensures.reads_so s c.in_ok-grammar.ensures.setting)
