use Rattle.command_parts.proofs.FaultLines.{answer_told, certificate_told, export_told, names_told, proof_told}
use Rattle.command_parts.proofs.laws.told_lines_are_lines.Goals as goal

pub returns-clause-answer : goal.returns-clause-answer
returns-clause-answer c = answer_told

pub returns-clause-names : goal.returns-clause-names
returns-clause-names c = names_told

pub returns-clause-proof : goal.returns-clause-proof
returns-clause-proof c = proof_told

pub returns-clause-certificate : goal.returns-clause-certificate
returns-clause-certificate c = certificate_told

pub returns-clause-stages : goal.returns-clause-stages
returns-clause-stages c = export_told
