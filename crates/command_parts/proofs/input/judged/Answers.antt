use Rattle.command_parts.proofs.input.judged.Goals as goal

pub returns-in-Err-Fault-clause-says : goal.returns-in-Err-Fault-clause-says
returns-in-Err-Fault-clause-says g c = λ text fed. record { fault = c.in-Err-Fault.fault; first = rw c.in-Err-Fault.field-0-is at (c.in-Err-Fault.ensures.reads text fed); told = c.told.ensures }
