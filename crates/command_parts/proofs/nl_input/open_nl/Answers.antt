use Rattle.nl_segments.specs.Reader.{HasLines, IsNl, value_of}
use Rattle.command_parts.specs.Refusal.{HasTextRefusal}
use Rattle.command_parts.proofs.Opened.{known_of, nl_lines, nl_refused, nl_said, read_as}
use Rattle.command_parts.proofs.nl_input.open_nl.Goals as goal

pub returns-clause-reads : goal.returns-clause-reads
returns-clause-reads g c = read_as value_of _ IsNl _ HasTextRefusal nl_said nl_refused c.args.file.now _ _ c.open.result c.open.ensures.reads

pub returns-clause-lines : goal.returns-clause-lines
returns-clause-lines g c =
    known_of value_of IsNl HasTextRefusal HasLines nl_lines c.args.file.now _ _ c.open.result
    (read_as value_of _ IsNl _ HasTextRefusal nl_said nl_refused c.args.file.now _ _ c.open.result c.open.ensures.reads)
