-- What the desk of a process tells: its counts, and whether it has a current text.
use Rattle.std.specs.Prelude.{Bool, is_some}
use Rattle.std.specs.declared.option.Option.TheVariants.{None}
use Rattle.text_base.specs.declared.host.HostDesk.{HostDesk}
use Rattle.text_base.specs.Desk.{Meaning}

abbrev pub host_meaning : HostDesk → Meaning
host_meaning d = record {
  texts = None;
  left = None;
  written = None;
  told = None;
  input_faults = d.input_faults;
  output_faults = d.output_faults;
  message_faults = d.message_faults;
}

-- a text is current
abbrev pub has_text : HostDesk → Bool
has_text d = is_some d.file
