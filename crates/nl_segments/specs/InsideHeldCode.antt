-- The codes of what readers hold, by which proofs tell them apart: those of their parts.
use Rattle.std.specs.Prelude.{ℕ, Bool, List, Option, Some, None, Result, Ok, Err, refl, ◌≡◌}
use Rattle.std.specs.Coded.{Coded, code_by, coded×, coded_ℕ, coded_bool, coded_list, coded_option, coded_result}
use Rattle.text_base.specs.declared.stop.Stop.{Stop}
use Rattle.text_base.specs.declared.stop.Stop.TheVariants.{Fault, Memory}
use Rattle.text_base.specs.declared.fault.TextFault.{TextFault}
use Rattle.nl_header.specs.contracts.reader.HeaderReader.{the_row as header_row}
use Rattle.nl_header.specs.Reading.{Taken}
use Rattle.nl_model.specs.Draft.{Draft}
use Rattle.nl_model.specs.InsideFileCode.{draft_code}
use Rattle.nl_segments.specs.contracts.current.Current.{the_row as current_row}
use Rattle.nl_segments.specs.contracts.seen.Seen.{the_row as seen_row}
use Rattle.nl_segments.specs.contracts.places.Places.{the_row as places_row}
use Rattle.nl_lines.specs.contracts.fault.NlReason.{the_row as reason_row}
use Rattle.nl_lines.specs.declared.fault.NlReason.{NlReason}
use Rattle.nl_segments.specs.Current.{Current}
use Rattle.nl_lines.specs.SeenSegments.{Segments}
use Rattle.nl_lines.specs.Saying.{PlaceLines}
use Rattle.nl_segments.specs.Held.{Body, Progress, in_header, in_body}

abbrev Parts : Type 0
Parts =
    ((Draft × Option Current) × (Option (List ℕ) × List Bool))
    × ((Segments × PlaceLines) × (((ℕ × ℕ) × (ℕ × ℕ)) × (List ℕ × List ℕ)))

abbrev parts_code : Coded Parts
parts_code =
    coded× (coded× (coded× draft_code (coded_option current_row.coded))
    (coded× (coded_option (coded_list coded_ℕ)) (coded_list coded_bool)))
    (coded× (coded× seen_row.coded places_row.coded)
    (coded× (coded× (coded× coded_ℕ coded_ℕ) (coded× coded_ℕ coded_ℕ))
    (coded× (coded_list coded_ℕ) (coded_list coded_ℕ))))

abbrev pub body_code : Coded Body
body_code =
    code_by Parts parts_code
    (λ b. (
      ((b.draft, b.current), (b.name, b.marks)),
      ((b.seen, b.places), (((b.nodes, b.linear), (b.values, b.suffixes)), (b.columns, b.uses))),
    ))
    (λ p. record {
      draft = p.0.0.0;
      current = p.0.0.1;
      name = p.0.1.0;
      marks = p.0.1.1;
      seen = p.1.0.0;
      nodes = p.1.1.0.0.0;
      linear = p.1.1.0.0.1;
      values = p.1.1.0.1.0;
      suffixes = p.1.1.0.1.1;
      columns = p.1.1.1.0;
      uses = p.1.1.1.1;
      places = p.1.0.1;
    })
    (λ _. refl)

abbrev part_of : Progress → Result Taken Body
part_of (in_header t) = Ok t
part_of (in_body b) = Err b

abbrev progress_from : Result Taken Body → Progress
progress_from (Ok t) = in_header t
progress_from (Err b) = in_body b

abbrev progress_again : (g : Progress) → progress_from (part_of g) ≡ g
progress_again (in_header t) = refl
progress_again (in_body b) = refl

abbrev pub progress_code : Coded Progress
progress_code =
    code_by (Result Taken Body) (coded_result header_row.coded body_code) part_of progress_from
    progress_again

-- the reason and the line of a fault; none for want of memory
abbrev fault_parts : Stop (TextFault NlReason) → Option (NlReason × ℕ)
fault_parts (Fault f) = Some (f.reason, f.line)
fault_parts Memory = None

abbrev stop_from : Option (NlReason × ℕ) → Stop (TextFault NlReason)
stop_from (Some p) = Fault (record { reason = p.0; line = p.1 })
stop_from None = Memory

abbrev stop_again : (s : Stop (TextFault NlReason)) → stop_from (fault_parts s) ≡ s
stop_again (Fault f) = refl
stop_again Memory = refl

abbrev pub stop_code : Coded (Stop (TextFault NlReason))
stop_code =
    code_by (Option (NlReason × ℕ)) (coded_option (coded× reason_row.coded coded_ℕ)) fault_parts
    stop_from stop_again
