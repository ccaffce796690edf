-- What the fields of a reader of lines stand for.
use Rattle.std.specs.Prelude.{◌+◌, ◌≤◌, ◌^◌, [], if◌then◌else◌, vec_len, vec_capacity}
use Rattle.std.specs.declared.option.Option.TheVariants.{None, Some}
use Rattle.text_base.specs.declared.lines.Lines.TheInside.{Inside}
use Rattle.text_base.specs.Cut.{HasNoEnd}
use Rattle.text_base.specs.Lines.{LinesState, trimmed}

abbrev pub lines_state : Inside → LinesState
lines_state d = record {
  count = d.count;
  rest = if d.ended then [] else d.line.items;
  line = if d.ended then Some (trimmed d.line.items) else None;
  total = d.total;
  fault = d.fault;
}

-- one line fits the room that is reserved and holds no LF, and the counts are within the input's
-- limit
pub record IsLines (d : Inside) : Type 0 where
  pub line : vec_len d.line ≤ 65536
  pub no_end : HasNoEnd d.line.items
  pub room : 65536 ≤ vec_capacity d.line
  pub total : d.total ≤ 2 ^ 31
  pub count : d.count + (if d.ended then 0 else vec_len d.line) ≤ d.total
