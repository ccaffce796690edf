-- What the fields of a desk in memory stand for.
use Rattle.std.specs.Prelude.{◌<◌, ◌≤◌, drop, length, All, vec_len, vec_capacity}
use Rattle.text_base.specs.declared.memory.MemoryDesk.TheInside.{Inside}
use Rattle.text_base.specs.InsideEntries.{entries, text_at}
use Rattle.text_base.specs.Memory.{MemoryState}

abbrev pub memory_state : Inside → MemoryState
memory_state d = record {
  texts = entries d.texts.items;
  left = drop d.taken (text_at (entries d.texts.items) d.current);
  written = d.written.items;
  told = d.told.items;
  room = d.room;
  input_faults = d.input_faults;
  output_faults = d.output_faults;
  message_faults = d.message_faults;
  calls = d.calls;
  failing = d.failing.items;
  cuts = drop d.cuts_used d.cuts.items;
}

-- the bytes are within their room, which is reserved, and each limit is at least 1
pub record IsMemoryDesk (d : Inside) : Type 0 where
  pub written : vec_len d.written ≤ d.room
  pub written_room : d.room ≤ vec_capacity d.written
  pub told : vec_len d.told ≤ d.room
  pub told_room : d.room ≤ vec_capacity d.told
  pub taken : d.taken ≤ length (text_at (entries d.texts.items) d.current)
  pub used : d.cuts_used ≤ vec_len d.cuts
  pub cuts : All (λ cut. 0 < cut) d.cuts.items
