use Rattle.std.proofs.Common.{◌≡◌, ◌≤◌, length, [], rules}
use Rattle.std.proofs.lemmas.List.{length-map}
use Rattle.text_base.specs.InsideEntries.{entries, text_at}
use Rattle.text_base.proofs.Entries.{text_at-past}
use Rattle.text_base.proofs.memory.MemoryDesk.put.Goals as goal

pub returns-clause-ok : goal.returns-clause-ok
returns-clause-ok c =
    let short : length (entries c.store.new.texts.items) ≤ c.len-self-inside.result = rw length-map (search rules) in
    let none : text_at (entries c.store.new.texts.items) c.len-self-inside.result ≡ [] = text_at-past _ _ short in
    rw (← c.self.view_is, none, c.in_ok-store.ensures.ok, ← c.in_ok-text.ensures.items)
