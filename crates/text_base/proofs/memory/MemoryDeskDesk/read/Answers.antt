use Rattle.std.proofs.Common.{◌≡◌, ◌∙◌, ◌-◌, ◌<◌, length, take, drop, [], ap, sym, List, ℕ}
use Rattle.text_base.specs.declared.memory.Entry.{Entry}
use Rattle.text_base.specs.InsideEntries.{entries, text_at}
use Rattle.text_base.specs.Memory.{MemoryState}
use Rattle.text_base.proofs.Entries.{read_rest, none_left, rest_whole}
use Rattle.text_base.proofs.memory.MemoryDeskDesk.read.Goals as goal

pub returns-clause-bytes : goal.returns-clause-bytes
returns-clause-bytes c =
    let text : List ℕ = text_at (entries c.self.inside.texts.items) c.self.inside.current in
    let whole : take (length c.text_in-text.result.now - c.self.inside.taken)
    (drop c.self.inside.taken c.text_in-text.result.now) ≡ drop c.self.inside.taken text =
    rest_whole c.text_in-text.result.now text c.self.inside.taken
    (c.text_in-text.ensures ∙ ap (λ (es : List Entry). text_at (entries es) c.self.inside.current)
    c.deref-2.ensures.value) in
    let given : take c.give-count.result c.give-count.new.buf ≡ take c.give-count.result (drop c.self.inside.taken text) = c.give-count.ensures.bytes ∙ ap (take c.give-count.result) whole in
    let ended : c.give-count.result ≡ 0 → 0 < length c.give-count.new.buf → drop c.self.inside.taken text ≡ [] =
    λ none room. sym whole ∙ c.give-count.ensures.end none (rw (← c.give-count.auto.buf) room) in
    let left : c.args.self.now.left ≡ drop c.self.inside.taken text = ap (λ (s : MemoryState). s.left) (sym c.self.view_is) in
    (left ∙ read_rest text c.give-count.new.buf c.self.inside.taken c.give-count.result given, λ none room. none_left text c.self.inside.taken c.give-count.result none (ended none room))
