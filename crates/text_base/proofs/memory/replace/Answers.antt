use Rattle.std.proofs.Common.{◌<◌, length, ap, rules, string_bytes}
use Rattle.text_base.specs.declared.memory.Entry.{Entry}
use Rattle.text_base.proofs.Entries.{set_entry}
use Rattle.text_base.proofs.memory.replace.Goals as goal

pub returns : goal.returns
returns c =
    let lt : c.args.place < length c.args.texts.now.items = search rules in
    set_entry c.args.texts.now.items c.args.place c.index_mut.result.now
    (record { name = c.index_mut.result.now.name; text = c.args.text }) lt
    (ap (λ (e : Entry). string_bytes e.name) c.index_mut.ensures.value)
