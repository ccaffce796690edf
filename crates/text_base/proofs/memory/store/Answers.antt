use Rattle.std.proofs.Common.{◌≡◌, ◌∙◌, sym, ap, List, Some, None}
use Rattle.std.specs.List.{position}
use Rattle.text_base.specs.declared.memory.Entry.{Entry}
use Rattle.text_base.proofs.Entries.{has_name, place_found, place_none}
use Rattle.text_base.proofs.memory.store.Goals as goal

pub returns-in-Some-clause-ok : goal.returns-in-Some-clause-ok
returns-in-Some-clause-ok c =
    let e : position (has_name c.args.name.now) c.args.texts.now.items ≡ Some c.in-Some.place =
    ap (λ (es : List Entry). position (has_name c.args.name.now) es) (sym c.deref.ensures.value)
    ∙ sym c.place_of.ensures ∙ c.in-Some.is in
    c.replace.ensures ∙ sym ((place_found c.args.texts.now.items c.args.name.now c.in-Some.place e).stored c.args.text.items)

pub returns-in-None-clause-ok : goal.returns-in-None-clause-ok
returns-in-None-clause-ok c =
    let e : position (has_name c.args.name.now) c.args.texts.now.items ≡ None =
    ap (λ (es : List Entry). position (has_name c.args.name.now) es) (sym c.deref.ensures.value)
    ∙ sym c.place_of.ensures ∙ c.in-None.is in
    rw ((place_none c.args.texts.now.items c.args.name.now e).stored c.args.text.items) c.add.ensures.ok
