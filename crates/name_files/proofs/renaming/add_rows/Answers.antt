use Rattle.std.proofs.Common.{◌∙◌, ap, sym, subst, arith, List, ℕ}
use Rattle.std.proofs.lemmas.List.{take-map}
use Rattle.linear_program.specs.Names.{row_name}
use Rattle.text_base.specs.Names.{IsName}
use Rattle.mps_model.specs.Mps.{Mps, MpsRow}
use Rattle.mps_model.specs.Built.{CanAddRow}
use Rattle.exact_numbers.specs.declared.dec.Dec.{Dec}
use Rattle.name_files.specs.Renamed.{new_name, named_row, named_rows}
use Rattle.name_files.proofs.BuildLemmas.{can_add_row, row_put, at_mapped, within_mapped}
use Rattle.name_files.proofs.renaming.add_rows.Goals as goal

pub new_name-requires-clause-named : goal.new_name-requires-clause-named
new_name-requires-clause-named c =
    let i = c.loop-row.row-index in
    let xs = c.args.rows.now in
    let r = c.row-item.result in
    let f : List ℕ → List ℕ = new_name row_name c.args.names.now in
    subst (λ (t : List ℕ). IsName (f t)) (sym (c.bytes.ensures.value ∙ ap (λ (r : MpsRow). r.name) c.row.view_is))
    (subst (λ (s : MpsRow). IsName s.name) (sym (at_mapped (named_row f) xs i r (omega arith) c.row-item.is))
    (c.requires.valid.named i (named_row f r) (within_mapped (named_row f) xs i r (omega arith) c.row-item.is)))

pub add_row-requires : goal.add_row-requires
add_row-requires c =
    let i = c.loop-row.row-index in
    let xs = c.args.rows.now in
    let r = c.row-item.result in
    let f : List ℕ → List ℕ = new_name row_name c.args.names.now in
    subst (CanAddRow c.loop-row.builder) (sym (c.in_ok-name.ensures ∙ ap f (c.bytes.ensures.value ∙ ap (λ (r : MpsRow). r.name) c.row.view_is)))
    (can_add_row (named_rows c.args.names.now xs) i (named_row f r) c.loop-row.builder c.requires.valid
    (within_mapped (named_row f) xs i r (omega arith) c.row-item.is) (at_mapped (named_row f) xs i r (omega arith) c.row-item.is)
    (ap (λ (m : Mps Dec). m.rows) c.loop-row.invariant ∙ sym (take-map (named_row f) i xs)))

pub loop-row-preserved : goal.loop-row-preserved
loop-row-preserved c =
    let f : List ℕ → List ℕ = new_name row_name c.args.names.now in
    row_put f c.args.rows.now c.loop-row.row-index c.row-item.result (omega arith) c.row-item.is c.in_ok-name.name c.row.inside.kind
    (c.in_ok-name.ensures ∙ ap f (c.bytes.ensures.value ∙ ap (λ (r : MpsRow). r.name) c.row.view_is)) (ap (λ (r : MpsRow). r.kind) c.row.view_is)
    c.args.builder.now c.loop-row.builder c.add_row.new.self c.loop-row.invariant c.in_ok-add_row.ensures.ok
