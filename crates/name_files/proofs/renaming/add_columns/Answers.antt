use Rattle.std.proofs.Common.{◌∙◌, ap, sym, subst, arith, length, List, ℕ}
use Rattle.linear_program.specs.Names.{variable_name}
use Rattle.text_base.specs.Names.{IsName}
use Rattle.mps_model.specs.Mps.{Mps, Column}
use Rattle.exact_numbers.specs.declared.dec.Dec.{Dec}
use Rattle.name_files.specs.Renamed.{new_name, named_column}
use Rattle.name_files.proofs.BuildLemmas.{can_put_column, column_put, at_mapped, within_mapped}
use Rattle.name_files.proofs.renaming.add_columns.Goals as goal

pub new_name-requires-clause-named : goal.new_name-requires-clause-named
new_name-requires-clause-named c =
    let i = c.loop-column.column-index in
    let xs = c.args.columns.now in
    let x = c.column-item.result in
    let f : List ℕ → List ℕ = new_name variable_name c.args.names.now in
    subst (λ (t : List ℕ). IsName (f t)) (sym (c.bytes.ensures.value ∙ c.name.ensures))
    (subst (λ (y : Column Dec). IsName y.name) (sym (at_mapped (named_column f) xs i x (omega arith) c.column-item.is))
    (c.requires.valid.named i (named_column f x) (within_mapped (named_column f) xs i x (omega arith)
    c.column-item.is)))

pub add_column-requires : goal.add_column-requires
add_column-requires c =
    let f : List ℕ → List ℕ = new_name variable_name c.args.names.now in
    can_put_column f c.args.columns.now c.loop-column.column-index c.column-item.result (omega arith) c.column-item.is c.in_ok-name.name
    (c.in_ok-name.ensures ∙ ap f (c.bytes.ensures.value ∙ c.name.ensures))
    (length c.args.builder.now.rows) c.loop-column.builder c.requires.valid (ap (λ (m : Mps Dec). length m.rows) c.loop-column.invariant) (ap (λ (m : Mps Dec). m.columns) c.loop-column.invariant)

pub loop-column-preserved : goal.loop-column-preserved
loop-column-preserved c =
    let f : List ℕ → List ℕ = new_name variable_name c.args.names.now in
    column_put f c.args.columns.now c.loop-column.column-index c.column-item.result (omega arith) c.column-item.is c.in_ok-name.name
    (c.in_ok-name.ensures ∙ ap f (c.bytes.ensures.value ∙ c.name.ensures))
    c.args.builder.now c.loop-column.builder c.add_column.new.builder c.loop-column.invariant c.in_ok-add_column.ensures
