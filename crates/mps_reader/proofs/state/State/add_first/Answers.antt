use Rattle.std.proofs.Common.{◌≡◌, ◌∙◌, ℕ, List, [], ◌∷◌, ◌++◌, ap, ap₂, arith, map, refl, Bool}
use Rattle.std.specs.Prelude.{slice_set, true}
use Rattle.std.proofs.lemmas.Grind.{common_steps}
use Rattle.exact_numbers.specs.declared.dec.Dec.{Dec}
use Rattle.mps_model.specs.Built.{entry_of}
use Rattle.mps_reader.specs.contracts.state.State.{the_view}
use Rattle.mps_reader.proofs.FrontAdded.{first_added}
use Rattle.mps_reader.proofs.state.State.add_first.Goals as goal

pub add-requires-clause-room : goal.add-requires-clause-room
add-requires-clause-room c = grind (arith, common_steps)

pub returns-clause-ok : goal.returns-clause-ok
returns-clause-ok c =
    let items : c.push.new.self.items ≡ (c.args.row, c.args.value) ∷ [] =
    c.in_ok-push.ensures.items ∙ ap (λ (xs : List (ℕ × Dec)). xs ++ (c.args.row, c.args.value) ∷ [])
    c.in_ok-entries.ensures.items in
    let columns = ap₂ (λ (n : List ℕ) (ts : List (ℕ × Dec)). record c.self.inside.builder {
      columns = c.self.inside.builder.columns ++ record
          { name = n; marked = c.self.inside.is_marked; entries = map entry_of ts } ∷ [];
    }) c.in_ok-name.ensures items
    in
    first_added c.args.self.now (the_view c.self.inside) _ c.args.word.now
    (record { row = c.args.row; value = c.args.value }) c.add_column.new.self c.add.new.self c.push-2.new.self.items
    c.mark.new.self c.self.view_is refl
    (c.in_ok-add_column.ensures.ok ∙ columns) c.in_ok-add.ensures c.in_ok-push-2.ensures.items (c.mark.ensures ∙ ap (λ (ms : List Bool). slice_set ms c.args.row true) c.clear.ensures)
