use Rattle.std.proofs.Common.{◌≡◌, ◌+◌, ◌<◌, ◌∙◌, ◌++◌, ◌∷◌, [], ℕ, List, Option, Some, ap, append_assoc, append-nil, arith, get_or, length, map, sym}
use Rattle.std.proofs.lemmas.List.{map-append}
use Rattle.scaled_program.specs.Program.{ScaledRow}
use Rattle.row_scaling.specs.declared.row.FactoredRow.{FactoredRow}
use Rattle.row_scaling.proofs.ColumnLemmas.{Rows, left, left_end, left_none, left_some}
use Rattle.row_scaling.proofs.heads_of.exported_numbers.Goals as goal

-- the number of the next row, which is there
number_kept : (name : ℕ → List ℕ) (rows : Rows) (i : ℕ) (o : Option FactoredRow) (r : FactoredRow) (old new : List ℕ)
    (total : List (List ℕ)) → i < length rows → o ≡ get_or rows i o → o ≡ Some r → new ≡ old ++ i ∷ [] →
    map name old ++ map (λ r. r.name) (left name rows i) ≡ total → map name new ++ map (λ r. r.name) (left name rows (i + 1)) ≡ total
number_kept name rows i o r old new total h is some pushed start =
    let rest : List (List ℕ) = map (λ r. r.name) (left name rows (i + 1)) in
    ap (λ ns. map name ns ++ rest) pushed
    ∙ ap (λ xs. xs ++ rest) (map-append name old (i ∷ []))
    ∙ append_assoc (map name old) (name i ∷ []) rest
    ∙ ap (λ (rs : List ScaledRow). map name old ++ map (λ r. r.name) rs) (sym (left_some name rows i o r h is some))
    ∙ start

numbers_end : (name : ℕ → List ℕ) (rows : Rows) (i : ℕ) (numbers : List ℕ) (total : List (List ℕ)) → i ≡ length rows
    → map name numbers ++ map (λ r. r.name) (left name rows i) ≡ total → map name numbers ≡ total
numbers_end name rows i numbers total e start = sym (append-nil (map name numbers)) ∙ ap (λ (rs : List ScaledRow). map name numbers ++ map (λ r. r.name) rs) (sym (left_end name rows i e)) ∙ start

pub loop-i-preserved-in_default : goal.loop-i-preserved-in_default
loop-i-preserved-in_default c = λ name.
    ap (λ (rs : List ScaledRow). map name c.loop-i.numbers.items ++ map (λ r. r.name) rs)
    (sym (left_none name c.args.rows.now c.loop-i.i c.index-rows-i.result (omega arith) c.index-rows-i.is
    c.in_default.is)) ∙ c.loop-i.invariant name

pub loop-i-preserved : goal.loop-i-preserved
loop-i-preserved c = λ name.
    number_kept name c.args.rows.now c.loop-i.i c.index-rows-i.result _ c.loop-i.numbers.items c.push.new.self.items _
    (omega arith) c.index-rows-i.is c.in-Some.is c.in_ok-push.ensures.items (c.loop-i.invariant name)

pub returns : goal.returns
returns c = λ name. numbers_end name c.args.rows.now c.loop-i.i c.loop-i.numbers.items _ (omega arith) (c.loop-i.invariant name)
