-- A file without a fold fault is linear.
use Rattle.std.proofs.Common.{◌≡◌, ℕ, zero, suc, ◌+◌, ◌<◌, ◌∙◌, ap, refl, subst, arith, Bool, true, false}
use Rattle.std.proofs.Common.{if◌then◌else◌, Option, Some, None, List, [], ◌∷◌, ◌++◌, length, get_or, slice_get, take}
use Rattle.std.proofs.Common.{option_map}
use Rattle.std.specs.List.{fold}
use Rattle.std.specs.Option.{option_or}
use Rattle.linear_program.specs.Linear.{value_at}
use Rattle.nl_model.specs.declared.fault.Fault.{Fault}
use Rattle.nl_model.specs.Faults.{expression_fault, definitions_fault, tree_line, line_with_terms, expression_line}
use Rattle.nl_model.specs.Parts.{IsPart, IsLinearTree}
use Rattle.nl_model.specs.Trees.{Tree, Known, with_definition, Expression, Definition, known_values, expression_value, IsExpressionFormed, AreDefined, IsOneOf, indices_of}
use Rattle.linear_program.specs.Lines.{Point, line_value}
use Rattle.linear_program.proofs.LineLemmas.{line_by_lem}
use Rattle.exact_numbers.proofs.Tests.{option_or-none}
use Rattle.nl_model.proofs.Linear.{AreLinear, HasValues, known_linear, none_linear, expression_linear}
use Rattle.nl_model.proofs.PartLemmas.{definition_parts, part_linear}
use Rattle.nl_model.specs.File.{File}
use Rattle.nl_model.specs.Expressions.{definitions_of, body_of, objective_of}
use Rattle.nl_model.specs.declared.at.Owner.{Owner}
use Rattle.nl_model.specs.declared.at.Owner.TheVariants.{Con, Obj}
use Rattle.nl_model.specs.FoldFaults.{FoldFault, no_such_objective, at_place, Owned, owned_by, owned_line}
use Rattle.nl_model.specs.FoldFaults.{coefficient_count, no_definition, owners_fault, owned_definition, defined_line}
use Rattle.nl_model.specs.FoldFaults.{owners_of, has_objective, fold_fault}
use Rattle.linear_program.specs.Elements.{elements_from}
use Rattle.nl_model.specs.LinearFile.{HasLines, IsFormedFile}
use Rattle.nl_model.proofs.Plain.{form_value_lem}

at_owner-none : (o : Owner) (r : Option Fault) → option_map (at_place o) r ≡ None → r ≡ None
at_owner-none o None e = refl
at_owner-none o (Some x) e = cc

-- an owner without a fault has an expression without one
expression_clean : (n count : ℕ) (o : Owned) (os : List Owned) → owners_fault n count (o ∷ os) ≡ None → expression_fault o.known n o.expression ≡ None
expression_clean n count o os e =
    let first = option_or-none _ _ e in
    at_owner-none o.owner (expression_fault o.known n o.expression) (option_or-none _ _ first.0).0

rest_clean : (n count : ℕ) (o : Owned) (os : List Owned) → owners_fault n count (o ∷ os) ≡ None → (m : ℕ) × (owners_fault n m os ≡ None)
rest_clean n count o os e = (count + coefficient_count n (owned_line o), (option_or-none _ _ e).1)

-- definitions without a fault, of which each may use those before it
definitions_clean : (n : ℕ) (known : Point → Known) (ds : List Definition)
    → ((i : ℕ) → i < length ds → expression_fault (fold with_definition known (take i ds)) n
    (get_or ds i no_definition).expression ≡ None) → definitions_fault known n ds ≡ None
definitions_clean n known [] each = refl
definitions_clean n known (d ∷ ds) each =
    ap (λ x. option_or x (definitions_fault (with_definition known d) n ds)) (each 0 (omega arith)) ∙ definitions_clean n (with_definition known d) ds (λ i h. each (suc i) (omega arith))

owned_clean : (n : ℕ) (g : ℕ → Owned) (i m : ℕ) (os : List Owned) (count : ℕ)
    → owners_fault n count (elements_from g i m ++ os) ≡ None
    → ((j : ℕ) → j < m → expression_fault (g (i + j)).known n (g (i + j)).expression ≡ None) × (c : ℕ)
    × (owners_fault n c os ≡ None)
unfolding elements_from
owned_clean n g i zero os count e = (λ j h. absurd (omega arith), count, e)
owned_clean n g i (suc m) os count e =
    let tail = elements_from g (suc i) m ++ os in
    let first = expression_clean n count (g i) tail e in
    let rest = rest_clean n count (g i) tail e in
    let r = owned_clean n g (suc i) m os rest.0 rest.1 in
    (each first r.0, r.1, r.2)
  where
    each : expression_fault (g i).known n (g i).expression ≡ None
        → ((j : ℕ) → j < m → expression_fault (g (suc i + j)).known n (g (suc i + j)).expression ≡ None) → (j : ℕ)
        → j < suc m → expression_fault (g (i + j)).known n (g (i + j)).expression ≡ None
    each first rest zero h = subst (λ k. expression_fault (g k).known n (g k).expression ≡ None) (omega arith) first
    each first rest (suc j) h = subst (λ k. expression_fault (g k).known n (g k).expression ≡ None) (omega arith) (rest j (omega arith))

with_objective : (b : Bool) (r : Option FoldFault) (k : ℕ) → (if b then r else Some (no_such_objective k)) ≡ None → r ≡ None
with_objective true r k e = e
with_objective false r k e = cc

-- an expression without a fault, over defined variables without one, has the values of its line
clean_line : (n : ℕ) (ds : List Definition) → AreDefined n [] ds → definitions_fault (λ at i. None) n ds ≡ None
    → (x : Expression) → IsExpressionFormed n (indices_of ds) x → expression_fault (known_values ds) n x ≡ None
    → HasValues n (expression_value ds x) (expression_line ds x)
clean_line n ds above clean x formed fault =
    line_by_lem n (expression_value ds x) (line_with_terms (tree_line (known_values ds) x.tree) x.terms)
    (expression_linear n (known_values ds) (indices_of ds) (known_linear n ds above clean) x formed fault)

-- nothing that is folded has a fault
record IsClean (f : File) (k : ℕ) : Type 0 where
  definitions : definitions_fault (λ at i. None) f.counts.n_var (definitions_of f) ≡ None
  bodies : (i : ℕ) → i < f.counts.n_con → expression_fault (known_values (definitions_of f)) f.counts.n_var (body_of f i) ≡ None
  objective : expression_fault (known_values (definitions_of f)) f.counts.n_var (objective_of f k) ≡ None

is_clean : (f : File) (k : ℕ) → fold_fault f k ≡ None → IsClean f k
unfolding fold_fault
is_clean f k clean =
    let n = f.counts.n_var in
    let ds = definitions_of f in
    let free = with_objective (has_objective f k) (owners_fault n 0 (owners_of f k)) k clean in
    let defs = owned_clean n (owned_definition ds) 0 (length ds) (elements_from (λ i. owned_by f (Con i) (body_of f i)) 0 f.counts.n_con ++ owned_by f (Obj k) (objective_of f k) ∷ []) 0 free in
    let bodies = owned_clean n (λ i. owned_by f (Con i) (body_of f i)) 0 f.counts.n_con (owned_by f (Obj k) (objective_of f k) ∷ []) defs.1 defs.2 in
    record {
      definitions = definitions_clean n (λ at i. None) ds (λ i h. subst (λ j. expression_fault (owned_definition ds j).known n (owned_definition ds j).expression ≡ None) (omega arith) (defs.0 i h));
      bodies = λ i h. subst (λ j. expression_fault (known_values ds) n (body_of f j) ≡ None) (omega arith) (bodies.0 i h);
      objective = expression_clean n bodies.1 (owned_by f (Obj k) (objective_of f k)) [] bodies.2;
    }

module _ (f : File) (k : ℕ) (formed : IsFormedFile f k) (clean : fold_fault f k ≡ None) where
  pub clean_has_lines : HasLines f k
  clean_has_lines =
      let n = f.counts.n_var in
      let ds = definitions_of f in
      let free = is_clean f k clean in
      record {
        bodies = λ i h xs. clean_line n ds formed.definitions free.definitions (body_of f i) (formed.bodies i h)
            (free.bodies i h) (value_at xs) ∙ ap Some (form_value_lem n (expression_line ds (body_of f i)) xs);
        objective = λ xs. clean_line n ds formed.definitions free.definitions (objective_of f k) formed.objective
            free.objective (value_at xs) ∙ ap Some (form_value_lem n (expression_line ds (objective_of f k)) xs);
      }

  known_lines : AreLinear f.counts.n_var (known_values (definitions_of f)) (indices_of (definitions_of f))
  known_lines = known_linear f.counts.n_var (definitions_of f) formed.definitions (is_clean f k clean).definitions

  -- each defined variable has the values of its line
  pub defined_has_line : (i : ℕ) → IsOneOf i (indices_of (definitions_of f)) → (at : Point) → known_values (definitions_of f) at i ≡ Some (line_value f.counts.n_var (defined_line f i) at)
  defined_has_line i among = (let r = known_lines i among in line_by_lem f.counts.n_var (λ at. known_values (definitions_of f) at i) r.0 r.1)

  -- each part of a tree is linear
  pub definition_parts_are_linear : (i : ℕ) (d : Definition) → slice_get (definitions_of f) i ≡ Some d → (u : Tree)
      → IsPart u d.expression.tree → IsLinearTree f.counts.n_var (take i (definitions_of f)) u
  definition_parts_are_linear = definition_parts f.counts.n_var (λ at i. None) [] (none_linear f.counts.n_var) (definitions_of f) formed.definitions (is_clean f k clean).definitions

  expression_parts : (x : Expression) → IsExpressionFormed f.counts.n_var (indices_of (definitions_of f)) x
      → expression_fault (known_values (definitions_of f)) f.counts.n_var x ≡ None → (u : Tree) → IsPart u x.tree
      → IsLinearTree f.counts.n_var (definitions_of f) u
  expression_parts x within free = part_linear f.counts.n_var (known_values (definitions_of f)) (indices_of (definitions_of f)) known_lines 0 x.tree within.tree (option_or-none _ _ free).0

  pub body_parts_are_linear : (i : ℕ) → i < f.counts.n_con → (u : Tree) → IsPart u (body_of f i).tree → IsLinearTree f.counts.n_var (definitions_of f) u
  body_parts_are_linear i h = expression_parts (body_of f i) (formed.bodies i h) ((is_clean f k clean).bodies i h)

  pub objective_parts_are_linear : (u : Tree) → IsPart u (objective_of f k).tree → IsLinearTree f.counts.n_var (definitions_of f) u
  objective_parts_are_linear = expression_parts (objective_of f k) formed.objective (is_clean f k clean).objective
