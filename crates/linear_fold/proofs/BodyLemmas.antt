-- Definitions with their forms, owners in order, the forms of bodies, and the program of a file.
use Rattle.std.proofs.Common.{◌≡◌, ◌≢◌, ℕ, zero, suc, ◌+◌, ◌-◌, ◌*◌, ◌<◌, ◌≤◌, ◌∙◌, sym, ap, refl, subst, arith, ◌^◌}
use Rattle.std.proofs.Common.{⊎_elim, Bool, true, false, ◌||◌, ◌==◌, if◌then◌else◌, Option, Some, None, option_map}
use Rattle.std.proofs.Common.{List, [], ◌∷◌, ◌++◌, map, length, take, set, get_or, slice_get, length-append}
use Rattle.std.proofs.Common.{get_or-set_same, get_or-set_other, eq-eqb, ap₂, subst₂, option_and_then, drop, sum_by}
use Rattle.std.proofs.Common.{drop-cons, All}
use Rattle.std.specs.Option.{option_map_or}
use Rattle.std.proofs.Math.Bool.{or-false as or_false}
use Rattle.std.proofs.Math.ListN.{length-set}
use Rattle.std.proofs.Math.Nat.{mul-le-mul_left}
use Rattle.std.proofs.lemmas.Bool.{cases_eq, eqb-true, ne_eqb, or_cases}
use Rattle.std.proofs.lemmas.List.{length-map, length-take-le, map_push, take-map, take_more, drop_all, get_or_past}
use Rattle.std.proofs.lemmas.Option.{slice_get_read, slice_get_past}
use Rattle.std.proofs.lemmas.List.Sums.{fold-append, sum_by-append, sum_by-set, sum_by-take-le, sum_by_more, sum_by-cons}
use Rattle.std.proofs.lemmas.List.Folds.{list_any-append}
use Rattle.text_base.specs.declared.stop.Stop.{Stop}
use Rattle.text_base.specs.declared.stop.Stop.TheVariants.{Fault, Memory}
use Rattle.linear_program.specs.Lines.{line_value, Point, constant_line, form_of_line}
use Rattle.nl_model.specs.Trees.{expression_given, tree_size, with_definition, known_values, Tree}
use Rattle.nl_model.specs.File.{File, Term}
use Rattle.nl_model.specs.declared.definition.Def.{Def as Definition}
use Rattle.nl_model.specs.HeaderRules.{defined_count, AreCounts}
use Rattle.nl_model.specs.Rules.{IsDefinition, is_defined, IsFile}
use Rattle.nl_model.specs.declared.at.Owner.TheVariants.{Def, Con, Obj}
use Rattle.nl_model.specs.Expressions.{definition_of, definitions_of, linear_terms, tree_or_zero, maximises, body_of, objective_of}
use Rattle.nl_model.specs.FoldFaults.{Owned, owned_by, no_definition, owners_fault, owned_definition, most_coefficients, owners_of, fold_fault, has_objective, no_such_objective, owned_line}
use Rattle.linear_program.specs.Elements.{elements_from}
use Rattle.linear_fold.specs.declared.fold_fault.FoldFault.{FoldFault}
use Rattle.linear_program.specs.declared.form.Form.{Form}
use Rattle.linear_fold.specs.FoldedFaults.{HasFaultPlace, named_fault, nodes_in_all, step_bound, term_total}
use Rattle.linear_fold.specs.FoldedFile.{AreFoldSteps, FoldsWith, IsFirstFault}
use Rattle.linear_fold.specs.InsideFolds.{AreKnown, AreSlotsWithin, HasLineOf, IsGiven, IsExpressionFolded}
use Rattle.linear_program.specs.Forms.{IsWithin, form_line, form_terms}
use Rattle.linear_fold.specs.InsideOwnerFolds.{AreSlotsOf, HasStopped, HasFolded, IsFormOf, definitions_size}
use Rattle.linear_fold.specs.InsideOwnerFolds.{form_count, known_by, AreBodiesOf, bodies_size, coefficients_of}
use Rattle.linear_fold.specs.InsideOwnerFolds.{expression_at, owned_at, owner_size, AreFormsOf}
use Rattle.linear_fold.specs.declared.owners.Folder.{Folder}
use Rattle.linear_fold.proofs.OwnerLemmas.{definition_at, found_here, linear_folded, owner_count, there, owner_line}
use Rattle.text_base.specs.Stopped.{IfFault}
use Rattle.nl_model.specs.declared.objective.Objective.{Objective}
use Rattle.linear_fold.specs.declared.entries.Entry.TheVariants.{Linear}
use Rattle.linear_program.specs.Coefs.{AreAscending, AreBelow}
use Rattle.exact_numbers.specs.Rational.{zero_ℚ}
use Rattle.nl_model.specs.FilePlaces.{terms_at, tree_at}
use Rattle.linear_fold.proofs.Expressions.{no_terms, zero_folded}
use Rattle.linear_fold.proofs.Folding.{constant_within}
use Rattle.linear_program.specs.Linear.{Row}
use Rattle.linear_program.specs.declared.interval.Interval.{Interval}
use Rattle.linear_program.specs.declared.kind.Kind.{Kind}
use Rattle.nl_model.specs.Kinds.{variable_kind}
use Rattle.linear_program.specs.Intervals.{IsOrdered, no_sides}
use Rattle.linear_program.proofs.Elements.{elements_length}
use Rattle.nl_model.specs.LinearFile.{linear_of, linear_row, linear_variable}
use Rattle.linear_program.specs.Programs.{IsFormOver, IsLinear, LinearValue, linear_value, rows_from, variables_from}
use Rattle.nl_model.proofs.Folding.{clean_has_lines}
use Rattle.nl_model.proofs.Formed.{file_formed}

-- ---- values of definitions
pub known_push : (ds : List Definition) (d : Definition) (at : Point)
    → known_by (ds ++ d ∷ []) at ≡ (λ i. if i == d.index then expression_given (known_by ds at)
    (definition_of d).expression at else known_by ds at i)
known_push ds d at = ap (λ es. known_values es at) (map_push definition_of ds d) ∙ ap (λ known. known at) (fold-append with_definition (λ x i. None) (map definition_of ds) (definition_of d ∷ []))

-- ---- one more form
some-inj : (x y : Form) → Some x ≡ Some y → x ≡ y
some-inj x y e = ap (λ o. option_map_or (λ z. z) o x) e

or-false : (a b : Bool) → a || b ≡ false → (a ≡ false) × (b ≡ false)
or-false true b e = cc
or-false false b e = (refl, e)

module _ (f : File) (ds : List Definition) (d : Definition) (slots : List (Option Form)) (form : Form)
    (fine : IsDefinition f.counts.n_var (defined_count f.counts) ds d) (s : AreSlotsOf f ds slots)
    (within : IsWithin f.counts.n_var form) (values : HasLineOf f.counts.n_var
    (λ at. expression_given (known_by ds at) (definition_of d).expression at) form) where
  abbrev n : ℕ
  n = f.counts.n_var

  abbrev place : ℕ
  place = d.index - n

  abbrev slots_now : List (Option Form)
  slots_now = set slots place (Some form)

  place_is : n + place ≡ d.index
  place_is = (let h = fine.from in omega arith)

  pub inside : place < length slots
  inside = (let h = fine.from in let k = fine.below in let r = s.room in omega arith)

  here : get_or slots_now place None ≡ Some form
  here = get_or-set_same slots place (Some form) None inside

  other : (k : ℕ) → k ≢ place → get_or slots_now k None ≡ get_or slots k None
  other k e = get_or-set_other slots place k (Some form) None e

  within_now : AreSlotsWithin n slots_now
  within_now k x e =
      ⊎_elim
      (λ (same : k ≡ place). subst (IsWithin n) (some-inj form x (sym here ∙ subst (λ j. get_or slots_now j None ≡ Some x) same e)) within)
      (λ (apart : k ≢ place). s.within k x (sym (other k apart) ∙ e)) (cases_eq k place)

  known_same : (at : Point) → known_by (ds ++ d ∷ []) at d.index ≡ expression_given (known_by ds at) (definition_of d).expression at
  known_same at = ap (λ w. w d.index) (known_push ds d at) ∙ ap
      (λ b. if b then expression_given (known_by ds at) (definition_of d).expression at else known_by ds at d.index)
      (eq-eqb d.index d.index refl)

  known_other : (at : Point) (i : ℕ) → i ≢ d.index → known_by (ds ++ d ∷ []) at i ≡ known_by ds at i
  known_other at i e = ap (λ w. w i) (known_push ds d at) ∙ ap (λ b. if b then expression_given (known_by ds at) (definition_of d).expression at else known_by ds at i) (ne_eqb i d.index e)

  known_now : AreKnown n (known_by (ds ++ d ∷ [])) slots_now
  known_now k x e =
      ⊎_elim
      (λ (same : k ≡ place).
      let is : form ≡ x = some-inj form x (sym here ∙ subst (λ j. get_or slots_now j None ≡ Some x) same e) in
      λ at. ap (λ j. known_by (ds ++ d ∷ []) at (n + j)) same ∙ ap (known_by (ds ++ d ∷ []) at) place_is ∙ known_same at ∙ values at ∙ ap (λ y. Some (line_value n (form_line y) at)) is)
      (λ (apart : k ≢ place). λ at. known_other at (n + k) (λ h. apart (let p = place_is in omega arith)) ∙ s.known k x (sym (other k apart) ∙ e) at)
      (cases_eq k place)

  old_given : (i : ℕ) → IsGiven n slots i → IsGiven n slots_now i
  old_given i g =
      record {
        from = g.from;
        below = subst (λ m. i - n < m) (sym (length-set slots place (Some form))) g.below;
        there = λ e.
            ⊎_elim (λ (same : i - n ≡ place). (let clash : Some form ≡ None =
            sym here ∙ subst (λ j. get_or slots_now j None ≡ None) same e in cc))
            (λ (apart : i - n ≢ place). g.there (sym (other (i - n) apart) ∙ e))
            (cases_eq (i - n) place);
      }

  new_given : IsGiven n slots_now d.index
  new_given =
      record {
        from = fine.from;
        below = subst (λ m. place < m) (sym (length-set slots place (Some form))) inside;
        there = λ e. (let clash : Some form ≡ None = sym here ∙ e in cc);
      }

  is_now : (i : ℕ) → is_defined (ds ++ d ∷ []) i ≡ is_defined ds i || d.index == i
  is_now i = list_any-append (λ e. e.index == i) ds (d ∷ []) ∙ ap (λ b. is_defined ds i || b) (or_false (d.index == i))

  given_now : (i : ℕ) → is_defined (ds ++ d ∷ []) i ≡ true → IsGiven n slots_now i
  given_now i e =
      ⊎_elim (λ (h : is_defined ds i ≡ true). old_given i (s.given i h)) (λ (h : d.index == i ≡ true). subst (IsGiven n slots_now) (eqb-true d.index i h) new_given)
      (or_cases (is_defined ds i) (d.index == i) (sym (is_now i) ∙ e))

  free_now : (i : ℕ) → is_defined (ds ++ d ∷ []) i ≡ false → n ≤ i → get_or slots_now (i - n) None ≡ None
  free_now i e from =
      let both = or-false (is_defined ds i) (d.index == i) (sym (is_now i) ∙ e) in
      let apart : i - n ≢ place = λ h. (let same : d.index ≡ i = (let p = fine.from in omega arith) in let clash : true ≡ false = sym (eq-eqb d.index i same) ∙ both.1 in cc) in
      other (i - n) apart ∙ s.free i both.0 from

  filled_now : form_count slots_now ≡ length (ds ++ d ∷ [])
  filled_now =
      let before : get_or slots place None ≡ None = s.free d.index fine.fresh fine.from in
      let count = sum_by-set (λ o. option_map_or (λ x. 1) o 0) slots place (Some form) None inside in
      let none : option_map_or (λ x. 1) (get_or slots place None) 0 ≡ 0 = ap (λ o. option_map_or (λ x. 1) o 0) before in
      let more : form_count slots_now + 0 ≡ form_count slots + 1 = subst (λ k. form_count slots_now + k ≡ form_count slots + 1) none count in
      let many = s.filled in
      let longer = length-append ds (d ∷ []) in
      omega arith

  pub one_more_slot : AreSlotsOf f (ds ++ d ∷ []) slots_now
  one_more_slot = record { within = within_now; known = known_now; given = given_now; free = free_now; room = length-set slots place (Some form) ∙ s.room; filled = filled_now }

pub count_below : (slots : List (Option Form)) → form_count slots ≤ length slots
count_below [] = omega arith
count_below (None ∷ slots) = let r = count_below slots in omega arith
count_below (Some x ∷ slots) = let r = count_below slots in let e : form_count (Some x ∷ slots) ≡ 1 + form_count slots =
    sum_by-append (λ s. option_map_or (λ f. 1) s 0) (Some x ∷ []) slots in omega arith

-- ---- the definition at a position
pub take_next : {A : Type 0} → (xs : List A) (i : ℕ) (x : A) → slice_get xs i ≡ Some x → take (i + 1) xs ≡ take i xs ++ x ∷ []
take_next xs i x e =
    let r = found_here xs i x e in
    take_more xs i x r.0 ∙ ap (λ y. take i xs ++ y ∷ []) r.1

-- one element more, as a loop finds it
pub next_taken : {A : Type 0} → (xs : List A) (i : ℕ) (x : A) → slice_get xs i ≡ Some x → take i xs ++ x ∷ [] ≡ take (i + 1) xs
next_taken xs i x e = sym (take_next xs i x e)

module _ (f : File) (file : IsFile f) (i : ℕ) (d : Definition) (is : slice_get f.definitions i ≡ Some d) where
  pub definition_here : IsDefinition f.counts.n_var (defined_count f.counts) (take i f.definitions) d
  definition_here = definition_at f.counts.n_var (defined_count f.counts) [] f.definitions file.definitions i d is

  pub definition_folded : (slots : List (Option Form)) (form : Form) → AreSlotsOf f (take i f.definitions) slots
      → IsFormOf f (Def i) form → AreSlotsOf f (take (i + 1) f.definitions)
      (set slots (d.index - f.counts.n_var) (Some form))
  definition_folded slots form s h =
      subst (λ ds. AreSlotsOf f ds (set slots (d.index - f.counts.n_var) (Some form))) (sym (take_next f.definitions i d is))
      (one_more_slot f (take i f.definitions) d slots form definition_here s h.within
      (subst (λ x. HasLineOf f.counts.n_var (λ at. expression_given (known_by (take i f.definitions) at)
      (record {
        tree = tree_or_zero (option_map (λ y. y.tree) x);
        terms =
            linear_terms (option_map_or (λ y. y.terms) x []);
      }) at) form) is h.values))

  pub definition_owner : owner_size f (Def i) ≡ tree_size d.tree + length d.terms
  definition_owner = ap (λ x. option_map_or tree_size (option_map (λ y. y.tree) x) 0 + length (option_map_or (λ y. y.terms) x [])) is

  pub definition_size : definitions_size (take (i + 1) f.definitions) ≡ definitions_size (take i f.definitions) + (tree_size d.tree + length d.terms)
  definition_size =
      let r = found_here f.definitions i d is in
      let trees = sum_by_more (λ x. tree_size x.tree) f.definitions i d r.0 in
      let terms = sum_by_more (λ x. length x.terms) f.definitions i d r.0 in
      let tree : tree_size (get_or f.definitions i d).tree ≡ tree_size d.tree = ap (λ x. tree_size x.tree) r.1 in
      let list : length (get_or f.definitions i d).terms ≡ length d.terms = ap (λ x. length x.terms) r.1 in
      omega arith

pub at_position : (ds xs : List Definition) → xs ≡ ds → (i : ℕ) (d : Definition) → i < length xs → d ≡ get_or xs i d → slice_get ds i ≡ Some d
at_position ds xs e i d h is = ap (λ l. slice_get l i) (sym e) ∙ slice_get_read xs (length xs) i d refl h is

pub definitions_size_le : (ds : List Definition) (i : ℕ) → definitions_size (take i ds) ≤ definitions_size ds
definitions_size_le ds i =
    let trees = sum_by-take-le (λ x. tree_size x.tree) ds i in
    let terms = sum_by-take-le (λ x. length x.terms) ds i in
    omega arith

pub position_small : (f : File) (i : ℕ) (folder : Folder) → i ≤ length f.definitions → HasFolded f (take i f.definitions) folder → defined_count f.counts ≤ 2 ^ 20 → i ≤ 2 ^ 20
position_small f i folder h folded few =
    let filled = folded.slots.filled in
    let room = folded.slots.room in
    let below = count_below folder.slots.items in
    let len = length-take-le i f.definitions h in
    omega arith

-- ---- owners in order
-- what is left of owners, where those before the next have `count` coefficients
pub record LeftOwners (f : File) (before : ℕ) (g : ℕ → Owned) (len count i : ℕ) : Type 0 where
  pub left : (rest : List Owned) → owners_fault f.counts.n_var before (elements_from g 0 len ++ rest) ≡ owners_fault f.counts.n_var count (elements_from g i (len - i) ++ rest)

module _ (f : File) (before : ℕ) (g : ℕ → Owned) (len : ℕ) where
  pub left_init : LeftOwners f before g len before 0
  left_init = record { left = λ rest. (let same : len ≡ len - 0 = omega arith in ap (λ m. owners_fault f.counts.n_var before (elements_from g 0 m ++ rest)) same) }

  next_element : (i : ℕ) → i < len → elements_from g i (len - i) ≡ g i ∷ elements_from g (i + 1) (len - (i + 1))
  unfolding elements_from
  next_element i h =
      let same : len - i ≡ suc (len - (i + 1)) = omega arith in
      let next : suc i ≡ i + 1 = omega arith in
      ap (λ m. elements_from g i m) same ∙ ap (λ j. g i ∷ elements_from g j (len - (i + 1))) next

  pub left_more : (count after i : ℕ) → i < len → LeftOwners f before g len count i
      → ((rest : List Owned) → owners_fault f.counts.n_var count (g i ∷ rest) ≡ owners_fault f.counts.n_var after rest)
      → LeftOwners f before g len after (i + 1)
  left_more count after i h l one =
      record {
        left = λ rest. l.left rest ∙ ap (λ os. owners_fault f.counts.n_var count (os ++ rest)) (next_element i h) ∙ one (elements_from g (i + 1) (len - (i + 1)) ++ rest);
      }

  pub left_stop : (count i : ℕ) (s : Stop FoldFault) → i < len → LeftOwners f before g len count i → HasStopped f count (g i ∷ []) s → HasStopped f before (elements_from g 0 len) s
  left_stop count i (Fault x) h l one =
      λ rest. ap (option_map (named_fault f)) (l.left rest ∙ ap (λ os. owners_fault f.counts.n_var count (os ++ rest)) (next_element i h)) ∙ one (elements_from g (i + 1) (len - (i + 1)) ++ rest)
  left_stop count i Memory h l one = tt

  pub left_end : (count i : ℕ) → len ≤ i → LeftOwners f before g len count i → (rest : List Owned)
      → owners_fault f.counts.n_var before (elements_from g 0 len ++ rest) ≡ owners_fault f.counts.n_var count rest
  unfolding elements_from
  left_end count i h l rest =
      let none : len - i ≡ 0 = omega arith in
      l.left rest ∙ ap (λ m. owners_fault f.counts.n_var count (elements_from g i m ++ rest)) none

-- ---- steps
pub steps_more : (n from old new a b : ℕ) → old ≤ from + 2 * (n + 1) * a → new ≤ old + 2 * (n + 1) * b → new ≤ from + 2 * (n + 1) * (a + b)
steps_more n from old new a b h k = omega arith

pub steps_within : (n from new a b : ℕ) → a ≤ b → new ≤ from + 2 * (n + 1) * a → new ≤ from + 2 * (n + 1) * b
steps_within n from new a b h k = let m = mul-le-mul_left (2 * (n + 1)) h in omega arith

-- ---- the owners of a file
elements_same : (g h : ℕ → Owned) → ((i : ℕ) → g i ≡ h i) → (i n : ℕ) → elements_from g i n ≡ elements_from h i n
unfolding elements_from
elements_same g h e i zero = refl
elements_same g h e i (suc n) = ap₂ ◌∷◌ (e i) (elements_same g h e (suc i) n)

body_tree : (xs : List (Option Tree)) (i : ℕ) → get_or xs i None ≡ option_and_then (λ t. t) (slice_get xs i)
body_tree [] i = refl
body_tree (x ∷ xs) zero = joined x
  where
    joined : (o : Option Tree) → o ≡ option_and_then (λ t. t) (Some o)
    joined None = refl
    joined (Some t) = refl
body_tree (x ∷ xs) (suc i) = body_tree xs i

objective_tree : (os : List Objective) (k : ℕ) → (get_or os k (record { maximise = false; tree = tree_or_zero None })).tree ≡ tree_or_zero (option_map (λ o. o.tree) (slice_get os k))
objective_tree [] k = refl
objective_tree (o ∷ os) zero = refl
objective_tree (o ∷ os) (suc k) = objective_tree os k

pub body_owned : (f : File) (i : ℕ) → owned_by f (Con i) (body_of f i) ≡ owned_at f (Con i)
body_owned f i = λ q. record { owner = Con i; known = known_by f.definitions; expression = record { tree = tree_or_zero (body_tree f.bodies i q); terms = linear_terms (get_or f.terms i []) } }

pub objective_owned : (f : File) (k : ℕ) → owned_by f (Obj k) (objective_of f k) ≡ owned_at f (Obj k)
objective_owned f k = λ q. record { owner = Obj k; known = known_by f.definitions; expression = record { tree = objective_tree f.objectives k q; terms = linear_terms (get_or f.slopes k []) } }

definition_expression : (ds : List Definition) (i : ℕ) → (get_or (map definition_of ds) i no_definition).expression
    ≡ record {
      tree = tree_or_zero (option_map (λ x. x.tree) (slice_get ds i));
      terms =
          linear_terms (option_map_or (λ x. x.terms) (slice_get ds i) []);
    }
definition_expression [] i = refl
definition_expression (d ∷ ds) zero = refl
definition_expression (d ∷ ds) (suc i) = definition_expression ds i

pub definition_owned : (f : File) (i : ℕ) → owned_definition (definitions_of f) i ≡ owned_at f (Def i)
definition_owned f i = λ q. record { owner = Def i; known = known_values (take-map definition_of i f.definitions q); expression = definition_expression f.definitions i q }

pub owners_are : (f : File) (k : ℕ) → owners_of f k ≡ elements_from (λ j. owned_at f (Def j)) 0 (length f.definitions)
    ++ (elements_from (λ j. owned_at f (Con j)) 0 f.counts.n_con ++ owned_at f (Obj k) ∷ [])
owners_are f k =
    ap₂ (λ a b. a ++ b)
    (elements_same (owned_definition (definitions_of f)) (λ j. owned_at f (Def j)) (definition_owned f) 0
    (length (definitions_of f)) ∙ ap (elements_from (λ j. owned_at f (Def j)) 0)
    (length-map f.definitions definition_of))
    (ap₂ (λ a b. a ++ b ∷ []) (elements_same (λ j. owned_by f (Con j) (body_of f j)) (λ j. owned_at f (Con j)) (body_owned f) 0 f.counts.n_con) (objective_owned f k))

-- ---- the three parts
module _ (f : File) (k c d e : ℕ) (before : c ≡ 0) where
  abbrev definitions_here : List Owned
  definitions_here = elements_from (λ j. owned_at f (Def j)) 0 (length f.definitions)

  abbrev bodies_here : List Owned
  bodies_here = elements_from (λ j. owned_at f (Con j)) 0 f.counts.n_con

  abbrev one_here : List Owned
  one_here = owned_at f (Obj k) ∷ []

  whole : owners_fault f.counts.n_var 0 (owners_of f k) ≡ owners_fault f.counts.n_var c (definitions_here ++ (bodies_here ++ one_here))
  whole = ap₂ (λ n os. owners_fault f.counts.n_var n os) (sym before) (owners_are f k)

  pub first_stopped : (s : Stop FoldFault) → HasStopped f c definitions_here s → IfFault s (λ x. option_map (named_fault f) (owners_fault f.counts.n_var 0 (owners_of f k)) ≡ Some x)
  first_stopped (Fault x) h = ap (option_map (named_fault f)) whole ∙ h (bodies_here ++ one_here)
  first_stopped Memory h = tt

  module _ (first : (rest : List Owned) → owners_fault f.counts.n_var c (definitions_here ++ rest) ≡ owners_fault f.counts.n_var d rest) where
    pub second_stopped : (s : Stop FoldFault) → HasStopped f d bodies_here s → IfFault s (λ x. option_map (named_fault f) (owners_fault f.counts.n_var 0 (owners_of f k)) ≡ Some x)
    second_stopped (Fault x) h = ap (option_map (named_fault f)) (whole ∙ first (bodies_here ++ one_here)) ∙ h one_here
    second_stopped Memory h = tt

    module _ (second : (rest : List Owned) → owners_fault f.counts.n_var d (bodies_here ++ rest) ≡ owners_fault f.counts.n_var e rest) where
      pub third_stopped : (s : Stop FoldFault) → HasStopped f e one_here s → IfFault s (λ x. option_map (named_fault f) (owners_fault f.counts.n_var 0 (owners_of f k)) ≡ Some x)
      third_stopped (Fault x) h = ap (option_map (named_fault f)) (whole ∙ first (bodies_here ++ one_here) ∙ second one_here) ∙ h []
      third_stopped Memory h = tt

      pub all_fine : (g : ℕ) → ((rest : List Owned) → owners_fault f.counts.n_var e (one_here ++ rest) ≡ owners_fault f.counts.n_var g rest) → owners_fault f.counts.n_var 0 (owners_of f k) ≡ None
      all_fine g third = whole ∙ first (bodies_here ++ one_here) ∙ second one_here ∙ third []

-- ---- bodies
pub one_more_body : (f : File) (i : ℕ) (bodies : List Form) (b : Form) → AreBodiesOf f i bodies → IsFormOf f (Con (i + length bodies)) b → AreBodiesOf f i (bodies ++ b ∷ [])
one_more_body f i [] b all h = (subst (λ j. IsFormOf f (Con j) b) (omega arith) h, tt)
one_more_body f i (x ∷ bodies) b all h = (all.0, one_more_body f (suc i) bodies b all.1 (subst (λ j. IsFormOf f (Con j) b) (omega arith) h))

pub one_more_count : (bodies : List Form) (b : Form) → coefficients_of (bodies ++ b ∷ []) ≡ coefficients_of bodies + length (form_terms b)
one_more_count bodies b =
    let one : coefficients_of (b ∷ []) ≡ length (form_terms b) + 0 = sum_by-cons (λ x. length (form_terms x)) b [] in
    sum_by-append (λ x. length (form_terms x)) bodies (b ∷ []) ∙ omega arith

-- ---- steps
tree_part : (bodies : List (Option Tree)) (i : ℕ) → option_map_or tree_size (option_and_then (λ t. t) (slice_get bodies i)) 0 ≡ option_map_or tree_size (get_or bodies i None) 0
tree_part bodies i = ap (λ o. option_map_or tree_size o 0) (sym (body_tree bodies i))

pub body_size : (f : File) → IsFile f → (i : ℕ) → i < f.counts.n_con
    → bodies_size (take (i + 1) f.bodies) (take (i + 1) f.terms)
    ≡ bodies_size (take i f.bodies) (take i f.terms) + owner_size f (Con i)
body_size f file i h =
    let trees = sum_by_more (λ b. option_map_or tree_size b 0) f.bodies i None (subst (λ m. i < m) (sym file.bodies.count) h) in
    let terms = sum_by_more length f.terms i [] (subst (λ m. i < m) (sym file.terms.rows) h) in
    let tree = tree_part f.bodies i in
    omega arith

pub bodies_size_le : (f : File) (i : ℕ) → bodies_size (take i f.bodies) (take i f.terms) ≤ bodies_size f.bodies f.terms
bodies_size_le f i =
    let trees = sum_by-take-le (λ b. option_map_or tree_size b 0) f.bodies i in
    let terms = sum_by-take-le length f.terms i in
    omega arith

objective_part : (os : List Objective) (k : ℕ) → option_map_or tree_size (option_map (λ o. o.tree) (slice_get os k)) 0 ≤ sum_by (λ o. tree_size o.tree) os
objective_part [] k = omega arith
objective_part (o ∷ os) zero = let e = sum_by-cons (λ x. tree_size x.tree) o os in omega arith
objective_part (o ∷ os) (suc k) = let e = sum_by-cons (λ x. tree_size x.tree) o os in let r = objective_part os k in omega arith

slopes_part : (ts : List (List Term)) (k : ℕ) → length (get_or ts k []) ≤ sum_by length ts
slopes_part [] k = omega arith
slopes_part (t ∷ ts) zero = let e = sum_by-cons length t ts in omega arith
slopes_part (t ∷ ts) (suc k) = let e = sum_by-cons length t ts in let r = slopes_part ts k in omega arith

pub parts_within : (f : File) (k : ℕ) → definitions_size f.definitions + bodies_size f.bodies f.terms + owner_size f (Obj k) ≤ nodes_in_all f + term_total f
parts_within f k =
    let trees = objective_part f.objectives k in
    let terms = slopes_part f.slopes k in
    omega arith

pub within_total : (f : File) (from new size : ℕ) → size ≤ nodes_in_all f + term_total f → new ≤ from + 2 * (f.counts.n_var + 1) * size → new ≤ from + step_bound f
within_total f from new size h k =
    let all = steps_within f.counts.n_var from new size (nodes_in_all f + term_total f) h k in
    omega arith

pub three_parts : (f : File) (k from a b new : ℕ) → a ≤ from + 2 * (f.counts.n_var + 1) * definitions_size f.definitions
    → b ≤ a + 2 * (f.counts.n_var + 1) * bodies_size f.bodies f.terms
    → new ≤ b + 2 * (f.counts.n_var + 1) * owner_size f (Obj k) → new ≤ from + step_bound f
three_parts f k from a b new first second third =
    let n = f.counts.n_var in
    within_total f from new (definitions_size f.definitions + bodies_size f.bodies f.terms + owner_size f (Obj k)) (parts_within f k)
    (steps_more n from b new (definitions_size f.definitions + bodies_size f.bodies f.terms) (owner_size f (Obj k))
    (steps_more n from a b (definitions_size f.definitions) (bodies_size f.bodies f.terms) first second) third)

-- ---- the objective of a file without objectives
module _ (f : File) (file : IsFile f) (k : ℕ) (form : Form) (past : f.counts.n_obj ≤ k) (line : form_line form ≡ constant_line zero_ℚ) (none : form_terms form ≡ []) where
  no_tree : tree_at f (Obj k) ≡ None
  no_tree = ap (option_map (λ o. o.tree)) (slice_get_past f.objectives k (subst (λ m. m ≤ k) (sym file.objectives.count) past))

  no_list : terms_at f (Obj k) ≡ []
  no_list = get_or_past f.slopes k [] (subst (λ m. m ≤ k) (sym file.terms.costs) past)

  folded_here : IsExpressionFolded (known_by f.definitions) f.counts.n_var (expression_at f (Obj k)) (Linear form)
  folded_here =
      subst₂ (λ t ts. IsExpressionFolded (known_by f.definitions) f.counts.n_var (record { tree = tree_or_zero t; terms = linear_terms ts }) (Linear form)) (sym no_tree) (sym no_list)
      (no_terms (known_by f.definitions) f.counts.n_var (tree_or_zero None) form (zero_folded (known_by f.definitions) f.counts.n_var form line) [] refl)

  within_here : IsWithin f.counts.n_var form
  within_here = constant_within f.counts.n_var form zero_ℚ line

  pub zero_form : IsFormOf f (Obj k) form
  zero_form = record { values = folded_here.1; within = within_here; over = subst (AreBelow f.counts.n_var) (sym none) tt }

  pub zero_clean : (before : ℕ) → before ≤ most_coefficients → (rest : List Owned) → owners_fault f.counts.n_var before (owned_at f (Obj k) ∷ rest) ≡ owners_fault f.counts.n_var before rest
  zero_clean before few =
      let length_zero : length (form_terms form) ≡ 0 = ap length none in
      linear_folded f (Obj k) before (length (form_terms form)) before folded_here.0 (owner_count f (Obj k) form within_here (subst (AreAscending 0) (sym none) tt) folded_here.1) (omega arith) few

-- ---- rows and variables
module _ (f : File) where
  body_line : (i : ℕ) (b : Form) → IsFormOf f (Con i) b → form_line b ≡ owned_line (owned_by f (Con i) (body_of f i))
  body_line i b h = owner_line f (Con i) b h ∙ ap owned_line (sym (body_owned f i))

  rows_are : (i : ℕ) (bodies : List Form) → AreBodiesOf f i bodies → i + length bodies ≡ length f.sides → rows_from i bodies (drop i f.sides) ≡ elements_from (linear_row f) i (length bodies)
  unfolding elements_from
  rows_are i [] all e = refl
  rows_are i (b ∷ bodies) all e =
      ap (rows_from i (b ∷ bodies)) (drop-cons f.sides i no_sides (omega arith))
      ∙ ap₂ (λ (r : Row) rs. r ∷ rs) (λ q. record {
        name = (linear_row f i).name;
        body =
            form_of_line (body_line i b all.0 q);
        side = (linear_row f i).side;
      })
      (rows_are (suc i) bodies all.1 (omega arith))

  variables_are : (m j : ℕ) → j + m ≡ length f.bounds → variables_from j (drop j f.bounds) (elements_from (variable_kind f.counts) j m) ≡ elements_from (linear_variable f) j m
  unfolding elements_from
  variables_are zero j e = ap (λ bs. variables_from j bs []) (drop_all j f.bounds (omega arith))
  variables_are (suc m) j e =
      ap (λ bs. variables_from j bs (elements_from (variable_kind f.counts) j (suc m))) (drop-cons f.bounds j no_sides (omega arith))
      ∙ ap (λ vs. linear_variable f j ∷ vs) (variables_are m (suc j) (omega arith))

bodies_over : (f : File) (i n : ℕ) (bodies : List Form) → n ≡ f.counts.n_var → AreBodiesOf f i bodies → All (IsFormOver n) bodies
bodies_over f i n [] e all k d h = absurd (omega arith)
bodies_over f i n (b ∷ bodies) e all zero d h = subst (λ m. IsFormOver m b) (sym e) all.0.over
bodies_over f i n (b ∷ bodies) e all (suc k) d h = bodies_over f (suc i) n bodies e all.1 k d (omega arith)

module _ (f : File) (file : IsFile f) (k : ℕ) (bodies : List Form) (objective : Form) (forms : AreFormsOf f k bodies objective) where
  abbrev value_here : Bool → List Interval → List Interval → List Kind → LinearValue
  value_here maximise sides bounds kinds = record { bodies = bodies; objective = objective; number = k; maximise = maximise; sides = sides; bounds = bounds; kinds = kinds }

  module _ (maximise : Bool) (sides bounds : List Interval) (kinds : List Kind) (sense : maximise ≡ maximises f k)
      (sides_is : sides ≡ f.sides) (bounds_is : bounds ≡ f.bounds)
      (kinds_is : kinds ≡ elements_from (variable_kind f.counts) 0 f.counts.n_var) where
    pub is_linear : AreCounts f.counts → IsLinear (value_here maximise sides bounds kinds)
    is_linear counts =
        let width : length bounds ≡ f.counts.n_var = ap length bounds_is ∙ file.bound_count in
        let height : length sides ≡ f.counts.n_con = ap length sides_is ∙ file.side_count in
        let kind_count : length kinds ≡ f.counts.n_var = ap length kinds_is ∙ elements_length (variable_kind f.counts) 0 f.counts.n_var in
        record {
          bodies = bodies_over f 0 (length bounds) bodies width forms.bodies_are;
          objective = subst (λ m. IsFormOver m objective) (sym width) forms.objective_is.over;
          sides = height ∙ sym forms.count;
          ordered = subst (All IsOrdered) (sym sides_is) file.sides;
          kinds = kind_count ∙ sym width;
          few_rows = subst (λ m. m ≤ 2 ^ 20) (sym forms.count) counts.constraints;
          few_columns = subst (λ m. m ≤ 2 ^ 20) (sym width) counts.variables;
          few_coefficients = forms.few;
        }

    pub is_program : linear_value (value_here maximise sides bounds kinds) ≡ linear_of f k
    unfolding linear_value linear_of
    is_program =
        let height : 0 + length bodies ≡ length f.sides = (let a = forms.count in let b = file.side_count in omega arith) in
        let width : 0 + f.counts.n_var ≡ length f.bounds = (let a = file.bound_count in omega arith) in
        let rows = ap (rows_from 0 bodies) sides_is ∙ rows_are f 0 bodies forms.bodies_are height ∙ ap (elements_from (linear_row f) 0) forms.count in
        let variables = ap₂ (λ bs ks. variables_from 0 bs ks) bounds_is kinds_is ∙ variables_are f f.counts.n_var 0 width in
        let line = owner_line f (Obj k) objective forms.objective_is ∙ ap owned_line (sym (objective_owned f k)) in
        λ q. record { rows = rows q; variables = variables q; objective = form_of_line (line q); maximise = sense q }

-- ---- the first fault
pub fault_of_owners : (f : File) (k : ℕ) → has_objective f k ≡ true → fold_fault f k ≡ owners_fault f.counts.n_var 0 (owners_of f k)
unfolding fold_fault
fault_of_owners f k e = ap (λ b. if b then owners_fault f.counts.n_var 0 (owners_of f k) else Some (no_such_objective k)) e

pub no_objective_there : (f : File) (k : ℕ) → has_objective f k ≡ false → fold_fault f k ≡ Some (no_such_objective k)
unfolding fold_fault
no_objective_there f k e = ap (λ b. if b then owners_fault f.counts.n_var 0 (owners_of f k) else Some (no_such_objective k)) e

pub owners_stopped : (f : File) (k : ℕ) (s : Stop FoldFault) → has_objective f k ≡ true
    → IfFault s (λ x. option_map (named_fault f) (owners_fault f.counts.n_var 0 (owners_of f k)) ≡ Some x)
    → IfFault s (HasFaultPlace f) → IfFault s (IsFirstFault f k)
owners_stopped f k (Fault x) e h there = record { first = ap (option_map (named_fault f)) (fault_of_owners f k e) ∙ h; place = there }
owners_stopped f k Memory e h there = tt

pub folds_with : (f : File) (k : ℕ) → IsFile f → fold_fault f k ≡ None → FoldsWith f k
folds_with f k file fine = record { fine = fine; values = clean_has_lines f k (file_formed f file k) fine }

pub are_fold_steps : (f : File) (k before after : ℕ) → has_objective f k ≡ true → before ≤ after → after ≤ before + step_bound f → AreFoldSteps f k before after
are_fold_steps f k before after e above below =
    record { above = above; below = below; none = λ none. let clash : false ≡ true = sym none ∙ e in cc }
