-- What definitions keep as one more is given.
use Rattle.std.proofs.Common.{◌≡◌, ◌⊎◌, ℕ, ◌+◌, ◌<◌, ◌≤◌, Bool, true, false, ◌||◌, eqb, List, [], ◌∷◌, ◌++◌, length}
use Rattle.std.proofs.Common.{get_or, set, ◌∙◌, sym, ap, subst, refl, arith, Option, IfSome, None, Some, append_assoc}
use Rattle.std.proofs.Common.{append-nil, inl, inr, get_or-set_same, get_or-set_other, eq-eqb}
use Rattle.std.proofs.Math.ListN.{length-set}
use Rattle.std.proofs.lemmas.Bool.{ne_eqb, cases_eq, or_left}
use Rattle.std.proofs.lemmas.List.Elements.{All-weaker}
use Rattle.std.proofs.lemmas.List.Folds.{list_any-append}
use Rattle.nl_model.specs.Trees.{Tree, number, variable, defined, operator, Trees, none, more}
use Rattle.nl_model.specs.declared.definition.Def.{Def as Definition}
use Rattle.nl_model.specs.declared.objective.Objective.{Objective}
use Rattle.nl_model.specs.HeaderRules.{defined_count}
use Rattle.nl_model.specs.Rules.{is_defined, IsTreeWithin, AreTreesWithin, IsTreeKnown, IsDefinition, AreDefinitions}
use Rattle.nl_model.specs.Draft.{Draft}
use Rattle.nl_model.specs.InsideBuilt.{IsKept}

pub defined-push : (ds : List Definition) (d : Definition) (i : ℕ) → is_defined (ds ++ d ∷ []) i ≡ (is_defined ds i || (eqb d.index i || false))
defined-push ds d i = list_any-append (λ e. eqb e.index i) ds (d ∷ [])

defined_more : (ds : List Definition) (d : Definition) (i : ℕ) → is_defined ds i ≡ true → is_defined (ds ++ d ∷ []) i ≡ true
defined_more ds d i h = defined-push ds d i ∙ or_left (is_defined ds i) (eqb d.index i || false) h

mutual
  within_more : (n : ℕ) (ds : List Definition) (d : Definition) (t : Tree) → IsTreeWithin n ds t → IsTreeWithin n (ds ++ d ∷ []) t
  within_more n ds d (number m e) h = tt
  within_more n ds d (variable j) h = h
  within_more n ds d (defined i) h = defined_more ds d i h
  within_more n ds d (operator c ts) h = all_within_more n ds d ts h

  all_within_more : (n : ℕ) (ds : List Definition) (d : Definition) (ts : Trees) → AreTreesWithin n ds ts → AreTreesWithin n (ds ++ d ∷ []) ts
  all_within_more n ds d none h = tt
  all_within_more n ds d (more t ts) h = (within_more n ds d t h.0, all_within_more n ds d ts h.1)

pub known_more : (n : ℕ) (ds : List Definition) (d : Definition) (t : Tree) → IsTreeKnown n ds t → IsTreeKnown n (ds ++ d ∷ []) t
known_more n ds d t h = record { formed = h.formed; within = within_more n ds d t h.within }

body_more : (n : ℕ) (ds : List Definition) (d : Definition) (b : Option Tree) → IfSome b (IsTreeKnown n ds) → IfSome b (IsTreeKnown n (ds ++ d ∷ []))
body_more n ds d None h = h
body_more n ds d (Some t) h = known_more n ds d t h

objective_more : (n : ℕ) (ds : List Definition) (d : Definition) (o : Option Objective) → IfSome o (λ x. IsTreeKnown n ds x.tree)
    → IfSome o (λ x. IsTreeKnown n (ds ++ d ∷ []) x.tree)
objective_more n ds d None h = h
objective_more n ds d (Some o) h = known_more n ds d o.tree h

pub definitions-push : (n k : ℕ) (known ds : List Definition) (x : Definition) → AreDefinitions n k known ds → IsDefinition n k (known ++ ds) x
    → AreDefinitions n k known (ds ++ x ∷ [])
definitions-push n k known [] x all fine = (subst (λ es. IsDefinition n k es x) (append-nil known) fine, tt)
definitions-push n k known (d ∷ ds) x all fine =
    (all.0, definitions-push n k (known ++ d ∷ []) ds x all.1 (subst (λ es. IsDefinition n k es x) (sym (append_assoc known (d ∷ []) ds)) fine))

-- no definition has an index beyond those of defined variables
pub undefined_outside : (n k : ℕ) (known ds : List Definition) (i : ℕ) → AreDefinitions n k known ds → (i < n) ⊎ (n + k ≤ i) → is_defined ds i ≡ false
undefined_outside n k known [] i all h = refl
undefined_outside n k known (d ∷ ds) i all h =
    let from = all.0.from in
    let below = all.0.below in
    let other : d.index ≡ i → ⊥ = λ e. elim h [ inl l ↦ omega arith | inr r ↦ omega arith ] in
    ap (λ b. b || is_defined ds i) (ne_eqb d.index i other) ∙ undefined_outside n k (known ++ d ∷ []) ds i all.1 h

-- the marks with one more
marks_more : (n k : ℕ) (ds : List Definition) (d : Definition) (marks : List Bool) (place : ℕ) → length marks ≡ k → d.index ≡ n + place → place < k
    → ((i : ℕ) → i < k → get_or marks i false ≡ is_defined ds (n + i)) → (i : ℕ) → i < k → get_or (set marks place true) i false ≡ is_defined (ds ++ d ∷ []) (n + i)
marks_more n k ds d marks place count at inside old i below =
    elim (cases_eq i place) [
      | inl same ↦
          let lt : place < length marks = omega arith in
          let left : get_or (set marks place true) i false ≡ true = ap (λ j. get_or (set marks place true) j false) same ∙ get_or-set_same marks place true false lt in
          let there : eqb d.index (n + i) ≡ true = eq-eqb d.index (n + i) (at ∙ ap (λ j. n + j) (sym same)) in
          left ∙ sym (defined-push ds d (n + i) ∙ ap (λ b. is_defined ds (n + i) || (b || false)) there ∙ or_true (is_defined ds (n + i)))
      | inr other ↦
          let left : get_or (set marks place true) i false ≡ get_or marks i false = get_or-set_other marks place i true false other in
          let apart : d.index ≡ n + i → ⊥ = λ e. other (omega arith) in
          left ∙ old i below ∙ sym (defined-push ds d (n + i) ∙ ap (λ b. is_defined ds (n + i) || (b || false)) (ne_eqb d.index (n + i) apart) ∙ or_false (is_defined ds (n + i)))
    ]
  where
    or_true : (b : Bool) → (b || true) ≡ true
    or_true true = refl
    or_true false = refl

    or_false : (b : Bool) → (b || false) ≡ b
    or_false true = refl
    or_false false = refl

-- one more definition
pub kept-define : (d : Draft) (marks : List Bool) (count : ℕ) (x : Definition) (place : ℕ) → IsKept d marks count
    → IsDefinition d.counts.n_var (defined_count d.counts) d.definitions x → x.index ≡ d.counts.n_var + place
    → IsKept (record d { definitions = d.definitions ++ x ∷ [] }) (set marks place true) count
kept-define d marks count x place k fine at =
    let n = d.counts.n_var in
    let below = fine.below in
    let inside : place < defined_count d.counts = omega arith in
    record {
      draft = record {
        ruled = k.draft.ruled;
        definitions = definitions-push n (defined_count d.counts) [] d.definitions x k.draft.definitions fine;
        bodies = record {
          count = k.draft.bodies.count;
          known = All-weaker (λ b. IfSome b (IsTreeKnown n d.definitions)) (λ b. IfSome b (IsTreeKnown n (d.definitions ++ x ∷ []))) (body_more n d.definitions x) d.bodies k.draft.bodies.known;
        };
        objectives = record {
          count = k.draft.objectives.count;
          known = All-weaker (λ o. IfSome o (λ y. IsTreeKnown n d.definitions y.tree))
              (λ o. IfSome o (λ y. IsTreeKnown n (d.definitions ++ x ∷ []) y.tree)) (objective_more n d.definitions x)
              d.objectives k.draft.objectives.known;
        };
        terms = k.draft.terms;
        side_count = k.draft.side_count;
        sides = k.draft.sides;
        bound_count = k.draft.bound_count;
        bounds = k.draft.bounds;
        dual_guesses = k.draft.dual_guesses;
        primal_guesses = k.draft.primal_guesses;
        suffixes = k.draft.suffixes;
      };
      mark_count = length-set marks place true ∙ k.mark_count;
      marked = marks_more n (defined_count d.counts) d.definitions x marks place k.mark_count at inside k.marked;
      counted = k.counted;
    }
