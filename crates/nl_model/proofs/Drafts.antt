-- What a draft keeps as its parts are those_given.
use Rattle.std.proofs.Common.{◌≡◌, ℕ, zero, suc, ◌+◌, ◌<◌, ◌≤◌, Bool, List, [], ◌∷◌, ◌++◌, length, get_or, set, ◌∙◌}
use Rattle.std.proofs.Common.{sym, ap, subst, refl, arith, All, Option, None, Some, IsSome, IfSome, is_some, true}
use Rattle.std.proofs.Common.{slice_get}
use Rattle.std.proofs.Math.ListN.{length-set}
use Rattle.std.proofs.lemmas.List.{length_push, get_or_default}
use Rattle.std.proofs.lemmas.List.Elements.{All-push, All-set, All-get_or, All-head, All-tail, All-cons, All-nil}
use Rattle.std.proofs.lemmas.List.Sums.{sum_by-set}
use Rattle.nl_model.specs.File.{Term}
use Rattle.nl_model.specs.declared.objective.Objective.{Objective}
use Rattle.nl_model.specs.Rules.{AreTerms, AreTermsBelow, term_count, most_terms, IsTreeKnown, IsFile}
use Rattle.linear_program.specs.Intervals.{IsOrdered}
use Rattle.linear_program.specs.declared.interval.Interval.{Interval}
use Rattle.nl_model.specs.Draft.{Draft, IsDraft, those_given, file_of}
use Rattle.nl_model.specs.InsideBuilt.{IsKept}

-- a row with one more term
row_below : (n : ℕ) (rows : List (List Term)) (i : ℕ) (t : Term) (old row : List Term) → All (AreTermsBelow n) rows → i < length rows → t.0 < n
    → old ≡ get_or rows i old → row ≡ old ++ t ∷ [] → All (AreTermsBelow n) (set rows i row)
row_below n rows i t old row all inside var e f =
    let P : List Term → Type 0 = AreTermsBelow n in
    let was : P old = subst P (sym e) (All-get_or P rows i old inside all) in
    let now : P row = subst P (sym f) (All-push (λ s. s.0 < n) old t was var) in
    All-set P rows i row now all

row_more : (old row : List Term) (t : Term) → row ≡ old ++ t ∷ [] → length row ≡ length old + 1
row_more old row t f = ap length f ∙ length_push old t

rows_more : (rows : List (List Term)) (i : ℕ) (t : Term) (old row : List Term) → i < length rows → old ≡ get_or rows i old → row ≡ old ++ t ∷ []
    → term_count (set rows i row) ≡ term_count rows + 1
rows_more rows i t old row inside e f =
    let sum = sum_by-set length rows i row old inside in
    let more = row_more old row t f in
    let same : length (get_or rows i old) ≡ length old = ap length (sym e) in
    omega arith

-- a draft with other terms
kept-terms : (d : Draft) (marks : List Bool) (count now : ℕ) (terms slopes : List (List Term)) → IsKept d marks count → AreTerms d.counts terms slopes → now ≡ term_count terms
    → IsKept (record d { terms = terms; slopes = slopes }) marks now
kept-terms d marks count now terms slopes k fine counted =
    record {
      draft = record {
        ruled = k.draft.ruled;
        definitions = k.draft.definitions;
        bodies = k.draft.bodies;
        objectives = k.draft.objectives;
        terms = fine;
        side_count = k.draft.side_count;
        sides = k.draft.sides;
        bound_count = k.draft.bound_count;
        bounds = k.draft.bounds;
        dual_guesses = k.draft.dual_guesses;
        primal_guesses = k.draft.primal_guesses;
        suffixes = k.draft.suffixes;
      };
      mark_count = k.mark_count;
      marked = k.marked;
      counted = counted;
    }

-- one more term of a constraint
pub kept-term : (d : Draft) (marks : List Bool) (count i : ℕ) (t : Term) (old row : List Term) → IsKept d marks count → i < d.counts.n_con → t.0 < d.counts.n_var
    → term_count d.terms < most_terms → old ≡ get_or d.terms i old → row ≡ old ++ t ∷ [] → IsKept (record d { terms = set d.terms i row }) marks (count + 1)
kept-term d marks count i t old row k con var few e f =
    let inside : i < length d.terms = omega (arith, k.draft.terms.rows) in
    let more = rows_more d.terms i t old row inside e f in
    kept-terms d marks count (count + 1) (set d.terms i row) d.slopes k
    (record {
      rows = length-set d.terms i row ∙ k.draft.terms.rows;
      costs = k.draft.terms.costs;
      terms_below = row_below d.counts.n_var d.terms i t old row k.draft.terms.terms_below inside var e f;
      slopes_below = k.draft.terms.slopes_below;
      few_terms = omega (arith, more, few);
      few_slopes = k.draft.terms.few_slopes;
    })
    (ap (λ n. n + 1) k.counted ∙ sym more)

-- one more term of an objective
pub kept-slope : (d : Draft) (marks : List Bool) (count i : ℕ) (t : Term) (old row : List Term) → IsKept d marks count → i < d.counts.n_obj → t.0 < d.counts.n_var
    → length (get_or d.slopes i []) < most_terms → old ≡ get_or d.slopes i old → row ≡ old ++ t ∷ [] → IsKept (record d { slopes = set d.slopes i row }) marks count
kept-slope d marks count i t old row k con var few e f =
    let inside : i < length d.slopes = omega (arith, k.draft.terms.costs) in
    let more = row_more old row t f in
    let same : length (get_or d.slopes i []) ≡ length old = ap length (get_or_default d.slopes i [] old inside ∙ sym e) in
    kept-terms d marks count count d.terms (set d.slopes i row) k
    (record {
      rows = k.draft.terms.rows;
      costs = length-set d.slopes i row ∙ k.draft.terms.costs;
      terms_below = k.draft.terms.terms_below;
      slopes_below = row_below d.counts.n_var d.slopes i t old row k.draft.terms.slopes_below inside var e f;
      few_terms = k.draft.terms.few_terms;
      few_slopes = All-set (λ ts. length ts ≤ most_terms) d.slopes i row (omega (arith, more, few, same)) k.draft.terms.few_slopes;
    })
    k.counted

-- ---- the whole file
pub given_length : (os : List (Option Objective)) → All IsSome os → length (those_given os) ≡ length os
given_length [] h = refl
given_length (None ∷ os) h = let some = All-head IsSome None os h in cc
given_length (Some o ∷ os) h = let same = given_length os (All-tail IsSome (Some o) os h) in omega arith

pub given_known : (P : Objective → Type 0) (os : List (Option Objective)) → All (λ o. IfSome o P) os → All P (those_given os)
given_known P [] h = All-nil P
given_known P (None ∷ os) h = given_known P os (All-tail (λ o. IfSome o P) None os h)
given_known P (Some o ∷ os) h =
    All-cons P o (those_given os) (All-head (λ o. IfSome o P) (Some o) os h) (given_known P os (All-tail (λ o. IfSome o P) (Some o) os h))

-- what stands at a place
pub given_at : (os : List (Option Objective)) (k : ℕ) (o : Objective) → All IsSome os → slice_get os k ≡ Some (Some o) → slice_get (those_given os) k ≡ Some o
given_at [] k o h e = cc
given_at (None ∷ os) k o h e = let some = All-head IsSome None os h in cc
given_at (Some p ∷ os) zero o h e = cc
given_at (Some p ∷ os) (suc k) o h e = given_at os k o (All-tail IsSome (Some p) os h) e

-- a draft with all its parts is a file
pub file_of_draft : (d : Draft) → IsDraft d → All IsSome d.objectives → length d.sides ≡ d.counts.n_con → length d.bounds ≡ d.counts.n_var
    → term_count d.terms ≡ d.counts.nzc → IsFile (file_of d)
file_of_draft d k all sides bounds terms = record {
  ruled = k.ruled;
  definitions = k.definitions;
  bodies = k.bodies;
  objectives = record {
    count = given_length d.objectives all ∙ k.objectives.count;
    known = given_known (λ o. IsTreeKnown d.counts.n_var d.definitions o.tree) d.objectives k.objectives.known;
  };
  terms = k.terms;
  all_terms = terms;
  side_count = sides;
  sides = k.sides;
  bound_count = bounds;
  bounds = k.bounds;
  dual_guesses = k.dual_guesses;
  primal_guesses = k.primal_guesses;
  suffixes = k.suffixes;
}

-- no place is empty
pub none_empty : (os : List (Option Objective)) (k : ℕ) (o : Option Objective) → All IsSome os → k < length os → o ≡ get_or os k o → o ≡ None → ⊥
none_empty os k o h inside e empty =
    let some : IsSome (get_or os k o) = h k o inside in
    let now : IsSome o = subst IsSome (sym e) some in
    none_some (subst IsSome empty now)
  where
    none_some : is_some {T = Objective} None ≡ true → ⊥
    none_some p = cc

-- one more interval of a constraint
pub kept-side : (d : Draft) (marks : List Bool) (count : ℕ) (side : Interval) → IsKept d marks count → length d.sides < d.counts.n_con → IsOrdered side
    → IsKept (record d { sides = d.sides ++ side ∷ [] }) marks count
kept-side d marks count side k place ordered =
    let more = length_push d.sides side in
    record {
      draft = record {
        ruled = k.draft.ruled;
        definitions = k.draft.definitions;
        bodies = k.draft.bodies;
        objectives = k.draft.objectives;
        terms = k.draft.terms;
        side_count = omega (arith, more, place);
        sides = All-push IsOrdered d.sides side k.draft.sides ordered;
        bound_count = k.draft.bound_count;
        bounds = k.draft.bounds;
        dual_guesses = k.draft.dual_guesses;
        primal_guesses = k.draft.primal_guesses;
        suffixes = k.draft.suffixes;
      };
      mark_count = k.mark_count;
      marked = k.marked;
      counted = k.counted;
    }
