-- Rows of an instance, added one after the other.
use Rattle.std.proofs.Common.{◌≡◌, ◌∙◌, ℕ, zero, suc, ◌+◌, ◌-◌, ◌%◌, ◌<◌, ◌≤◌, ◌==◌, Bool, true, false, pos, List, []}
use Rattle.std.proofs.Common.{◌∷◌, ◌++◌, length, get_or, replicate, Some, None, refl, sym, ap, ap₂, subst, arith}
use Rattle.std.proofs.Common.{append_assoc, append-nil}
use Rattle.std.proofs.Common.{ℤ, ◌*◌, All, IsSome}
use Rattle.std.proofs.lemmas.List.Elements.{All-nil, All-cons}
use Rattle.nl_model.specs.declared.header_counts.Counts.{Counts}
use Rattle.std.specs.Prelude.{slice_set, is_some, option_and_then, slice_get, if◌then◌else◌}
use Rattle.std.proofs.lemmas.List.{get_or_at, length-append, length-replicate, set_at}
use Rattle.std.proofs.lemmas.List.FromFn.{length-map-range_with_len, map-range_with_len_more}
use Rattle.std.proofs.lemmas.Option.{slice_get-get_or}
use Rattle.std.proofs.lemmas.Bool.{eqb-false}
use Rattle.nl_model.specs.Trees.{Tree, number, defined}
use Rattle.nl_model.specs.File.{Term}
use Rattle.nl_model.specs.Draft.{Draft, is_given, empty_draft, file_of}
use Rattle.nl_model.specs.Rules.{IsTreeWithin, is_defined, term_count}
use Rattle.bridge_tool.specs.Draws.{drawn_row, state_after}
use Rattle.bridge_tool.specs.Instance.{each, whole_dec, counts_of, definition_of, body_of, terms_of, side_of, bound_of, slope_of, goal_of, instance}
use Rattle.bridge_tool.specs.InsideMaking.{drafted, with_row, CanAddRow}
use Rattle.bridge_tool.proofs.RowLemmas.{not_defined, is_one, terms_so_far}

-- n - k places, of which the first is next
place_more : {A : Type 0} (n k : ℕ) (e : A) → k < n → replicate (n - k) e ≡ e ∷ replicate (n - (k + 1)) e
place_more n k e lt = ap (λ i. replicate i e) (let more : n - k ≡ suc (n - (k + 1)) = omega (arith, lt) in more)

each_more : {A : Type 0} (f : ℕ → A) (k : ℕ) → each (k + 1) f ≡ each k f ++ f k ∷ []
each_more f k = map-range_with_len_more f 0 k k (omega arith)

-- a place is filled
placed : {A : Type 0} (f : ℕ → A) (n k : ℕ) (e : A) → k < n → slice_set (each k f ++ replicate (n - k) e) k (f k) ≡ each (k + 1) f ++ replicate (n - (k + 1)) e
placed f n k e lt =
    ap (λ ys. slice_set (each k f ++ ys) k (f k)) (place_more n k e lt)
    ∙ set_at (each k f) e (replicate (n - (k + 1)) e) (f k) k (length-map-range_with_len f 0 k)
    ∙ sym (append_assoc (each k f) (f k ∷ []) (replicate (n - (k + 1)) e))
    ∙ ap (λ xs. xs ++ replicate (n - (k + 1)) e) (sym (each_more f k))

empty_place : {A : Type 0} (f : ℕ → A) (n k : ℕ) (e d : A) → k < n → get_or (each k f ++ replicate (n - k) e) k d ≡ e
empty_place f n k e d lt =
    ap (λ ys. get_or (each k f ++ ys) k d) (place_more n k e lt)
    ∙ get_or_at (each k f) e (replicate (n - (k + 1)) e) d k (length-map-range_with_len f 0 k)

pub added : (seed n k : ℕ) → k < n → with_row (drafted seed n k) n k (drawn_row seed k) ≡ drafted seed n (k + 1)
unfolding drafted
added seed n k lt =
    let term : Term = (k, whole_dec (drawn_row seed k).linear) in
    let empty : slice_set (each k (terms_of seed) ++ replicate (n - k) []) k
    (get_or (each k (terms_of seed) ++ replicate (n - k) []) k [] ++ term ∷ [])
    ≡ slice_set (each k (terms_of seed) ++ replicate (n - k) []) k (terms_of seed k)
    = ap (λ ts. slice_set (each k (terms_of seed) ++ replicate (n - k) []) k (ts ++ term ∷ [])) (empty_place (terms_of seed) n k [] [] lt) in
    let terms = empty ∙ placed (terms_of seed) n k [] lt in
    let bodies = placed (body_of n) n k None lt in
    let slopes = sym (each_more (slope_of seed) k) in
    let definitions = sym (each_more (definition_of seed n) k) in
    let sides = sym (each_more (side_of seed) k) in
    let bounds = sym (each_more (bound_of seed) k) in
    λ i. record {
      options = pos 1 ∷ pos 1 ∷ pos 0 ∷ [];
      counts = counts_of n;
      bodies = bodies i;
      objectives = Some goal_of ∷ [];
      definitions = definitions i;
      terms = terms i;
      slopes = slopes i ∷ [];
      sides = sides i;
      bounds = bounds i;
      dual_guesses = [];
      primal_guesses = [];
      suffixes = [];
    }

chain_within : (seed n k : ℕ) (t : Bool) → (k % 8 == 0) ≡ t → IsTreeWithin n (each k (definition_of seed n)) (if t then number (pos 0) (pos 0) else defined (n + k - 1))
chain_within seed n k true e = tt
chain_within seed n k false e =
    let some : 0 < k = above k (eqb-false (k % 8) 0 e) in
    let same : n + (k - 1) ≡ n + k - 1 = omega (arith, some) in
    subst (λ i. is_defined (each k (definition_of seed n)) i ≡ true) same (is_one seed n 0 k (k - 1) (omega arith) (omega (arith, some)))
  where
    above : (j : ℕ) → (j % 8 ≡ 0 → ⊥) → 0 < j
    above zero no_rest = absurd (no_rest refl)
    above (suc j) no_rest = omega arith

no_body : (n k : ℕ) → k < n → is_given (each k (body_of n) ++ replicate (n - k) None) k ≡ false
no_body n k lt =
    let long : length (each k (body_of n) ++ replicate (n - k) None) ≡ k + (n - k) =
    length-append (each k (body_of n)) (replicate (n - k) None)
    ∙ ap₂ (λ a b. a + b) (length-map-range_with_len (body_of n) 0 k) (length-replicate (n - k) None) in
    let there : slice_get (each k (body_of n) ++ replicate (n - k) None) k ≡ Some None = slice_get-get_or _ k None (omega (arith, long, lt)) ∙ ap Some (empty_place (body_of n) n k None None lt) in
    ap (λ o. is_some (option_and_then (λ x. x) o)) there

pub can_add : (seed n k : ℕ) → k < n → n ≤ 20000 → CanAddRow (drafted seed n k) n k
unfolding drafted
can_add seed n k lt le = record {
  counts = refl;
  within = lt;
  small = le;
  fresh = not_defined seed n 0 k (n + k) (omega arith);
  chain = chain_within seed n k (k % 8 == 0) refl;
  body = no_body n k lt;
  few_terms = omega (arith, terms_so_far seed k (n - k), lt, le);
  few_slopes = omega (arith, length-map-range_with_len (slope_of seed) 0 k, lt, le);
  sides = length-map-range_with_len (side_of seed) 0 k;
  bounds = length-map-range_with_len (bound_of seed) 0 k;
}

pub started : (seed n : ℕ) → record (empty_draft (pos 1 ∷ pos 1 ∷ pos 0 ∷ []) (counts_of n)) { objectives = slice_set (replicate 1 None) 0 (Some goal_of) } ≡ drafted seed n 0
unfolding drafted
started seed n =
    let all : n ≡ n - 0 = omega arith in
    λ i. record {
      options = pos 1 ∷ pos 1 ∷ pos 0 ∷ [];
      counts = counts_of n;
      bodies = replicate (all i) None;
      objectives = Some goal_of ∷ [];
      definitions = [];
      terms = replicate (all i) [];
      slopes = [] ∷ [];
      sides = [];
      bounds = [];
      dual_guesses = [];
      primal_guesses = [];
      suffixes = [];
    }

nothing_more : {A : Type 0} (n : ℕ) (f : ℕ → A) (e : A) → each n f ++ replicate (n - n) e ≡ each n f
nothing_more n f e = ap (λ m. each n f ++ replicate m e) (let none : n - n ≡ 0 = omega arith in none) ∙ append-nil (each n f)

pub finished : (seed n : ℕ) → file_of (drafted seed n n) ≡ instance seed n
unfolding drafted instance
finished seed n =
    let bodies = nothing_more n (body_of n) None in
    let terms = nothing_more n (terms_of seed) [] in
    λ i. record {
      options = pos 1 ∷ pos 1 ∷ pos 0 ∷ [];
      counts = counts_of n;
      bodies = bodies i;
      objectives = goal_of ∷ [];
      definitions = each n (definition_of seed n);
      terms = terms i;
      slopes = each n (slope_of seed) ∷ [];
      sides = each n (side_of seed);
      bounds = each n (bound_of seed);
      dual_guesses = [];
      primal_guesses = [];
      suffixes = [];
    }

first_state : (seed : ℕ) → seed ≡ state_after seed 0
unfolding state_after
first_state seed = refl

-- no rows yet
pub record HasBegun (seed n : ℕ) (d : Draft) : Type 0 where
  pub draft : d ≡ drafted seed n 0
  pub state : seed ≡ state_after seed (5 * 0)

pub begun : (seed n : ℕ) (options : List ℤ) (counts : Counts) (b d : Draft) (t : Tree) → options ≡ pos 1 ∷ pos 1 ∷ pos 0 ∷ [] → counts ≡ counts_of n
    → b ≡ empty_draft options counts → t ≡ number (pos 0) (pos 0) → d ≡ record b { objectives = slice_set b.objectives 0 (Some (record { maximise = true; tree = t })) } → HasBegun seed n d
begun seed n options counts b d t eo ec eb et ed =
    record {
      draft = ed ∙ ap₂ (λ (x : Draft) (y : Tree). record x { objectives = slice_set x.objectives 0 (Some (record { maximise = true; tree = y })) }) (eb ∙ ap₂ empty_draft eo ec) et ∙ started seed n;
      state = first_state seed;
    }

-- all rows
pub record IsFull (seed n : ℕ) (d : Draft) : Type 0 where
  pub objectives : All IsSome d.objectives
  pub sides : length d.sides ≡ d.counts.n_con
  pub bounds : length d.bounds ≡ d.counts.n_var
  pub terms : term_count d.terms ≡ d.counts.nzc
  pub file : file_of d ≡ instance seed n

full_draft : (seed n : ℕ) → IsFull seed n (drafted seed n n)
unfolding drafted
full_draft seed n = record {
  objectives = All-cons IsSome (Some goal_of) [] refl (All-nil IsSome);
  sides = length-map-range_with_len (side_of seed) 0 n;
  bounds = length-map-range_with_len (bound_of seed) 0 n;
  terms = terms_so_far seed n (n - n);
  file = finished seed n;
}

pub full : (seed n k : ℕ) (d : Draft) → d ≡ drafted seed n k → n ≤ k → k ≤ n → IsFull seed n d
full seed n k d e from to =
    let same : k ≡ n = omega (arith, from, to) in
    subst (IsFull seed n) (sym (e ∙ ap (drafted seed n) same)) (full_draft seed n)
