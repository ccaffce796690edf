-- What a draft keeps as guesses and suffixes are given.
use Rattle.std.proofs.Common.{◌≡◌, ◌≢◌, ℕ, ◌<◌, Bool, true, false, List, [], ◌∷◌, ◌++◌, length, get_or, sym, subst, All, inl, inr}
use Rattle.std.proofs.lemmas.Bool.{cases_Bool}
use Rattle.std.proofs.lemmas.List.Elements.{All-push}
use Rattle.std.proofs.lemmas.List.Folds.{list_any_at}
use Rattle.std.proofs.lemmas.List.Quantifiers.{all_pairs_push}
use Rattle.nl_model.specs.declared.header_counts.Counts.{Counts}
use Rattle.nl_model.specs.File.{Term}
use Rattle.nl_model.specs.declared.suffix.Suffix.{Suffix}
use Rattle.nl_model.specs.Rules.{AreGuesses, AreSuffixes, IsSuffix, has_suffix, is_suffix_of}
use Rattle.nl_model.specs.Draft.{Draft}
use Rattle.nl_model.specs.InsideBuilt.{IsKept}

-- one more guess
pub guesses-push : (n : ℕ) (ts : List Term) (t : Term) (more : List Term) → AreGuesses n ts → t.0 < n → All (λ s. s.0 ≢ t.0) ts → more ≡ ts ++ t ∷ [] → AreGuesses n more
guesses-push n ts t more h below fresh e =
    let pushed : AreGuesses n (ts ++ t ∷ []) = record {
      below = All-push (λ s. s.0 < n) ts t h.below below;
      apart = all_pairs_push (λ s u. s.0 ≢ u.0) ts t h.apart fresh;
    } in
    subst (AreGuesses n) (sym e) pushed

-- one more suffix
pub suffixes-push : (c : Counts) (ss : List Suffix) (s : Suffix) (more : List Suffix) → AreSuffixes c ss → IsSuffix c s → has_suffix ss s.kind s.name ≡ false → more ≡ ss ++ s ∷ []
    → AreSuffixes c more
suffixes-push c ss s more h fine fresh e =
    let test = is_suffix_of s.kind s.name in
    let apart : (i : ℕ) (d : Suffix) → i < length ss → test (get_or ss i d) ≡ false =
    λ i d inside. elim (cases_Bool (test (get_or ss i d))) [ inl t ↦ absurd (clash (has_suffix ss s.kind s.name) (list_any_at test ss i d inside t) fresh) | inr f ↦ f ] in
    let pushed : AreSuffixes c (ss ++ s ∷ []) = record {
      each = All-push (IsSuffix c) ss s h.each fine;
      apart = all_pairs_push (λ r u. is_suffix_of u.kind u.name r ≡ false) ss s h.apart apart;
    } in
    subst (AreSuffixes c) (sym e) pushed
  where
    clash : (b : Bool) → b ≡ true → b ≡ false → ⊥
    clash b p q = cc

-- a draft with other guesses and suffixes
kept-lists : (d : Draft) (marks : List Bool) (count : ℕ) (duals primals : List Term) (ss : List Suffix) → IsKept d marks count → AreGuesses d.counts.n_con duals
    → AreGuesses d.counts.n_var primals → AreSuffixes d.counts ss → IsKept (record d { dual_guesses = duals; primal_guesses = primals; suffixes = ss }) marks count
kept-lists d marks count duals primals ss k dual primal suffix =
    record {
      draft = record {
        ruled = k.draft.ruled;
        definitions = k.draft.definitions;
        bodies = k.draft.bodies;
        objectives = k.draft.objectives;
        terms = k.draft.terms;
        side_count = k.draft.side_count;
        sides = k.draft.sides;
        bound_count = k.draft.bound_count;
        bounds = k.draft.bounds;
        dual_guesses = dual;
        primal_guesses = primal;
        suffixes = suffix;
      };
      mark_count = k.mark_count;
      marked = k.marked;
      counted = k.counted;
    }

pub kept-dual : (d : Draft) (marks : List Bool) (count : ℕ) (ts : List Term) → IsKept d marks count → AreGuesses d.counts.n_con ts → IsKept (record d { dual_guesses = ts }) marks count
kept-dual d marks count ts k h = kept-lists d marks count ts d.primal_guesses d.suffixes k h k.draft.primal_guesses k.draft.suffixes

pub kept-primal : (d : Draft) (marks : List Bool) (count : ℕ) (ts : List Term) → IsKept d marks count → AreGuesses d.counts.n_var ts → IsKept (record d { primal_guesses = ts }) marks count
kept-primal d marks count ts k h = kept-lists d marks count d.dual_guesses ts d.suffixes k k.draft.dual_guesses h k.draft.suffixes

pub kept-suffix : (d : Draft) (marks : List Bool) (count : ℕ) (ts : List Suffix) → IsKept d marks count → AreSuffixes d.counts ts → IsKept (record d { suffixes = ts }) marks count
kept-suffix d marks count ts k h = kept-lists d marks count d.dual_guesses d.primal_guesses ts k k.draft.dual_guesses k.draft.primal_guesses h
