-- What is missing at the end, by what the reader of the body holds.
use Rattle.std.proofs.Common.{◌≡◌, ◌∙◌, ℕ, zero, suc, ◌+◌, ◌<◌, ◌≤◌, Bool, true, false, not, ◌&&◌, ◌==◌, List, [], ◌∷◌}
use Rattle.std.proofs.Common.{length, get_or, All, nat_lt, refl, sym, ap, ap₂, subst, arith, add-one, Option, Some}
use Rattle.std.proofs.Common.{None}
use Rattle.std.proofs.lemmas.Bool.{ltb-true, ltb-false, eqb-true, not-false, true_from_ne_false, both_ways, or_parts}
use Rattle.std.proofs.lemmas.Bool.Decides.{nat_tests}
use Rattle.std.proofs.lemmas.List.{get_or_past}
use Rattle.std.proofs.lemmas.List.Sums.{sum_by-cons}
use Rattle.std.specs.Prelude.{IsSome, is_some, drop, ◌||◌}
use Rattle.std.specs.List.{list_all}
use Rattle.text_base.specs.Judged.{first_reason}
use Rattle.nl_model.specs.declared.header_counts.Counts.{Counts}
use Rattle.nl_model.specs.Draft.{Draft, IsDraft, is_given, file_of}
use Rattle.nl_model.specs.File.{Term, File}
use Rattle.nl_model.specs.declared.objective.Objective.{Objective}
use Rattle.nl_model.specs.Rules.{AreTermsBelow, term_count}
use Rattle.nl_model.specs.UseCounts.{terms_up_to, use_count, uses_in}
use Rattle.nl_model.proofs.UseLemmas.{below, split_rows, next_rows, nothing_below}
use Rattle.nl_lines.specs.declared.fault.NlReason.{NlReason}
use Rattle.nl_lines.specs.Saying.{place_lines}
use Rattle.std.proofs.lemmas.List.Folds.{list_all_at}
use Rattle.nl_lines.specs.Pieces.{Piece, last_piece, is_nothing, awaited_of}
use Rattle.nl_segments.specs.Current.{Current}
use Rattle.nl_lines.specs.Tests.{are_column_counts, lacks_part, end_tests}
use Rattle.nl_segments.specs.Grammar.{Standing, counts_of, said}
use Rattle.nl_segments.specs.Held.{Body, IsHeld, IsLast, end_refusal_of}
use Rattle.nl_segments.specs.InsideTaking.{body_awaits}
use Rattle.nl_segments.specs.InsideEnding.{are_sums, body_end_tests, IsReady}
use Rattle.nl_segments.proofs.CurrentLemmas.{awaits}
use Rattle.text_base.proofs.FirstReasons.{none_each}

-- ---- the numbers of columns

are_sums_counts : (uses : List ℕ) (rows : List (List Term)) → ((j : ℕ) → get_or uses j 0 ≡ use_count rows j) → (ns : List ℕ) (j before : ℕ) → before ≡ below rows j
    → are_sums uses j before ns ≡ are_column_counts rows j ns
are_sums_counts uses rows h [] j before e = refl
are_sums_counts uses rows h (n ∷ ns) j before e =
    let sum : before + get_or uses j 0 ≡ terms_up_to rows j = ap₂ (λ a b. a + b) e (h j) ∙ sym (split_rows rows j) in
    rw sum (by (n == terms_up_to rows j) refl (λ q. are_sums_counts uses rows h ns (j + 1) n (q ∙ sym (next_rows rows j))))
  where
    by : (t : Bool) → (n == terms_up_to rows j) ≡ t → (n ≡ terms_up_to rows j → are_sums uses (j + 1) n ns ≡ are_column_counts rows (j + 1) ns)
        → ((n == terms_up_to rows j) && are_sums uses (j + 1) n ns) ≡ ((n == terms_up_to rows j) && are_column_counts rows (j + 1) ns)
    by true p more = rw p (more (grind (arith, nat_tests)))
    by false p more = rw p refl

-- ---- uses of variables that there are not

unused : (n j : ℕ) (ts : List Term) → AreTermsBelow n ts → n ≤ j → uses_in ts j ≡ 0
unused n j [] h le = refl
unused n j (t ∷ ts) h le =
    let here : t.0 < n = h 0 t (omega arith) in
    let q : (t.0 == j) ≡ false = grind (arith, nat_tests) in
    rw q (unused n j ts (λ k d lt. h (suc k) d (omega (arith, lt))) le)

none_used : (n j : ℕ) (rows : List (List Term)) → All (AreTermsBelow n) rows → n ≤ j → use_count rows j ≡ 0
none_used n j [] h le = refl
none_used n j (ts ∷ rows) h le =
    let a = unused n j ts (h 0 ts (omega arith)) le in
    let b = none_used n j rows (λ k d lt. h (suc k) d (omega (arith, lt))) le in
    rw (sum_by-cons (λ terms. uses_in terms j) ts rows) (omega arith)

all_uses : (n : ℕ) (uses : List ℕ) (rows : List (List Term)) → length uses ≡ n → All (AreTermsBelow n) rows
    → ((j : ℕ) → j < n → get_or uses j 0 ≡ use_count rows j) → (j : ℕ) → get_or uses j 0 ≡ use_count rows j
all_uses n uses rows e low h j = by (nat_lt j n) refl
  where
    by : (t : Bool) → nat_lt j n ≡ t → get_or uses j 0 ≡ use_count rows j
    by true p = h j (ltb-true j n p)
    by false p = let le : n ≤ j = ltb-false j n p in get_or_past uses j 0 (omega arith) ∙ sym (none_used n j rows low le)

-- ---- the tests of the end

pub last_awaits : (c : Counts) (d : Draft) (name : Option (List ℕ)) (pieces : List Piece) (o : Option Piece) (k : Option Current) → last_piece pieces ≡ o → IsLast c d name o k
    → is_nothing (awaited_of c pieces) ≡ is_nothing (body_awaits k)
last_awaits c d name pieces None None q l = rw q refl
last_awaits c d name pieces None (Some cur) q l = absurd l
last_awaits c d name pieces (Some p) None q l = rw q l
last_awaits c d name pieces (Some p) (Some cur) q l = rw q (ap is_nothing (sym (awaits c p cur l.current)))

same_first : (A B C D : NlReason) (p q r t u v w x : Bool) → p ≡ u → q ≡ v → r ≡ w → t ≡ x
    → first_reason ((not p, A) ∷ (q, B) ∷ (not r, C) ∷ (not t, D) ∷ []) ≡ first_reason ((not u, A) ∷ (v, B) ∷ (not w, C) ∷ (not x, D) ∷ [])
same_first A B C D p q r t u v w x e f g h = rw (e, f, g, h) refl

pub end_by : (s : Standing) (b : Body) → IsDraft b.draft → IsHeld s b → end_refusal_of s ≡ first_reason (body_end_tests b)
unfolding end_tests
end_by s b d h =
    let below_n : All (AreTermsBelow (counts_of s).n_var) b.draft.terms = subst (λ (c : Counts). All (AreTermsBelow c.n_var) b.draft.terms) h.counts d.terms.terms_below in
    let uses = all_uses (counts_of s).n_var b.uses b.draft.terms h.users below_n h.uses in
    let columns : are_sums b.uses 0 0 b.columns ≡ are_column_counts b.draft.terms 0 b.columns = are_sums_counts b.uses b.draft.terms uses b.columns 0 0 (sym (nothing_below b.draft.terms)) in
    same_first _ _ _ _ _ _ _ _ _ _ _ _
    (last_awaits (counts_of s) b.draft b.name s.pieces (last_piece s.pieces) b.current refl h.last)
    (ap lacks_part (sym h.draft))
    (ap₂ (λ (e : Draft) (c : Counts). term_count e.terms == c.nzc) (sym h.draft) (sym h.counts))
    (ap₂ (λ (e : Draft) ns. are_column_counts e.terms 0 ns) (sym h.draft) (sym h.columns) ∙ sym columns)

-- ---- objectives

pub given_at : (os : List (Option Objective)) (k : ℕ) → k < length os → list_all is_some (drop k os) ≡ (is_given os k && list_all is_some (drop (suc k) os))
given_at [] k lt = absurd (omega (arith, lt))
given_at (o ∷ os) zero lt = refl
given_at (o ∷ os) (suc k) lt = given_at os k (omega (arith, lt))

-- ---- what holds where nothing is missing

pub all_given : (os : List (Option Objective)) → list_all is_some os ≡ true → All IsSome os
all_given os e k d lt = true_from_ne_false (is_some (get_or os k d)) (λ q. both_ways (list_all is_some os) (list_all_at is_some os k d lt q) e)

pub short_parts : (d : Draft) → lacks_part d ≡ false → (list_all is_some d.objectives ≡ true) × (nat_lt (length d.sides) d.counts.n_con ≡ false) × (nat_lt (length d.bounds) d.counts.n_var ≡ false)
short_parts d e =
    let first = or_parts (not (list_all is_some d.objectives) || nat_lt (length d.sides) d.counts.n_con) (nat_lt (length d.bounds) d.counts.n_var) e in
    let rest = or_parts (not (list_all is_some d.objectives)) (nat_lt (length d.sides) d.counts.n_con) first.0 in
    (not-false (list_all is_some d.objectives) rest.0, rest.1, first.1)

pub is_ready : (b : Body) → IsDraft b.draft → first_reason (body_end_tests b) ≡ None → IsReady b.draft
is_ready b d e =
    let none = none_each (body_end_tests b) e in
    let short = short_parts b.draft none.1.0 in
    record {
      objectives = all_given b.draft.objectives short.0;
      sides = (let a = ltb-false (length b.draft.sides) b.draft.counts.n_con short.1 in omega (arith, d.side_count));
      bounds = (let a = ltb-false (length b.draft.bounds) b.draft.counts.n_var short.2 in omega (arith, d.bound_count));
      terms = eqb-true (term_count b.draft.terms) b.draft.counts.nzc (not-false _ none.1.1.0);
    }

pub given_next : (os : List (Option Objective)) (k : ℕ) → k < length os → is_given os k ≡ true → list_all is_some (drop (k + 1) os) ≡ list_all is_some (drop k os)
given_next os k lt g = rw add-one (sym (given_at os k lt ∙ rw g refl))

pub not_given : (os : List (Option Objective)) (k : ℕ) → k < length os → is_given os k ≡ false → list_all is_some (drop k os) ≡ false
not_given os k lt g = given_at os k lt ∙ rw g refl

-- ---- what the end answers

pub missing : (b : Body) → IsDraft b.draft → (r : NlReason) → first_reason (body_end_tests b) ≡ Some r → (s : Standing) → IsHeld s b → end_refusal_of s ≡ Some r
missing b d r f s h = end_by s b d h ∙ f

pub finished : (b : Body) → IsDraft b.draft → first_reason (body_end_tests b) ≡ None → (f : File) → f ≡ file_of b.draft
    → (s : Standing) → IsHeld s b → (end_refusal_of s ≡ None) × (f ≡ file_of (said s)) × (b.places ≡ place_lines (counts_of s) s.pieces)
finished b d fine f is s held = (end_by s b d held ∙ fine, is ∙ ap file_of held.draft, held.places)
