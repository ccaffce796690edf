-- A line more of suffixes.
use Rattle.std.proofs.Common.{arith, ◌≡◌, ◌∙◌, Bool, true, false, ◌&&◌, not, cond, List, [], ◌∷◌, ◌++◌, map, refl, sym, ap}
use Rattle.std.specs.Prelude.{filter}
use Rattle.std.specs.List.{list_any}
use Rattle.std.specs.Str.{bytes_eq}
use Rattle.std.proofs.lemmas.Bool.{cond_both, not-true, or_parts}
use Rattle.std.proofs.lemmas.List.{append-nil, map-append}
use Rattle.std.proofs.lemmas.List.Elements.{filter-append}
use Rattle.std.proofs.lemmas.Slice.Eq.{bytes_eq-Decides}
use Rattle.exact_numbers.proofs.NumberLemmas.{first_of_both, second_of_both}
use Rattle.nl_model.specs.File.{Term}
use Rattle.nl_model.specs.declared.suffix.Suffix.{Suffix}
use Rattle.nl_model.specs.SuffixKinds.{has_same_objects}
use Rattle.answer_file.specs.Entries.{SuffixLine}
use Rattle.answer_file.specs.Suffixes.{is_same_suffix, first_lines, values_like, suffix_like, suffixes_of}
use Rattle.answer_file.specs.Steps.{new_suffix, with_line, with_suffix_line}
use Rattle.nl_model.proofs.ObjectLemmas.{same_objects-class, same_objects-comm, same_objects-self}
use Rattle.answer_file.proofs.PlaceLemmas.{bytes_eq-comm}

-- ---- lines of one suffix

same-comm : (a b : SuffixLine) → is_same_suffix a b ≡ is_same_suffix b a
same-comm a b = ap (λ t. t && bytes_eq a.name b.name) (same_objects-comm a.kind b.kind) ∙ ap (λ t. has_same_objects b.kind a.kind && t) (bytes_eq-comm a.name b.name)

same-self : (a : SuffixLine) → is_same_suffix a a ≡ true
same-self a = rw (same_objects-self a.kind) ((bytes_eq-Decides a.name a.name).1 refl)

-- lines of one suffix are alike to every other
same-class : (a b c : SuffixLine) → is_same_suffix a b ≡ true → is_same_suffix a c ≡ is_same_suffix b c
same-class a b c e =
    ap (λ t. t && bytes_eq a.name c.name) (same_objects-class a.kind b.kind c.kind (first_of_both _ _ e))
    ∙ ap (λ n. has_same_objects b.kind c.kind && bytes_eq n c.name) ((bytes_eq-Decides a.name b.name).0 (second_of_both (has_same_objects a.kind b.kind) _ e))

-- no line of these is of the suffix of x
AreOthers : SuffixLine → List SuffixLine → Type 0
AreOthers x [] = Unit {0}
AreOthers x (h ∷ hs) = (is_same_suffix h x ≡ false) × AreOthers x hs

-- no two of these are of one suffix
AreApart : List SuffixLine → Type 0
AreApart [] = Unit {0}
AreApart (h ∷ hs) = AreOthers h hs × AreApart hs

like : SuffixLine → SuffixLine → Bool
like x h = is_same_suffix h x

-- ---- the first lines

filtered-others : (x l : SuffixLine) (hs : List SuffixLine) → AreOthers x hs → AreOthers x (filter (λ o. not (is_same_suffix l o)) hs)
unfolding AreOthers
filtered-others x l [] h = tt
filtered-others x l (k ∷ hs) h = cond_both (not (is_same_suffix l k)) _ _ (AreOthers x) (λ e. (h.0, filtered-others x l hs h.1)) (λ e. filtered-others x l hs h.1)

filtered-apart : (l : SuffixLine) (hs : List SuffixLine) → AreApart hs → AreApart (filter (λ o. not (is_same_suffix l o)) hs)
unfolding AreApart
filtered-apart l [] h = tt
filtered-apart l (k ∷ hs) h = cond_both (not (is_same_suffix l k)) _ _ AreApart (λ e. (filtered-others k l hs h.0, filtered-apart l hs h.1)) (λ e. filtered-apart l hs h.1)

left-others : (l : SuffixLine) (hs : List SuffixLine) → AreOthers l (filter (λ o. not (is_same_suffix l o)) hs)
unfolding AreOthers
left-others l [] = tt
left-others l (k ∷ hs) = cond_both (not (is_same_suffix l k)) _ _ (AreOthers l) (λ e. (same-comm k l ∙ not-true _ e, left-others l hs)) (λ e. left-others l hs)

firsts-apart : (lines : List SuffixLine) → AreApart (first_lines lines)
unfolding AreApart first_lines
firsts-apart [] = tt
firsts-apart (l ∷ lines) = (left-others l (first_lines lines), filtered-apart l (first_lines lines) (firsts-apart lines))

-- some first line is of a suffix where some line is
some-filtered : (x l : SuffixLine) (hs : List SuffixLine) → is_same_suffix l x ≡ false → list_any (like x) (filter (λ o. not (is_same_suffix l o)) hs) ≡ list_any (like x) hs
unfolding like
some-filtered x l [] e = refl
some-filtered x l (k ∷ hs) e = grind (arith, some-filtered x l hs e, same-class l k x)

some-first : (x : SuffixLine) (lines : List SuffixLine) → list_any (like x) (first_lines lines) ≡ list_any (like x) lines
unfolding like first_lines
some-first x [] = refl
some-first x (l ∷ lines) = grind (arith, some-first x lines, some-filtered x l (first_lines lines))

-- the first lines with a line more
firsts-more : (lines : List SuffixLine) (x : SuffixLine) → first_lines (lines ++ x ∷ []) ≡ first_lines lines ++ cond (list_any (like x) lines) [] (x ∷ [])
unfolding like first_lines
firsts-more [] x = refl
firsts-more (l ∷ lines) x = rw (firsts-more lines x, filter-append (λ o. not (is_same_suffix l o)) (first_lines lines) (cond (list_any (like x) lines) [] (x ∷ []))) (grind arith)

-- ---- the suffixes

pair : SuffixLine → Term
pair line = (line.place, line.value)

values-like-more : (lines : List SuffixLine) (x h : SuffixLine) → values_like (lines ++ x ∷ []) h ≡ values_like lines h ++ cond (is_same_suffix h x) ((x.place, x.value) ∷ []) []
unfolding pair
values-like-more lines x h =
    ap (map pair) (filter-append (is_same_suffix h) lines (x ∷ []))
    ∙ map-append pair (filter (is_same_suffix h) lines) (cond (is_same_suffix h x) (x ∷ []) [])
    ∙ ap (λ ts. values_like lines h ++ ts) (by (is_same_suffix h x))
  where
    by : (b : Bool) → map pair (cond b (x ∷ []) []) ≡ cond b ((x.place, x.value) ∷ []) []
    by true = refl
    by false = refl

with_values : SuffixLine → List Term → Suffix
with_values h ts = record { kind = h.kind; name = h.name; values = ts }

like-same : (lines : List SuffixLine) (x h : SuffixLine) → is_same_suffix h x ≡ true → suffix_like (lines ++ x ∷ []) h ≡ with_line (suffix_like lines h) x
unfolding with_values
like-same lines x h e = ap (with_values h) (values-like-more lines x h ∙ ap (λ b. values_like lines h ++ cond b ((x.place, x.value) ∷ []) []) e)

like-other : (lines : List SuffixLine) (x h : SuffixLine) → is_same_suffix h x ≡ false → suffix_like (lines ++ x ∷ []) h ≡ suffix_like lines h
unfolding with_values
like-other lines x h e = ap (with_values h) (values-like-more lines x h ∙ ap (λ b. values_like lines h ++ cond b ((x.place, x.value) ∷ []) []) e ∙ append-nil (values_like lines h))

others-kept : (lines : List SuffixLine) (x : SuffixLine) (hs : List SuffixLine) → AreOthers x hs → map (suffix_like (lines ++ x ∷ [])) hs ≡ map (suffix_like lines) hs
unfolding AreOthers
others-kept lines x [] h = refl
others-kept lines x (k ∷ hs) h = rw (like-other lines x k h.0, others-kept lines x hs h.1) refl

-- lines apart from one of a suffix are apart from all of it
others-of : (h x : SuffixLine) (hs : List SuffixLine) → is_same_suffix h x ≡ true → AreOthers h hs → AreOthers x hs
unfolding AreOthers
others-of h x [] e r = tt
others-of h x (k ∷ hs) e r = (same-comm k x ∙ sym (same-class h x k e) ∙ same-comm h k ∙ r.0, others-of h x hs e r.1)

stepped : (lines : List SuffixLine) (x : SuffixLine) (hs : List SuffixLine) → AreApart hs
    → with_suffix_line (map (suffix_like lines) hs) x ≡ map (suffix_like (lines ++ x ∷ [])) hs ++ cond (list_any (like x) hs) [] (new_suffix x ∷ [])
unfolding AreApart like
stepped lines x [] apart = refl
stepped lines x (h ∷ hs) apart =
    grind (arith, like-same lines x h, like-other lines x h, stepped lines x hs apart.1, others-kept lines x hs, others-of h x hs, apart.0, append-nil (map (suffix_like (lines ++ x ∷ [])) hs))

-- a suffix of one line
nothing-like : (lines : List SuffixLine) (x : SuffixLine) → list_any (like x) lines ≡ false → filter (is_same_suffix x) lines ≡ []
unfolding like
nothing-like [] x e = refl
nothing-like (l ∷ lines) x e = let f = or_parts (is_same_suffix l x) (list_any (like x) lines) e in rw (same-comm x l, f.0) (nothing-like lines x f.1)

like-new : (lines : List SuffixLine) (x : SuffixLine) → list_any (like x) lines ≡ false → suffix_like (lines ++ x ∷ []) x ≡ new_suffix x
unfolding with_values pair
like-new lines x e =
    ap (with_values x)
    (values-like-more lines x x
    ∙ ap (λ b. values_like lines x ++ cond b ((x.place, x.value) ∷ []) []) (same-self x)
    ∙ ap (λ hs. map pair hs ++ (x.place, x.value) ∷ []) (nothing-like lines x e))

last-one : (lines : List SuffixLine) (x : SuffixLine) (b : Bool) → list_any (like x) lines ≡ b → map (suffix_like (lines ++ x ∷ [])) (cond b [] (x ∷ [])) ≡ cond b [] (new_suffix x ∷ [])
last-one lines x true e = refl
last-one lines x false e = ap (λ s. s ∷ []) (like-new lines x e)

pub suffixes-more : (lines : List SuffixLine) (x : SuffixLine) → suffixes_of (lines ++ x ∷ []) ≡ with_suffix_line (suffixes_of lines) x
unfolding suffixes_of
suffixes-more lines x =
    rw (
      firsts-more lines x,
      map-append (suffix_like (lines ++ x ∷ [])) (first_lines lines)
          (cond (list_any (like x) lines) [] (x ∷ [])),
      last-one lines x (list_any (like x) lines) refl,
      ← some-first x lines,
    )
    (sym (stepped lines x (first_lines lines) (firsts-apart lines)))
