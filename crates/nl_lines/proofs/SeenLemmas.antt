-- The marks of segments, with a head more.
use Rattle.std.proofs.Common.{◌≡◌, ◌∙◌, ℕ, ◌+◌, ◌*◌, ◌<◌, ◌==◌, Bool, true, false, ◌&&◌, ◌||◌, List, length, refl, sym, ap, arith, get_or, slice_set}
use Rattle.std.proofs.lemmas.Bool.{eqb-true, eqb-false, eq-eqb}
use Rattle.std.proofs.lemmas.Bool.Decides.{nat_tests}
use Rattle.std.proofs.lemmas.List.{get_or-set_other}
use Rattle.std.proofs.lemmas.Grind.{get_or-set_at}
use Rattle.nl_model.specs.declared.header_counts.Counts.{Counts}
use Rattle.nl_lines.specs.declared.head.Head.{Head}
use Rattle.nl_lines.specs.declared.head.Head.TheVariants.{Body}
use Rattle.nl_lines.specs.Heads.{is_in_range}
use Rattle.nl_lines.specs.declared.segment.Subject.{Subject}
use Rattle.nl_lines.specs.declared.segment.Subject.TheVariants.{File, Constraint, Objective as OfObjective, Defined, Suffixes}
use Rattle.nl_lines.specs.Segment.{index_of, is_subject_of, segment_of}
use Rattle.nl_lines.specs.SeenSegments.{Segments, has_segment, letters, mark_of, most_indices, with_segment, IsSeenIn}
use Rattle.nl_lines.specs.Tests.{is_same_head}

-- ---- a mark for each segment

letter_few : (h : Head) → (segment_of h).letter < letters
letter_few (Body i) = omega arith
letter_few h = omega arith

pairs_apart : (i j k l : ℕ) → i < 11 → k < 11 → (11 * j + i == 11 * l + k) ≡ ((i == k) && (j == l))
pairs_apart i j k l a b = by (i == k) (j == l) refl refl
  where
    other : (t : Bool) → (11 * j + i == 11 * l + k) ≡ t → (t ≡ true → ⊥) → (11 * j + i == 11 * l + k) ≡ false
    other false e f = e
    other true e f = absurd (f refl)

    by : (s t : Bool) → (i == k) ≡ s → (j == l) ≡ t → (11 * j + i == 11 * l + k) ≡ (s && t)
    by true true p q = let x = eqb-true i k p in let y = eqb-true j l q in eq-eqb (11 * j + i) (11 * l + k) (omega arith)
    by true false p q = other (11 * j + i == 11 * l + k) refl (λ e. eqb-false j l q (let z = eqb-true (11 * j + i) (11 * l + k) e in omega arith))
    by false t p q = other (11 * j + i == 11 * l + k) refl (λ e. eqb-false i k p (let z = eqb-true (11 * j + i) (11 * l + k) e in omega arith))

same_mark : (g h : Head) → (mark_of h == mark_of g) ≡ is_same_head h g
same_mark g h = pairs_apart (segment_of h).letter (index_of (segment_of h).subject) (segment_of g).letter (index_of (segment_of g).subject) (letter_few h) (letter_few g)

index_few : (c : Counts) (s : Subject) → is_subject_of c s ≡ true → index_of s < most_indices c
index_few c File e = grind (arith, nat_tests)
index_few c (Constraint i) e = grind (arith, nat_tests, e)
index_few c (OfObjective k) e = grind (arith, nat_tests, e)
index_few c (Defined i) e = grind (arith, nat_tests, e)
index_few c (Suffixes kind) e = grind (arith, nat_tests)

pub mark_few : (c : Counts) (h : Head) → is_in_range c h ≡ true → mark_of h < letters * most_indices c
unfolding is_in_range
mark_few c h e = let few = index_few c (segment_of h).subject e in let letter = letter_few h in omega arith

-- ---- a mark more

or_true : (m : Bool) → true ≡ (m || true)
or_true true = refl
or_true false = refl

pub or_false : (m : Bool) → m ≡ (m || false)
or_false true = refl
or_false false = refl

get_mark : (marks : List Bool) (i k : ℕ) → i < length marks → get_or (slice_set marks k true) i false ≡ (get_or marks i false || (i == k))
get_mark marks i k lt = by (i == k) refl
  where
    by : (t : Bool) → (i == k) ≡ t → get_or (slice_set marks k true) i false ≡ (get_or marks i false || (i == k))
    by true e =
        let same = eqb-true i k e in
        get_or-set_at marks k i true false same (omega (arith, lt, same)) ∙ or_true (get_or marks i false) ∙ ap (λ b. get_or marks i false || b) (sym e)
    by false e =
        get_or-set_other marks k i true false (eqb-false i k e) ∙ or_false (get_or marks i false) ∙ ap (λ b. get_or marks i false || b) (sym e)

pub marked : (s : Segments) (g h : Head) → IsSeenIn s h → has_segment (with_segment s g) h ≡ (has_segment s h || is_same_head h g)
marked s g h w = get_mark s (mark_of h) (mark_of g) w ∙ ap (λ b. has_segment s h || b) (same_mark g h)
