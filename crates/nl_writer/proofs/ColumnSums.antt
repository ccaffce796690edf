-- The sums of the uses of variables are the numbers of terms up to each variable.
use Rattle.std.proofs.Common.{◌≡◌, ◌∙◌, ℕ, zero, suc, ◌+◌, ◌<◌, List, [], ◌∷◌, length, get_or, drop, take, refl, sym, ap, ap₂, arith}
use Rattle.std.proofs.Common.{◌-◌, ◌++◌, append_assoc, append-nil}
use Rattle.std.specs.Prelude.{codes}
use Rattle.std.proofs.lemmas.List.{length-take-le, get_or-take, drop_all, take_all}
use Rattle.std.specs.Fmt.{decimal}
use Rattle.nl_model.specs.File.{Term}
use Rattle.text_base.specs.WordLines.{WordLine, lines_text}
use Rattle.nl_model.specs.UseCounts.{terms_up_to, use_count}
use Rattle.nl_model.proofs.UseLemmas.{below, split_rows, next_rows, nothing_below}
use Rattle.nl_writer.specs.Written.{lettered, column_lines, column_piece}
use Rattle.nl_writer.specs.InsideUses.{HasUses, sum_lines}

-- the sums of the uses of the variables from j on
sums_from : (rows : List (List Term)) (j before : ℕ) (uses : List ℕ) → ((i : ℕ) → i < length uses → get_or uses i 0 ≡ use_count rows (j + i)) → before ≡ below rows j
    → sum_lines before uses ≡ column_lines rows j (length uses)
sums_from rows j before [] h e = refl
sums_from rows j before (n ∷ ns) h e =
    let here : n ≡ use_count rows j = h 0 (omega arith) ∙ ap (use_count rows) (omega arith) in
    let now : before + n ≡ terms_up_to rows j = ap₂ (λ a b. a + b) e here ∙ sym (split_rows rows j) in
    ap₂ (λ (x : ℕ) (ls : List WordLine). (decimal x ∷ []) ∷ ls) now
    (sums_from rows (j + 1) (before + n) ns (λ i lt. h (suc i) (omega (arith, lt)) ∙ ap (use_count rows) (omega arith)) (now ∙ sym (next_rows rows j)))

-- the lines of all variables but the last
pub sums_are_columns : (rows : List (List Term)) (n : ℕ) (uses counted : List ℕ) → HasUses n rows uses → length counted < n → ((i : ℕ) → i < length counted → get_or counted i 0 ≡ get_or uses i 0)
    → sum_lines 0 counted ≡ column_lines rows 0 (length counted)
sums_are_columns rows n uses counted h few same =
    sums_from rows 0 0 counted (λ i lt. same i lt ∙ h.each i (omega arith) ∙ ap (use_count rows) (omega arith)) (sym (nothing_below rows))

-- the piece of columns is written
pub columns_written : (n : ℕ) (rows : List (List Term)) (uses counted out0 out1 out2 out3 : List ℕ) → HasUses n rows uses → 0 < n → counted ≡ take (n - 1) uses →
    out1 ≡ out0 ++ lettered (codes "k") (length counted) → out2 ≡ out1 ++ 10 ∷ [] → out3 ≡ out2 ++ lines_text (sum_lines 0 counted) →
    out3 ≡ out0 ++ lines_text (column_piece n rows)
columns_written zero rows uses counted out0 out1 out2 out3 h some c p q r = absurd (omega arith)
columns_written (suc n) rows uses counted out0 out1 out2 out3 h some c p q r =
    let less : suc n - 1 ≡ n = omega arith in
    let front : counted ≡ take n uses = c ∙ ap (λ k. take k uses) less in
    let size : length counted ≡ n = ap length front ∙ length-take-le n uses (omega (arith, h.count)) in
    let same : sum_lines 0 counted ≡ column_lines rows 0 n =
    sums_are_columns rows (suc n) uses counted h (omega (arith, size)) (λ i lt. ap (λ xs. get_or xs i 0) front ∙ get_or-take n uses i 0 (omega (arith, lt, size)))
    ∙ ap (column_lines rows 0) size in
    let word = lettered (codes "k") n in
    r ∙ ap₂ (λ y ls. y ++ lines_text ls) (q ∙ ap (λ y. y ++ 10 ∷ []) (p ∙ ap (λ k. out0 ++ lettered (codes "k") k) size) ∙ append_assoc out0 word (10 ∷ [])) same
    ∙ append_assoc out0 (word ++ 10 ∷ []) (lines_text (column_lines rows 0 n))

pub no_columns : (n : ℕ) (rows : List (List Term)) (out : List ℕ) → n ≡ 0 → out ≡ out ++ lines_text (column_piece n rows)
no_columns n rows out e = sym (append-nil out) ∙ ap (λ k. out ++ lines_text (column_piece k rows)) (sym e)

-- a Vec whose elements were written as a slice of their length
pub written_back : (new items : List ℕ) (n : ℕ) → length items ≡ n → length new ≡ length items → take n (new ++ drop (length new) items) ≡ new
written_back new items n size same =
    let none : drop (length new) items ≡ [] = drop_all (length new) items (omega arith) in
    ap (λ ys. take n (new ++ ys)) none ∙ ap (take n) (append-nil new) ∙ take_all n new (omega arith)
