-- Runs of lines, and the line at a place of them.
use Rattle.std.proofs.Common.{◌≡◌, ◌∙◌, ℕ, ◌+◌, ◌<◌, ◌≤◌, true, List, [], ◌∷◌, ◌++◌, length, drop, refl, sym, ap, ap₂}
use Rattle.std.proofs.Common.{arith, nat_lt, ◌==◌, suc, Some, None, Option, append-nil, ◌-◌, get_or, zero, append_assoc}
use Rattle.std.proofs.lemmas.Bool.{eqb-true}
use Rattle.std.proofs.lemmas.List.{drop_all}
use Rattle.std.specs.Prelude.{slice_get}
use Rattle.std.proofs.lemmas.Bool.Decides.{nat_tests}
use Rattle.std.specs.List.{range_with_len}
use Rattle.nl_lines.specs.declared.line_runs.LineRun.{LineRun}
use Rattle.nl_lines.specs.InsideLineRuns.{follows, lines_in, run_lines}

-- ---- lines that follow one another

pub range_parts : (a m n : ℕ) → range_with_len a (m + n) ≡ range_with_len a m ++ range_with_len (a + m) n
range_parts a zero n =
    let none : 0 + n ≡ n = omega arith in
    let same : a ≡ a + 0 = omega arith in
    ap (range_with_len a) none ∙ ap (λ b. range_with_len b n) same
range_parts a (suc m) n =
    let more : suc m + n ≡ suc (m + n) = omega arith in
    let same : a + 1 + m ≡ a + suc m = omega arith in
    ap (range_with_len a) more ∙ ap (λ xs. a ∷ xs) (range_parts (a + 1) m n ∙ ap (λ b. range_with_len (a + 1) m ++ range_with_len b n) same)

follows_range : (before : List ℕ) (a n line : ℕ) → follows (before ++ range_with_len a (suc n)) line ≡ (a + n + 1 == line)
follows_range [] a zero line =
    let same : a ≡ a + 0 = omega arith in
    ap (λ (b : ℕ). b + 1 == line) same
follows_range [] a (suc n) line =
    let same : a + 1 + n ≡ a + suc n = omega arith in
    follows_range [] (a + 1) n line ∙ ap (λ (b : ℕ). b + 1 == line) same
follows_range (b ∷ []) a n line = follows_range [] a n line
follows_range (b ∷ c ∷ before) a n line = follows_range (c ∷ before) a n line

-- ---- the last run

-- no lines
pub none_there : (now : List ℕ) (earlier : List LineRun) (r : LineRun) → run_lines earlier ++ lines_in r ≡ now → earlier ≡ [] → r.last < r.first → now ≡ []
unfolding run_lines
none_there now earlier r view none empty =
    let zero_lines : r.last + 1 - r.first ≡ 0 = omega (arith, empty) in
    sym view ∙ ap (λ (xs : List LineRun). run_lines xs ++ lines_in r) none ∙ ap (range_with_len r.first) zero_lines

pub follows_last : (now : List ℕ) (earlier : List LineRun) (r : LineRun) (line : ℕ) → run_lines earlier ++ lines_in r ≡ now → r.first ≤ r.last → follows now line ≡ (r.last + 1 == line)
follows_last now earlier r line view some =
    let count : r.last + 1 - r.first ≡ suc (r.last - r.first) = omega (arith, some) in
    let end : r.first + (r.last - r.first) + 1 ≡ r.last + 1 = omega (arith, some) in
    ap (λ xs. follows xs line) (sym view) ∙ ap (λ n. follows (run_lines earlier ++ range_with_len r.first n) line) count
    ∙ follows_range (run_lines earlier) r.first (r.last - r.first) line ∙ ap (λ n. n == line) end

pub next_after : (now : List ℕ) (earlier : List LineRun) (r : LineRun) (line : ℕ) → run_lines earlier ++ lines_in r ≡ now → follows now line ≡ true → r.first ≤ r.last → r.last + 1 ≡ line
next_after now earlier r line view next some = eqb-true (r.last + 1) line (sym (follows_last now earlier r line view some) ∙ next)

pub just_after : (last line : ℕ) → last < line → (line - last == 1) ≡ (last + 1 == line)
just_after last line lt = grind (arith, nat_tests)

pub not_after : (last line : ℕ) → line ≤ last → nat_lt last line ≡ (last + 1 == line)
not_after last line le = grind (arith, nat_tests)

-- it has so many lines more
pub grown : (now : List ℕ) (earlier : List LineRun) (r s : LineRun) (line n : ℕ) → run_lines earlier ++ lines_in r ≡ now → follows now line ≡ true → r.first ≤ r.last
    → s.first ≡ r.first → s.last + 1 ≡ line + n → run_lines earlier ++ lines_in s ≡ now ++ range_with_len line n
grown now earlier r s line n view next some first last =
    let after = next_after now earlier r line view next some in
    let count : s.last + 1 - r.first ≡ (r.last + 1 - r.first) + n = omega (arith, after, last, some) in
    let end : r.first + (r.last + 1 - r.first) ≡ line = omega (arith, after, some) in
    let longer : lines_in s ≡ lines_in r ++ range_with_len line n =
    ap (λ a. range_with_len a (s.last + 1 - a)) first ∙ ap (range_with_len r.first) count ∙ range_parts r.first (r.last + 1 - r.first) n ∙ ap (λ a. lines_in r ++ range_with_len a n) end in
    ap (λ xs. run_lines earlier ++ xs) longer ∙ sym (append_assoc (run_lines earlier) (lines_in r) (range_with_len line n)) ∙ ap (λ xs. xs ++ range_with_len line n) view

-- a line of its own after it
runs-append : (xs : List LineRun) (r : LineRun) → run_lines (xs ++ r ∷ []) ≡ run_lines xs ++ lines_in r
unfolding run_lines
runs-append [] r = append-nil (lines_in r)
runs-append (x ∷ xs) r = ap (λ ys. lines_in x ++ ys) (runs-append xs r) ∙ sym (append_assoc (lines_in x) (run_lines xs) (lines_in r))

pub begun : (now : List ℕ) (earlier longer : List LineRun) (r s : LineRun) (line : ℕ) → run_lines earlier ++ lines_in r ≡ now → longer ≡ earlier ++ r ∷ [] → s.first ≡ line → s.last ≡ line
    → run_lines longer ++ lines_in s ≡ now ++ line ∷ []
begun now earlier longer r s line view is first last =
    let one : line + 1 - line ≡ 1 = omega arith in
    let alone : lines_in s ≡ line ∷ [] = ap₂ (λ a b. range_with_len a (b + 1 - a)) first last ∙ ap (range_with_len line) one in
    ap₂ (λ xs ys. xs ++ ys) (ap run_lines is ∙ runs-append earlier r ∙ view) alone

-- the line at a place of a run, and behind it
within : (a n i : ℕ) (rest : List ℕ) → i < n → slice_get (range_with_len a n ++ rest) i ≡ Some (a + i)
within a zero i rest h = absurd (omega (arith, h))
within a (suc n) zero rest h =
    let same : a ≡ a + 0 = omega arith in
    ap (λ b. Some b) same
within a (suc n) (suc i) rest h =
    let same : a + 1 + i ≡ a + suc i = omega arith in
    within (a + 1) n i rest (omega (arith, h)) ∙ ap (λ b. Some b) same

behind : (a n i : ℕ) (rest : List ℕ) → slice_get (range_with_len a n ++ rest) (n + i) ≡ slice_get rest i
behind a zero i rest =
    let same : 0 + i ≡ i = omega arith in
    ap (λ k. slice_get rest k) same
behind a (suc n) i rest =
    let same : suc n + i ≡ suc (n + i) = omega arith in
    ap (λ k. slice_get (a ∷ (range_with_len (a + 1) n ++ rest)) k) same ∙ behind (a + 1) n i rest

pub in_run : (r : LineRun) (rest : List ℕ) (i : ℕ) → r.first + i ≤ r.last → slice_get (lines_in r ++ rest) i ≡ Some (r.first + i)
in_run r rest i h = within r.first (r.last + 1 - r.first) i rest (omega (arith, h))

pub after_run : (r : LineRun) (rest : List ℕ) (i j : ℕ) → r.first ≤ r.last → j ≡ r.last + 1 - r.first + i → slice_get (lines_in r ++ rest) j ≡ slice_get rest i
after_run r rest i j h is = ap (λ k. slice_get (lines_in r ++ rest) k) is ∙ behind r.first (r.last + 1 - r.first) i rest

-- a run, and what follows it
at_run : (xs : List LineRun) (i : ℕ) (d r : LineRun) (tail : List ℕ) → i < length xs → r ≡ get_or xs i d → run_lines (drop i xs) ++ tail ≡ lines_in r ++ (run_lines (drop (suc i) xs) ++ tail)
unfolding run_lines
at_run [] i d r tail h is = absurd (omega (arith, h))
at_run (x ∷ xs) zero d r tail h is = append_assoc (lines_in x) (run_lines xs) tail ∙ ap (λ q. lines_in q ++ (run_lines xs ++ tail)) (sym is)
at_run (x ∷ xs) (suc i) d r tail h is = at_run xs i d r tail (omega (arith, h)) is

pub found_in : (xs : List LineRun) (i : ℕ) (d r : LineRun) (tail : List ℕ) (left line : ℕ) (o : Option ℕ)
    → i < length xs → r ≡ get_or xs i d → ((rest : List ℕ) → slice_get (lines_in r ++ rest) left ≡ Some line)
    → slice_get (run_lines (drop i xs) ++ tail) left ≡ o → Some line ≡ o
found_in xs i d r tail left line o h is at same = sym (at (run_lines (drop (suc i) xs) ++ tail)) ∙ sym (ap (λ ys. slice_get ys left) (at_run xs i d r tail h is)) ∙ same

pub found_after : (xs : List LineRun) (i j : ℕ) (d r : LineRun) (tail : List ℕ) (left next : ℕ) (o : Option ℕ) → j ≡ suc i → i < length xs → r ≡ get_or xs i d
    → ((rest : List ℕ) → slice_get (lines_in r ++ rest) left ≡ slice_get rest next) → slice_get (run_lines (drop i xs) ++ tail) left ≡ o → slice_get (run_lines (drop j xs) ++ tail) next ≡ o
found_after xs i j d r tail left next o more h is behind same =
    ap (λ k. slice_get (run_lines (drop k xs) ++ tail) next) more ∙ sym (behind (run_lines (drop (suc i) xs) ++ tail)) ∙ sym (ap (λ ys. slice_get ys left) (at_run xs i d r tail h is)) ∙ same

-- no runs are left
pub only_last : (xs : List LineRun) (i left : ℕ) (tail : List ℕ) (o : Option ℕ) → length xs ≤ i → slice_get (run_lines (drop i xs) ++ tail) left ≡ o → slice_get (tail ++ []) left ≡ o
unfolding run_lines
only_last xs i left tail o h same = ap (λ ys. slice_get ys left) (append-nil tail ∙ ap (λ (ys : List LineRun). run_lines ys ++ tail) (sym (drop_all i xs h))) ∙ same

pub nothing_there : (none : List ℕ) (i : ℕ) → none ≡ [] → slice_get none i ≡ None
nothing_there [] zero e = refl
nothing_there [] (suc i) e = refl
nothing_there (x ∷ xs) i e = absurd cc

-- ---- the line at a place, from the first run on

-- in the first run
pub first_found : (r last : LineRun) (more : List LineRun) (place line : ℕ)
    → ((rest : List ℕ) → slice_get (lines_in r ++ rest) place ≡ Some line)
    → Some line ≡ slice_get (run_lines (r ∷ more) ++ lines_in last) place
unfolding run_lines
first_found r last more place line found = sym (ap (λ xs. slice_get xs place) (append_assoc (lines_in r) (run_lines more) (lines_in last)) ∙ found (run_lines more ++ lines_in last))

-- behind it
pub first_passed : (r last : LineRun) (more : List LineRun) (place left : ℕ) (line : Option ℕ)
    → ((rest : List ℕ) → slice_get (lines_in r ++ rest) place ≡ slice_get rest left)
    → line ≡ slice_get (run_lines more ++ lines_in last) left
    → line ≡ slice_get (run_lines (r ∷ more) ++ lines_in last) place
unfolding run_lines
first_passed r last more place left line passed is = is ∙ sym (ap (λ xs. slice_get xs place) (append_assoc (lines_in r) (run_lines more) (lines_in last)) ∙ passed (run_lines more ++ lines_in last))
