-- How many lines of its kind are left where a line has this place, and that the plan has its kind.
use Rattle.std.proofs.Common.{◌≡◌, ◌∙◌, ℕ, suc, ◌+◌, ◌-◌, ◌<◌, ◌≤◌, Bool, true, false, List, ◌∷◌, ◌++◌, length, get_or}
use Rattle.std.proofs.Common.{replicate, Option, Some, None, refl, ap, arith, nat_lt, nat_le, ◌==◌, if◌then◌else◌}
use Rattle.std.specs.Option.{option_map_or}
use Rattle.std.proofs.Math.Seq.{get_or-append_right}
use Rattle.std.proofs.lemmas.Bool.{ltb-true, ltb-false, leb-true, leb-false, eqb-true, eqb-false, ne_eqb}
use Rattle.std.proofs.lemmas.Bool.Decides.{nat_tests}
use Rattle.std.proofs.lemmas.Grind.{get_or_tail}
use Rattle.std.proofs.lemmas.List.{length-append, length-replicate, get_or-replicate, get_or_append_left, get_or_past}
use Rattle.sol_files.specs.declared.awaited.Awaited.{Awaited}
use Rattle.sol_files.specs.declared.awaited.Awaited.TheVariants.{OptionCount, Options, Constraints, DualCount, Variables, PrimalCount, Duals, Primals, Tail, Name, Table, Values}
use Rattle.sol_files.specs.declared.awaited.SuffixHead.{SuffixHead}
use Rattle.sol_files.specs.Plan.{LineKind, OptionCount as OptionCountKind, OptionRow, ConstraintCount}
use Rattle.sol_files.specs.Plan.{DualCount as DualCountKind, VariableCount, PrimalCount as PrimalCountKind, DualRow}
use Rattle.sol_files.specs.Plan.{PrimalRow, NameLine, TableLine, ValueRow, Tail as TailKind, row_plan, suffix_plan}
use Rattle.sol_files.specs.Plan.{next_in}
use Rattle.sol_files.specs.Rows.{Row}
use Rattle.sol_files.specs.Parts.{Piece, Body, option_count, dual_count, primal_count, rows_await, piece_awaits, body_awaits, last_of}
use Rattle.sol_files.specs.Progress.{kind_of}
use Rattle.sol_files.specs.Steps.{head_in, options_await, values_await, rest_awaits}

-- ---- rows of numbers

-- row i, after k options, with d duals and p primals
abbrev pub row_at : ℕ → ℕ → ℕ → ℕ → Awaited
row_at k d p i =
    if i == 0 then OptionCount else
    if nat_le i k then Options ((k + 1) - i) else
    if i == k + 1 then Constraints else
    if i == k + 2 then DualCount else
    if i == k + 3 then Variables else
    if i == k + 4 then PrimalCount else
    if nat_lt i (k + 5 + d) then Duals ((k + 5 + d) - i) else
    if nat_lt i (k + 5 + d + p) then Primals ((k + 5 + d + p) - i) else Tail

abbrev pub rows_left : List Row → Awaited
rows_left rows = row_at (option_count rows) (dual_count rows) (primal_count rows) (length rows)

-- which row it is, by its place
pub data Place (k d p i : ℕ) : Awaited → Type 0 where
  first : i ≡ 0 → Place k d p i OptionCount
  option : 0 < i → i ≤ k → Place k d p i (Options ((k + 1) - i))
  constraints : i ≡ k + 1 → Place k d p i Constraints
  duals : i ≡ k + 2 → Place k d p i DualCount
  variables : i ≡ k + 3 → Place k d p i Variables
  primals : i ≡ k + 4 → Place k d p i PrimalCount
  dual : k + 5 ≤ i → i < k + 5 + d → Place k d p i (Duals ((k + 5 + d) - i))
  primal : k + 5 + d ≤ i → i < k + 5 + d + p → Place k d p i (Primals ((k + 5 + d + p) - i))
  past : k + 5 + d + p ≤ i → Place k d p i Tail

pub place : (k d p i : ℕ) → Place k d p i (row_at k d p i)
place k d p i = by (i == 0) refl (nat_le i k) refl (i == k + 1) refl (i == k + 2) refl (i == k + 3) refl (i == k + 4) refl (nat_lt i (k + 5 + d)) refl (nat_lt i (k + 5 + d + p)) refl
  where
    by : (a : Bool) → (i == 0) ≡ a → (b : Bool) → nat_le i k ≡ b → (c : Bool) → (i == k + 1) ≡ c → (e : Bool)
        → (i == k + 2) ≡ e → (g : Bool) → (i == k + 3) ≡ g → (h : Bool) → (i == k + 4) ≡ h → (x : Bool)
        → nat_lt i (k + 5 + d) ≡ x → (y : Bool) → nat_lt i (k + 5 + d + p) ≡ y → Place k d p i (row_at k d p i)
    by true q b r c s e t g u h v x w y z = rw q (first (eqb-true i 0 q))
    by false q true r c s e t g u h v x w y z = rw (q, r) (option (let ne = eqb-false i 0 q in omega arith) (leb-true i k r))
    by false q false r true s e t g u h v x w y z = rw (q, r, s) (constraints (eqb-true i (k + 1) s))
    by false q false r false s true t g u h v x w y z = rw (q, r, s, t) (duals (eqb-true i (k + 2) t))
    by false q false r false s false t true u h v x w y z = rw (q, r, s, t, u) (variables (eqb-true i (k + 3) u))
    by false q false r false s false t false u true v x w y z = rw (q, r, s, t, u, v) (primals (eqb-true i (k + 4) v))
    by false q false r false s false t false u false v true w y z =
        let l = leb-false i k r in
        let n1 = eqb-false i (k + 1) s in
        let n2 = eqb-false i (k + 2) t in
        let n3 = eqb-false i (k + 3) u in
        let n4 = eqb-false i (k + 4) v in
        rw (q, r, s, t, u, v, w) (dual (omega arith) (ltb-true i (k + 5 + d) w))
    by false q false r false s false t false u false v false w true z = rw (q, r, s, t, u, v, w, z) (primal (ltb-false i (k + 5 + d) w) (ltb-true i (k + 5 + d + p) z))
    by false q false r false s false t false u false v false w false z = rw (q, r, s, t, u, v, w, z) (past (ltb-false i (k + 5 + d + p) z))

-- the row after it

pub after_counts : (k d p : ℕ) → (row_at k d p 1 ≡ options_await k) × (row_at k d p (k + 2) ≡ DualCount)
    × (row_at k d p (k + 3) ≡ Variables) × (row_at k d p (k + 4) ≡ PrimalCount)
    × (row_at k d p (k + 5) ≡ values_await d p)
after_counts k d p = (grind (arith, nat_tests), grind (arith, nat_tests), grind (arith, nat_tests), grind (arith, nat_tests), grind (arith, nat_tests))

pub after_option_row : (k d p i : ℕ) → 0 < i → i ≤ k → row_at k d p (i + 1) ≡ options_await (((k + 1) - i) - 1)
after_option_row k d p i lt le = grind (arith, nat_tests)

pub after_dual_row : (k d p i : ℕ) → k + 5 ≤ i → i < k + 5 + d → row_at k d p (i + 1) ≡ values_await (((k + 5 + d) - i) - 1) p
after_dual_row k d p i le lt = grind (arith, nat_tests)

pub after_primal_row : (k d p i : ℕ) → k + 5 + d ≤ i → i < k + 5 + d + p → row_at k d p (i + 1) ≡ values_await 0 (((k + 5 + d + p) - i) - 1)
after_primal_row k d p i le lt = grind (arith, nat_tests)

pub after_past_row : (k d p i : ℕ) → k + 5 + d + p ≤ i → row_at k d p (i + 1) ≡ Tail
after_past_row k d p i le = grind (arith, nat_tests)

-- ---- lines of a suffix

-- line i after the first
abbrev pub line_at : SuffixHead → ℕ → Awaited
line_at head i = if i == 0 then Name head else
    rest_awaits ((head.table_lines + 1) - i) (head.value_count - (i - (head.table_lines + 1)))

-- which line it is, by its place
pub data LinePlace (head : SuffixHead) (i : ℕ) : Awaited → Type 0 where
  at_name : i ≡ 0 → LinePlace head i (Name head)
  at_table : 0 < i → i ≤ head.table_lines → LinePlace head i (Table ((head.table_lines + 1) - i) (head.value_count - (i - (head.table_lines + 1))))
  at_value : head.table_lines < i → i < head.table_lines + 1 + head.value_count → LinePlace head i (Values (head.value_count - (i - (head.table_lines + 1))))
  at_end : head.table_lines + 1 + head.value_count ≤ i → LinePlace head i Tail

pub line_place : (head : SuffixHead) (i : ℕ) → LinePlace head i (line_at head i)
line_place head i = by (i == 0) refl (nat_lt 0 ((head.table_lines + 1) - i)) refl (nat_lt 0 (head.value_count - (i - (head.table_lines + 1)))) refl
  where
    by : (a : Bool) → (i == 0) ≡ a → (b : Bool) → nat_lt 0 ((head.table_lines + 1) - i) ≡ b → (c : Bool)
        → nat_lt 0 (head.value_count - (i - (head.table_lines + 1))) ≡ c → LinePlace head i (line_at head i)
    by true q b r c s = rw q (at_name (eqb-true i 0 q))
    by false q true r c s =
        let ne = eqb-false i 0 q in
        let lt = ltb-true 0 ((head.table_lines + 1) - i) r in
        rw (q, r) (at_table (omega arith) (omega arith))
    by false q false r true s =
        let le = ltb-false 0 ((head.table_lines + 1) - i) r in
        let lt = ltb-true 0 (head.value_count - (i - (head.table_lines + 1))) s in
        rw (q, r, s) (at_value (omega arith) (omega arith))
    by false q false r false s =
        let ne = eqb-false i 0 q in
        let le = ltb-false 0 ((head.table_lines + 1) - i) r in
        let less = ltb-false 0 (head.value_count - (i - (head.table_lines + 1))) s in
        rw (q, r, s) (at_end (omega arith))

pub later_awaits : (head : SuffixHead) (i : ℕ) → line_at head (i + 1) ≡ rest_awaits ((head.table_lines + 1) - (i + 1)) (head.value_count - ((i + 1) - (head.table_lines + 1)))
later_awaits head i = rw (ne_eqb (i + 1) 0 (λ e. omega (arith, e))) refl

pub over_awaits : (head : SuffixHead) (i : ℕ) → 0 < i → head.table_lines + 1 + head.value_count ≤ i → line_at head (i + 1) ≡ line_at head i
over_awaits head i lt le = grind (arith, nat_tests)

-- ---- any line of a body

abbrev pub left_after : List Row → Option Piece → Awaited
left_after rows None = rows_left rows
left_after rows (Some p) = line_at (head_in p.head) (length p.lines)

abbrev pub body_left : Body → Awaited
body_left b = left_after b.rows (last_of b.pieces)

-- ---- the kind of a row is that of the plan

module _ (k d p i : ℕ) where
  abbrev front : List LineKind
  front = OptionCountKind ∷ replicate k OptionRow

  abbrev middle : List LineKind
  middle = ConstraintCount ∷ DualCountKind ∷ VariableCount ∷ PrimalCountKind ∷ replicate d DualRow

  fronts : length (front ++ middle) ≡ k + 5 + d
  fronts = omega (arith, length-append front middle, length-replicate k OptionRow, length-replicate d DualRow)

  in_front : i ≤ k → next_in (row_plan k d p) i ≡ get_or front i TailKind
  in_front le =
      get_or_append_left (front ++ middle) (replicate p PrimalRow) TailKind i (omega (arith, fronts, le))
      ∙ get_or_append_left front middle TailKind i (omega (arith, length-replicate k OptionRow, le))

  in_middle : (j : ℕ) → i ≡ k + 1 + j → j < d + 4 → next_in (row_plan k d p) i ≡ get_or middle j TailKind
  in_middle j e lt =
      let many = length-replicate k OptionRow in
      let at : i - length front ≡ j = omega (arith, many, e) in
      get_or_append_left (front ++ middle) (replicate p PrimalRow) TailKind i (omega (arith, fronts, e, lt))
      ∙ get_or-append_right front middle i TailKind (omega (arith, many, e)) ∙ ap (λ n. get_or middle n TailKind) at

  in_last : (j : ℕ) → i ≡ k + 5 + d + j → next_in (row_plan k d p) i ≡ get_or (replicate p PrimalRow) j TailKind
  in_last j e =
      let at : i - length (front ++ middle) ≡ j = omega (arith, fronts, e) in
      get_or-append_right (front ++ middle) (replicate p PrimalRow) i TailKind (omega (arith, fronts, e)) ∙ ap (λ n. get_or (replicate p PrimalRow) n TailKind) at

  row_kind : (a : Awaited) → Place k d p i a → next_in (row_plan k d p) i ≡ kind_of a
  row_kind OptionCount (first z) = in_front (omega arith) ∙ ap (λ n. get_or front n TailKind) z
  row_kind (Options left) (option lt le) = in_front le ∙ get_or_tail OptionCountKind (replicate k OptionRow) i TailKind lt ∙ get_or-replicate k (i - 1) OptionRow TailKind (omega arith)
  row_kind Constraints (constraints at) = in_middle 0 (omega arith) (omega arith)
  row_kind DualCount (duals at) = in_middle 1 (omega arith) (omega arith)
  row_kind Variables (variables at) = in_middle 2 (omega arith) (omega arith)
  row_kind PrimalCount (primals at) = in_middle 3 (omega arith) (omega arith)
  row_kind (Duals left) (dual le lt) = in_middle (suc (suc (suc (suc (i - (k + 5)))))) (omega arith) (omega arith) ∙ get_or-replicate d (i - (k + 5)) DualRow TailKind (omega arith)
  row_kind (Primals left) (primal le lt) = in_last (i - (k + 5 + d)) (omega arith) ∙ get_or-replicate p (i - (k + 5 + d)) PrimalRow TailKind (omega arith)
  row_kind Tail (past le) = in_last (i - (k + 5 + d)) (omega arith) ∙ get_or_past (replicate p PrimalRow) (i - (k + 5 + d)) TailKind (omega (arith, length-replicate p PrimalRow, le))
  row_kind a h = elim h [ ]

pub rows_kind : (rows : List Row) → rows_await rows ≡ kind_of (rows_left rows)
rows_kind rows =
    let k = option_count rows in
    let d = dual_count rows in
    let p = primal_count rows in
    row_kind k d p (length rows) (rows_left rows) (place k d p (length rows))

-- ---- the kind of a line of a suffix is that of its plan

module _ (head : SuffixHead) (i : ℕ) where
  abbrev t : ℕ
  t = head.table_lines

  abbrev v : ℕ
  v = head.value_count

  abbrev named : List LineKind
  named = NameLine ∷ replicate t TableLine

  in_named : i ≤ t → next_in (suffix_plan t v) i ≡ get_or named i TailKind
  in_named le = get_or_append_left named (replicate v ValueRow) TailKind i (omega (arith, length-replicate t TableLine, le))

  in_values : t < i → next_in (suffix_plan t v) i ≡ get_or (replicate v ValueRow) (i - (t + 1)) TailKind
  in_values lt =
      let many = length-replicate t TableLine in
      let at : i - length named ≡ i - (t + 1) = omega (arith, many) in
      get_or-append_right named (replicate v ValueRow) i TailKind (omega (arith, many, lt)) ∙ ap (λ n. get_or (replicate v ValueRow) n TailKind) at

  line_kind : (a : Awaited) → LinePlace head i a → next_in (suffix_plan t v) i ≡ kind_of a
  line_kind Tail (at_end le) = in_values (omega arith) ∙ get_or_past (replicate v ValueRow) (i - (t + 1)) TailKind (omega (arith, length-replicate v ValueRow, le))
  line_kind (Name x) (at_name z) = in_named (omega arith) ∙ ap (λ n. get_or named n TailKind) z
  line_kind (Table tables values) (at_table lt le) = in_named le ∙ get_or_tail NameLine (replicate t TableLine) i TailKind lt ∙ get_or-replicate t (i - 1) TableLine TailKind (omega arith)
  line_kind (Values left) (at_value lt less) = in_values lt ∙ get_or-replicate v (i - (t + 1)) ValueRow TailKind (omega arith)
  line_kind a h = elim h [ ]

left_kind : (rows : List Row) (o : Option Piece) → option_map_or piece_awaits o (rows_await rows) ≡ kind_of (left_after rows o)
left_kind rows None = rows_kind rows
left_kind rows (Some p) = line_kind (head_in p.head) (length p.lines) (line_at (head_in p.head) (length p.lines)) (line_place (head_in p.head) (length p.lines))

pub body_kind : (b : Body) → body_awaits b ≡ kind_of (body_left b)
body_kind b = left_kind b.rows (last_of b.pieces)
