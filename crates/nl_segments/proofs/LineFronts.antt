-- Intervals, and numbers of columns, a line each, that are taken at once; and which variables are binary.
use Rattle.std.proofs.Common.{◌≡◌, ◌∙◌, ℕ, ◌+◌, ◌-◌, ◌<◌, ◌≤◌, Bool, true, false, not, ◌&&◌, nat_le, nat_lt, if◌then◌else◌, List, [], ◌∷◌, ◌++◌, drop, max, refl, sym, ap, subst, arith, Some, None}
use Rattle.std.specs.Prelude.{IfSome, IsSomeAnd}
use Rattle.std.proofs.lemmas.Bool.{lt-ltb, ltb-true, ltb-false}
use Rattle.std.proofs.lemmas.Bool.Decides.{nat_tests}
use Rattle.linear_program.specs.declared.interval.Interval.{Interval}
use Rattle.linear_program.specs.declared.kind.Kind.TheVariants.{Binary, Continuous, Integer}
use Rattle.text_base.specs.declared.grammar.Front.{Front}
use Rattle.nl_model.specs.declared.header_counts.Counts.{Counts}
use Rattle.nl_model.specs.Draft.{Draft}
use Rattle.nl_model.specs.declared.kinds.Run.{Run}
use Rattle.nl_model.specs.InsideKinds.{run_of, kind_among}
use Rattle.nl_model.specs.Kinds.{variable_kind}
use Rattle.nl_lines.specs.declared.awaited.Awaited.{Awaited}
use Rattle.nl_lines.specs.declared.awaited.Awaited.TheVariants.{ColumnCount, Interval as IntervalLine}
use Rattle.nl_lines.specs.FirstRows.{IsFirstRow}
use Rattle.nl_lines.specs.IntervalRows.{IsIntervalRow}
use Rattle.nl_lines.specs.Pieces.{is_nothing, line_kind}
use Rattle.nl_lines.specs.Tests.{is_binary, is_sides}
use Rattle.nl_lines.specs.WholeRows.{IsWholeRow}
use Rattle.nl_model.proofs.KindRuns.{variable_kind_by_runs}
use Rattle.nl_lines.proofs.IntervalRows.{interval_counted, interval_fine, interval_plain, is_refused}
use Rattle.nl_lines.proofs.WholeRows.{column_fine, whole_plain}
use Rattle.nl_segments.specs.Current.{Current, current_awaits, less_line, less_lines}
use Rattle.nl_segments.specs.Held.{Body, HoldsSome, IsAwaiting}
use Rattle.nl_segments.specs.InsideLineFronts.{AwaitsColumns, AwaitsIntervals, AwaitsLines, HasIntervals, with_lines}
use Rattle.nl_segments.specs.InsideLineSteps.{HasRoom, unless_complete, with_interval}
use Rattle.nl_segments.specs.InsideTermRuns.{TakesLines}
use Rattle.nl_segments.proofs.PairHeld.{IsIntervalNext, column_step, early as early_line, interval_step, is_line_kind, next_interval}
use Rattle.nl_segments.proofs.PairLines.{awaits_as, opened}
use Rattle.nl_segments.specs.Grammar.{counts_of}
use Rattle.nl_segments.proofs.StandingLemmas.{goes_on, none_taken, row_first, still_some}

-- ---- binary variables follow one another

early : (size start n j : ℕ) → j < size → (nat_le (size + start) j && nat_lt j (size + start + n)) ≡ false
early size start n j lt = grind (arith, nat_tests)

moved : (size start n j : ℕ) → size ≤ j → (nat_le start (j - size) && nat_lt (j - size) (start + n)) ≡ (nat_le (size + start) j && nat_lt j (size + start + n))
moved size start n j le = grind (arith, nat_tests)

-- behind a run of another kind
later : (g : Run) (gs : List Run) (start n : ℕ) → is_binary g.kind ≡ false → ((j : ℕ) → is_binary (kind_among gs j) ≡ (nat_le start j && nat_lt j (start + n)))
    → (j : ℕ) → is_binary (kind_among (g ∷ gs) j) ≡ (nat_le (g.size + start) j && nat_lt j (g.size + start + n))
later g gs start n other rest j = by (nat_lt j g.size) refl
  where
    by : (t : Bool) → nat_lt j g.size ≡ t → is_binary (kind_among (g ∷ gs) j) ≡ (nat_le (g.size + start) j && nat_lt j (g.size + start + n))
    by true e = rw e (other ∙ sym (early g.size start n j (ltb-true j g.size e)))
    by false e = rw e (rest (j - g.size) ∙ moved g.size start n j (ltb-false j g.size e))

within : (n j : ℕ) → nat_lt j n ≡ true → true ≡ (nat_le 0 j && nat_lt j (0 + n))
within n j e = grind (arith, nat_tests, e)

past : (n j : ℕ) → nat_lt j n ≡ false → false ≡ (nat_le 0 j && nat_lt j (0 + n))
past n j e = grind (arith, nat_tests, e)

last_two : (n m j : ℕ) → is_binary (kind_among (run_of n Binary ∷ run_of m Integer ∷ []) j) ≡ (nat_le 0 j && nat_lt j (0 + n))
last_two n m j = by (nat_lt j n) (nat_lt (j - n) m) refl refl
  where
    by : (t u : Bool) → nat_lt j n ≡ t → nat_lt (j - n) m ≡ u → is_binary (kind_among (run_of n Binary ∷ run_of m Integer ∷ []) j) ≡ (nat_le 0 j && nat_lt j (0 + n))
    by true u e f = rw e (within n j e)
    by false true e f = rw (e, f) (past n j e)
    by false false e f = rw (e, f) (past n j e)

pub binary_at : (c : Counts) (first end : ℕ)
    → first ≡ (c.nlvb - c.nlvbi) + c.nlvbi + (c.nlvc - c.nlvb - c.nlvci) + c.nlvci + (c.nlvo - c.nlvc - c.nlvoi) + c.nlvoi + (c.n_var - max c.nlvc c.nlvo - c.nbv - c.niv)
    → end ≡ first + c.nbv → (j : ℕ) → is_binary (variable_kind c j) ≡ (nat_le first j && nat_lt j end)
binary_at c first end is stop j =
    let size = c.n_var - max c.nlvc c.nlvo - c.nbv - c.niv in
    let objectives = c.nlvo - c.nlvc - c.nlvoi in
    let rows = c.nlvc - c.nlvb - c.nlvci in
    let n = c.nbv in
    let none : List Run = run_of n Binary ∷ run_of c.niv Integer ∷ [] in
    let seven : List Run = run_of size Continuous ∷ none in
    let six : List Run = run_of c.nlvoi Integer ∷ seven in
    let five : List Run = run_of objectives Continuous ∷ six in
    let four : List Run = run_of c.nlvci Integer ∷ five in
    let three : List Run = run_of rows Continuous ∷ four in
    let two : List Run = run_of c.nlvbi Integer ∷ three in
    let at_seven = later (run_of size Continuous) none 0 n refl (last_two n c.niv) in
    let at_six = later (run_of c.nlvoi Integer) seven (size + 0) n refl at_seven in
    let at_five = later (run_of objectives Continuous) six (c.nlvoi + (size + 0)) n refl at_six in
    let at_four = later (run_of c.nlvci Integer) five (objectives + (c.nlvoi + (size + 0))) n refl at_five in
    let at_three = later (run_of rows Continuous) four (c.nlvci + (objectives + (c.nlvoi + (size + 0)))) n refl at_four in
    let at_two = later (run_of c.nlvbi Integer) three (rows + (c.nlvci + (objectives + (c.nlvoi + (size + 0))))) n refl at_three in
    let one = later (run_of (c.nlvb - c.nlvbi) Continuous) two (c.nlvbi + (rows + (c.nlvci + (objectives + (c.nlvoi + (size + 0)))))) n refl at_two in
    let start : (c.nlvb - c.nlvbi) + (c.nlvbi + (rows + (c.nlvci + (objectives + (c.nlvoi + (size + 0)))))) ≡ first = omega (arith, is) in
    let over : (c.nlvb - c.nlvbi) + (c.nlvbi + (rows + (c.nlvci + (objectives + (c.nlvoi + (size + 0)))))) + n ≡ end = omega (arith, is, stop) in
    ap is_binary (variable_kind_by_runs c j) ∙ one j ∙ ap (λ (k : ℕ). nat_le k j
    && nat_lt j ((c.nlvb - c.nlvbi) + (c.nlvbi + (rows + (c.nlvci + (objectives + (c.nlvoi + (size + 0)))))) + n))
    start ∙ ap (λ (k : ℕ). nat_le first j && nat_lt j k) over

-- ---- after so many lines

module _ (kind : Awaited) (left : ℕ) (b : Body) (cur : Current) (n : ℕ) (d : Draft) (columns : List ℕ) (some_kind : is_nothing kind ≡ false) (a : AwaitsLines kind left b cur) (lt : n < left) where
  -- the reader after n lines; its last piece is held, and awaits another one
  awaits_kind : current_awaits (less_lines cur n) ≡ kind
  awaits_kind =
      let some : nat_lt 0 (cur.left - n) ≡ true = lt-ltb 0 (cur.left - n) (omega (arith, a.same_left, lt)) in
      rw some a.same_kind

  still_held : (with_lines b d columns cur n).current ≡ Some (less_lines cur n)
  still_held = ap (λ k. if is_nothing k then None else Some (less_lines cur n)) awaits_kind ∙ ap (λ t. if t then None else Some (less_lines cur n)) some_kind

  still_awaiting : IsAwaiting kind (with_lines b d columns cur n)
  still_awaiting = subst (λ o. IsSomeAnd o (λ c. current_awaits c ≡ kind)) (sym still_held) awaits_kind

  next_current : IfSome (with_lines b d columns cur n).current (λ c. unless_complete (less_lines cur (n + 1)) ≡ unless_complete (less_line c))
  next_current =
      let once : cur.left - (n + 1) ≡ cur.left - n - 1 = omega arith in
      subst (λ o. IfSome o (λ c. unless_complete (less_lines cur (n + 1)) ≡ unless_complete (less_line c))) (sym still_held) (ap (λ (k : ℕ). unless_complete (record cur { left = k })) once)

-- where such a line is awaited
pub awaits_lines : (kind : Awaited) (left : ℕ) (b : Body) (cur : Current) → is_line_kind kind ≡ true
    → b.current ≡ Some cur → IsAwaiting kind b → HoldsSome b → left ≡ cur.left → AwaitsLines kind left b cur
awaits_lines kind left b cur line is a h same =
    let o = opened h.0 b cur is h.1 in
    let e = early_line (counts_of h.0) o.piece cur kind o.is_open.current (awaits_as b cur kind is a) line in
    record { current = is; same_kind = ap line_kind o.is_open.current.head ∙ e.same_kind; same_left = sym same; some = omega (arith, same, e.left) }

pub awaits_intervals : (left : ℕ) (of_constraint : Bool) (b : Body) (cur : Current) → b.current ≡ Some cur
    → IsAwaiting IntervalLine b → HoldsSome b → left ≡ cur.left → of_constraint ≡ is_sides cur.head
    → AwaitsIntervals b.draft of_constraint left b cur
awaits_intervals left of_constraint b cur is a h same sides = record { draft = refl; same = sym sides; awaits = awaits_lines IntervalLine left b cur refl is a h same }

-- before any line
none_yet : (kind : Awaited) (left : ℕ) (b : Body) (cur : Current) (number : ℕ) (piece : List ℕ)
    → is_nothing kind ≡ false → AwaitsLines kind left b cur → TakesLines b piece number (record { len = 0; lines = 0 })
    (with_lines b b.draft b.columns cur 0)
none_yet kind left b cur number piece some_kind a =
    let none : cur.left - 0 ≡ cur.left = omega arith in
    let current = still_held kind left b cur 0 b.draft b.columns some_kind a a.some ∙ ap (λ (k : ℕ). Some (record cur { left = k })) none ∙ sym a.current in
    let same : with_lines b b.draft b.columns cur 0 ≡ b = λ i. record b { current = current i } in
    subst (TakesLines b piece number (record { len = 0; lines = 0 })) (sym same) (none_taken b piece number)

-- ---- an interval more

pub no_interval : (d : Draft) (of_constraint : Bool) (left : ℕ) (b : Body) (cur : Current) (number : ℕ) (piece : List ℕ) → AwaitsIntervals d of_constraint left b cur
    → TakesLines b piece number (record { len = 0; lines = 0 }) (with_lines b d b.columns cur 0)
no_interval d of_constraint left b cur number piece is =
    subst (λ x. TakesLines b piece number (record { len = 0; lines = 0 }) (with_lines b x b.columns cur 0)) is.draft (none_yet IntervalLine left b cur number piece refl is.awaits)

pub interval_taken : (first d d_new : Draft) (of_constraint : Bool) (left : ℕ) (b : Body) (cur : Current) (number : ℕ)
    (piece : List ℕ) (front : Front) (len : ℕ) (i : Interval) → AwaitsIntervals first of_constraint left b cur
    → front.lines < left
    → TakesLines b piece number front (with_lines b d b.columns cur front.lines) → IsFirstRow (drop front.len piece) len (λ words. IsIntervalRow words i)
    → is_refused i (not of_constraint && is_binary (variable_kind d.counts (d.counts.n_var - (left - front.lines)))) ≡ false → d_new ≡ with_interval d of_constraint i
    → TakesLines b piece number (record { len = front.len + len; lines = front.lines + 1 }) (with_lines b d_new b.columns cur (front.lines + 1))
interval_taken first d d_new of_constraint left b cur number piece front len i is lt h row fine given =
    let n = front.lines in
    let old = with_lines b d b.columns cur n in
    let new = with_lines b d_new b.columns cur (n + 1) in
    let held = still_held IntervalLine left b cur n d b.columns refl is.awaits lt in
    let awaiting = still_awaiting IntervalLine left b cur n d b.columns refl is.awaits lt in
    let next = next_current IntervalLine left b cur n d b.columns refl is.awaits lt in
    let fine_now : is_refused i (not (is_sides cur.head) && is_binary (variable_kind d.counts (d.counts.n_var - (cur.left - n)))) ≡ false = rw (is.same, is.awaits.same_left) fine in
    let given_now : d_new ≡ with_interval d (is_sides cur.head) i = given ∙ ap (λ t. with_interval d t i) (sym is.same) in
    goes_on b old new piece (drop front.len piece) number front (record { len = len; lines = 1 }) h refl
    (row_first old new (drop front.len piece) (number + n) len (λ words. IsIntervalRow words i) row (λ words r. (let c = interval_counted words i r in (c.more, c.count)))
    (λ words r. interval_step old (less_lines cur n) words (number + n) i d_new (unless_complete (less_lines cur (n + 1))) held awaiting (interval_plain words i r)
    (interval_fine words i (is_sides cur.head) (not (is_sides cur.head) && is_binary (variable_kind d.counts (d.counts.n_var - (cur.left - n)))) r fine_now) r.says given_now next))

-- there is room for it
pub interval_next : (first d : Draft) (of_constraint : Bool) (left : ℕ) (piece : List ℕ) (front : Front) (h : HasIntervals first of_constraint left) → front.lines < left
    → TakesLines h.body piece 1 front (with_lines h.body d h.body.columns h.current front.lines) → IsIntervalNext d (less_lines h.current front.lines)
interval_next first d of_constraint left piece front h lt takes =
    let now = with_lines h.body d h.body.columns h.current front.lines in
    next_interval now (less_lines h.current front.lines) (still_held IntervalLine left h.body h.current front.lines d h.body.columns refl h.is.awaits lt)
    (still_awaiting IntervalLine left h.body h.current front.lines d h.body.columns refl h.is.awaits lt) (still_some h.body now piece 1 front takes h.held)

pub has_room : (first d : Draft) (of_constraint : Bool) (left : ℕ) (piece : List ℕ) (front : Front) (h : HasIntervals first of_constraint left) → front.lines < left
    → TakesLines h.body piece 1 front (with_lines h.body d h.body.columns h.current front.lines) → HasRoom d of_constraint
has_room first d of_constraint left piece front h lt takes = subst (HasRoom d) h.is.same (interval_next first d of_constraint left piece front h lt takes).room

pub same_counts : (d : Draft) (of_constraint : Bool) (i : Interval) → (with_interval d of_constraint i).counts ≡ d.counts
same_counts d true i = refl
same_counts d false i = refl

-- ---- the number of a column more

pub no_column : (columns : List ℕ) (left : ℕ) (b : Body) (cur : Current) (number : ℕ) (piece : List ℕ)
    → AwaitsColumns columns left b cur → TakesLines b piece number (record { len = 0; lines = 0 })
    (with_lines b b.draft columns cur 0)
no_column columns left b cur number piece is =
    subst (λ x. TakesLines b piece number (record { len = 0; lines = 0 }) (with_lines b b.draft x cur 0)) is.columns_are (none_yet ColumnCount left b cur number piece refl is.awaits)

pub column_taken : (first columns columns_new : List ℕ) (left : ℕ) (b : Body) (cur : Current) (number : ℕ)
    (piece : List ℕ) (front : Front) (len k : ℕ) → AwaitsColumns first left b cur → front.lines < left
    → TakesLines b piece number front (with_lines b b.draft columns cur front.lines) → IsFirstRow (drop front.len piece) len (λ words. IsWholeRow words k) → columns_new ≡ columns ++ k ∷ []
    → TakesLines b piece number (record { len = front.len + len; lines = front.lines + 1 }) (with_lines b b.draft columns_new cur (front.lines + 1))
column_taken first columns columns_new left b cur number piece front len k is lt h row given =
    let n = front.lines in
    let old = with_lines b b.draft columns cur n in
    let new = with_lines b b.draft columns_new cur (n + 1) in
    goes_on b old new piece (drop front.len piece) number front (record { len = len; lines = 1 }) h refl
    (row_first old new (drop front.len piece) (number + n) len (λ words. IsWholeRow words k) row (λ words r. (0, r.one))
    (λ words r. column_step old words (number + n) k columns_new (unless_complete (less_lines cur (n + 1)))
    (still_awaiting ColumnCount left b cur n b.draft columns refl is.awaits lt) (whole_plain words k r)
    (column_fine words k r) r.says given
    (next_current ColumnCount left b cur n b.draft columns refl is.awaits lt)))
