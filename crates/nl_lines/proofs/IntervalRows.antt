-- A row that is an interval alone: it is no head, and judged by its interval.
use Rattle.std.proofs.Common.{◌≡◌, ◌∙◌, ℕ, suc, ◌+◌, ◌≤◌, ◌==◌, get_or, Bool, true, false, not, ◌&&◌, ◌||◌, List, [], ◌∷◌, length, refl, sym, ap, subst, arith, Some, None, if◌then◌else◌}
use Rattle.std.proofs.Math.Bool.{and-false}
use Rattle.std.specs.Prelude.{codes, drop, slice_index}
use Rattle.std.specs.Option.{option_map_or}
use Rattle.std.specs.Str.{bytes_eq}
use Rattle.std.proofs.lemmas.Bool.{eqb-true, or_parts}
use Rattle.std.proofs.lemmas.Bool.Decides.{nat_tests}
use Rattle.exact_numbers.specs.declared.dec.Dec.{Dec}
use Rattle.exact_numbers.specs.Numbers.{dec_of}
use Rattle.linear_program.specs.declared.interval.Interval.{Interval}
use Rattle.text_base.specs.Judged.{first_reason}
use Rattle.text_base.specs.Words.{word_at}
use Rattle.text_base.proofs.NamePlaces.{bytes_same}
use Rattle.nl_lines.specs.Heads.{is_head}
use Rattle.nl_lines.specs.InsideFrontLines.{IsFrontRow, IsWordBefore}
use Rattle.nl_lines.specs.IntervalRows.{IsIntervalRow}
use Rattle.nl_lines.specs.Pieces.{interval_in}
use Rattle.nl_lines.specs.Tests.{interval_form_tests, is_empty, is_within_unit, side_count}
use Rattle.nl_lines.specs.FirstRows.{IsFirstRow}
use Rattle.nl_lines.proofs.FrontRows.{alone, first_row, in_front, two_first}
use Rattle.nl_lines.proofs.PairRows.{no_letter}

-- ---- the first word is a digit from 0 to 4, and there are at most three

record IsSided (word : List ℕ) (count : ℕ) : Type 0 where
  digit : ℕ
  is : word ≡ digit ∷ []
  low : 48 ≤ digit
  high : digit ≤ 52
  more : ℕ
  count_is : count ≡ suc more
  few : more ≤ 2

sided : (word : List ℕ) (count : ℕ) → option_map_or (λ n. count == n + 1) (side_count word) false ≡ true → IsSided word count
sided word count e = by (bytes_eq word (codes "0")) (bytes_eq word (codes "1")) (bytes_eq word (codes "2")) (bytes_eq word (codes "3")) (bytes_eq word (codes "4")) refl refl refl refl refl e
  where
    by : (a b c d f : Bool) → bytes_eq word (codes "0") ≡ a → bytes_eq word (codes "1") ≡ b → bytes_eq word (codes "2") ≡ c → bytes_eq word (codes "3") ≡ d → bytes_eq word (codes "4") ≡ f
        → option_map_or (λ n. count == n + 1) (if a then Some 2 else if b then Some 1 else if c then Some 1 else if d then Some 0 else if f then Some 1 else None) false ≡ true → IsSided word count
    by true b c d f p q r s t h = record { digit = 48; is = bytes_same _ _ p; low = omega arith; high = omega arith; more = 2; count_is = eqb-true _ _ h; few = omega arith }
    by false true c d f p q r s t h = record { digit = 49; is = bytes_same _ _ q; low = omega arith; high = omega arith; more = 1; count_is = eqb-true _ _ h; few = omega arith }
    by false false true d f p q r s t h = record { digit = 50; is = bytes_same _ _ r; low = omega arith; high = omega arith; more = 1; count_is = eqb-true _ _ h; few = omega arith }
    by false false false true f p q r s t h = record { digit = 51; is = bytes_same _ _ s; low = omega arith; high = omega arith; more = 0; count_is = eqb-true _ _ h; few = omega arith }
    by false false false false true p q r s t h = record { digit = 52; is = bytes_same _ _ t; low = omega arith; high = omega arith; more = 1; count_is = eqb-true _ _ h; few = omega arith }
    by false false false false false p q r s t h = absurd cc

sided_row : (words : List (List ℕ)) (i : Interval) → IsIntervalRow words i → IsSided (word_at words 0) (length words)
sided_row words i w = sided (word_at words 0) (length words) w.sides

-- how many words come after the first
pub record IsCounted (words : List (List ℕ)) : Type 0 where
  pub more : ℕ
  pub count : length words ≡ suc more
  pub few : length words ≤ 3

pub interval_counted : (words : List (List ℕ)) (i : Interval) → IsIntervalRow words i → IsCounted words
interval_counted words i w =
    let s = sided_row words i w in
    record { more = s.more; count = s.count_is; few = omega (arith, s.count_is, s.few) }

pub interval_few : (words : List (List ℕ)) (i : Interval) → IsIntervalRow words i → length words ≤ 12
interval_few words i w = omega (arith, (interval_counted words i w).few)

-- ---- it is no head, and what is wrong with it is wrong with its interval

pub interval_plain : (words : List (List ℕ)) (i : Interval) → IsIntervalRow words i → is_head words ≡ false
interval_plain words i w =
    let s = sided_row words i w in
    rw (s.is, no_letter s.digit s.low (omega (arith, s.high))) refl

not_five : (d : ℕ) → d ≤ 52 → (d == 53) ≡ false
not_five d h = grind (arith, nat_tests)

abbrev pub is_refused : Interval → Bool → Bool
is_refused i unit = is_empty i || (unit && not (is_within_unit i))

pub interval_fine : (words : List (List ℕ)) (i : Interval) (of_constraint unit : Bool) → IsIntervalRow words i
    → is_refused i unit ≡ false → first_reason (interval_form_tests of_constraint unit words) ≡ None
unfolding interval_form_tests
interval_fine words i of_constraint unit w fine =
    let s = sided_row words i w in
    let parts = or_parts (is_empty i) (unit && not (is_within_unit i)) fine in
    let five : (of_constraint && bytes_eq (word_at words 0) (codes "5")) ≡ false = rw (s.is, not_five s.digit s.high) (and-false of_constraint) in
    rw (five, w.sides, w.says, parts.0, parts.1) refl

-- ---- rows of each kind

pub between_row : (lo hi : List ℕ) (l h : Dec) → dec_of lo ≡ Some l → dec_of hi ≡ Some h → IsIntervalRow ((48 ∷ []) ∷ lo ∷ hi ∷ []) (record { lo = Some l; hi = Some h })
unfolding interval_in
between_row lo hi l h p q = record { sides = refl; says = rw (p, q) refl }

pub upper_row : (word : List ℕ) (d : Dec) → dec_of word ≡ Some d → IsIntervalRow ((49 ∷ []) ∷ word ∷ []) (record { lo = None; hi = Some d })
unfolding interval_in
upper_row word d p = record { sides = refl; says = rw p refl }

pub lower_row : (word : List ℕ) (d : Dec) → dec_of word ≡ Some d → IsIntervalRow ((50 ∷ []) ∷ word ∷ []) (record { lo = Some d; hi = None })
unfolding interval_in
lower_row word d p = record { sides = refl; says = rw p refl }

pub free_row : IsIntervalRow ((51 ∷ []) ∷ []) (record { lo = None; hi = None })
unfolding interval_in
free_row = record { sides = refl; says = refl }

pub fixed_row : (word : List ℕ) (d : Dec) → dec_of word ≡ Some d → IsIntervalRow ((52 ∷ []) ∷ word ∷ []) (record { lo = Some d; hi = Some d })
unfolding interval_in
fixed_row word d p = record { sides = refl; says = rw p refl }

-- one word, which is a number
record IsOneOf (d : Dec) (words : List (List ℕ)) : Type 0 where
  word : List ℕ
  is : words ≡ word ∷ []
  says : dec_of word ≡ Some d

-- the kind in front of the numbers
pub kind_first : (text rest : List ℕ) (kind m : ℕ) (i : Interval) → text ≡ kind ∷ 32 ∷ rest
    → IsFrontRow rest m (λ words. IsIntervalRow ((kind ∷ []) ∷ words) i)
    → IsFrontRow text (m + 2) (λ words. IsIntervalRow words i)
kind_first text rest kind m i parts r =
    let s = sided_row ((kind ∷ []) ∷ r.words) i r.holds in
    let same : kind ≡ s.digit = ap (λ (w : List ℕ). slice_index w 0) s.is in
    let w : IsWordBefore 40 32 text 2 (λ word. word ≡ kind ∷ []) =
    record { word = kind ∷ []; more = rest; parts = parts; size = refl; some = omega arith; few = omega arith; unmarked = (omega (arith, same, s.low), tt); holds = refl } in
    let sum : 2 + m ≡ m + 2 = omega arith in
    subst (λ (k : ℕ). IsFrontRow text k (λ words. IsIntervalRow words i)) sum
    (in_front 40 text rest 2 m (λ word. word ≡ kind ∷ []) (λ words. IsIntervalRow ((kind ∷ []) ∷ words) i) (λ words. IsIntervalRow words i) (omega arith) w (ap (drop 2) (sym parts)) r
    (λ word words is holds. subst (λ x. IsIntervalRow (x ∷ words) i) (sym is) holds))

pub kind_line : (text rest : List ℕ) (kind m : ℕ) (i : Interval) → 2 ≤ length text → get_or text 0 0 ≡ kind
    → get_or text 1 0 ≡ 32 → rest ≡ drop 2 text → IsFrontRow rest m (λ words. IsIntervalRow ((kind ∷ []) ∷ words) i)
    → IsFirstRow text (m + 2) (λ words. IsIntervalRow words i)
kind_line text rest kind m i some first space is r =
    first_row text (m + 2) (λ words. IsIntervalRow words i) (λ words row. interval_few words i row)
    (kind_first text rest kind m i (two_first text kind 32 some first space ∙ ap (λ bs. kind ∷ 32 ∷ bs) (sym is)) r)

-- the kind alone
pub free_line : (text : List ℕ) → 2 ≤ length text → get_or text 0 0 ≡ 51 → get_or text 1 0 ≡ 10 → IsFirstRow text 2 (λ words. IsIntervalRow words (record { lo = None; hi = None }))
free_line text some first ends =
    let w : IsWordBefore 40 10 text 2 (λ word. word ≡ 51 ∷ []) =
    record { word = 51 ∷ []; more = drop 2 text; parts = two_first text 51 10 some first ends; size = refl; some = omega arith; few = omega arith; unmarked = (omega arith, tt); holds = refl } in
    let i : Interval = record { lo = None; hi = None } in
    first_row text 2 (λ words. IsIntervalRow words i) (λ words row. interval_few words i row)
    (alone 40 text 2 (λ word. word ≡ 51 ∷ []) (λ words. IsIntervalRow words i) (omega arith) w (λ word is. subst (λ x. IsIntervalRow (x ∷ []) i) (sym is) free_row))

-- two numbers behind the kind
pub sides_row : (rest left : List ℕ) (n m : ℕ) (lo hi : Dec) → IsWordBefore 40 32 rest n (λ word. dec_of word ≡ Some lo)
    → left ≡ drop n rest → IsWordBefore 40 10 left m (λ word. dec_of word ≡ Some hi)
    → IsFrontRow rest (n + m) (λ words. IsIntervalRow ((48 ∷ []) ∷ words) (record { lo = Some lo; hi = Some hi }))
sides_row rest left n m lo hi w is v =
    in_front 40 rest left n m (λ word. dec_of word ≡ Some lo) (IsOneOf hi) (λ words. IsIntervalRow ((48 ∷ []) ∷ words) (record { lo = Some lo; hi = Some hi })) (omega arith) w is
    (alone 40 left m (λ word. dec_of word ≡ Some hi) (IsOneOf hi) (omega arith) v (λ word e. record { word = word; is = refl; says = e }))
    (λ word words e one. subst (λ ws. IsIntervalRow ((48 ∷ []) ∷ word ∷ ws) (record { lo = Some lo; hi = Some hi })) (sym one.is) (between_row word one.word lo hi e one.says))
