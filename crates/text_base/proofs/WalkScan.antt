-- The walk over a text meets its lines: the text, cut at each LF.
use Rattle.std.proofs.Common.{◌≡◌, ◌∙◌, ℕ, zero, suc, ◌+◌, ◌-◌, ◌<◌, ◌≤◌, ◌^◌, List, [], ◌∷◌, ◌++◌, length, map, take, Bool, true, false, leb, refl, sym, ap, ap₂, arith, append_assoc}
use Rattle.std.specs.Prelude.{◌==◌, nat_le, get_or, take_while}
use Rattle.std.specs.List.{slice_split}
use Rattle.std.proofs.lemmas.Bool.{leb-true, leb-false, le-leb, lt-leb}
use Rattle.std.proofs.lemmas.List.{append-nil, length-append, take-append-le, take_all}
use Rattle.std.proofs.lemmas.List.Sums.{take_while-cons}
use Rattle.std.specs.declared.option.Option.{Option}
use Rattle.std.specs.declared.option.Option.TheVariants.{None, Some}
use Rattle.text_base.specs.declared.lines.LineFault.{LineFault}
use Rattle.text_base.specs.declared.lines.LineFault.TheVariants.{LineTooLong, InputTooLong}
use Rattle.text_base.specs.Lines.{trimmed, is_short, parts_of, ended_parts, line_fault, Scan, scan_of, scan}
use Rattle.text_base.proofs.Walk.{Walk, no_lines, steps, walk, seen}
use Rattle.text_base.proofs.WalkSteps.{next-input, next-line, next-long, next-more, steps-fault}

abbrev parts : List ℕ → List (List ℕ)
parts bytes = slice_split (λ b. b == 10) bytes

-- bytes before the first part
abbrev behind : List ℕ → List (List ℕ) → List (List ℕ)
behind rest [] = rest ∷ []
behind rest (part ∷ more) = (rest ++ part) ∷ more

-- there is a first part
abbrev HasFirst : List (List ℕ) → Type 0
HasFirst parts = (first : List ℕ) × (more : List (List ℕ)) × (parts ≡ first ∷ more)

has_first : (bytes : List ℕ) → HasFirst (parts bytes)
has_first [] = ([], [], refl)
has_first (b ∷ bytes) = by (b == 10) refl (has_first bytes)
  where
    by : (end : Bool) → (b == 10) ≡ end → HasFirst (parts bytes) → HasFirst (parts (b ∷ bytes))
    by true e h = rw e ([], parts bytes, refl)
    by false e h = rw (e, h.2) (b ∷ h.0, h.1, refl)

-- the same with lines before them
abbrev lines_then : List (List ℕ) → Scan → Scan
lines_then lines c = record { lines = lines ++ c.lines; rest = c.rest; fault = c.fault }

-- the first part of several
ended-first : (part next : List ℕ) (more : List (List ℕ)) → take (length (part ∷ next ∷ more) - 1) (part ∷ next ∷ more) ≡ part ∷ take (length (next ∷ more) - 1) (next ∷ more)
ended-first part next more =
    let one : length (part ∷ next ∷ more) - 1 ≡ suc (length (next ∷ more) - 1) = omega arith in
    ap (λ (n : ℕ). take n (part ∷ next ∷ more)) one

ended-short : (part next : List ℕ) (more : List (List ℕ)) → length part ≤ 65536 → ended_parts (part ∷ next ∷ more) ≡ part ∷ ended_parts (next ∷ more)
ended-short part next more short =
    ap (take_while is_short) (ended-first part next more) ∙ take_while-cons is_short part (take (length (next ∷ more) - 1) (next ∷ more)) ∙ rw (le-leb (length part) 65536 short) refl

ended-long : (part : List ℕ) (more : List (List ℕ)) → 65536 < length part → ended_parts (part ∷ more) ≡ []
ended-long part [] long = refl
ended-long part (next ∷ more) long =
    ap (take_while is_short) (ended-first part next more) ∙ take_while-cons is_short part (take (length (next ∷ more) - 1) (next ∷ more)) ∙ rw (lt-leb (length part) 65536 long) refl

-- what is said of a text, by the parts that have ended
abbrev scan_by : List (List ℕ) → List (List ℕ) → Option LineFault → List (List ℕ) → Scan
scan_by lines ended fault parts = record { lines = lines ++ map trimmed ended; rest = take 65536 (get_or parts (length ended) []); fault = fault }

-- a part that is short, with others after it
one-line : (lines : List (List ℕ)) (part next : List ℕ) (more : List (List ℕ)) (fits : Bool) → length part ≤ 65536
    → lines_then lines (scan_of (part ∷ next ∷ more) fits) ≡ lines_then (lines ++ trimmed part ∷ []) (scan_of (next ∷ more) fits)
one-line lines part next more fits short =
    let parts : List (List ℕ) = part ∷ next ∷ more in
    let fault : line_fault parts fits ≡ line_fault (next ∷ more) fits = rw (le-leb (length part) 65536 short) refl in
    ap₂ (λ ended fault. scan_by lines ended fault parts) (ended-short part next more short) fault
    ∙ ap (λ (ls : List (List ℕ)). record { lines = ls; rest = (scan_of (next ∷ more) fits).rest; fault = line_fault (next ∷ more) fits })
    (sym (append_assoc lines (trimmed part ∷ []) (map trimmed (ended_parts (next ∷ more)))))

-- a part that is too long
too_long : (lines : List (List ℕ)) (part : List ℕ) (more : List (List ℕ)) (fits : Bool) → 65536 < length part
    → lines_then lines (scan_of (part ∷ more) fits) ≡ record { lines = lines; rest = take 65536 part; fault = Some LineTooLong }
too_long lines part more fits long =
    let fault : line_fault (part ∷ more) fits ≡ Some LineTooLong = rw (lt-leb (length part) 65536 long) refl in
    ap₂ (λ ended fault. scan_by lines ended fault (part ∷ more)) (ended-long part more long) fault
    ∙ ap (λ (ls : List (List ℕ)). record { lines = ls; rest = take 65536 part; fault = Some LineTooLong }) (append-nil lines)

-- one part alone
the_last : (lines : List (List ℕ)) (part : List ℕ) (fits : Bool) (fault : Option LineFault) → length part ≤ 65536 → line_fault [] fits ≡ fault
    → lines_then lines (scan_of (part ∷ []) fits) ≡ record { lines = lines; rest = part; fault = fault }
the_last lines part fits fault short e = rw (le-leb (length part) 65536 short, append-nil lines, take_all 65536 part short, e) refl

-- the parts behind a line that was begun, where a byte comes that is no LF
grown : (rest first : List ℕ) (b : ℕ) → (rest ++ b ∷ []) ++ first ≡ rest ++ b ∷ first
grown rest first b = append_assoc rest (b ∷ []) first

-- where a walk comes to from the middle of a line, with room for so many bytes
abbrev fits_in : Walk → List ℕ → Bool
fits_in c bytes = nat_le (c.total + length bytes) (2 ^ 31)

record Comes (c : Walk) (bytes : List ℕ) (room : ℕ) : Type 0 where
  lines : seen (steps c bytes) ≡ lines_then c.lines (scan_of (behind c.rest (parts (take room bytes))) (fits_in c bytes))
  total : (steps c bytes).fault ≡ None → (steps c bytes).total ≡ c.total + length bytes

fits_same : (c next : Walk) (b : ℕ) (bytes : List ℕ) → next.total ≡ c.total + 1 → fits_in next bytes ≡ fits_in c (b ∷ bytes)
fits_same c next b bytes e =
    let same : next.total + length bytes ≡ c.total + length (b ∷ bytes) = omega (arith, e) in
    ap (λ (n : ℕ). nat_le n (2 ^ 31)) same

-- nothing comes
ends : (c : Walk) (room : ℕ) → c.fault ≡ None → length c.rest ≤ 65536 → c.total ≤ 2 ^ 31 → Comes c [] room
ends c room none short le =
    let none_left : 0 ≤ room = omega arith in
    let empty : take room [] ≡ [] = take_all room [] none_left in
    let plain : behind c.rest (parts (take room [])) ≡ c.rest ∷ [] = ap (λ (bytes : List ℕ). behind c.rest (parts bytes)) empty ∙ ap (λ (r : List ℕ). r ∷ []) (append-nil c.rest) in
    let within : c.total + 0 ≤ 2 ^ 31 = omega (arith, le) in
    let fits : fits_in c [] ≡ true = le-leb (c.total + 0) (2 ^ 31) within in
    let last : lines_then c.lines (scan_of (c.rest ∷ []) (fits_in c [])) ≡ record { lines = c.lines; rest = c.rest; fault = None } = the_last c.lines c.rest (fits_in c []) None short (rw fits refl) in
    record {
      lines = rw plain (same_scan c None none ∙ sym last);
      total = λ fault. omega arith;
    }
  where
    same_scan : (c : Walk) (fault : Option LineFault) → c.fault ≡ fault → seen c ≡ record { lines = c.lines; rest = c.rest; fault = fault }
    same_scan c fault e = λ i. record { lines = c.lines; rest = c.rest; fault = e i }

-- a byte comes for which the text has no room
full : (c : Walk) (b : ℕ) (bytes : List ℕ) → c.fault ≡ None → length c.rest ≤ 65536 → c.total ≡ 2 ^ 31 → Comes c (b ∷ bytes) 0
full c b bytes none short is =
    let over : fits_in c (b ∷ bytes) ≡ false = lt-leb (c.total + length (b ∷ bytes)) (2 ^ 31) (omega (arith, is)) in
    let stops : steps c (b ∷ bytes) ≡ record c { fault = Some InputTooLong } =
    rw (next-input c b none (omega (arith, is))) (steps-fault (record c { fault = Some InputTooLong }) InputTooLong
    bytes refl) in
    let last : lines_then c.lines (scan_of (c.rest ∷ []) (fits_in c (b ∷ bytes)))
    ≡ record { lines = c.lines; rest = c.rest; fault = Some InputTooLong } =
    the_last c.lines c.rest (fits_in c (b ∷ bytes)) (Some InputTooLong) short (rw over refl) in
    record {
      lines = rw (append-nil c.rest) (ap seen stops ∙ sym last);
      total = λ fault. absurd (let gone : Some InputTooLong ≡ None = sym (ap (λ (w : Walk). w.fault) stops) ∙ fault in cc);
    }

run : (bytes : List ℕ) (c : Walk) (room : ℕ) → c.fault ≡ None → length c.rest ≤ 65536 → c.total + room ≡ 2 ^ 31 → Comes c bytes room
run [] c room none short e = ends c room none short (omega (arith, e))
run (b ∷ bytes) c zero none short e = full c b bytes none short (omega (arith, e))
run (b ∷ bytes) c (suc room) none short e = by (b == 10) (leb 65536 (length c.rest)) refl refl (has_first (take room bytes)) (λ next. run bytes next room)
  where
    lt : c.total < 2 ^ 31
    lt = omega (arith, e)

    by : (end long : Bool) → (b == 10) ≡ end → leb 65536 (length c.rest) ≡ long → HasFirst (parts (take room bytes))
        → ((next : Walk) → next.fault ≡ None → length next.rest ≤ 65536 → next.total + room ≡ 2 ^ 31 → Comes next bytes room) → Comes c (b ∷ bytes) (suc room)
    by true long p q h go =
        let next : Walk = record { lines = c.lines ++ trimmed c.rest ∷ []; rest = []; total = c.total + 1; fault = None } in
        let more : Comes next bytes room = go next refl (omega arith) (omega (arith, e)) in
        let one : steps c (b ∷ bytes) ≡ steps next bytes = ap (λ (w : Walk). steps w bytes) (next-line c b none lt p) in
        let fits = fits_same c next b bytes refl in
        let cut : behind c.rest (parts (take (suc room) (b ∷ bytes))) ≡ c.rest ∷ h.0 ∷ h.1 = rw (p, h.2, append-nil c.rest) refl in
        let first : lines_then next.lines (scan_of (behind [] (parts (take room bytes))) (fits_in next bytes))
        ≡ lines_then next.lines (scan_of (h.0 ∷ h.1) (fits_in c (b ∷ bytes))) = rw (h.2, fits) refl in
        record {
          lines = rw cut (ap seen one ∙ more.lines ∙ first ∙ sym (one-line c.lines c.rest h.0 h.1 (fits_in c (b ∷ bytes)) short));
          total = λ fault. ap (λ (w : Walk). w.total) one ∙ more.total (sym (ap (λ (w : Walk). w.fault) one) ∙ fault) ∙ omega arith;
        }
    by false true p q h go =
        let le = leb-true 65536 (length c.rest) q in
        let is : length c.rest ≡ 65536 = omega (arith, le, short) in
        let stops : steps c (b ∷ bytes) ≡ record c { fault = Some LineTooLong } = rw (next-long c b none lt p le) (steps-fault (record c { fault = Some LineTooLong }) LineTooLong bytes refl) in
        let cut : behind c.rest (parts (take (suc room) (b ∷ bytes))) ≡ (c.rest ++ b ∷ h.0) ∷ h.1 = rw (p, h.2) refl in
        let front : take 65536 (c.rest ++ b ∷ h.0) ≡ c.rest = take-append-le 65536 c.rest (b ∷ h.0) (omega (arith, is)) ∙ take_all 65536 c.rest short in
        let long = too_long c.lines (c.rest ++ b ∷ h.0) h.1 (fits_in c (b ∷ bytes)) (omega (arith, is, length-append c.rest (b ∷ h.0))) in
        record {
          lines = rw cut (ap seen stops ∙ sym (long ∙ rw front refl));
          total = λ fault. absurd (let gone : Some LineTooLong ≡ None = sym (ap (λ (w : Walk). w.fault) stops) ∙ fault in cc);
        }
    by false false p q h go =
        let lt_line = leb-false 65536 (length c.rest) q in
        let next : Walk = record { lines = c.lines; rest = c.rest ++ b ∷ []; total = c.total + 1; fault = None } in
        let more : Comes next bytes room = go next refl (omega (arith, lt_line, length-append c.rest (b ∷ []))) (omega (arith, e)) in
        let one : steps c (b ∷ bytes) ≡ steps next bytes = ap (λ (w : Walk). steps w bytes) (next-more c b none lt p lt_line) in
        let fits = fits_same c next b bytes refl in
        let cut : behind c.rest (parts (take (suc room) (b ∷ bytes))) ≡ (c.rest ++ b ∷ h.0) ∷ h.1 = rw (p, h.2) refl in
        let first : lines_then next.lines (scan_of (behind next.rest (parts (take room bytes))) (fits_in next bytes))
        ≡ lines_then c.lines (scan_of ((c.rest ++ b ∷ h.0) ∷ h.1) (fits_in c (b ∷ bytes))) =
        rw (h.2, fits, grown c.rest h.0 b) refl in
        record {
          lines = rw cut (ap seen one ∙ more.lines ∙ first);
          total = λ fault. ap (λ (w : Walk). w.total) one ∙ more.total (sym (ap (λ (w : Walk). w.fault) one) ∙ fault) ∙ omega arith;
        }

comes : (text : List ℕ) (room : ℕ) → room ≡ 2 ^ 31 → Comes no_lines text room
comes text room e = run text no_lines room refl (omega arith) (omega (arith, e))

-- no bytes before the parts
behind_none : (parts : List (List ℕ)) → HasFirst parts → behind [] parts ≡ parts
behind_none parts h = rw h.2 refl

pub scan_is : (text : List ℕ) → scan text ≡ seen (walk text)
unfolding scan walk
scan_is text =
    let found = (comes text (2 ^ 31) refl).lines in
    let plain = behind_none (parts_of text) (has_first (take (2 ^ 31) text)) in
    let all : 0 + length text ≡ length text = omega arith in
    sym (found ∙ ap₂ (λ (ps : List (List ℕ)) (n : ℕ). lines_then [] (scan_of ps (nat_le n (2 ^ 31)))) plain all)

pub walk_total : (text : List ℕ) → (walk text).fault ≡ None → (walk text).total ≡ length text
unfolding walk
walk_total text none =
    let all : 0 + length text ≡ length text = omega arith in
    (comes text (2 ^ 31) refl).total none ∙ all
