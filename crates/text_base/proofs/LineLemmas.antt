-- Each line of a text is one line, and short; and so is what is left of one line behind its front.
use Rattle.std.proofs.Common.{◌≡◌, ◌∙◌, ℕ, zero, suc, ◌+◌, ◌-◌, ◌==◌, Bool, true, false, cond, eqb, List, [], ◌∷◌, ◌++◌}
use Rattle.std.proofs.Common.{length, map, take, drop, reverse, Option, Some, None, refl, sym, ap, subst, arith}
use Rattle.std.specs.List.{prefix_len, suffix_len, AllByRecursion}
use Rattle.std.proofs.lemmas.Bool.{eqb-true}
use Rattle.std.proofs.lemmas.List.{append-nil, reverse-append, length-reverse, length-drop, length-take, take_all, take-append-drop}
use Rattle.std.proofs.lemmas.List.Folds.{prefix_len-append}
use Rattle.std.proofs.lemmas.List.Sums.{suffix_len-le-length}
use Rattle.std.proofs.Math.Seq.{drop-append_seam}
use Rattle.text_base.specs.declared.lines.LineFault.{LineFault}
use Rattle.text_base.specs.Cut.{HasNoEnd, IsLine, IsOneLine, IsTextLine, IsText, IsCutBy}
use Rattle.text_base.specs.Lines.{Scan, trimmed, scan, front_of, LinesState, TakesWhole}
use Rattle.text_base.specs.Reading.{lines_of, lines_by, lines_so_far}
use Rattle.text_base.specs.Words.{is_blank, without_blanks}
use Rattle.text_base.proofs.WalkSteps.{no_end-take, parted}
use Rattle.text_base.proofs.CutLemmas.{scan_cut}

-- ---- no LF

pub no_end-drop : (n : ℕ) (bytes : List ℕ) → HasNoEnd bytes → HasNoEnd (drop n bytes)
no_end-drop zero bytes h = h
no_end-drop (suc n) [] h = tt
no_end-drop (suc n) (b ∷ bytes) h = no_end-drop n bytes h.1

no_end-blanks : (bytes : List ℕ) → HasNoEnd bytes → HasNoEnd (without_blanks bytes)
no_end-blanks [] h = tt
no_end-blanks (b ∷ bytes) h = by (is_blank b) (no_end-blanks bytes h.1)
  where
    by : (t : Bool) → HasNoEnd (without_blanks bytes) → HasNoEnd (cond t (without_blanks bytes) (b ∷ bytes))
    by true r = r
    by false r = h

-- ---- no CR at the end

-- the bytes do not end with CR
abbrev pub EndsFree : List ℕ → Type 0
EndsFree bytes = suffix_len (λ b. b == 13) bytes ≡ 0

pub trimmed-free : (bytes : List ℕ) → EndsFree bytes → trimmed bytes ≡ bytes
trimmed-free bytes e = ap (λ (k : ℕ). take (length bytes - k) bytes) e ∙ take_all (length bytes - 0) bytes (omega arith)

none-in-front : (zs : List ℕ) (x : ℕ) (b : Bool) → eqb (prefix_len (λ b. b == 13) zs) (length zs) ≡ b
    → cond b (length zs + prefix_len (λ b. b == 13) (x ∷ [])) (prefix_len (λ b. b == 13) zs) ≡ 0
    → prefix_len (λ b. b == 13) zs ≡ 0
none-in-front zs x true e h = omega (arith, h, eqb-true (prefix_len (λ b. b == 13) zs) (length zs) e)
none-in-front zs x false e h = h

tail-free : (b : ℕ) (bytes : List ℕ) → EndsFree (b ∷ bytes) → EndsFree bytes
tail-free b bytes e =
    none-in-front (reverse bytes) b (eqb (prefix_len (λ b. b == 13) (reverse bytes)) (length (reverse bytes))) refl
    (sym (prefix_len-append (λ b. b == 13) (reverse bytes) (b ∷ [])) ∙ ap (prefix_len (λ b. b == 13)) (sym (reverse-append (b ∷ []) bytes)) ∙ e)

drop-free : (n : ℕ) (bytes : List ℕ) → EndsFree bytes → EndsFree (drop n bytes)
drop-free zero bytes e = e
drop-free (suc n) [] e = e
drop-free (suc n) (b ∷ bytes) e = drop-free n bytes (tail-free b bytes e)

blanks-free : (bytes : List ℕ) → EndsFree bytes → EndsFree (without_blanks bytes)
blanks-free [] e = e
blanks-free (b ∷ bytes) e = by (is_blank b) (blanks-free bytes (tail-free b bytes e))
  where
    by : (t : Bool) → EndsFree (without_blanks bytes) → EndsFree (cond t (without_blanks bytes) (b ∷ bytes))
    by true h = h
    by false h = e

-- what is left of the front is no CR at its end
stops : (zs : List ℕ) → prefix_len (λ b. b == 13) (drop (prefix_len (λ b. b == 13) zs) zs) ≡ 0
stops [] = refl
stops (z ∷ zs) = by (z == 13) refl (stops zs)
  where
    by : (t : Bool) → (z == 13) ≡ t → prefix_len (λ b. b == 13) (drop (prefix_len (λ b. b == 13) zs) zs) ≡ 0
        → prefix_len (λ b. b == 13) (drop (prefix_len (λ b. b == 13) (z ∷ zs)) (z ∷ zs)) ≡ 0
    by true e h =
        let same : 1 + prefix_len (λ b. b == 13) zs ≡ suc (prefix_len (λ b. b == 13) zs) = omega arith in
        rw e (ap (λ k. prefix_len (λ b. b == 13) (drop k (z ∷ zs))) same ∙ h)
    by false e h = rw (e, e) refl

after-front : (a b : List ℕ) (n : ℕ) → length a ≡ n → drop n (a ++ b) ≡ b
after-front a b n e = ap (λ k. drop k (a ++ b)) (sym e) ∙ drop-append_seam a b

free-trimmed : (bytes : List ℕ) → EndsFree (trimmed bytes)
free-trimmed bytes =
    let s = suffix_len (λ b. b == 13) bytes in
    let k = length bytes - s in
    let whole : reverse bytes ≡ reverse (drop k bytes) ++ reverse (take k bytes) = ap reverse (sym (take-append-drop k bytes)) ∙ reverse-append (take k bytes) (drop k bytes) in
    let len : length (reverse (drop k bytes)) ≡ s = omega (arith, suffix_len-le-length (λ b. b == 13) bytes, length-reverse (drop k bytes), length-drop k bytes) in
    let rest : drop s (reverse bytes) ≡ reverse (take k bytes) = ap (drop s) whole ∙ after-front (reverse (drop k bytes)) (reverse (take k bytes)) s len in
    ap (prefix_len (λ b. b == 13)) (sym rest) ∙ stops (reverse bytes)

trimmed-free_of : (bytes : List ℕ) → trimmed bytes ≡ bytes → EndsFree bytes
trimmed-free_of bytes e = subst EndsFree e (free-trimmed bytes)

-- a byte that is no CR ends the bytes
pub last-free : (front : List ℕ) (b : ℕ) → (b == 13) ≡ false → EndsFree (front ++ b ∷ [])
last-free front b e = ap (prefix_len (λ b. b == 13)) (reverse-append front (b ∷ [])) ∙ rw e refl

-- ---- what is left of one line

-- without its first bytes
pub one_line-drop : (n : ℕ) (line : List ℕ) → IsOneLine line → IsOneLine (drop n line)
one_line-drop n line h = record {
  no_end = no_end-drop n line h.no_end;
  no_cr = trimmed-free (drop n line) (drop-free n line (trimmed-free_of line h.no_cr));
}

-- without the blanks at its front
pub one_line-blanks : (line : List ℕ) → IsOneLine line → IsOneLine (without_blanks line)
one_line-blanks line h = record {
  no_end = no_end-blanks line h.no_end;
  no_cr = trimmed-free (without_blanks line) (blanks-free line (trimmed-free_of line h.no_cr));
}

-- ---- the lines of a text

-- bytes without LF, of which the CR bytes at the end are dropped
pub trimmed-line : (bytes : List ℕ) → HasNoEnd bytes → IsOneLine (trimmed bytes)
trimmed-line bytes h = record {
  no_end = no_end-take (length bytes - suffix_len (λ b. b == 13) bytes) bytes h;
  no_cr = trimmed-free (trimmed bytes) (free-trimmed bytes);
}

pub trimmed-text_line : (bytes : List ℕ) → IsLine bytes → IsTextLine (trimmed bytes)
trimmed-text_line bytes h = record {
  one = trimmed-line bytes h.0;
  short = omega (arith, h.1, length-take (length bytes - suffix_len (λ b. b == 13) bytes) bytes);
}

-- a line that lies whole in a piece
pub whole-text_line : (s after : LinesState) (piece line : List ℕ) (n : ℕ) → TakesWhole s piece line n after → IsTextLine line
whole-text_line s after piece line n takes = subst IsTextLine (sym takes.2) (trimmed-text_line (front_of piece) ((parted piece).3, takes.5))

all-trimmed : (raw : List (List ℕ)) → AllByRecursion IsLine raw → AllByRecursion IsTextLine (map trimmed raw)
all-trimmed [] h = tt
all-trimmed (bytes ∷ raw) h = (trimmed-text_line bytes h.0, all-trimmed raw h.1)

all-more : (lines : List (List ℕ)) (line : List ℕ) → AllByRecursion IsTextLine lines → IsTextLine line → AllByRecursion IsTextLine (lines ++ line ∷ [])
all-more [] line h k = (k, tt)
all-more (l ∷ lines) line h k = (h.0, all-more lines line h.1 k)

of-text : (text : List ℕ) (lines : List (List ℕ)) (rest : List ℕ) → IsText text lines rest → AllByRecursion IsTextLine lines
of-text text lines rest h = subst (AllByRecursion IsTextLine) (sym h.dropped) (all-trimmed h.raw h.each)

with-rest : (lines : List (List ℕ)) (rest : List ℕ) → AllByRecursion IsTextLine lines → IsLine rest → (b : Bool) → AllByRecursion IsTextLine (lines ++ cond b [] (trimmed rest ∷ []))
with-rest lines rest all h true = subst (AllByRecursion IsTextLine) (sym (append-nil lines)) all
with-rest lines rest all h false = all-more lines (trimmed rest) all (trimmed-text_line rest h)

of-cut : (text : List ℕ) (c : Scan) (o : Option LineFault) → IsCutBy o text c.lines c.rest → AllByRecursion IsTextLine (lines_by o c)
of-cut text c None h = with-rest c.lines c.rest (of-text text c.lines c.rest h) h.last (length c.rest == 0)
of-cut text c (Some fault) h = of-text h.0 c.lines c.rest h.4

so_far : (text : List ℕ) (c : Scan) (o : Option LineFault) → IsCutBy o text c.lines c.rest → AllByRecursion IsTextLine c.lines
so_far text c None h = of-text text c.lines c.rest h
so_far text c (Some fault) h = of-text h.0 c.lines c.rest h.4

pub lines_of-lines : (text : List ℕ) → AllByRecursion IsTextLine (lines_of text)
unfolding lines_of
lines_of-lines text = of-cut text (scan text) (scan text).fault (scan_cut text)

pub lines_so_far-lines : (text : List ℕ) → AllByRecursion IsTextLine (lines_so_far text)
unfolding lines_so_far
lines_so_far-lines text = so_far text (scan text) (scan text).fault (scan_cut text)
