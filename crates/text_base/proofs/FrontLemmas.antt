-- Lines that stand one after another, each with its LF, and a reader that goes on by them.
use Rattle.std.proofs.Common.{◌≡◌, ◌∙◌, ℕ, ◌+◌, ◌≤◌, ◌^◌, List, [], ◌∷◌, ◌++◌, length, take, drop, None, refl, sym, ap, ap₂, arith, append_assoc, length-drop, take-append-drop}
use Rattle.std.proofs.lemmas.List.{append-nil, length-append, length-take, take-take}
use Rattle.std.proofs.Math.Seq.{take-append_seam, take-append-add}
use Rattle.std.proofs.lemmas.Grind.{flat_map-append}
use Rattle.std.proofs.lemmas.List.Sums.{fold-append}
use Rattle.std.specs.List.{AllByRecursion}
use Rattle.text_base.specs.declared.grammar.Front.{Front}
use Rattle.text_base.specs.Cut.{IsTextLine, ended_lines}
use Rattle.text_base.specs.Fronts.{IsFront, TakesFront, after_front}
use Rattle.text_base.specs.Judged.{Rules}
use Rattle.text_base.specs.Lines.{LinesState, StandsFor, scan, trimmed}
use Rattle.text_base.specs.Reading.{IsGoing}
use Rattle.text_base.proofs.AllLemmas.{all_append}
use Rattle.text_base.proofs.Walk.{Walk, Keeps, next_byte, steps, walk}
use Rattle.text_base.proofs.WalkScan.{scan_is}
use Rattle.text_base.proofs.WalkSteps.{steps-line}
use Rattle.text_base.proofs.ScanLemmas.{kept, stands_more, scan-append}

-- ---- the lines of a text

pub steps-written : (lines : List (List ℕ)) (c : Walk) → c.fault ≡ None → c.rest ≡ [] → AllByRecursion IsTextLine lines → c.total + length (ended_lines lines) ≤ 2 ^ 31
    → ((steps c (ended_lines lines)).lines ≡ c.lines ++ lines) × ((steps c (ended_lines lines)).rest ≡ []) × ((steps c (ended_lines lines)).fault ≡ None)
    × ((steps c (ended_lines lines)).total ≡ c.total + length (ended_lines lines))
steps-written [] c none empty all room = (sym (append-nil c.lines), empty, none, omega arith)
steps-written (line ∷ lines) c none empty all room =
    let len : length (ended_lines (line ∷ lines)) ≡ (length line + 1) + length (ended_lines lines) =
    length-append (line ++ 10 ∷ []) (ended_lines lines) ∙ ap (λ (n : ℕ). n + length (ended_lines lines))
    (length-append line (10 ∷ [])) in
    let short : length c.rest + length line ≤ 65536 = rw empty (let fits : length line ≤ 65536 = all.0.short in omega arith) in
    let one = steps-line c line 10 none all.0.one.no_end refl short (omega arith) in
    let next : Walk = record { lines = c.lines ++ trimmed (c.rest ++ line) ∷ []; rest = []; total = (c.total + length line) + 1; fault = None } in
    let more = steps-written lines next refl refl all.1 (omega arith) in
    let all_steps : steps c (ended_lines (line ∷ lines)) ≡ steps next (ended_lines lines) =
    fold-append next_byte c (line ++ 10 ∷ []) (ended_lines lines)
    ∙ ap (λ (s : Walk). steps s (ended_lines lines)) one in
    let same : trimmed (c.rest ++ line) ≡ line = rw empty all.0.one.no_cr in
    let grown : next.lines ++ lines ≡ c.lines ++ line ∷ lines = append_assoc c.lines (trimmed (c.rest ++ line) ∷ []) lines ∙ ap (λ (l : List ℕ). c.lines ++ l ∷ lines) same in
    rw all_steps (more.0 ∙ grown, more.1, more.2, omega (arith, more.3, len))

pub few_lines : (lines : List (List ℕ)) → length lines ≤ length (ended_lines lines)
few_lines [] = omega arith
few_lines (line ∷ lines) = omega (arith, few_lines lines, length-append (line ++ 10 ∷ []) (ended_lines lines), length-append line (10 ∷ []))

-- ---- a front of a piece

front_len : (piece : List ℕ) (front : Front) (lines : List (List ℕ)) → IsFront piece front lines → front.len ≡ length (ended_lines lines)
front_len piece front lines h = omega (arith, h.within, length-take front.len piece, ap length h.text)

pub front_few : (piece : List ℕ) (front : Front) (lines : List (List ℕ)) → IsFront piece front lines → front.lines ≤ front.len
front_few piece front lines h = omega (arith, h.count, front_len piece front lines h, few_lines lines)

-- a front of a piece's front is one of the piece
pub front_of_front : (n : ℕ) (piece : List ℕ) (front : Front) (lines : List (List ℕ)) → IsFront (take n piece) front lines → IsFront piece front lines
front_of_front n piece front lines h =
    let within : front.len ≤ n = omega (arith, h.within, length-take n piece) in
    record {
      within = omega (arith, h.within, length-take n piece);
      text = sym (take-take front.len n piece within) ∙ h.text;
      each = h.each;
      count = h.count;
    }

-- ---- fronts put together

pub front_one : (text line more : List ℕ) (len : ℕ) → text ≡ (line ++ 10 ∷ []) ++ more → len ≡ length line + 1 → IsTextLine line → IsFront text (record { len = len; lines = 1 }) (line ∷ [])
front_one text line more len parts is one =
    let whole : length (line ++ 10 ∷ []) ≡ len = omega (arith, is, length-append line (10 ∷ [])) in
    let front : take len text ≡ line ++ 10 ∷ [] = ap (take len) parts ∙ ap (λ k. take k ((line ++ 10 ∷ []) ++ more)) (sym whole) ∙ take-append_seam (line ++ 10 ∷ []) more in
    record {
      within = omega (arith, whole, ap length parts, length-append (line ++ 10 ∷ []) more);
      text = front ∙ sym (append-nil (line ++ 10 ∷ []));
      each = (one, tt);
      count = refl;
    }

pub front_joined : (piece : List ℕ) (f g : Front) (xs ys : List (List ℕ)) → IsFront piece f xs
    → IsFront (drop f.len piece) g ys → IsFront piece (record { len = f.len + g.len; lines = f.lines + g.lines })
    (xs ++ ys)
front_joined piece f g xs ys h k =
    let size : length (take f.len piece) ≡ f.len = omega (arith, h.within, length-take f.len piece) in
    let both : take (f.len + g.len) piece ≡ take f.len piece ++ take g.len (drop f.len piece) =
    ap (take (f.len + g.len)) (sym (take-append-drop f.len piece)) ∙ ap (λ (n : ℕ). take (n + g.len) (take f.len piece ++ drop f.len piece)) (sym size)
    ∙ take-append-add (take f.len piece) (drop f.len piece) g.len in
    record {
      within = omega (arith, h.within, k.within, length-drop f.len piece);
      text = both ∙ ap₂ (λ (a b : List ℕ). a ++ b) h.text k.text ∙ sym (flat_map-append (λ line. line ++ 10 ∷ []) xs ys);
      each = all_append IsTextLine xs ys h.each k.each;
      count = omega (arith, h.count, k.count, length-append xs ys);
    }

-- ---- a reader

fronted : (s : LinesState) (front : Front) (piece text : List ℕ) (lines : List (List ℕ)) → s.fault ≡ None → s.rest ≡ [] → s.total + front.len ≤ 2 ^ 31 → IsFront piece front lines → StandsFor text s
    → StandsFor (text ++ take front.len piece) (after_front s front) × ((scan (text ++ take front.len piece)).lines ≡ (scan text).lines ++ lines)
fronted s front piece text lines none empty room h k =
    let len = front_len piece front lines h in
    let at = kept text s k in
    let fits : (walk text).total + length (ended_lines lines) ≤ 2 ^ 31 = omega (arith, at.total none) in
    let w = steps-written lines (walk text) (sym at.fault ∙ none) (sym (at.rest none) ∙ empty) h.each fits in
    let moved : steps (walk text) (take front.len piece) ≡ steps (walk text) (ended_lines lines) = ap (steps (walk text)) h.text in
    let keeps : Keeps (steps (walk text) (take front.len piece)) (after_front s front) =
    rw moved (record {
      count = omega (arith, at.count, h.count, ap length w.0, length-append (walk text).lines lines);
      fault = none ∙ sym w.2;
      rest = λ _. empty ∙ sym w.1;
      total = λ _. omega (arith, at.total none, w.3, len);
      awaits = λ fault is. refl;
    }) in (
      stands_more text (take front.len piece) (after_front s front) keeps,
      ap (λ c. c.lines) (scan-append text (take front.len piece)) ∙ ap (λ (c : Walk). c.lines) moved ∙ w.0
          ∙ ap (λ ls. ls ++ lines) (sym (ap (λ c. c.lines) (scan_is text))),
    )

pub going-front : {R : Type 0} (rules : Rules R) (took now : List (List ℕ) → Type 0) (s : LinesState) (number : ℕ)
    (front : Front) (n : ℕ) (piece text : List ℕ) → s.fault ≡ None → s.rest ≡ [] → number ≡ s.count + 1
    → s.total + front.len ≤ 2 ^ 31 → TakesFront rules took now (take n piece) number front → IsGoing rules took s text → IsGoing rules now (after_front s front) (text ++ take front.len piece)
going-front rules took now s number front n piece text none empty next room h g =
    let f = fronted s front piece text h.lines none empty room (front_of_front n piece front h.lines h.is) g.split in
    let place : number ≡ length (scan text).lines + 1 = next ∙ ap (λ (k : ℕ). k + 1) g.split.count in
    record {
      split = f.0;
      none = none;
      clean = rw f.1 (h.clean (scan text).lines place g.taken g.clean);
      taken = rw f.1 (h.taken (scan text).lines place g.taken);
    }
