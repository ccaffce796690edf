-- What a reader of lines stands for goes on with each piece.
use Rattle.std.proofs.Common.{◌≡◌, ◌∙◌, ℕ, ◌+◌, ◌-◌, ◌<◌, ◌≤◌, ◌^◌, List, [], ◌∷◌, ◌++◌, length, take, true, false, refl, sym, ap, arith, subst, append_assoc}
use Rattle.std.specs.Prelude.{◌==◌, IfSome, MatchOption}
use Rattle.std.proofs.lemmas.List.{length-append, take-append-le, length-take}
use Rattle.std.proofs.Math.Seq.{take-append-add}
use Rattle.std.specs.declared.option.Option.{Option}
use Rattle.std.specs.declared.option.Option.TheVariants.{None, Some}
use Rattle.text_base.specs.declared.lines.LineFault.{LineFault}
use Rattle.text_base.specs.declared.lines.LineFault.TheVariants.{LineTooLong, InputTooLong}
use Rattle.text_base.specs.declared.lines.Taken.{Taken}
use Rattle.text_base.specs.declared.lines.Taken.TheVariants.{Line, More, Fault}
use Rattle.text_base.specs.Cut.{HasNoEnd}
use Rattle.text_base.specs.Lines.{trimmed, Scan, scan, LinesState, new_state, StandsFor, GoesOn, taken_of, front_of, TakesMore, TakesLine, Faulted, TakesNow, TakesBy, TakesPiece, TakesWhole, EndsLine}
use Rattle.text_base.proofs.Walk.{Walk, steps, walk, seen, Keeps}
use Rattle.text_base.proofs.WalkSteps.{walk-append, next-input, next-long, steps-fault, steps-more, steps-line, steps-stop, steps-lines, IsBack, parted, from, no_end-take}
use Rattle.text_base.proofs.WalkScan.{scan_is, walk_total}

-- what taking a piece leaves stands for the lines with the piece
abbrev Follows : Walk → List ℕ → Taken → LinesState → Type 0
Follows c bytes taken s = Keeps (steps c bytes) s × GoesOn (seen c) (seen (steps c bytes)) taken s

follows-more : (c : Walk) (s after : LinesState) (piece : List ℕ) → s.fault ≡ None → Keeps c s → TakesMore s piece after → Follows c piece More after
follows-more c s after piece e k takes =
    let p = parted piece in
    let none : c.fault ≡ None = sym k.fault ∙ e in
    let plain : HasNoEnd piece = subst HasNoEnd takes.0 p.3 in
    let h = steps-more c piece none plain (rw (← k.rest e) takes.1) (rw (← k.total e) takes.2) in
    rw (h, takes.3) (
      record {
        count = k.count;
        fault = e;
        rest = λ _. ap (λ (r : List ℕ). r ++ piece) (k.rest e);
        total = λ _. ap (λ (n : ℕ). n + length piece) (k.total e);
        awaits = λ fault is. refl;
      },
      (refl, refl),
    )

ends_with : (back : List ℕ) → IsBack back → 0 < length back → (b : ℕ) × (more : List ℕ) × (back ≡ b ∷ more) × ((b == 10) ≡ true)
ends_with [] is lt = absurd (omega arith)
ends_with (b ∷ more) is lt = (b, more, refl, is)

take_front : (xs : List ℕ) (b : ℕ) (more : List ℕ) → take (length xs + 1) (xs ++ b ∷ more) ≡ xs ++ b ∷ []
take_front xs b more = take-append-add xs (b ∷ more) 1

follows-line : (c : Walk) (s after : LinesState) (piece : List ℕ) (n : ℕ) → s.fault ≡ None → Keeps c s → TakesLine s piece n after → Follows c (take n piece) (Line n) after
follows-line c s after piece n e k takes =
    let p = parted piece in
    let none : c.fault ≡ None = sym k.fault ∙ e in
    let back = ends_with p.0 p.2 (omega (arith, takes.0, takes.1, ap length p.1, length-append (front_of piece) p.0)) in
    let taken : take n piece ≡ front_of piece ++ back.0 ∷ [] =
    ap (λ k. take k piece) takes.0 ∙ ap (take (length (front_of piece) + 1))
    (p.1 ∙ ap (λ (x : List ℕ). front_of piece ++ x) back.2) ∙ take_front (front_of piece) back.0 back.1 in
    let room : c.total + length (front_of piece) < 2 ^ 31 = omega (arith, takes.0, takes.3, k.total e) in
    let h = steps-line c (front_of piece) back.0 none p.3 back.3 (rw (← k.rest e) takes.2) room in
    rw (taken, h, takes.4) (
      record {
        count = omega (arith, k.count, length-append c.lines (trimmed (c.rest ++ front_of piece) ∷ []));
        fault = e;
        rest = λ _. refl;
        total = λ _. omega (arith, takes.0, k.total e);
        awaits = λ fault is. absurd (cc (is, e));
      },
      (refl, (trimmed (c.rest ++ front_of piece), ap (λ (r : List ℕ). Some (trimmed (r ++ front_of piece))) (k.rest e), refl)),
    )

-- bytes of the piece that are in the line, and then one that is not
abbrev StopsAt : List ℕ → ℕ → Type 0
StopsAt piece k = (b : ℕ) × (more : List ℕ) × (piece ≡ take k piece ++ b ∷ more) × HasNoEnd (take k piece)

stops-front : (piece : List ℕ) (k : ℕ) → k < length (front_of piece) → (b : ℕ) × (more : List ℕ) × (piece ≡ take k piece ++ b ∷ more) × HasNoEnd (take k piece) × ((b == 10) ≡ false)
stops-front piece k lt =
    let p = parted piece in
    let f = from (front_of piece) k lt in
    let same : take k piece ≡ take k (front_of piece) = ap (take k) p.1 ∙ take-append-le k (front_of piece) p.0 (omega arith) in
    let whole : piece ≡ take k (front_of piece) ++ f.0 ∷ (f.1 ++ p.0) = p.1 ∙ ap (λ (x : List ℕ). x ++ p.0) f.2 ∙ append_assoc (take k (front_of piece)) (f.0 ∷ f.1) p.0 in
    (f.0, f.1 ++ p.0, whole ∙ ap (λ (x : List ℕ). x ++ f.0 ∷ (f.1 ++ p.0)) (sym same), subst HasNoEnd (sym same) (no_end-take k (front_of piece) p.3), f.3 p.3)

stops-piece : (piece : List ℕ) (k : ℕ) → k < length piece → k ≤ length (front_of piece) → StopsAt piece k
stops-piece piece k lt le =
    let p = parted piece in
    let f = from piece k lt in
    let same : take k piece ≡ take k (front_of piece) = ap (take k) p.1 ∙ take-append-le k (front_of piece) p.0 le in
    (f.0, f.1, f.2, subst HasNoEnd (sym same) (no_end-take k (front_of piece) p.3))

stopped : (c : Walk) (s after : LinesState) (piece more : List ℕ) (fault : LineFault) → Keeps c s → after.fault ≡ Some fault → after.count ≡ s.count → after.line ≡ None
    → (rest : List ℕ) (total : ℕ) → steps c piece ≡ record { lines = c.lines; rest = rest; total = total; fault = Some fault } → Follows c piece (Fault fault) after
stopped c s after piece more fault k is same awaits rest total h =
    rw h (record { count = same ∙ k.count; fault = is; rest = λ none. absurd (cc (is, none)); total = λ none. absurd (cc (is, none)); awaits = λ f e. awaits }, (refl, refl, awaits))

follows-fault : (fault : LineFault) (c : Walk) (s after : LinesState) (piece : List ℕ) → s.fault ≡ None → Keeps c s → Faulted fault s piece after → Follows c piece (Fault fault) after
follows-fault LineTooLong c s after piece e k takes =
    let none : c.fault ≡ None = sym k.fault ∙ e in
    let at : ℕ = 65536 - length s.rest in
    let long = takes.0 in
    let f = stops-front piece at (omega arith) in
    let len : length (take at piece) ≡ at = omega (arith, length-take at piece, ap length f.2, length-append (take at piece) (f.0 ∷ f.1)) in
    let rest : length c.rest ≡ length s.rest = ap length (sym (k.rest e)) in
    let total : c.total ≡ s.total = sym (k.total e) in
    let full : length (c.rest ++ take at piece) ≡ 65536 = omega (arith, length-append c.rest (take at piece)) in
    let next : Walk = record { lines = c.lines; rest = c.rest ++ take at piece; total = c.total + length (take at piece); fault = None } in
    let h = steps-stop c (take at piece) f.0 f.1 LineTooLong none f.3 (omega arith) (omega arith) (next-long next f.0 refl (omega arith) f.4 (omega arith)) in
    stopped c s after piece f.1 LineTooLong k (ap (λ (x : LinesState). x.fault) takes.1) (ap (λ (x : LinesState). x.count) takes.1) (ap (λ (x : LinesState). x.line) takes.1) _ _ (ap (steps c) f.2 ∙ h)
follows-fault InputTooLong c s after piece e k takes =
    let none : c.fault ≡ None = sym k.fault ∙ e in
    let at : ℕ = 2 ^ 31 - s.total in
    let long = takes.0 in
    let f = stops-piece piece at (omega arith) (omega arith) in
    let len : length (take at piece) ≡ at = omega (arith, length-take at piece, ap length f.2, length-append (take at piece) (f.0 ∷ f.1)) in
    let rest : length c.rest ≡ length s.rest = ap length (sym (k.rest e)) in
    let total : c.total ≡ s.total = sym (k.total e) in
    let next : Walk = record { lines = c.lines; rest = c.rest ++ take at piece; total = c.total + length (take at piece); fault = None } in
    let h = steps-stop c (take at piece) f.0 f.1 InputTooLong none f.3 (omega arith) (omega arith) (next-input next f.0 refl (omega arith)) in
    stopped c s after piece f.1 InputTooLong k (ap (λ (x : LinesState). x.fault) takes.1)
    (ap (λ (x : LinesState). x.count) takes.1) (ap (λ (x : LinesState). x.line) takes.1) _ _ (ap (steps c) f.2 ∙ h)

follows-again : (c : Walk) (s after : LinesState) (piece : List ℕ) (fault : LineFault) → s.fault ≡ Some fault → Keeps c s → after ≡ s → Follows c piece (Fault fault) after
follows-again c s after piece fault e k same =
    let is : c.fault ≡ Some fault = sym k.fault ∙ e in
    rw (steps-fault c fault piece is, same) (k, (is, refl, k.awaits fault e))

follows-now : (c : Walk) (s after : LinesState) (piece : List ℕ) (taken : Taken) → s.fault ≡ None → Keeps c s → TakesNow s piece taken after → Follows c (taken_of taken piece) taken after
follows-now c s after piece (Line n) e k takes = follows-line c s after piece n e k takes
follows-now c s after piece More e k takes = follows-more c s after piece e k takes
follows-now c s after piece (Fault fault) e k takes = follows-fault fault c s after piece e k takes

follows-by : (o : Option LineFault) (c : Walk) (s after : LinesState) (piece : List ℕ) (taken : Taken) → s.fault ≡ o
    → Keeps c s → TakesBy o s piece taken after → Follows c (taken_of taken piece) taken after
follows-by None c s after piece taken e k takes = follows-now c s after piece taken e k takes
follows-by (Some fault) c s after piece taken e k takes = rw takes.0 (follows-again c s after piece fault e k takes.1)

-- ---- a text

pub scan-append : (text more : List ℕ) → scan (text ++ more) ≡ seen (steps (walk text) more)
scan-append text more = scan_is (text ++ more) ∙ ap seen (walk-append text more)

-- a reader that stands for a text is where the walk over it is
pub kept : (text : List ℕ) (s : LinesState) → StandsFor text s → Keeps (walk text) s
kept text s h =
    let is = scan_is text in
    let fault : s.fault ≡ (walk text).fault = h.fault ∙ ap (λ (c : Scan). c.fault) is in
    record {
      count = h.count ∙ ap (λ (c : Scan). length c.lines) is;
      fault = fault;
      rest = λ none. h.rest none ∙ ap (λ (c : Scan). c.rest) is;
      total = λ none. h.total none ∙ sym (walk_total text (sym fault ∙ none));
      awaits = h.awaits;
    }

pub stands_more : (text more : List ℕ) (s : LinesState) → Keeps (steps (walk text) more) s → StandsFor (text ++ more) s
stands_more text more s h =
    let is = sym (scan-append text more) in
    let same = walk-append text more in
    record {
      count = h.count ∙ ap (λ (c : Scan). length c.lines) is;
      fault = h.fault ∙ ap (λ (c : Scan). c.fault) is;
      rest = λ none. h.rest none ∙ ap (λ (c : Scan). c.rest) is;
      total = λ none. h.total none ∙ ap (λ (c : Walk). c.total) (sym same) ∙ walk_total (text ++ more) (ap (λ (c : Walk). c.fault) same ∙ sym h.fault ∙ none);
      awaits = h.awaits;
    }

-- a reader of lines that stood for a text stands for it with what was taken
pub taken_text : (s after : LinesState) (piece text : List ℕ) (taken : Taken) → TakesPiece s piece taken after → StandsFor text s → StandsFor (text ++ taken_of taken piece) after
taken_text s after piece text taken takes stands = stands_more text (taken_of taken piece) after (follows-by s.fault (walk text) s after piece taken refl (kept text s stands) takes).0

pub taken_lines : (s after : LinesState) (piece text : List ℕ) (taken : Taken) → TakesPiece s piece taken after
    → StandsFor text s → GoesOn (scan text) (scan (text ++ taken_of taken piece)) taken after
taken_lines s after piece text taken takes stands = rw (scan-append text (taken_of taken piece), scan_is text) (follows-by s.fault (walk text) s after piece taken refl (kept text s stands) takes).1

-- ---- a line that lies whole in a piece

abbrev given_line : Option (List ℕ) → List ℕ
given_line None = []
given_line (Some line) = line

pub match_some : {A : Type 0} (N : Type 0) (P Q : A → Type 0) (o : Option A) → MatchOption o N P → ((a : A) → P a → Q a) → IfSome o Q
match_some N P Q None h f = tt
match_some N P Q (Some a) h f = f a h

-- the reader, had it copied the line
abbrev copied : LinesState → List ℕ → ℕ → LinesState
copied s piece n = record s { count = s.count + 1; rest = []; line = Some (trimmed (s.rest ++ front_of piece)); total = s.total + n }

follows-whole : (c : Walk) (s after : LinesState) (piece line : List ℕ) (n : ℕ) → Keeps c s → TakesWhole s piece line n after → Follows c (take n piece) (Line n) (copied s piece n)
follows-whole c s after piece line n k takes =
    let short : length s.rest + length (front_of piece) ≤ 65536 = omega (arith, ap length takes.1, takes.5) in
    follows-line c s (copied s piece n) piece n takes.0 k (takes.3, takes.4, short, takes.6, refl)

pub whole_text : (s after : LinesState) (piece line text : List ℕ) (n : ℕ) → TakesWhole s piece line n after → StandsFor text s → StandsFor (text ++ take n piece) after
whole_text s after piece line text n takes stands =
    let f = follows-whole (walk text) s after piece line n (kept text s stands) takes in
    rw takes.7 (stands_more text (take n piece) _ (record {
      count = f.0.count;
      fault = f.0.fault;
      rest = λ none. takes.1 ∙ f.0.rest none;
      total = f.0.total;
      awaits = λ fault is. refl;
    }))

pub whole_line : (s after : LinesState) (piece line text : List ℕ) (n : ℕ) → TakesWhole s piece line n after → StandsFor text s → EndsLine (scan text) (scan (text ++ take n piece)) line
whole_line s after piece line text n takes stands =
    let f = follows-whole (walk text) s after piece line n (kept text s stands) takes in
    let same : f.1.1.0 ≡ line = sym (ap given_line f.1.1.1) ∙ ap (λ (r : List ℕ). trimmed (r ++ front_of piece)) takes.1 ∙ sym takes.2 in
    rw (scan-append text (take n piece), scan_is text) (f.1.0, f.1.1.2 ∙ ap (λ (l : List ℕ). (walk text).lines ++ l ∷ []) same)

pub stands_new : (rest : List ℕ) → rest ≡ [] → StandsFor [] (record new_state { rest = rest })
unfolding scan
stands_new rest e = record { count = refl; fault = refl; rest = λ _. e; total = λ _. refl; awaits = λ fault is. refl }

-- ---- the lines stay, whatever comes

pub scan-lines : (text more : List ℕ) → (others : List (List ℕ)) × ((scan (text ++ more)).lines ≡ (scan text).lines ++ others)
scan-lines text more = rw (scan-append text more, scan_is text) (steps-lines (walk text) more)

-- after a fault nothing changes
pub scan-fault : (text more : List ℕ) (f : LineFault) → (scan text).fault ≡ Some f → scan (text ++ more) ≡ scan text
scan-fault text more f e =
    let is : (walk text).fault ≡ Some f = sym (ap (λ (s : Scan). s.fault) (scan_is text)) ∙ e in
    scan-append text more ∙ ap seen (steps-fault (walk text) f more is) ∙ sym (scan_is text)
