-- How a walk over a text goes on, byte by byte.
use Rattle.std.proofs.Common.{◌≡◌, ◌∙◌, ℕ, zero, suc, ◌+◌, ◌-◌, ◌<◌, ◌≤◌, ◌^◌, List, [], ◌∷◌, ◌++◌, length, take, Bool, true, false, not, leb, refl, sym, ap, arith, subst, append_assoc}
use Rattle.std.specs.Prelude.{◌==◌, is_some, if◌then◌else◌}
use Rattle.std.proofs.lemmas.List.{append-nil, length-append}
use Rattle.std.proofs.Math.Seq.{take-append_seam}
use Rattle.std.proofs.lemmas.List.Sums.{fold-append, take_while-cons}
use Rattle.std.specs.declared.option.Option.{Option}
use Rattle.std.specs.declared.option.Option.TheVariants.{None, Some}
use Rattle.std.proofs.lemmas.Bool.{le-leb, lt-leb}
use Rattle.text_base.specs.declared.lines.LineFault.{LineFault}
use Rattle.text_base.specs.declared.lines.LineFault.TheVariants.{LineTooLong, InputTooLong}
use Rattle.text_base.specs.Cut.{HasNoEnd}
use Rattle.text_base.specs.Lines.{trimmed, front_of}
use Rattle.text_base.proofs.Walk.{Walk, no_lines, next_byte, steps, walk}

pub walk-append : (text more : List ℕ) → walk (text ++ more) ≡ steps (walk text) more
unfolding walk
walk-append text more = fold-append next_byte no_lines text more

-- ---- one byte

pub next-fault : (c : Walk) (f : LineFault) (b : ℕ) → c.fault ≡ Some f → next_byte c b ≡ c
unfolding next_byte
next-fault c f b e = rw e refl

pub next-input : (c : Walk) (b : ℕ) → c.fault ≡ None → 2 ^ 31 ≤ c.total → next_byte c b ≡ record c { fault = Some InputTooLong }
unfolding next_byte
next-input c b e h = rw (e, le-leb (2 ^ 31) c.total h) refl

pub next-line : (c : Walk) (b : ℕ) → c.fault ≡ None → c.total < 2 ^ 31 → (b == 10) ≡ true
    → next_byte c b ≡ record { lines = c.lines ++ trimmed c.rest ∷ []; rest = []; total = c.total + 1; fault = None }
unfolding next_byte
next-line c b e h n = rw (e, lt-leb (2 ^ 31) c.total h, n) refl

pub next-long : (c : Walk) (b : ℕ) → c.fault ≡ None → c.total < 2 ^ 31 → (b == 10) ≡ false → 65536 ≤ length c.rest → next_byte c b ≡ record c { fault = Some LineTooLong }
unfolding next_byte
next-long c b e h n l = rw (e, lt-leb (2 ^ 31) c.total h, n, le-leb 65536 (length c.rest) l) refl

pub next-more : (c : Walk) (b : ℕ) → c.fault ≡ None → c.total < 2 ^ 31 → (b == 10) ≡ false → length c.rest < 65536
    → next_byte c b ≡ record { lines = c.lines; rest = c.rest ++ b ∷ []; total = c.total + 1; fault = None }
unfolding next_byte
next-more c b e h n l = rw (e, lt-leb (2 ^ 31) c.total h, n, lt-leb 65536 (length c.rest) l) refl

-- ---- several bytes

pub steps-fault : (c : Walk) (f : LineFault) (bytes : List ℕ) → c.fault ≡ Some f → steps c bytes ≡ c
steps-fault c f [] e = refl
steps-fault c f (b ∷ bytes) e = rw (next-fault c f b e) (steps-fault c f bytes e)

same_walk : (a b : Walk) → a.lines ≡ b.lines → a.rest ≡ b.rest → a.total ≡ b.total → a.fault ≡ b.fault → a ≡ b
same_walk a b p q r s = λ i. record { lines = p i; rest = q i; total = r i; fault = s i }

-- bytes of a line
pub steps-more : (c : Walk) (bytes : List ℕ) → c.fault ≡ None → HasNoEnd bytes → length c.rest + length bytes ≤ 65536 → c.total + length bytes ≤ 2 ^ 31
    → steps c bytes ≡ record { lines = c.lines; rest = c.rest ++ bytes; total = c.total + length bytes; fault = None }
steps-more c [] e n l t = same_walk _ _ refl (sym (append-nil c.rest)) (omega arith) e
steps-more c (b ∷ bytes) e n l t =
    let one = next-more c b e (omega arith) n.0 (omega arith) in
    let next : Walk = record { lines = c.lines; rest = c.rest ++ b ∷ []; total = c.total + 1; fault = None } in
    let more = steps-more next bytes refl n.1 (omega (arith, length-append c.rest (b ∷ []))) (omega arith) in
    rw one (more ∙ same_walk _ _ refl (append_assoc c.rest (b ∷ []) bytes) (omega arith) refl)

-- bytes up to a line end
pub steps-line : (c : Walk) (bytes : List ℕ) (b : ℕ) → c.fault ≡ None → HasNoEnd bytes → (b == 10) ≡ true → length c.rest + length bytes ≤ 65536 → c.total + length bytes < 2 ^ 31
    → steps c (bytes ++ b ∷ []) ≡ record { lines = c.lines ++ trimmed (c.rest ++ bytes) ∷ []; rest = []; total = (c.total + length bytes) + 1; fault = None }
steps-line c bytes b e n is l t =
    let more = steps-more c bytes e n l (omega arith) in
    let next : Walk = record { lines = c.lines; rest = c.rest ++ bytes; total = c.total + length bytes; fault = None } in
    fold-append next_byte c bytes (b ∷ []) ∙ ap (λ (s : Walk). steps s (b ∷ [])) more ∙ next-line next b refl t is

-- bytes up to one that is a fault
pub steps-stop : (c : Walk) (bytes : List ℕ) (b : ℕ) (more : List ℕ) (f : LineFault) → c.fault ≡ None → HasNoEnd bytes → length c.rest + length bytes ≤ 65536 → c.total + length bytes ≤ 2 ^ 31
    → next_byte (record { lines = c.lines; rest = c.rest ++ bytes; total = c.total + length bytes; fault = None }) b
    ≡ record { lines = c.lines; rest = c.rest ++ bytes; total = c.total + length bytes; fault = Some f }
    → steps c (bytes ++ b ∷ more) ≡ record { lines = c.lines; rest = c.rest ++ bytes; total = c.total + length bytes; fault = Some f }
steps-stop c bytes b more f e n l t h =
    let plain = steps-more c bytes e n l t in
    fold-append next_byte c bytes (b ∷ more) ∙ ap (λ (s : Walk). steps s (b ∷ more)) plain ∙ ap (λ (s : Walk). steps s more) h ∙ steps-fault _ f more refl

-- ---- a piece

front_end : (b : ℕ) (piece : List ℕ) → (b == 10) ≡ true → front_of (b ∷ piece) ≡ []
front_end b piece e = take_while-cons (λ x. not (x == 10)) b piece ∙ rw e refl

front_more : (b : ℕ) (piece : List ℕ) → (b == 10) ≡ false → front_of (b ∷ piece) ≡ b ∷ front_of piece
front_more b piece e = take_while-cons (λ x. not (x == 10)) b piece ∙ rw e refl

-- nothing, or a line end and what follows it
abbrev pub IsBack : List ℕ → Type 0
IsBack [] = Unit {0}
IsBack (b ∷ bytes) = (b == 10) ≡ true

-- a piece is a front without a line end, and what follows it
abbrev pub Parted : List ℕ → Type 0
Parted piece = (back : List ℕ) × (piece ≡ front_of piece ++ back) × IsBack back × HasNoEnd (front_of piece)

pub parted : (piece : List ℕ) → Parted piece
parted [] = ([], refl, tt, tt)
parted (b ∷ piece) = by (parted piece) (b == 10) refl
  where
    by : Parted piece → (t : Bool) → (b == 10) ≡ t → Parted (b ∷ piece)
    by p true e = let f = front_end b piece e in (b ∷ piece, sym (ap (λ (x : List ℕ). x ++ b ∷ piece) f), e, subst HasNoEnd (sym f) tt)
    by p false e = let f = front_more b piece e in (p.0, ap (λ (x : List ℕ). b ∷ x) p.1 ∙ sym (ap (λ (x : List ℕ). x ++ p.0) f), p.2, subst HasNoEnd (sym f) (e, p.3))

pub no_end-append : (xs ys : List ℕ) → HasNoEnd xs → HasNoEnd ys → HasNoEnd (xs ++ ys)
no_end-append [] ys h g = g
no_end-append (x ∷ xs) ys h g = (h.0, no_end-append xs ys h.1 g)

pub no_end-take : (k : ℕ) (bytes : List ℕ) → HasNoEnd bytes → HasNoEnd (take k bytes)
no_end-take zero bytes n = tt
no_end-take (suc k) [] n = tt
no_end-take (suc k) (b ∷ bytes) n = (n.0, no_end-take k bytes n.1)

pub no_end_none : (bytes : List ℕ) → bytes ≡ [] → HasNoEnd bytes
no_end_none bytes e = rw e tt

-- bytes before the first line end, behind others
pub no_end_front : (kept piece all : List ℕ) (n : ℕ) → all ≡ kept ++ take n piece → n ≡ length (front_of piece) → HasNoEnd kept → HasNoEnd all
no_end_front kept piece all n is len h =
    let p = parted piece in
    let front : take n piece ≡ front_of piece = ap (λ k. take k piece) len ∙ ap (take (length (front_of piece))) p.1 ∙ take-append_seam (front_of piece) p.0 in
    rw (is, front) (no_end-append kept (front_of piece) h p.3)

-- the bytes from place k on begin with one
abbrev pub From : List ℕ → ℕ → Type 0
From bytes k = (b : ℕ) × (more : List ℕ) × (bytes ≡ take k bytes ++ b ∷ more) × (HasNoEnd bytes → (b == 10) ≡ false)

pub from : (bytes : List ℕ) (k : ℕ) → k < length bytes → From bytes k
from [] k lt = absurd (omega arith)
from (b ∷ bytes) zero lt = (b, bytes, refl, λ n. n.0)
from (b ∷ bytes) (suc k) lt = let f = from bytes k (omega arith) in (f.0, f.1, ap (λ (x : List ℕ). b ∷ x) f.2, λ n. f.3 n.1)

-- ---- the lines stay, whatever comes

pub next-lines : (c : Walk) (b : ℕ) → (others : List (List ℕ)) × ((next_byte c b).lines ≡ c.lines ++ others)
unfolding next_byte
next-lines c b = by c.fault (leb (2 ^ 31) c.total) (b == 10) (leb 65536 (length c.rest))
  where
    by : (o : Option LineFault) (full end long : Bool)
        → (others : List (List ℕ)) × ((if is_some o then c else if full then record c { fault = Some InputTooLong } else
        if end then record {
          lines = c.lines ++ trimmed c.rest ∷ [];
          rest = [];
          total = c.total + 1;
          fault =
              None;
        }
        else if long then record c { fault = Some LineTooLong } else record { lines = c.lines; rest = c.rest ++ b ∷ []; total = c.total + 1; fault = None }).lines ≡ c.lines ++ others)
    by (Some f) full end long = ([], sym (append-nil c.lines))
    by None true end long = ([], sym (append-nil c.lines))
    by None false true long = (trimmed c.rest ∷ [], refl)
    by None false false true = ([], sym (append-nil c.lines))
    by None false false false = ([], sym (append-nil c.lines))

pub steps-lines : (c : Walk) (bytes : List ℕ) → (others : List (List ℕ)) × ((steps c bytes).lines ≡ c.lines ++ others)
steps-lines c [] = ([], sym (append-nil c.lines))
steps-lines c (b ∷ bytes) =
    let one = next-lines c b in
    let more = steps-lines (next_byte c b) bytes in
    (one.0 ++ more.0, more.1 ∙ ap (λ (ls : List (List ℕ)). ls ++ more.0) one.1 ∙ append_assoc c.lines one.0 more.0)
