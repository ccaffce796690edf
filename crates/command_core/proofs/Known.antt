-- Known bytes that grow, or are read, in several steps.
use Rattle.std.proofs.Common.{[], ◌∷◌, get_or, ◌≡◌, ◌∙◌, ℕ, ◌+◌, ◌-◌, ◌≤◌, ◌<◌, List, ◌++◌, length, take, drop, arith, append_assoc, length-append, ap, sym, subst, refl, Ok}
use Rattle.std.proofs.lemmas.List.{take_rest, take_at, drop_at, take_all, drop_all, append-nil, take-append-le, take-append-drop, length-take-le, take_more}
use Rattle.std.proofs.Math.Seq.{take-add, take-append-add}
use Rattle.std.proofs.lemmas.Grind.{flat_map-append}
use Rattle.std.specs.Global.{Vec}
use Rattle.std.specs.List.{flat_map}
use Rattle.std.specs.declared.option.Option.{Option}
use Rattle.std.specs.declared.option.Option.TheVariants.{None, Some}
use Rattle.text_base.specs.Desk.{Texts, Starts, Meaning, OnlyInput, OnlyOutput, OnlyMessages}
use Rattle.command_core.specs.Transfer.{AppendsPart, FeedsText, FeedsToLimit, ReadsFront, ReadsToLimit}
use Rattle.std.specs.Io.KnownBytes.{Appends, Consumes, IsAtEnd}

pub Appends-then : (a b c : Option (List ℕ)) (x y : List ℕ) → Appends a b x → Appends b c y → Appends a c (x ++ y)
Appends-then None b c x y h k = tt
Appends-then (Some xs) None c x y h k = absurd h
Appends-then (Some xs) (Some ys) None x y h k = absurd k
Appends-then (Some xs) (Some ys) (Some zs) x y h k = k ∙ ap (λ l. l ++ y) h ∙ append_assoc xs x y

-- a further part of the bytes
pub Appends-further : (a b c : Option (List ℕ)) (bytes : List ℕ) (d n : ℕ) → Appends a b (take d bytes)
    → Appends b c (take n (take (length bytes - d) (drop d bytes))) → Appends a c (take (d + n) bytes)
Appends-further a b c bytes d n h k = rw take-add (Appends-then a b c (take d bytes) (take n (drop d bytes)) h (rw take_rest at k))

-- ---- bytes in pieces
pieces_more : (pieces : List (Vec ℕ)) (i : ℕ) (p : Vec ℕ) → i < length pieces → p ≡ get_or pieces i p
    → flat_map (λ p. p.items) (take (i + 1) pieces) ≡ flat_map (λ p. p.items) (take i pieces) ++ p.items
pieces_more pieces i p h is = ap (flat_map (λ p. p.items)) (take_more pieces i p h
    ∙ ap (λ q. take i pieces ++ q ∷ []) (sym is)) ∙ flat_map-append (λ (p : Vec ℕ). p.items) (take i pieces) (p ∷ [])
    ∙ ap (λ x. flat_map (λ p. p.items) (take i pieces) ++ x) (append-nil p.items)

-- the next piece
pub Appends-piece : (a b c : Option (List ℕ)) (pieces : List (Vec ℕ)) (i : ℕ) (p : Vec ℕ) (bytes : List ℕ) → i < length pieces → p ≡ get_or pieces i p → bytes ≡ p.items →
    Appends a b (flat_map (λ p. p.items) (take i pieces)) → Appends b c bytes → Appends a c (flat_map (λ p. p.items) (take (i + 1) pieces))
Appends-piece a b c pieces i p bytes h is e before now = rw (pieces_more pieces i p h is) (Appends-then a b c (flat_map (λ p. p.items) (take i pieces)) p.items before (rw (sym e) now))

-- a part of the next piece is a part of all
pub part_of_pieces : (a b c : Option (List ℕ)) (pieces : List (Vec ℕ)) (i : ℕ) (p : Vec ℕ) (bytes : List ℕ) → i < length pieces → p ≡ get_or pieces i p → bytes ≡ p.items →
    Appends a b (flat_map (λ p. p.items) (take i pieces)) → AppendsPart b c bytes → AppendsPart a c (flat_map (λ p. p.items) pieces)
part_of_pieces a b c pieces i p bytes h is e before now =
    let done = flat_map (λ (p : Vec ℕ). p.items) (take i pieces) in
    let rest = flat_map (λ (p : Vec ℕ). p.items) (drop (i + 1) pieces) in
    let whole : flat_map (λ p. p.items) pieces ≡ (done ++ bytes) ++ rest =
    ap (flat_map (λ p. p.items)) (sym (take-append-drop (i + 1) pieces))
    ∙ flat_map-append (λ (p : Vec ℕ). p.items) (take (i + 1) pieces) (drop (i + 1) pieces)
    ∙ ap (λ x. x ++ rest) (pieces_more pieces i p h is ∙ ap (λ x. done ++ x) (sym e)) in
    let k = now.0 in
    let few = now.1 in (
      length done + k,
      omega (arith, few, ap length whole, length-append (done ++ bytes) rest, length-append done bytes),
      rw (ap (take (length done + k)) (whole ∙ append_assoc done bytes rest) ∙ take-append-add done (bytes ++ rest) k
          ∙ ap (λ x. done ++ x) (take-append-le k bytes rest (omega (arith, few))))
          (Appends-then a b c done (take k bytes) before now.2),
    )

pub Consumes-then : (a b c : Option (List ℕ)) (x y : List ℕ) → Consumes a b x → Consumes b c y → Consumes a c (x ++ y)
Consumes-then None b c x y h k = tt
Consumes-then (Some xs) None c x y h k = absurd h
Consumes-then (Some xs) (Some ys) None x y h k = absurd k
Consumes-then (Some xs) (Some ys) (Some zs) x y h k = h ∙ ap (λ l. x ++ l) k ∙ sym (append_assoc x y zs)

pub OnlyInput-then : (a b c : Meaning) → OnlyInput a b → OnlyInput b c → OnlyInput a c
OnlyInput-then a b c h k = record {
  texts = k.texts ∙ h.texts;
  written = k.written ∙ h.written;
  told = k.told ∙ h.told;
  output_faults = k.output_faults ∙ h.output_faults;
  message_faults = k.message_faults ∙ h.message_faults;
}

pub OnlyOutput-then : (a b c : Meaning) → OnlyOutput a b → OnlyOutput b c → OnlyOutput a c
OnlyOutput-then a b c h k = record {
  texts = k.texts ∙ h.texts;
  left = k.left ∙ h.left;
  told = k.told ∙ h.told;
  input_faults = k.input_faults ∙ h.input_faults;
  message_faults = k.message_faults ∙ h.message_faults;
}

pub OnlyMessages-then : (a b c : Meaning) → OnlyMessages a b → OnlyMessages b c → OnlyMessages a c
OnlyMessages-then a b c h k = record {
  texts = k.texts ∙ h.texts;
  left = k.left ∙ h.left;
  written =
      k.written ∙ h.written;
  input_faults = k.input_faults ∙ h.input_faults;
  output_faults =
      k.output_faults ∙ h.output_faults;
}

-- all that the limit allows was read
pub limit_reached : (a b : Option (List ℕ)) (limit : ℕ) (bytes : List ℕ) → Consumes a b bytes → length bytes ≡ limit → ReadsToLimit a b limit bytes
limit_reached None b limit bytes h e = tt
limit_reached (Some xs) None limit bytes h e = absurd h
limit_reached (Some xs) (Some ys) limit bytes h e =
    (sym (ap (take limit) h ∙ take_at bytes ys limit e), ap Some (sym (ap (drop limit) h ∙ drop_at bytes ys limit e)))

-- nothing is left within the limit
pub all_read : (a b : Option (List ℕ)) (limit : ℕ) (bytes : List ℕ) → Consumes a b bytes → IsAtEnd b → length bytes ≤ limit → ReadsToLimit a b limit bytes
all_read None b limit bytes h e le = tt
all_read (Some xs) None limit bytes h e le = absurd h
all_read (Some xs) (Some ys) limit bytes h e le =
    let is : xs ≡ bytes = h ∙ ap (λ l. bytes ++ l) e ∙ append-nil bytes in
    (sym (ap (take limit) is ∙ take_all limit bytes le), ap Some (e ∙ sym (ap (drop limit) is ∙ drop_all limit bytes le)))

-- a read gave nothing, so nothing is left
pub end_reached : (a b c : Option (List ℕ)) (limit : ℕ) (bytes room : List ℕ) (n : ℕ) → Consumes a b bytes
    → Consumes b c (take n room) → (n ≡ 0 → 0 < length room → IsAtEnd c) → n ≡ 0 → 0 < length room → length bytes ≤ limit
    → ReadsToLimit a c limit bytes
end_reached a b c limit bytes room n h k end none some le =
    let then : Consumes a c (bytes ++ take n room) = Consumes-then a b c bytes (take n room) h k in
    let same : bytes ++ take n room ≡ bytes = ap (λ m. bytes ++ take m room) none ∙ append-nil bytes in
    all_read a c limit bytes (subst (λ (l : List ℕ). Consumes a c l) same then) (end none some) le

pub take_in_take : (n m : ℕ) (xs : List ℕ) → n ≤ m → m ≤ length xs → take n (take m xs) ≡ take n xs
take_in_take n m xs le within =
    let short : n ≤ length (take m xs) = rw length-take-le (le) in
    sym (take-append-le n (take m xs) (drop m xs) short) ∙ ap (take n) (take-append-drop m xs)

-- a further piece was read
pub Consumes-further : (a b c : Option (List ℕ)) (bytes room after : List ℕ) (n m : ℕ) → Consumes a b bytes
    → Consumes b c (take n (take m room)) → n ≤ m → m ≤ length room → after ≡ bytes ++ take n room → Consumes a c after
Consumes-further a b c bytes room after n m h k le within is =
    rw (is, ← take_in_take n m room le within) (Consumes-then a b c bytes (take n (take m room)) h k)

pub Consumes-nothing : (a : Option (List ℕ)) (bytes : List ℕ) → bytes ≡ [] → Consumes a a bytes
Consumes-nothing None bytes e = tt
Consumes-nothing (Some xs) bytes e = sym (ap (λ l. l ++ xs) e)

pub OnlyInput-same : (a : Meaning) → OnlyInput a a
OnlyInput-same a = record { texts = refl; written = refl; told = refl; output_faults = refl; message_faults = refl }

-- a text that was started and then read
pub whole_read : (T E : Type 0) (texts : Option Texts) (name : List ℕ) (left after : Option (List ℕ)) (limit : ℕ)
    (bytes : List ℕ) (t : T) → Starts {T = T} {E = E} texts name left (Ok t) → ReadsToLimit left after limit bytes
    → ReadsFront texts name limit bytes after
whole_read T E None name left after limit bytes t whole read = tt
whole_read T E (Some texts) name left after limit bytes t whole read =
    let is : ReadsToLimit (Some whole.text) after limit bytes = subst (λ (l : Option (List ℕ)). ReadsToLimit l after limit bytes) whole.current read in
    record { text = whole.text; named = whole.named; front = is.0; rest = is.1 }

-- ---- feeding a reader

-- a reader took so many bytes of what was left
pub record IsFedSo (a b : Option (List ℕ)) (taken : ℕ) (before after : List ℕ → Type 0) : Type 0 where
  pub bytes : List ℕ
  pub size : length bytes ≡ taken
  pub consumed : Consumes a b bytes
  pub fed : (text : List ℕ) → before text → after (text ++ bytes)

pub fed_nothing : (a : Option (List ℕ)) (fed : List ℕ → Type 0) → IsFedSo a a 0 fed fed
fed_nothing a fed = record { bytes = []; size = refl; consumed = Consumes-nothing a [] refl; fed = λ text h. subst fed (sym (append-nil text)) h }

pub fed_further : (a b c : Option (List ℕ)) (taken n m : ℕ) (room piece : List ℕ)
    (before middle after : List ℕ → Type 0) → IsFedSo a b taken before middle → Consumes b c (take n (take m room))
    → n ≤ m → m ≤ length room → piece ≡ take n room → ((text : List ℕ) → middle text → after (text ++ piece))
    → IsFedSo a c (taken + n) before after
fed_further a b c taken n m room piece before middle after h k le within is step =
    record {
      bytes = h.bytes ++ piece;
      size = let short : n ≤ length room = omega arith in rw (length-append, is, length-take-le) (ap (λ t. t + n) h.size);
      consumed = Consumes-further a b c h.bytes room (h.bytes ++ piece) n m h.consumed k le within (ap (λ l. h.bytes ++ l) is);
      fed = λ text was. subst after (append_assoc text h.bytes piece) (step (text ++ h.bytes) (h.fed text was));
    }

-- all that the limit allows was taken
pub fed_to_limit : (a b : Option (List ℕ)) (taken limit : ℕ) (before after : List ℕ → Type 0) → IsFedSo a b taken before after → taken ≡ limit → FeedsToLimit a b limit before after
fed_to_limit a b taken limit before after h e = record { bytes = h.bytes; read = limit_reached a b limit h.bytes h.consumed (h.size ∙ e); fed = h.fed }

-- a read gave nothing
pub fed_to_end : (a b c : Option (List ℕ)) (taken limit n : ℕ) (room : List ℕ) (before after : List ℕ → Type 0)
    → IsFedSo a b taken before after → Consumes b c (take n room) → (n ≡ 0 → 0 < length room → IsAtEnd c) → n ≡ 0
    → 0 < length room → taken ≤ limit → FeedsToLimit a c limit before after
fed_to_end a b c taken limit n room before after h k end none some le =
    record { bytes = h.bytes; read = end_reached a b c limit h.bytes room n h.consumed k end none some (omega (arith, h.size, le)); fed = h.fed }

-- a text that was started and then fed
pub whole_fed : (T E : Type 0) (texts : Option Texts) (name : List ℕ) (left now : Option (List ℕ)) (limit : ℕ)
    (before after : List ℕ → Type 0) (t : T) → Starts {T = T} {E = E} texts name left (Ok t)
    → FeedsToLimit left now limit before after → FeedsText texts name limit now before after
whole_fed T E texts name left now limit before after t whole h =
    record { bytes = h.bytes; read = whole_read T E texts name left now limit h.bytes t whole h.read; fed = h.fed }
