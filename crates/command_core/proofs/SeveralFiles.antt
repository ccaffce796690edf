-- Commands of files: exactly one outcome, and what each way to end them says.
use Rattle.std.proofs.Common.{◌≡◌, inl, inr, ◌⊎◌, List, ℕ, Bool, true, false, refl, ap, ◌∙◌, sym, ap₂, ◌≢◌, ◌≤◌, ◌+◌, take, drop, Option, Some, None, Result, Ok, Err, subst, arith}
use Rattle.command_core.specs.Outcome.{Outcome, BadWords, DoneOrRefused, Untold, NoText, Refused as IsRefusal, Done as IsDone, Status}
use Rattle.text_base.specs.Judged.{Rules}
use Rattle.text_base.specs.Reading.{HasFault, IsRead, last_of, lines_of}
use Rattle.text_base.specs.declared.fault.TextFault.{TextFault}
use Rattle.text_base.proofs.JudgedLemmas.{one_outcome}
use Rattle.command_core.specs.Told.{TellsFault}
use Rattle.std.proofs.lemmas.Option.{same_Some}
use Rattle.std.specs.Prelude.{IfOk, IsSomeAnd, IsTrue, option_map}
use Rattle.std.specs.Global.{Vec}
use Rattle.std.specs.List.{flat_map}
use Rattle.text_base.specs.Desk.{IsUnknown, Meaning, OnlyInput, Rose, Texts}
use Rattle.text_base.specs.declared.stop.Stop.{Stop}
use Rattle.text_base.specs.declared.stop.Stop.TheVariants.{Fault, Memory}
use Rattle.command_core.specs.InsideAnswer.{IsAtRest, IsCounted, IsWorked, Ends, EndsBy, EndsInPieces, status_of}
use Rattle.command_core.specs.Promise.{Promise}
use Rattle.command_core.specs.SeveralFiles.{ByVerdict, Comes, ComesBy, ComesInPieces, HasEnded, HasSaid, IsTextOf}
use Rattle.command_core.specs.SeveralFiles.{ReadsFile, Reached, Meets, after_file, by_reached, desk_promise}
use Rattle.command_core.specs.SeveralFiles.{judges_last, has_said, no_text, of_met, refused_with, saying, stops}
use Rattle.command_core.specs.declared.refused.Refusal.{Refusal}
use Rattle.command_core.specs.Transfer.{IsFrontRead, ReadsFront}
use Rattle.command_core.specs.declared.answer.Answer.{Answer}
use Rattle.command_core.specs.declared.answer.Answer.TheVariants.{Refused, InputFault, NoMemory}
use Rattle.command_core.specs.declared.transfer.TheConstants.{LIMIT}
use Rattle.command_core.proofs.Ending.{HasComeTo, IsKnown, ends_status, fault_status, memory_worked, missed_worked, refused_worked, wrote_worked}
use Rattle.command_core.proofs.Known.{OnlyInput-same, OnlyInput-then}

-- an outcome of a command whose texts are told
abbrev pub IsPlain : Outcome → Type 0
IsPlain BadWords = ⊥
IsPlain (Untold judges) = ⊥
IsPlain NoText = Unit {0}
IsPlain (IsRefusal line) = Unit {0}
IsPlain (IsDone holds bytes) = Unit {0}

-- exactly one outcome, which is of this kind
pub record HasOne (kind comes : Outcome → Type 0) : Type 0 where
  pub outcome : Outcome
  pub comes_to : comes outcome
  pub is : kind outcome
  pub one : (other : Outcome) → comes other → other ≡ outcome

-- that of an equation
pub same_one : (x : Outcome) → IsPlain x → HasOne IsPlain (λ outcome. outcome ≡ x)
same_one x is = record { outcome = x; comes_to = refl; is = is; one = λ other h. h }

-- bytes are accepted, or a line is refused: one of them, and not both
pub record IsEither (accepts refuses : List ℕ → Type 0) : Type 0 where
  pub accepted : (a b : List ℕ) → accepts a → accepts b → a ≡ b
  pub refused : (a b : List ℕ) → refuses a → refuses b → a ≡ b
  pub either : ((bytes : List ℕ) × accepts bytes) ⊎ ((line : List ℕ) × refuses line)
  pub apart : (bytes line : List ℕ) → accepts bytes → refuses line → ⊥

module _ (accepts refuses : List ℕ → Type 0) (d : IsEither accepts refuses) where
  accepted_one : (bytes : List ℕ) → accepts bytes → (other : Outcome) → DoneOrRefused accepts refuses other → other ≡ IsDone true bytes
  accepted_one bytes h (IsRefusal line) j = absurd (d.apart bytes line h j)
  accepted_one bytes h (IsDone true other) j = ap (IsDone true) (d.accepted other bytes j h)
  accepted_one bytes h other j = absurd j

  refused_one : (line : List ℕ) → refuses line → (other : Outcome) → DoneOrRefused accepts refuses other → other ≡ IsRefusal line
  refused_one line h (IsRefusal other) j = ap IsRefusal (d.refused other line j h)
  refused_one line h (IsDone true other) j = absurd (d.apart other line j h)
  refused_one line h other j = absurd j

  pub one_of_both : HasOne IsPlain (DoneOrRefused accepts refuses)
  one_of_both = elim d.either [
    | inl h ↦ record { outcome = IsDone true h.0; comes_to = h.1; is = tt; one = accepted_one h.0 h.1 }
    | inr h ↦ record { outcome = IsRefusal h.0; comes_to = h.1; is = tt; one = refused_one h.0 h.1 }
  ]

-- what is done is a yes
pub done_so : (accepts refuses : List ℕ → Type 0) (holds : Bool) (bytes : List ℕ) → DoneOrRefused accepts refuses (IsDone holds bytes) → holds ≡ true
done_so accepts refuses true bytes h = refl
done_so accepts refuses false bytes h = absurd h

-- ---- texts of a file

-- each text says one value, or is refused with one line
pub record AreRead {V : Type 0} (reads : List ℕ → V → Type 0) (refuses : List ℕ → List ℕ → Type 0) : Type 0 where
  pub said : (text : List ℕ) (a b : V) → reads text a → reads text b → a ≡ b
  pub refused : (text a b : List ℕ) → refuses text a → refuses text b → a ≡ b
  pub either : (text : List ℕ) → ((value : V) × reads text value) ⊎ ((line : List ℕ) × refuses text line)
  pub apart : (text : List ℕ) (value : V) (line : List ℕ) → reads text value → refuses text line → ⊥

-- it says one value, or has one first fault, which a line tells
pub read_so : {V F : Type 0} (reads : List ℕ → V → Type 0) (has : List ℕ → F → Type 0) (line_of : F → List ℕ)
    → ((text : List ℕ) (a b : V) → reads text a → reads text b → a ≡ b) → ((text : List ℕ) (a b : F) → has text a → has text b → line_of a ≡ line_of b)
    → ((text : List ℕ) → ((value : V) × reads text value) ⊎ ((fault : F) × has text fault)) → ((text : List ℕ) (value : V) (fault : F) → reads text value → has text fault → ⊥)
    → AreRead reads (λ text. TellsFault (has text) line_of)
read_so reads has line_of said same either apart = record {
  said = said;
  refused = λ text a b h k. h.told ∙ same text h.fault k.fault h.first k.first ∙ sym k.told;
  either = λ text. elim (either text) [ inl h ↦ inl h | inr h ↦ inr (line_of h.0, record { fault = h.0; first = h.1; told = refl }) ];
  apart = λ text value line h k. apart text value k.fault h k.first;
}

-- the same by rules, where clean lines say one value
pub read_by : {V R : Type 0} (rules : Rules R) (says : List (List ℕ) → V → Type 0) (line_of : TextFault R → List ℕ) (value : List (List ℕ) → V)
    → ((lines : List (List ℕ)) (v : V) → says lines v → v ≡ value lines) → ((lines : List (List ℕ)) → says lines (value lines))
    → AreRead (IsRead rules says) (λ text. TellsFault (HasFault rules text) line_of)
read_by rules says line_of value one is = read_so (IsRead rules says) (HasFault rules) line_of
    (λ text a b h k. one (lines_of text) a h.said ∙ sym (one (lines_of text) b k.said))
    (λ text a b h k.
    let same = (one_outcome rules (lines_of text) (last_of text)).one_fault a.line b.line a.reason b.reason h k in
    ap₂ (λ line reason. line_of (record { reason = reason; line = line })) same.0 same.1)
    (λ text. elim (one_outcome rules (lines_of text) (last_of text)).some [
      | inl clean ↦ inl (value (lines_of text), record { clean = clean; said = is (lines_of text) })
      | inr found ↦ inr (record { reason = found.1; line = found.0 }, found.2)
    ])
    (λ text v fault h k. (one_outcome rules (lines_of text) (last_of text)).not_both h.clean fault.line fault.reason k)

-- ---- promises

-- exactly one outcome, one text that is started last, and steps need not be counted
pub record IsSound (p : Promise) : Type 0 where
  pub one : HasOne IsPlain p.comes
  pub last : (a b : List ℕ) → p.last a → p.last b → a ≡ b
  pub idle : (n : ℕ) → p.counts n n

pub sound_end : (started : Option (List ℕ)) (comes : Outcome → Type 0) (counts : ℕ → ℕ → Type 0)
    (means : List ℕ → Type 0) (denies : Type 0) → HasOne IsPlain comes → ((n : ℕ) → counts n n)
    → IsSound (judges_last started comes counts means denies)
sound_end started comes counts means denies one idle = record {
  one = one;
  last = λ a b h k. same_Some a b (sym h ∙ k);
  idle = idle;
}

-- one thing is met, and no other
module _ {A : Type 0} (is_met : A → Type 0) (one : (a b : A) → is_met a → is_met b → a ≡ b) where
  -- what holds of one that is met holds of each
  pub of_that : (P : A → Type 0) (b : A) → is_met b → (a : A) × (is_met a × P a) → P b
  of_that P b met h = subst P (one h.0 b h.1.0 met) h.1.1

  pub sound_met : (p : A → Promise) → (a : A) × is_met a → ((a : A) → IsSound (p a)) → IsSound (of_met is_met p)
  sound_met p some s =
      let at = s some.0 in
      record {
        one = record { outcome = at.one.outcome; comes_to = (some.0, (some.1, at.one.comes_to)); is = at.one.is; one = λ other h. at.one.one other (of_that (λ a. (p a).comes other) some.0 some.1 h) };
        last = λ a b h k. at.last a b (of_that (λ x. (p x).last a) some.0 some.1 h) (of_that (λ x. (p x).last b) some.0 some.1 k);
        idle = λ n. (some.0, (some.1, at.idle n));
      }

pub sound_stop : (started : Option (List ℕ)) (comes : Outcome → Type 0) → HasOne IsPlain comes → IsSound (stops started comes)
sound_stop started comes one = sound_end started comes (λ old new. new ≡ old) (λ bytes. ⊥) ⊥ one (λ n. refl)

module _ {V : Type 0} (reads : List ℕ → V → Type 0) (refuses : List ℕ → List ℕ → Type 0) where
  abbrev Met : Option (List ℕ) → Reached V → Type 0
  Met = Meets reads refuses

  module _ (d : AreRead reads refuses) where
    pub one_met : (found : Option (List ℕ)) (a b : Reached V) → Met found a → Met found b → a ≡ b
    one_met None no_text no_text h k = refl
    one_met None no_text (refused_with line) h k = absurd k
    one_met None no_text (has_said value) h k = absurd k
    one_met None (refused_with line) b h k = absurd h
    one_met None (has_said value) b h k = absurd h
    one_met (Some text) no_text b h k = absurd cc
    one_met (Some text) (refused_with line) no_text h k = absurd cc
    one_met (Some text) (refused_with line) (refused_with other) h k = ap refused_with (d.refused text line other h k)
    one_met (Some text) (refused_with line) (has_said value) h k = absurd (d.apart text value line k h)
    one_met (Some text) (has_said value) no_text h k = absurd cc
    one_met (Some text) (has_said value) (refused_with line) h k = absurd (d.apart text value line h k)
    one_met (Some text) (has_said value) (has_said other) h k = ap has_said (d.said text value other h k)

    pub some_met : (found : Option (List ℕ)) → (r : Reached V) × Met found r
    some_met None = (no_text, refl)
    some_met (Some text) = elim (d.either text) [ inl h ↦ (has_said h.0, h.1) | inr h ↦ (refused_with h.0, h.1) ]

    pub sound_reached : (found started : Option (List ℕ)) (next : V → Promise) → ((value : V) → IsSound (next value)) → IsSound (of_met (Met found) (by_reached started next))
    sound_reached found started next s = sound_met (Met found) (one_met found) (by_reached started next) (some_met found) by
      where
        by : (r : Reached V) → IsSound (by_reached started next r)
        by no_text = sound_stop None (λ outcome. outcome ≡ NoText) (same_one NoText tt)
        by (refused_with line) = sound_stop started (λ outcome. outcome ≡ IsRefusal line) (same_one (IsRefusal line) tt)
        by (has_said value) = s value

    -- a file is read, and what is next is sound
    pub sound_after : (texts : Texts) (file : List ℕ) (next : V → Promise) → ((value : V) → IsSound (next value)) → IsSound (after_file reads refuses texts file next)
    sound_after texts file next s = sound_reached (option_map (take LIMIT) (texts file)) (texts file) next s

-- ---- reading a file

-- ---- a command at work

-- q is what is left of p
pub record IsPartOf (q p : Promise) : Type 0 where
  pub comes : (outcome : Outcome) → q.comes outcome → p.comes outcome
  pub last : (text : List ℕ) → q.last text → p.last text
  pub counts : (m n : ℕ) → q.counts m n → p.counts m n
  pub means : (bytes : List ℕ) → q.means bytes → p.means bytes
  pub denies : q.denies → p.denies

whole : (p : Promise) → IsPartOf p p
whole p = record { comes = λ o h. h; last = λ t h. h; counts = λ m n h. h; means = λ bytes h. h; denies = λ h. h }

module _ {V : Type 0} (reads : List ℕ → V → Type 0) (refuses : List ℕ → List ℕ → Type 0) where
  -- what is next is left where the file says its value
  next_part : (texts : Texts) (file text : List ℕ) (value : V) (next : V → Promise) → texts file ≡ Some text
      → reads (take LIMIT text) value → IsPartOf (next value) (after_file reads refuses texts file next)
  next_part texts file text value next is r =
      let met : Meets reads refuses (option_map (take LIMIT) (texts file)) (has_said value) = rw is r in
      record {
        comes = λ o h. (has_said value, (met, h));
        last = λ l h. (has_said value, (met, h));
        counts = λ m n h. (has_said value, (met, h));
        means = λ bytes h. (has_said value, (met, h));
        denies = λ h. (has_said value, (met, h));
      }

part_of_part : (r q p : Promise) → IsPartOf r q → IsPartOf q p → IsPartOf r p
part_of_part r q p h k = record {
  comes = λ o x. k.comes o (h.comes o x);
  last = λ t x. k.last t (h.last t x);
  counts = λ m n x. k.counts m n (h.counts m n x);
  means = λ bytes x. k.means bytes (h.means bytes x);
  denies = λ x. k.denies (h.denies x);
}

-- the bytes that a file said something with are its first bytes
pub record HasFirst {V : Type 0} (reads : List ℕ → V → Type 0) (texts : Texts) (file : List ℕ) (left : Option (List ℕ)) (value : V) : Type 0 where
  pub text : List ℕ
  pub named : texts file ≡ Some text
  pub says : reads (take LIMIT text) value
  pub rest : left ≡ Some (drop LIMIT text)

first_by : {V : Type 0} (reads : List ℕ → V → Type 0) (told : Option Texts) (texts : Texts) (file bytes : List ℕ)
    (left : Option (List ℕ)) (value : V) → told ≡ Some texts → ReadsFront told file LIMIT bytes left → reads bytes value
    → HasFirst reads texts file left value
first_by reads told texts file bytes left value is read says =
    let r : IsFrontRead texts file LIMIT bytes left = subst (λ (t : Option Texts). ReadsFront t file LIMIT bytes left) is read in
    record { text = r.text; named = r.named; says = subst (λ (b : List ℕ). reads b value) r.front says; rest = r.rest }

first_of : {V : Type 0} (reads : List ℕ → V → Type 0) (texts : Texts) (file : List ℕ) (old new : Meaning) (value : V)
    → old.texts ≡ Some texts → HasSaid reads file old new value → HasFirst reads texts file new.left value
first_of reads texts file old new value is h = first_by reads old.texts texts file h.bytes new.left value is h.read h.says

pub plain_known : (o : Outcome) → IsPlain o → IsKnown o
unfolding IsKnown
plain_known BadWords p = absurd p
plain_known (Untold j) p = absurd p
plain_known other p = λ e. absurd cc

module _ (told : Texts → Promise) (judges : Bool) where
  -- The command has come down to this part of its promise: the files before it were read, and said their values.
  pub record HasComeDown (part : Texts → Promise) (old mid : Meaning) : Type 0 where
    pub of : (texts : Texts) → old.texts ≡ Some texts → IsPartOf (part texts) (told texts)
    pub same : mid.input_faults ≡ old.input_faults
    pub rest : OnlyInput old mid

  -- nothing was read
  pub begun : (old : Meaning) → HasComeDown told old old
  begun old = record { of = λ texts is. whole (told texts); same = refl; rest = OnlyInput-same old }

  module _ {R V : Type 0} (seen : R → V) (reads : List ℕ → V → Type 0) (refuses : List ℕ → List ℕ → Type 0)
      (file : List ℕ) (next : Texts → V → Promise) (old mid new : Meaning)
      (h : HasComeDown (λ texts. after_file reads refuses texts file (next texts)) old mid) where
    -- one file more was read
    pub further : (value : R) → ReadsFile seen reads refuses file mid new (Ok value) → HasComeDown (λ texts. next texts (seen value)) old new
    further value read = record {
      of = λ texts is.
          let first = first_of reads texts file mid new (seen value) (h.rest.texts ∙ is) read.judged in
          part_of_part (next texts (seen value)) (after_file reads refuses texts file (next texts)) (told texts)
          (next_part reads refuses texts file first.text (seen value) (next texts) first.named first.says) (h.of texts is);
      same = read.judged.same ∙ h.same;
      rest = OnlyInput-then _ _ _ h.rest read.rest;
    }

  module _ (s : (texts : Texts) → IsSound (told texts)) where
    known_by : (texts : Option Texts) (o : Outcome) → (desk_promise judges told texts).comes o → IsKnown o
    unfolding IsKnown
    known_by None o h = λ e. absurd cc
    known_by (Some texts) o h = plain_known o (subst IsPlain (sym ((s texts).one.one o h)) (s texts).one.is)

    knows_by : (texts : Option Texts) (o x : Outcome) → ((t : Texts) → texts ≡ Some t → (told t).comes x) → (desk_promise judges told texts).comes o → (o ≡ Untold judges) ⊎ (o ≡ x)
    knows_by None o x is h = inl h
    knows_by (Some texts) o x is h = inr ((s texts).one.one o h ∙ sym ((s texts).one.one x (is texts refl)))

    left_by : (texts : Option Texts) (left : Option (List ℕ))
        → ((t : Texts) → texts ≡ Some t → (text : List ℕ) × (told t).last text × (left ≡ Some (drop LIMIT text)))
        → (text : List ℕ) → (desk_promise judges told texts).last text → left ≡ Some (drop LIMIT text)
    left_by None left is text h = absurd cc
    left_by (Some texts) left is text h =
        let there = is texts refl in
        there.2 ∙ ap (λ (t : List ℕ). Some (drop LIMIT t)) ((s texts).last there.0 text there.1 h)

    missed_by : (texts : Option Texts) (file : List ℕ) (input output : Type 0) (o : Outcome)
        → ((t : Texts) → texts ≡ Some t → t file ≡ None → (told t).comes NoText) → (input ⊎ IsUnknown texts file)
        → (desk_promise judges told texts).comes o → Status o input output 4
    missed_by texts file input output o none (inl rose) h = fault_status o input output (known_by texts o h) rose
    missed_by None file input output o none (inr unknown) h = absurd unknown
    missed_by (Some texts) file input output o none (inr unknown) h =
        let is : o ≡ NoText = (s texts).one.one o h ∙ sym ((s texts).one.one NoText (none texts refl unknown)) in
        rw is (inl refl)

    -- steps need not be counted
    idle : (texts : Option Texts) (n : ℕ) → (desk_promise judges told texts).counts n n
    idle None n = tt
    idle (Some texts) n = (s texts).idle n

    module _ {R V : Type 0} (seen : R → V) (reads : List ℕ → V → Type 0) (refuses : List ℕ → List ℕ → Type 0)
        (file : List ℕ) (next : Texts → V → Promise) (old mid new : Meaning)
        (h : HasComeDown (λ texts. after_file reads refuses texts file (next texts)) old mid) where
      met_line : (texts : Texts) (text line : List ℕ) → texts file ≡ Some text → refuses (take LIMIT text) line → Meets reads refuses (option_map (take LIMIT) (texts file)) (refused_with line)
      met_line texts text line is r = rw is r

      stopped_so : (answer : Answer) → old.input_faults ≤ new.input_faults → OnlyInput old new → HasEnded refuses file mid new answer → IsWorked (desk_promise judges told old.texts) old new answer
      stopped_so (Refused refusal) later rest ended =
          let line = refusal.line in
          refused_worked _ judges old new refusal (record {
            knows = λ o c. knows_by old.texts o (IsRefusal line)
                (λ texts is.
                let first = first_of refuses texts file mid new line (h.rest.texts ∙ is) ended in
                (h.of texts is).comes (IsRefusal line) (refused_with line, (met_line texts first.text line first.named first.says, refl))) c;
            left = λ text c. left_by old.texts new.left
                (λ texts is.
                let first = first_of refuses texts file mid new line (h.rest.texts ∙ is) ended in
                (first.text, (h.of texts is).last first.text (refused_with line, (met_line texts first.text line first.named first.says, first.named)), first.rest)) text c;
            same = ended.same ∙ h.same;
            rest = rest;
          })
      stopped_so InputFault later rest ended =
          missed_worked _ judges old new
          (λ o c. missed_by old.texts file _ _ o
          (λ texts is none. (h.of texts is).comes NoText (no_text, (rw none refl, refl)))
          (elim ended [ inl rose ↦ inl (subst (λ (n : ℕ). Rose n new.input_faults) h.same rose) | inr unknown ↦ inr (subst (λ (t : Option Texts). IsUnknown t file) h.rest.texts unknown) ]) c)
          later rest
      stopped_so NoMemory later rest ended = memory_worked _ judges old new (λ o c. known_by old.texts o c) (ended ∙ h.same) rest
      stopped_so other later rest ended = absurd ended

      ended_known : (answer : Answer) → HasEnded refuses file mid new answer → status_of answer ≢ 3
      ended_known (Refused refusal) ended = λ e. absurd (omega (arith, e))
      ended_known InputFault ended = λ e. absurd (omega (arith, e))
      ended_known NoMemory ended = λ e. absurd (omega (arith, e))
      ended_known other ended = absurd ended

      -- the file ends the command with this answer, and no step was counted
      pub stopped : (n : ℕ) (answer : Answer) → ReadsFile {R = R} seen reads refuses file mid new (Err answer) → IsCounted (desk_promise judges told old.texts) old new n n answer
      stopped n answer read = record {
        worked = stopped_so answer (omega (arith, h.same, read.later)) (OnlyInput-then _ _ _ h.rest read.rest) read.judged;
        known = ended_known answer read.judged;
        above = omega arith;
        counts = idle old.texts n;
        idle = λ e. refl;
      }

    -- ---- all files were read

    module _ {R V : Type 0} (seen : R → V) (reads : List ℕ → V → Type 0) (refuses : List ℕ → List ℕ → Type 0)
        (file : List ℕ) (comes : V → Outcome → Type 0) (counts : V → ℕ → ℕ → Type 0) (means : V → List ℕ → Type 0)
        (denies : V → Type 0) (old before mid : Meaning)
        (h : HasComeDown (λ texts. after_file reads refuses texts file
        (λ value. judges_last (texts file) (comes value) (counts value) (means value) (denies value))) old before)
        (value : R) (read : ReadsFile seen reads refuses file before mid (Ok value)) where
      abbrev ending : Texts → V → Promise
      ending texts value = judges_last (texts file) (comes value) (counts value) (means value) (denies value)

      down : HasComeDown (λ texts. ending texts (seen value)) old mid
      down = further seen reads refuses file ending old before mid h value read

      has_come_to : (x : Outcome) → comes (seen value) x → HasComeTo (desk_promise judges told old.texts) judges old mid x
      has_come_to x is = record {
        knows = λ o c. knows_by old.texts o x (λ texts told_so. (down.of texts told_so).comes x is) c;
        left = λ text c. left_by old.texts mid.left
            (λ texts told_so.
            let first = first_of reads texts file before mid (seen value) (h.rest.texts ∙ told_so) read.judged in
            (first.text, (down.of texts told_so).last first.text first.named, first.rest)) text c;
        same = down.same;
        rest = down.rest;
      }

      meant : (verdict : Bool) (bytes : List ℕ) (texts : Option Texts)
          → ((t : Texts) → texts ≡ Some t → IsPartOf (ending t (seen value)) (told t))
          → ByVerdict verdict (means (seen value) bytes) (denies (seen value))
          → ByVerdict verdict ((desk_promise judges told texts).means bytes) (desk_promise judges told texts).denies
      meant true bytes None part m = tt
      meant false bytes None part m = tt
      meant true bytes (Some texts) part m = (part texts refl).means bytes m
      meant false bytes (Some texts) part m = (part texts refl).denies m

      judged_as : {T : Type 0} (bytes : T → List ℕ) (new : Meaning) (judged : Result (Bool × T) (Stop Refusal)) (answer : Answer)
          → ComesBy bytes (comes (seen value)) judged
          → IfOk judged (λ t. ((t.0 ≡ true) ⊎ IsTrue judges) × ByVerdict t.0 (means (seen value) (bytes t.1)) (denies (seen value)))
          → EndsBy bytes judged mid new answer
          → IsWorked (desk_promise judges told old.texts) old new answer
      judged_as bytes new (Ok t) answer is m e = wrote_worked _ judges old mid new t.0 (bytes t.1) answer (has_come_to (IsDone t.0 (bytes t.1)) is) m.0 (meant t.0 (bytes t.1) old.texts down.of m.1) e
      judged_as bytes new (Err (Fault refusal)) answer is m e = rw (e.0, e.1) (refused_worked _ judges old mid refusal (has_come_to (IsRefusal refusal.line) is))
      judged_as bytes new (Err Memory) answer is m e = rw (e.0, e.1) (memory_worked _ judges old mid (λ o c. known_by old.texts o c) down.same down.rest)

      counted_by : (texts : Option Texts) (m n : ℕ) → ((t : Texts) → texts ≡ Some t → IsPartOf (ending t (seen value)) (told t)) → counts (seen value) m n → (desk_promise judges told texts).counts m n
      counted_by None m n part c = tt
      counted_by (Some texts) m n part c = (part texts refl).counts m n c

      -- the values were judged so with these steps, and the command ended with this answer
      pub ended_by : {T : Type 0} (bytes : T → List ℕ) (m n : ℕ) (new : Meaning) (judged : Result (Bool × T) (Stop Refusal)) (answer : Answer)
          → ComesBy bytes (comes (seen value)) judged
          → IfOk judged (λ t. ((t.0 ≡ true) ⊎ IsTrue judges) × ByVerdict t.0 (means (seen value) (bytes t.1)) (denies (seen value)))
          → EndsBy bytes judged mid new answer → m ≤ n → counts (seen value) m n
          → IsCounted (desk_promise judges told old.texts) old new m n answer
      ended_by bytes m n new judged answer is meant e above c =
          let status = ends_status bytes judged mid new answer e in
          record {
            worked = judged_as bytes new judged answer is meant e;
            known = status.0;
            above = above;
            counts = counted_by old.texts m n down.of c;
            idle = λ four. absurd (status.1 four);
          }

-- ---- the first file of a command

module _ {V : Type 0} {reads : List ℕ → V → Type 0} {refuses : List ℕ → List ℕ → Type 0} (d : AreRead reads refuses)
    (judges : Bool) (next : Texts → V → Promise) (s : (texts : Texts) (value : V) → IsSound (next texts value))
    (file : List ℕ) where
  abbrev from_first : Texts → Promise
  from_first texts = after_file reads refuses texts file (next texts)

  pub first_sound : (texts : Texts) → IsSound (from_first texts)
  first_sound texts = sound_after reads refuses d texts file (next texts) (s texts)

  -- it ends the command
  pub first_stopped : {R : Type 0} (seen : R → V) (n : ℕ) (old new : Meaning) (answer : Answer)
      → ReadsFile {R = R} seen reads refuses file old new (Err answer)
      → IsCounted (desk_promise judges from_first old.texts) old new n n answer
  first_stopped seen n old new answer read = stopped from_first judges first_sound seen reads refuses file next old old new (begun from_first judges old) n answer read

  -- it was read
  pub first_down : {R : Type 0} (seen : R → V) (old new : Meaning) (value : R)
      → ReadsFile {R = R} seen reads refuses file old new (Ok value)
      → HasComeDown from_first judges (λ texts. next texts (seen value)) old new
  first_down seen old new value read = further from_first judges seen reads refuses file next old old new (begun from_first judges old) value read

-- ---- the last file of a command

-- a command that gives no verdict promises nothing of another verdict
abbrev pub NoVerdict : {V : Type 0} → V → Type 0
NoVerdict value = Unit {0}

-- what has to be shown of it, and of what its value comes to
pub record IsLast (judges : Bool) {V : Type 0} (reads : List ℕ → V → Type 0) (refuses : List ℕ → List ℕ → Type 0) (comes : V → Outcome → Type 0) (counts : V → ℕ → ℕ → Type 0) : Type 0 where
  pub read : AreRead reads refuses
  pub one : (value : V) → HasOne IsPlain (comes value)
  pub idle : (value : V) (n : ℕ) → counts value n n
  pub verdict : (value : V) (holds : Bool) (bytes : List ℕ) → comes value (IsDone holds bytes) → (holds ≡ true) ⊎ IsTrue judges

module _ {V : Type 0} {reads : List ℕ → V → Type 0} {refuses : List ℕ → List ℕ → Type 0} (read : AreRead reads refuses) where
  -- it is written as a text
  pub writes_last : (write : V → List ℕ) → IsLast false reads refuses (λ value outcome. outcome ≡ IsDone true (write value)) (λ value old new. new ≡ old)
  writes_last write = record {
    read = read;
    one = λ value. same_one (IsDone true (write value)) tt;
    idle = λ value n. refl;
    verdict = λ value holds bytes e. inl cc;
  }

  -- it is accepted with bytes or refused with a line, in so many steps at most
  pub either_last : (accepts denies : V → List ℕ → Type 0) (steps : V → ℕ)
      → ((value : V) → IsEither (accepts value) (denies value))
      → IsLast false reads refuses (λ value. DoneOrRefused (accepts value) (denies value))
      (λ value old new. new ≤ old + steps value)
  either_last accepts denies steps either = record {
    read = read;
    one = λ value. one_of_both (accepts value) (denies value) (either value);
    idle = λ value n. omega arith;
    verdict = λ value holds bytes h. inl (done_so (accepts value) (denies value) holds bytes h);
  }

  -- it has a verdict
  pub verdict_last : (outcome : V → Outcome) (steps : V → ℕ) → ((value : V) → IsPlain (outcome value))
      → IsLast true reads refuses (λ value other. other ≡ outcome value) (λ value old new. new ≤ old + steps value)
  verdict_last outcome steps plain = record {
    read = read;
    one = λ value. same_one (outcome value) (plain value);
    idle = λ value n. omega arith;
    verdict = λ value holds bytes e. inr refl;
  }

judged_so : {T : Type 0} (bytes : T → List ℕ) (judges : Bool) (comes : Outcome → Type 0) (means : List ℕ → Type 0)
    (denies : Type 0) (judged : Result (Bool × T) (Stop Refusal))
    → ((holds : Bool) (bytes : List ℕ) → comes (IsDone holds bytes) → (holds ≡ true) ⊎ IsTrue judges)
    → ComesBy bytes comes judged → IfOk judged (λ t. ByVerdict t.0 (means (bytes t.1)) denies) → IfOk judged (λ t. ((t.0 ≡ true) ⊎ IsTrue judges) × ByVerdict t.0 (means (bytes t.1)) denies)
judged_so bytes judges comes means denies (Ok t) may is m = (may t.0 (bytes t.1) is, m)
judged_so bytes judges comes means denies (Err stop) may is m = tt

module _ {judges : Bool} {V : Type 0} {reads : List ℕ → V → Type 0} {refuses : List ℕ → List ℕ → Type 0}
    {comes : V → Outcome → Type 0} {counts : V → ℕ → ℕ → Type 0} (l : IsLast judges reads refuses comes counts)
    (means : V → List ℕ → Type 0) (denies : V → Type 0) (file : List ℕ) where
  abbrev the_end : Texts → V → Promise
  the_end texts value = judges_last (texts file) (comes value) (counts value) (means value) (denies value)

  abbrev from_last : Texts → Promise
  from_last texts = after_file reads refuses texts file (the_end texts)

  end_sound : (texts : Texts) (value : V) → IsSound (the_end texts value)
  end_sound texts value = sound_end (texts file) (comes value) (counts value) (means value) (denies value) (l.one value) (l.idle value)

  pub last_sound : (texts : Texts) → IsSound (from_last texts)
  last_sound texts = sound_after reads refuses l.read texts file (the_end texts) (end_sound texts)

  -- of a command that has come down to it
  module _ (told : Texts → Promise) (s : (texts : Texts) → IsSound (told texts)) (old mid : Meaning) (down : HasComeDown told judges from_last old mid) where
    -- it ends the command
    pub last_stopped : {R : Type 0} (seen : R → V) (n : ℕ) (new : Meaning) (answer : Answer)
        → ReadsFile {R = R} seen reads refuses file mid new (Err answer)
        → IsCounted (desk_promise judges told old.texts) old new n n answer
    last_stopped seen n new answer read = stopped told judges s seen reads refuses file the_end old mid new down n answer read

    -- all was judged
    last_ended_by : {T : Type 0} (bytes : T → List ℕ) → {R : Type 0} (seen : R → V) (new : Meaning) (value : R)
        → ReadsFile {R = R} seen reads refuses file mid new (Ok value)
        → (m n : ℕ) (last : Meaning) (judged : Result (Bool × T) (Stop Refusal)) (answer : Answer)
        → ComesBy bytes (comes (seen value)) judged → IfOk judged
        (λ t. ByVerdict t.0 (means (seen value) (bytes t.1)) (denies (seen value)))
        → EndsBy bytes judged new last answer → m ≤ n → counts (seen value) m n
        → IsCounted (desk_promise judges told old.texts) old last m n answer
    last_ended_by bytes seen new value read m n last judged answer is meant end above c =
        ended_by told judges s seen reads refuses file comes counts means denies old mid new down value read bytes m n last judged answer is
        (judged_so bytes judges (comes (seen value)) (means (seen value)) (denies (seen value)) judged (l.verdict (seen value)) is meant) end above c

    pub last_ended : {R : Type 0} (seen : R → V) (new : Meaning) (value : R)
        → ReadsFile {R = R} seen reads refuses file mid new (Ok value)
        → (m n : ℕ) (last : Meaning) (judged : Result (Bool × Vec ℕ) (Stop Refusal)) (answer : Answer)
        → Comes (comes (seen value)) judged → IfOk judged (λ t. ByVerdict t.0 (means (seen value) t.1.items) (denies (seen value))) → Ends judged new last answer → m ≤ n → counts (seen value) m n
        → IsCounted (desk_promise judges told old.texts) old last m n answer
    last_ended seen new value read = last_ended_by (λ v. v.items) seen new value read

  -- of a command of this file alone
  pub only_stopped : {R : Type 0} (seen : R → V) (n : ℕ) (old new : Meaning) (answer : Answer)
      → ReadsFile {R = R} seen reads refuses file old new (Err answer)
      → IsCounted (desk_promise judges from_last old.texts) old new n n answer
  only_stopped seen n old new answer read = last_stopped from_last last_sound old old (begun from_last judges old) seen n new answer read

  pub only_ended : {R : Type 0} (seen : R → V) (old new : Meaning) (value : R)
      → ReadsFile {R = R} seen reads refuses file old new (Ok value)
      → (m n : ℕ) (last : Meaning) (judged : Result (Bool × Vec ℕ) (Stop Refusal)) (answer : Answer)
      → Comes (comes (seen value)) judged → IfOk judged (λ t. ByVerdict t.0 (means (seen value) t.1.items) (denies (seen value))) → Ends judged new last answer → m ≤ n → counts (seen value) m n
      → IsCounted (desk_promise judges from_last old.texts) old last m n answer
  only_ended seen old new value read = last_ended from_last last_sound old old (begun from_last judges old) seen new value read

  -- the same, with the bytes in pieces
  pub ended_in_pieces : {R : Type 0} (seen : R → V) (old new : Meaning) (value : R)
      → ReadsFile {R = R} seen reads refuses file old new (Ok value)
      → (m n : ℕ) (last : Meaning) (judged : Result (Bool × Vec (Vec ℕ)) (Stop Refusal)) (answer : Answer)
      → ComesInPieces (comes (seen value)) judged → IfOk judged
      (λ t. ByVerdict t.0 (means (seen value) (flat_map (λ p. p.items) t.1.items)) (denies (seen value)))
      → EndsInPieces judged new last answer → m ≤ n → counts (seen value) m n
      → IsCounted (desk_promise judges from_last old.texts) old last m n answer
  ended_in_pieces seen old new value read = last_ended_by from_last last_sound old old (begun from_last judges old) (λ v. flat_map (λ p. p.items) v.items) seen new value read

-- ---- a command of two files

module _ {judges : Bool} {V W : Type 0} {reads : List ℕ → V → Type 0} {refuses : List ℕ → List ℕ → Type 0}
    {reads_second : V → List ℕ → W → Type 0} {refuses_second : V → List ℕ → List ℕ → Type 0}
    {comes : V → W → Outcome → Type 0} {counts : V → W → ℕ → ℕ → Type 0}
    (d : AreRead reads refuses) (l : (value : V) → IsLast judges (reads_second value) (refuses_second value)
    (comes value) (counts value)) (means : V → W → List ℕ → Type 0) (denies : V → W → Type 0) (file second : List ℕ)
  where
    abbrev from_second : Texts → V → Promise
    from_second texts value = from_last (l value) (means value) (denies value) second texts

    second_sound : (texts : Texts) (value : V) → IsSound (from_second texts value)
    second_sound texts value = last_sound (l value) (means value) (denies value) second texts

    abbrev from_both : Texts → Promise
    from_both texts = after_file reads refuses texts file (from_second texts)

    pub both_sound : (texts : Texts) → IsSound (from_both texts)
    both_sound = first_sound d judges from_second second_sound file

    -- the first file ends it
    pub both_stopped : {R : Type 0} (seen : R → V) (n : ℕ) (old new : Meaning) (answer : Answer)
        → ReadsFile {R = R} seen reads refuses file old new (Err answer)
        → IsCounted (desk_promise judges from_both old.texts) old new n n answer
    both_stopped seen n old new answer read = first_stopped d judges from_second second_sound file seen n old new answer read

    module _ {R S : Type 0} (seen : R → V) (seen_second : S → W) (old mid new : Meaning) (value : R) (read : ReadsFile {R = R} seen reads refuses file old mid (Ok value)) where
      second_down : HasComeDown from_both judges (λ texts. from_second texts (seen value)) old mid
      second_down = first_down d judges from_second second_sound file seen old mid value read

      -- the second file ends it
      pub second_stopped : (n : ℕ) (answer : Answer) → ReadsFile {R = S} seen_second (reads_second (seen value))
          (refuses_second (seen value)) second mid new (Err answer)
          → IsCounted (desk_promise judges from_both old.texts) old new n n answer
      second_stopped n answer other = last_stopped (l (seen value)) (means (seen value)) (denies (seen value)) second from_both both_sound old mid second_down seen_second n new answer other

      -- both were judged
      pub both_ended : (given : S) → ReadsFile {R = S} seen_second (reads_second (seen value))
          (refuses_second (seen value)) second mid new (Ok given)
          → (m n : ℕ) (last : Meaning) (judged : Result (Bool × Vec ℕ) (Stop Refusal)) (answer : Answer)
          → Comes (comes (seen value) (seen_second given)) judged
          → IfOk judged (λ t. ByVerdict t.0 (means (seen value) (seen_second given) t.1.items)
          (denies (seen value) (seen_second given))) → Ends judged new last answer → m ≤ n
          → counts (seen value) (seen_second given) m n
          → IsCounted (desk_promise judges from_both old.texts) old last m n answer
      both_ended given other = last_ended (l (seen value)) (means (seen value)) (denies (seen value)) second from_both both_sound old mid second_down seen_second new given other

-- what a yes means, where nothing is said of another verdict
pub of_yes : (verdict : Bool) (M : Type 0) → (verdict ≡ true → M) → ByVerdict verdict M (Unit {0})
of_yes true M m = m refl
of_yes false M m = tt

-- what holds of each verdict
pub meant_always : {T : Type 0} (judged : Result (Bool × T) (Stop Refusal)) (M : Type 0) → IfOk judged (λ t. M) → IfOk judged (λ t. ByVerdict t.0 M (Unit {0}))
meant_always (Ok t) M m = of_yes t.0 M (λ e. m)
meant_always (Err stop) M m = tt

pub meant_anyway : (judged : Result (Bool × Vec ℕ) (Stop Refusal)) (M : Type 0) → M → IfOk judged (λ t. ByVerdict t.0 M (Unit {0}))
meant_anyway (Ok t) M m = of_yes t.0 M (λ e. m)
meant_anyway (Err stop) M m = tt

-- ---- what a yes says

-- what a text of a file says
pub text_so : {P Q : List ℕ → Type 0} (found : Option (List ℕ)) → ((text : List ℕ) → P text → Q text) → IsSomeAnd found P → IsSomeAnd found Q
text_so None so h = h
text_so (Some text) so h = so text h

-- where it means something, the file says a value, of which that is so
module _ {V : Type 0} (reads : List ℕ → V → Type 0) (refuses : List ℕ → List ℕ → Type 0) (texts : Texts) (file : List ℕ) (next : V → Promise) (bytes : List ℕ) where
  value_at : (r : Reached V) → Meets reads refuses (option_map (take LIMIT) (texts file)) r
      → (by_reached (texts file) next r).means bytes → (value : V)
      × (IsTextOf texts file (λ text. reads text value) × (next value).means bytes)
  value_at no_text met m = absurd m
  value_at (refused_with line) met m = absurd m
  value_at (has_said value) met m = (value, (met, m))

  pub value_said : (after_file reads refuses texts file next).means bytes → (value : V) × (IsTextOf texts file (λ text. reads text value) × (next value).means bytes)
  value_said h = value_at h.0 h.1.0 h.1.1

-- a yes means this, too, where it follows
pub meant_as : {old new : Meaning} {m n : ℕ} {answer : Answer} (judges : Bool) (told : Texts → Promise)
    (says : Texts → List ℕ → Type 0) (t : Option Texts) → ((texts : Texts) (bytes : List ℕ) → (told texts).means bytes
    → says texts bytes)
    → IsCounted (desk_promise judges told t) old new m n answer → IsCounted (desk_promise judges (λ texts. saying (says texts) (told texts)) t) old new m n answer
meant_as judges told says None so h = h
meant_as judges told says (Some texts) so h =
    let w = h.worked in
    record {
      worked = record {
        status = w.status;
        written = w.written;
        line = w.line;
        quiet = w.quiet;
        left = w.left;
        means = λ e bytes c. so texts bytes (w.means e bytes c);
        denies = w.denies;
        input_later = w.input_later;
        output_later = w.output_later;
        input = w.input;
        output = w.output;
        texts = w.texts;
        told = w.told;
        messages = w.messages;
      };
      known = h.known;
      above = h.above;
      counts = h.counts;
      idle = h.idle;
    }

-- a command that counts no steps, whatever was counted before it
pub at_rest : {p : Promise} {old new : Meaning} {answer : Answer} → ((n : ℕ) → IsCounted p old new n n answer) → IsAtRest p old new answer
at_rest h = record { worked = (h 0).worked; known = (h 0).known; counts = λ n. (h n).counts }
