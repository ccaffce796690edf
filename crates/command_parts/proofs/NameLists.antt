-- Lists of names: each text says one list, or is refused with one line; and how many names there are.
use Rattle.std.proofs.Common.{◌≡◌, ◌∙◌, inl, inr, ℕ, ◌+◌, ◌==◌, ◌≤◌, Bool, true, false, List, length, Option, Some, None, Result, Ok, Err, refl, sym, ap, arith, eqb-true, length-take-le}
use Rattle.std.specs.Prelude.{IfOk, if◌then◌else◌}
use Rattle.std.proofs.lemmas.Bool.{or_cases}
use Rattle.text_base.specs.Desk.{Meaning, Texts}
use Rattle.text_base.specs.Reading.{lines_of}
use Rattle.text_base.proofs.ReadingLemmas.{text_ends}
use Rattle.name_files.specs.Names.{Counts, SaysNames, end_reason, is_full, name_rules, names_of, used_names}
use Rattle.name_files.specs.declared.fault.NameReason.{NameReason}
use Rattle.name_files.specs.declared.fault.NameReason.TheVariants.{OtherCount}
use Rattle.nl_model.specs.File.{File}
use Rattle.nl_model.specs.declared.header_counts.Counts.{Counts as FileCounts}
use Rattle.command_parts.specs.NameLists.{AreListed, IsListRefused, column_counts, row_counts, after_lists}
use Rattle.name_files.specs.Reasons.{name_reason_text}
use Rattle.command_core.specs.Told.{fault_line}
use Rattle.nl_segments.specs.Grammar.{NlValue}
use Rattle.nl_segments.specs.Reader.{IsNl}
use Rattle.command_parts.specs.Refusal.{HasTextRefusal}
use Rattle.command_core.specs.SeveralFiles.{ReadsFile, itself, after_file, desk_promise}
use Rattle.command_core.specs.declared.answer.Answer.{Answer}
use Rattle.command_core.proofs.SeveralFiles.{AreRead, read_by, HasComeDown, IsSound, first_down, first_sound, first_stopped, further, sound_after, stopped}
use Rattle.command_parts.proofs.TextsRead.{nl_read}
use Rattle.command_core.specs.InsideAnswer.{IsCounted}
use Rattle.command_core.specs.Promise.{Promise}

pub list_read : (counts : Counts) (file : ℕ) → AreRead (AreListed counts) (IsListRefused counts file)
list_read counts file = read_by (name_rules counts) (SaysNames counts) (fault_line name_reason_text file) (λ lines. used_names counts lines) (λ lines names h. h) (λ lines. refl)

-- ---- how many names there are

no_reason : (b : Bool) (r : NameReason) → ◌≡◌ {A = Option NameReason} (if b then None else Some r) None → b ≡ true
no_reason true r e = refl
no_reason false r e = absurd cc

enough : (counts : Counts) (n : ℕ) → is_full counts n ≡ true → counts.used ≤ n
enough counts n e = elim (or_cases (n == counts.used) (n == counts.used + counts.further) e) [
  | inl h ↦ let same : n ≡ counts.used = eqb-true n counts.used h in omega (arith, same)
  | inr h ↦ let same : n ≡ counts.used + counts.further = eqb-true n (counts.used + counts.further) h in omega (arith, same)
]

-- a text that ends without a fault has enough names
full_so : (counts : Counts) (lines : List (List ℕ)) → (name_rules counts).at_end lines ≡ None → counts.used ≤ length (names_of lines)
unfolding end_reason
full_so counts lines e = enough counts (length (names_of lines)) (no_reason (is_full counts (length (names_of lines))) OtherCount e)

pub listed_count : (counts : Counts) (text : List ℕ) (names : List (List ℕ)) → AreListed counts text names → length names ≡ counts.used
listed_count counts text names h =
    ap length h.said ∙ length-take-le counts.used (names_of (lines_of text)) (full_so counts (lines_of text) (text_ends (name_rules counts) text h.clean))

-- what was read is a list of so many names
pub count_so : (counts : Counts) (file : ℕ) (name : List ℕ) (old new : Meaning) (r : Result (List (List ℕ)) Answer)
    → ReadsFile itself (AreListed counts) (IsListRefused counts file) name old new r
    → IfOk r (λ names. length names ≡ counts.used)
count_so counts file name old new (Ok names) h = listed_count counts h.judged.bytes names h.judged.says
count_so counts file name old new (Err answer) h = tt

-- the counts of the rows and of the columns of a file with these counts
pub rows_of : (f : File) (counts : FileCounts) → counts ≡ f.counts → row_counts f ≡ record { used = counts.n_con; further = counts.n_obj }
rows_of f counts same = ap (λ (c : FileCounts). record { used = c.n_con; further = c.n_obj }) (sym same)

pub columns_of : (f : File) (counts : FileCounts) → counts ≡ f.counts → column_counts f ≡ record { used = counts.n_var; further = 0 }
columns_of f counts same = ap (λ (c : FileCounts). record { used = c.n_var; further = 0 }) (sym same)

-- ---- a command of a file and its lists of names

module _ (judges : Bool) (number : ℕ) (file rows columns : List ℕ)
    (next : NlValue → Texts → List (List ℕ) → List (List ℕ) → Promise)
    (sound : (nl : NlValue) (texts : Texts) (r c : List (List ℕ)) → IsSound (next nl texts r c)) where
  abbrev after_rows : NlValue → Texts → List (List ℕ) → Promise
  after_rows nl texts r = after_file (AreListed (column_counts nl.file)) (IsListRefused (column_counts nl.file) (number + 1)) texts columns (next nl texts r)

  abbrev after_nl : Texts → NlValue → Promise
  after_nl texts nl = after_lists nl.file number texts rows columns (next nl texts)

  after_nl_sound : (texts : Texts) (nl : NlValue) → IsSound (after_nl texts nl)
  after_nl_sound texts nl =
      sound_after (AreListed (row_counts nl.file)) (IsListRefused (row_counts nl.file) number) (list_read (row_counts nl.file) number) texts rows (after_rows nl texts) (λ r.
      sound_after (AreListed (column_counts nl.file)) (IsListRefused (column_counts nl.file) (number + 1))
      (list_read (column_counts nl.file) (number + 1)) texts columns (next nl texts r) (sound nl texts r))

  abbrev pub listed : Texts → Promise
  listed texts = after_file IsNl HasTextRefusal texts file (after_nl texts)

  pub listed_sound : (texts : Texts) → IsSound (listed texts)
  listed_sound = first_sound nl_read judges after_nl after_nl_sound file

  module _ {R : Type 0} (seen : R → NlValue) (old mid : Meaning) where
    -- the file ends it
    pub nl_stopped : (n : ℕ) (answer : Answer) → ReadsFile {R = R} seen IsNl HasTextRefusal file old mid (Err answer) → IsCounted (desk_promise judges listed old.texts) old mid n n answer
    nl_stopped n answer read = first_stopped nl_read judges after_nl after_nl_sound file seen n old mid answer read

    module _ (value : R) (read : ReadsFile {R = R} seen IsNl HasTextRefusal file old mid (Ok value)) where
      abbrev f : File
      f = (seen value).file

      nl_down : HasComeDown listed judges (λ texts. after_nl texts (seen value)) old mid
      nl_down = first_down nl_read judges after_nl after_nl_sound file seen old mid value read

      -- the list of rows ends it
      pub rows_stopped : (n : ℕ) (new : Meaning) (answer : Answer)
          → ReadsFile {R = List (List ℕ)} itself (AreListed (row_counts f)) (IsListRefused (row_counts f) number) rows mid
          new (Err answer) → IsCounted (desk_promise judges listed old.texts) old new n n answer
      rows_stopped n new answer other = stopped listed judges listed_sound itself (AreListed (row_counts f))
          (IsListRefused (row_counts f) number) rows (after_rows (seen value)) old mid new nl_down n answer other

      module _ (after : Meaning) (r : List (List ℕ)) (named : ReadsFile {R = List (List ℕ)} itself (AreListed (row_counts f)) (IsListRefused (row_counts f) number) rows mid after (Ok r)) where
        pub rows_down : HasComeDown listed judges (λ texts. after_rows (seen value) texts r) old after
        rows_down = further listed judges itself (AreListed (row_counts f)) (IsListRefused (row_counts f) number) rows (after_rows (seen value)) old mid after nl_down r named

        -- the list of columns ends it
        pub columns_stopped : (n : ℕ) (new : Meaning) (answer : Answer)
            → ReadsFile {R = List (List ℕ)} itself (AreListed (column_counts f))
            (IsListRefused (column_counts f) (number + 1)) columns after new (Err answer)
            → IsCounted (desk_promise judges listed old.texts) old new n n answer
        columns_stopped n new answer other =
            stopped listed judges listed_sound itself (AreListed (column_counts f))
            (IsListRefused (column_counts f) (number + 1)) columns (λ texts c. next (seen value) texts r c) old after
            new rows_down n answer other

        pub columns_down : (new : Meaning) (c : List (List ℕ))
            → ReadsFile {R = List (List ℕ)} itself (AreListed (column_counts f))
            (IsListRefused (column_counts f) (number + 1)) columns after new (Ok c)
            → HasComeDown listed judges (λ texts. next (seen value) texts r c) old new
        columns_down new c other = further listed judges itself (AreListed (column_counts f))
            (IsListRefused (column_counts f) (number + 1)) columns (λ texts c. next (seen value) texts r c) old after new
            rows_down c other
