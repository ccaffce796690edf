-- Entries of the last column, one after the other.
use Rattle.std.proofs.Common.{◌≡◌, ◌∙◌, ℕ, ◌+◌, ◌<◌, ◌≤◌, true, List, [], ◌∷◌, ◌++◌, length, drop, refl, sym, ap, arith, subst, append_assoc, length-append}
use Rattle.std.proofs.lemmas.List.{drop_at}
use Rattle.exact_numbers.specs.declared.dec.Dec.{Dec}
use Rattle.mps_model.specs.declared.kinds.BoundKind.{BoundKind}
use Rattle.mps_words.specs.declared.keyword.Keyword.{Keyword}
use Rattle.mps_words.specs.InsideCodes.{IsFound}
use Rattle.mps_words.specs.InsideFronts.{IsNumberText}
use Rattle.mps_reader.specs.InsideHeld.{Held, IsKept, IsSound, program}
use Rattle.mps_reader.specs.InsideLines.{IsColumnBound, IsNext, IsRowPair, TakesLines}
use Rattle.mps_reader.specs.Saying.{needs_number}
use Rattle.mps_reader.proofs.FrontLines.{goes_on, line, next_taken, parted, row_there, with_number}

-- a short name, and what stands behind it in a record
pub found_number : (names : List (List ℕ)) (kind : BoundKind) (text behind rest : List ℕ) (place : ℕ) (value : Dec)
    → needs_number kind ≡ true → IsFound names text 32 place behind → IsNumberText behind value rest
    → IsColumnBound names kind text place value rest
found_number names kind text behind rest place value needs f n =
    record { name = f.name; bound = with_number kind text f.name value rest needs (record { number = behind; parts = f.parts; is_name = f.is_name; of_number = n }); at = f.at }

-- it is a row of the program
pub pair_there : (h : Held) (behind rest : List ℕ) (row : ℕ) (value : Dec) → IsKept h → IsRowPair h.rows behind row value rest → row < length (program h).rows
pair_there h behind rest row value kept p = row_there h p.name row kept p.at

-- ---- one after the other

-- lines at the front of a text were taken, and this follows
pub record HasTaken (old : Held) (text rest : List ℕ) (lines : ℕ) (new : Held) : Type 0 where
  pub before : List ℕ
  pub parts : text ≡ before ++ rest
  pub few : lines ≤ length before
  pub takes : TakesLines old text (record { len = length before; lines = lines }) new
  pub sound : IsSound new

module _ (k : Keyword) (old mid g new : Held) (text rest left : List ℕ) (lines : ℕ) (t : HasTaken old text rest lines mid) (e : IsNext k mid g rest left) where
  abbrev whole : List ℕ
  whole = line k mid g rest left e ++ 10 ∷ []

  one : length whole ≡ length (line k mid g rest left e) + 1
  one = length-append (line k mid g rest left e) (10 ∷ [])

  size : length rest ≡ length whole + length left
  size = ap length (parted k mid g rest left e) ∙ length-append whole left

  pub less : length left < length rest
  less = omega (arith, one, size)

  behind_is : rest ≡ drop (length t.before) text
  behind_is = sym (ap (drop (length t.before)) t.parts ∙ drop_at t.before rest (length t.before) refl)

  pub one_before : new ≡ g → IsKept new → HasTaken old text left (lines + 1) new
  one_before is kept =
      let next = next_taken k mid g new rest left (length whole) e t.sound is kept (omega (arith, size)) in
      let both = length-append t.before whole in
      record {
        before = t.before ++ whole;
        parts = t.parts ∙ ap (λ bs. t.before ++ bs) (parted k mid g rest left e) ∙ sym (append_assoc t.before whole left);
        few = omega (arith, t.few, one, both);
        takes = subst (λ (n : ℕ). TakesLines old text (record { len = n; lines = lines + 1 }) new) (sym both)
            (goes_on old mid new text rest (record { len = length t.before; lines = lines }) (record { len = length whole; lines = 1 }) t.takes behind_is next.0);
        sound = next.1;
      }
