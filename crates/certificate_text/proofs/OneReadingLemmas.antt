-- A text has one reading where its lines say one value at most.
use Rattle.std.proofs.Common.{◌≡◌, ℕ, List, inl, inr, ap₂}
use Rattle.text_base.specs.declared.fault.TextFault.{TextFault}
use Rattle.text_base.specs.Judged.{IsClean, Rules}
use Rattle.text_base.specs.Reading.{IsRead, lines_of, last_of}
use Rattle.text_base.proofs.JudgedLemmas.{one_outcome}
use Rattle.certificate_text.specs.Readings.{HasOneReading}

module _ {R V : Type 0} (rules : Rules R) (says : List (List ℕ) → V → Type 0) where
  fault_at : ℕ → R → TextFault R
  fault_at line reason = record { reason = reason; line = line }

  pub one_reading : (text : List ℕ) → (IsClean rules (lines_of text) (last_of text) → (v : V) × IsRead rules says text v)
      → ((v w : V) → says (lines_of text) v → says (lines_of text) w → v ≡ w) → HasOneReading rules says text
  unfolding fault_at
  one_reading text clean_said one_said =
      let one = one_outcome rules (lines_of text) (last_of text) in
      record {
        some = elim one.some [
          | inl clean ↦ inl (clean_said clean)
          | inr fault ↦ inr (record { reason = fault.1; line = fault.0 }, fault.2)
        ];
        not_both = λ v fault h f. one.not_both h.clean fault.line fault.reason f;
        one_value = λ v w h g. one_said v w h.said g.said;
        one_fault = λ a b f g.
            let same = one.one_fault a.line b.line a.reason b.reason f g in
            ap₂ fault_at same.0 same.1;
      }
