-- A value is judged by marks as by the values that came.
use Rattle.std.proofs.Common.{◌≡◌, ◌∙◌, ℕ, ◌<◌, Bool, true, false, not, List, [], ◌∷◌, get_or, Option, Some, None, Result, Ok, Err, refl, sym}
use Rattle.std.specs.Prelude.{IfErr, OnOk, unwrap_or, nat_le, ◌^◌, ◌==◌, ◌||◌, ◌&&◌, is_none, length}
use Rattle.std.specs.Option.{option_map_or}
use Rattle.std.proofs.lemmas.Bool.{ltb-true, not-false}
use Rattle.text_base.specs.Judged.{first_reason}
use Rattle.exact_numbers.specs.Numbers.{are_digits, dec_of, whole_of, is_whole}
use Rattle.sol_files.specs.declared.fault.Refusal.{Refusal}
use Rattle.sol_files.specs.declared.fault.Refusal.TheVariants.{Here}
use Rattle.sol_files.specs.declared.fault.SolReason.{SolReason}
use Rattle.sol_files.specs.declared.fault.SolReason.TheVariants.{BadLine, BadNumber, IndexOut, RepeatedIndex, TooLarge}
use Rattle.sol_files.specs.Rows.{Row, number_in}
use Rattle.text_base.specs.Words.{word_at}
use Rattle.sol_files.specs.Standing.{Standing}
use Rattle.sol_files.specs.Tests.{Tests, is_below, has_index, index_limit, last_kind, last_values, value_tests}
use Rattle.nl_model.specs.SuffixKinds.{wants_whole}
use Rattle.sol_files.specs.InsideJudging.{marked_value_tests}
use Rattle.sol_files.specs.InsideHeld.{AreMarked}

-- the fifth test matters only where the third fails
third_first : (t1 t2 t3 t4 a b c : Bool) (r1 r2 r3 r4 r5 r6 : Refusal) → (t3 ≡ false → a ≡ b)
    → first_reason ((t1, r1) ∷ (t2, r2) ∷ (t3, r3) ∷ (t4, r4) ∷ (a, r5) ∷ (c, r6) ∷ []) ≡ first_reason ((t1, r1) ∷ (t2, r2) ∷ (t3, r3) ∷ (t4, r4) ∷ (b, r5) ∷ (c, r6) ∷ [])
third_first t1 t2 true t4 a b c r1 r2 r3 r4 r5 r6 h = refl
third_first t1 t2 false t4 a b c r1 r2 r3 r4 r5 r6 h = rw (h refl) refl

pub is_number : (limit : ℕ) (o : Option ℕ) → is_below limit o ≡ true → unwrap_or o 0 < limit
is_number limit None e = absurd cc
is_number limit (Some n) e = ltb-true n limit e

pub judged : (s : Standing) (m : List Bool) (limit : ℕ) (whole_only : Bool) (count : ℕ) (words : Row)
    → AreMarked s.sol m → limit ≡ index_limit s.sol → whole_only ≡ wants_whole (last_kind s.sol.suffixes)
    → count ≡ s.value_count
    → first_reason (marked_value_tests limit whole_only m count words) ≡ first_reason (value_tests s words)
judged s m limit whole_only count words h e f g =
    let value = dec_of (word_at words 1) in
    rw (e, f, g)
    (third_first (not (length words == 2)) (not (are_digits (word_at words 0))) (not (is_below (index_limit s.sol) (whole_of (word_at words 0))))
    (is_none value || (wants_whole (last_kind s.sol.suffixes) && not (option_map_or is_whole value true)))
    (get_or m (number_in words 0) false) (has_index (last_values s.sol.suffixes) (number_in words 0)) (nat_le (2 ^ 22) s.value_count)
    (Here BadLine) (Here BadNumber) (Here IndexOut) (Here BadNumber) (Here RepeatedIndex) (Here TooLarge)
    (λ fine. h.each (number_in words 0) (is_number (index_limit s.sol) (whole_of (word_at words 0)) (not-false _ fine))))

-- what is said of one list of tests holds of another with the same first reason
pub judged_ok : {A : Type 0} (r : Result A SolReason) (xs ys : Tests) → first_reason xs ≡ first_reason ys → OnOk r (first_reason xs ≡ None) → OnOk r (first_reason ys ≡ None)
judged_ok (Ok x) xs ys e h = sym e ∙ h
judged_ok (Err stop) xs ys e h = tt

pub judged_err : {A : Type 0} (r : Result A SolReason) (xs ys : Tests) → first_reason xs ≡ first_reason ys
    → IfErr r (λ reason. first_reason xs ≡ Some (Here reason)) → IfErr r (λ reason. first_reason ys ≡ Some (Here reason))
judged_err (Ok x) xs ys e h = tt
judged_err (Err reason) xs ys e h = sym e ∙ h
