-- The names that a text lists can be the names of a program.
use Rattle.std.proofs.Common.{◌≡◌, ℕ, ◌+◌, ◌==◌, ◌<◌, ◌^◌, Bool, true, false, not, List, [], ◌∷◌, ◌++◌, length, Option, Some, None, refl, sym, subst, arith}
use Rattle.std.specs.Prelude.{is_some, nat_le, nat_lt, if◌then◌else◌}
use Rattle.std.proofs.lemmas.Bool.{ltb-true, not-false}
use Rattle.std.proofs.lemmas.List.{take_all}
use Rattle.std.proofs.lemmas.List.Elements.{All-nil}
use Rattle.text_base.specs.Judged.{IsClean, Last, first_reason}
use Rattle.text_base.specs.Names.{IsName, is_name, place_of}
use Rattle.text_base.specs.Words.{word_at, words_of}
use Rattle.text_base.proofs.FirstReasons.{none_head}
use Rattle.text_base.proofs.JudgedLemmas.{clean_keeps}
use Rattle.text_base.proofs.NameTests.{tested_name}
use Rattle.exact_numbers.specs.SpelledLemmas.{second_of_both}
use Rattle.mps_model.specs.Names.{AreNames, is_reserved}
use Rattle.name_files.specs.Names.{Counts, Standing, Tests, is_sole_name, is_used, line_reason, name_rules, name_tests, names_of, standing, tests_if, used_names, used_tests, with_name}
use Rattle.name_files.specs.declared.fault.NameReason.TheVariants.{BadName, OtherCount, Repeated, Reserved}
use Rattle.name_files.proofs.GrammarLemmas.{standing-more, standing-same}
use Rattle.mps_model.proofs.NameLemmas.{names_more}

none_there : (o : Option ℕ) → is_some o ≡ false → o ≡ None
none_there None e = refl
none_there (Some i) e = absurd cc

-- one name more, which passed its tests
with_more : (c : Counts) (s : Standing) (words : List (List ℕ)) → c.used < 2 ^ 32 → AreNames s.names → first_reason (name_tests c s words) ≡ None → AreNames (with_name c s (word_at words 0)).names
unfolding name_tests
with_more c s words room are fine =
    let last : Tests = tests_if (is_used c s) (used_tests s (word_at words 0)) in
    let after = none_head (nat_le (c.used + c.further) s.count) OtherCount ((not (is_sole_name words), BadName) ∷ last) fine in
    let sole = none_head (not (is_sole_name words)) BadName last after.1 in
    by (is_used c s) refl (not-false (is_sole_name words) sole.0) sole.1
  where
    by : (used : Bool) → nat_lt (length s.names) c.used ≡ used → is_sole_name words ≡ true → first_reason (tests_if used (used_tests s (word_at words 0))) ≡ None
        → AreNames (if used then s.names ++ word_at words 0 ∷ [] else s.names)
    by true e sole tests =
        let word : List ℕ = word_at words 0 in
        let reserved = none_head (is_reserved word) Reserved ((is_some (place_of s.names word), Repeated) ∷ []) tests in
        let repeated = none_head (is_some (place_of s.names word)) Repeated [] reserved.1 in
        let name : is_name word ≡ true = second_of_both (length words == 1) (is_name word) sole in
        let less = ltb-true (length s.names) c.used e in
        let few : length s.names + 1 < 2 ^ 32 = omega (arith, less, room) in
        names_more s.names word are (none_there (place_of s.names word) repeated.0) few (tested_name word name) reserved.0
    by false e sole tests = are

-- one line more
step : (c : Counts) (before : List (List ℕ)) (line : List ℕ) → c.used < 2 ^ 32 → AreNames (standing c before).names
    → line_reason c (standing c before) (words_of line) ≡ None → AreNames (standing c (before ++ line ∷ [])).names
unfolding line_reason
step c before line room are fine = by (length (words_of line) == 0) refl fine
  where
    by : (b : Bool) → (length (words_of line) == 0) ≡ b → (if b then None else first_reason
        (name_tests c (standing c before) (words_of line))) ≡ None → AreNames (standing c (before ++ line ∷ [])).names
    by true e h = subst (λ (s : Standing). AreNames s.names) (sym (standing-same c before line e)) are
    by false e h = subst (λ (s : Standing). AreNames s.names) (sym (standing-more c before line e)) (with_more c (standing c before) (words_of line) room are h)

no_names : (c : Counts) → AreNames (standing c []).names
unfolding names_of
no_names c = subst AreNames (sym (take_all c.used [] (omega arith)))
    (record {
      few = omega arith;
      named = All-nil IsName;
      apart = λ i j d lt within. absurd (omega arith);
      free =
          All-nil (λ n. is_reserved n ≡ false);
    })

-- lines that have no fault list names
pub listed_names : (c : Counts) (lines : List (List ℕ)) (last : Last) → c.used < 2 ^ 32 → IsClean (name_rules c) lines last → AreNames (used_names c lines)
listed_names c lines last room clean = clean_keeps (name_rules c) (λ ls. AreNames (standing c ls).names) last lines
    (λ before rest line is fine are. step c before line room are fine) (no_names c) clean
