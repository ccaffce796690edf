-- What taking a line of each kind does to the whole.
use Rattle.std.proofs.Common.{◌≡◌, ◌∙◌, ℕ, Bool, true, false, cond, eqb, List, length, Option, Some, None, Result, Ok, Err, refl, sym, ap, subst, arith}
use Rattle.text_base.specs.Judged.{Takes, first_reason}
use Rattle.text_base.specs.Names.{is_name}
use Rattle.text_base.specs.Words.{row_of, word_at}
use Rattle.text_base.specs.declared.stop.Stop.{Stop}
use Rattle.text_base.specs.declared.stop.Stop.TheVariants.{Fault, Memory}
use Rattle.exact_numbers.specs.declared.dec.Dec.{Dec}
use Rattle.exact_numbers.specs.Numbers.{dec_of}
use Rattle.nl_model.specs.declared.suffix.Suffix.{Suffix}
use Rattle.nl_model.specs.SuffixKinds.{objects_of}
use Rattle.std.proofs.lemmas.Bool.{eq-eqb}
use Rattle.answer_file.specs.declared.fault.AnswerReason.{AnswerReason}
use Rattle.answer_file.specs.declared.keyword.Keyword.{Keyword}
use Rattle.answer_file.specs.declared.target.Target.{Target}
use Rattle.answer_file.specs.declared.target.Target.TheVariants.{Tied, Place}
use Rattle.answer_file.specs.Names.{Setting, object_target}
use Rattle.answer_file.specs.Entries.{keyword_of, kind_in, at_place, suffix_entry, suffix_in, entry_by, entry_in}
use Rattle.answer_file.specs.Grammar.{Standing, object_tests, kind_tests, suffix_tests, tests_by, row_tests, line_tests, first_tests}
use Rattle.answer_file.specs.Suffixes.{suffix_named}
use Rattle.answer_file.specs.Steps.{with_object, with_said, after}

-- ---- a value of a suffix

said-object : (st : Standing) (kind : ℕ) (name : List ℕ) (target : Option Target) (value : Option Dec)
    → record st { suffixes = with_object st.suffixes kind name target value }
    ≡ with_said st (at_place (suffix_entry kind name) target value)
said-object st kind name None value = refl
said-object st kind name (Some Tied) value = refl
said-object st kind name (Some (Place i)) None = refl
said-object st kind name (Some (Place i)) (Some v) = refl

-- the tests of words whose number, name and kind are in order
tests-left : (s : Setting) (suffixes : List Suffix) (words : List (List ℕ)) (kind : ℕ) → length words ≡ 5 → is_name (word_at words 2) ≡ true → kind_in words ≡ Some kind
    → first_reason (suffix_tests s suffixes words) ≡ first_reason (kind_tests s suffixes words (Some kind))
unfolding suffix_tests
tests-left s suffixes words kind five named is = rw (eq-eqb (length words) 5 five, named, is) refl

object-taken : (s : Setting) (st : Standing) (words : List (List ℕ)) (kind : ℕ)
    (r : Result (Unit {0}) (Stop AnswerReason)) (table : List Suffix) → length words ≡ 5
    → is_name (word_at words 2) ≡ true → kind_in words ≡ Some kind
    → Takes (kind_tests s st.suffixes words (Some kind)) (with_object st.suffixes kind (word_at words 2) (object_target s (objects_of kind) (word_at words 3)) (dec_of (word_at words 4))) r table
    → Takes (suffix_tests s st.suffixes words) (with_said st (suffix_in s words (kind_in words))) r (record st { suffixes = table })
object-taken s st words kind (Ok u) table five named is h = (
  tests-left s st.suffixes words kind five named is ∙ h.0,
  ap (λ ss. record st { suffixes = ss }) h.1
      ∙ said-object st kind (word_at words 2) (object_target s (objects_of kind) (word_at words 3)) (dec_of (word_at words 4))
      ∙ ap (λ k. with_said st (suffix_in s words k)) (sym is),
)
object-taken s st words kind (Err (Fault reason)) table five named is h = tests-left s st.suffixes words kind five named is ∙ h
object-taken s st words kind (Err Memory) table five named is h = tt

pub suffix-taken : (s : Setting) (view st : Standing) (words : List (List ℕ)) (name : List ℕ) (kind : ℕ)
    (target : Option Target) (value : Option Dec) (r : Result (Unit {0}) (Stop AnswerReason)) (table : List Suffix)
    → view ≡ st → length words ≡ 5 → name ≡ word_at words 2 → is_name name ≡ true → kind_in words ≡ Some kind
    → target ≡ object_target s (objects_of kind) (word_at words 3) → value ≡ dec_of (word_at words 4)
    → Takes (object_tests view.suffixes kind (suffix_named view.suffixes kind name) target value) (with_object view.suffixes kind name target value) r table
    → Takes (suffix_tests s st.suffixes words) (with_said st (suffix_in s words (kind_in words))) r (record view { suffixes = table })
suffix-taken s view st words name kind target value r table same five second named is object third h =
    rw (← same) (object-taken s view words kind r table five (ap is_name (sym second) ∙ named) is (rw (second, object, third) at h))

-- ---- a row

pub row-taken : (s : Setting) (st new : Standing) (line : List ℕ) (words : List (List ℕ)) (word : List ℕ)
    (k : Option Keyword) (r : Result (Unit {0}) (Stop AnswerReason)) → words ≡ row_of line → word ≡ word_at words 0
    → keyword_of word ≡ k
    → Takes (tests_by s st line words k) (with_said st (entry_by s line words k)) r new → Takes (row_tests s st line) (with_said st (entry_in s line)) r new
unfolding row_tests entry_in
row-taken s st new line words word k r same first is h =
    rw (← same, ← first, is) h

-- ---- a line

pub blank-taken : (s : Setting) (st : Standing) (line : List ℕ) → length (row_of line) ≡ 0 → Takes (line_tests s st line) (after s st line) (Ok tt) st
unfolding line_tests after
blank-taken s st line e = rw (eq-eqb (length (row_of line)) 0 e) (refl, refl)

some_words : (n : ℕ) → (n ≡ 0 → ⊥) → eqb n 0 ≡ false
some_words n ne = grind arith

pub first-taken : (s : Setting) (st new : Standing) (line : List ℕ) (words : List (List ℕ))
    (r : Result (Unit {0}) (Stop AnswerReason)) → words ≡ row_of line → (length words ≡ 0 → ⊥) → st.begun ≡ false
    → Takes (first_tests words) (record st { begun = true }) r new → Takes (line_tests s st line) (after s st line) r new
unfolding line_tests after
first-taken s st new line words r same some begun h =
    let none : eqb (length (row_of line)) 0 ≡ false = some_words (length (row_of line)) (λ e. some (ap length same ∙ e)) in
    rw (none, begun, ← same) h

pub later-taken : (s : Setting) (st new : Standing) (line : List ℕ) (words : List (List ℕ)) (r : Result (Unit {0}) (Stop AnswerReason)) → words ≡ row_of line → (length words ≡ 0 → ⊥) → st.begun ≡ true
    → Takes (row_tests s st line) (with_said st (entry_in s line)) r new → Takes (line_tests s st line) (after s st line) r new
unfolding line_tests after
later-taken s st new line words r same some begun h =
    let none : eqb (length (row_of line)) 0 ≡ false = some_words (length (row_of line)) (λ e. some (ap length same ∙ e)) in
    rw none (subst (λ (b : Bool). Takes (cond b (row_tests s st line) (first_tests (row_of line))) (cond b (with_said st (entry_in s line)) (record st { begun = true })) r new) (sym begun) h)
