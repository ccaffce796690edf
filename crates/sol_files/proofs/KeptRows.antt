-- What is kept by rows of numbers.
use Rattle.std.proofs.Common.{◌≡◌, ℕ, ◌+◌, ◌-◌, ◌<◌, ◌≤◌, ◌^◌, ℤ, pos, Bool, true, false, not, ◌&&◌, ◌||◌, cond, List, [], ◌∷◌, ◌++◌, length, Option, Some, None, inl, inr, refl, arith, ◌==◌, nat_lt}
use Rattle.std.specs.Prelude.{IfSome, is_none}
use Rattle.std.specs.Ordering.{int_eq}
use Rattle.std.proofs.lemmas.Bool.{ltb-true, ltb-false, eqb-true, not-false}
use Rattle.std.proofs.lemmas.List.{length_push}
use Rattle.exact_numbers.specs.Numbers.{are_digits, dec_of, has_31_bits, signed_of, whole_of}
use Rattle.exact_numbers.proofs.NumberLemmas.{signed_of-fits}
use Rattle.nl_model.specs.Options.{has_second_three}
use Rattle.sol_files.specs.declared.fault.Refusal.{Refusal}
use Rattle.sol_files.specs.declared.awaited.Awaited.TheVariants.{OptionCount, Options, Constraints, DualCount, Variables, PrimalCount, Duals, Primals}
use Rattle.text_base.specs.Words.{word_at}
use Rattle.sol_files.specs.Rows.{Row, number_in}
use Rattle.sol_files.specs.Progress.{Progress, kind_of, seen}
use Rattle.sol_files.specs.declared.suffix.SolSuffix.{SolSuffix}
use Rattle.sol_files.specs.declared.fault.Refusal.TheVariants.{Here}
use Rattle.sol_files.specs.declared.fault.SolReason.TheVariants.{BadLine, BadNumber, Options as BadOptions}
use Rattle.sol_files.specs.Built.{IsEmptyOrFull, AreGiven, with_dual, with_primal}
use Rattle.sol_files.specs.Written.{IsSignedPair}
use Rattle.sol_files.specs.Tests.{row_tests, is_below, is_given_count, is_three}
use Rattle.text_base.specs.Judged.{first_reason}
use Rattle.sol_files.specs.Steps.{after_row, options_await, values_await}
use Rattle.sol_files.specs.InsideHeld.{HasNoValues, IsReadyAt}
use Rattle.sol_files.proofs.ReadyLemmas.{ready_counts, ready_dual, ready_primal}
use Rattle.sol_files.proofs.Kept.{Speaks, HasOptions, HasNoSuffixes, HasSuffixes, NoneBegun, KeptAt, KeepsAt, Keeps}
use Rattle.sol_files.proofs.JudgingLemmas.{is_number}
use Rattle.text_base.proofs.AllLemmas.{all_push}

-- ---- tests without a reason

pub fine_next : (b : Bool) (r : Refusal) (o : Option Refusal) → cond b (Some r) o ≡ None → (b ≡ false) × (o ≡ None)
fine_next true r o e = absurd cc
fine_next false r o e = (refl, e)

pub record IsThere {A : Type 0} (o : Option A) : Type 0 where
  pub value : A
  pub is : o ≡ Some value

pub is_there : {A : Type 0} (o : Option A) → is_none o ≡ false → IsThere o
is_there None e = absurd cc
is_there (Some x) e = record { value = x; is = refl }

-- ---- options

await_options : (s : Progress) (n : ℕ) → Speaks s.sol.message s.is_held_back → HasOptions n s.sol.options
    → s.sol.n_con ≤ 2 ^ 20 → s.sol.n_var ≤ 2 ^ 20 → IfSome s.sol.objno IsSignedPair → HasNoValues s.sol × NoneBegun s
    → KeepsAt (options_await n) s
unfolding KeptAt
await_options s n said options con var objno none = by (nat_lt 0 n) refl
  where
    by : (b : Bool) → nat_lt 0 n ≡ b → KeepsAt (options_await n) s
    by true e = rw e (record { said = said; options = options; n_con = con; n_var = var; objno = objno; rest = (ltb-true 0 n e, none) })
    by false e =
        let last = ltb-false 0 n e in
        let room = options.room in
        rw e (record { said = said; options = record { each = options.each; second = options.second; room = omega (arith, last, room) }; n_con = con; n_var = var; objno = objno; rest = none })

pub kept_count : (s : Progress) (words : Row) → KeepsAt OptionCount s → first_reason (row_tests (kind_of OptionCount) (seen s) words) ≡ None → Keeps (after_row OptionCount s words)
unfolding row_tests after_row KeptAt
kept_count s words h f =
    let one = fine_next (not (length words == 1)) (Here BadLine) _ f in
    let two = fine_next (not (are_digits (word_at words 0))) (Here BadNumber) _ one.1 in
    let three = fine_next (not (is_below 10 (whole_of (word_at words 0)))) (Here BadOptions) None two.1 in
    let less = is_number 10 (whole_of (word_at words 0)) (not-false _ three.0) in
    let room = h.options.room in
    await_options (record s { awaited = options_await (number_in words 0) }) (number_in words 0) h.said
    (record { each = h.options.each; second = h.options.second; room = omega (arith, less, room) }) h.n_con h.n_var h.objno (record { duals = h.rest.0.duals; primals = h.rest.0.primals }, h.rest.1)

second_kept : (os : List ℤ) (z : ℤ) → has_second_three os ≡ false → ((length os == 1) && int_eq z (pos 3)) ≡ false → has_second_three (os ++ z ∷ []) ≡ false
second_kept [] z h e = refl
second_kept (a ∷ []) z h e = e
second_kept (a ∷ b ∷ os) z h e = h

pub kept_option : (s : Progress) (left : ℕ) (words : Row) → KeepsAt (Options left) s
    → first_reason (row_tests (kind_of (Options left)) (seen s) words) ≡ None → Keeps (after_row (Options left) s words)
unfolding row_tests after_row KeptAt
kept_option s left words h f =
    let some = h.rest.0 in
    let one = fine_next (not (length words == 1)) (Here BadLine)
    (first_reason ((is_none (signed_of (word_at words 0)), Here BadNumber)
    ∷ ((length s.sol.options == 1) && is_three (signed_of (word_at words 0)), Here BadOptions) ∷ [])) f in
    let two = fine_next (is_none (signed_of (word_at words 0))) (Here BadNumber) (first_reason (((length s.sol.options == 1) && is_three (signed_of (word_at words 0)), Here BadOptions) ∷ [])) one.1 in
    let there = is_there (signed_of (word_at words 0)) two.0 in
    let left_test : first_reason (((length s.sol.options == 1) && is_three (Some there.value), Here BadOptions) ∷ []) ≡ None = rw there.is at two.1 in
    let second = fine_next ((length s.sol.options == 1) && int_eq there.value (pos 3)) (Here BadOptions) None left_test in
    let z = there.value in
    let room = h.options.room in
    let more = length_push s.sol.options z in
    let next : Progress = record s { awaited = options_await (left - 1); sol = record s.sol { options = s.sol.options ++ z ∷ [] } } in
    rw there.is (await_options next (left - 1) h.said
    (record {
      each = all_push (λ x. has_31_bits x ≡ true) s.sol.options z h.options.each
          (signed_of-fits (word_at words 0) z there.is);
      second = second_kept s.sol.options z h.options.second second.0;
      room = omega (arith, room, more, some);
    })
    h.n_con h.n_var h.objno (record { duals = h.rest.1.0.duals; primals = h.rest.1.0.primals }, h.rest.1.1))

-- ---- sizes

pub size_less : (words : Row) (more : Option Refusal) (a b c : Refusal)
    → cond (not (length words == 1)) (Some a) (cond (not (are_digits (word_at words 0))) (Some b)
    (cond (not (is_below (2 ^ 20 + 1) (whole_of (word_at words 0)))) (Some c) more)) ≡ None
    → (number_in words 0 < 2 ^ 20 + 1) × (more ≡ None)
size_less words more a b c f =
    let one = fine_next (not (length words == 1)) a _ f in
    let two = fine_next (not (are_digits (word_at words 0))) b _ one.1 in
    let three = fine_next (not (is_below (2 ^ 20 + 1) (whole_of (word_at words 0)))) c more two.1 in
    (is_number (2 ^ 20 + 1) (whole_of (word_at words 0)) (not-false _ three.0), three.1)

pub kept_constraints : (s : Progress) (words : Row) → KeepsAt Constraints s → first_reason (row_tests (kind_of Constraints) (seen s) words) ≡ None → Keeps (after_row Constraints s words)
unfolding row_tests after_row KeptAt
kept_constraints s words h f =
    let less = (size_less words _ _ _ _ f).0 in
    record { said = h.said; options = h.options; n_con = omega (arith, less); n_var = h.n_var; objno = h.objno; rest = (record { duals = h.rest.0.duals; primals = h.rest.0.primals }, h.rest.1) }

is_given : (full n : ℕ) → is_given_count full n ≡ true → IsEmptyOrFull full n
is_given full n h = by (n == 0) refl h
  where
    by : (b : Bool) → (n == 0) ≡ b → (b || (n == full)) ≡ true → IsEmptyOrFull full n
    by true e g = inl (eqb-true n 0 e)
    by false e g = inr (eqb-true n full g)

pub kept_dual_count : (s : Progress) (words : Row) → KeepsAt DualCount s → first_reason (row_tests (kind_of DualCount) (seen s) words) ≡ None → Keeps (after_row DualCount s words)
unfolding row_tests after_row KeptAt
kept_dual_count s words h f =
    let given = is_given s.sol.n_con (number_in words 0) (not-false _ (fine_next _ _ _ (size_less words _ _ _ _ f).1).0) in
    record {
      said = h.said;
      options = h.options;
      n_con = h.n_con;
      n_var = h.n_var;
      objno = h.objno;
      rest =
          (record { none = record { duals = h.rest.0.duals; primals = h.rest.0.primals }; count = given }, h.rest.1);
    }

pub kept_variables : (s : Progress) (words : Row) → KeepsAt Variables s → first_reason (row_tests (kind_of Variables) (seen s) words) ≡ None → Keeps (after_row Variables s words)
unfolding row_tests after_row KeptAt
kept_variables s words h f =
    let less = (size_less words _ _ _ _ f).0 in
    let old = h.rest.0 in
    record {
      said = h.said;
      options = h.options;
      n_con = h.n_con;
      n_var = omega (arith, less);
      objno = h.objno;
      rest =
          (record { none = record { duals = old.none.duals; primals = old.none.primals }; count = old.count }, h.rest.1);
    }

-- ---- values

none_yet : (n_var n_con : ℕ) (suffixes : List SolSuffix) (c t v : ℕ) → HasNoSuffixes suffixes c t v → HasSuffixes 0 0 n_var n_con suffixes c t v
none_yet n_var n_con suffixes c t v h =
    let none : HasSuffixes 0 0 n_var n_con [] 0 0 0 = record {
      each = tt;
      begun = omega arith;
      begun_room = omega arith;
      tables = omega arith;
      table_room = omega arith;
      values = omega arith;
      value_room = omega arith;
    } in
    rw (h.none, h.begun, h.tables, h.values) none

keeps_values : (s : Progress) (d p : ℕ) → Speaks s.sol.message s.is_held_back → HasOptions 0 s.sol.options
    → s.sol.n_con ≤ 2 ^ 20 → s.sol.n_var ≤ 2 ^ 20 → IfSome s.sol.objno IsSignedPair → IsReadyAt (values_await d p) s []
    → NoneBegun s → KeepsAt (values_await d p) s
unfolding KeptAt IsReadyAt
keeps_values s d p said options con var objno h none = by (nat_lt 0 d) (nat_lt 0 p) refl refl
  where
    by : (b c : Bool) → nat_lt 0 d ≡ b → nat_lt 0 p ≡ c → KeepsAt (values_await d p) s
    by true c q r = rw q (record { said = said; options = options; n_con = con; n_var = var; objno = objno; rest = (rw q at h, none) })
    by false true q r = rw (q, r) (record { said = said; options = options; n_con = con; n_var = var; objno = objno; rest = (rw (q, r) at h, none) })
    by false false q r =
        let given : AreGiven s.sol = rw (q, r) at h in
        rw (q, r) (record {
          said = said;
          options = options;
          n_con = con;
          n_var = var;
          objno = objno;
          rest = (
            record { duals_given = given.duals; primals_given = given.primals },
            none_yet s.sol.n_var s.sol.n_con s.sol.suffixes s.suffix_count s.table_count s.value_count none,
          );
        })

pub kept_primal_count : (s : Progress) (words : Row) → KeepsAt PrimalCount s → first_reason (row_tests (kind_of PrimalCount) (seen s) words) ≡ None → Keeps (after_row PrimalCount s words)
unfolding row_tests after_row KeptAt
kept_primal_count s words h f =
    let given = is_given s.sol.n_var (number_in words 0) (not-false _ (fine_next _ _ _ (size_less words _ _ _ _ f).1).0) in
    let next : Progress = record s { awaited = values_await s.dual_count (number_in words 0); primal_count = number_in words 0 } in
    keeps_values next s.dual_count (number_in words 0) h.said h.options h.n_con h.n_var h.objno
    (ready_counts next [] (values_await s.dual_count (number_in words 0)) refl (record { duals = h.rest.0.none.duals; primals = h.rest.0.none.primals }) h.rest.0.count given) h.rest.1

pub kept_dual : (s : Progress) (left : ℕ) (words : Row) → KeepsAt (Duals left) s → first_reason (row_tests (kind_of (Duals left)) (seen s) words) ≡ None → Keeps (after_row (Duals left) s words)
unfolding row_tests after_row KeptAt
kept_dual s left words h f =
    let one = fine_next (not (length words == 1)) _ _ f in
    let two = fine_next (is_none (dec_of (word_at words 0))) _ _ one.1 in
    let there = is_there (dec_of (word_at words 0)) two.0 in
    let next : Progress = record s { awaited = values_await (left - 1) s.primal_count; sol = with_dual s.sol there.value } in
    rw there.is (keeps_values next (left - 1) s.primal_count h.said h.options h.n_con h.n_var h.objno
    (ready_dual next s [] (values_await (left - 1) s.primal_count) left there.value h.rest.0 refl refl refl refl)
    h.rest.1)

pub kept_primal : (s : Progress) (left : ℕ) (words : Row) → KeepsAt (Primals left) s
    → first_reason (row_tests (kind_of (Primals left)) (seen s) words) ≡ None → Keeps (after_row (Primals left) s words)
unfolding row_tests after_row KeptAt
kept_primal s left words h f =
    let one = fine_next (not (length words == 1)) _ _ f in
    let two = fine_next (is_none (dec_of (word_at words 0))) _ _ one.1 in
    let there = is_there (dec_of (word_at words 0)) two.0 in
    let next : Progress = record s { awaited = values_await 0 (left - 1); sol = with_primal s.sol there.value } in
    rw there.is (keeps_values next 0 (left - 1) h.said h.options h.n_con h.n_var h.objno (ready_primal next s [] (values_await 0 (left - 1)) left there.value h.rest.0 refl refl refl) h.rest.1)
