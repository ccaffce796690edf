-- What an answer is returned as keeps the rules of .sol values and the limits of their parts.
use Rattle.std.proofs.Common.{◌≡◌, ◌∙◌, ℕ, ◌<◌, ◌≤◌, ◌^◌, ◌==◌, Bool, true, false, not, ◌&&◌, ◌||◌, nat_le, nat_lt}
use Rattle.std.proofs.Common.{cond, ℤ, pos, List, [], ◌∷◌, length, map, Option, Some, None, is_some, refl, sym, ap}
use Rattle.std.proofs.Common.{arith}
use Rattle.std.specs.Prelude.{IfSome, IsTrue, option_map, sum_by}
use Rattle.std.specs.List.{AllByRecursion, list_all, list_any}
use Rattle.std.proofs.lemmas.Bool.Decides.{nat_tests}
use Rattle.std.proofs.lemmas.Bool.{cond_both, eq-eqb, leb-true, ltb-true, not-true, and_parts, lt-ltb}
use Rattle.std.proofs.lemmas.List.{length-map}
use Rattle.std.proofs.lemmas.List.Sums.{sum_by-cons}
use Rattle.text_base.specs.Names.{has_name_bytes}
use Rattle.text_base.specs.Reading.{lines_of}
use Rattle.exact_numbers.specs.declared.dec.Dec.{Dec}
use Rattle.exact_numbers.specs.Numbers.{has_31_bits, is_whole}
use Rattle.nl_model.specs.File.{File}
use Rattle.nl_model.specs.declared.suffix.Suffix.{Suffix as FileSuffix}
use Rattle.nl_model.specs.declared.suffix_kinds.Objects.{Objects}
use Rattle.nl_model.specs.declared.suffix_kinds.Objects.TheVariants.{Objectives}
use Rattle.nl_model.specs.HeaderRules.{are_counts, are_options, is_header}
use Rattle.nl_model.specs.Options.{has_second_three}
use Rattle.nl_model.specs.Rules.{IsFile}
use Rattle.nl_model.specs.declared.header_counts.Counts.{Counts}
use Rattle.nl_model.proofs.Headers.{counts_of_header}
use Rattle.nl_model.specs.SuffixKinds.{is_for_objectives, object_limit, objects_of, wants_whole, count_among}
use Rattle.answer_file.specs.declared.naming.Naming.{Naming}
use Rattle.answer_file.specs.Names.{Setting, setting_by}
use Rattle.answer_file.specs.Grammar.{AnswerValue, answer_of, standing}
use Rattle.answer_file.specs.Suffixes.{value_count, with_objective}
use Rattle.nl_model.proofs.ObjectLemmas.{for_objectives, for_others}
use Rattle.nl_model.specs.FoldFaults.{has_objective}
use Rattle.sol_files.specs.Sol.{Sol}
use Rattle.sol_files.specs.declared.suffix.SolSuffix.{SolSuffix}
use Rattle.sol_files.specs.Tests.{has_index}
use Rattle.sol_files.specs.Written.{IsSignedPair, IsWritableSuffix, KeepsRules, are_values}
use Rattle.dual_return.specs.Return.{IsAnswerFor, IsReturn, suffix_for}
use Rattle.dual_return.proofs.CountLemmas.{values-given}
use Rattle.dual_return.proofs.SolutionLemmas.{dual-count}
use Rattle.dual_return.proofs.AnswerKept.{answer_kept, status-small, objective-small, IsFine}

-- of the objective there is one value at most
one_value : (w : Bool) (k : ℕ) (ts : List (ℕ × Dec)) → k < 256 → are_values 1 w [] ts ≡ true → are_values 256 w [] (map (λ t. (k, t.1)) ts) ≡ true
unfolding are_values
one_value w k [] small all = refl
one_value w k (t ∷ []) small all =
    let parts = and_parts ((nat_lt t.0 1 && true) && (not w || is_whole t.1)) true all in
    let own = and_parts (nat_lt t.0 1 && true) (not w || is_whole t.1) parts.0 in
    rw (lt-ltb k 256 small, own.1) refl
one_value w k (t ∷ u ∷ ts) small all =
    let parts = and_parts ((nat_lt t.0 1 && true) && (not w || is_whole t.1)) (are_values 1 w (t ∷ []) (u ∷ ts)) all in
    let first = and_parts (nat_lt t.0 1) true (and_parts (nat_lt t.0 1 && true) (not w || is_whole t.1) parts.0).0 in
    let next = and_parts ((nat_lt u.0 1 && not (has_index (t ∷ []) u.0)) && (not w || is_whole u.1)) (are_values 1 w (t ∷ u ∷ []) ts) parts.1 in
    let second = and_parts (nat_lt u.0 1) (not (has_index (t ∷ []) u.0)) (and_parts (nat_lt u.0 1 && not (has_index (t ∷ []) u.0)) (not w || is_whole u.1) next.0).0 in
    absurd (clash t.0 u.0 (ltb-true t.0 1 first.0) (ltb-true u.0 1 second.0) second.1)
  where
    clash : (a b : ℕ) → a < 1 → b < 1 → not (a == b || false) ≡ true → ⊥
    clash a b h k e = absurd (let same = eq-eqb a b (omega (arith, h, k)) in let no_more = rw same at e in cc)

-- a suffix for other objects has the places of a .sol text
other_count : (n m : ℕ) (o : Objects) → (o ≡ Objectives → ⊥) → count_among n m 256 o ≡ count_among n m 1 o
other_count n m Objectives other = absurd (other refl)
other_count n m o other = refl

objective_limit : (n m kind : ℕ) → is_for_objectives kind ≡ true → (object_limit n m 256 kind ≡ 256) × (object_limit n m 1 kind ≡ 1)
objective_limit n m kind e = rw (for_objectives kind e) (refl, refl)

suffix_writable : (s : Setting) (k : ℕ) (x : FileSuffix) → k < 256 → IsFine s x → IsWritableSuffix s.columns (length s.exported) (suffix_for (with_objective k x))
suffix_writable s k x small h = by (is_for_objectives x.kind) refl
  where
    name_short : length x.name ≤ 255
    name_short =
        let front = and_parts (not (length x.name == 0) && nat_le (length x.name) 255) (has_name_bytes x.name) h.name in
        leb-true (length x.name) 255 (and_parts (not (length x.name == 0)) (nat_le (length x.name) 255) front.0).1

    made : (values : List (ℕ × Dec)) → are_values (object_limit s.columns (length s.exported) 256 x.kind) (wants_whole x.kind) [] values ≡ true
        → IsWritableSuffix s.columns (length s.exported) (suffix_for (record { kind = x.kind; name = x.name; values = values }))
    made values all = record {
      kind = omega (arith, h.kind);
      name = h.name;
      name_len = let most = name_short in omega (arith, most);
      table_len = omega arith;
      table = tt;
      values = all;
    }

    by : (b : Bool) → is_for_objectives x.kind ≡ b → IsWritableSuffix s.columns (length s.exported)
        (suffix_for (cond b (record { kind = x.kind; name = x.name; values = map (λ t. (k, t.1)) x.values }) x))
    by true e =
        let limits = objective_limit s.columns (length s.exported) x.kind e in
        made (map (λ t. (k, t.1)) x.values) (rw limits.0 (one_value (wants_whole x.kind) k x.values small (rw limits.1 at h.values)))
    by false e = made x.values (rw (other_count s.columns (length s.exported) (objects_of x.kind) (for_others x.kind e)) h.values)

pub suffixes_writable : (s : Setting) (k : ℕ) (xs : List FileSuffix) → k < 256 → AllByRecursion (IsFine s) xs
    → AllByRecursion (IsWritableSuffix s.columns (length s.exported)) (map suffix_for (map (with_objective k) xs))
suffixes_writable s k [] small all = tt
suffixes_writable s k (x ∷ xs) small all = (suffix_writable s k x small all.0, suffixes_writable s k xs small all.1)

same_count : (k : ℕ) (x : FileSuffix) → length (suffix_for (with_objective k x)).values ≡ length x.values
same_count k x = cond_both (is_for_objectives x.kind) _ x (λ (y : FileSuffix). length (suffix_for y).values ≡ length x.values) (λ e. length-map x.values (λ t. (k, t.1))) (λ e. refl)

no_table : (k : ℕ) (x : FileSuffix) → length (suffix_for (with_objective k x)).table ≡ 0
no_table k x = refl

pub values_counted : (k : ℕ) (xs : List FileSuffix) → sum_by (λ x. length x.values) (map suffix_for (map (with_objective k) xs)) ≡ value_count xs
values_counted k [] = refl
values_counted k (x ∷ xs) =
    omega (
      arith,
      sum_by-cons (λ (y : SolSuffix). length y.values) (suffix_for (with_objective k x))
          (map suffix_for (map (with_objective k) xs)),
      sum_by-cons (λ (y : FileSuffix). length y.values) x xs,
      same_count k x,
      values_counted k xs,
    )

pub no_tables : (k : ℕ) (xs : List FileSuffix) → sum_by (λ x. length x.table) (map suffix_for (map (with_objective k) xs)) ≡ 0
no_tables k [] = refl
no_tables k (x ∷ xs) =
    omega (arith, sum_by-cons (λ (y : SolSuffix). length y.table) (suffix_for (with_objective k x)) (map suffix_for (map (with_objective k) xs)), no_table k x, no_tables k xs)

pub small_objective : (f : File) (k : ℕ) → f.counts.n_obj ≤ 256 → has_objective f k ≡ true → k < 256
small_objective f k few e = grind (arith, nat_tests)

small_number : (n : ℕ) → n < 2 ^ 31 → has_31_bits (pos n) ≡ true
small_number n h = lt-ltb n (2 ^ 31) h

pub objno_small : (k : ℕ) (o : Option ℕ) → k < 2 ^ 31 → IfSome o (λ n. n < 2 ^ 31) → IfSome (option_map (λ n. (pos k, pos n)) o) IsSignedPair
objno_small k None h small = tt
objno_small k (Some n) h small = (small_number k h, small_number n small)

pub all_bits : (zs : List ℤ) → list_all has_31_bits zs ≡ true → AllByRecursion (λ z. has_31_bits z ≡ true) zs
all_bits [] e = tt
all_bits (z ∷ zs) e = let parts = and_parts (has_31_bits z) (list_all has_31_bits zs) e in (parts.0, all_bits zs parts.1)

-- at most four options, the second of which is not 3
options_of_header : (os : List ℤ) (c : Counts) → IsTrue (is_header os c) → (length os ≤ 4) × (has_second_three os ≡ false)
unfolding is_header
options_of_header os c h =
    let all = and_parts (are_options os) (are_counts c) h in
    let own = and_parts (nat_le (length os) 4) (not (has_second_three os)) all.0 in
    (leb-true (length os) 4 own.0, not-true (has_second_three os) own.1)

-- a row for each constraint
exported_count : (naming : Naming) (f : File) → IsFile f → length (setting_by naming f).exported ≡ f.counts.n_con
exported_count naming f file = length-map f.sides _ ∙ file.side_count

pub returned_rules : (f : File) (a : AnswerValue) (sol : Sol) → IsFile f → list_all has_31_bits f.options ≡ true
    → has_objective f a.objective ≡ true → IsAnswerFor f a → IsReturn f a sol → KeepsRules sol
returned_rules f a sol file bits objective for r =
    let naming = for.0 in
    let text = for.1 in
    let s = setting_by naming f in
    let st = standing s (lines_of text) in
    let k = counts_of_header f.options f.counts file.ruled in
    let kept = answer_kept s text a for.2 in
    let said : a ≡ answer_of st = for.2.said in
    let small = small_objective f a.objective k.objectives objective in
    let rows = exported_count naming f file in
    let header = options_of_header f.options f.counts file.ruled in
    let message : sol.message ≡ st.message = r.message ∙ ap (λ (v : AnswerValue). v.message) said in
    let suffixes : sol.suffixes ≡ map suffix_for (map (with_objective a.objective) st.suffixes) = r.suffixes ∙ rw said refl in
    record {
      message = rw message kept.message.each;
      message_room = rw message kept.message.few;
      options = rw r.options (all_bits f.options bits);
      option_room = rw r.options (omega (arith, header.0));
      second = rw r.options header.1;
      n_con = rw r.constraints k.constraints;
      n_var = rw r.variables k.variables;
      given = record {
        duals = rw r.constraints (dual-count (list_any is_some a.rows) f a sol.duals r.duals);
        primals = rw (r.variables, r.primals) (values-given s text a for.2);
      };
      objno = rw r.objno (objno_small a.objective a.status (objective-small s text a for.2) (status-small s text a for.2));
      suffixes = rw (r.constraints, r.variables, suffixes, sym rows) (suffixes_writable s a.objective st.suffixes small kept.suffixes.fine);
      suffix_room = rw suffixes (omega (arith, kept.suffixes.few, length-map (map (with_objective a.objective) st.suffixes) suffix_for, length-map st.suffixes (with_objective a.objective)));
      table_room = rw suffixes (omega (arith, no_tables a.objective st.suffixes));
      value_room = rw suffixes (omega (arith, values_counted a.objective st.suffixes, kept.suffixes.few_values));
    }
