-- The row and the column of a tie.
use Rattle.std.proofs.Common.{◌≡◌, ◌≢◌, ℕ, suc, ◌+◌, ◌<◌, ◌≤◌, ◌∙◌, sym, ap, ap₂, refl, arith, subst, cond, nat_eq}
use Rattle.std.proofs.Common.{List, [], ◌∷◌, ◌++◌, length, get_or, take, All, IfSome, Option, Some, None, append-nil}
use Rattle.std.proofs.Common.{pos, neg_ℤ, ⊎_elim, length-append}
use Rattle.std.specs.List.{insert}
use Rattle.std.proofs.Math.Seq.{take-append_seam, take-length}
use Rattle.std.proofs.lemmas.List.{drop_all}
use Rattle.std.proofs.lemmas.Bool.{cases_eq, eq-eqb, ne_eqb}
use Rattle.std.proofs.lemmas.Int.{ints}
use Rattle.std.proofs.lemmas.List.Elements.{All-nil, All-push}
use Rattle.std.proofs.lemmas.List.Sums.{sum_by-append, sum_by-cons}
use Rattle.std.specs.Option.{option_map_or}
use Rattle.exact_numbers.specs.Rational.{ℚ, zero_ℚ, one_ℚ, neg_ℚ, ◌+ℚ◌, ◌-ℚ◌}
use Rattle.exact_numbers.proofs.RationalLaws.{+ℚ_zero, zero-+ℚ, whole-neg, same_whole}
use Rattle.exact_numbers.proofs.Adding.{sum_over-append}
use Rattle.exact_numbers.specs.declared.dec.Dec.{Dec}
use Rattle.exact_numbers.specs.Values.{dec_value}
use Rattle.scaled_program.specs.Program.{nonzero, then_at, zdef_name}
use Rattle.linear_program.specs.Names.{row_name}
use Rattle.linear_program.specs.declared.interval.Interval.{Interval}
use Rattle.linear_program.specs.declared.kind.Kind.{Kind}
use Rattle.linear_program.specs.declared.kind.Kind.TheVariants.{Continuous}
use Rattle.linear_program.specs.Intervals.{no_sides}
use Rattle.linear_program.specs.Decimals.{coefficient_of}
use Rattle.row_scaling.specs.declared.row.FactoredRow.{FactoredRow}
use Rattle.row_scaling.specs.declared.row.ScaledObjective.{ScaledObjective}
use Rattle.row_scaling.specs.declared.row.Tie.{Tie}
use Rattle.row_scaling.specs.Rows.{TermOf, RowValue, IsSparse, IsBelow}
use Rattle.row_scaling.specs.Scaled.{ScaledValue, IsScaled, IsTie, IsRowOver, row_term_count}
use Rattle.row_scaling.specs.Exported.{exported_from}
use Rattle.row_scaling.specs.declared.tied.Parts.{Parts}
use Rattle.row_scaling.specs.InsideParts.{HaveValue, IsColumn, IsTieRow, value_of, written}
use Rattle.row_scaling.specs.Parts.{AreProgramRows, IsProgramObjective, name_in, row_named, rows_in}
use Rattle.row_scaling.proofs.SharedLemmas.{nothing_in, first_in, later_in, no_difference_at, one_not_zero}

-- ---- terms with one more for variable n
coefficient_of-append : (xs ys : List TermOf) (j : ℕ) → coefficient_of (xs ++ ys) j ≡ coefficient_of xs j +ℚ coefficient_of ys j
unfolding coefficient_of
coefficient_of-append xs ys j = sum_over-append (λ t. cond (nat_eq t.0 j) (dec_value t.1) zero_ℚ) xs ys

nothing_at : (xs : List TermOf) (n m j : ℕ) → IsSparse m xs → IsBelow n xs → n ≤ j → coefficient_of xs j ≡ zero_ℚ
nothing_at [] n m j s b h = nothing_in j
nothing_at (x ∷ xs) n m j s b h =
    let less : x.0 < n = b 0 x (omega arith) in
    later_in x xs j (λ e. omega (arith, e, less, h)) ∙ nothing_at xs n (suc x.0) j s.2 (λ k d l. b (suc k) d (omega arith)) h

sparse_last : (xs : List TermOf) (n m : ℕ) (v : Dec) → m ≤ n → IsSparse m xs → IsBelow n xs → dec_value v ≢ zero_ℚ → IsSparse m (xs ++ (n, v) ∷ [])
sparse_last [] n m v h s b some = (h, some, tt)
sparse_last (x ∷ xs) n m v h s b some =
    let less : x.0 < n = b 0 x (omega arith) in
    (s.0, s.1, sparse_last xs n (suc x.0) v (omega arith) s.2 (λ k d l. b (suc k) d (omega arith)) some)

last_coefficient : (xs : List TermOf) (n : ℕ) (v : Dec) (j : ℕ) → IsSparse 0 xs → IsBelow n xs → coefficient_of (xs ++ (n, v) ∷ []) j ≡ then_at n (dec_value v) (coefficient_of xs) j
last_coefficient xs n v j s b =
    coefficient_of-append xs ((n, v) ∷ []) j
    ∙ ⊎_elim
    (λ (e : j ≡ n).
    ap₂ ◌+ℚ◌ (nothing_at xs n 0 j s b (omega (arith, e))) (first_in (n, v) [] j (sym e) ∙ ap (λ x. dec_value v +ℚ x) (nothing_in j) ∙ +ℚ_zero (dec_value v))
    ∙ zero-+ℚ (dec_value v)
    ∙ sym (ap (λ b. cond b (dec_value v) (coefficient_of xs j)) (eq-eqb j n e)))
    (λ (e : j ≡ n → ⊥).
    ap (λ x. coefficient_of xs j +ℚ x) (later_in (n, v) [] j (λ f. e (sym f)) ∙ nothing_in j)
    ∙ +ℚ_zero (coefficient_of xs j)
    ∙ sym (ap (λ b. cond b (dec_value v) (coefficient_of xs j)) (ne_eqb j n e)))
    (cases_eq j n)

below_last : (xs : List TermOf) (n : ℕ) (v : Dec) → IsBelow n xs → IsBelow (n + 1) (xs ++ (n, v) ∷ [])
below_last xs n v b = All-push (λ t. t.0 < n + 1) xs (n, v) (λ k d l. omega (arith, b k d l)) (omega arith)

weight_not_zero : (t : Tie) → IsTie t → dec_value t.weight ≢ zero_ℚ
weight_not_zero t h e =
    let f : neg_ℤ t.factor ≡ pos 0 = same_whole (neg_ℤ t.factor) (pos 0) (sym (whole-neg t.factor) ∙ sym h.weight ∙ e) in
    omega (arith, ints, f, h.above)

pub no_difference : (x : ℚ) → nonzero (x -ℚ x) ≡ None
no_difference x = no_difference_at x x refl

-- ---- the row and the column
pub tie_terms_sparse : (xs : List TermOf) (t : Tie) (n : ℕ) (ts : List TermOf) → ts ≡ xs ++ (n, t.weight) ∷ [] → IsSparse 0 xs → IsBelow n xs → IsTie t → IsSparse 0 ts
tie_terms_sparse xs t n ts e sparse below tie = subst (IsSparse 0) (sym e) (sparse_last xs n 0 t.weight (omega arith) sparse below (weight_not_zero t tie))

pub is_tie_row : (o : ScaledObjective) (t : Tie) (n : ℕ) (side : Dec) (r : FactoredRow) → IsSparse 0 o.terms → IsBelow n o.terms → IsTie t → dec_value side ≡ neg_ℚ (dec_value o.constant) →
    r.row ≡ record { terms = o.terms ++ (n, t.weight) ∷ []; side = record { lo = Some side; hi = Some side }; range = None } → IsTieRow n o t r
is_tie_row o t n side r sparse below tie value e =
    let ts = o.terms ++ (n, t.weight) ∷ [] in
    let row : RowValue = record { terms = ts; side = record { lo = Some side; hi = Some side }; range = None } in
    record {
      named =
          ap (row_named zdef_name) e
          ∙ (λ i. record {
            name = zdef_name;
            coefficient = λ j. (last_coefficient o.terms n t.weight j sparse below ∙ ap (λ v. then_at n v (coefficient_of o.terms) j) tie.weight) i;
            side = record { lower = Some (value i); upper = Some (value i) };
          });
      over = subst (IsRowOver (n + 1)) (sym e)
          (record {
            row = record { sparse = sparse_last o.terms n 0 t.weight (omega arith) sparse below (weight_not_zero t tie); sided = refl; range = sym (no_difference (dec_value side)) };
            below = below_last o.terms n t.weight below;
          });
      terms = ap (λ (v : RowValue). length v.terms) e ∙ length-append o.terms ((n, t.weight) ∷ []);
    }

pub is_column : (n : ℕ) (one zero : Dec) (o : ScaledObjective) → dec_value one ≡ one_ℚ → dec_value zero ≡ zero_ℚ → o ≡ record { constant = zero; terms = (n, one) ∷ [] } → IsColumn n o
is_column n one zero o unit none e =
    let start : IsBelow n [] = All-nil (λ t. t.0 < n) in
    subst (IsColumn n) (sym e)
    (record {
      form = λ i. record { constant = none i; coefficient = λ j. (last_coefficient [] n one j tt start ∙ ap₂ (λ v x. cond (nat_eq j n) v x) unit (nothing_in j)) i };
      sparse = (omega arith, λ z. one_not_zero (sym unit ∙ z), tt);
      below = below_last [] n one start;
      terms = refl;
    })

-- ---- the rows by name
rows_before : (n i : ℕ) (rows last : List (Option FactoredRow)) → i + length rows ≡ n → rows_in (name_in n) i (rows ++ last) ≡ exported_from i rows ++ rows_in (name_in n) n last
rows_before n i [] last h = ap (λ m. rows_in (name_in n) m last) (omega (arith, h))
rows_before n i (None ∷ rows) last h = rows_before n (suc i) rows last (omega (arith, h))
rows_before n i (Some r ∷ rows) last h =
    ap₂ (λ b rs. row_named (cond b zdef_name (row_name i)) r.row ∷ rs) (ne_eqb i n (λ e. omega (arith, e, h))) (rows_before n (suc i) rows last (omega (arith, h)))

-- ---- what is kept
pub insert_last : {A : Type 0} (xs : List A) (n : ℕ) (x : A) → n ≡ length xs → insert xs n x ≡ xs ++ x ∷ []
insert_last xs n x e = ap₂ (λ a b. a ++ x ∷ b) (ap (λ m. take m xs) e ∙ take-length xs) (drop_all n xs (omega (arith, e)))

taken : {A : Type 0} (n : ℕ) (xs all ys : List A) → n ≡ length xs → all ≡ xs ++ ys → take n all ≡ xs
taken n xs all ys e same = ap₂ take e same ∙ take-append_seam xs ys

module _ (p : Parts) (rows : List (Option FactoredRow)) (o : ScaledObjective) (bs : List Interval) (ks : List Kind)
    (constraints : p.constraints ≡ length rows) (variables : p.variables ≡ length bs) (objective : p.objective ≡ o) where
  abbrev the_value : Option Tie → ScaledValue
  the_value t = record { rows = rows; objective = o; tie = t; maximise = p.maximise; bounds = bs; kinds = ks }

  value_is : (t : Option Tie) → p.tie ≡ t → (rs : List (Option FactoredRow)) (cs : List Interval) (js : List Kind)
      → length ks ≡ length bs → p.rows.items ≡ rows ++ rs → p.bounds.items ≡ bs ++ cs → p.kinds.items ≡ ks ++ js
      → value_of p ≡ the_value t
  value_is t tie rs cs js same by_row by_column kind_by_column =
      let r = taken p.constraints rows p.rows.items rs constraints by_row in
      let b = taken p.variables bs p.bounds.items cs variables by_column in
      let k = taken p.variables ks p.kinds.items js (variables ∙ sym same) kind_by_column in
      λ i. record { rows = r i; objective = objective i; tie = tie i; maximise = p.maximise; bounds = b i; kinds = k i }

  no_tie_kept : IsScaled (the_value None) → p.tie ≡ None → p.rows.items ≡ rows → p.bounds.items ≡ bs → p.kinds.items ≡ ks → p.column ≡ None → HaveValue p (the_value None)
  no_tie_kept h tie by_row by_column kind_by_column column =
      let count : length bs ≡ length bs + 0 = omega arith in
      record {
        same = value_is None tie [] [] [] h.kinds (by_row ∙ sym (append-nil rows)) (by_column ∙ sym (append-nil bs)) (kind_by_column ∙ sym (append-nil ks));
        kept = record {
          scaled = h;
          constraints = constraints;
          variables = variables;
          rows = subst (AreProgramRows (the_value None)) (sym by_row)
              (record {
                named = ap (rows_in (name_in (length rows)) 0) (sym (append-nil rows)) ∙ rows_before (length rows) 0 rows [] (omega arith);
                over = subst (λ n. All (λ o. IfSome o (λ r. IsRowOver n r.row)) rows) count h.rows;
                few = omega arith;
                terms = omega arith;
              });
          objective = subst (λ z. IsProgramObjective (the_value None) (written z o)) (sym column)
              (record { form = refl; sparse = h.sparse; below = subst (λ n. IsBelow n o.terms) count h.below; terms = omega arith });
          bounds = by_column ∙ sym (append-nil bs);
          kinds = kind_by_column ∙ sym (append-nil ks);
          bound_count = ap length by_column ∙ count;
          kind_count = ap length kind_by_column ∙ h.kinds ∙ count;
        };
      }

  pub plain_kept : (t : Option Tie) → t ≡ None → IsScaled (the_value t) → p.tie ≡ None → p.rows.items ≡ rows → p.bounds.items ≡ bs → p.kinds.items ≡ ks → p.column ≡ None → HaveValue p (the_value t)
  plain_kept t none h tie by_row by_column kind_by_column column =
      subst (λ t. HaveValue p (the_value t)) (sym none) (no_tie_kept (subst (λ t. IsScaled (the_value t)) none h) tie by_row by_column kind_by_column column)

  pub tied_kept : (t : Tie) (r : FactoredRow) (z : ScaledObjective) → IsScaled (the_value (Some t)) → p.tie ≡ Some t
      → IsTieRow (length bs) o t r → IsColumn (length bs) z → p.rows.items ≡ rows ++ Some r ∷ []
      → p.bounds.items ≡ bs ++ no_sides ∷ [] → p.kinds.items ≡ ks ++ Continuous ∷ [] →
      p.column ≡ Some z → HaveValue p (the_value (Some t))
  tied_kept t r z h tie row column by_row by_column kind_by_column alone =
      record {
        same = value_is (Some t) tie (Some r ∷ []) (no_sides ∷ []) (Continuous ∷ []) h.kinds by_row by_column kind_by_column;
        kept = record {
          scaled = h;
          constraints = constraints;
          variables = variables;
          rows = subst (AreProgramRows (the_value (Some t))) (sym by_row)
              (record {
                named =
                    rows_before (length rows) 0 rows (Some r ∷ []) (omega arith)
                    ∙ ap (λ y. exported_from 0 rows ++ y ∷ []) (ap (λ b. row_named (cond b zdef_name (row_name (length rows))) r.row) (eq-eqb (length rows) (length rows) refl) ∙ row.named);
                over = All-push (λ o. IfSome o (λ r. IsRowOver (length bs + 1) r.row)) rows (Some r) (λ i d l. wider (get_or rows i d) (h.rows i d l)) row.over;
                few = omega (arith, length-append rows (Some r ∷ []));
                terms = sum_by-append terms_in_row rows (Some r ∷ []) ∙ ap (λ n. row_term_count rows + n) (sum_by-cons terms_in_row (Some r) [] ∙ omega (arith, row.terms));
              });
          objective = subst (λ z. IsProgramObjective (the_value (Some t)) (written z o)) (sym alone)
              (record { form = column.form; sparse = column.sparse; below = column.below; terms = omega (arith, column.terms) });
          bounds = by_column;
          kinds = kind_by_column;
          bound_count = ap length by_column ∙ length-append bs (no_sides ∷ []);
          kind_count = ap length kind_by_column ∙ length-append ks (Continuous ∷ []) ∙ ap (λ n. n + 1) h.kinds;
        };
      }
    where
      terms_in_row : Option FactoredRow → ℕ
      terms_in_row o = option_map_or (λ r. length r.row.terms) o 0

      wider : (p : Option FactoredRow) → IfSome p (λ r. IsRowOver (length bs) r.row) → IfSome p (λ r. IsRowOver (length bs + 1) r.row)
      wider None h = tt
      wider (Some r) h = record { row = h.row; below = λ i d l. omega (arith, h.below i d l) }
