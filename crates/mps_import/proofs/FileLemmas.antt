-- The file that is made of the parts of a program.
use Rattle.std.proofs.Common.{◌≡◌, ℕ, suc, ◌+◌, ◌<◌, ◌≤◌, ◌^◌, ◌∙◌, sym, ap, ap₂, refl, subst, arith, Bool, false}
use Rattle.std.proofs.Common.{nat_lt, ◌||◌, List, [], ◌∷◌, ◌++◌, length, get_or, map, Some, All, replicate, nat_eq}
use Rattle.std.proofs.Common.{IsSome, slice_set, Result, Ok, Err, IfErr, IsErrAnd}
use Rattle.std.proofs.lemmas.List.{length-map}
use Rattle.std.specs.Option.{option_map}
use Rattle.text_base.specs.Stopped.{IfFault}
use Rattle.text_base.specs.declared.stop.Stop.{Stop}
use Rattle.text_base.specs.declared.stop.Stop.TheVariants.{Fault, Memory}
use Rattle.exact_numbers.specs.declared.dec.Dec.{Dec}
use Rattle.linear_program.specs.Intervals.{no_sides, IsOrdered}
use Rattle.nl_model.specs.Trees.{Tree}
use Rattle.nl_model.specs.Draft.{Draft, empty_draft, file_of, is_given}
use Rattle.nl_model.specs.Rules.{term_count}
use Rattle.linear_program.specs.declared.interval.Interval.{Interval as Sides}
use Rattle.mps_model.specs.Mps.{Mps, column_interval, objective_row}
use Rattle.mps_import.specs.declared.build.Parts.{Parts}
use Rattle.mps_import.specs.declared.rows.RowUse.{RowUse}
use Rattle.mps_program.specs.declared.mps_fault.MpsFault.{MpsFault}
use Rattle.mps_program.specs.declared.mps_fault.MpsFault.TheVariants.{TooWide}
use Rattle.mps_program.specs.Decimals.{sides_from}
use Rattle.mps_import.specs.Decimals.{number_tree}
use Rattle.mps_import.specs.Faults.{is_too_large, import_fault}
use Rattle.mps_program.specs.Faults.{first_wide}
use Rattle.mps_program.specs.Program.{is_constraint, constraints, values_of}
use Rattle.mps_import.specs.Import.{constraint_terms, objective_terms, import_counts, import_options, import_objective, import_of, objective_constant}
use Rattle.mps_import.specs.InsideParts.{ArePartsOf, begun_draft}
use Rattle.mps_program.specs.Places.{places, listed}
use Rattle.mps_import.specs.InsideUses.{use_of, hits_in, is_constraint_at, is_objective_at}
use Rattle.mps_import.specs.Variables.{order_of_columns}
use Rattle.mps_program.proofs.FirstLemmas.{listed_at, listed_length}
use Rattle.mps_import.proofs.MeaningLemmas.{order_length}
use Rattle.mps_program.proofs.OrderLemmas.{column_ordered, rows_ordered}
use Rattle.mps_import.proofs.PartLemmas.{wide_fault, clean_wide, not_empty, all_columns, sides_count}
use Rattle.mps_import.proofs.TermLemmas.{hits_in_same, all_constraint_terms, all_objective_terms, constraint_at, objective_at}
use Rattle.std.proofs.lemmas.List.Elements.{All-cons, All-nil}

pub large_is : (m : Mps Dec) (r c : ℕ) (b : Bool) → r ≡ length (constraints m.rows) → c ≡ length m.columns
    → b ≡ nat_lt (2 ^ 20) r || nat_lt (2 ^ 20) c → nat_lt (2 ^ 20) (length (constraints m.rows))
    || nat_lt (2 ^ 20) (length m.columns) ≡ b
large_is m r c b e f h = sym (h ∙ ap₂ (λ x y. nat_lt (2 ^ 20) x || nat_lt (2 ^ 20) y) e f)

pub rank_all : (m : Mps Dec) → length (places (is_constraint m.rows) (length m.rows)) ≡ length (constraints m.rows)
unfolding constraints
rank_all m = refl

module _ (m : Mps Dec) (uses : List RowUse) (order : List ℕ) (are : uses ≡ listed (use_of m.rows) (length m.rows)) (e : order ≡ order_of_columns m) where
  pub terms_counted : hits_in (is_constraint_at uses) m order ≡ term_count (constraint_terms m)
  terms_counted = hits_in_same (is_constraint_at uses) (is_constraint m.rows) (constraint_at m uses are) m order ∙ ap (hits_in (is_constraint m.rows) m) e ∙ all_constraint_terms m

  pub slopes_counted : objective_row m.rows < length m.rows → hits_in (is_objective_at uses) m order ≡ length (objective_terms m)
  slopes_counted some = hits_in_same (is_objective_at uses) (λ i. nat_eq i (objective_row m.rows))
      (objective_at m uses are some) m order ∙ ap (hits_in (λ i. nat_eq i (objective_row m.rows)) m) e
      ∙ all_objective_terms m

-- ---- the beginning
module _ (m : Mps Dec) (d : Draft) (begun : d ≡ empty_draft import_options (import_counts m)) where
  pub one_objective : 0 < d.counts.n_obj
  unfolding import_counts
  one_objective = subst (λ (x : Draft). 0 < x.counts.n_obj) (sym begun) (omega arith)

  pub none_given : is_given d.objectives 0 ≡ false
  unfolding import_counts
  none_given = subst (λ (x : Draft). is_given x.objectives 0 ≡ false) (sym begun) refl

  pub begun_is : (n : Draft) (maximise : Bool) (tree : Tree)
      → n ≡ record d { objectives = slice_set d.objectives 0 (Some (record { maximise = maximise; tree = tree })) }
      → maximise ≡ m.maximise → tree ≡ number_tree (objective_constant m) → n ≡ begun_draft m
  unfolding import_counts
  begun_is n maximise tree e sense number =
      e ∙ ap (λ (x : Draft). record x { objectives = slice_set x.objectives 0 (Some (record { maximise = maximise; tree = tree })) }) begun
      ∙ ap₂ (λ s t. record (empty_draft import_options (import_counts m)) { objectives = Some (record { maximise = s; tree = t }) ∷ [] }) sense number

map_along : (f g : ℕ → Sides) (js : List ℕ) → All (λ j. f j ≡ g j) js → map f js ≡ map g js
map_along f g [] h = refl
map_along f g (j ∷ js) h = ap₂ (λ y ys. y ∷ ys) (h 0 j (omega arith)) (map_along f g js (λ k d lt. h (suc k) d (omega (arith, lt))))

module _ (m : Mps Dec) (p : Parts) (are : ArePartsOf m p) where
  abbrev column_side : ℕ → Sides
  column_side j = sides_from (column_interval (values_of m) j)

  pub sides_ordered : All IsOrdered p.sides.items
  sides_ordered = subst (All IsOrdered) (sym are.sides) (rows_ordered m (clean_wide m are.clean))

  bounds_length : length p.bounds.items ≡ length m.columns
  bounds_length = ap length are.bounds ∙ listed_length column_side (length m.columns)

  pub bounds_ordered : All IsOrdered p.bounds.items
  bounds_ordered k d lt =
      let inside : k < length m.columns = omega (arith, lt, bounds_length) in
      subst IsOrdered (sym (ap (λ ss. get_or ss k d) are.bounds ∙ listed_at column_side (length m.columns) k d inside)) (column_ordered m k (not_empty m are.clean k inside))

  pub order_within : All (λ j. j < length p.bounds.items) p.variables.columns.items
  order_within = subst (All (λ j. j < length p.bounds.items)) (sym are.order) (λ k d lt. omega (arith, all_columns m k d lt, bounds_length))

  order_size : length p.variables.columns.items ≡ length m.columns
  order_size = ap length are.order ∙ order_length m

  bounds_are : map (λ j. get_or p.bounds.items j no_sides) p.variables.columns.items ≡ map column_side (order_of_columns m)
  bounds_are =
      ap (map (λ j. get_or p.bounds.items j no_sides)) are.order
      ∙ map_along (λ j. get_or p.bounds.items j no_sides) column_side (order_of_columns m)
      (λ k d lt. let j = get_or (order_of_columns m) k d in ap (λ ss. get_or ss j no_sides) are.bounds ∙ listed_at column_side (length m.columns) j no_sides (all_columns m k d lt))

  -- ---- the draft, step by step
  abbrev pub sided : Draft
  sided = record (begun_draft m) { sides = p.sides.items }

  abbrev pub bounded : Draft
  bounded = record sided { bounds = map (λ j. get_or p.bounds.items j no_sides) p.variables.columns.items }

  abbrev pub full : Draft
  full = record bounded { terms = constraint_terms m; slopes = objective_terms m ∷ [] }

  module _ (a b c d : Draft) (first_step : a ≡ begun_draft m) where
    pub room_for_sides : length a.sides + length p.sides.items ≤ a.counts.n_con
    unfolding import_counts
    room_for_sides = subst (λ (x : Draft). length x.sides + length p.sides.items ≤ x.counts.n_con) (sym first_step) (omega (arith, sides_count m p are))

    module _ (second_step : b ≡ record a { sides = a.sides ++ p.sides.items }) where
      b_is : b ≡ sided
      b_is = second_step ∙ ap (λ (x : Draft). record x { sides = x.sides ++ p.sides.items }) first_step

      pub room_for_bounds : length b.bounds + length p.variables.columns.items ≤ b.counts.n_var
      unfolding import_counts
      room_for_bounds = subst (λ (x : Draft). length x.bounds + length p.variables.columns.items ≤ x.counts.n_var) (sym b_is) (omega (arith, order_size))

      module _ (third_step : c ≡ record b { bounds = b.bounds ++ map (λ j. get_or p.bounds.items j no_sides) p.variables.columns.items }) where
        c_is : c ≡ bounded
        c_is = third_step ∙ ap (λ (x : Draft). record x { bounds = x.bounds ++ map (λ j. get_or p.bounds.items j no_sides) p.variables.columns.items }) b_is

        pub bounded_is : (c.counts ≡ import_counts m) × (c.terms ≡ replicate (length (constraints m.rows)) []) × (c.slopes ≡ [] ∷ [])
        unfolding import_counts
        bounded_is = (ap (λ (x : Draft). x.counts) c_is, ap (λ (x : Draft). x.terms) c_is, ap (λ (x : Draft). x.slopes) c_is)

        module _ (fourth_step : d ≡ record c { terms = constraint_terms m; slopes = objective_terms m ∷ [] }) where
          d_is : d ≡ full
          d_is = fourth_step ∙ ap (λ (x : Draft). record x { terms = constraint_terms m; slopes = objective_terms m ∷ [] }) c_is

          pub all_given : All IsSome d.objectives
          all_given = subst (λ (x : Draft). All IsSome x.objectives) (sym d_is) (All-cons IsSome (Some (import_objective m)) [] refl (All-nil IsSome))

          -- as many as are announced
          pub all_counts : (length d.sides ≡ d.counts.n_con) × (length d.bounds ≡ d.counts.n_var) × (term_count d.terms ≡ d.counts.nzc)
          unfolding import_counts
          all_counts =
              subst (λ (x : Draft). (length x.sides ≡ x.counts.n_con) × (length x.bounds ≡ x.counts.n_var) × (term_count x.terms ≡ x.counts.nzc)) (sym d_is)
              (sides_count m p are, length-map p.variables.columns.items (λ j. get_or p.bounds.items j no_sides) ∙ order_size, refl)

          pub file_is : file_of d ≡ import_of m
          unfolding import_of import_counts
          file_is = ap file_of d_is ∙ ap₂ (λ ss bs. record (import_of m) { sides = ss; bounds = bs }) are.sides bounds_are

-- a stop for a wide row tells the first fault, where the program is not too large
stop_is : (m : Mps Dec) (stop : Stop MpsFault) → is_too_large m ≡ false → IfFault stop (λ f. option_map TooWide (first_wide m) ≡ Some f) → IfFault stop (λ f. import_fault m ≡ Some f)
stop_is m (Fault f) e h = wide_fault m f e h
stop_is m Memory e h = tt

pub wide_stop : {A : Type 0} (m : Mps Dec) (r : Result A (Stop MpsFault)) (stop : Stop MpsFault)
    → is_too_large m ≡ false → IfFault stop (λ f. option_map TooWide (first_wide m) ≡ Some f) → IsErrAnd r (λ y. y ≡ stop)
    → IfErr r (λ s. IfFault s (λ f. import_fault m ≡ Some f))
wide_stop m (Ok x) stop e h i = tt
wide_stop m (Err y) stop e h i = subst (λ s. IfFault s (λ f. import_fault m ≡ Some f)) (sym i) (stop_is m stop e h)
