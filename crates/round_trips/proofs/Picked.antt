-- A whole program whose numbers are decimals is the program of the values of a whole decimal program.
use Rattle.std.proofs.Common.{◌≡◌, ◌≢◌, ◌∙◌, ℕ, ◌+◌, ◌<◌, List, [], ◌∷◌, length, map, get_or, refl, sym, ap, ap₂, subst, arith}
use Rattle.std.specs.Prelude.{All}
use Rattle.std.proofs.lemmas.List.{length-map}
use Rattle.std.proofs.lemmas.List.Elements.{All-head, All-tail, All-map, All-weaker}
use Rattle.std.proofs.lemmas.List.Sums.{sum_by-cons}
use Rattle.text_base.specs.Names.{IsName}
use Rattle.text_base.proofs.AllLemmas.{pairs_mapped}
use Rattle.exact_numbers.specs.Rational.{ℚ, zero_ℚ}
use Rattle.exact_numbers.specs.declared.dec.Dec.{Dec}
use Rattle.exact_numbers.specs.Values.{FitsDec, dec_value}
use Rattle.mps_model.specs.Mps.{Entry, Column, Bound, Mps, entry_with, column_with, bound_with, with_values}
use Rattle.mps_model.specs.Valid.{AreColumns, AreEntries, AreBounds, IsPartOfMps, IsMps, IsBounded, HasEntries, IsOtherBound, IsWithoutNumber, entry_count}
use Rattle.exact_numbers.proofs.Fitting.{picked, picked_value}

abbrev pub AreDecimal : List (Entry ℚ) → Type 0
AreDecimal es = All (λ e. FitsDec e.value) es

pub record IsDecimalProgram (m : Mps ℚ) : Type 0 where
  pub columns : All (λ (c : Column ℚ). AreDecimal c.entries) m.columns
  pub rhs : AreDecimal m.rhs
  pub ranges : AreDecimal m.ranges
  pub bounds : All (λ (b : Bound ℚ). FitsDec b.value) m.bounds

-- ---- the values are the same

map_back : {X Y : Type 0} (g : Y → X) (f : X → Y) (P : X → Type 0) → ((x : X) → P x → g (f x) ≡ x) → (xs : List X) → All P xs → map g (map f xs) ≡ xs
map_back g f P own [] h = refl
map_back g f P own (x ∷ xs) h = ap₂ (λ y ys. y ∷ ys) (own x (All-head P x xs h)) (map_back g f P own xs (All-tail P x xs h))

entries_back : (es : List (Entry ℚ)) → AreDecimal es → map (entry_with dec_value) (map (entry_with picked) es) ≡ es
entries_back = map_back (entry_with dec_value) (entry_with picked) (λ e. FitsDec e.value) (λ e own. ap (λ (v : ℚ). record { row = e.row; value = v }) (picked_value e.value own))

columns_back : (cs : List (Column ℚ)) → All (λ (c : Column ℚ). AreDecimal c.entries) cs → map (column_with dec_value) (map (column_with picked) cs) ≡ cs
columns_back = map_back (column_with dec_value) (column_with picked) (λ c. AreDecimal c.entries)
    (λ c own. ap (λ (es : List (Entry ℚ)). record { name = c.name; marked = c.marked; entries = es })
    (entries_back c.entries own))

bounds_back : (bs : List (Bound ℚ)) → All (λ (b : Bound ℚ). FitsDec b.value) bs → map (bound_with dec_value) (map (bound_with picked) bs) ≡ bs
bounds_back = map_back (bound_with dec_value) (bound_with picked) (λ b. FitsDec b.value) (λ b own. ap (λ (v : ℚ). record { kind = b.kind; column = b.column; value = v }) (picked_value b.value own))

pub values_back : (m : Mps ℚ) → IsDecimalProgram m → with_values dec_value (with_values picked m) ≡ m
unfolding with_values
values_back m h = λ i. record {
  name = m.name;
  maximise = m.maximise;
  rows = m.rows;
  columns = columns_back m.columns h.columns i;
  rhs = entries_back m.rhs h.rhs i;
  ranges = entries_back m.ranges h.ranges i;
  bounds = bounds_back m.bounds h.bounds i;
}

-- ---- it is whole

entries_picked : (n : ℕ) (es : List (Entry ℚ)) → AreEntries n es → AreEntries n (map (entry_with picked) es)
entries_picked n es h = record {
  within = All-map (λ (e : Entry Dec). e.row < n) (entry_with picked) es h.within;
  apart = pairs_mapped (λ (e g : Entry Dec). e.row ≢ g.row) (entry_with picked) es h.apart;
}

count_kept : (cs : List (Column ℚ)) → entry_count (map (column_with picked) cs) ≡ entry_count cs
count_kept [] = refl
count_kept (c ∷ cs) =
    sum_by-cons (λ (c : Column Dec). length c.entries) (column_with picked c) (map (column_with picked) cs)
    ∙ ap₂ (λ (a b : ℕ). a + b) (length-map c.entries (entry_with picked)) (count_kept cs) ∙ sym (sum_by-cons (λ (c : Column ℚ). length c.entries) c cs)

columns_picked : (n : ℕ) (cs : List (Column ℚ)) → AreColumns n cs → AreColumns n (map (column_with picked) cs)
columns_picked n cs h = record {
  few = omega (arith, h.few, length-map cs (column_with picked));
  few_entries = omega (arith, h.few_entries, count_kept cs);
  named = All-map (λ (c : Column Dec). IsName c.name) (column_with picked) cs h.named;
  apart = pairs_mapped (λ (c d : Column Dec). c.name ≢ d.name) (column_with picked) cs h.apart;
  entries = All-map (λ (c : Column Dec). AreEntries n c.entries) (column_with picked) cs
      (All-weaker (λ (c : Column ℚ). AreEntries n c.entries) (λ c. AreEntries n (map (entry_with picked) c.entries))
      (λ c k. entries_picked n c.entries k) cs h.entries);
}

zeros_picked : (bs : List (Bound ℚ)) → All (λ (b : Bound ℚ). IsWithoutNumber b.kind → b.value ≡ zero_ℚ) bs → All (λ (b : Bound ℚ). FitsDec b.value) bs
    → All (λ (b : Bound ℚ). IsWithoutNumber b.kind → dec_value (picked b.value) ≡ zero_ℚ) bs
zeros_picked bs zeros fits i d lt free = picked_value (get_or bs i d).value (fits i d lt) ∙ zeros i d lt free

bounds_picked : (n : ℕ) (bs : List (Bound ℚ)) → AreBounds (λ x. x) n bs → All (λ (b : Bound ℚ). FitsDec b.value) bs → AreBounds dec_value n (map (bound_with picked) bs)
bounds_picked n bs h fits = record {
  within = All-map (λ (b : Bound Dec). b.column < n) (bound_with picked) bs h.within;
  apart = pairs_mapped (λ (b c : Bound Dec). IsOtherBound c.kind c.column b) (bound_with picked) bs h.apart;
  zeros = All-map (λ (b : Bound Dec). IsWithoutNumber b.kind → dec_value b.value ≡ zero_ℚ) (bound_with picked) bs (zeros_picked bs h.zeros fits);
}

part_picked : (m : Mps ℚ) → IsPartOfMps (λ x. x) m → IsDecimalProgram m → IsPartOfMps dec_value (with_values picked m)
unfolding with_values
part_picked m h decimal = record {
  name = h.name;
  rows = h.rows;
  columns = columns_picked (length m.rows) m.columns h.columns;
  rhs = entries_picked (length m.rows) m.rhs h.rhs;
  ranges = record { entries = entries_picked (length m.rows) m.ranges h.ranges.entries; bounded = All-map (λ (e : Entry Dec). IsBounded m.rows e.row) (entry_with picked) m.ranges h.ranges.bounded };
  bounds = subst (λ (n : ℕ). AreBounds dec_value n (map (bound_with picked) m.bounds))
      (sym (length-map m.columns (column_with picked))) (bounds_picked (length m.columns) m.bounds h.bounds
      decimal.bounds);
}

pub whole_picked : (m : Mps ℚ) → IsMps (λ x. x) m → IsDecimalProgram m → IsMps dec_value (with_values picked m)
unfolding with_values
whole_picked m h decimal = record {
  part = part_picked m h.part decimal;
  complete = record {
    objective = h.complete.objective;
    filled = All-map (λ (c : Column Dec). HasEntries c) (column_with picked) m.columns
        (All-weaker HasEntries (λ (c : Column ℚ). 0 < length (map (entry_with picked) c.entries))
        (λ c some. omega (arith, some, length-map c.entries (entry_with picked))) m.columns h.complete.filled);
  };
}
