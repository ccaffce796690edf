-- What names of lists stand for.
use Rattle.std.proofs.Common.{◌≡◌, ◌∙◌, ℕ, ◌<◌, false, cond, List, [], ◌∷◌, length, map, get_or, Some, sym, ap, subst, arith}
use Rattle.std.specs.Prelude.{option_map, option_and_then}
use Rattle.std.specs.Str.{bytes_eq}
use Rattle.std.proofs.lemmas.List.{length-map}
use Rattle.linear_program.specs.Intervals.{is_sided}
use Rattle.nl_model.specs.File.{File}
use Rattle.mps_model.specs.Names.{AreNames, is_reserved}
use Rattle.mps_model.specs.Names.{index_named}
use Rattle.text_base.proofs.NamePlaces.{bytes_other, bytes_self}
use Rattle.mps_model.proofs.NumeralLemmas.{place_first}
use Rattle.answer_file.specs.declared.target.Target.TheVariants.{Tied, Place}
use Rattle.answer_file.specs.Names.{named_setting, if_exported, column_target, row_target}

-- no name of a list begins with `@`
unmarked : (names : List (List ℕ)) (j : ℕ) (rest : List ℕ) → AreNames names → j < length names → bytes_eq (get_or names j []) (64 ∷ rest) ≡ false
unmarked names j rest are within =
    bytes_other (get_or names j []) (64 ∷ rest) (λ e. absurd (let free : is_reserved (64 ∷ rest) ≡ false = subst (λ (n : List ℕ). is_reserved n ≡ false) e (are.free j [] within) in cc))

-- the first number of a name is its own
own_place : (names : List (List ℕ)) (n j : ℕ) → AreNames names → length names ≡ n → j < length names → index_named (λ i. get_or names i []) n (get_or names j []) ≡ Some j
unfolding index_named
own_place names n j are all within =
    place_first (λ i. bytes_eq (get_or names i []) (get_or names j [])) n 0 j (omega (arith, within, all))
    (ap (λ i. bytes_eq (get_or names i []) (get_or names j [])) (omega arith) ∙ bytes_self (get_or names j []))
    (λ i less. ap (λ k. bytes_eq (get_or names k []) (get_or names j [])) (omega arith) ∙ bytes_other (get_or names i []) (get_or names j []) (λ same. are.apart i j [] less within same))

pub column_found : (f : File) (rows columns : List (List ℕ)) (j : ℕ) → AreNames columns
    → length columns ≡ f.counts.n_var → j < length columns → column_target (named_setting f rows columns)
    (get_or columns j []) ≡ Some (Place j)
column_found f rows columns j are all within =
    ap (λ b. cond b (Some Tied) (option_map Place (index_named (λ i. get_or columns i []) f.counts.n_var (get_or columns j [])))) (unmarked columns j (122 ∷ []) are within)
    ∙ ap (option_map Place) (own_place columns f.counts.n_var j are all within)

pub row_found : (f : File) (rows columns : List (List ℕ)) (i : ℕ) → AreNames rows → length rows ≡ length f.sides
    → i < length rows → row_target (named_setting f rows columns) (get_or rows i [])
    ≡ if_exported (map is_sided f.sides) i
row_found f rows columns i are all within =
    ap (λ b. cond b (Some Tied) (option_and_then (if_exported (map is_sided f.sides))
    (index_named (λ k. get_or rows k []) (length (map is_sided f.sides)) (get_or rows i []))))
    (unmarked rows i (122 ∷ 100 ∷ 101 ∷ 102 ∷ []) are within)
    ∙ ap (option_and_then (if_exported (map is_sided f.sides))) (own_place rows (length (map is_sided f.sides)) i are (all ∙ sym (length-map f.sides is_sided)) within)
