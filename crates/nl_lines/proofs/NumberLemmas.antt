-- Words that are signed whole numbers, as decimals.
use Rattle.std.proofs.Common.{◌≡◌, ◌∙◌, ℕ, ◌^◌, true, List, ℤ, pos, Option, Some, None, refl, sym, ap, arith, negsuc}
use Rattle.std.proofs.lemmas.Bool.{ltb-true}
use Rattle.std.specs.Prelude.{FitsSigned}
use Rattle.std.proofs.lemmas.Int.{to_z-of_z}
use mir.Syntax.{w32, w64}
use mir.Val.{to_z, of_z}
use Rattle.exact_numbers.specs.Rational.{whole}
use Rattle.exact_numbers.specs.Values.{dec_value}
use Rattle.exact_numbers.specs.declared.dec.Dec.{Dec}
use Rattle.exact_numbers.specs.Numbers.{has_31_bits, signed_of}
use Rattle.exact_numbers.proofs.NumberLemmas.{dec_from-value, fits-from_31, signed_of-fits}
use Rattle.nl_lines.specs.Nodes.{dec_of_signed}

fits-64 : (z : ℤ) → has_31_bits z ≡ true → FitsSigned w64 z
fits-64 (pos n) e = record { sfits = let small = ltb-true n (2 ^ 31) e in omega arith }
fits-64 (negsuc n) e = record { sfits = let small = ltb-true n (2 ^ 31) e in omega arith }

pub dec_of_signed-some : (text : List ℕ) (r : Option ℤ) (z : ℤ) (d : Dec) → r ≡ signed_of text → r ≡ Some z
    → dec_value d ≡ whole (to_z w64 (of_z w64 (to_z w32 (of_z w32 z)))) → dec_of_signed text ≡ Some d
unfolding dec_of_signed
dec_of_signed-some text r z d e is same =
    let read : signed_of text ≡ Some z = sym e ∙ is in
    let small = signed_of-fits text z read in
    let inner = to_z-of_z w32 z (fits-from_31 z small) in
    let outer = to_z-of_z w64 z (fits-64 z small) in
    rw read (dec_from-value (whole z) d (same ∙ ap (λ y. whole (to_z w64 (of_z w64 y))) inner ∙ ap whole outer))

pub dec_of_signed-none : (text : List ℕ) (r : Option ℤ) → r ≡ signed_of text → r ≡ None → dec_of_signed text ≡ None
unfolding dec_of_signed
dec_of_signed-none text r e is = rw (sym e ∙ is) refl
