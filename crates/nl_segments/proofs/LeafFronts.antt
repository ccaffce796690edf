-- The lines of a product, and of the number 0, at the front of a text.
use Rattle.std.proofs.Common.{◌≡◌, ◌∙◌, ◌≤◌, ℕ, List, [], ◌∷◌, get_or, length, refl, ap, ap₂, sym, subst, arith, pos, Some}
use Rattle.exact_numbers.specs.Rational.{zero_ℚ}
use Rattle.exact_numbers.specs.declared.dec.Dec.{Dec}
use Rattle.exact_numbers.specs.Numbers.{dec_of, whole_of}
use Rattle.exact_numbers.specs.Values.{dec_value}
use Rattle.exact_numbers.proofs.Bridge.{zero_decimal}
use Rattle.exact_numbers.proofs.NumberLemmas.{dec_of-some}
use Rattle.nl_lines.specs.declared.leaf.Leaf.TheVariants.{Number, Opcode}
use Rattle.nl_lines.specs.FirstRows.{IsFirstRow}
use Rattle.nl_lines.specs.InsideFrontLines.{IsWordBefore}
use Rattle.nl_lines.specs.Leaves.{IsLeafRow}
use Rattle.nl_lines.proofs.FrontRows.{letter_row}

two_is : whole_of (50 ∷ []) ≡ Some 2
unfolding whole_of
two_is = refl

two_before : (more : List ℕ) → IsWordBefore 40 10 (50 ∷ 10 ∷ more) 2 (λ word. whole_of word ≡ Some 2)
two_before more = record { word = 50 ∷ []; more = more; parts = refl; size = refl; some = omega arith; few = omega arith; unmarked = (omega arith, tt); holds = two_is }

product : (more : List ℕ) → IsFirstRow (111 ∷ 50 ∷ 10 ∷ more) 3 (λ words. IsLeafRow words (Opcode 2))
product more =
    letter_row whole_of 2 (50 ∷ 10 ∷ more) 2 111 (λ words. IsLeafRow words (Opcode 2)) (omega arith) (λ words row. omega (arith, row.0.one)) (two_before more)
    (λ word e. (record { one = refl; first = refl }, e))

zero_is : (z : Dec) → dec_value z ≡ zero_ℚ → dec_of (48 ∷ []) ≡ Some z
zero_is z e = dec_of-some (48 ∷ []) z (record { some = omega arith; whole = (omega arith, tt); fraction = tt; exponent = tt }) (e ∙ sym (zero_decimal (pos 0)))

zero_before : (z : Dec) (more : List ℕ) → dec_value z ≡ zero_ℚ → IsWordBefore 40 10 (48 ∷ 10 ∷ more) 2 (λ word. dec_of word ≡ Some z)
zero_before z more e = record { word = 48 ∷ []; more = more; parts = refl; size = refl; some = omega arith; few = omega arith; unmarked = (omega arith, tt); holds = zero_is z e }

zero_number : (z : Dec) (more : List ℕ) → dec_value z ≡ zero_ℚ → IsFirstRow (110 ∷ 48 ∷ 10 ∷ more) 3 (λ words. IsLeafRow words (Number z))
zero_number z more e =
    letter_row dec_of z (48 ∷ 10 ∷ more) 2 110 (λ words. IsLeafRow words (Number z)) (omega arith) (λ words row. omega (arith, row.0.one)) (zero_before z more e)
    (λ word is. (record { one = refl; first = refl }, is))

-- a text that begins with three bytes
begins_with : (P : List ℕ → Type 0) (x y z : ℕ) → ((more : List ℕ) → P (x ∷ y ∷ z ∷ more)) → (text : List ℕ)
    → 3 ≤ length text → get_or text 0 0 ≡ x → get_or text 1 0 ≡ y → get_or text 2 0 ≡ z → P text
begins_with P x y z is [] some p q r = absurd (omega (arith, some))
begins_with P x y z is (a ∷ []) some p q r = absurd (omega (arith, some))
begins_with P x y z is (a ∷ b ∷ []) some p q r = absurd (omega (arith, some))
begins_with P x y z is (a ∷ b ∷ c ∷ more) some p q r =
    let same : x ∷ y ∷ z ∷ more ≡ a ∷ b ∷ c ∷ more = ap₂ (λ x xs. x ∷ xs) (sym p) (ap₂ (λ y ys. y ∷ ys) (sym q) (ap (λ z. z ∷ more) (sym r))) in
    subst P same (is more)

pub product_line : (text : List ℕ) → 3 ≤ length text → get_or text 0 0 ≡ 111 → get_or text 1 0 ≡ 50 → get_or text 2 0 ≡ 10 → IsFirstRow text 3 (λ words. IsLeafRow words (Opcode 2))
product_line text some o two ends = begins_with (λ bs. IsFirstRow bs 3 (λ words. IsLeafRow words (Opcode 2))) 111 50 10 product text some o two ends

pub zero_line : (z : Dec) (text : List ℕ) → dec_value z ≡ zero_ℚ → 3 ≤ length text → get_or text 0 0 ≡ 110
    → get_or text 1 0 ≡ 48 → get_or text 2 0 ≡ 10 → IsFirstRow text 3 (λ words. IsLeafRow words (Number z))
zero_line z text e some n nought ends = begins_with (λ bs. IsFirstRow bs 3 (λ words. IsLeafRow words (Number z))) 110 48 10 (λ more. zero_number z more e) text some n nought ends
