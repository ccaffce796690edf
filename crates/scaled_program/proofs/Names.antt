-- The names of rows and columns are names, and no two are the same.
use Rattle.std.proofs.Common.{◌≡◌, ◌≢◌, ℕ, ◌+◌, ◌%◌, ◌<◌, ◌^◌, ◌∙◌, ap, ap₂, refl, arith, true, ◌&&◌, [], ◌∷◌, get_or, drop, nat_le}
use Rattle.std.specs.Fmt.{decimal}
use Rattle.std.proofs.lemmas.Fmt.{decimal_injective, decimal_by_steps, length-decimal-le}
use Rattle.std.proofs.lemmas.Bool.{le-leb}
use Rattle.std.proofs.lemmas.List.Folds.{list_all-append}
use Rattle.text_base.specs.Names.{IsName, has_name_bytes}
use Rattle.mps_model.specs.Valid.{marker_word}
use Rattle.linear_program.specs.Names.{row_name, variable_name}
use Rattle.scaled_program.specs.ExportedProgram.{nl_name, obj_name}
use Rattle.scaled_program.specs.Program.{z_name, zdef_name}

digit_byte : (d : ℕ) → nat_le 33 (48 + d) ≡ true
digit_byte d = le-leb 33 (48 + d) (omega arith)

pub digit_bytes : (n : ℕ) → n < 2 ^ 64 → has_name_bytes (decimal n) ≡ true
digit_bytes n h =
    decimal_by_steps (λ m ds. has_name_bytes ds ≡ true) (λ m l. ap (λ b. b && true) (digit_byte m))
    (λ m ds l h. list_all-append (λ b. nat_le 33 b) ds ((48 + m % 10) ∷ []) ∙ ap₂ (λ a b. a && (b && true)) h (digit_byte (m % 10))) n h

pub numbered_is_name : (letter n : ℕ) → nat_le 33 letter ≡ true → n < 2 ^ 64 → IsName (letter ∷ decimal n)
numbered_is_name letter n fine h =
    record {
      some = omega arith;
      most = omega (arith, length-decimal-le 20 n (omega arith) (omega (arith, h)) h);
      each = ap₂ ◌&&◌ fine (digit_bytes n h);
    }

pub constraint_is_name : (i : ℕ) → i < 2 ^ 32 → IsName (row_name i)
constraint_is_name i h = numbered_is_name 99 i refl (omega (arith, h))

pub variable_is_name : (j : ℕ) → j < 2 ^ 32 → IsName (variable_name j)
variable_is_name j h = numbered_is_name 120 j refl (omega (arith, h))

pub nl_is_name : IsName nl_name
nl_is_name = record { some = omega arith; most = omega arith; each = refl }

pub obj_is_name : IsName obj_name
obj_is_name = record { some = omega arith; most = omega arith; each = refl }

pub z_is_name : IsName z_name
z_is_name = record { some = omega arith; most = omega arith; each = refl }

pub zdef_is_name : IsName zdef_name
zdef_is_name = record { some = omega arith; most = omega arith; each = refl }

numbered_apart : (letter i j : ℕ) → i < 2 ^ 32 → j < 2 ^ 32 → letter ∷ decimal i ≡ letter ∷ decimal j → i ≡ j
numbered_apart letter i j h l e = decimal_injective i j (omega (arith, h)) (omega (arith, l)) (ap (drop 1) e)

pub constraints_apart : (i j : ℕ) → i < 2 ^ 32 → j < 2 ^ 32 → row_name i ≡ row_name j → i ≡ j
constraints_apart = numbered_apart 99

pub variables_apart : (i j : ℕ) → i < 2 ^ 32 → j < 2 ^ 32 → variable_name i ≡ variable_name j → i ≡ j
variables_apart = numbered_apart 120

pub constraint_not_obj : (i : ℕ) → row_name i ≢ obj_name
constraint_not_obj i = λ e. let other : 99 ≡ 111 = ap (λ x. get_or x 0 0) e in omega (arith, other)

pub constraint_not_zdef : (i : ℕ) → row_name i ≢ zdef_name
constraint_not_zdef i = λ e. let other : 99 ≡ 122 = ap (λ x. get_or x 0 0) e in omega (arith, other)

pub constraint_not_marker : (i : ℕ) → row_name i ≢ marker_word
constraint_not_marker i = λ e. let other : 99 ≡ 39 = ap (λ x. get_or x 0 0) e in omega (arith, other)

pub obj_not_zdef : obj_name ≢ zdef_name
obj_not_zdef = λ e. let other : 111 ≡ 122 = ap (λ x. get_or x 0 0) e in omega (arith, other)

pub obj_not_marker : obj_name ≢ marker_word
obj_not_marker = λ e. let other : 111 ≡ 39 = ap (λ x. get_or x 0 0) e in omega (arith, other)

pub zdef_not_marker : zdef_name ≢ marker_word
zdef_not_marker = λ e. let other : 122 ≡ 39 = ap (λ x. get_or x 0 0) e in omega (arith, other)

-- another first byte
pub variable_not_z : (j : ℕ) → variable_name j ≢ z_name
variable_not_z j = λ e. let other : 120 ≡ 122 = ap (λ x. get_or x 0 0) e in omega (arith, other)
