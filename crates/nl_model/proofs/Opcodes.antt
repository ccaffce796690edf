-- Each class has one opcode.
use Rattle.std.proofs.Common.{◌≡◌, ◌⊎◌, ℕ, Bool, eqb, cond, List, [], ◌∷◌, Some, unwrap_or, find, ◌∙◌, sym, subst, refl, inl, inr}
use Rattle.std.specs.Option.{option_map}
use Rattle.std.specs.List.{AllByRecursion}
use Rattle.std.proofs.lemmas.Bool.Decides.{eqb_tells}
use Rattle.code_tables.specs.Opcodes.{class_of, opcodes}
use Rattle.code_tables.specs.declared.class.OpClass.{OpClass}
use Rattle.code_tables.specs.declared.class.OpClass.TheVariants.{Sum, Difference, Product, Quotient, Negation, List as ListOf, Power, Least, Greatest, Floor, Ceiling, Absolute, Refused}
use Rattle.code_tables.specs.declared.class.OpcodeRow.{OpcodeRow}
use Rattle.nl_model.specs.Nodes.{opcode_of}

pub class_of-opcode : (c : OpClass) → class_of (opcode_of c) ≡ c
unfolding class_of
class_of-opcode Sum = refl
class_of-opcode Difference = refl
class_of-opcode Product = refl
class_of-opcode Quotient = refl
class_of-opcode Power = refl
class_of-opcode Least = refl
class_of-opcode Greatest = refl
class_of-opcode Floor = refl
class_of-opcode Ceiling = refl
class_of-opcode Absolute = refl
class_of-opcode Negation = refl
class_of-opcode ListOf = refl
class_of-opcode Refused = refl

abbrev class_in : List OpcodeRow → ℕ → OpClass
class_in rows o = unwrap_or (option_map (λ r. r.class) (find (λ r. eqb r.opcode o) rows)) Refused

in_rows : (rows : List OpcodeRow) (o : ℕ) → AllByRecursion (λ r. opcode_of r.class ≡ r.opcode) rows → (opcode_of (class_in rows o) ≡ o) ⊎ (class_in rows o ≡ Refused)
in_rows [] o h = inr refl
in_rows (r ∷ rows) o h =
    let P : Bool → Type 0 =
    λ b. (opcode_of (unwrap_or (option_map (λ r. r.class) (cond b (Some r) (find (λ r. eqb r.opcode o) rows))) Refused) ≡ o)
    ⊎ (unwrap_or (option_map (λ r. r.class) (cond b (Some r) (find (λ r. eqb r.opcode o) rows))) Refused ≡ Refused) in
    elim (eqb_tells r.opcode o) [ inl t ↦ subst P (sym t.0) (inl (h.0 ∙ t.1)) | inr f ↦ subst P (sym f.0) (in_rows rows o h.1) ]

pub opcode_of-class : (o : ℕ) → (opcode_of (class_of o) ≡ o) ⊎ (class_of o ≡ Refused)
unfolding class_of
opcode_of-class o = in_rows opcodes o (refl, (refl, (refl, (refl, (refl, (refl, (refl, (refl, (refl, (refl, (refl, (refl, tt))))))))))))

pub opcode_of-known : (o : ℕ) → (class_of o ≡ Refused → ⊥) → opcode_of (class_of o) ≡ o
opcode_of-known o h = elim (opcode_of-class o) [ inl e ↦ e | inr r ↦ absurd (h r) ]
