-- Opcodes have as many operands as their classes want.
use Rattle.std.proofs.Common.{◌≡◌, ℕ, ◌≤◌, Bool, true, false, eqb, cond, List, [], ◌∷◌, Some, Option, unwrap_or, find, ap, refl, lit≤, subst, arith}
use Rattle.std.specs.Option.{option_map}
use Rattle.std.specs.List.{AllByRecursion}
use Rattle.code_tables.specs.Opcodes.{class_of, operands_of, opcodes}
use Rattle.code_tables.specs.declared.class.OpClass.{OpClass}
use Rattle.code_tables.specs.declared.class.OpClass.TheVariants.{Refused}
use Rattle.code_tables.specs.declared.class.OpcodeRow.{OpcodeRow}
use Rattle.code_tables.specs.declared.class.Operands.{Operands}
use Rattle.code_tables.specs.declared.class.Operands.TheVariants.{One, Two, Counted}
use Rattle.std.proofs.Common.{◌∙◌, ◌<◌, ◌^◌}
use Rattle.nl_model.specs.Trees.{Takes, rule_of}

-- the operands are as many as the class wants
abbrev pub Fits : Operands → OpClass → Type 0
Fits One c = Takes (rule_of c) 1
Fits Two c = Takes (rule_of c) 2
Fits Counted c = (k : ℕ) → 1 ≤ k → Takes (rule_of c) k

abbrev operands_in : Option OpcodeRow → Option Operands
operands_in r = option_map (λ r. r.operands) r

abbrev class_in : Option OpcodeRow → OpClass
class_in r = unwrap_or (option_map (λ r. r.class) r) Refused

in_rows : (rows : List OpcodeRow) (o : ℕ) (operands : Operands) → AllByRecursion (λ r. Fits r.operands r.class) rows
    → operands_in (find (λ r. eqb r.opcode o) rows) ≡ Some operands → Fits operands (class_in (find (λ r. eqb r.opcode o) rows))
in_rows [] o operands h e = absurd cc
in_rows (r ∷ rows) o operands h e = by (eqb r.opcode o) refl e (in_rows rows o operands h.1)
  where
    by : (b : Bool) → eqb r.opcode o ≡ b → operands_in (cond (eqb r.opcode o) (Some r) (find (λ r. eqb r.opcode o) rows)) ≡ Some operands
        → (operands_in (find (λ r. eqb r.opcode o) rows) ≡ Some operands → Fits operands (class_in (find (λ r. eqb r.opcode o) rows)))
        → Fits operands (class_in (cond (eqb r.opcode o) (Some r) (find (λ r. eqb r.opcode o) rows)))
    by true t e further =
        let same : Some r.operands ≡ Some operands = rw t at e in
        rw t (subst (λ x. Fits x r.class) (ap (λ x. unwrap_or x operands) same) h.0)
    by false t e further = rw t (further (rw t at e))

pub operands_fit : (o : ℕ) (operands : Operands) → operands_of o ≡ Some operands → Fits operands (class_of o)
unfolding operands_of class_of
operands_fit o operands e =
    in_rows opcodes o operands (refl, (refl, (refl, (refl, (refl, ((λ k h. h), ((λ k h. h), (refl, (refl, (refl, (refl, ((λ k h. h), tt)))))))))))) e

-- ---- the nodes of operators

pub one_fits : (o : ℕ) (operands : Operands) → operands_of o ≡ Some operands → operands ≡ One → Takes (rule_of (class_of o)) 1 × (1 ≤ 2 ^ 22)
one_fits o operands e is = (operands_fit o One (e ∙ ap Some is), lit≤ tt)

pub two_fit : (o : ℕ) (operands : Operands) → operands_of o ≡ Some operands → operands ≡ Two → Takes (rule_of (class_of o)) 2 × (2 ≤ 2 ^ 22)
two_fit o operands e is = (operands_fit o Two (e ∙ ap Some is), lit≤ tt)

pub counted_fit : (o k : ℕ) → operands_of o ≡ Some Counted → 0 < k → k ≤ 2 ^ 22 → Takes (rule_of (class_of o)) k × (k ≤ 2 ^ 22)
counted_fit o k e more most = (operands_fit o Counted e k (omega (arith, more)), most)
