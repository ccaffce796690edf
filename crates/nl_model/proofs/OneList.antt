-- A tree has one list of nodes in prefix form.
use Rattle.std.proofs.Common.{◌≡◌, ℕ, ℤ, List, [], ◌∷◌, ◌++◌, ◌∙◌, sym, ap, ap₂, subst, refl}
use Rattle.code_tables.specs.Opcodes.{class_of}
use Rattle.code_tables.specs.declared.class.OpClass.{OpClass}
use Rattle.code_tables.specs.declared.class.OpClass.TheVariants.{Refused}
use Rattle.exact_numbers.specs.declared.dec.Dec.{Dec}
use Rattle.exact_numbers.proofs.NumberLemmas.{same_dec}
use Rattle.nl_model.specs.Trees.{Tree, number, variable, defined, operator, Trees, none, more, count_of, Takes, rule_of}
use Rattle.nl_model.specs.declared.node.Node.{Node}
use Rattle.nl_model.specs.declared.node.Node.TheVariants.{Num, Var, Defined, Op}
use Rattle.nl_model.specs.Nodes.{opcode_of, IsPrefix, a_number, a_variable, a_defined, an_operation, ArePrefixes}
use Rattle.nl_model.proofs.Opcodes.{opcode_of-known}
use Rattle.nl_model.proofs.Prefixes.{cut, none_empty}

record IsNumber (m e : ℤ) (ns : List Node) : Type 0 where
  dec : Dec
  mantissa : dec.m ≡ m
  exponent : dec.e ≡ e
  nodes : ns ≡ Num dec ∷ []

number_nodes : (m e : ℤ) (ns : List Node) → IsPrefix (number m e) ns → IsNumber m e ns
number_nodes _ _ _ (a_number d) = record { dec = d; mantissa = refl; exponent = refl; nodes = refl }

variable_nodes : (j : ℕ) (ns : List Node) → IsPrefix (variable j) ns → ns ≡ Var j ∷ []
variable_nodes _ _ (a_variable j) = refl

defined_nodes : (i : ℕ) (ns : List Node) → IsPrefix (defined i) ns → ns ≡ Defined i ∷ []
defined_nodes _ _ (a_defined i) = refl

record IsOperation (c : OpClass) (ts : Trees) (ns : List Node) : Type 0 where
  opcode : ℕ
  rest : List Node
  class : class_of opcode ≡ c
  counted : Takes (rule_of (class_of opcode)) (count_of ts)
  operands : ArePrefixes ts rest
  nodes : ns ≡ Op opcode (count_of ts) ∷ rest

operation_nodes : (c : OpClass) (ts : Trees) (ns : List Node) → IsPrefix (operator c ts) ns → IsOperation c ts ns
operation_nodes _ _ _ (an_operation o ts ns k h) = record { opcode = o; rest = ns; class = refl; counted = k; operands = h; nodes = refl }

opcode_is : (c : OpClass) (ts : Trees) (ns : List Node) (x : IsOperation c ts ns) → opcode_of c ≡ x.opcode
opcode_is c ts ns x =
    let known : class_of x.opcode ≡ Refused → ⊥ = λ r. subst (λ k. Takes (rule_of k) (count_of ts)) r x.counted in
    ap opcode_of (sym x.class) ∙ opcode_of-known x.opcode known

mutual
  pub one_list : (t : Tree) (ns ms : List Node) → IsPrefix t ns → IsPrefix t ms → ns ≡ ms
  one_list (number m e) ns ms p q =
      let x = number_nodes m e ns p in
      let y = number_nodes m e ms q in
      x.nodes ∙ ap (λ d. Num d ∷ []) (same_dec x.dec y.dec (x.mantissa ∙ sym y.mantissa) (x.exponent ∙ sym y.exponent)) ∙ sym y.nodes
  one_list (variable j) ns ms p q = variable_nodes j ns p ∙ sym (variable_nodes j ms q)
  one_list (defined i) ns ms p q = defined_nodes i ns p ∙ sym (defined_nodes i ms q)
  one_list (operator c ts) ns ms p q =
      let x = operation_nodes c ts ns p in
      let y = operation_nodes c ts ms q in
      x.nodes ∙ ap₂ (λ o rest. Op o (count_of ts) ∷ rest) (sym (opcode_is c ts ns x) ∙ opcode_is c ts ms y) (one_lists ts x.rest y.rest x.operands y.operands) ∙ sym y.nodes

  one_lists : (ts : Trees) (ns ms : List Node) → ArePrefixes ts ns → ArePrefixes ts ms → ns ≡ ms
  one_lists none ns ms p q = none_empty ns p ∙ sym (none_empty ms q)
  one_lists (more t ts) ns ms p q =
      let x = cut t ts ns p in
      let y = cut t ts ms q in
      x.joined ∙ ap₂ (λ a b. a ++ b) (one_list t x.head y.head x.first y.first) (one_lists ts x.tail y.tail x.rest y.rest) ∙ sym y.joined
