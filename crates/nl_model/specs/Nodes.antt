-- Nodes in prefix form, seen as trees (Gay 2005, "Writing .nl Files", expressions).
use Rattle.std.specs.Prelude.{◌≡◌, ℕ, ◌+◌, ◌-◌, ◌*◌, ◌^◌, ◌<◌, ◌≤◌, List, [], ◌∷◌, ◌++◌, drop, length}
use Rattle.code_tables.specs.Opcodes.{class_of}
use Rattle.code_tables.specs.declared.class.OpClass.{OpClass}
use Rattle.code_tables.specs.declared.class.OpClass.TheVariants.{Sum, Difference, Product, Quotient, Negation, List as ListOf, Power, Least, Greatest, Floor, Ceiling, Absolute, Refused}
use Rattle.exact_numbers.specs.declared.dec.Dec.{Dec}
use Rattle.nl_model.specs.Trees.{Tree, number, variable, defined, operator, Trees, none, more, first_trees, count_of, Takes, rule_of}
use Rattle.nl_model.specs.declared.node.Node.{Node}
use Rattle.nl_model.specs.declared.node.Node.TheVariants.{Num, Var, Defined, Op}

-- the opcode of a class; nothing asks for that of refused ones
abbrev pub opcode_of : OpClass → ℕ
opcode_of Sum = 0
opcode_of Difference = 1
opcode_of Product = 2
opcode_of Quotient = 3
opcode_of Power = 5
opcode_of Least = 11
opcode_of Greatest = 12
opcode_of Floor = 13
opcode_of Ceiling = 14
opcode_of Absolute = 15
opcode_of Negation = 16
opcode_of ListOf = 54
opcode_of Refused = 4

-- a node before some trees: an operator takes its operands from them
abbrev pub with_node : Node → List Tree → List Tree
with_node (Num d) ts = number d.m d.e ∷ ts
with_node (Var j) ts = variable j ∷ ts
with_node (Defined i) ts = defined i ∷ ts
with_node (Op o k) ts = operator (class_of o) (first_trees k ts) ∷ drop k ts

-- the trees that nodes in prefix form are, one after the other
abbrev pub trees_of : List Node → List Tree
trees_of [] = []
trees_of (n ∷ ns) = with_node n (trees_of ns)

-- the first of some trees; nothing asks for the first of none
abbrev pub first_of_trees : List Tree → Tree
first_of_trees [] = operator (class_of 1) none
first_of_trees (t ∷ ts) = t

-- the tree that nodes in prefix form are
abbrev pub tree_of : List Node → Tree
tree_of ns = first_of_trees (trees_of ns)

-- t has these nodes in prefix form, each operator with as many operands as its class wants
mutual
  pub data IsPrefix : Tree → List Node → Type 0 where
    a_number : (d : Dec) → IsPrefix (number d.m d.e) (Num d ∷ [])
    a_variable : (j : ℕ) → IsPrefix (variable j) (Var j ∷ [])
    a_defined : (i : ℕ) → IsPrefix (defined i) (Defined i ∷ [])
    an_operation : (o : ℕ) (ts : Trees) (ns : List Node)
        → Takes (rule_of (class_of o)) (count_of ts) → ArePrefixes ts ns
        → IsPrefix (operator (class_of o) ts) (Op o (count_of ts) ∷ ns)

  pub data ArePrefixes : Trees → List Node → Type 0 where
    no_tree : ArePrefixes none []
    one_more : (t : Tree) (ns : List Node) (ts : Trees) (ms : List Node) → IsPrefix t ns
        → ArePrefixes ts ms → ArePrefixes (more t ts) (ns ++ ms)

-- each operator has as many operands as its class wants, and finds them
abbrev pub AreNodesFormed : List Node → Type 0
AreNodesFormed [] = Unit {0}
AreNodesFormed (Num d ∷ ns) = AreNodesFormed ns
AreNodesFormed (Var j ∷ ns) = AreNodesFormed ns
AreNodesFormed (Defined i ∷ ns) = AreNodesFormed ns
AreNodesFormed (Op o k ∷ ns) =
    Takes (rule_of (class_of o)) k × (k ≤ length (trees_of ns)) × AreNodesFormed ns

-- the operands of each operator are as many as its class wants
abbrev mutual
  pub IsTreeFormed : Tree → Type 0
  IsTreeFormed (number m e) = Unit {0}
  IsTreeFormed (variable j) = Unit {0}
  IsTreeFormed (defined i) = Unit {0}
  IsTreeFormed (operator c ts) = Takes (rule_of c) (count_of ts) × AreTreesFormed ts

  pub AreTreesFormed : Trees → Type 0
  AreTreesFormed none = Unit {0}
  AreTreesFormed (more t ts) = IsTreeFormed t × AreTreesFormed ts

-- the nodes of a tree, by what a reader and by what a fold knows of them
pub record AreNodesOf (t : Tree) (ns : List Node) : Type 0 where
  pub prefix : IsPrefix t ns
  pub trees : trees_of ns ≡ t ∷ []
  pub formed : AreNodesFormed ns
  pub tree_formed : IsTreeFormed t
  pub few : length ns ≤ 2 ^ 22

-- the number of nodes that follow a node as its operands
abbrev pub operand_count : Node → ℕ
operand_count (Op o k) = k
operand_count n = 0

-- how many trees are awaited after some nodes, of w that were awaited before
abbrev pub awaited_after : ℕ → List Node → ℕ
awaited_after w [] = w
awaited_after w (n ∷ ns) = awaited_after (w - 1 + operand_count n) ns

-- how many trees are awaited after nodes of one tree
abbrev pub awaited : List Node → ℕ
awaited ns = awaited_after 1 ns

-- an operator has as many operands as its class wants, at most 2 ^ 22
abbrev pub IsNode : Node → Type 0
IsNode (Op o k) = Takes (rule_of (class_of o)) k × (k ≤ 2 ^ 22)
IsNode n = Unit {0}

-- a tree is awaited before each node
abbrev pub IsRun : ℕ → List Node → Type 0
IsRun w [] = Unit {0}
IsRun w (n ∷ ns) = (0 < w) × IsNode n × IsRun (w - 1 + operand_count n) ns

-- nodes of one tree that may not be whole
pub record AreNodesBegun (ns : List Node) (wants : ℕ) : Type 0 where
  pub run : IsRun 1 ns
  pub wanted : wants ≡ awaited ns
  pub few : length ns ≤ 2 ^ 22
  pub bounded : wants ≤ 1 + 2 ^ 22 * length ns
