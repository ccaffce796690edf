-- The first fault of folding an .nl file to its linear program (own profile).
use Rattle.std.specs.Prelude.{ℕ, zero, suc, ◌+◌, ◌^◌, ◌==◌, ◌&&◌, ◌||◌, nat_lt, Bool, if◌then◌else◌, List, [], ◌∷◌, ◌++◌, length, get_or, take, Option, Some, None, option_map}
use Rattle.std.specs.Option.{option_or}
use Rattle.nl_model.specs.declared.fault.Fault.{Fault}
use Rattle.nl_model.specs.Faults.{expression_fault}
use Rattle.linear_program.specs.Lines.{Line, line_by, is_zero, Point}
use Rattle.nl_model.specs.Trees.{Known, Expression, Definition, expression_given, known_values}
use Rattle.nl_model.specs.File.{File}
use Rattle.nl_model.specs.declared.at.Owner.{Owner}
use Rattle.nl_model.specs.declared.at.Owner.TheVariants.{Def, Con, Obj}
use Rattle.nl_model.specs.Expressions.{expression_of, tree_or_zero, definitions_of, body_of, objective_of}
use Rattle.linear_program.specs.Elements.{elements_from}

-- there is no such objective; a fault at a node or a term of an owner; or too many coefficients, at
-- the head of an owner
pub data FoldFault : Type 0 where
  no_such_objective : ℕ → FoldFault
  at_place : Owner → Fault → FoldFault
  fold_too_large : Owner → FoldFault

-- an expression of a file, with the values of the defined variables before it
pub record Owned : Type 0 where
  pub owner : Owner
  pub known : Point → Known
  pub expression : Expression

abbrev pub owned_line : Owned → Line
owned_line o = line_by (λ at. expression_given (o.known at) o.expression at)

-- how many of the first n coefficients are not 0
abbrev pub coefficient_count : ℕ → Line → ℕ
coefficient_count zero l = 0
coefficient_count (suc n) l = coefficient_count n l + (if is_zero (l.coef n) then 0 else 1)

-- at most 2 ^ 23 coefficients
abbrev pub most_coefficients : ℕ
most_coefficients = 2 ^ 23

abbrev pub head_fault : Owner → ℕ → Option FoldFault
head_fault o count = (if nat_lt most_coefficients count then Some (fold_too_large o) else None)

-- the fault of one owner, where those up to it have `count` coefficients: nodes and terms before
-- the head
abbrev pub owner_fault : ℕ → ℕ → Owned → Option FoldFault
owner_fault n count o =
    option_or (option_map (at_place o.owner) (expression_fault o.known n o.expression))
    (head_fault o.owner count)

-- the first fault of owners, where those before have `count` coefficients
abbrev pub owners_fault : ℕ → ℕ → List Owned → Option FoldFault
owners_fault n count [] = None
owners_fault n count (o ∷ os) =
    let total = count + coefficient_count n (owned_line o) in
    option_or (owner_fault n total o) (owners_fault n total os)

-- nothing asks for a definition past the last
abbrev pub no_definition : Definition
no_definition = record { index = 0; expression = expression_of (tree_or_zero None) [] }

-- definition i in file order, which may use those before it
abbrev pub owned_definition : List Definition → ℕ → Owned
owned_definition ds i =
    record {
      owner = Def i;
      known = known_values (take i ds);
      expression = (get_or ds i no_definition).expression;
    }

-- the line of defined variable i, by its values
abbrev pub defined_line : File → ℕ → Line
defined_line f i = line_by (λ at. known_values (definitions_of f) at i)

-- with all defined variables
abbrev pub owned_by : File → Owner → Expression → Owned
owned_by f o x = record { owner = o; known = known_values (definitions_of f); expression = x }

-- the defined variables in file order, the constraints by number, and objective k
abbrev pub owners_of : File → ℕ → List Owned
owners_of f k =
    elements_from (owned_definition (definitions_of f)) 0 (length (definitions_of f))
    ++ (elements_from (λ i. owned_by f (Con i) (body_of f i)) 0 f.counts.n_con
    ++ owned_by f (Obj k) (objective_of f k) ∷ [])

-- objective k is there, or it is the 0 of a file without objectives
abbrev pub has_objective : File → ℕ → Bool
has_objective f k = nat_lt k f.counts.n_obj || ((k == 0) && (f.counts.n_obj == 0))

-- the first fault of folding a file with objective k
unfoldable pub fold_fault : File → ℕ → Option FoldFault
fold_fault f k =
    if has_objective f k
    then owners_fault f.counts.n_var 0 (owners_of f k)
    else Some (no_such_objective k)
