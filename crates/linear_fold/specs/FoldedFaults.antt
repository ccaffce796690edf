-- The faults of folding a file at their places, and how many steps folding takes.
use Rattle.std.specs.Prelude.{ℕ, ◌+◌, ◌-◌, ◌*◌, nat_lt, length, Option, option_map, if◌then◌else◌}
use Rattle.std.specs.List.{sum_by}
use Rattle.std.specs.Option.{option_map_or}
use Rattle.nl_model.specs.declared.fault.Reason.{Reason}
use Rattle.nl_model.specs.declared.fault.Reason.TheVariants.{Nonlinear as IsNonlinear, DivideByZero as DividesByZero, TooWide as IsTooWide, RefusedPower as HasRefusedPower}
use Rattle.nl_model.specs.Trees.{tree_size}
use Rattle.nl_model.specs.declared.at.At.{At}
use Rattle.nl_model.specs.declared.at.At.TheVariants.{Node, Term, Head}
use Rattle.nl_model.specs.declared.at.Owner.{Owner}
use Rattle.nl_model.specs.File.{File}
use Rattle.nl_model.specs.FilePlaces.{HasPlace, tree_at}
use Rattle.nl_model.specs.Expressions.{tree_or_zero}
use Rattle.nl_model.specs.FoldFaults.{FoldFault as FileFault, no_such_objective, at_place, fold_too_large, fold_fault}
use Rattle.linear_fold.specs.declared.fold_fault.FoldFault.{FoldFault}
use Rattle.linear_fold.specs.declared.fold_fault.FoldFault.TheVariants.{Nonlinear, DivideByZero, TooWide, RefusedPower, FoldTooLarge, NoSuchObjective}

-- of an owner with so many nodes: nodes are numbered from 0, and the terms after them
abbrev pub place_after : ℕ → Owner → ℕ → At
place_after nodes o i = if nat_lt i nodes then Node o i else Term o (i - nodes)

-- the place of a number; a missing tree is the number 0, which is one node
abbrev pub place_at : File → Owner → ℕ → At
place_at f o i = place_after (tree_size (tree_or_zero (tree_at f o))) o i

abbrev pub fault_for : Reason → At → FoldFault
fault_for IsNonlinear at = Nonlinear at
fault_for DividesByZero at = DivideByZero at
fault_for IsTooWide at = TooWide at
fault_for HasRefusedPower at = RefusedPower at

abbrev pub named_fault : File → FileFault → FoldFault
named_fault f (no_such_objective k) = NoSuchObjective k
named_fault f (at_place o fault) = fault_for fault.reason (place_at f o fault.place)
named_fault f (fold_too_large o) = FoldTooLarge (Head o)

-- the first fault of folding a file with objective k
abbrev pub first_fold_fault : File → ℕ → Option FoldFault
first_fold_fault f k = option_map (named_fault f) (fold_fault f k)

-- the file has the place of the fault, where it has one
abbrev pub HasFaultPlace : File → FoldFault → Type 0
HasFaultPlace f (Nonlinear at) = HasPlace f at
HasFaultPlace f (DivideByZero at) = HasPlace f at
HasFaultPlace f (TooWide at) = HasPlace f at
HasFaultPlace f (RefusedPower at) = HasPlace f at
HasFaultPlace f (FoldTooLarge at) = HasPlace f at
HasFaultPlace f (NoSuchObjective k) = Unit {0}

-- ---- steps

-- the nodes of all expressions
abbrev pub nodes_in_all : File → ℕ
nodes_in_all f =
    sum_by (λ d. tree_size d.tree) f.definitions
    + sum_by (λ b. option_map_or tree_size b 0) f.bodies
    + sum_by (λ o. tree_size o.tree) f.objectives

-- the linear terms of all owners
abbrev pub term_total : File → ℕ
term_total f = sum_by (λ d. length d.terms) f.definitions + sum_by length f.terms
    + sum_by length f.slopes

-- folding takes at most so many steps
abbrev pub step_bound : File → ℕ
step_bound f = 2 * (nodes_in_all f + term_total f) * (f.counts.n_var + 1)
