-- The lines of one owner of nodes and terms.
use Rattle.std.specs.Prelude.{ℕ, List, [], ◌++◌, Option, None}
use Rattle.std.specs.List.{range_with_len}

-- the lines of an owner: of its head, if it has one, of its nodes in prefix order, and of its terms
-- in file order
pub record OwnerLines : Type 0 where
  pub head : Option ℕ
  pub nodes : List ℕ
  pub terms : List ℕ

abbrev pub no_lines : OwnerLines
no_lines = record { head = None; nodes = []; terms = [] }

-- so many terms in lines that follow one another, from this one on
abbrev pub more_term_run : ℕ → ℕ → OwnerLines → OwnerLines
more_term_run first n o = record o { terms = o.terms ++ range_with_len first n }

-- so many nodes in lines that follow one another, from this one on
abbrev pub more_node_run : ℕ → ℕ → OwnerLines → OwnerLines
more_node_run first n o = record o { nodes = o.nodes ++ range_with_len first n }
