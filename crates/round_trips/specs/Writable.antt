-- Which files can be written so that the text is read as the same file: those that keep the rules
-- of values and the limits of texts.
use Rattle.std.specs.Prelude.{◌≡◌, ℕ, ◌+◌, ◌^◌, ◌<◌, ◌≤◌, ◌==◌, true, false, List, length, sum_by, All, slice_index, codes, IfSome, get_or}
use Rattle.std.specs.List.{list_all}
use Rattle.std.specs.Option.{option_map_or}
use Rattle.std.specs.Str.{bytes_eq}
use Rattle.text_base.specs.Names.{is_name}
use Rattle.exact_numbers.specs.Numbers.{has_31_bits, is_whole}
use Rattle.nl_model.specs.Trees.{Tree, tree_size}
use Rattle.linear_program.specs.declared.interval.Interval.{Interval}
use Rattle.nl_model.specs.declared.node.Node.{Node}
use Rattle.nl_model.specs.File.{File}
use Rattle.nl_model.specs.declared.suffix.Suffix.{Suffix}
use Rattle.nl_model.specs.Kinds.{variable_kind}
use Rattle.nl_model.specs.Nodes.{IsPrefix}
use Rattle.nl_model.specs.Rules.{IsFile, term_count}
use Rattle.nl_model.specs.SuffixKinds.{wants_whole}
use Rattle.nl_segments.specs.Reader.{IsNl}
use Rattle.nl_lines.specs.Saying.{PlaceLines}
use Rattle.nl_lines.specs.Tests.{is_binary, is_within_unit}
use Rattle.text_base.specs.WordLines.{spaced}
use Rattle.nl_writer.specs.Written.{nl_lines, nl_text}

-- the tree is that of nodes, so each of its numbers is one that can be written
pub record HasNodes (t : Tree) : Type 0 where
  pub nodes : List Node
  pub prefix : IsPrefix t nodes

-- the name is no comment, and announces no special ordered sets
pub record IsWritableSuffix (s : Suffix) : Type 0 where
  pub kind : s.kind < 256
  pub name : is_name s.name ≡ true
  pub no_comment : (slice_index s.name 0 == 35) ≡ false
  pub no_sets : bytes_eq s.name (codes "sosno") ≡ false
  pub whole : wants_whole s.kind ≡ true → All (λ t. is_whole t.1 ≡ true) s.values
  pub count : length s.values < 2 ^ 31

-- linear terms of constraints, objectives and defined variables
abbrev pub linear_count : File → ℕ
linear_count f =
    sum_by (λ d. length d.terms) f.definitions + term_count f.terms + term_count f.slopes

abbrev pub value_count : File → ℕ
value_count f = sum_by (λ s. length s.values) f.suffixes

-- nodes of all expressions
abbrev pub node_count : File → ℕ
node_count f =
    sum_by (λ d. tree_size d.tree) f.definitions
    + sum_by (λ b. option_map_or tree_size b 0) f.bodies
    + sum_by (λ o. tree_size o.tree) f.objectives

pub record AreTreesWritable (f : File) : Type 0 where
  pub definitions : All (λ d. HasNodes d.tree) f.definitions
  pub bodies : All (λ b. IfSome b HasNodes) f.bodies
  pub objectives : All (λ o. HasNodes o.tree) f.objectives

-- no line is too long, nor is the text
pub record HasRoom (f : File) : Type 0 where
  pub lines : All (λ line. length (spaced line) ≤ 65536) (nl_lines f)
  pub text : length (nl_text f) ≤ 2 ^ 31

-- numbers that can be written, names that are read as names, and the limits of texts
pub record IsWithinLimits (f : File) : Type 0 where
  pub options : list_all has_31_bits f.options ≡ true
  pub trees : AreTreesWritable f
  pub usages : All (λ d. d.usage < 2 ^ 31) f.definitions
  pub dual_guesses : length f.dual_guesses < 2 ^ 31
  pub primal_guesses : length f.primal_guesses < 2 ^ 31
  pub suffixes : All IsWritableSuffix f.suffixes
  pub few_suffixes : length f.suffixes ≤ 1024
  pub few_values : value_count f ≤ 2 ^ 22
  pub few_terms : linear_count f ≤ 2 ^ 22
  pub few_nodes : node_count f ≤ 2 ^ 22
  pub binary : (j : ℕ) (i : Interval) → j < f.counts.n_var →
      is_binary (variable_kind f.counts j) ≡ true → is_within_unit (get_or f.bounds j i) ≡ true

-- the rules of values, these limits, and room for the text
pub record IsWritable (f : File) : Type 0 where
  pub file : IsFile f
  pub limits : IsWithinLimits f
  pub room : HasRoom f

-- the text says the file, at some places
pub record IsText (f : File) (text : List ℕ) : Type 0 where
  pub places : PlaceLines
  pub read : IsNl text (record { file = f; places = places })

-- what is written of a file that can be written is a text of the profile that says the file
abbrev pub WrittenIsRead : Type 0
WrittenIsRead = (f : File) → IsWritable f → IsText f (nl_text f)
