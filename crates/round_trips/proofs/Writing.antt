-- The laws of written imports.
use Rattle.std.proofs.Common.{◌≡◌, ◌∙◌, ℕ, zero, suc, ◌<◌, ◌≤◌, sym, true, false, ◌^◌, [], ◌∷◌, length, refl, subst, arith, Option, Some, None, MatchOption, replicate}
use Rattle.std.specs.Prelude.{IfSome, sum_by}
use Rattle.std.specs.Option.{option_map_or}
use Rattle.std.proofs.lemmas.List.Elements.{All-nil, All-replicate}
use Rattle.std.proofs.lemmas.List.Sums.{sum_by-cons}
use Rattle.exact_numbers.specs.declared.dec.Dec.{Dec}
use Rattle.exact_numbers.specs.Numbers.{dec_from}
use Rattle.exact_numbers.specs.Values.{FitsDec, dec_value, fits_dec}
use Rattle.exact_numbers.proofs.NumberLemmas.{dec_from-fits}
use Rattle.exact_numbers.proofs.Spelling.{fits_dec_in}
use Rattle.exact_numbers.specs.Rational.{ℚ}
use Rattle.nl_model.specs.Trees.{Tree, tree_size}
use Rattle.nl_model.specs.declared.node.Node.TheVariants.{Num}
use Rattle.nl_model.specs.File.{Term}
use Rattle.nl_model.specs.declared.definition.Def.{Def as Definition}
use Rattle.nl_model.specs.declared.objective.Objective.{Objective}
use Rattle.nl_model.specs.Nodes.{a_number}
use Rattle.nl_segments.specs.Grammar.{NlValue}
use Rattle.nl_segments.specs.Reader.{IsNl}
use Rattle.nl_writer.specs.Written.{nl_text}
use Rattle.round_trips.specs.Writable.{AreTreesWritable, HasNodes, IsText, IsWithinLimits, IsWritable, IsWritableSuffix, linear_count, node_count}
use Rattle.round_trips.proofs.WholeLaw.{written_is_read}
use Rattle.round_trips.proofs.Room.{writable_by}
use Rattle.mps_model.specs.Mps.{Mps, objective_row, rhs_at, with_values}
use Rattle.mps_import.specs.Decimals.{number_tree}
use Rattle.mps_import.specs.Faults.{import_fault}
use Rattle.mps_program.specs.Program.{constraints, values_of}
use Rattle.mps_import.specs.Import.{import_objective, import_of, objective_constant, objective_terms}
use Rattle.mps_import.proofs.PartLemmas.{clean_large, number_is}
use Rattle.mps_program.proofs.SideLemmas.{rhs_fits}
use Rattle.exact_numbers.proofs.Fitting.{neg_fits}
use Rattle.mps_import.proofs.TermLemmas.{few_terms}
use Rattle.round_trips.proofs.Binary.{binary_within}
use Rattle.round_trips.proofs.Files.{is_file, one}

-- ---- the objective's tree

number_nodes : (x : ℚ) → FitsDec x → HasNodes (number_tree x)
number_nodes x fits = by (dec_from x) (dec_from-fits x)
  where
    by : (o : Option Dec) → MatchOption o (fits_dec x ≡ false) (λ d. (fits_dec x ≡ true) × (dec_value d ≡ x)) → HasNodes (number_tree x)
    by None e = absurd (let t = fits_dec_in x fits in cc)
    by (Some d) e = subst HasNodes (number_is d x e.1) (record { nodes = Num d ∷ []; prefix = a_number d })

objective_nodes : (m : Mps Dec) → HasNodes (number_tree (objective_constant m))
unfolding with_values
objective_nodes m = number_nodes (objective_constant m) (neg_fits (rhs_at (values_of m) (objective_row m.rows)) (rhs_fits (objective_row m.rows) m.rhs))

trees_written : (m : Mps Dec) → AreTreesWritable (import_of m)
unfolding import_of
trees_written m = record {
  definitions = All-nil (λ (d : Definition). HasNodes d.tree);
  bodies = All-replicate (λ (b : Option Tree). IfSome b HasNodes) (length (constraints m.rows)) None tt;
  objectives = one (λ (o : Objective). HasNodes o.tree) (import_objective m) (objective_nodes m);
}

-- ---- how many

no_size : (n : ℕ) → sum_by (λ (b : Option Tree). option_map_or tree_size b 0) (replicate n None) ≡ 0
no_size zero = refl
no_size (suc n) = omega (arith, no_size n, sum_by-cons (λ (b : Option Tree). option_map_or tree_size b 0) None (replicate n None))

nodes_few : (m : Mps Dec) → node_count (import_of m) ≤ 2 ^ 22
unfolding import_of
nodes_few m = omega (arith, no_size (length (constraints m.rows)), sum_by-cons (λ (o : Objective). tree_size o.tree) (import_objective m) [])

terms_few : (m : Mps Dec) → import_fault m ≡ None → linear_count (import_of m) ≤ 2 ^ 22
unfolding import_of
terms_few m clean = omega (arith, few_terms m (clean_large m clean), sum_by-cons (length {A = Term}) (objective_terms m) [])

-- ---- the laws

limits : (m : Mps Dec) → import_fault m ≡ None → IsWithinLimits (import_of m)
unfolding import_of
limits m clean = record {
  options = refl;
  trees = trees_written m;
  usages = All-nil (λ (d : Definition). d.usage < 2 ^ 31);
  dual_guesses = omega arith;
  primal_guesses = omega arith;
  suffixes = All-nil IsWritableSuffix;
  few_suffixes = omega arith;
  few_values = omega arith;
  few_terms = terms_few m clean;
  few_nodes = nodes_few m;
  binary = binary_within m;
}

pub writable : (m : Mps Dec) → import_fault m ≡ None → IsWritable (import_of m)
writable m clean = writable_by (import_of m) (is_file m clean) (limits m clean)

pub said : (m : Mps Dec) → import_fault m ≡ None → IsText (import_of m) (nl_text (import_of m))
said m clean = written_is_read (import_of m) (writable m clean)

pub no_other : (m : Mps Dec) (value : NlValue) → import_fault m ≡ None → IsNl (nl_text (import_of m)) value → value.file ≡ import_of m
no_other m value clean h = let text = said m clean in h.said.file ∙ sym text.read.said.file
