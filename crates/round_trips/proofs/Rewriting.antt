-- The laws of .nl files that were read.
use Rattle.std.proofs.Common.{◌≡◌, ℕ, ◌+◌, ◌≤◌, ◌^◌, ℤ, List, [], ◌∷◌, length, refl, sym, subst, arith, Option, Some, None}
use Rattle.std.specs.Prelude.{sum_by}
use Rattle.std.specs.Option.{option_map_or}
use Rattle.std.proofs.lemmas.List.Sums.{get_or-le-sum_by, sum_by-cons}
use Rattle.text_base.specs.Reading.{lines_of}
use Rattle.nl_header.specs.Head.{options_in}
use Rattle.nl_model.specs.Trees.{tree_size}
use Rattle.nl_model.specs.declared.header_counts.Counts.{Counts}
use Rattle.nl_model.specs.Draft.{Draft, IsDraft, file_of, those_given}
use Rattle.nl_model.proofs.Drafts.{file_of_draft, given_known}
use Rattle.nl_model.specs.File.{Term}
use Rattle.nl_model.specs.declared.objective.Objective.{Objective}
use Rattle.nl_model.specs.Rules.{IsFile, term_count}
use Rattle.nl_segments.specs.Grammar.{NlValue, counts_of, standing}
use Rattle.nl_lines.specs.Pieces.{Piece}
use Rattle.nl_segments.specs.Reader.{IsNl}
use Rattle.nl_lines.specs.Saying.{draft_of}
use Rattle.nl_lines.proofs.DraftLemmas.{draft_counts}
use Rattle.nl_writer.specs.Written.{nl_text}
use Rattle.round_trips.specs.Writable.{HasNodes, IsText, IsWithinLimits, IsWritable}
use Rattle.round_trips.proofs.WholeLaw.{written_is_read}
use Rattle.round_trips.proofs.Parts.{IsKept, all_kept, objective_size}
use Rattle.round_trips.proofs.Room.{writable_by}
use Rattle.round_trips.proofs.Texts.{IsWhole, whole_text}

-- ---- objectives that were those_given

given_sizes : (os : List (Option Objective)) → sum_by (λ o. tree_size o.tree) (those_given os) ≡ sum_by objective_size os
given_sizes [] = refl
given_sizes (None ∷ os) = let more = given_sizes os in omega (arith, more, sum_by-cons objective_size None os)
given_sizes (Some o ∷ os) = let more = given_sizes os in omega (arith, more, sum_by-cons objective_size (Some o) os, sum_by-cons (λ (x : Objective). tree_size x.tree) o (those_given os))

-- ---- all that is known of what was said

is_file : (pieces : List Piece) (d : Draft) → IsWhole d.options d.counts pieces d → IsKept d.options d.counts pieces d → IsFile (file_of d)
is_file pieces d w k =
    let linear : sum_by (λ x. length x.terms) d.definitions + term_count d.terms + term_count d.slopes ≤ 2 ^ 22 = omega (arith, k.terms.few, w.kept.few.linear) in
    let draft : IsDraft d = record {
      ruled = w.ruled;
      definitions = k.trees.definitions.are;
      bodies = record { count = k.trees.bodies_are.count; known = k.trees.bodies_are.known };
      objectives = record { count = k.trees.objectives.count; known = k.trees.objectives.known };
      terms = record {
        rows = k.terms.rows.count;
        costs = k.terms.costs.count;
        terms_below = k.terms.rows.below;
        slopes_below = k.terms.costs.below;
        few_terms = omega (arith, linear);
        few_slopes = λ i ts lt. let one = get_or-le-sum_by (length {A = Term}) d.slopes i ts lt in omega (arith, one, linear);
      };
      side_count = k.intervals.sides_are.most;
      sides = k.intervals.sides_are.ordered;
      bound_count = k.intervals.bounds_are.most;
      bounds = k.intervals.bounds_are.ordered;
      dual_guesses = k.guesses.dual.are;
      primal_guesses = k.guesses.primal.are;
      suffixes = k.suffixes.suffixes;
    } in
    file_of_draft d draft w.objectives (omega (arith, w.sides, k.intervals.sides_are.most)) (omega (arith, w.bounds, k.intervals.bounds_are.most)) w.nonzeros

is_within_limits : (pieces : List Piece) (d : Draft) → IsWhole d.options d.counts pieces d → IsKept d.options d.counts pieces d → IsWithinLimits (file_of d)
is_within_limits pieces d w k =
    let nodes : sum_by (λ x. tree_size x.tree) d.definitions + sum_by (λ b. option_map_or tree_size b 0) d.bodies
    + sum_by objective_size d.objectives ≤ 2 ^ 22 = omega (arith, k.trees.few, w.kept.few.nodes) in
    record {
      options = w.options;
      trees = record { definitions = k.trees.definitions.nodes; bodies = k.trees.bodies_are.nodes; objectives = given_known (λ o. HasNodes o.tree) d.objectives k.trees.objectives.nodes };
      usages = k.trees.definitions.usages;
      dual_guesses = k.guesses.dual.few;
      primal_guesses = k.guesses.primal.few;
      suffixes = k.suffixes.writable;
      few_suffixes = omega (arith, k.suffixes.few, w.kept.few.suffixes);
      few_values = omega (arith, k.suffixes.few_values, w.kept.few.values);
      few_terms = omega (arith, k.terms.few, w.kept.few.linear);
      few_nodes = omega (arith, nodes, given_sizes d.objectives);
      binary = λ j i lt b. k.intervals.units j i (omega (arith, lt, w.bounds)) b;
    }

-- ---- the laws

whole_writable : (o : List ℤ) (c : Counts) (pieces : List Piece) → IsWhole o c pieces (draft_of o c pieces) → IsWritable (file_of (draft_of o c pieces))
whole_writable o c pieces w =
    let d = draft_of o c pieces in
    let Known : List ℤ → Counts → Type 0 = λ o c. IsWhole o c pieces d × IsKept o c pieces d in
    let k = all_kept o c pieces w.steps_are in
    let both : Known d.options d.counts = subst (λ x. Known x d.counts) (sym k.options) (subst (Known o) (sym (draft_counts o c pieces)) (w, k)) in
    writable_by (file_of d) (is_file pieces d both.0 both.1) (is_within_limits pieces d both.0 both.1)

pub writable : (text : List ℕ) (value : NlValue) → IsNl text value → IsWritable value.file
writable text value h =
    let s = standing (lines_of text) in
    subst IsWritable (sym h.said.file) (whole_writable (options_in s.header) (counts_of s) s.pieces (whole_text text h.clean))

pub written_again : (text : List ℕ) (value : NlValue) → IsNl text value → IsText value.file (nl_text value.file)
written_again text value h = written_is_read value.file (writable text value h)
