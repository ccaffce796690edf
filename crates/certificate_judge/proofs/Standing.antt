-- Where the walk stands, and what a node leads to.
use Rattle.std.proofs.Common.{◌≡◌, ℕ, ◌+◌, ◌<◌, ◌≤◌, ◌∙◌, sym, ap, subst, List, [], ◌∷◌, length, take, drop, get_or, Option, Some, None, ℤ, All, true}
use Rattle.std.specs.Option.{option_map}
use Rattle.exact_numbers.specs.Fits.{fits}
use Rattle.exact_numbers.specs.Rational.{ℚ, IsWhole}
use Rattle.linear_program.specs.Linear.{Linear, row_count, variable_count}
use Rattle.certificates.specs.Branch.{LeafFault, proof_fault}
use Rattle.certificates.specs.Parts.{Part, bound, lemma, plane, whole_part}
use Rattle.certificates.specs.declared.certificate.CertificateNode.{CertificateNode}
use Rattle.certificates.specs.declared.certificate.CertificateNode.TheVariants.{Split, Plane, Lemma}
use Rattle.linear_program.specs.declared.number.Number.{Number}
use Rattle.certificates.specs.Certificates.{AreNumbers, CertificateTree, IsCutNumber, number_form, tree_over, whole_form, announced_pairs}
use Rattle.linear_program.specs.Numbers.{Pair, number_value}
use Rattle.exact_checks.specs.Leaves.{AreIndices}
use Rattle.exact_checks.specs.declared.verdict.Goal.{Goal}
use Rattle.certificate_judge.specs.Outcomes.{leaf_fault_of}
use Rattle.certificate_judge.specs.InsidePaths.{IsAt, Turn, next_turns, part_under, to_first}
use Rattle.certificate_judge.specs.Walks.{IsWritten, bound_in, leaf_check, leaf_node}
use Rattle.certificate_judge.specs.declared.outcome.LeafFault.{LeafFault as Fault}
use Rattle.certificate_judge.specs.declared.path.Path.{Path}
use Rattle.certificate_judge.proofs.Walking.{AtLeaf, AtLemma, AtPlane, OnWalk}
use Rattle.certificate_judge.proofs.WalkSteps.{back_is, front_is, leaf_tested, walk_begins, walk_count, walk_ends, walk_leaf, walk_lemma, walk_plane, walk_split}

-- a path leads to this turn from wherever it stands
abbrev pub Leads : Path → Turn → Path → Type 0
Leads old turn new = (base : Part) (turns : List Turn) → IsAt base turns old → IsAt base (turn ∷ turns) new

module _ (f : Linear) (v : ℚ) (tree : CertificateTree) (nodes : List CertificateNode) where
  abbrev pub base : Part
  base = whole_part f v

  abbrev pub answer : Option LeafFault
  answer = proof_fault f v (tree_over (row_count f) tree)

  pub record Stands (i : ℕ) (rest : List Pair) (k : ℕ) (path : Path) : Type 0 where
    pub turns : List Turn
    pub at : IsAt base turns path
    pub on : OnWalk (variable_count f) base answer (drop i nodes) rest turns k

  pub stands_first : (pairs : List Pair) (path : Path) → IsWritten f tree nodes pairs → IsAt base [] path → Stands 0 pairs 0 path
  stands_first pairs path h at = record { turns = []; at = at; on = walk_begins f v tree nodes pairs h }

  module _ (i k : ℕ) (rest : List Pair) (path : Path) (s : Stands i rest k path) where
    pub stands_last : length nodes ≤ i → None ≡ answer
    stands_last l = sym (walk_ends (variable_count f) base answer nodes i k rest s.turns s.on l)

    module _ (d : CertificateNode) (within : i < length nodes) (item : d ≡ get_or nodes i d) where
      pub pairs_there : ((j : ℕ) (t : ℤ) → d ≡ Split j t → ⊥) → announced_pairs d ≤ length rest
      pairs_there no_split = walk_count (variable_count f) base answer nodes i k rest s.turns s.on d within item no_split

      -- ---- a split
      module _ (j : ℕ) (t : ℤ) (is : d ≡ Split j t) where
        pub split_variable : j < variable_count f
        split_variable = (walk_split (variable_count f) base answer nodes i k rest s.turns s.on d within item j t is).variable

        pub split_number : IsCutNumber t
        split_number = (walk_split (variable_count f) base answer nodes i k rest s.turns s.on d within item j t is).number

        pub after_split : (z : ℤ) → z ≡ t → (new : Path) → Leads path (to_first (bound j z)) new → Stands (i + 1) rest k new
        after_split z e new h =
            record {
              turns = to_first (bound j t) ∷ s.turns;
              at = subst (λ y. IsAt base (to_first (bound j y) ∷ s.turns) new) e (h base s.turns s.at);
              on = (walk_split (variable_count f) base answer nodes i k rest s.turns s.on d within item j t is).on;
            }

      -- ---- a node with pairs of its own
      module _ (own later : List Pair) (front : own ≡ take (announced_pairs d) rest) (back : later ≡ drop (announced_pairs d) rest) where
        -- a plane
        module _ (m : ℕ) (t : ℤ) (is : d ≡ Plane m t) where
          plane_here : AtPlane (variable_count f) base answer rest s.turns k m t (drop (i + 1) nodes)
          plane_here = walk_plane (variable_count f) base answer nodes i k rest s.turns s.on d within item m t is

          plane_own : own ≡ plane_here.own
          plane_own = front ∙ ap (λ x. take (announced_pairs x) rest) is ∙ front_is plane_here.own plane_here.later rest m plane_here.split_pairs plane_here.count_is

          plane_later : later ≡ plane_here.later
          plane_later = back ∙ ap (λ x. drop (announced_pairs x) rest) is ∙ back_is plane_here.own plane_here.later rest m plane_here.split_pairs plane_here.count_is

          pub plane_wholes : All (λ (p : Pair). IsWhole (number_value p.1)) own
          plane_wholes = subst (All (λ (p : Pair). IsWhole (number_value p.1))) (sym plane_own) plane_here.wholes

          pub plane_numbers : AreNumbers 0 (variable_count f) own
          plane_numbers = subst (AreNumbers 0 (variable_count f)) (sym plane_own) plane_here.numbers

          pub plane_number : IsCutNumber t
          plane_number = plane_here.number

          pub after_plane : (z : ℤ) → z ≡ t → (new : Path) → Leads path (to_first (plane (whole_form own) z)) new → Stands (i + 1) later k new
          after_plane z e new h =
              record {
                turns = to_first (plane (whole_form plane_here.own) t) ∷ s.turns;
                at = subst (λ y. IsAt base (to_first (plane (whole_form plane_here.own) y) ∷ s.turns) new) e
                    (subst (λ ps. IsAt base (to_first (plane (whole_form ps) z) ∷ s.turns) new) plane_own (h base s.turns s.at));
                on = subst (λ ps. OnWalk (variable_count f) base answer (drop (i + 1) nodes) ps (to_first (plane (whole_form plane_here.own) t) ∷ s.turns) k) (sym plane_later) plane_here.on;
              }

        -- a lemma
        module _ (m : ℕ) (t : Number) (is : d ≡ Lemma m t) where
          lemma_here : AtLemma (variable_count f) base answer rest s.turns k m t (drop (i + 1) nodes)
          lemma_here = walk_lemma (variable_count f) base answer nodes i k rest s.turns s.on d within item m t is

          lemma_own : own ≡ lemma_here.own
          lemma_own = front ∙ ap (λ x. take (announced_pairs x) rest) is ∙ front_is lemma_here.own lemma_here.later rest m lemma_here.split_pairs lemma_here.count_is

          lemma_later : later ≡ lemma_here.later
          lemma_later = back ∙ ap (λ x. drop (announced_pairs x) rest) is ∙ back_is lemma_here.own lemma_here.later rest m lemma_here.split_pairs lemma_here.count_is

          pub lemma_numbers : AreNumbers 0 (variable_count f) own
          lemma_numbers = subst (AreNumbers 0 (variable_count f)) (sym lemma_own) lemma_here.numbers

          pub lemma_number : fits (number_value t) ≡ true
          lemma_number = lemma_here.number

          pub after_lemma : (new : Path) → Leads path (to_first (lemma (number_form own) (number_value t))) new → Stands (i + 1) later k new
          after_lemma new h =
              record {
                turns = to_first (lemma (number_form lemma_here.own) (number_value t)) ∷ s.turns;
                at = subst (λ ps. IsAt base (to_first (lemma (number_form ps) (number_value t)) ∷ s.turns) new) lemma_own (h base s.turns s.at);
                on = subst (λ ps. OnWalk (variable_count f) base answer (drop (i + 1) nodes) ps
                    (to_first (lemma (number_form lemma_here.own) (number_value t)) ∷ s.turns) k) (sym lemma_later)
                    lemma_here.on;
              }

        -- a leaf
        module _ (goal : Goal) (is : d ≡ leaf_node goal (announced_pairs d)) where
          leaf_here : AtLeaf (variable_count f) base answer rest s.turns k goal (announced_pairs d) (drop (i + 1) nodes)
          leaf_here = walk_leaf (variable_count f) base answer nodes i k rest s.turns s.on d within item goal (announced_pairs d) is

          leaf_own : own ≡ leaf_here.own
          leaf_own = front ∙ front_is leaf_here.own leaf_here.later rest (announced_pairs d) leaf_here.split_pairs leaf_here.count_is

          leaf_later : later ≡ leaf_here.later
          leaf_later = back ∙ back_is leaf_here.own leaf_here.later rest (announced_pairs d) leaf_here.split_pairs leaf_here.count_is

          pub leaf_indices : AreIndices 0 (row_count (part_under base s.turns).program) own
          leaf_indices = subst (AreIndices 0 (row_count (part_under base s.turns).program)) (sym leaf_own) leaf_here.numbers

          module _ (o : Option Fault) (tested : option_map (leaf_fault_of k) o ≡ leaf_check goal (part_under base s.turns) k (bound_in (part_under base s.turns) goal own)) where
            pub leaf_stops : (g : Fault) → o ≡ Some g → Some (leaf_fault_of k g) ≡ answer
            leaf_stops g is_some = sym (leaf_here.stops (leaf_fault_of k g)
                (leaf_tested (variable_count f) base answer rest s.turns k goal leaf_here.own own o leaf_own tested
                ∙ ap (option_map (leaf_fault_of k)) is_some))

            pub after_leaf : o ≡ None → (new : Path) → IsAt base (next_turns s.turns) new → Stands (i + 1) later (k + 1) new
            after_leaf is_none new at =
                record {
                  turns = next_turns s.turns;
                  at = at;
                  on = subst (λ ps. OnWalk (variable_count f) base answer (drop (i + 1) nodes) ps (next_turns s.turns) (k + 1)) (sym leaf_later)
                      (leaf_here.goes_on (leaf_tested (variable_count f) base answer rest s.turns k goal leaf_here.own own o leaf_own tested ∙ ap (option_map (leaf_fault_of k)) is_none));
                }

pub ruleset stands = (split_variable, stands_first, stands_last)
