-- Rows that are held, and their forms with their terms.
use Rattle.std.proofs.Common.{◌≡◌, ℕ, ◌+◌, ◌^◌, ◌<◌, ◌≤◌, ◌∙◌, sym, ap, refl, subst, arith, true, Some, option_map, List, [], ◌∷◌, drop, take, length, get_or, pos}
use Rattle.std.proofs.lemmas.List.{drop_all, take_all, length-map}
use Rattle.exact_numbers.specs.declared.dec.Dec.{Dec}
use Rattle.exact_numbers.specs.declared.frac.Frac.{Frac}
use Rattle.exact_numbers.specs.Values.{dec_value, frac_value}
use Rattle.exact_numbers.specs.Fits.{fits}
use Rattle.exact_numbers.specs.Rational.{zero_ℚ}
use Rattle.linear_program.specs.Lines.{constant_line}
use Rattle.nl_model.specs.declared.fault.Fault.{Fault}
use Rattle.nl_model.specs.Faults.{fault_at, too_wide_unless}
use Rattle.nl_model.specs.Trees.{Tree, number, tree_size}
use Rattle.nl_model.specs.declared.at.At.TheVariants.{Head}
use Rattle.nl_model.specs.declared.at.Owner.TheVariants.{Con}
use Rattle.nl_model.specs.declared.node.Node.{Node}
use Rattle.nl_model.specs.declared.node.Node.TheVariants.{Num}
use Rattle.nl_model.specs.File.{File}
use Rattle.nl_model.specs.FilePlaces.{terms_at, tree_at}
use Rattle.nl_model.specs.Nodes.{AreNodesOf, first_of_trees, trees_of}
use Rattle.nl_model.specs.Rules.{AreTermsBelow, IsFile}
use Rattle.nl_model.specs.Expressions.{linear_terms, tree_or_zero}
use Rattle.nl_model.specs.FoldFaults.{Owned, most_coefficients, owners_fault}
use Rattle.linear_program.specs.declared.form.Form.{Form}
use Rattle.linear_program.specs.declared.form.Kept.TheVariants.{Closed}
use Rattle.linear_program.specs.Coefs.{AreAscending}
use Rattle.linear_program.specs.Decimals.{DecimalTerm, fraction_term, fraction_terms}
use Rattle.linear_program.specs.Forms.{IsWithin, form_line, form_terms, kept_constant}
use Rattle.linear_program.proofs.DecimalLemmas.{AllFit, fractions_ascend, same_frac}
use Rattle.linear_fold.specs.declared.entries.Held.{Held}
use Rattle.linear_fold.specs.declared.entries.Held.TheVariants.{Number, Broken}
use Rattle.linear_fold.specs.declared.fold_fault.FoldFault.TheVariants.{FoldTooLarge}
use Rattle.linear_fold.specs.FoldedFaults.{HasFaultPlace, fault_for, named_fault, place_at}
use Rattle.linear_fold.specs.InsideFolds.{IsExpressionFolded}
use Rattle.linear_fold.specs.InsideHeld.{ComesToHeld, IsHeld, IsNumber, form_with, held_entry}
use Rattle.linear_fold.specs.InsideHeldBodies.{IsHeldAt, completed_form}
use Rattle.linear_fold.specs.InsideLinearTerms.{AreStrictlyAscending}
use Rattle.linear_fold.specs.InsideOwnerFolds.{IsFormOf, expression_at, known_by, owned_at}
use Rattle.linear_fold.proofs.CountLemmas.{over_of}
use Rattle.linear_fold.proofs.Expressions.{IsListed, are_decimals, entry_within, list_line, some_terms, terms_formed, zero_folded}
use Rattle.linear_fold.proofs.Folding.{constant_lined, constant_within, same_values}
use Rattle.linear_fold.proofs.OwnerLemmas.{broken_folded, expression_among, head_placed, large_folded, linear_folded, owner_count, owner_place, owner_terms, place_bound}

-- all terms were listed, and each has a fraction
pub all_listed : (k : Frac) (first : ℕ) (ts : List DecimalTerm) (i j : ℕ) → length ts ≤ i → AreStrictlyAscending 0 (linear_terms ts)
    → IsListed (list_line (frac_value k) []) first (linear_terms ts) (frac_value k) (fraction_terms (take i ts)) j (linear_terms (drop i ts))
    → (AllFit (drop i ts) → AllFit ts) → ComesToHeld (constant_line (frac_value k)) first ts (Number k)
all_listed k first ts i j end up listed fit =
    let l : IsListed (list_line (frac_value k) []) first (linear_terms ts) (frac_value k) (fraction_terms ts) j [] =
    subst (λ ds. IsListed (list_line (frac_value k) []) first (linear_terms ts) (frac_value k) (fraction_terms ds) j []) (take_all i ts end)
    (subst (λ ds. IsListed (list_line (frac_value k) []) first (linear_terms ts) (frac_value k) (fraction_terms (take i ts)) j (linear_terms ds)) (drop_all i ts end) listed) in
    record {
      decimals = are_decimals 0 ts up (fit (subst AllFit (sym (drop_all i ts end)) tt));
      entry = (sym l.fault, l.line);
    }

-- ---- a tree that is a number
one_node : (ns : List Node) (x : Node) → length ns ≡ 1 → x ≡ get_or ns 0 x → ns ≡ x ∷ []
one_node [] x n e = absurd (omega (arith, n))
one_node (y ∷ []) x n e = ap (λ z. z ∷ []) (sym e)
one_node (y ∷ z ∷ ns) x n e = absurd (omega (arith, n))

is_number : (d : Dec) (k : Frac) → fits (dec_value d) ≡ true → frac_value k ≡ dec_value d → IsNumber (number d.m d.e) k
is_number d k fit value known n form e = (
  ap (λ b. fault_at 0 (too_wide_unless b)) fit,
  same_values n _ (form_line form) (constant_line (dec_value d)) (e ∙ ap constant_line value) (constant_lined n (dec_value d)),
)

pub number_node : (ns : List Node) (x : Node) (d : Dec) (k : Frac) → length ns ≡ 1 → x ≡ get_or ns 0 x → x ≡ Num d
    → fits (dec_value d) ≡ true → frac_value k ≡ dec_value d → (t : Tree) → AreNodesOf t ns → IsNumber t k
number_node ns x d k one at is fit value t nodes =
    let alone : ns ≡ Num d ∷ [] = one_node ns x one at ∙ ap (λ z. z ∷ []) is in
    let same : number d.m d.e ≡ t = sym (ap (λ xs. first_of_trees (trees_of xs)) alone) ∙ ap first_of_trees nodes.trees in
    subst (λ u. IsNumber u k) same (is_number d k fit value)

pub zero_number : (k : Frac) → frac_value k ≡ zero_ℚ → IsNumber (number (pos 0) (pos 0)) k
zero_number k z known n form e = zero_folded known n form (e ∙ ap constant_line z)

pub held_is : (t : Tree) (k : Frac) (ts : List DecimalTerm) (first : ℕ) (h : Held) → IsNumber t k → tree_size t ≡ first → ComesToHeld (constant_line (frac_value k)) first ts h → IsHeld t ts h
held_is t k ts first h is size c =
    let form : Form = record { kept = Closed [] k } in
    let within : (n : ℕ) → IsWithin n form = λ n. constant_within n form (frac_value k) refl in
    record {
      decimals = c.decimals;
      folded = λ known n below. some_terms known n t form (is known n form refl) (linear_terms ts) first (held_entry ts h) (within n) size (terms_formed n ts below) c.entry;
      within = λ n below. entry_within n (form_line form) first (linear_terms ts) (held_entry ts h) (within n) (terms_formed n ts below) c.entry;
    }

-- ---- the row of a constraint
module _ (f : File) (file : IsFile f) (i : ℕ) (has : i < f.counts.n_con) where
  abbrev width : ℕ
  width = f.counts.n_var

  abbrev terms : List DecimalTerm
  terms = terms_at f (Con i)

  below : AreTermsBelow width terms
  below = (owner_terms f file (Con i) has).0

  entry : (h : Held) → IsHeldAt f i h → IsExpressionFolded (known_by f.definitions) width (expression_at f (Con i)) (held_entry terms h)
  entry h is = is.folded (known_by f.definitions) width below

  module _ (x : Fault) (is : IsHeldAt f i (Broken x)) where
    pub broken_small : tree_size (tree_or_zero (tree_at f (Con i))) ≤ 2 ^ 22 → x.place < 2 ^ 32
    broken_small few = place_bound (tree_at f (Con i)) terms x.place
        (expression_among (known_by f.definitions) width (tree_at f (Con i)) terms x (entry (Broken x) is)) few
        (owner_terms f file (Con i) has).1

    pub broken_stop : (before : ℕ) (rest : List Owned) → option_map (named_fault f) (owners_fault width before (owned_at f (Con i) ∷ rest)) ≡ Some (fault_for x.reason (place_at f (Con i) x.place))
    broken_stop before rest = broken_folded f (Con i) before x (entry (Broken x) is) rest

    pub broken_placed : HasFaultPlace f (fault_for x.reason (place_at f (Con i) x.place))
    broken_placed = owner_place f (Con i) x.reason x.place (expression_among (known_by f.definitions) width (tree_at f (Con i)) terms x (entry (Broken x) is))

  module _ (k : Frac) (is : IsHeldAt f i (Number k)) where
    abbrev form : Form
    form = form_with k terms

    up : AreAscending 0 (form_terms form)
    up = fractions_ascend 0 terms is.decimals

    within : IsWithin width form
    within = is.within width below

    pub number_length : length (form_terms form) ≡ length terms
    number_length = length-map terms fraction_term

    pub number_form : IsFormOf f (Con i) form
    number_form = record { values = (entry (Number k) is).1; within = within; over = over_of width form within up }

    pub number_clean : (before after : ℕ) → after ≡ before + length terms → after ≤ most_coefficients
        → (rest : List Owned) → owners_fault width before (owned_at f (Con i) ∷ rest) ≡ owners_fault width after rest
    number_clean before after e few =
        linear_folded f (Con i) before (length (form_terms form)) after (entry (Number k) is).0
        (owner_count f (Con i) form within up (entry (Number k) is).1) (e ∙ ap (λ m. before + m) (sym number_length))
        few

    pub number_large : (before : ℕ) → most_coefficients < before + length terms → (rest : List Owned)
        → option_map (named_fault f) (owners_fault width before (owned_at f (Con i) ∷ rest))
        ≡ Some (FoldTooLarge (Head (Con i)))
    number_large before many =
        large_folded f (Con i) before (length (form_terms form)) (entry (Number k) is).0
        (owner_count f (Con i) form within up (entry (Number k) is).1)
        (subst (λ m. most_coefficients < before + m) (sym number_length) many)

    pub number_head : (before : ℕ) → before ≤ most_coefficients → most_coefficients < before + length terms → HasFaultPlace f (FoldTooLarge (Head (Con i)))
    number_head before few many = head_placed f (Con i) form before within up (entry (Number k) is).1 few (subst (λ m. most_coefficients < before + m) (sym number_length) many)

-- the form of a number that is held
pub held_same : (k : Frac) (form : Form) (ts : List DecimalTerm) → form_line form ≡ constant_line (frac_value k) → completed_form true ts form ≡ form_with k ts
held_same k form ts e = ap (λ q. form_with q ts) (same_frac (kept_constant form.kept) k (ap (λ l. l.constant) e))

-- a form without terms is a number
pub number_line : (form : Form) → form_terms form ≡ [] → form_line form ≡ constant_line (frac_value (kept_constant form.kept))
number_line form e = ap (λ ts. list_line (frac_value (kept_constant form.kept)) ts) e
