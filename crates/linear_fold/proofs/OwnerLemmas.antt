-- What the fold of one owner finds in its file, and where its fault is.
use Rattle.std.proofs.Common.{◌≡◌, ◌⊎◌, inl, inr, ℕ, zero, suc, ◌+◌, ◌-◌, ◌^◌, ◌<◌, ◌≤◌, ◌∙◌, sym, ap, refl, subst}
use Rattle.std.proofs.Common.{subst₂, arith, ⊎_elim, Bool, true, false, nat_lt, ◌==◌, not, ◌&&◌, ◌||◌, IsTrue, is_some}
use Rattle.std.proofs.Common.{pos, if◌then◌else◌, Option, Some, None, IfSome, option_map, option_and_then, List, []}
use Rattle.std.proofs.Common.{◌∷◌, ◌++◌, length, take, get_or, slice_get, All, append_assoc, append-nil}
use Rattle.std.specs.Option.{option_or, option_map_or}
use Rattle.std.proofs.lemmas.Bool.{lt-ltb, le-ltb, ne_eqb}
use Rattle.std.proofs.lemmas.Option.{get_or_from_slice_get, slice_get_within}
use Rattle.std.proofs.lemmas.List.Sums.{get_or-le-sum_by}
use Rattle.exact_numbers.specs.Rational.{decimal_value}
use Rattle.exact_numbers.specs.Fits.{fits, sum_fits}
use Rattle.exact_numbers.proofs.Bridge.{zero_decimal}
use Rattle.nl_model.specs.declared.fault.Fault.{Fault}
use Rattle.nl_model.specs.declared.fault.Reason.{Reason}
use Rattle.nl_model.specs.declared.fault.Reason.TheVariants.{Nonlinear as IsNonlinear}
use Rattle.linear_program.specs.Lines.{Line, constant_line, line_with, Point}
use Rattle.nl_model.specs.Faults.{fault_at, too_wide_unless, tree_fault, trees_fault, terms_fault, expression_fault, tree_line, trees_lines, operator_fault}
use Rattle.nl_model.specs.Trees.{Known, Tree, number, variable, defined, operator, Trees, none, more, Expression, expression_given, tree_size, trees_size}
use Rattle.nl_model.proofs.Linear.{terms_added}
use Rattle.linear_program.proofs.LineLemmas.{same_coef}
use Rattle.nl_model.specs.declared.at.At.{At}
use Rattle.nl_model.specs.declared.at.At.TheVariants.{Node, Term as TermOf, Head}
use Rattle.nl_model.specs.declared.at.Owner.{Owner}
use Rattle.nl_model.specs.declared.at.Owner.TheVariants.{Def, Con, Obj}
use Rattle.nl_model.specs.File.{Term, File}
use Rattle.nl_model.specs.declared.definition.Def.{Def as Definition}
use Rattle.nl_model.specs.FilePlaces.{HasPlace, terms_at, tree_at}
use Rattle.nl_model.specs.HeaderRules.{defined_count}
use Rattle.nl_model.specs.Rules.{AreDefinitions, AreTermsBelow, AreTreesWithin, IsDefinition, IsFile, IsTreeKnown, IsTreeWithin, is_defined, most_terms}
use Rattle.nl_model.specs.Expressions.{linear_terms, tree_or_zero}
use Rattle.nl_model.specs.FoldFaults.{Owned, at_place, coefficient_count, fold_too_large, head_fault, most_coefficients, owned_line, owners_fault}
use Rattle.linear_fold.specs.declared.fold_fault.FoldFault.TheVariants.{FoldTooLarge}
use Rattle.linear_program.specs.declared.form.Form.{Form}
use Rattle.linear_fold.specs.FoldedFaults.{HasFaultPlace, fault_for, named_fault, place_at}
use Rattle.linear_fold.specs.declared.entries.Entry.{Entry}
use Rattle.linear_program.specs.Coefs.{AreAscending}
use Rattle.linear_program.specs.Forms.{IsWithin, form_line, form_terms}
use Rattle.linear_fold.specs.InsideFolds.{AreKnown, AreSlotsWithin, AreTreesGiven, HasLineOf, IsExpressionFolded, IsGiven, IsTreeGiven}
use Rattle.linear_fold.specs.InsideOwnerFolds.{AreSlotsOf, HasOwner, IsFormOf, definitions_before, expression_at, known_by, owned_at}
use Rattle.linear_fold.proofs.CountLemmas.{count_zero, form_count_is}
use Rattle.linear_fold.proofs.Folding.{constant_lined, is_line_of}
use Rattle.exact_numbers.proofs.Zeros.{fits_zero}
use Rattle.exact_numbers.specs.Values.{dec_value}

-- ---- the definition at a position
pub definition_at : (n k : ℕ) (known ds : List Definition) → AreDefinitions n k known ds → (i : ℕ) (d : Definition) → slice_get ds i ≡ Some d → IsDefinition n k (known ++ take i ds) d
definition_at n k known [] all i d e = cc
definition_at n k known (x ∷ ds) all zero d e =
    let same : x ≡ d = ap (λ o. option_map_or (λ y. y) o x) e in
    subst (λ ks. IsDefinition n k ks d) (sym (append-nil known)) (subst (IsDefinition n k known) same all.0)
definition_at n k known (x ∷ ds) all (suc i) d e =
    subst (λ ks. IsDefinition n k ks d) (append_assoc known (x ∷ []) (take i ds)) (definition_at n k (known ++ x ∷ []) ds all.1 i d e)

pub there : {A : Type 0} → (xs : List A) (i : ℕ) → i < length xs → (x : A) × (slice_get xs i ≡ Some x)
there [] i h = absurd (omega arith)
there (x ∷ xs) zero h = (x, refl)
there (x ∷ xs) (suc i) h = there xs i (omega arith)

pub found_here : {A : Type 0} → (xs : List A) (i : ℕ) (x : A) → slice_get xs i ≡ Some x → (i < length xs) × (get_or xs i x ≡ x)
found_here xs i x f = (slice_get_within xs i x f, get_or_from_slice_get xs i x x f)

pub all_at : {A : Type 0} → (P : A → Type 0) (xs : List A) (i : ℕ) (x : A) → slice_get xs i ≡ Some x → All P xs → (i < length xs) × (get_or xs i x ≡ x) × P x
all_at P xs i x e all =
    let r = found_here xs i x e in
    (r.0, r.1, subst P r.1 (all i x r.0))

mutual
  tree_given : (n : ℕ) (ds : List Definition) (slots : List (Option Form)) → ((i : ℕ) → is_defined ds i ≡ true → IsGiven n slots i) → (t : Tree) → IsTreeWithin n ds t → IsTreeGiven n slots t
  tree_given n ds slots h (number m e) w = tt
  tree_given n ds slots h (variable j) w = w
  tree_given n ds slots h (defined i) w = h i w
  tree_given n ds slots h (operator c ts) w = trees_given n ds slots h ts w

  trees_given : (n : ℕ) (ds : List Definition) (slots : List (Option Form)) → ((i : ℕ) → is_defined ds i ≡ true → IsGiven n slots i) → (ts : Trees) → AreTreesWithin n ds ts → AreTreesGiven n slots ts
  trees_given n ds slots h none w = tt
  trees_given n ds slots h (more t ts) w = (tree_given n ds slots h t w.0, trees_given n ds slots h ts w.1)

-- ---- what an owner has
body_given : (n : ℕ) (ds : List Definition) (slots : List (Option Form))
    → ((i : ℕ) → is_defined ds i ≡ true → IsGiven n slots i) → (b : Option Tree) → IfSome b (IsTreeKnown n ds)
    → IfSome b (IsTreeGiven n slots)
body_given n ds slots h None w = w
body_given n ds slots h (Some t) w = tree_given n ds slots h t w.within

pub owner_given : (f : File) → IsFile f → (o : Owner) → HasOwner f o → (slots : List (Option Form))
    → AreSlotsOf f (definitions_before f o) slots → IfSome (tree_at f o) (IsTreeGiven f.counts.n_var slots)
owner_given f file (Def i) has slots s =
    let d = there f.definitions i has in
    let known = definition_at f.counts.n_var (defined_count f.counts) [] f.definitions file.definitions i d.0 d.1 in
    subst (λ x. IfSome (option_map (λ y. y.tree) x) (IsTreeGiven f.counts.n_var slots)) (sym d.1) (tree_given f.counts.n_var (take i f.definitions) slots s.given d.0.tree known.tree.within)
owner_given f file (Con i) has slots s =
    let b = there f.bodies i (subst (λ m. i < m) (sym file.bodies.count) has) in
    let known = all_at (λ x. IfSome x (IsTreeKnown f.counts.n_var f.definitions)) f.bodies i b.0 b.1 file.bodies.known in
    subst (λ x. IfSome (option_and_then (λ t. t) x) (IsTreeGiven f.counts.n_var slots)) (sym b.1) (body_given f.counts.n_var f.definitions slots s.given b.0 known.2)
owner_given f file (Obj k) has slots s =
    let o = there f.objectives k (subst (λ m. k < m) (sym file.objectives.count) has) in
    let known = all_at (λ x. IsTreeKnown f.counts.n_var f.definitions x.tree) f.objectives k o.0 o.1 file.objectives.known in
    subst (λ x. IfSome (option_map (λ y. y.tree) x) (IsTreeGiven f.counts.n_var slots)) (sym o.1) (tree_given f.counts.n_var f.definitions slots s.given o.0.tree known.2.within)

-- its terms are of variables of the file, and not too many
pub owner_terms : (f : File) → IsFile f → (o : Owner) → HasOwner f o → AreTermsBelow f.counts.n_var (terms_at f o) × (length (terms_at f o) ≤ most_terms)
owner_terms f file (Def i) has =
    let d = there f.definitions i has in
    let known = definition_at f.counts.n_var (defined_count f.counts) [] f.definitions file.definitions i d.0 d.1 in
    subst (λ x. AreTermsBelow f.counts.n_var (option_map_or (λ y. y.terms) x []) × (length (option_map_or (λ y. y.terms) x []) ≤ most_terms)) (sym d.1) (known.terms, known.few)
owner_terms f file (Con i) has =
    let here : i < length f.terms = subst (λ m. i < m) (sym file.terms.rows) has in
    (file.terms.terms_below i [] here, (let part = get_or-le-sum_by length f.terms i [] here in let all = file.terms.few_terms in omega arith))
owner_terms f file (Obj k) has =
    let here : k < length f.slopes = subst (λ m. k < m) (sym file.terms.costs) has in
    (file.terms.slopes_below k [] here, file.terms.few_slopes k [] here)

-- ---- the place of a fault
either_fault : {P : Type 0} (f g : Option Fault) (x : Fault) → (f ≡ Some x → P) → (g ≡ Some x → P) → option_or f g ≡ Some x → P
either_fault None g x first second e = second e
either_fault (Some y) g x first second e = first e

fault_at_place : (i : ℕ) (r : Option Reason) (x : Fault) → fault_at i r ≡ Some x → i ≡ x.place
fault_at_place i None x e = cc
fault_at_place i (Some r) x e = ap (λ o. option_map_or (λ (y : Fault). y.place) o i) e

module _ (known : Point → Known) (n : ℕ) where
  mutual
    tree_place : (i : ℕ) (t : Tree) (x : Fault) → tree_fault known n i t ≡ Some x → (i ≤ x.place) × (x.place < i + tree_size t)
    tree_place i (number m e) x h = let p = fault_at_place i (too_wide_unless _) x h in (omega arith, omega arith)
    tree_place i (variable j) x h = cc
    tree_place i (defined j) x h = cc
    tree_place i (operator c ts) x h =
        either_fault (trees_fault known n (i + 1) ts) (fault_at i (operator_fault n c (trees_lines known ts))) x
        (λ e. let r = trees_place (i + 1) ts x e in (omega (arith, r.0), omega (arith, r.1)))
        (λ e. let p = fault_at_place i (operator_fault n c (trees_lines known ts)) x e in (omega arith, omega arith)) h

    trees_place : (i : ℕ) (ts : Trees) (x : Fault) → trees_fault known n i ts ≡ Some x → (i ≤ x.place) × (x.place < i + trees_size ts)
    trees_place i none x h = cc
    trees_place i (more t ts) x h =
        either_fault (tree_fault known n i t) (trees_fault known n (i + tree_size t) ts) x
        (λ e. let r = tree_place i t x e in (omega (arith, r.0), omega (arith, r.1)))
        (λ e. let r = trees_place (i + tree_size t) ts x e in (omega (arith, r.0), omega (arith, r.1))) h

terms_place : (i : ℕ) (ts : List Term) (a : Line) (x : Fault) → terms_fault a i (linear_terms ts) ≡ Some x → (i ≤ x.place) × (x.place < i + length ts)
terms_place i [] a x h = cc
terms_place i (t ∷ ts) a x h =
    let wide = too_wide_unless (fits (dec_value t.1) && sum_fits (a.coef t.0) (dec_value t.1)) in
    let next = line_with a t.0 (dec_value t.1) in
    either_fault (fault_at i wide) (terms_fault next (i + 1) (linear_terms ts)) x
    (λ e. let p = fault_at_place i wide x e in (omega arith, omega arith))
    (λ e. let r = terms_place (i + 1) ts next x e in (omega (arith, r.0), omega (arith, r.1))) h

-- at a node that was given, or at a term
abbrev IsAmong : Option Tree → List Term → ℕ → Type 0
IsAmong t ts p = ((p < tree_size (tree_or_zero t)) × (p < option_map_or tree_size t 0)) ⊎
    ((tree_size (tree_or_zero t) ≤ p) × (p - tree_size (tree_or_zero t) < length ts)
    × (p < tree_size (tree_or_zero t) + length ts))

node_among : (known : Point → Known) (n : ℕ) (t : Option Tree) (x : Fault)
    → tree_fault known n 0 (tree_or_zero t) ≡ Some x → (x.place < tree_size (tree_or_zero t))
    × (x.place < option_map_or tree_size t 0)
node_among known n None x h = absurd (let clash : None ≡ Some x =
    sym (ap (λ q. fault_at 0 (too_wide_unless (fits q))) (zero_decimal (pos 0))
    ∙ ap (λ b. fault_at 0 (too_wide_unless b)) fits_zero) ∙ h in cc)
node_among known n (Some t) x h = let r = tree_place known n 0 t x h in (omega (arith, r.1), omega (arith, r.1))

pub expression_among : (known : Point → Known) (n : ℕ) (t : Option Tree) (ts : List Term) (x : Fault)
    → expression_fault known n (record { tree = tree_or_zero t; terms = linear_terms ts }) ≡ Some x → IsAmong t ts x.place
expression_among known n t ts x h =
    let size = tree_size (tree_or_zero t) in
    either_fault (tree_fault known n 0 (tree_or_zero t)) (terms_fault (tree_line known (tree_or_zero t)) size (linear_terms ts)) x (λ e. inl (node_among known n t x e))
    (λ e. let r = terms_place size ts (tree_line known (tree_or_zero t)) x e in inr (r.0, omega (arith, r.0, r.1), r.1)) h

pub place_bound : (t : Option Tree) (ts : List Term) (p : ℕ) → IsAmong t ts p → tree_size (tree_or_zero t) ≤ 2 ^ 22 → length ts ≤ most_terms → p < 2 ^ 32
place_bound t ts p among few short =
    ⊎_elim
    (λ (a : (p < tree_size (tree_or_zero t)) × (p < option_map_or tree_size t 0)). let h = a.0 in omega arith)
    (λ (a : (tree_size (tree_or_zero t) ≤ p) × (p - tree_size (tree_or_zero t) < length ts) × (p < tree_size (tree_or_zero t) + length ts)). let h = a.2 in omega arith) among

fault_placed : (f : File) (r : Reason) (at : At) → HasPlace f at → HasFaultPlace f (fault_for r at)
fault_placed f IsNonlinear at h = h
fault_placed f r at h = h

chosen : {A : Type 0} → (P : A → Type 0) (b c : Bool) (x y : A) → b ≡ c → P (if c then x else y) → P (if b then x else y)
chosen P b c x y e h = subst (λ d. P (if d then x else y)) (sym e) h

pub owner_place : (f : File) (o : Owner) (r : Reason) (p : ℕ) → IsAmong (tree_at f o) (terms_at f o) p → HasFaultPlace f (fault_for r (place_at f o p))
owner_place f o r p among =
    let size = tree_size (tree_or_zero (tree_at f o)) in
    fault_placed f r (place_at f o p)
    (⊎_elim
    (λ (a : (p < size) × (p < option_map_or tree_size (tree_at f o) 0)). chosen (HasPlace f) (nat_lt p size) true (Node o p) (TermOf o (p - size)) (lt-ltb p size a.0) a.1)
    (λ (a : (size ≤ p) × (p - size < length (terms_at f o)) × (p < size + length (terms_at f o))). chosen (HasPlace f)
    (nat_lt p size) false (Node o p) (TermOf o (p - size)) (le-ltb p size a.0) a.1) among)

-- ---- what the fold of an expression says of an owner
module _ (f : File) (o : Owner) (v : ℕ) (t : Option Tree) (ts : List Term) (slots seen : List (Option Form))
    (count : v ≡ f.counts.n_var) (tree : t ≡ tree_at f o) (terms : ts ≡ terms_at f o) (view : seen ≡ slots)
    (s : AreSlotsOf f (definitions_before f o) slots) where
  pub entry_seen : (e : Entry) → ((known : Point → Known) → AreKnown v known seen
      → IsExpressionFolded known v (record { tree = tree_or_zero t; terms = linear_terms ts }) e)
      → IsExpressionFolded (known_by (definitions_before f o)) f.counts.n_var (expression_at f o) e
  entry_seen e h =
      let k = known_by (definitions_before f o) in
      let are : AreKnown v k seen = subst₂ (λ m q. AreKnown m k q) (sym count) (sym view) s.known in
      subst (λ m. IsExpressionFolded k m (expression_at f o) e) count (subst₂ (λ u us. IsExpressionFolded k v (record { tree = tree_or_zero u; terms = linear_terms us }) e) tree terms (h k are))

  pub given_seen : IsFile f → HasOwner f o → IfSome t (IsTreeGiven v seen)
  given_seen file has = subst (λ u. IfSome u (IsTreeGiven v seen)) (sym tree) (subst₂ (λ m q. IfSome (tree_at f o) (IsTreeGiven m q)) (sym count) (sym view) (owner_given f file o has slots s))

  pub below_seen : IsFile f → HasOwner f o → AreTermsBelow v ts
  below_seen file has = subst₂ AreTermsBelow (sym count) (sym terms) (owner_terms f file o has).0

  pub within_seen : AreSlotsWithin v seen
  within_seen = subst₂ AreSlotsWithin (sym count) (sym view) s.within

-- ---- the fault of an owner among others
module _ (f : File) (o : Owner) (before : ℕ) where
  abbrev width : ℕ
  width = f.counts.n_var

  abbrev total : ℕ
  total = before + coefficient_count width (owned_line (owned_at f o))

  pub broken_folded : (x : Fault) → expression_fault (known_by (definitions_before f o)) width (expression_at f o)
      ≡ Some x → (rest : List Owned) → option_map (named_fault f) (owners_fault width before (owned_at f o ∷ rest))
      ≡ Some (fault_for x.reason (place_at f o x.place))
  broken_folded x h rest =
      ap (λ e. option_map (named_fault f) (option_or (option_or (option_map (at_place o) e) (head_fault o total)) (owners_fault width total rest))) h

  clean : expression_fault (known_by (definitions_before f o)) width (expression_at f o) ≡ None → (rest : List Owned)
      → owners_fault width before (owned_at f o ∷ rest) ≡ option_or (head_fault o total) (owners_fault width total rest)
  clean h rest = ap (λ e. option_or (option_or (option_map (at_place o) e) (head_fault o total)) (owners_fault width total rest)) h

  pub linear_folded : (extra after : ℕ) → expression_fault (known_by (definitions_before f o)) width (expression_at f o)
      ≡ None → coefficient_count width (owned_line (owned_at f o)) ≡ extra → after ≡ before + extra
      → after ≤ most_coefficients → (rest : List Owned) → owners_fault width before (owned_at f o ∷ rest)
      ≡ owners_fault width after rest
  linear_folded extra after h c e few rest =
      let same : total ≡ after = ap (λ m. before + m) c ∙ sym e in
      clean h rest ∙ ap (λ m. option_or (head_fault o m) (owners_fault width m rest)) same
      ∙ ap (λ b. option_or (if b then Some (fold_too_large o) else None) (owners_fault width after rest)) (le-ltb most_coefficients after few)

  pub large_folded : (extra : ℕ) → expression_fault (known_by (definitions_before f o)) width (expression_at f o) ≡ None
      → coefficient_count width (owned_line (owned_at f o)) ≡ extra → most_coefficients < before + extra
      → (rest : List Owned) → option_map (named_fault f) (owners_fault width before (owned_at f o ∷ rest))
      ≡ Some (FoldTooLarge (Head o))
  large_folded extra h c many rest =
      let same : total ≡ before + extra = ap (λ m. before + m) c in
      ap (option_map (named_fault f)) (clean h rest ∙ ap (λ m. option_or (head_fault o m) (owners_fault width m rest)) same)
      ∙ ap (λ b. option_map (named_fault f) (option_or (if b then Some (fold_too_large o) else None) (owners_fault width (before + extra) rest))) (lt-ltb most_coefficients (before + extra) many)

-- ---- the head of an owner with a coefficient
head_of : (t : Option Tree) (ts : List Term) → (t ≡ None → ts ≡ [] → ⊥) → IsTrue (is_some t || not (length ts == 0))
head_of None [] h = absurd (h refl refl)
head_of None (t ∷ ts) h = ap not (ne_eqb (length (t ∷ ts)) 0 (λ e. omega arith))
head_of (Some t) ts h = refl

-- a missing tree without terms has no coefficients
nothing_counted : (known : Point → Known) (n : ℕ) (t : Option Tree) (ts : List Term) (form : Form) → t ≡ None → ts ≡ []
    → IsWithin n form → HasLineOf n (λ at. expression_given (known at)
    (record { tree = tree_or_zero t; terms = linear_terms ts }) at) form → coefficient_count n (form_line form) ≡ 0
nothing_counted known n t ts form e g within values =
    let empty : Expression = record { tree = tree_or_zero None; terms = [] } in
    let here : HasLineOf n (λ at. expression_given (known at) empty at) form =
    subst₂ (λ u us. HasLineOf n (λ at. expression_given (known at)
    (record { tree = tree_or_zero u; terms = linear_terms us }) at) form) e g values in
    let constant = terms_added n known empty (constant_line (decimal_value (pos 0) (pos 0))) tt (constant_lined n (decimal_value (pos 0) (pos 0))) in
    count_zero n (form_line form)
    (λ j h. ap (λ l. l.coef j) (is_line_of n (λ at. expression_given (known at) empty at) form within here)
    ∙ same_coef n (λ at. expression_given (known at) empty at) (constant_line (decimal_value (pos 0) (pos 0)))
    constant j h)

pub head_placed : (f : File) (o : Owner) (form : Form) (before : ℕ) → IsWithin f.counts.n_var form
    → AreAscending 0 (form_terms form) → HasLineOf f.counts.n_var
    (λ at. expression_given (known_by (definitions_before f o) at) (expression_at f o) at) form
    → before ≤ most_coefficients → most_coefficients < before + length (form_terms form)
    → HasFaultPlace f (FoldTooLarge (Head o))
head_placed f o form before within ascending values few many =
    head_of (tree_at f o) (terms_at f o)
    (λ e g.
    let none = nothing_counted (known_by (definitions_before f o)) f.counts.n_var (tree_at f o) (terms_at f o) form e g within values in
    let count = form_count_is f.counts.n_var form within ascending in
    let zero_length : length (form_terms form) ≡ 0 = sym count ∙ none in
    omega arith)

-- the line of the form of an owner is that of its values
pub owner_line : (f : File) (o : Owner) (form : Form) → IsFormOf f o form → form_line form ≡ owned_line (owned_at f o)
owner_line f o form h = is_line_of f.counts.n_var (λ at. expression_given (known_by (definitions_before f o) at) (expression_at f o) at) form h.within h.values

pub owner_count : (f : File) (o : Owner) (form : Form) → IsWithin f.counts.n_var form → AreAscending 0 (form_terms form)
    → HasLineOf f.counts.n_var (λ at. expression_given (known_by (definitions_before f o) at) (expression_at f o) at) form
    → coefficient_count f.counts.n_var (owned_line (owned_at f o)) ≡ length (form_terms form)
owner_count f o form within ascending values =
    ap (coefficient_count f.counts.n_var) (sym (is_line_of f.counts.n_var (λ at. expression_given (known_by (definitions_before f o) at) (expression_at f o) at) form within values))
    ∙ form_count_is f.counts.n_var form within ascending
