-- What is told of a text that is refused names one of its lines: the first fault of folding it stands at a place of the
-- file, and each line that tells a refusal begins with `refused `, and ends its line.
use Rattle.std.proofs.Common.{[], ◌≡◌, ℕ, zero, suc, ◌+◌, ◌≤◌, Bool, true, false, not, ◌||◌, ◌==◌, IsTrue, List, ◌∷◌}
use Rattle.std.proofs.Common.{◌++◌, length, refl, sym, subst, subst₂, arith, Option, Some, None, is_some, nat_lt, pos}
use Rattle.std.proofs.Common.{option_map, if◌then◌else◌, ◌∙◌, ◌<◌, ap, inl, inr, append_assoc, codes}
use Rattle.std.specs.Option.{option_or}
use Rattle.std.proofs.lemmas.Bool.{ltb-false, ltb-true}
use Rattle.std.proofs.lemmas.Option.{same_Some}
use Rattle.exact_numbers.specs.Rational.{decimal_value}
use Rattle.nl_model.specs.declared.fault.Fault.{Fault}
use Rattle.linear_program.specs.Lines.{constant_line, line_by}
use Rattle.nl_model.specs.Faults.{expression_fault}
use Rattle.nl_model.specs.Trees.{Expression, Tree, expression_given}
use Rattle.nl_model.proofs.Linear.{terms_added}
use Rattle.linear_program.proofs.LineLemmas.{same_coef}
use Rattle.nl_model.specs.declared.at.Owner.{Owner}
use Rattle.nl_model.specs.declared.at.Owner.TheVariants.{Con, Def, Obj}
use Rattle.nl_model.specs.File.{File, Term}
use Rattle.nl_model.specs.FilePlaces.{terms_at, tree_at}
use Rattle.nl_model.specs.Expressions.{linear_terms, tree_or_zero}
use Rattle.nl_model.specs.FoldFaults.{FoldFault as FileFault, Owned, at_place, coefficient_count, fold_fault}
use Rattle.nl_model.specs.FoldFaults.{fold_too_large, has_objective, head_fault, most_coefficients, no_such_objective}
use Rattle.nl_model.specs.FoldFaults.{owned_line, owner_fault, owners_fault, owners_of}
use Rattle.linear_program.specs.Elements.{elements_from}
use Rattle.linear_fold.specs.declared.fold_fault.FoldFault.{FoldFault}
use Rattle.linear_fold.specs.FoldedFaults.{HasFaultPlace, first_fold_fault, named_fault}
use Rattle.linear_fold.specs.InsideOwnerFolds.{definitions_before, expression_at, known_by, owned_at}
use Rattle.linear_fold.proofs.BodyLemmas.{owners_are}
use Rattle.linear_fold.proofs.CountLemmas.{count_zero}
use Rattle.linear_fold.proofs.Folding.{constant_lined}
use Rattle.linear_fold.proofs.OwnerLemmas.{expression_among, owner_place}
use Rattle.std.specs.Prelude.{IsSomeAnd}
use Rattle.text_base.specs.Judged.{Rules}
use Rattle.text_base.specs.Reading.{HasFault, last_of, lines_of}
use Rattle.text_base.specs.declared.fault.TextFault.{TextFault}
use Rattle.text_base.proofs.JudgedLemmas.{fault_line}
use Rattle.answer_file.specs.Grammar.{answer_rules}
use Rattle.answer_file.specs.Names.{Setting as AnswerSetting}
use Rattle.certificate_text.specs.Grammar.{certificate_rules}
use Rattle.certificates.specs.Setting.{Setting as CertificateSetting}
use Rattle.fixed_mps.specs.Grammar.{fixed_rules}
use Rattle.mps_reader.specs.Grammar.{mps_rules}
use Rattle.name_files.specs.Names.{Counts, name_rules}
use Rattle.branch_proof.specs.Grammar.{proof_rules}
use Rattle.nl_model.specs.declared.at.At.{At}
use Rattle.linear_fold.specs.declared.fold_fault.FoldFault.TheVariants.{Nonlinear, DivideByZero, TooWide, RefusedPower, FoldTooLarge, NoSuchObjective}
use Rattle.row_scaling.specs.declared.scale_fault.ScaleFault.{ScaleFault}
use Rattle.row_scaling.specs.declared.scale_fault.ScaleFault.TheVariants.{RowTooWide, ObjectiveTooWide}
use Rattle.nl_segments.specs.Grammar.{NlValue}
use Rattle.nl_segments.specs.Reader.{IsNl}
use Rattle.nl_lines.specs.Saying.{PlaceLines, place_line}
use Rattle.nl_segments.proofs.CleanTexts.{has_lines_up_to}
use Rattle.answer_file.specs.Reasons.{answer_reason_text}
use Rattle.certificate_text.specs.Reasons.{certificate_reason_text}
use Rattle.mps_reader.specs.Reasons.{mps_reason_text}
use Rattle.command_parts.specs.NameLists.{IsListRefused}
use Rattle.name_files.specs.Reasons.{name_reason_text}
use Rattle.command_parts.specs.NlTold.{HasFaultLine, HasLineUpTo, fold_line, placed_line, scale_line}
use Rattle.nl_lines.specs.Reasons.{opcode_text, nl_reason_text}
use Rattle.branch_proof.specs.Reasons.{proof_reason_text}
use Rattle.command_parts.specs.Refusal.{HasTextRefusal, IsAnswerRefused, IsCertificateRefused, IsFixedRefused, IsMpsRefused, IsProofRefused, IsSolRefused}
use Rattle.sol_files.specs.Reasons.{sol_reason_text}
use Rattle.command_core.specs.Told.{refusal, refused_at}
use Rattle.command_parts.specs.ToldLines.{TellsLine, TellsPlace}
use Rattle.sol_files.proofs.FaultLines.{sol_fault_line}
use Rattle.command_parts.specs.Stages.{CannotBeExported}

abbrev IsPlaced : File → FileFault → Type 0
IsPlaced f x = HasFaultPlace f (named_fault f x)

-- ---- one owner, where those before it have few coefficients
module _ (f : File) (o : Owner) where
  abbrev width : ℕ
  width = f.counts.n_var

  abbrev coefficients : ℕ
  coefficients = coefficient_count width (owned_line (owned_at f o))

  nothing_counted : tree_at f o ≡ None → terms_at f o ≡ [] → coefficients ≡ 0
  nothing_counted e g =
      let known = known_by (definitions_before f o) in
      let empty : Expression = record { tree = tree_or_zero None; terms = [] } in
      let zero_line = constant_line (decimal_value (pos 0) (pos 0)) in
      let constant = terms_added width known empty zero_line tt (constant_lined width (decimal_value (pos 0) (pos 0))) in
      subst₂ (λ t ts. coefficient_count width (line_by (λ at. expression_given (known at) (record { tree = tree_or_zero t; terms = linear_terms ts }) at)) ≡ 0) (sym e) (sym g)
      (count_zero width (line_by (λ at. expression_given (known at) empty at)) (λ j lt. same_coef width (λ at. expression_given (known at) empty at) zero_line constant j lt))

  has_head : (t : Option Tree) (ts : List Term) → (t ≡ None → ts ≡ [] → ⊥) → IsTrue (is_some t || not (length ts == 0))
  has_head None [] h = absurd (h refl refl)
  has_head None (t ∷ ts) h = grind arith
  has_head (Some t) ts h = refl

  placed_head : (before : ℕ) (x : FileFault) → before ≤ most_coefficients → head_fault o (before + coefficients) ≡ Some x → IsPlaced f x
  placed_head before x few e = by (nat_lt most_coefficients (before + coefficients)) refl e
    where
      by : (b : Bool) → nat_lt most_coefficients (before + coefficients) ≡ b → (if b then Some (fold_too_large o) else None) ≡ Some x → IsPlaced f x
      by false q e = absurd cc
      by true q e =
          let many = ltb-true most_coefficients (before + coefficients) q in
          let some = has_head (tree_at f o) (terms_at f o) (λ t ts. let none = nothing_counted t ts in omega arith) in
          subst (IsPlaced f) (same_Some (fold_too_large o) x e) some

  placed : (before : ℕ) (x : FileFault) → before ≤ most_coefficients → owner_fault width (before + coefficients) (owned_at f o) ≡ Some x → IsPlaced f x
  placed before x few e = by (expression_fault (known_by (definitions_before f o)) width (expression_at f o)) refl e
    where
      by : (r : Option Fault) → expression_fault (known_by (definitions_before f o)) width (expression_at f o) ≡ r
          → option_or (option_map (at_place o) r) (head_fault o (before + coefficients)) ≡ Some x → IsPlaced f x
      by None q e = placed_head before x few e
      by (Some y) q e =
          subst (IsPlaced f) (same_Some (at_place o y) x e)
          (owner_place f o y.reason y.place (expression_among (known_by (definitions_before f o)) width (tree_at f o) (terms_at f o) y q))

-- ---- all owners

abbrev AreOwned : File → List Owned → Type 0
AreOwned f [] = Unit {0}
AreOwned f (x ∷ xs) = ((o : Owner) × (x ≡ owned_at f o)) × AreOwned f xs

owned_from : (f : File) (g : ℕ → Owner) (n i : ℕ) → AreOwned f (elements_from (λ j. owned_at f (g j)) i n)
unfolding elements_from
owned_from f g zero i = tt
owned_from f g (suc n) i = ((g i, refl), owned_from f g n (suc i))

owned_append : (f : File) (xs ys : List Owned) → AreOwned f xs → AreOwned f ys → AreOwned f (xs ++ ys)
owned_append f [] ys h k = k
owned_append f (x ∷ xs) ys h k = (h.0, owned_append f xs ys h.1 k)

few_after : (o : Owner) (r : Option FileFault) (total : ℕ) → option_or r (head_fault o total) ≡ None → total ≤ most_coefficients
few_after o (Some y) total e = absurd cc
few_after o None total e = by (nat_lt most_coefficients total) refl e
  where
    by : (b : Bool) → nat_lt most_coefficients total ≡ b → (if b then Some (fold_too_large o) else None) ≡ None → total ≤ most_coefficients
    by true q e = absurd cc
    by false q e = ltb-false most_coefficients total q

owners_placed : (f : File) (os : List Owned) (before : ℕ) (x : FileFault) → AreOwned f os → before ≤ most_coefficients → owners_fault f.counts.n_var before os ≡ Some x → IsPlaced f x
owners_placed f [] before x h few e = absurd cc
owners_placed f (w ∷ os) before x h few e = by (owner_fault n total w) refl e (λ below. owners_placed f os (before + coefficient_count f.counts.n_var (owned_line w)) x h.1 below)
  where
    n : ℕ
    n = f.counts.n_var

    total : ℕ
    total = before + coefficient_count n (owned_line w)

    by : (r : Option FileFault) → owner_fault n total w ≡ r → option_or r (owners_fault n total os) ≡ Some x
        → (total ≤ most_coefficients → owners_fault n total os ≡ Some x → IsPlaced f x) → IsPlaced f x
    by None q e rest = rest (few_after w.owner (option_map (at_place w.owner) (expression_fault w.known n w.expression)) total q) e
    by (Some y) q e rest =
        subst (IsPlaced f) (same_Some y x e)
        (placed f h.0.0 before y few (subst (λ v. owner_fault n (before + coefficient_count n (owned_line v)) v ≡ Some y) h.0.1 q))

pub fold_placed : (f : File) (k : ℕ) (x : FoldFault) → first_fold_fault f k ≡ Some x → HasFaultPlace f x
unfolding fold_fault
fold_placed f k x e = by (has_objective f k) e
  where
    all : AreOwned f (owners_of f k)
    all = subst (AreOwned f) (sym (owners_are f k))
        (owned_append f _ _ (owned_from f Def (length f.definitions) 0) (owned_append f _ _ (owned_from f Con f.counts.n_con 0) ((Obj k, refl), tt)))

    at : (r : Option FileFault) → owners_fault f.counts.n_var 0 (owners_of f k) ≡ r → option_map (named_fault f) r ≡ Some x → HasFaultPlace f x
    at None q e = absurd cc
    at (Some y) q e = subst (HasFaultPlace f) (same_Some (named_fault f y) x e) (owners_placed f (owners_of f k) 0 y all (omega arith) q)

    by : (b : Bool) → option_map (named_fault f) (if b then owners_fault f.counts.n_var 0 (owners_of f k) else Some (no_such_objective k)) ≡ Some x → HasFaultPlace f x
    by true e = at (owners_fault f.counts.n_var 0 (owners_of f k)) refl e
    by false e = subst (HasFaultPlace f) (same_Some (named_fault f (no_such_objective k)) x e) tt

pub fault_lines : (text : List ℕ) (value : NlValue) (fault : FoldFault) → IsNl text value → HasFaultPlace value.file fault → HasFaultLine (length (lines_of text)) value.places fault
fault_lines text value (NoSuchObjective k) read place = tt
fault_lines text value (Nonlinear at) read place = has_lines_up_to text value read at place
fault_lines text value (DivideByZero at) read place = has_lines_up_to text value read at place
fault_lines text value (TooWide at) read place = has_lines_up_to text value read at place
fault_lines text value (RefusedPower at) read place = has_lines_up_to text value read at place
fault_lines text value (FoldTooLarge at) read place = has_lines_up_to text value read at place

-- ---- what is told

-- a first fault, by whichever rules
told_so : {R : Type 0} (rules : Rules R) (why : R → List ℕ) (file : ℕ) (text told : List ℕ) (fault : TextFault R) → HasFault rules text fault
    → told ≡ refusal file (codes "line") fault.line (why fault.reason) → TellsLine file text told
told_so rules why file text told fault first e =
    record { line = fault.line; why = why fault.reason; of_text = fault_line rules (lines_of text) (last_of text) fault.line fault.reason first; same = e }

pub text_told : (text told : List ℕ) → HasTextRefusal text told → TellsLine 1 text told
text_told text told r = record {
  line = r.fault.line;
  why = nl_reason_text r.fault.reason ++ opcode_text r.fault.reason;
  of_text = fault_line _ _ _ r.fault.line _ r.first.first;
  same = r.told ∙ ap (λ ts. ts ++ codes "\n") (append_assoc (refused_at 1 (codes "line") r.fault.line) (nl_reason_text r.fault.reason) (opcode_text r.fault.reason));
}

pub sol_told : (file : ℕ) (text told : List ℕ) → IsSolRefused file text told → TellsLine file text told
sol_told file text told r = record { line = r.fault.line; why = sol_reason_text r.fault.reason; of_text = sol_fault_line text r.fault r.first; same = r.told }

pub answer_told : (s : AnswerSetting) (text told : List ℕ) → IsAnswerRefused s text told → TellsLine 2 text told
answer_told s text told r = told_so (answer_rules s) answer_reason_text 2 text told r.fault r.first r.told

pub names_told : (counts : Counts) (file : ℕ) (text told : List ℕ) → IsListRefused counts file text told → TellsLine file text told
names_told counts file text told r = told_so (name_rules counts) name_reason_text file text told r.fault r.first r.told

pub proof_told : (s : CertificateSetting) (file : ℕ) (text told : List ℕ) → IsProofRefused s file text told → TellsLine file text told
proof_told s file text told r = told_so (proof_rules s) proof_reason_text file text told r.fault r.first r.told

pub certificate_told : (s : CertificateSetting) (file : ℕ) (text told : List ℕ) → IsCertificateRefused s file text told → TellsLine file text told
certificate_told s file text told r = told_so (certificate_rules s) certificate_reason_text file text told r.fault r.first r.told

pub mps_told : (text told : List ℕ) → IsMpsRefused text told → TellsLine 1 text told
mps_told text told r = told_so mps_rules mps_reason_text 1 text told r.fault r.first r.told

pub fixed_told : (text told : List ℕ) → IsFixedRefused text told → TellsLine 1 text told
fixed_told text told r = told_so fixed_rules mps_reason_text 1 text told r.fault r.first r.told

placed_told : (text told why : List ℕ) (places : PlaceLines) (at : At) → HasLineUpTo (length (lines_of text)) places at → told ≡ placed_line places at why → TellsLine 1 text told
placed_told text told why places at has e = by (place_line places at) refl has
  where
    by : (o : Option ℕ) → place_line places at ≡ o → IsSomeAnd o (λ line. (0 < line) × (line ≤ length (lines_of text))) → TellsLine 1 text told
    by None q h = absurd h
    by (Some line) q h = record { line = line; why = why; of_text = (h.0, (let within = h.1 in omega arith)); same = rw q at e }

placed_fold : (text told : List ℕ) (places : PlaceLines) (fault : FoldFault) → HasFaultLine (length (lines_of text)) places fault → told ≡ fold_line places fault → TellsPlace text told
placed_fold text told places (Nonlinear at) h e = inl (placed_told text told (codes "nonlinear") places at h e)
placed_fold text told places (DivideByZero at) h e = inl (placed_told text told (codes "division by zero") places at h e)
placed_fold text told places (TooWide at) h e = inl (placed_told text told (codes "too wide") places at h e)
placed_fold text told places (RefusedPower at) h e = inl (placed_told text told (codes "refused power") places at h e)
placed_fold text told places (FoldTooLarge at) h e = inl (placed_told text told (codes "fold too large") places at h e)
placed_fold text told places (NoSuchObjective k) h e = inr (inr (record { number = k; why = codes "no such objective"; same = e }))

scale_told : (text told : List ℕ) (k : ℕ) (fault : ScaleFault) → told ≡ scale_line k fault → TellsPlace text told
scale_told text told k (RowTooWide i) e = inr (inl (record { number = i; why = codes "row too wide"; same = e }))
scale_told text told k ObjectiveTooWide e = inr (inr (record { number = k; why = codes "objective too wide"; same = e }))

pub export_told : (text : List ℕ) (nl : NlValue) (k : ℕ) (told : List ℕ) → IsNl text nl → CannotBeExported nl k told → TellsPlace text told
export_told text nl k told read (inl f) = placed_fold text told nl.places f.fault (fault_lines text nl f.fault read (fold_placed nl.file k f.fault f.first)) f.told
export_told text nl k told read (inr h) = scale_told text told k h.first.fault h.first.told
