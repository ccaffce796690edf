-- Stacks of parts, of which some are closed or taken.
use Rattle.std.proofs.Common.{◌≡◌, ℕ, zero, suc, ◌+◌, ◌-◌, ◌<◌, ◌≤◌, ◌∙◌, sym, ap, refl, subst, arith, Option, None}
use Rattle.std.proofs.Common.{Some, Result, Ok, Err, OnOk, List, [], ◌∷◌, ◌++◌, length, reverse, take, drop, get_or}
use Rattle.std.proofs.Common.{set, subst₂}
use Rattle.std.proofs.lemmas.List.{length-reverse, length-take-le, reverse-append, take-take}
use Rattle.nl_model.specs.declared.fault.Fault.{Fault}
use Rattle.nl_model.specs.Faults.{tree_fault}
use Rattle.nl_model.specs.Trees.{Known, Tree, tree_size}
use Rattle.linear_program.specs.Lines.{Point}
use Rattle.linear_fold.specs.declared.parts.PartialForm.{PartialForm}
use Rattle.linear_fold.specs.declared.parts.PartialForm.TheVariants.{Linear, Opposite, Broken}
use Rattle.linear_fold.specs.InsideFolds.{ArePartsFolded, ArePartsWithin, IsLined, IsPartFolded, IsPartWithin}
use Rattle.linear_fold.specs.InsideOperates.{AreSameParts, IsLeft, IsOperand, IsPlaced, IsSamePart, fault_of_part, part_line}
use Rattle.linear_fold.proofs.Folding.{operand_within, within_parts_drop}
use Rattle.linear_fold.proofs.Operators.{front_is}
use Rattle.linear_fold.proofs.SumLemmas.{same_operand}

-- ---- the same part
pub same_part : (p : PartialForm) → IsSamePart p p
same_part p = record { line = refl; fault = refl; sound = λ n h. h }

pub part_placed : (n : ℕ) (p : PartialForm) → IsPartWithin n p → IsPlaced n p
part_placed n (Linear f) w = w.sound
part_placed n (Opposite f) w = w.sound
part_placed n p w = tt

module _ (known : Point → Known) (n i : ℕ) (t : Tree) where
  lined : (p : PartialForm) → fault_of_part p ≡ None → IsPartFolded known n i t p → IsLined known n i t (part_line p)
  lined (Broken x) e h = cc
  lined p e h = h

  folded : (p : PartialForm) → fault_of_part p ≡ None → IsLined known n i t (part_line p) → IsPartFolded known n i t p
  folded (Broken x) e h = cc
  folded p e h = h

  broken : (p : PartialForm) (x : Fault) → fault_of_part p ≡ Some x → IsPartFolded known n i t p → tree_fault known n i t ≡ Some x
  broken (Broken y) x e h = h ∙ e
  broken p x e h = cc

  as_broken : (p : PartialForm) (x : Fault) → fault_of_part p ≡ Some x → tree_fault known n i t ≡ Some x → IsPartFolded known n i t p
  as_broken (Broken y) x e h = h ∙ sym e
  as_broken p x e h = cc

  pub same_folded : (p q : PartialForm) → IsSamePart p q → IsPartFolded known n i t p → IsPartFolded known n i t q
  same_folded p q s h = by (fault_of_part p) refl
    where
      by : (o : Option Fault) → fault_of_part p ≡ o → IsPartFolded known n i t q
      by None e = folded q (s.fault ∙ e) (subst (IsLined known n i t) (sym s.line) (lined p e h))
      by (Some x) e = as_broken q x (s.fault ∙ e) (broken p x e h)

within_operand : (n : ℕ) (p : PartialForm) → fault_of_part p ≡ None → IsPartWithin n p → IsOperand n p
within_operand n (Broken x) e w = cc
within_operand n p e w = w

pub same_within : (n : ℕ) (p q : PartialForm) → IsSamePart p q → IsPartWithin n p → IsPartWithin n q
same_within n p (Broken x) s w = tt
same_within n p q s w =
    let o = within_operand n p (sym s.fault) w in
    operand_within n q (same_operand n p q o s.line (s.sound n o.sound))

-- ---- the same parts
pub same_parts : (ps : List PartialForm) → AreSameParts ps ps
same_parts [] = tt
same_parts (p ∷ ps) = (same_part p, same_parts ps)

pub parts_folded : (known : Point → Known) (n i : ℕ) (ts : List Tree) (ps qs : List PartialForm) → AreSameParts ps qs → ArePartsFolded known n i ts ps → ArePartsFolded known n i ts qs
parts_folded known n i [] [] [] s h = tt
parts_folded known n i (t ∷ ts) (p ∷ ps) (q ∷ qs) s h = (same_folded known n i t p q s.0 h.0, parts_folded known n (i + tree_size t) ts ps qs s.1 h.1)
parts_folded known n i [] (p ∷ ps) qs s h = absurd h
parts_folded known n i (t ∷ ts) [] qs s h = absurd h
parts_folded known n i ts [] (q ∷ qs) s h = absurd s
parts_folded known n i ts (p ∷ ps) [] s h = absurd s

pub parts_within : (n : ℕ) (ps qs : List PartialForm) → AreSameParts ps qs → ArePartsWithin n ps → ArePartsWithin n qs
parts_within n [] [] s w = tt
parts_within n (p ∷ ps) (q ∷ qs) s w = (same_within n p q s.0 w.0, parts_within n ps qs s.1 w.1)
parts_within n [] (q ∷ qs) s w = absurd s
parts_within n (p ∷ ps) [] s w = absurd s

pub parts_length : (ps qs : List PartialForm) → AreSameParts ps qs → length qs ≡ length ps
parts_length [] [] s = refl
parts_length (p ∷ ps) (q ∷ qs) s = ap suc (parts_length ps qs s.1)
parts_length [] (q ∷ qs) s = absurd s
parts_length (p ∷ ps) [] s = absurd s

parts_append : (ps qs rs ss : List PartialForm) → AreSameParts ps qs → AreSameParts rs ss → AreSameParts (ps ++ rs) (qs ++ ss)
parts_append [] [] rs ss a b = b
parts_append (p ∷ ps) (q ∷ qs) rs ss a b = (a.0, parts_append ps qs rs ss a.1 b)
parts_append [] (q ∷ qs) rs ss a b = absurd a
parts_append (p ∷ ps) [] rs ss a b = absurd a

parts_reverse : (ps qs : List PartialForm) → AreSameParts ps qs → AreSameParts (reverse ps) (reverse qs)
parts_reverse [] [] s = tt
parts_reverse (p ∷ ps) (q ∷ qs) s =
    subst₂ AreSameParts (sym (reverse-append (p ∷ []) ps)) (sym (reverse-append (q ∷ []) qs))
    (parts_append (reverse ps) (reverse qs) (p ∷ []) (q ∷ []) (parts_reverse ps qs s.1) (s.0, tt))
parts_reverse [] (q ∷ qs) s = absurd s
parts_reverse (p ∷ ps) [] s = absurd s

parts_set : (ps : List PartialForm) (k : ℕ) (p q : PartialForm) → k < length ps → p ≡ get_or ps k p → IsSamePart p q → AreSameParts ps (set ps k q)
parts_set [] k p q h e s = absurd (omega arith)
parts_set (r ∷ ps) zero p q h e s = (subst (λ x. IsSamePart x q) e s, same_parts ps)
parts_set (r ∷ ps) (suc k) p q h e s = (same_part r, parts_set ps k p q (omega arith) e s)

-- one of a stack's parts is closed
pub one_closed : (stack new : List PartialForm) (k : ℕ) (p q : PartialForm) → k < length stack → p ≡ get_or stack k p
    → new ≡ set stack k q → IsSamePart p q → AreSameParts (reverse stack) (reverse new)
one_closed stack new k p q h e is s = parts_reverse stack new (subst (AreSameParts stack) (sym is) (parts_set stack k p q h e s))

within_append : (n : ℕ) (ps qs : List PartialForm) → ArePartsWithin n (ps ++ qs) → ArePartsWithin n ps × ArePartsWithin n qs
within_append n [] qs w = (tt, w)
within_append n (p ∷ ps) qs w = let r = within_append n ps qs w.1 in ((w.0, r.0), r.1)

-- a part of a stack
pub within_at : (n : ℕ) (stack : List PartialForm) (k : ℕ) (p : PartialForm) → ArePartsWithin n (reverse stack) → k < length stack → p ≡ get_or stack k p → IsPartWithin n p
within_at n [] k p w h e = absurd (omega arith)
within_at n (x ∷ xs) zero p w h e = subst (IsPartWithin n) (sym e) (within_append n (reverse xs) (x ∷ []) (subst (ArePartsWithin n) (reverse-append (x ∷ []) xs) w)).1.0
within_at n (x ∷ xs) (suc k) p w h e = within_at n xs k p (within_append n (reverse xs) (x ∷ []) (subst (ArePartsWithin n) (reverse-append (x ∷ []) xs) w)).0 (omega arith) e

-- what is left of a stack lies within as the stack does
pub left_within : (n k : ℕ) (old new : List PartialForm) → IsLeft k old new → length new ≤ length old → ArePartsWithin n (reverse old) → ArePartsWithin n (reverse new)
left_within n k old new l h w =
    let whole : length old - length new + length new ≡ length old = omega arith in
    subst (λ xs. ArePartsWithin n (reverse xs)) (sym l.front)
    (subst (ArePartsWithin n) (sym (front_is old (length new) (length old - length new) whole)) (within_parts_drop n (length old - length new) (reverse old) w))

pub taken_length : (k : ℕ) (stack : List PartialForm) → k ≤ length stack → length (take k (reverse stack)) ≡ k
taken_length k stack h = length-take-le k (reverse stack) (subst (λ m. k ≤ m) (sym (length-reverse stack)) h)

-- what is left where all operands are gone
pub rest_of : (stack mid new : List PartialForm) (k rest : ℕ) → IsLeft k stack mid → k + rest ≡ length stack → new ≡ take rest mid → reverse new ≡ drop k (reverse stack)
rest_of stack mid new k rest l whole e =
    let within : rest ≤ length mid = omega (arith, l.few, whole) in
    ap reverse (e ∙ ap (take rest) l.front ∙ take-take rest (length mid) stack within) ∙ front_is stack rest k whole

pub on_ok : {T E : Type 0} (r : Result T E) (P Q : Type 0) → (P → Q) → OnOk r P → OnOk r Q
on_ok (Ok x) P Q f p = f p
on_ok (Err e) P Q f p = tt
