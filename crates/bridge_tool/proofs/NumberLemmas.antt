-- The numbers of an instance, and its header.
use Rattle.std.proofs.Common.{◌≡◌, ◌∙◌, ℕ, ◌+◌, ◌≤◌, ◌^◌, max, ltb, true, pos, List, [], ◌∷◌, ◌++◌, refl, sym, ap, ap₂, subst, arith}
use Rattle.std.proofs.lemmas.Int.{ints}
use Rattle.std.proofs.lemmas.Bool.{lt-ltb, le-leb, and_from}
use Rattle.exact_numbers.specs.Rational.{whole, zero_ℚ, ◌≤ℚ◌}
use Rattle.exact_numbers.proofs.RationalLaws.{whole-≤ℚ}
use Rattle.exact_numbers.specs.declared.dec.Dec.{Dec}
use Rattle.exact_numbers.specs.Values.{Decimal, dec_value, decimal_of}
use Rattle.exact_numbers.proofs.NumberLemmas.{dec_from-value}
use Rattle.exact_numbers.proofs.Spelling.{decimal_of-decimal}
use Rattle.nl_model.specs.HeaderRules.{is_header, are_options, are_numbers, are_counts, defined_count}
use Rattle.nl_model.specs.Trees.{Tree, number}
use Rattle.nl_model.specs.Nodes.{tree_of}
use Rattle.nl_model.specs.declared.node.Node.{Node}
use Rattle.nl_model.specs.declared.node.Node.TheVariants.{Num}
use Rattle.bridge_tool.specs.Instance.{counts_of, or_zero, whole_dec}

-- a Dec with the value of a whole number is the one that the instance has
pub whole_is : (n : ℕ) (d : Dec) → dec_value d ≡ whole (pos n) → d ≡ whole_dec n
unfolding whole_dec
whole_is n d same = sym (ap or_zero (dec_from-value (whole (pos n)) d same))

zero_parts : (d : Dec) → dec_value d ≡ zero_ℚ → ◌≡◌ {A = Decimal} (record { mantissa = d.m; exponent = d.e }) (record { mantissa = pos 0; exponent = pos 0 })
unfolding decimal_of whole
zero_parts d same = sym (decimal_of-decimal d.m d.e d.spelled) ∙ ap decimal_of same

pub zero_mantissa : (d : Dec) → dec_value d ≡ zero_ℚ → d.m ≡ pos 0
zero_mantissa d same = ap (λ r. r.mantissa) (zero_parts d same)

pub zero_exponent : (d : Dec) → dec_value d ≡ zero_ℚ → d.e ≡ pos 0
zero_exponent d same = ap (λ r. r.exponent) (zero_parts d same)

-- the tree of one node 0
pub zero_tree : (d : Dec) (x : Tree) (nodes none : List Node) → dec_value d ≡ zero_ℚ → x ≡ tree_of nodes → nodes ≡ none ++ Num d ∷ [] → none ≡ [] → x ≡ number (pos 0) (pos 0)
zero_tree d x nodes none zero is pushed empty =
    is ∙ ap tree_of (pushed ∙ ap (λ ns. ns ++ Num d ∷ []) empty) ∙ ap₂ number (zero_mantissa d zero) (zero_exponent d zero)

-- 0 is not above a whole number that is not negative
pub above_zero : (n : ℕ) (d e : Dec) → dec_value d ≡ whole (pos 0) → dec_value e ≡ whole (pos n) → dec_value d ≤ℚ dec_value e
above_zero n d e zero most =
    subst (λ x. x ≤ℚ dec_value e) (sym zero) (subst (λ x. whole (pos 0) ≤ℚ x) (sym most) ((whole-≤ℚ (pos 0) (pos n)).1 (omega (arith, ints))))

-- ---- the header

sizes : (n : ℕ) → n ≤ 20000 → are_numbers (counts_of n) ≡ true
sizes n le =
    let small : ltb n (2 ^ 31) ≡ true = lt-ltb n (2 ^ 31) (omega (arith, le)) in
    rw small refl

pub is_headed : (n : ℕ) → n ≤ 20000 → is_header (pos 1 ∷ pos 1 ∷ pos 0 ∷ []) (counts_of n) ≡ true
unfolding is_header
is_headed n le =
    and_from (are_options (pos 1 ∷ pos 1 ∷ pos 0 ∷ [])) (are_counts (counts_of n)) refl (
    and_from _ _ (
    and_from _ _ (
    and_from _ _ (
    and_from _ _ (and_from _ _ (sizes n le) refl)
    (and_from _ _ (and_from _ _ (and_from _ _ (le-leb n (2 ^ 20) (omega (arith, le))) (le-leb n (2 ^ 20) (omega (arith, le)))) refl) (le-leb n (2 ^ 22) (omega (arith, le))))
    ) refl
    ) (and_from _ _ refl (le-leb (max 0 0 + 0 + n) n (omega arith)))
    ) (le-leb (defined_count (counts_of n)) (2 ^ 20) (omega (arith, le))))
