-- What is given in a certificate, by its pairs and nodes.
use Rattle.std.proofs.Common.{◌≡◌, ◌≢◌, ◌∙◌, Bool, ℕ, ◌+◌, ◌≤◌, true, false, List, [], ◌++◌, length, take, drop, Option, Some, None, refl, sym, ap, subst, arith}
use Rattle.std.specs.Prelude.{if◌then◌else◌}
use Rattle.std.proofs.lemmas.List.{length-append, drop_at}
use Rattle.exact_numbers.specs.Rational.{ℚ}
use Rattle.linear_program.specs.Numbers.{Pair, spread}
use Rattle.certificates.specs.Certificates.{AreNumbers, CertificateTree, CertificateValue, Given, IsTreeOver, duals, lemma, nodes_in, nodes_of, pairs_in, pairs_of, plane, split, weights}
use Rattle.certificates.specs.Reading.{given_in}
use Rattle.certificates.specs.Setting.{IsWholeFor}
use Rattle.certificates.specs.declared.certificate.Claim.{Claim}
use Rattle.certificates.specs.declared.certificate.Claim.TheVariants.{Optimal, Within, Bound, Feasible, Infeasible, Unbounded}
use Rattle.certificates.proofs.Reading.{given_back}
use Rattle.certified_solution.specs.InsideParts.{begins_with_duals, has_point}
use Rattle.certified_solution.specs.Solution.{AreDecimalsOf, IsCertificateBy, are_decimal, dual_values, leaf_values, point_values, where_decimal}

-- ---- by claim

with_point : (n : ℕ) (claim : Claim) (g : Given) → has_point claim ≡ true → point_values n claim g ≡ spread n g.point
with_point n (Optimal k) g e = refl
with_point n (Within k b) g e = refl
with_point n (Bound k v) g e = absurd cc
with_point n (Feasible k) g e = refl
with_point n Infeasible g e = absurd cc
with_point n (Unbounded k) g e = refl

pub without_point : (n : ℕ) (claim : Claim) (g : Given) → has_point claim ≡ false → AreDecimalsOf (Some []) (point_values n claim g)
without_point n (Optimal k) g e = absurd cc
without_point n (Within k b) g e = absurd cc
without_point n (Bound k v) g e = (refl, refl)
without_point n (Feasible k) g e = absurd cc
without_point n Infeasible g e = (refl, refl)
without_point n (Unbounded k) g e = absurd cc

-- ---- by tree

one_leaf : (t : Option CertificateTree) → begins_with_duals (nodes_in t) ≡ true → t ≡ Some (duals (pairs_in t))
unfolding nodes_of pairs_of
one_leaf None e = absurd cc
one_leaf (Some (split j t below above)) e = absurd cc
one_leaf (Some (plane ps t below above)) e = absurd cc
one_leaf (Some (lemma ps t shown rest)) e = absurd cc
one_leaf (Some (duals ps)) e = refl
one_leaf (Some (weights ps)) e = absurd cc

no_leaf : (m : ℕ) (t : Option CertificateTree) → begins_with_duals (nodes_in t) ≡ false → leaf_values m t ≡ []
unfolding nodes_of
no_leaf m None e = refl
no_leaf m (Some (split j t below above)) e = refl
no_leaf m (Some (plane ps t below above)) e = refl
no_leaf m (Some (lemma ps t shown rest)) e = refl
no_leaf m (Some (duals ps)) e = absurd cc
no_leaf m (Some (weights ps)) e = refl

leaf_numbers : (on_whole : ℕ → Type 0) (n m : ℕ) (ps : List Pair) → IsTreeOver on_whole n m (duals ps) → AreNumbers 0 m ps
unfolding IsTreeOver
leaf_numbers on_whole n m ps h = h

pub where_all : (ys : List ℚ) → are_decimal ys ≡ true → where_decimal ys ≡ ys
where_all ys e = ap (λ b. if b then ys else []) e

pub where_none : (ys : List ℚ) → are_decimal ys ≡ false → where_decimal ys ≡ []
where_none ys e = ap (λ b. if b then ys else []) e

-- duals that are written are those of one leaf
pub has_leaf : (m : ℕ) (t : Option CertificateTree) → dual_values m t ≢ [] → (ps : List Pair) × (t ≡ Some (duals ps)) × (dual_values m t ≡ spread m ps)
has_leaf m None some = absurd (some refl)
has_leaf m (Some (split j t below above)) some = absurd (some refl)
has_leaf m (Some (plane ps t below above)) some = absurd (some refl)
has_leaf m (Some (lemma ps t shown rest)) some = absurd (some refl)
has_leaf m (Some (duals ps)) some = (ps, refl, by (are_decimal (spread m ps)) refl)
  where
    by : (b : Bool) → are_decimal (spread m ps) ≡ b → where_decimal (spread m ps) ≡ spread m ps
    by true e = where_all (spread m ps) e
    by false e = absurd (some (where_none (spread m ps) e))
has_leaf m (Some (weights ps)) some = absurd (some refl)

-- ---- a certificate

module _ (m n : ℕ) (c : CertificateValue) (h : IsCertificateBy m n c) where
  abbrev given : Given
  given = h.3.given

  later : List Pair
  later = given.ray ++ pairs_in given.tree

  given_is : given_in c ≡ given
  given_is = given_back c given h.3.point h.3.ray h.3.nodes h.3.pairs

  later_is : drop c.point c.pairs ≡ later
  unfolding later
  later_is = ap (λ qs. drop c.point qs) (sym h.3.pairs) ∙ drop_at given.point (given.ray ++ pairs_in given.tree) c.point h.3.point

  own_is : take c.point c.pairs ≡ given.point
  own_is = ap (λ (g : Given). g.point) given_is

  rest_is : drop c.ray (drop c.point c.pairs) ≡ pairs_in given.tree
  unfolding later
  rest_is = ap (λ qs. drop c.ray qs) later_is ∙ drop_at given.ray (pairs_in given.tree) c.ray h.3.ray

  pub point_room : c.point ≤ length c.pairs
  point_room =
      let e : length given.point + length (given.ray ++ pairs_in given.tree) ≡ length c.pairs = sym (length-append given.point (given.ray ++ pairs_in given.tree)) ∙ ap length h.3.pairs in
      omega (arith, e, h.3.point)

  pub ray_room : c.ray ≤ length (drop c.point c.pairs)
  unfolding later
  ray_room =
      let e : length given.ray + length (pairs_in given.tree) ≡ length (drop c.point c.pairs) = sym (length-append given.ray (pairs_in given.tree)) ∙ ap length (sym later_is) in
      omega (arith, e, h.3.ray)

  pub point_numbers : AreNumbers 0 n (take c.point c.pairs)
  point_numbers = subst (λ k. AreNumbers 0 k (take c.point c.pairs)) h.2 (subst (AreNumbers 0 (length h.0.kinds)) (sym own_is) h.3.fine.point)

  pub point_is : has_point c.claim ≡ true → spread n (take c.point c.pairs) ≡ point_values n c.claim (given_in c)
  point_is e = sym (with_point n c.claim (given_in c) e)

  tree_is : (given_in c).tree ≡ given.tree
  tree_is = ap (λ (g : Given). g.tree) given_is

  lone : begins_with_duals c.nodes ≡ true → given.tree ≡ Some (duals (pairs_in given.tree))
  lone e = one_leaf given.tree (ap begins_with_duals h.3.nodes ∙ e)

  pub leaf_is : begins_with_duals c.nodes ≡ true → leaf_values m (given_in c).tree ≡ spread m (drop c.ray (drop c.point c.pairs))
  leaf_is e = ap (leaf_values m) (tree_is ∙ lone e) ∙ ap (spread m) (sym rest_is)

  pub leaf_of : begins_with_duals c.nodes ≡ true → AreNumbers 0 m (drop c.ray (drop c.point c.pairs))
  leaf_of e =
      let fine = leaf_numbers (IsWholeFor h.0) (length h.0.kinds) h.0.rows (pairs_in given.tree) (h.3.fine.tree (duals (pairs_in given.tree)) (lone e)) in
      subst (λ k. AreNumbers 0 k (drop c.ray (drop c.point c.pairs))) h.1 (subst (AreNumbers 0 h.0.rows) (sym rest_is) fine)

  pub no_duals : begins_with_duals c.nodes ≡ false → dual_values m (given_in c).tree ≡ []
  no_duals e = ap where_decimal (ap (leaf_values m) tree_is ∙ no_leaf m given.tree (ap begins_with_duals h.3.nodes ∙ e))

  pub some_duals : (e : begins_with_duals c.nodes ≡ true) → are_decimal (spread m (drop c.ray (drop c.point c.pairs)))
      ≡ true → dual_values m (given_in c).tree ≡ spread m (drop c.ray (drop c.point c.pairs))
  some_duals e fit = ap where_decimal (leaf_is e) ∙ where_all (spread m (drop c.ray (drop c.point c.pairs))) fit

  pub wide_duals : (e : begins_with_duals c.nodes ≡ true) → are_decimal (spread m (drop c.ray (drop c.point c.pairs))) ≡ false → dual_values m (given_in c).tree ≡ []
  wide_duals e wide = ap where_decimal (leaf_is e) ∙ where_none (spread m (drop c.ray (drop c.point c.pairs))) wide
