-- A row says one thing at most, by its first word: the claim, a node, or a pair.
use Rattle.std.proofs.Common.{◌≡◌, ◌∙◌, ◌⊎◌, ⊎_elim, inl, inr, ℕ, Bool, true, false, not, ◌&&◌, ◌||◌, nat_lt, List, ◌++◌, codes, Option, Some, None, is_none, Result, refl, sym, ap, append-nil}
use Rattle.std.proofs.lemmas.Bool.{and_parts, not-false}
use Rattle.std.specs.Option.{option_or}
use Rattle.std.specs.Prelude.{option_to_list}
use Rattle.std.specs.Str.{bytes_eq}
use Rattle.text_base.specs.Judged.{Takes, first_reason}
use Rattle.text_base.specs.Words.{begins, word_at}
use Rattle.text_base.specs.declared.stop.Stop.{Stop}
use Rattle.text_base.proofs.FirstReasons.{none_each}
use Rattle.exact_numbers.specs.Numbers.{dec_of, whole_of}
use Rattle.exact_numbers.proofs.OptionLemmas.{or_none}
use Rattle.exact_numbers.specs.declared.dec.Dec.{Dec}
use Rattle.branch_proof.specs.declared.fault.ProofReason.{ProofReason}
use Rattle.certificates.specs.declared.proof.Claim.{Claim}
use Rattle.certificates.specs.declared.proof.ProofNode.{ProofNode}
use Rattle.certificates.specs.Proofs.{Pair}
use Rattle.certificates.specs.Setting.{Setting}
use Rattle.branch_proof.specs.Rows.{claim_in, is_alone, is_claim_row, is_node_row, pair_of, proof_node_in, proof_pair_in}
use Rattle.certificate_text.specs.TextRows.{TextRow, is_row, is_first_row}
use Rattle.branch_proof.specs.Standing.{ProofStanding, pairs_left, subtrees_left}
use Rattle.branch_proof.specs.Steps.{ReadSoFar, moved, with_claim, with_node, with_pair, with_row}
use Rattle.branch_proof.specs.Tests.{claim_tests, first_tests, proof_node_tests, proof_pair_tests, proof_row_tests}
use Rattle.certificate_text.proofs.RowLemmas.{format_is, not_word, word_is}
use Rattle.certificate_text.proofs.TestLemmas.{takes_next}

-- what a row says
pub record Says (words : TextRow) (c : Option Claim) (n : Option ProofNode) (p : Option Pair) : Type 0 where
  pub claim : claim_in words ≡ c
  pub node : proof_node_in words ≡ n
  pub pair : proof_pair_in words ≡ p

-- ---- by the first word

no_claim : (words : TextRow) → begins words (codes "infeasible") ≡ false → begins words (codes "value") ≡ false → claim_in words ≡ None
unfolding claim_in
no_claim words a b = rw (a, b) refl

no_node : (words : TextRow) → begins words (codes "split") ≡ false → begins words (codes "duals") ≡ false → begins words (codes "weights") ≡ false → proof_node_in words ≡ None
unfolding proof_node_in
no_node words a b c = rw (a, b, c) refl

no_pair : (words : TextRow) → whole_of (word_at words 0) ≡ None → proof_pair_in words ≡ None
unfolding proof_pair_in
no_pair words none = rw none refl

abbrev IsWord : TextRow → List ℕ → Type 0
IsWord words first = word_at words 0 ≡ first

not_first : (words : TextRow) (first other : List ℕ) → IsWord words first → bytes_eq first other ≡ false → begins words other ≡ false
not_first words first other same e = ap (λ w. bytes_eq w other) same ∙ e

-- a row of a claim, and one of a node
claim_says : (words : TextRow) (first : List ℕ) → IsWord words first → bytes_eq first (codes "split") ≡ false
    → bytes_eq first (codes "duals") ≡ false → bytes_eq first (codes "weights") ≡ false → whole_of first ≡ None
    → Says words (claim_in words) None None
claim_says words first is a b c none = record {
  claim = refl;
  node = no_node words (not_first words first (codes "split") is a) (not_first words first (codes "duals") is b) (not_first words first (codes "weights") is c);
  pair = no_pair words (ap whole_of is ∙ none);
}

node_says : (words : TextRow) (first : List ℕ) → IsWord words first → bytes_eq first (codes "infeasible") ≡ false
    → bytes_eq first (codes "value") ≡ false → whole_of first ≡ None → Says words None (proof_node_in words) None
node_says words first is a b none = record {
  claim = no_claim words (not_first words first (codes "infeasible") is a) (not_first words first (codes "value") is b);
  node = refl;
  pair = no_pair words (ap whole_of is ∙ none);
}

pair_says : (words : TextRow) → is_none (whole_of (word_at words 0)) ≡ false → Says words None None (proof_pair_in words)
unfolding whole_of
pair_says words some =
    let no = λ (first : List ℕ) (none : whole_of first ≡ None). not_word (word_at words 0) first (whole_of (word_at words 0)) refl some none in
    record {
      claim = no_claim words (no (codes "infeasible") refl) (no (codes "value") refl);
      node = no_node words (no (codes "split") refl) (no (codes "duals") refl) (no (codes "weights") refl);
      pair = refl;
    }

-- ---- by the tests

either : (a b : Bool) → (a || b) ≡ true → (a ≡ true) ⊎ (b ≡ true)
either true b e = inl refl
either false b e = inr e

pub claim_row_says : (words : TextRow) → first_reason (claim_tests words) ≡ None → Says words (claim_in words) None None
unfolding claim_tests whole_of
claim_row_says words none =
    ⊎_elim
    (λ (e : is_row (codes "infeasible") 1 words ≡ true). claim_says words (codes "infeasible") (word_is words (codes "infeasible") 1 e) refl refl refl refl)
    (λ (e : is_row (codes "value") 3 words ≡ true). claim_says words (codes "value") (word_is words (codes "value") 3 e) refl refl refl refl)
    (either (is_row (codes "infeasible") 1 words) (is_row (codes "value") 3 words) (not-false (is_claim_row words) (none_each (claim_tests words) none).0))

node_row_by : (c : Option Claim) (words : TextRow) → is_node_row c words ≡ true → Says words None (proof_node_in words) None
unfolding whole_of
node_row_by c words is =
    let others : Bool = is_row (codes "duals") 2 words || is_row (codes "split") 3 words in
    ⊎_elim
    (λ (e : is_row (codes "weights") 2 words ≡ true). node_says words (codes "weights") (word_is words (codes "weights") 2 e) refl refl refl)
    (λ (e : (not (is_alone c) && others) ≡ true). ⊎_elim
    (λ (d : is_row (codes "duals") 2 words ≡ true). node_says words (codes "duals") (word_is words (codes "duals") 2 d) refl refl refl)
    (λ (d : is_row (codes "split") 3 words ≡ true). node_says words (codes "split") (word_is words (codes "split") 3 d) refl refl refl)
    (either (is_row (codes "duals") 2 words) (is_row (codes "split") 3 words) (and_parts (not (is_alone c)) others e).1))
    (either (is_row (codes "weights") 2 words) (not (is_alone c) && others) is)

pub node_row_says : (s : Setting) (st : ProofStanding) (words : TextRow) → first_reason (proof_node_tests s st words) ≡ None → Says words None (proof_node_in words) None
unfolding proof_node_tests
node_row_says s st words none = node_row_by st.claim words (not-false (is_node_row st.claim words) (none_each (proof_node_tests s st words) none).0)

pair_index : (i : Option ℕ) (v : Option Dec) → is_none (pair_of i v) ≡ false → is_none i ≡ false
pair_index None v e = absurd cc
pair_index (Some i) v e = refl

pub pair_row_says : (s : Setting) (st : ProofStanding) (words : TextRow) → first_reason (proof_pair_tests s st words) ≡ None → Says words None None (proof_pair_in words)
unfolding proof_pair_tests proof_pair_in
pair_row_says s st words none = pair_says words (pair_index (whole_of (word_at words 0)) (dec_of (word_at words 1)) (none_each (proof_pair_tests s st words) none).1.0)

pub first_row_says : (words : TextRow) → first_reason (first_tests words) ≡ None → Says words None None None
unfolding first_tests whole_of
first_row_says words none =
    let same = format_is words (codes "proof") (not-false (is_first_row (codes "proof") words) (none_each (first_tests words) none).0) in
    record {
      claim = (node_says words (codes "proof") same refl refl refl).claim;
      node = (claim_says words (codes "proof") same refl refl refl refl).node;
      pair = no_pair words (ap whole_of same);
    }

-- ---- what it comes to

unfoldable pub full : Bool → Option Claim → List ProofNode → List Pair → ProofStanding
full b c ns ps = record { begun = b; claim = c; nodes = ns; pairs = ps }

pub full_same : (a b : Bool) (c d : Option Claim) (ns ms : List ProofNode) (ps qs : List Pair) → a ≡ b → c ≡ d → ns ≡ ms → ps ≡ qs → full a c ns ps ≡ full b d ms qs
full_same a b c d ns ms ps qs e f g h = cc

pub row_is : (st : ProofStanding) (words : TextRow) (c : Option Claim) (n : Option ProofNode) (p : Option Pair)
    (now : ProofStanding) → Says words c n p → now.begun ≡ true → now.claim ≡ option_or st.claim c
    → now.nodes ≡ st.nodes ++ option_to_list n → now.pairs ≡ st.pairs ++ option_to_list p → now ≡ with_row st words
unfolding full
row_is st words c n p now says b e f g =
    full_same _ _ _ _ _ _ _ _ b (e ∙ ap (option_or st.claim) (sym says.claim)) (f ∙ ap (λ o. st.nodes ++ option_to_list o) (sym says.node)) (g ∙ ap (λ o. st.pairs ++ option_to_list o) (sym says.pair))

pub first_is : (st : ProofStanding) (words : TextRow) → Says words None None None → record st { begun = true } ≡ with_row st words
first_is st words says = row_is st words None None None _ says refl (sym (or_none st.claim)) (sym (append-nil st.nodes)) (sym (append-nil st.pairs))

none_or : (o p : Option Claim) → is_none o ≡ true → p ≡ option_or o p
none_or None p e = refl
none_or (Some c) p e = absurd cc

pub claim_is : (st : ProofStanding) (words : TextRow) (c : Option Claim) → Says words c None None → st.begun ≡ true → is_none st.claim ≡ true → with_claim st c ≡ with_row st words
claim_is st words c says b none = row_is st words c None None _ says b (none_or st.claim c none) (sym (append-nil st.nodes)) (sym (append-nil st.pairs))

pub node_is : (st : ProofStanding) (words : TextRow) (n : Option ProofNode) → Says words None n None → st.begun ≡ true → with_node st n ≡ with_row st words
node_is st words n says b = row_is st words None n None _ says b (sym (or_none st.claim)) refl (sym (append-nil st.pairs))

pub pair_is : (st : ProofStanding) (words : TextRow) (p : Option Pair) → Says words None None p → st.begun ≡ true → with_pair st p ≡ with_row st words
pair_is st words p says b = row_is st words None None p _ says b (sym (or_none st.claim)) (sym (append-nil st.nodes)) refl

-- ---- what a call answers

abbrev Answer : Type 0
Answer = Result (Unit {0}) (Stop ProofReason)

pub at_first : (read new : ReadSoFar) (words : TextRow) (r : Answer) → read.standing.begun ≡ false
    → Takes (first_tests words) (moved read (record read.standing { begun = true })) r new → Takes (proof_row_tests read.setting read.standing words) (moved read (with_row read.standing words)) r new
unfolding proof_row_tests
at_first read new words r a h = rw a (takes_next (first_tests words) _ _ new r (λ none. ap (moved read) (first_is read.standing words (first_row_says words none))) h)

pub at_claim : (read new : ReadSoFar) (words : TextRow) (r : Answer) → read.standing.begun ≡ true → is_none read.standing.claim ≡ true
    → Takes (claim_tests words) (moved read (with_claim read.standing (claim_in words))) r new
    → Takes (proof_row_tests read.setting read.standing words) (moved read (with_row read.standing words)) r new
unfolding proof_row_tests
at_claim read new words r a b h = rw (a, b) (takes_next (claim_tests words) _ _ new r (λ none. ap (moved read) (claim_is read.standing words (claim_in words) (claim_row_says words none) a b)) h)

pub at_pair : (read new : ReadSoFar) (words : TextRow) (r : Answer) → read.standing.begun ≡ true → is_none read.standing.claim ≡ false → nat_lt 0 (pairs_left read.standing) ≡ true
    → Takes (proof_pair_tests read.setting read.standing words)
    (moved read (with_pair read.standing (proof_pair_in words))) r new
    → Takes (proof_row_tests read.setting read.standing words) (moved read (with_row read.standing words)) r new
unfolding proof_row_tests proof_pair_tests proof_node_tests
at_pair read new words r a b d h =
    rw (a, b, d) (takes_next (proof_pair_tests read.setting read.standing words) _ _ new r
    (λ none. ap (moved read) (pair_is read.standing words (proof_pair_in words)
    (pair_row_says read.setting read.standing words none) a)) h)

pub at_node : (read new : ReadSoFar) (words : TextRow) (r : Answer) → read.standing.begun ≡ true
    → is_none read.standing.claim ≡ false → nat_lt 0 (pairs_left read.standing) ≡ false
    → nat_lt 0 (subtrees_left read.standing) ≡ true
    → Takes (proof_node_tests read.setting read.standing words)
    (moved read (with_node read.standing (proof_node_in words))) r new
    → Takes (proof_row_tests read.setting read.standing words) (moved read (with_row read.standing words)) r new
unfolding proof_row_tests proof_node_tests
at_node read new words r a b d e h =
    rw (a, b, d, e) (takes_next (proof_node_tests read.setting read.standing words) _ _ new r
    (λ none. ap (moved read) (node_is read.standing words (proof_node_in words)
    (node_row_says read.setting read.standing words none) a)) h)
