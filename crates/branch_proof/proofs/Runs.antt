-- A text without faults as a run of pieces, each of which may come where it stands.
use Rattle.std.proofs.Common.{◌≡◌, ◌∙◌, ℕ, ◌+◌, ◌<◌, ◌^◌, ◌==◌, Bool, true, false, cond, not, ◌&&◌, ◌||◌, nat_le}
use Rattle.std.proofs.Common.{nat_lt, List, [], ◌∷◌, ◌++◌, length, get_or, Option, Some, None, is_none, is_some, codes}
use Rattle.std.proofs.Common.{refl, sym, ap, ap₂, subst}
use Rattle.std.proofs.lemmas.Bool.{and_parts, not-false, ltb-true, leb-false, not-true}
use Rattle.std.specs.List.{cons_option, filter_map}
use Rattle.std.specs.Str.{bytes_eq}
use Rattle.exact_numbers.specs.Fits.{fits}
use Rattle.exact_numbers.specs.Rational.{whole, zero_ℚ}
use Rattle.exact_numbers.specs.declared.dec.Dec.{Dec}
use Rattle.exact_numbers.specs.Numbers.{dec_of, whole_of}
use Rattle.exact_numbers.specs.Values.{dec_value}
use Rattle.text_base.specs.Judged.{End, IsClean, first_fault_from, first_reason}
use Rattle.text_base.specs.Reading.{last_of, lines_of}
use Rattle.text_base.specs.Words.{begins, row_of, word_at}
use Rattle.text_base.proofs.FirstReasons.{none_each}
use Rattle.linear_program.specs.declared.kind.Kind.TheVariants.{Continuous}
use Rattle.linear_program.specs.Intervals.{is_whole_kind}
use Rattle.certificates.specs.declared.proof.Claim.{Claim}
use Rattle.certificates.specs.declared.proof.Claim.TheVariants.{Value, Infeasible}
use Rattle.certificates.specs.declared.proof.ProofNode.{ProofNode}
use Rattle.certificates.specs.declared.proof.ProofNode.TheVariants.{Split, Weights}
use Rattle.branch_proof.specs.declared.fault.ProofReason.TheVariants.{Extra}
use Rattle.certificates.specs.Proofs.{Pair, claim_value}
use Rattle.certificates.specs.Setting.{IsWholeFor, Setting}
use Rattle.branch_proof.specs.Rows.{claim_in, is_alone, is_node_row, leaf_in, proof_node_in, proof_pair_in, value_claim}
use Rattle.certificate_text.specs.TextRows.{TextRow, is_row, rows_in}
use Rattle.branch_proof.specs.Standing.{ProofStanding, is_whole_proof, pairs_left, proof_standing, subtrees_left}
use Rattle.branch_proof.specs.Steps.{with_claim, with_line, with_node, with_pair, with_row}
use Rattle.branch_proof.specs.Tests.{claim_tests, first_tests, is_pair_out, is_split_continuous, is_split_out, proof_end_tests, proof_line_tests, proof_node_tests, proof_pair_tests, proof_row_tests}
use Rattle.branch_proof.specs.Grammar.{proof_rules}
use Rattle.branch_proof.proofs.RowLemmas.{Says, claim_is, claim_row_says, first_is, first_row_says, node_is, node_row_says, pair_is, pair_row_says}
use Rattle.branch_proof.proofs.Steps.{line_push}
use Rattle.text_base.proofs.JudgedLemmas.{last_clean, line_clean}
use Rattle.text_base.proofs.ReadingLemmas.{text_clean}
use Rattle.certificate_text.proofs.TestLemmas.{is_there, zero_left}
use Rattle.certificate_text.proofs.RowLemmas.{word_is}

-- ---- the pieces, and what may come

-- what a row behind the first says
pub data Piece : Type 0 where
  claim_row : Claim → Piece
  node_row : ProofNode → Piece
  pair_row : Pair → Piece

abbrev pub as_claim : Piece → Option Claim
as_claim (claim_row c) = Some c
as_claim p = None

abbrev pub as_node : Piece → Option ProofNode
as_node (node_row n) = Some n
as_node p = None

abbrev pub as_pair : Piece → Option Pair
as_pair (pair_row p) = Some p
as_pair q = None

abbrev pub with_piece : ProofStanding → Piece → ProofStanding
with_piece st (claim_row c) = with_claim st (Some c)
with_piece st (node_row n) = with_node st (Some n)
with_piece st (pair_row p) = with_pair st (Some p)

abbrev Is : TextRow → Piece → Type 0
Is words p = Says words (as_claim p) (as_node p) (as_pair p)

-- under `infeasible` there is one leaf with weights
abbrev pub MayStand : Option Claim → ProofNode → Type 0
MayStand c (Weights n) = Unit {0}
MayStand c n = is_alone c ≡ false

abbrev pub FitsNode : Setting → ProofNode → Type 0
FitsNode s (Split j t) = IsWholeFor s j
FitsNode s n = Unit {0}

abbrev pub MayCome : Setting → ProofStanding → Piece → Type 0
MayCome s st (claim_row c) = (is_none st.claim ≡ true) × (fits (claim_value c) ≡ true)
MayCome s st (node_row n) =
    (is_some st.claim ≡ true) × (pairs_left st ≡ 0) × (0 < subtrees_left st) × (length st.nodes < 2 ^ 16) × FitsNode s n × MayStand st.claim n
MayCome s st (pair_row p) = (is_some st.claim ≡ true) × (0 < pairs_left st) × (p.0 < s.rows)

-- each may come, and behind them all has come
unfoldable pub IsRun : Setting → ProofStanding → List Piece → Type 0
IsRun s st [] = is_whole_proof st ≡ true
IsRun s st (p ∷ ps) = MayCome s st p × IsRun s (with_piece st p) ps

-- behind the first row
abbrev pub begun_only : ProofStanding
begun_only = record { begun = true; claim = None; nodes = []; pairs = [] }

-- the row says a piece that may come
record Here (s : Setting) (st : ProofStanding) (words : TextRow) : Type 0 where
  piece : Piece
  may : MayCome s st piece
  is : Is words piece
  next : with_row st words ≡ with_piece st piece

-- ---- by the tests of a row

-- ---- the claim

value_fits : (k : Option ℕ) (v : Option Dec) (c : Claim) → value_claim k v ≡ Some c → fits (claim_value c) ≡ true
value_fits None v c e = absurd cc
value_fits (Some k) None c e = absurd cc
value_fits (Some k) (Some v) c e = by (fits (dec_value v)) refl e
  where
    by : (b : Bool) → fits (dec_value v) ≡ b → cond b (Some (Value k v)) None ≡ Some c → fits (claim_value c) ≡ true
    by true fit e = (let same : Value k v ≡ c = cc in subst (λ (d : Claim). fits (claim_value d) ≡ true) same fit)
    by false fit e = absurd cc

none_fits : fits zero_ℚ ≡ true
unfolding whole
none_fits = refl

claim_in_fits : (words : TextRow) (c : Claim) → claim_in words ≡ Some c → fits (claim_value c) ≡ true
unfolding claim_in
claim_in_fits words c e = by (is_row (codes "infeasible") 1 words) e
  where
    value : (b : Bool) → cond b (value_claim (whole_of (word_at words 1)) (dec_of (word_at words 2))) None ≡ Some c → fits (claim_value c) ≡ true
    value true e = value_fits (whole_of (word_at words 1)) (dec_of (word_at words 2)) c e
    value false e = absurd cc

    by : (b : Bool) → cond b (Some Infeasible) (cond (is_row (codes "value") 3 words) (value_claim (whole_of (word_at words 1)) (dec_of (word_at words 2))) None) ≡ Some c → fits (claim_value c) ≡ true
    by true e = (let same : Infeasible ≡ c = cc in subst (λ (d : Claim). fits (claim_value d) ≡ true) same none_fits)
    by false e = value (is_row (codes "value") 3 words) e

claim_may : (s : Setting) (st : ProofStanding) (words : TextRow) (o : Option Claim) → claim_in words ≡ o
    → Says words o None None → is_none st.claim ≡ true → is_none o ≡ false → st.begun ≡ true → Here s st words
claim_may s st words None e says none given b = absurd cc
claim_may s st words (Some c) e says none given b = record { piece = claim_row c; may = (none, claim_in_fits words c e); is = says; next = sym (claim_is st words (Some c) says b none) }

-- ---- a node

weights_node : (words : TextRow) → is_row (codes "weights") 2 words ≡ true → proof_node_in words ≡ leaf_in Weights (whole_of (word_at words 1))
unfolding proof_node_in
weights_node words e =
    let same : word_at words 0 ≡ codes "weights" = word_is words (codes "weights") 2 e in
    let no_split : begins words (codes "split") ≡ false = ap (λ w. bytes_eq w (codes "split")) same in
    let no_duals : begins words (codes "duals") ≡ false = ap (λ w. bytes_eq w (codes "duals")) same in
    rw (no_split, no_duals, e) refl

weights_stand : (c : Option Claim) (o : Option ℕ) (n : ProofNode) → leaf_in Weights o ≡ Some n → MayStand c n
weights_stand c None n e = absurd cc
weights_stand c (Some k) n e = (let same : Weights k ≡ n = cc in subst (MayStand c) same tt)

other_stand : (c : Option Claim) (n : ProofNode) → is_alone c ≡ false → MayStand c n
other_stand c (Weights n) e = tt
other_stand c n e = e

may_stand : (c : Option Claim) (words : TextRow) (n : ProofNode) → proof_node_in words ≡ Some n → is_node_row c words ≡ true → MayStand c n
may_stand c words n is row = by (is_row (codes "weights") 2 words) refl row
  where
    by : (b : Bool) → is_row (codes "weights") 2 words ≡ b → (b || (not (is_alone c) && (is_row (codes "duals") 2 words || is_row (codes "split") 3 words))) ≡ true → MayStand c n
    by true e h = weights_stand c (whole_of (word_at words 1)) n (sym (weights_node words e) ∙ is)
    by false e h = other_stand c n (not-true (is_alone c) (and_parts (not (is_alone c)) (is_row (codes "duals") 2 words || is_row (codes "split") 3 words) h).0)

-- the variable of a split that is no fault
fits_node : (s : Setting) (n : ProofNode) → is_split_out s.kinds (Some n) ≡ false → is_split_continuous s.kinds (Some n) ≡ false → FitsNode s n
fits_node s (Split j t) out continuous = (leb-false (length s.kinds) j out, not-false (is_whole_kind (get_or s.kinds j Continuous)) continuous)
fits_node s n out continuous = tt

-- ---- a row

node_may : (s : Setting) (st : ProofStanding) (words : TextRow) (o : Option ProofNode) → proof_node_in words ≡ o
    → Says words None o None → st.begun ≡ true → is_some st.claim ≡ true → pairs_left st ≡ 0 → 0 < subtrees_left st
    → is_node_row st.claim words ≡ true → is_none o ≡ false → is_split_out s.kinds o ≡ false
    → is_split_continuous s.kinds o ≡ false → nat_le (2 ^ 16) (length st.nodes) ≡ false → Here s st words
node_may s st words None e says b claim none some row given out continuous few = absurd cc
node_may s st words (Some n) e says b claim none some row given out continuous few =
    record {
      piece = node_row n;
      may = (claim, none, some, leb-false (2 ^ 16) (length st.nodes) few, fits_node s n out continuous, may_stand st.claim words n e row);
      is = says;
      next = sym (node_is st words (Some n) says b);
    }

pair_may : (s : Setting) (st : ProofStanding) (words : TextRow) (o : Option Pair) → Says words None None o
    → st.begun ≡ true → is_some st.claim ≡ true → 0 < pairs_left st → is_none o ≡ false → is_pair_out s.rows o ≡ false
    → Here s st words
pair_may s st words None says b claim left given out = absurd cc
pair_may s st words (Some p) says b claim left given out =
    record { piece = pair_row p; may = (claim, left, leb-false s.rows p.0 out); is = says; next = sym (pair_is st words (Some p) says b) }

claim_here : (s : Setting) (st : ProofStanding) (words : TextRow) → st.begun ≡ true → is_none st.claim ≡ true → first_reason (claim_tests words) ≡ None → Here s st words
unfolding claim_tests
claim_here s st words b none tests =
    let each = none_each (claim_tests words) tests in
    claim_may s st words (claim_in words) refl (claim_row_says words tests) none each.1.0 b

node_here : (s : Setting) (st : ProofStanding) (words : TextRow) → st.begun ≡ true → is_some st.claim ≡ true
    → pairs_left st ≡ 0 → 0 < subtrees_left st → first_reason (proof_node_tests s st words) ≡ None → Here s st words
unfolding proof_node_tests
node_here s st words b claim none some tests =
    let each = none_each (proof_node_tests s st words) tests in
    node_may s st words (proof_node_in words) refl (node_row_says s st words tests) b claim none some (not-false (is_node_row st.claim words) each.0) each.1.0 each.1.1.0 each.1.1.1.0 each.1.1.1.1.0

pair_here : (s : Setting) (st : ProofStanding) (words : TextRow) → st.begun ≡ true → is_some st.claim ≡ true → 0 < pairs_left st → first_reason (proof_pair_tests s st words) ≡ None → Here s st words
unfolding proof_pair_tests
pair_here s st words b claim left tests =
    let each = none_each (proof_pair_tests s st words) tests in
    pair_may s st words (proof_pair_in words) (pair_row_says s st words tests) b claim left each.1.0 each.1.1.0

row_may : (s : Setting) (st : ProofStanding) (words : TextRow) → st.begun ≡ true → first_reason (proof_row_tests s st words) ≡ None → Here s st words
unfolding proof_row_tests proof_pair_tests proof_node_tests
row_may s st words begun tests = claim (is_none st.claim) refl (rw begun at tests)
  where
    node : is_some st.claim ≡ true → pairs_left st ≡ 0 → (b : Bool) → nat_lt 0 (subtrees_left st) ≡ b
        → first_reason (cond b (proof_node_tests s st words) ((true, Extra) ∷ [])) ≡ None → Here s st words
    node claim none true is tests = node_here s st words begun claim none (ltb-true 0 (subtrees_left st) is) tests
    node claim none false is tests = absurd cc

    pair : is_some st.claim ≡ true → (b : Bool) → nat_lt 0 (pairs_left st) ≡ b
        → first_reason (cond b (proof_pair_tests s st words) (cond (nat_lt 0 (subtrees_left st)) (proof_node_tests s st words) ((true, Extra) ∷ []))) ≡ None → Here s st words
    pair claim true is tests = pair_here s st words begun claim (ltb-true 0 (pairs_left st) is) tests
    pair claim false is tests = node claim (zero_left (pairs_left st) is) (nat_lt 0 (subtrees_left st)) refl tests

    claim : (b : Bool) → is_none st.claim ≡ b
        → first_reason (cond b (claim_tests words) (cond (nat_lt 0 (pairs_left st)) (proof_pair_tests s st words)
        (cond (nat_lt 0 (subtrees_left st)) (proof_node_tests s st words) ((true, Extra) ∷ [])))) ≡ None
        → Here s st words
    claim true is tests = claim_here s st words begun is tests
    claim false is tests = pair (is_there st.claim is) (nat_lt 0 (pairs_left st)) refl tests

-- ---- a text

-- the rows are those of a run of pieces
pub record Runs (s : Setting) (st : ProofStanding) (rows : List TextRow) : Type 0 where
  pub pieces : List Piece
  pub run : IsRun s st pieces
  pub claims : filter_map claim_in rows ≡ filter_map as_claim pieces
  pub nodes : filter_map proof_node_in rows ≡ filter_map as_node pieces
  pub pairs : filter_map proof_pair_in rows ≡ filter_map as_pair pieces

-- a row before them
runs_more : (s : Setting) (st : ProofStanding) (words : TextRow) (rows : List TextRow) → Here s st words → Runs s (with_row st words) rows → Runs s st (words ∷ rows)
unfolding IsRun
runs_more s st words rows here more =
    record {
      pieces = here.piece ∷ more.pieces;
      run = (here.may, subst (λ (now : ProofStanding). IsRun s now more.pieces) here.next more.run);
      claims = ap₂ cons_option here.is.claim more.claims;
      nodes = ap₂ cons_option here.is.node more.nodes;
      pairs = ap₂ cons_option here.is.pair more.pairs;
    }

runs_from : (s : Setting) (rest before : List (List ℕ)) → (proof_standing (rows_in before)).begun ≡ true → first_fault_from (proof_rules s) End before rest ≡ None
    → Runs s (proof_standing (rows_in before)) (rows_in rest)
unfolding IsRun proof_end_tests proof_line_tests rows_in
runs_from s [] before begun clean =
    let tests = none_each (proof_end_tests (proof_standing (rows_in before))) (last_clean (proof_rules s) End before clean) in
    record { pieces = []; run = not-false (is_whole_proof (proof_standing (rows_in before))) tests.1.0; claims = refl; nodes = refl; pairs = refl }
runs_from s (line ∷ rest) before begun clean =
    let fine = line_clean (proof_rules s) End before rest line clean in
    by (length (row_of line) == 0) fine.0 (line_push before line) (λ more. runs_from s rest (before ++ line ∷ []) more fine.1)
  where
    st : ProofStanding
    st = proof_standing (rows_in before)

    words : TextRow
    words = row_of line

    by : (b : Bool) → first_reason (cond b [] (proof_row_tests s st words)) ≡ None → proof_standing (rows_in (before ++ line ∷ [])) ≡ cond b st (with_row st words)
        → ((proof_standing (rows_in (before ++ line ∷ []))).begun ≡ true → Runs s (proof_standing (rows_in (before ++ line ∷ []))) (rows_in rest))
        → Runs s st (cond b [] (words ∷ []) ++ rows_in rest)
    by true tests is next = subst (λ (now : ProofStanding). Runs s now (rows_in rest)) is (next (ap (λ (now : ProofStanding). now.begun) is ∙ begun))
    by false tests is next =
        runs_more s st words (rows_in rest) (row_may s st words begun tests)
        (subst (λ (now : ProofStanding). Runs s now (rows_in rest)) is (next (ap (λ (now : ProofStanding). now.begun) is)))

-- the first row, and a run behind it
first_runs : (s : Setting) (words : TextRow) (rows : List TextRow) → first_reason (first_tests words) ≡ None → Runs s (with_row (proof_standing []) words) rows → Runs s begun_only (words ∷ rows)
first_runs s words rows tests more =
    let says = first_row_says words tests in
    record {
      pieces = more.pieces;
      run = subst (λ (now : ProofStanding). IsRun s now more.pieces) (sym (first_is (proof_standing []) words says)) more.run;
      claims = ap₂ cons_option says.claim more.claims;
      nodes = ap₂ cons_option says.node more.nodes;
      pairs = ap₂ cons_option says.pair more.pairs;
    }

begins_from : (s : Setting) (rest before : List (List ℕ)) → proof_standing (rows_in before) ≡ proof_standing []
    → first_fault_from (proof_rules s) End before rest ≡ None → Runs s begun_only (rows_in rest)
unfolding proof_end_tests proof_line_tests proof_row_tests rows_in
begins_from s [] before none clean =
    let tests = none_each (proof_end_tests (proof_standing (rows_in before))) (last_clean (proof_rules s) End before clean) in
    absurd (let wrong = tests.0 in let no_rows = ap (λ (st : ProofStanding). not st.begun) none in cc)
begins_from s (line ∷ rest) before none clean =
    let fine = line_clean (proof_rules s) End before rest line clean in
    by (length (row_of line) == 0) (subst (λ (st : ProofStanding). first_reason (proof_line_tests s st line) ≡ None) none fine.0)
    (line_push before line ∙ ap (λ st. with_line st line) none)
    (λ more. begins_from s rest (before ++ line ∷ []) more fine.1)
    (λ more. runs_from s rest (before ++ line ∷ []) more fine.1)
  where
    words : TextRow
    words = row_of line

    now : ProofStanding
    now = proof_standing (rows_in (before ++ line ∷ []))

    by : (b : Bool) → first_reason (cond b [] (first_tests words)) ≡ None
        → now ≡ cond b (proof_standing []) (with_row (proof_standing []) words)
        → (now ≡ proof_standing [] → Runs s begun_only (rows_in rest))
        → (now.begun ≡ true → Runs s now (rows_in rest)) → Runs s begun_only (cond b [] (words ∷ []) ++ rows_in rest)
    by true tests is next run = next is
    by false tests is next run = first_runs s words (rows_in rest) tests (subst (λ (st : ProofStanding). Runs s st (rows_in rest)) is (run (ap (λ (st : ProofStanding). st.begun) is)))

no_rows : proof_standing (rows_in []) ≡ proof_standing []
unfolding rows_in
no_rows = refl

pub text_runs : (s : Setting) (text : List ℕ) → IsClean (proof_rules s) (lines_of text) (last_of text) → Runs s begun_only (rows_in (lines_of text))
text_runs s text clean = begins_from s (lines_of text) [] no_rows (text_clean (proof_rules s) text clean).1
