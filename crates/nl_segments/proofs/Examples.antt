-- Examples, by computation.
use Rattle.std.proofs.Common.{◌≡◌, ℕ, List, [], ◌∷◌, ◌++◌, map, refl, Option, Some, None, Bool, true, false, ℤ, pos, negsuc}
use Rattle.std.specs.Prelude.{codes, option_map, is_some}
use Rattle.nl_header.specs.Head.{options_in, counts_in, counts_by}
use Rattle.exact_numbers.specs.Numbers.{whole_of, signed_of, is_dec_text, dec_from, dec_of}
use Rattle.code_tables.specs.Opcodes.{class_of, operands_of}
use Rattle.nl_model.specs.Kinds.{variable_kind}
use Rattle.exact_numbers.specs.Rational.{whole, decimal_value, over}
use Rattle.exact_numbers.specs.LowestLemmas.{gcd_of, steps_of_euclid}
use Rattle.exact_numbers.specs.Values.{exponent_below, decimal_of, fits_dec}
use Rattle.nl_lines.specs.Nodes.{dec_of_signed, node_in, opcode_in, nodes_from, pending_from}
use Rattle.nl_lines.specs.Rows.{rows_from}
use Rattle.nl_lines.specs.Heads.{head_of, is_in_range}
use Rattle.nl_lines.specs.Pieces.{extended, pieces_of, last_piece, awaited_in, pair_in, interval_in}
use Rattle.nl_lines.specs.Saying.{draft_of, place_lines}
use Rattle.nl_lines.specs.Tests.{head_form_tests, head_tests, pair_form_tests, pair_tests, column_tests}
use Rattle.nl_lines.specs.Tests.{interval_form_tests, interval_tests, node_form_tests, node_tests, operand_tests}
use Rattle.nl_lines.specs.Tests.{row_tests, end_tests}
use Rattle.nl_lines.specs.declared.fault.NlReason.TheVariants.{TooLarge, UnknownSegment, RefusedSegment}
use Rattle.nl_lines.specs.declared.fault.NlReason.TheVariants.{RepeatedSegment, BadHead, IndexOut, BadLine, BadNumber}
use Rattle.nl_lines.specs.declared.fault.NlReason.TheVariants.{ShortSegment, ExtraLine, RefusedOpcode, RefusedLeaf}
use Rattle.nl_lines.specs.declared.fault.NlReason.TheVariants.{Complementarity, EmptyInterval, RepeatedIndex, SosSuffix}
use Rattle.nl_lines.specs.declared.fault.NlReason.TheVariants.{Missing, NonzeroCount, ColumnCount}
use Rattle.nl_lines.specs.declared.fault.NlReason.{NlReason}
use Rattle.nl_model.specs.File.{Term}
use Rattle.nl_model.specs.Trees.{Tree, number, variable, operator, more, none}
use Rattle.code_tables.specs.declared.class.OpClass.TheVariants.{Sum}
use Rattle.nl_segments.specs.Grammar.{Standing, counts_of, said, standing, line_refusal, end_refusal}

head_lines : List (List ℕ)
head_lines =
    codes "g3 1 1 0" ∷ codes " 2 1 1 0 0 # sizes" ∷ codes " 0 0" ∷ codes " 0 0" ∷ codes " 0 0 0" ∷ codes " 0 0 0 1" ∷ codes " 0 0 0 0 0" ∷ codes " 2 2" ∷ codes " 0 0" ∷ codes " 0 0 0 0 0" ∷ []

body_lines : List (List ℕ)
body_lines =
    codes "C0" ∷ codes "n0" ∷ codes "O0 0" ∷ codes "o0" ∷ codes "n1" ∷ codes "v0" ∷ codes "r" ∷ codes "1 5.5"
    ∷ codes "b" ∷ codes "2 0" ∷ codes "3" ∷ codes "k1" ∷ codes "1" ∷ codes "J0 2" ∷ codes "0 1" ∷ codes "1 2.5" ∷ []

next : List (List ℕ) → List ℕ → Option NlReason
next before line = line_refusal (standing (head_lines ++ before)) line

-- after the header and the lines of each group, each of its other lines is judged so
abbrev AreJudged : List (List (List ℕ) × List (List ℕ × Option NlReason)) → Type 0
AreJudged groups = map (λ g. map (λ c. next g.0 c.0) g.1) groups ≡ map (λ g. map (λ c. c.1) g.1) groups

abbrev given : List (List ℕ) → List (List ℕ × Option NlReason) → List (List ℕ) × List (List ℕ × Option NlReason)
given lines cases = (lines, cases)

lines_judged : AreJudged (
    given [] (
    (codes "n0", Some ExtraLine) ∷ (codes "C1", Some IndexOut) ∷ (codes "C", Some BadHead) ∷
    (codes "C0 1", Some BadHead) ∷ (codes "Z0", Some UnknownSegment) ∷
    (codes "F0 1", Some RefusedSegment) ∷ (codes "r1", Some BadHead) ∷
    (codes "b 0", Some BadHead) ∷ (codes "k2", Some BadHead) ∷ (codes "k1", None) ∷
    (codes "C2147483648", Some BadHead) ∷ (codes "S0 1 sosno", Some SosSuffix) ∷
    (codes "S256 1 a", Some BadHead) ∷ (codes "V2 0 0", Some IndexOut) ∷ (codes "C0", None) ∷
    (codes "r", None) ∷ (codes "b", None) ∷ (codes "O00 01", None) ∷ (codes "O0 2", Some BadHead) ∷
    (codes "O1 0", Some IndexOut) ∷ (codes "S0 1", Some BadHead) ∷ (codes "d1", None) ∷
    (codes "J1 1", Some IndexOut) ∷ []) ∷
    given (codes "C0" ∷ []) (
    (codes "C0", Some ShortSegment) ∷ (codes "n", Some BadNumber) ∷ (codes "nx", Some BadNumber) ∷
    (codes "n1 2", Some BadLine) ∷ (codes "h3", Some RefusedLeaf) ∷
    (codes "f1 2", Some RefusedLeaf) ∷ (codes "v2", Some IndexOut) ∷ (codes "v1x", Some BadLine) ∷
    (codes "v9999999999", Some IndexOut) ∷ (codes "o4", Some (RefusedOpcode 4)) ∷
    (codes "o9999999999", Some BadNumber) ∷ (codes "o54", None) ∷
    (codes "s3", None) ∷ (codes "l-3", None) ∷ (codes "s1.5", Some BadNumber) ∷
    (codes "z", Some ShortSegment) ∷ (codes "4", Some BadLine) ∷ (codes "v0", None) ∷
    (codes "o0", None) ∷ []) ∷
    given (codes "C0" ∷ codes "o54" ∷ []) (
    (codes "C1", Some ShortSegment) ∷ (codes "n5", Some BadLine) ∷ (codes "0", Some BadNumber) ∷
    (codes "4194305", Some TooLarge) ∷ (codes "99999999999", Some TooLarge) ∷ (codes "2", None) ∷ []) ∷
    given (codes "C0" ∷ codes "n0" ∷ []) (
    (codes "n0", Some ExtraLine) ∷ (codes "C0", Some RepeatedSegment) ∷ (codes "r", None) ∷
    (codes "h1", Some ExtraLine) ∷ []) ∷
    given (codes "r" ∷ []) (
    (codes "5 1 0", Some Complementarity) ∷ (codes "5", Some Complementarity) ∷
    (codes "00 1 2", Some BadLine) ∷ (codes "0 2 1", Some EmptyInterval) ∷
    (codes "0 1", Some BadLine) ∷ (codes "1 x", Some BadNumber) ∷ (codes "3", None) ∷
    (codes "4 1", None) ∷ (codes "h", Some BadLine) ∷ []) ∷
    given (codes "b" ∷ []) (
    (codes "5 1 0", Some BadLine) ∷ (codes "3", None) ∷ []) ∷
    given (codes "J0 2" ∷ []) (
    (codes "0", Some BadLine) ∷ (codes "2 1", Some IndexOut) ∷
    (codes "99999999999 1", Some IndexOut) ∷ (codes "0 x", Some BadNumber) ∷ (codes "0 1", None) ∷ []) ∷
    given (codes "x2" ∷ codes "0 1" ∷ []) (
    (codes "0 2", Some RepeatedIndex) ∷ (codes "1 2", None) ∷ []) ∷
    given (codes "J0 2" ∷ codes "0 1" ∷ []) (
    (codes "0 2", None) ∷ []) ∷
    given (codes "S0 1 a" ∷ []) (
    (codes "0 1.5", Some BadNumber) ∷ (codes "0 1", None) ∷ []) ∷
    given (codes "S4 1 a" ∷ []) (
    (codes "0 1.5", None) ∷ []) ∷
    given (codes "S0 0 a" ∷ []) (
    (codes "S4 0 a", Some RepeatedSegment) ∷ (codes "S1 0 a", None) ∷ (codes "S0 0 b", None) ∷ []) ∷
    given (codes "k1" ∷ []) (
    (codes "n5", Some BadLine) ∷ (codes "2147483648", Some BadNumber) ∷ (codes "7", None) ∷ []) ∷ [])
unfolding head_lines next rows_from standing line_refusal end_refusal row_tests head_tests head_form_tests head_of
    whole_of signed_of counts_in counts_by pieces_of extended last_piece awaited_in is_in_range draft_of options_in
    nodes_from pending_from node_in opcode_in operands_of dec_of dec_of_signed is_dec_text dec_from decimal_of fits_dec
    exponent_below decimal_value over gcd_of steps_of_euclid pair_in interval_in pair_form_tests pair_tests column_tests
    interval_form_tests interval_tests node_form_tests node_tests operand_tests end_tests variable_kind whole
lines_judged = refl

-- after the header and these lines the end is judged so
abbrev AreEnded : List (List (List ℕ) × Option NlReason) → Type 0
AreEnded cases = map (λ c. end_refusal (standing (head_lines ++ c.0))) cases ≡ map (λ c. c.1) cases

ends_judged : AreEnded (
    (body_lines, None) ∷
    (codes "C0" ∷ codes "n0" ∷ [], Some Missing) ∷
    (codes "C0" ∷ [], Some ShortSegment) ∷
    (codes "O0 0" ∷ codes "n1" ∷ codes "r" ∷ codes "3" ∷ codes "b" ∷ codes "3" ∷ codes "3" ∷ [], Some NonzeroCount) ∷
    (codes "O0 0" ∷ codes "n1" ∷ codes "r" ∷ codes "3" ∷ codes "b" ∷ codes "3" ∷ codes "3" ∷ codes "J0 2" ∷ codes "0 1" ∷ codes "1 1" ∷ codes "k1" ∷ codes "2" ∷ [], Some ColumnCount) ∷ [])
unfolding head_lines body_lines next rows_from standing line_refusal end_refusal row_tests head_tests head_form_tests
    head_of whole_of signed_of counts_in counts_by pieces_of extended last_piece awaited_in is_in_range draft_of
    options_in nodes_from pending_from node_in opcode_in operands_of dec_of dec_of_signed is_dec_text dec_from decimal_of
    fits_dec exponent_below decimal_value over gcd_of steps_of_euclid pair_in interval_in pair_form_tests pair_tests
    column_tests interval_form_tests interval_tests node_form_tests node_tests operand_tests end_tests variable_kind whole
ends_judged = refl

-- ---- what a text says

abbrev shown : List Term → List (ℕ × ℤ × ℤ)
shown ts = map (λ t. (t.0, t.1.m, t.1.e)) ts

-- what the text of these lines says
told : Standing
told = standing (head_lines ++ body_lines)

record IsSaid : Type 0 where
  terms : map shown (said told).terms ≡ ((0, pos 1, pos 0) ∷ (1, pos 25, negsuc 0) ∷ []) ∷ []
  bodies : (said told).bodies ≡ Some (number (pos 0) (pos 0)) ∷ []
  objectives : map (option_map {U = Bool × Tree} (λ o. (o.maximise, o.tree))) (said told).objectives ≡ Some (false, operator Sum (more (number (pos 1) (pos 0)) (more (variable 0) none))) ∷ []
  bounds : map {B = Bool × Bool} (λ i. (is_some i.lo, is_some i.hi)) (said told).bounds ≡ (true, false) ∷ (false, false) ∷ []
  places : place_lines (counts_of told) told.pieces
      ≡ record {
        definitions = [];
        constraints = record { head = Some 11; nodes = 12 ∷ []; terms = 25 ∷ 26 ∷ [] } ∷ [];
        objectives = record { head = Some 13; nodes = 14 ∷ 15 ∷ 16 ∷ []; terms = [] } ∷ [];
      }

all_said : IsSaid
unfolding told head_lines body_lines next rows_from standing line_refusal end_refusal row_tests head_tests
    head_form_tests head_of whole_of signed_of counts_in counts_by pieces_of extended last_piece awaited_in is_in_range
    draft_of options_in nodes_from pending_from node_in opcode_in operands_of dec_of dec_of_signed is_dec_text dec_from
    decimal_of fits_dec exponent_below decimal_value over gcd_of steps_of_euclid pair_in interval_in pair_form_tests
    pair_tests column_tests interval_form_tests interval_tests node_form_tests node_tests operand_tests end_tests
    variable_kind whole place_lines class_of
all_said = record { terms = refl; bodies = refl; objectives = refl; bounds = refl; places = refl }
