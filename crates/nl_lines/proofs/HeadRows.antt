-- A row that is a head after which nothing is kept.
use Rattle.std.proofs.Common.{◌≡◌, ℕ, List, [], ◌∷◌, refl, arith, Some}
use Rattle.exact_numbers.specs.Numbers.{whole_of}
use Rattle.nl_lines.specs.declared.head.Head.TheVariants.{Body, Terms, Slopes}
use Rattle.nl_lines.specs.Heads.{head_of}
use Rattle.nl_lines.specs.HeadRows.{IsHeadRow}
use Rattle.nl_lines.specs.Tests.{head_form_tests}

pub body_row : (word : List ℕ) (i : ℕ) → whole_of word ≡ Some i → IsHeadRow ((67 ∷ word) ∷ []) (Body i)
unfolding head_form_tests head_of
body_row word i e = record { is = refl; form = λ c. rw e refl; says = λ c. rw e refl; few = omega arith; given = refl }

pub terms_row : (first second : List ℕ) (i n : ℕ) → whole_of first ≡ Some i → whole_of second ≡ Some n → IsHeadRow ((74 ∷ first) ∷ second ∷ []) (Terms i n)
unfolding head_form_tests head_of
terms_row first second i n e f = record { is = refl; form = λ c. rw (e, f) refl; says = λ c. rw (e, f) refl; few = omega arith; given = refl }

pub slopes_row : (first second : List ℕ) (i n : ℕ) → whole_of first ≡ Some i → whole_of second ≡ Some n → IsHeadRow ((71 ∷ first) ∷ second ∷ []) (Slopes i n)
unfolding head_form_tests head_of
slopes_row first second i n e f = record { is = refl; form = λ c. rw (e, f) refl; says = λ c. rw (e, f) refl; few = omega arith; given = refl }
