-- A line of one word, or of two with a space between them, whose bytes stand above `#`.
use Rattle.std.proofs.Common.{◌≡◌, ◌∙◌, ℕ, ◌+◌, ◌-◌, ◌<◌, ◌==◌, ◌&&◌, Bool, true, false, List, [], ◌∷◌, ◌++◌, length, refl, sym, ap, ap₂, subst, arith, append_assoc, append-nil}
use Rattle.std.proofs.lemmas.Bool.Decides.{nat_tests}
use Rattle.text_base.proofs.CommentLemmas.{no_mark}
use Rattle.text_base.proofs.LineLemmas.{EndsFree, last-free, trimmed-free}
use Rattle.text_base.proofs.WalkSteps.{no_end-append}
use Rattle.text_base.proofs.WordLemmas.{begins}
use Rattle.text_base.specs.Cut.{HasNoEnd, IsOneLine}
use Rattle.text_base.specs.Words.{is_blank, onto_word, ends_word, words_of, up_to_comment, without_comment, IsUnmarked}

pub no_blank : (b : ℕ) → 35 < b → is_blank b ≡ false
no_blank b h = grind (arith, nat_tests)

unmarked : (m : Bool) (b : ℕ) → 35 < b → (m && (b == 35)) ≡ false
unmarked m b h = no_mark m b (λ e. omega (arith, h, e))

-- ---- comments

-- a word in front is kept, and after it no comment begins without a blank
after_word : (m : Bool) (b : ℕ) (word rest : List ℕ) → 35 < b → IsUnmarked word → up_to_comment m ((b ∷ word) ++ rest) ≡ (b ∷ word) ++ up_to_comment false rest
after_word m b [] rest h all = rw (unmarked m b h, no_blank b h) refl
after_word m b (c ∷ word) rest h all = rw (unmarked m b h, no_blank b h) (ap (λ bs. b ∷ bs) (after_word false c word rest all.0 all.1))

pub without_comment-unmarked : (word : List ℕ) → IsUnmarked word → without_comment word ≡ word
without_comment-unmarked [] all = refl
without_comment-unmarked (b ∷ word) all =
    ap without_comment (sym (append-nil (b ∷ word))) ∙ after_word true b word [] all.0 all.1 ∙ append-nil (b ∷ word)

pub without_comment-pair : (index word : List ℕ) → IsUnmarked index → IsUnmarked word → without_comment (index ++ 32 ∷ word) ≡ index ++ 32 ∷ word
without_comment-pair [] word i w = ap (λ bs. 32 ∷ bs) (without_comment-unmarked word w)
without_comment-pair (b ∷ index) word i w =
    after_word true b index (32 ∷ word) i.0 i.1 ∙ ap (λ bs. (b ∷ index) ++ 32 ∷ bs) (without_comment-unmarked word w)

-- ---- words

-- a word in front of a blank, or of nothing
first_word : (b : ℕ) (word rest : List ℕ) → 35 < b → IsUnmarked word → ends_word rest ≡ true → words_of ((b ∷ word) ++ rest) ≡ (b ∷ word) ∷ words_of rest
first_word b [] rest h all ends = rw (no_blank b h, ends) (begins b (words_of rest))
first_word b (c ∷ word) rest h all ends =
    let more : words_of ((c ∷ word) ++ rest) ≡ (c ∷ word) ∷ words_of rest = first_word c word rest all.0 all.1 ends in
    rw (no_blank b h) (ap₂ (λ e ws. onto_word b e ws) (no_blank c all.0) more)

pub words_of-one : (word : List ℕ) → 0 < length word → IsUnmarked word → words_of word ≡ word ∷ []
words_of-one [] some all = absurd (omega arith)
words_of-one (b ∷ word) some all = ap words_of (sym (append-nil (b ∷ word))) ∙ first_word b word [] all.0 all.1 refl

pub words_of-pair : (index word : List ℕ) → 0 < length index → IsUnmarked index → 0 < length word → IsUnmarked word → words_of (index ++ 32 ∷ word) ≡ index ∷ word ∷ []
words_of-pair [] word first i some w = absurd (omega arith)
words_of-pair (b ∷ index) word first i some w =
    first_word b index (32 ∷ word) i.0 i.1 refl ∙ ap (λ ws. (b ∷ index) ∷ ws) (words_of-one word some w)

-- ---- lines

-- ---- such a line is one line

no_lf : (b : ℕ) → 35 < b → (b == 10) ≡ false
no_lf b h = grind (arith, nat_tests)

pub no_cr : (b : ℕ) → 35 < b → (b == 13) ≡ false
no_cr b h = grind (arith, nat_tests)

no_end-unmarked : (word : List ℕ) → IsUnmarked word → HasNoEnd word
no_end-unmarked [] all = tt
no_end-unmarked (b ∷ word) all = (no_lf b all.0, no_end-unmarked word all.1)

unmarked-free : (front word : List ℕ) → 0 < length word → IsUnmarked word → EndsFree (front ++ word)
unmarked-free front [] some all = absurd (omega arith)
unmarked-free front (b ∷ []) some all = last-free front b (no_cr b all.0)
unmarked-free front (b ∷ c ∷ word) some all = subst EndsFree (append_assoc front (b ∷ []) (c ∷ word)) (unmarked-free (front ++ b ∷ []) (c ∷ word) (omega arith) all.1)

pub one_line-pair : (index word : List ℕ) → IsUnmarked index → 0 < length word → IsUnmarked word → IsOneLine (index ++ 32 ∷ word)
one_line-pair index word i some w = record {
  no_end = no_end-append index (32 ∷ word) (no_end-unmarked index i) (refl, no_end-unmarked word w);
  no_cr = trimmed-free (index ++ 32 ∷ word) (subst EndsFree (append_assoc index (32 ∷ []) word) (unmarked-free (index ++ 32 ∷ []) word some w));
}
