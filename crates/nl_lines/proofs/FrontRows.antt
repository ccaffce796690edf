-- A line that a text begins with, word by word.
use Rattle.std.proofs.Common.{◌≡◌, ◌∙◌, ℕ, suc, ◌+◌, ◌<◌, ◌≤◌, ◌==◌, take, drop, Bool, true, false, List, [], ◌∷◌, ◌++◌}
use Rattle.std.proofs.Common.{length, refl, sym, ap, ap₂, subst, arith, append_assoc, length-append, length-take}
use Rattle.std.proofs.Common.{take-append-drop, take_all, get_or, Some, Option}
use Rattle.std.proofs.Math.Seq.{drop-append_seam}
use Rattle.std.proofs.lemmas.List.{drop_more}
use Rattle.exact_numbers.specs.Numbers.{whole_of}
use Rattle.text_base.specs.Cut.{HasNoEnd}
use Rattle.text_base.specs.Words.{IsUnmarked, onto_word, row_of, up_to_comment, words_of, without_comment}
use Rattle.text_base.proofs.CommentLemmas.{no_mark}
use Rattle.text_base.proofs.LineLemmas.{EndsFree, last-free, trimmed-free}
use Rattle.text_base.proofs.PairLemmas.{one_line-pair, without_comment-unmarked, words_of-one, no_blank, no_cr}
use Rattle.text_base.proofs.WalkSteps.{no_end-append}
use Rattle.text_base.proofs.WordLemmas.{begins}
use Rattle.nl_lines.specs.FirstRows.{IsFirstRow}
use Rattle.nl_lines.specs.InsideFrontLines.{IsFrontRow, IsLineOf, IsWordBefore}
use Rattle.nl_lines.specs.WholeRows.{IsWholeRow}
use Rattle.text_base.proofs.FrontLemmas.{front_one}

-- ---- a word before a byte

pub word_before : (byte : ℕ) (text : List ℕ) (n : ℕ) (says : List ℕ → Type 0) → n < length text → get_or text n 0 ≡ byte
    → 0 < n → n ≤ 40 → IsUnmarked (take n text) → says (take n text) → IsWordBefore 40 byte text (n + 1) says
word_before byte text n says within is some few unmarked holds =
    let size : length (take n text) ≡ n = omega (arith, within, length-take n text) in
    record {
      word = take n text;
      more = drop (n + 1) text;
      parts = sym (take-append-drop n text) ∙ ap (λ bs. take n text ++ bs) (drop_more text n 0 within ∙ ap (λ b. b ∷ drop (n + 1) text) is);
      size = omega (arith, size);
      some = omega (arith, size, some);
      few = omega (arith, size, few);
      unmarked = unmarked;
      holds = holds;
    }

-- what is left behind it
pub left_is : (most byte : ℕ) (text rest : List ℕ) (len : ℕ) (says : List ℕ → Type 0) (w : IsWordBefore most byte text len says) → rest ≡ drop len text → rest ≡ w.more
left_is most byte text rest len says w is =
    let whole : text ≡ (w.word ++ byte ∷ []) ++ w.more = w.parts ∙ sym (append_assoc w.word (byte ∷ []) w.more) in
    let size : len ≡ length (w.word ++ byte ∷ []) = omega (arith, w.size, length-append w.word (byte ∷ [])) in
    is ∙ ap₂ (λ (k : ℕ) bs. drop k bs) size whole ∙ drop-append_seam (w.word ++ byte ∷ []) w.more

-- a letter in front of it
pub lettered : (most byte letter : ℕ) (rest : List ℕ) (len : ℕ) (says whole_says : List ℕ → Type 0) → 35 < letter
    → IsWordBefore most byte rest len says → ((word : List ℕ) → says word → whole_says (letter ∷ word))
    → IsWordBefore (most + 1) byte (letter ∷ rest) (len + 1) whole_says
lettered most byte letter rest len says whole_says above w then = record {
  word = letter ∷ w.word;
  more = w.more;
  parts = ap (λ bs. letter ∷ bs) w.parts;
  size = omega (arith, w.size);
  some = omega arith;
  few = omega (arith, w.few);
  unmarked = (above, w.unmarked);
  holds = then w.word w.holds;
}

-- ---- the words of lines

-- its last byte
record Ends (line : List ℕ) : Type 0 where
  front : List ℕ
  last : ℕ
  ends : line ≡ front ++ last ∷ []
  no_cr : (last == 13) ≡ false

ends_word : (word : List ℕ) → 0 < length word → IsUnmarked word → Ends word
ends_word [] some all = absurd (omega arith)
ends_word (b ∷ []) some all = record { front = []; last = b; ends = refl; no_cr = no_cr b all.0 }
ends_word (b ∷ c ∷ word) some all =
    let e = ends_word (c ∷ word) (omega arith) all.1 in
    record { front = b ∷ e.front; last = e.last; ends = ap (λ bs. b ∷ bs) e.ends; no_cr = e.no_cr }

no_end : (word : List ℕ) → 0 < length word → IsUnmarked word → HasNoEnd word
no_end word some all = (one_line-pair [] word tt some all).no_end.1

pub line_of_one : (word : List ℕ) → 0 < length word → IsUnmarked word → IsLineOf (word ∷ []) word
line_of_one word some all =
    let e = ends_word word some all in
    record { front = e.front; last = e.last; ends = e.ends; no_cr = e.no_cr; no_end = no_end word some all; whole = without_comment-unmarked word all; words_are = words_of-one word some all }

-- a word more in front
kept : (m : Bool) (b : ℕ) (word line : List ℕ) → 35 < b → IsUnmarked word → without_comment line ≡ line → up_to_comment m ((b ∷ word) ++ 32 ∷ line) ≡ (b ∷ word) ++ 32 ∷ line
kept m b [] line h all is = rw (no_mark m b (λ e. omega (arith, h, e)), no_blank b h) (ap (λ bs. b ∷ 32 ∷ bs) is)
kept m b (c ∷ word) line h all is = rw (no_mark m b (λ e. omega (arith, h, e)), no_blank b h) (ap (λ bs. b ∷ bs) (kept false c word line all.0 all.1 is))

led : (b : ℕ) (word line : List ℕ) → 35 < b → IsUnmarked word → words_of ((b ∷ word) ++ 32 ∷ line) ≡ (b ∷ word) ∷ words_of line
led b [] line h all = rw (no_blank b h) (begins b (words_of line))
led b (c ∷ word) line h all =
    let more = led c word line all.0 all.1 in
    rw (no_blank b h) (ap₂ (λ e ws. onto_word b e ws) (no_blank c all.0) more)

pub line_of_more : (words : List (List ℕ)) (word line : List ℕ) → 0 < length word → IsUnmarked word → IsLineOf words line → IsLineOf (word ∷ words) (word ++ 32 ∷ line)
line_of_more words [] line some all h = absurd (omega arith)
line_of_more words (b ∷ word) line some all h = record {
  front = (b ∷ word) ++ 32 ∷ h.front;
  last = h.last;
  ends = ap (λ bs. (b ∷ word) ++ 32 ∷ bs) h.ends ∙ sym (append_assoc (b ∷ word) (32 ∷ h.front) (h.last ∷ []));
  no_cr = h.no_cr;
  no_end = no_end-append (b ∷ word) (32 ∷ line) (no_end (b ∷ word) some all) (refl, h.no_end);
  whole = kept true b word line all.0 all.1 h.whole;
  words_are = led b word line all.0 all.1 ∙ ap (λ ws. (b ∷ word) ∷ ws) h.words_are;
}

-- ---- the line

pub alone : (most : ℕ) (text : List ℕ) (len : ℕ) (word_says : List ℕ → Type 0) (says : List (List ℕ) → Type 0)
    → most ≤ 41 → IsWordBefore most 10 text len word_says → ((word : List ℕ) → word_says word → says (word ∷ []))
    → IsFrontRow text len says
alone most text len word_says says bound w then = record {
  words = w.word ∷ [];
  line = w.word;
  more = w.more;
  parts = w.parts;
  size = w.size;
  short = omega (arith, w.few, bound);
  is = line_of_one w.word w.some w.unmarked;
  holds = then w.word w.holds;
}

pub in_front : (most : ℕ) (text rest : List ℕ) (n m : ℕ) (word_says : List ℕ → Type 0)
    (rest_says says : List (List ℕ) → Type 0) → most ≤ 41 → IsWordBefore most 32 text n word_says → rest ≡ drop n text
    → IsFrontRow rest m rest_says
    → ((word : List ℕ) (words : List (List ℕ)) → word_says word → rest_says words → says (word ∷ words)) → IsFrontRow text (n + m) says
in_front most text rest n m word_says rest_says says bound w is r then = record {
  words = w.word ∷ r.words;
  line = w.word ++ 32 ∷ r.line;
  more = r.more;
  parts = w.parts ∙ ap (λ bs. w.word ++ 32 ∷ bs) (sym (left_is most 32 text rest n word_says w is) ∙ r.parts) ∙ sym (append_assoc w.word (32 ∷ r.line) (10 ∷ r.more));
  size = omega (arith, w.size, r.size, length-append w.word (32 ∷ r.line));
  short = omega (arith, w.few, bound, r.short, length-append w.word (32 ∷ r.line));
  is = line_of_more r.words w.word r.line w.some w.unmarked r.is;
  holds = then w.word r.words w.holds r.holds;
}

pub first_row : (text : List ℕ) (len : ℕ) (says : List (List ℕ) → Type 0) → ((words : List (List ℕ)) → says words → length words ≤ 12) → IsFrontRow text len says → IsFirstRow text len says
first_row text len says few_of r =
    let few : length r.words ≤ 12 = few_of r.words r.holds in
    let parts : text ≡ (r.line ++ 10 ∷ []) ++ r.more = r.parts ∙ sym (append_assoc r.line (10 ∷ []) r.more) in
    let words : row_of (without_comment r.line) ≡ r.words = ap row_of r.is.whole ∙ ap (take 12) r.is.words_are ∙ take_all 12 r.words few in
    record {
      line = r.line;
      first = front_one text r.line r.more len parts r.size
          (record {
            one = record { no_end = r.is.no_end; no_cr = trimmed-free r.line (subst EndsFree (sym r.is.ends) (last-free r.is.front r.is.last r.is.no_cr)) };
            short = omega (arith, r.short, few);
          });
      row = subst says (sym words) r.holds;
    }

-- ---- lines of one word

pub whole_row : (text : List ℕ) (len n : ℕ) → IsWordBefore 40 10 text len (λ word. whole_of word ≡ Some n) → IsFirstRow text len (λ words. IsWholeRow words n)
whole_row text len n w =
    first_row text len (λ words. IsWholeRow words n) (λ words row. omega (arith, row.one))
    (alone 40 text len (λ word. whole_of word ≡ Some n) (λ words. IsWholeRow words n) (omega arith) w (λ word is. record { one = refl; says = is }))

-- the first two bytes
pub two_first : (text : List ℕ) (first second : ℕ) → 2 ≤ length text → get_or text 0 0 ≡ first → get_or text 1 0 ≡ second → text ≡ first ∷ second ∷ drop 2 text
two_first [] first second some p q = absurd (omega (arith, some))
two_first (a ∷ []) first second some p q = absurd (omega (arith, some))
two_first (a ∷ b ∷ rest) first second some p q = ap₂ (λ x y. x ∷ y ∷ rest) p q

-- a letter and a number
pub letter_row : {V : Type 0} (read : List ℕ → Option V) (v : V) (rest : List ℕ) (len letter : ℕ)
    (says : List (List ℕ) → Type 0) → 35 < letter → ((words : List (List ℕ)) → says words → length words ≤ 12)
    → IsWordBefore 40 10 rest len (λ word. read word ≡ Some v) → ((word : List ℕ) → read word ≡ Some v → says ((letter ∷ word) ∷ [])) → IsFirstRow (letter ∷ rest) (len + 1) says
letter_row read v rest len letter says above few w then =
    first_row (letter ∷ rest) (len + 1) says few
    (alone 41 (letter ∷ rest) (len + 1) (λ word. says (word ∷ [])) says (omega arith)
    (lettered 40 10 letter rest len (λ word. read word ≡ Some v) (λ word. says (word ∷ [])) above w then)
    (λ word holds. holds))

-- one word, which is a number
record IsOneWhole (n : ℕ) (words : List (List ℕ)) : Type 0 where
  word : List ℕ
  is : words ≡ word ∷ []
  says : whole_of word ≡ Some n

-- a letter and two numbers
pub letters_row : (rest left : List ℕ) (n m i k letter : ℕ) (says : List (List ℕ) → Type 0) → 35 < letter
    → ((words : List (List ℕ)) → says words → length words ≤ 12)
    → IsWordBefore 40 32 rest n (λ word. whole_of word ≡ Some i) → left ≡ drop n rest
    → IsWordBefore 40 10 left m (λ word. whole_of word ≡ Some k)
    → ((first second : List ℕ) → whole_of first ≡ Some i → whole_of second ≡ Some k
    → says ((letter ∷ first) ∷ second ∷ [])) → IsFirstRow (letter ∷ rest) (n + m + 1) says
letters_row rest left n m i k letter says above few w is v then =
    let sum : n + 1 + m ≡ n + m + 1 = omega arith in
    let more : left ≡ drop (n + 1) (letter ∷ rest) = is ∙ ap (λ (j : ℕ). drop j (letter ∷ rest)) (let one : suc n ≡ n + 1 = omega arith in one) in
    subst (λ (j : ℕ). IsFirstRow (letter ∷ rest) j says) sum
    (first_row (letter ∷ rest) (n + 1 + m) says few
    (in_front 41 (letter ∷ rest) left (n + 1) m (λ word. (second : List ℕ) → whole_of second ≡ Some k → says (word ∷ second ∷ [])) (IsOneWhole k) says (omega arith)
    (lettered 40 32 letter rest n (λ word. whole_of word ≡ Some i)
    (λ word. (second : List ℕ) → whole_of second ≡ Some k → says (word ∷ second ∷ [])) above w
    (λ word e second f. then word second e f)) more
    (alone 40 left m (λ word. whole_of word ≡ Some k) (IsOneWhole k) (omega arith) v (λ word e. record { word = word; is = refl; says = e }))
    (λ word words holds one. subst (λ ws. says (word ∷ ws)) (sym one.is) (holds one.word one.says))))
