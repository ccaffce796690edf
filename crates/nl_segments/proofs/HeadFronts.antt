-- A head after which nothing is kept, at the front of a piece.
use Rattle.std.proofs.Common.{◌≡◌, ◌∙◌, ℕ, suc, Bool, true, false, List, [], ◌∷◌, length, refl, sym, None}
use Rattle.std.specs.Prelude.{is_some}
use Rattle.std.proofs.lemmas.Bool.{not-false}
use Rattle.text_base.specs.Judged.{first_reason}
use Rattle.text_base.proofs.FirstReasons.{none_each}
use Rattle.nl_model.specs.declared.header_counts.Counts.{Counts}
use Rattle.nl_model.specs.declared.suffix.Suffix.{Suffix as SuffixValue}
use Rattle.nl_model.specs.Draft.{Draft}
use Rattle.nl_lines.specs.declared.head.Head.{Head}
use Rattle.nl_lines.specs.declared.head.Head.TheVariants.{Suffix}
use Rattle.nl_lines.specs.FirstRows.{IsFirstRow}
use Rattle.nl_lines.specs.HeadRows.{IsHeadRow}
use Rattle.nl_lines.specs.Heads.{is_in_range, name_in}
use Rattle.nl_lines.specs.Pieces.{keeps_pairs}
use Rattle.nl_lines.specs.SeenSegments.{Segments}
use Rattle.nl_lines.specs.Tests.{is_suffix}
use Rattle.nl_segments.specs.Held.{Body, HoldsSome}
use Rattle.nl_segments.specs.InsideHeadSteps.{begun_count, begun_draft, begun_name, held_head_tests, with_begun_head}
use Rattle.nl_segments.specs.InsidePieces.{MayBegin, with_given_head}
use Rattle.nl_segments.specs.InsideTermRuns.{TakesLines}
use Rattle.nl_segments.proofs.HeadLaw.{closed_by, form_fine, head_step, marks_there, place_there}
use Rattle.nl_segments.proofs.StandingLemmas.{row_first, still_some}

-- ---- it is of no suffix

no_suffix : (h : Head) → keeps_pairs h ≡ false → is_suffix h ≡ false
no_suffix (Suffix k n) e = absurd cc
no_suffix h e = refl

same_draft : (d : Draft) (h : Head) (name : List ℕ) → keeps_pairs h ≡ false → begun_draft d h name ≡ d
same_draft d (Suffix k n) name e = absurd cc
same_draft d h name e = refl

-- its name does not matter
any_name : (c : Counts) (seen : Segments) (suffixes : List SuffixValue) (count : ℕ) (name : List ℕ) (h : Head) → is_suffix h ≡ false
    → first_reason (held_head_tests c seen suffixes count name h) ≡ first_reason (held_head_tests c seen suffixes count [] h)
any_name c seen suffixes count name h e = rw e refl

some_words : (words : List (List ℕ)) (h : Head) → IsHeadRow words h → (more : ℕ) × (length words ≡ suc more)
some_words [] h r = absurd (let no : false ≡ true = r.is in cc)
some_words (word ∷ words) h r = (length words, refl)

-- ---- it is taken

in_range : (b : Body) (h : Head) → first_reason (held_head_tests b.draft.counts b.seen b.draft.suffixes b.suffixes [] h) ≡ None → is_in_range b.draft.counts h ≡ true
in_range b h e = not-false (is_in_range b.draft.counts h) (none_each (held_head_tests b.draft.counts b.seen b.draft.suffixes b.suffixes [] h) e).0

same_begun : (b : Body) (h : Head) (name : List ℕ) (line : ℕ) → keeps_pairs h ≡ false → with_given_head b h line ≡ with_begun_head b h name line
same_begun b h name line e =
    let other = no_suffix h e in
    let named : begun_name h name ≡ None = rw other refl in
    let counted : begun_count h b.suffixes ≡ b.suffixes = rw other refl in
    λ i. record (with_given_head b h line) { draft = sym (same_draft b.draft h name e) i; name = sym named i; suffixes = sym counted i }

pub head_first : (b : Body) (is_open : Bool) (piece : List ℕ) (number len : ℕ) (h : Head) → IsFirstRow piece len (λ words. IsHeadRow words h) → is_open ≡ is_some b.current → is_open ≡ false
    → first_reason (held_head_tests b.draft.counts b.seen b.draft.suffixes b.suffixes [] h) ≡ None → TakesLines b piece number (record { len = len; lines = 1 }) (with_given_head b h number)
head_first b is_open piece number len h r is closed fine =
    row_first b (with_given_head b h number) piece number len (λ words. IsHeadRow words h) r (λ words row. some_words words h row)
    (λ words row. head_step b (with_given_head b h number) is_open words number h is row.is (row.says b.draft.counts)
    (form_fine b.draft.counts is_open b.seen b.draft.suffixes b.suffixes words h closed (row.form b.draft.counts) (row.says b.draft.counts)
    ∙ any_name b.draft.counts b.seen b.draft.suffixes b.suffixes (name_in words) h (no_suffix h row.given) ∙ fine)
    (same_begun b h (name_in words) number row.given))

pub may_begin : (b : Body) (is_open : Bool) (piece : List ℕ) (number len : ℕ) (h : Head) → IsFirstRow piece len (λ words. IsHeadRow words h) → is_open ≡ is_some b.current → is_open ≡ false
    → first_reason (held_head_tests b.draft.counts b.seen b.draft.suffixes b.suffixes [] h) ≡ None → HoldsSome b → MayBegin b h number
may_begin b is_open piece number len h r is closed fine held =
    let range = in_range b h fine in
    record {
      closed = closed_by b.current (sym is ∙ closed);
      given = r.row.given;
      range = range;
      owner = place_there b h held range;
      seen = marks_there b h held range;
      held = still_some b (with_given_head b h number) piece number (record { len = len; lines = 1 }) (head_first b is_open piece number len h r is closed fine) held;
    }
