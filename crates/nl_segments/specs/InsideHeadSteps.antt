-- What is wrong with a head by what is held, and what a head more does to what is held.
use Rattle.std.specs.Prelude.{ℕ, ◌+◌, ◌==◌, Bool, false, not, ◌&&◌, ◌||◌, nat_le, nat_lt, List, [], ◌∷◌, ◌++◌, length, replicate, Option, Some, None, if◌then◌else◌, codes}
use Rattle.std.specs.Str.{bytes_eq}
use Rattle.nl_model.specs.declared.header_counts.Counts.{Counts}
use Rattle.nl_model.specs.Draft.{Draft}
use Rattle.nl_model.specs.declared.suffix.Suffix.{Suffix}
use Rattle.nl_model.specs.Rules.{has_suffix}
use Rattle.nl_lines.specs.declared.fault.NlReason.TheVariants.{TooLarge, RepeatedSegment, IndexOut, ShortSegment, SosSuffix}
use Rattle.nl_lines.specs.declared.head.Head.{Head}
use Rattle.nl_lines.specs.declared.head.Head.TheVariants.{Suffix as SuffixHead}
use Rattle.nl_lines.specs.Heads.{is_in_range, head_of, name_in}
use Rattle.nl_lines.specs.Pieces.{has_tree, line_count}
use Rattle.nl_lines.specs.Tests.{Tests, is_suffix, head_form_tests}
use Rattle.nl_lines.specs.SeenSegments.{Segments, has_segment, with_segment}
use Rattle.nl_segments.specs.InsidePlaceSteps.{with_begun}
use Rattle.nl_segments.specs.Current.{Current, new_current}
use Rattle.nl_segments.specs.Held.{Body}

-- ---- What is wrong.

-- a suffix of this head and name was given
abbrev pub has_come_suffix : List Suffix → Head → List ℕ → Bool
has_come_suffix suffixes (SuffixHead kind n) name = has_suffix suffixes kind name
has_come_suffix suffixes head name = false

-- a segment of this head, or a suffix of this name, came before
abbrev pub has_come : Segments → List Suffix → Head → List ℕ → Bool
has_come seen suffixes head name =
    if is_suffix head then has_come_suffix suffixes head name else has_segment seen head

-- of a head whose form is right, after so many suffixes
abbrev pub held_head_tests : Counts → Segments → List Suffix → ℕ → List ℕ → Head → Tests
held_head_tests c seen suffixes count name head =
    (not (is_in_range c head), IndexOut)
    ∷ (is_suffix head && bytes_eq name (codes "sosno"), SosSuffix)
    ∷ (has_come seen suffixes head name, RepeatedSegment)
    ∷ (is_suffix head && nat_le 1024 count, TooLarge) ∷ []

abbrev pub formed_tests : Counts → Segments → List Suffix → ℕ → List ℕ → Option Head → Tests
formed_tests c seen suffixes count name None = []
formed_tests c seen suffixes count name (Some head) =
    held_head_tests c seen suffixes count name head

-- of the words of a head, where the last piece may be open
abbrev pub new_head_tests : Counts → Bool → Segments → List Suffix → ℕ → List (List ℕ) → Tests
new_head_tests c is_open seen suffixes count words =
    (is_open, ShortSegment)
    ∷ (head_form_tests c words
    ++ formed_tests c seen suffixes count (name_in words) (head_of c words))

-- ---- What a head does.

-- a piece that awaits no line is complete at once
abbrev pub begun_current : Counts → Head → ℕ → Option Current
begun_current c head line =
    if has_tree head || nat_lt 0 (line_count c head)
    then Some (new_current head line (line_count c head))
    else None

abbrev pub begun_name : Head → List ℕ → Option (List ℕ)
begun_name head name = if is_suffix head then Some name else None

abbrev pub begun_count : Head → ℕ → ℕ
begun_count head count = if is_suffix head then count + 1 else count

-- a suffix without values is there at once
abbrev pub begun_draft : Draft → Head → List ℕ → Draft
begun_draft d (SuffixHead kind n) name =
    if n == 0
    then record d { suffixes = d.suffixes ++ record { kind = kind; name = name; values = [] } ∷ [] }
    else d
begun_draft d head name = d

-- with a head in this line
abbrev pub with_begun_head : Body → Head → List ℕ → ℕ → Body
with_begun_head b head name line =
    record {
      draft = begun_draft b.draft head name;
      current = begun_current b.draft.counts head line;
      name = begun_name head name;
      marks = replicate (length b.marks) false;
      seen = with_segment b.seen head;
      nodes = b.nodes;
      linear = b.linear;
      values = b.values;
      suffixes = begun_count head b.suffixes;
      columns = b.columns;
      uses = b.uses;
      places = with_begun b.places line head;
    }
