-- The kinds of variables as runs: so many of one kind, one run behind the other.
use Rattle.std.specs.Prelude.{ℕ, ◌-◌, max, nat_lt, List, [], ◌∷◌, if◌then◌else◌}
use Rattle.nl_model.specs.declared.kinds.Run.{Run}
use Rattle.nl_model.specs.declared.header_counts.Counts.{Counts}
use Rattle.linear_program.specs.declared.kind.Kind.{Kind}
use Rattle.linear_program.specs.declared.kind.Kind.TheVariants.{Continuous, Binary, Integer}

-- so many variables of one kind
abbrev pub run_of : ℕ → Kind → Run
run_of n k = record { size = n; kind = k }

-- the runs of a file's variables
abbrev pub runs : Counts → List Run
runs c =
    run_of (c.nlvb - c.nlvbi) Continuous
    ∷ run_of c.nlvbi Integer
    ∷ run_of (c.nlvc - c.nlvb - c.nlvci) Continuous
    ∷ run_of c.nlvci Integer
    ∷ run_of (c.nlvo - c.nlvc - c.nlvoi) Continuous
    ∷ run_of c.nlvoi Integer
    ∷ run_of (c.n_var - max c.nlvc c.nlvo - c.nbv - c.niv) Continuous
    ∷ run_of c.nbv Binary
    ∷ run_of c.niv Integer
    ∷ []

-- the kind at a place
abbrev pub kind_among : List Run → ℕ → Kind
kind_among [] j = Continuous
kind_among (r ∷ rs) j = (if nat_lt j r.size then r.kind else kind_among rs (j - r.size))
