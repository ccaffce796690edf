-- The kinds of variables, by the groups in which they stand (Gay 2005, "Writing .nl Files", order
-- of variables).
use Rattle.std.specs.Prelude.{ℕ, ◌-◌, max, List, ◌++◌, get_or, replicate}
use Rattle.linear_program.specs.Elements.{elements_from}
use Rattle.nl_model.specs.File.{File}
use Rattle.nl_model.specs.declared.header_counts.Counts.{Counts}
use Rattle.linear_program.specs.declared.kind.Kind.{Kind}
use Rattle.linear_program.specs.declared.kind.Kind.TheVariants.{Continuous, Binary, Integer}

-- so many variables, of which the last ones are whole
abbrev pub group : ℕ → ℕ → List Kind
group size whole = replicate (size - whole) Continuous ++ replicate whole Integer

-- Nonlinear in constraints and objectives, in constraints only, in objectives only; then linear,
-- binary, integer. `nlvc`, `nlvo`, `nlvb` count the variables that are nonlinear in constraints, in
-- objectives, in both, and with a last `i` the whole ones among them, `nlvci` and `nlvoi` those in
-- constraints alone and in objectives alone; `nbv` and `niv` are linear. `nlvo - nlvc` stops at 0
-- where no variable is nonlinear in objectives alone: that group is empty.
abbrev pub groups : Counts → List Kind
groups c =
    group c.nlvb c.nlvbi
    ++ group (c.nlvc - c.nlvb) c.nlvci
    ++ group (c.nlvo - c.nlvc) c.nlvoi
    ++ replicate (c.n_var - max c.nlvc c.nlvo - c.nbv - c.niv) Continuous
    ++ replicate c.nbv Binary
    ++ replicate c.niv Integer

-- the kind of variable j; nothing asks for one past the last
unfoldable pub variable_kind : Counts → ℕ → Kind
variable_kind c j = get_or (groups c) j Continuous

-- the kinds of a file's variables, in order
abbrev pub kinds_in : File → List Kind
kinds_in f = elements_from (variable_kind f.counts) 0 f.counts.n_var
