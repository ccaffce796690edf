-- When the options and the counts are those of a header (Gay 2005, "Writing .nl Files"; the limits
-- are this project's own).
use Rattle.std.specs.Prelude.{ℕ, ◌+◌, ◌-◌, ◌^◌, ◌≤◌, max, nat_le, nat_lt, ◌==◌, ℤ, Bool, not, ◌&&◌, List, [], ◌∷◌, length}
use Rattle.std.specs.List.{list_all}
use Rattle.nl_model.specs.Options.{has_second_three}
use Rattle.nl_model.specs.declared.header_counts.Counts.{Counts}

-- at most four options, the second of which is not 3
abbrev pub are_options : List ℤ → Bool
are_options os = nat_le (length os) 4 && not (has_second_three os)

-- the numbers of lines 2 to 10
abbrev pub numbers_of : Counts → List ℕ
numbers_of c =
    c.n_var ∷ c.n_con ∷ c.n_obj ∷ c.n_ranges ∷ c.n_eqns ∷ c.n_lcon
    ∷ c.nlc ∷ c.nlo
    ∷ c.nlnc ∷ c.lnc
    ∷ c.nlvc ∷ c.nlvo ∷ c.nlvb
    ∷ c.nwv ∷ c.nfunc ∷ c.arith ∷ c.flags
    ∷ c.nbv ∷ c.niv ∷ c.nlvbi ∷ c.nlvci ∷ c.nlvoi
    ∷ c.nzc ∷ c.nzo
    ∷ c.row_name_len ∷ c.col_name_len
    ∷ c.comb ∷ c.comc ∷ c.como ∷ c.comc1 ∷ c.como1
    ∷ []

-- whole numbers of header lines are below 2 ^ 31
abbrev pub are_numbers : Counts → Bool
are_numbers c = list_all (λ n. nat_lt n (2 ^ 31)) (numbers_of c)

-- no logical constraints, no networks and no functions
abbrev pub has_no_refused : Counts → Bool
has_no_refused c =
    (c.n_lcon == 0) && (c.nlnc == 0) && (c.lnc == 0) && (c.nwv == 0) && (c.nfunc == 0)

abbrev pub are_sizes_within : Counts → Bool
are_sizes_within c = nat_le c.n_var (2 ^ 20) && nat_le c.n_con (2 ^ 20) && nat_le c.n_obj 256
    && nat_le c.nzc (2 ^ 22)

-- variables that are nonlinear in constraints and in objectives are so in each
abbrev pub are_shared_within : Counts → Bool
are_shared_within c = nat_le c.nlvb c.nlvc && nat_le c.nlvb c.nlvo

-- each group has at least its whole variables, and the groups have at most all variables
abbrev pub are_whole_within : Counts → Bool
are_whole_within c =
    nat_le c.nlvbi c.nlvb && nat_le c.nlvci (c.nlvc - c.nlvb) && nat_le c.nlvoi (c.nlvo - c.nlvc)
    && nat_le (max c.nlvc c.nlvo + c.nbv + c.niv) c.n_var

-- the number of defined variables
abbrev pub defined_count : Counts → ℕ
defined_count c = c.comb + c.comc + c.como + c.comc1 + c.como1

abbrev pub are_definitions_within : Counts → Bool
are_definitions_within c = nat_le (defined_count c) (2 ^ 20)

-- whether the counts keep the rules
abbrev pub are_counts : Counts → Bool
are_counts c = are_numbers c && has_no_refused c && are_sizes_within c && are_shared_within c
    && are_whole_within c && are_definitions_within c

unfoldable pub is_header : List ℤ → Counts → Bool
is_header os c = are_options os && are_counts c

-- what the rules say of counts, as facts
pub record AreCounts (c : Counts) : Type 0 where
  pub variables : c.n_var ≤ 2 ^ 20
  pub constraints : c.n_con ≤ 2 ^ 20
  pub objectives : c.n_obj ≤ 256
  pub terms : c.nzc ≤ 2 ^ 22
  pub shared_in_constraints : c.nlvb ≤ c.nlvc
  pub shared_in_objectives : c.nlvb ≤ c.nlvo
  pub whole_shared : c.nlvbi ≤ c.nlvb
  pub whole_in_constraints : c.nlvci ≤ c.nlvc - c.nlvb
  pub whole_in_objectives : c.nlvoi ≤ c.nlvo - c.nlvc
  pub grouped : max c.nlvc c.nlvo + c.nbv + c.niv ≤ c.n_var
  pub defined : defined_count c ≤ 2 ^ 20
