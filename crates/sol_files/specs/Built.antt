-- What a builder and a value of a .sol file hold.
use Rattle.std.specs.Prelude.{◌≡◌, ◌⊎◌, ℕ, ℤ, List, [], ◌∷◌, ◌++◌, length, None, false}
use Rattle.exact_numbers.specs.declared.dec.Dec.{Dec}
use Rattle.text_base.specs.Cut.{IsOneLine}
use Rattle.sol_files.specs.declared.suffix.SolSuffix.{SolSuffix}
use Rattle.sol_files.specs.Sol.{Sol}
use Rattle.sol_files.specs.Parts.{is_options}

-- ---- lines

-- one line that is not `Options`
pub record IsMessageLine (line : List ℕ) : Type 0 where
  pub one : IsOneLine line
  pub other : is_options line ≡ false

-- ---- values

-- nothing is given, or all
abbrev pub IsEmptyOrFull : ℕ → ℕ → Type 0
IsEmptyOrFull full given = (given ≡ 0) ⊎ (given ≡ full)

pub record AreGiven (s : Sol) : Type 0 where
  pub duals : IsEmptyOrFull s.n_con (length s.duals)
  pub primals : IsEmptyOrFull s.n_var (length s.primals)

-- ---- parts

-- options and numbers alone
abbrev pub empty_sol : List ℤ → ℕ → ℕ → Sol
empty_sol options n_con n_var =
    record {
      message = [];
      options = options;
      n_con = n_con;
      duals = [];
      n_var = n_var;
      primals = [];
      objno = None;
      suffixes = [];
    }

abbrev pub with_message : Sol → List ℕ → Sol
with_message s line = record s { message = s.message ++ line ∷ [] }

abbrev pub with_dual : Sol → Dec → Sol
with_dual s value = record s { duals = s.duals ++ value ∷ [] }

abbrev pub with_primal : Sol → Dec → Sol
with_primal s value = record s { primals = s.primals ++ value ∷ [] }

abbrev pub with_suffix : Sol → SolSuffix → Sol
with_suffix s suffix = record s { suffixes = s.suffixes ++ suffix ∷ [] }

-- with a table line, or a value, more in the last suffix
abbrev pub with_table_line : List ℕ → SolSuffix → SolSuffix
with_table_line line s = record s { table = s.table ++ line ∷ [] }

abbrev pub with_value : ℕ × Dec → SolSuffix → SolSuffix
with_value pair s = record s { values = s.values ++ pair ∷ [] }
