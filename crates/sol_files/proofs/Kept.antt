-- What is kept from line to line, so that a value that was read keeps the rules of values.
use Rattle.std.proofs.Common.{◌≡◌, ℕ, ◌+◌, ◌<◌, ◌≤◌, ◌^◌, ℤ, Bool, true, false, cond, List, [], length}
use Rattle.std.specs.Prelude.{IfSome}
use Rattle.std.specs.List.{AllByRecursion, sum_by}
use Rattle.exact_numbers.specs.Numbers.{has_31_bits}
use Rattle.nl_model.specs.Options.{has_second_three}
use Rattle.sol_files.specs.declared.awaited.Awaited.{Awaited}
use Rattle.sol_files.specs.declared.awaited.Awaited.TheVariants.{Message, OptionCount, Options, Variables, PrimalCount, Duals, Primals, Tail, Name, Table, Values}
use Rattle.sol_files.specs.declared.awaited.SuffixHead.{SuffixHead}
use Rattle.sol_files.specs.declared.suffix.SolSuffix.{SolSuffix}
use Rattle.sol_files.specs.Sol.{Sol}
use Rattle.sol_files.specs.Progress.{Progress}
use Rattle.sol_files.specs.Built.{IsEmptyOrFull}
use Rattle.sol_files.specs.InsideHeld.{HasNoValues, HasDualCount, AwaitsDuals, AwaitsPrimals}
use Rattle.sol_files.specs.Written.{IsSaidLine, IsSignedPair, IsWritableSuffix}

pub record Speaks (message : List (List ℕ)) (held : Bool) : Type 0 where
  pub each : AllByRecursion IsSaidLine message
  pub room : length message ≤ 65536
  pub count : length message + cond held 1 0 ≤ 65537

-- so many options more have room
pub record HasOptions (left : ℕ) (options : List ℤ) : Type 0 where
  pub each : AllByRecursion (λ z. has_31_bits z ≡ true) options
  pub second : has_second_three options ≡ false
  pub room : length options + left ≤ 9

pub record HasNoSuffixes (suffixes : List SolSuffix) (c t v : ℕ) : Type 0 where
  pub none : suffixes ≡ []
  pub begun : c ≡ 0
  pub tables : t ≡ 0
  pub values : v ≡ 0

-- so many suffixes and table lines more are counted already
pub record HasSuffixes (heads rows n_var n_con : ℕ) (suffixes : List SolSuffix) (c t v : ℕ) : Type 0 where
  pub each : AllByRecursion (IsWritableSuffix n_var n_con) suffixes
  pub begun : length suffixes + heads ≤ c
  pub begun_room : c ≤ 1024
  pub tables : sum_by (λ x. length x.table) suffixes + rows ≤ t
  pub table_room : t ≤ 65536
  pub values : sum_by (λ x. length x.values) suffixes ≤ v
  pub value_room : v ≤ 2 ^ 22

pub record FitsHead (head : SuffixHead) : Type 0 where
  pub kind : head.kind < 256
  pub name_len : head.name_len < 2 ^ 31
  pub table_len : head.table_len < 2 ^ 31

abbrev pub NoneBegun : Progress → Type 0
NoneBegun s = HasNoSuffixes s.sol.suffixes s.suffix_count s.table_count s.value_count

-- all values are there
pub record AreAllGiven (n_con n_var duals primals : ℕ) : Type 0 where
  pub duals_given : IsEmptyOrFull n_con duals
  pub primals_given : IsEmptyOrFull n_var primals

abbrev pub Given : Sol → Type 0
Given s = AreAllGiven s.n_con s.n_var (length s.duals) (length s.primals)

abbrev pub Late : ℕ → ℕ → Progress → Type 0
Late heads rows s = Given s.sol × HasSuffixes heads rows s.sol.n_var s.sol.n_con s.sol.suffixes s.suffix_count s.table_count s.value_count

unfoldable pub KeptAt : Awaited → Progress → Type 0
KeptAt (Options left) s = (0 < left) × (HasNoValues s.sol × NoneBegun s)
KeptAt Variables s = HasDualCount s × NoneBegun s
KeptAt PrimalCount s = HasDualCount s × NoneBegun s
KeptAt (Duals left) s = AwaitsDuals s left × NoneBegun s
KeptAt (Primals left) s = AwaitsPrimals s left × NoneBegun s
KeptAt Tail s = Late 0 0 s
KeptAt (Name head) s = FitsHead head × Late 1 head.table_lines s
KeptAt (Table tables values) s = (0 < tables) × Late 0 tables s
KeptAt (Values left) s = Late 0 0 s
KeptAt a s = HasNoValues s.sol × NoneBegun s

abbrev pub options_left : Awaited → ℕ
options_left Message = 9
options_left OptionCount = 9
options_left (Options left) = left
options_left a = 0

pub record KeepsAt (a : Awaited) (s : Progress) : Type 0 where
  pub said : Speaks s.sol.message s.is_held_back
  pub options : HasOptions (options_left a) s.sol.options
  pub n_con : s.sol.n_con ≤ 2 ^ 20
  pub n_var : s.sol.n_var ≤ 2 ^ 20
  pub objno : IfSome s.sol.objno IsSignedPair
  pub rest : KeptAt a s

abbrev pub Keeps : Progress → Type 0
Keeps s = KeepsAt s.awaited s
