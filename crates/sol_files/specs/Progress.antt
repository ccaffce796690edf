-- What a reader of a .sol text holds: what the lines so far mean for the next one, with how many
-- lines of its kind are left.
use Rattle.std.specs.Prelude.{ℕ, Bool, false, []}
use Rattle.sol_files.specs.declared.awaited.Awaited.{Awaited}
use Rattle.sol_files.specs.declared.awaited.Awaited.TheVariants.{Message, OptionCount, Options, Constraints, DualCount, Variables, PrimalCount, Duals, Primals, Tail, Name, Table, Values}
use Rattle.sol_files.specs.Plan.{LineKind, Message as MessageKind, OptionCount as OptionCountKind, OptionRow, ConstraintCount, DualCount as DualCountKind, VariableCount, PrimalCount as PrimalCountKind, DualRow, PrimalRow, NameLine, TableLine, ValueRow, Tail as TailKind}
use Rattle.sol_files.specs.Sol.{Sol}
use Rattle.sol_files.specs.Standing.{Standing}
use Rattle.sol_files.specs.Built.{empty_sol}

pub record Progress : Type 0 where
  pub awaited : Awaited
  pub is_held_back : Bool
  pub sol : Sol
  pub dual_count : ℕ
  pub primal_count : ℕ
  pub suffix_count : ℕ
  pub table_count : ℕ
  pub value_count : ℕ

abbrev pub kind_of : Awaited → LineKind
kind_of Message = MessageKind
kind_of OptionCount = OptionCountKind
kind_of (Options left) = OptionRow
kind_of Constraints = ConstraintCount
kind_of DualCount = DualCountKind
kind_of Variables = VariableCount
kind_of PrimalCount = PrimalCountKind
kind_of (Duals left) = DualRow
kind_of (Primals left) = PrimalRow
kind_of Tail = TailKind
kind_of (Name head) = NameLine
kind_of (Table tables values) = TableLine
kind_of (Values left) = ValueRow

-- what it means for the next line
abbrev pub seen : Progress → Standing
seen p =
    record {
      awaited = kind_of p.awaited;
      is_held_back = p.is_held_back;
      sol = p.sol;
      suffix_count = p.suffix_count;
      table_count = p.table_count;
      value_count = p.value_count;
    }

-- before any line
abbrev pub start : Progress
start =
    record {
      awaited = Message;
      is_held_back = false;
      sol = empty_sol [] 0 0;
      dual_count = 0;
      primal_count = 0;
      suffix_count = 0;
      table_count = 0;
      value_count = 0;
    }
