-- What is said of a text that is no number that can be held.
use Rattle.std.specs.Prelude.{ℕ, List, codes}
use Rattle.exact_numbers.specs.declared.read.NumFault.{NumFault}
use Rattle.exact_numbers.specs.declared.read.NumFault.TheVariants.{NotNumber, TooWide}

-- the words of each fault
abbrev pub number_fault_text : NumFault → List ℕ
number_fault_text NotNumber = codes "bad number"
number_fault_text TooWide = codes "too wide"
