-- Names of one prefix and numbers one after the other, as codes.
use Rattle.std.specs.Prelude.{◌≡◌, ℕ, ◌+◌, ◌<◌, ◌≤◌, List, length, get_or, fold}
use Rattle.std.specs.Fmt.{decimal}
use Rattle.mps_words.specs.InsideCodes.{NoneOrLong, with_byte}
use Rattle.mps_words.specs.declared.runs.Run.{Run}

-- the code of a prefix, with the digits of a number behind it
abbrev pub numbered : ℕ → ℕ → ℕ
numbered prefix number = fold with_byte prefix (decimal number)

-- from the run's start these codes are its prefix with one number after the other
pub record IsRun (run : Run) (codes : List ℕ) : Type 0 where
  pub within : run.start + run.count ≤ length codes
  pub each : (i : ℕ) → i < run.count
      → get_or codes (run.start + i) 0 ≡ numbered run.prefix (run.first + i)

-- none of the codes behind the short ones, or first that of a long name; and a run of all
pub record AreKept (run : Run) (behind codes : List ℕ) : Type 0 where
  pub long_first : NoneOrLong behind
  pub numbers : IsRun run codes
