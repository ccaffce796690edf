-- What a reader of texts holds, and what it stands for.
use Rattle.std.specs.Prelude.{ℕ, List, Option}
use Rattle.text_base.specs.declared.reader.Reader.{Reader}
use Rattle.text_base.specs.declared.stop.Stop.{Stop}
use Rattle.text_base.specs.declared.fault.TextFault.{TextFault}
use Rattle.text_base.specs.Judged.{Rules}
use Rattle.text_base.specs.Reading.{Stands}

-- its grammar, with all that it took
abbrev pub grammar_of : {G R V : Type 0} → Reader G R V → G
grammar_of reader = reader.grammar

-- what it was stopped by
abbrev pub stopped_by : {G R V : Type 0} → Reader G R V → Option (Stop (TextFault R))
stopped_by reader = reader.stopped

-- it was fed this text: it goes on behind its lines, or keeps its first fault; after want of
-- memory nothing is said
abbrev pub HasTaken : {G R V : Type 0} → Rules R → (G → List (List ℕ) → Type 0) → Reader G R V
    → List ℕ → Type 0
HasTaken rules took reader text =
    Stands reader.stopped rules (took reader.grammar) reader.lines text
