-- What the entries of a desk in memory stand for.
use Rattle.std.specs.Prelude.{ℕ, List, [], ◌∷◌, map, string_bytes, zero, suc}
use Rattle.text_base.specs.declared.memory.Entry.{Entry}

abbrev pub entry_pair : Entry → List ℕ × List ℕ
entry_pair e = (string_bytes e.name, e.text.items)

abbrev pub entries : List Entry → List (List ℕ × List ℕ)
entries es = map entry_pair es

-- the text at that place, or nothing past the end
abbrev pub text_at : List (List ℕ × List ℕ) → ℕ → List ℕ
text_at [] i = []
text_at (e ∷ es) zero = e.1
text_at (e ∷ es) (suc i) = text_at es i

-- the texts with another at that place
abbrev pub text_set : List (List ℕ × List ℕ) → ℕ → List ℕ → List (List ℕ × List ℕ)
text_set [] i text = []
text_set (e ∷ es) zero text = (e.0, text) ∷ es
text_set (e ∷ es) (suc i) text = e ∷ text_set es i text
