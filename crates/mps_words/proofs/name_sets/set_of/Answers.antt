use Rattle.std.proofs.Common.{◌∙◌, ap, ap₂, arith, List, ℕ}
use Rattle.text_base.specs.Names.{place_of}
use Rattle.mps_words.specs.InsideCodes.{name_of}
use Rattle.mps_words.proofs.CodeLemmas.{new_behind}
use Rattle.mps_words.proofs.name_sets.set_of.Goals as goal

pub insert_new-requires-clause-new : goal.insert_new-requires-clause-new
insert_new-requires-clause-new c =
    ap₂ (λ (names : List (List ℕ)) (name : List ℕ). place_of names name) c.codes.invariant.names (c.in_ok-name_of.ensures ∙ ap name_of c.code_at.ensures)
    ∙ new_behind c.args.codes.now c.codes.place c.requires (omega arith)
