use Rattle.std.proofs.Common.{◌≡◌, ◌∙◌, sym, ap, ap₂, arith, ◌++◌, get_or}
use Rattle.std.proofs.lemmas.List.{get_or_default}
use Rattle.linear_program.specs.declared.kind.Kind.TheVariants.{Continuous}
use Rattle.mps_import.specs.InsideKinds.{is_kind}
use Rattle.mps_program.proofs.PlaceLemmas.{one_where, places_more}
use Rattle.mps_import.proofs.places.places_of.Goals as goal

pub kinds-preserved : goal.kinds-preserved
kinds-preserved c =
    let test : c.is_kind.result ≡ is_kind c.args.kind (get_or c.args.kinds.now c.kinds.j Continuous) =
    c.is_kind.ensures ∙ ap (is_kind c.args.kind) (get_or_default c.args.kinds.now c.kinds.j _ Continuous
    (omega arith)) in
    c.in_ok-add_where.ensures ∙ ap₂ (λ xs b. xs ++ one_where b c.kinds.j) c.kinds.invariant test ∙ sym (places_more (λ j. is_kind c.args.kind (get_or c.args.kinds.now j Continuous)) c.kinds.j)
