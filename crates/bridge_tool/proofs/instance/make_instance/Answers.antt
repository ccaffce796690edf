use Rattle.std.proofs.Common.{◌∙◌, ap₂, sym, subst}
use Rattle.nl_model.specs.Draft.{Draft}
use Rattle.bridge_tool.specs.InsideMaking.{CanAddRow, with_row}
use Rattle.bridge_tool.specs.declared.draws.Row.{Row}
use Rattle.bridge_tool.proofs.Drafting.{added, begun, can_add, full}
use Rattle.bridge_tool.proofs.instance.make_instance.Goals as goal

pub loop-k-init : goal.loop-k-init
loop-k-init c =
    let b = begun c.args.seed c.args.size _ _ _ _ _ c.header_of.ensures.options c.header_of.ensures.counts c.in_ok-builder.ensures c.in_ok-zero.ensures c.objective.ensures in
    record { draft = b.draft; state = b.state }

pub put_row-requires : goal.put_row-requires
put_row-requires c =
    subst (λ d. CanAddRow d c.args.size c.loop-k.k) (sym c.loop-k.invariant.draft) (can_add c.args.seed c.args.size c.loop-k.k c.loop-k-test.true c.requires)

pub loop-k-preserved : goal.loop-k-preserved
loop-k-preserved c =
    let row = c.row-row.ensures.row c.args.seed c.loop-k.k c.loop-k.invariant.state in
    record {
      draft = c.in_ok-put_row.ensures ∙ ap₂ (λ (d : Draft) (r : Row). with_row d c.args.size c.loop-k.k r) c.loop-k.invariant.draft row ∙ added c.args.seed c.args.size c.loop-k.k c.loop-k-test.true;
      state = c.row-row.ensures.state c.args.seed c.loop-k.k c.loop-k.invariant.state;
    }

pub finish-requires-clause-objectives : goal.finish-requires-clause-objectives
finish-requires-clause-objectives c = (full c.args.seed c.args.size c.loop-k.k _ c.loop-k.invariant.draft c.loop-k-test.false c.loop-k.auto.k-end).objectives

pub finish-requires-clause-sides : goal.finish-requires-clause-sides
finish-requires-clause-sides c = (full c.args.seed c.args.size c.loop-k.k _ c.loop-k.invariant.draft c.loop-k-test.false c.loop-k.auto.k-end).sides

pub finish-requires-clause-bounds : goal.finish-requires-clause-bounds
finish-requires-clause-bounds c = (full c.args.seed c.args.size c.loop-k.k _ c.loop-k.invariant.draft c.loop-k-test.false c.loop-k.auto.k-end).bounds

pub finish-requires-clause-terms : goal.finish-requires-clause-terms
finish-requires-clause-terms c = (full c.args.seed c.args.size c.loop-k.k _ c.loop-k.invariant.draft c.loop-k-test.false c.loop-k.auto.k-end).terms

pub returns : goal.returns
returns c = c.finish.ensures ∙ (full c.args.seed c.args.size c.loop-k.k _ c.loop-k.invariant.draft c.loop-k-test.false c.loop-k.auto.k-end).file
