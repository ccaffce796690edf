use Rattle.std.proofs.Common.{refl}
use Rattle.nl_segments.proofs.LineFronts.{binary_at}
use Rattle.nl_segments.proofs.binaries.Binaries.of.Goals as goal

pub returns : goal.returns
returns c =
    binary_at c.args.counts.now _ _
    (rw (
      c.saturating_sub-shared.ensures,
      c.saturating_sub-rows.ensures,
      c.saturating_sub.ensures,
      c.saturating_sub-objectives.ensures,
      c.saturating_sub-2.ensures,
      c.saturating_sub-4.ensures,
      c.saturating_sub-linear.ensures,
      c.saturating_sub-3.ensures,
      c.max-nonlinear.ensures,
    ) refl)
    refl
