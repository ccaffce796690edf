use Rattle.std.proofs.Common.{◌≡◌, subst, sym, to_z-of_z}
use mir.Syntax.{w128}
use mir.Val.{to_z, of_z}
use Rattle.certificates.specs.Certificates.{IsCutNumber}
use Rattle.certificate_judge.specs.InsidePaths.{IsLeftWithin}
use Rattle.certificate_judge.proofs.WholeDecimals.{whole_fits}
use Rattle.certificate_judge.proofs.path.Path.climb.Goals as goal

pub enter_over-requires : goal.enter_over-requires
enter_over-requires c =
    let n = c.requires.path.0 in
    let left = subst (IsLeftWithin n) c.in-Plane.is (c.in-Some.ensures.left n (c.loop-left.invariant.path n c.requires.path.1)) in
    let back : to_z w128 (of_z w128 c.in-Plane.t) ≡ c.in-Plane.t = to_z-of_z (whole_fits c.in-Plane.t left.0.0) in
    record { number = subst IsCutNumber (sym back) left.0 }
