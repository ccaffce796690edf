use Rattle.linear_program.specs.Linear.{no_row}
use Rattle.certificates.proofs.duality_laws.broken_points.Goals as goal

pub returns : goal.returns
returns c = record {
  rows = λ f xs i h ok. h.broken (ok.rows i no_row h.within);
  bounds = λ f xs j h ok. h.broken (ok.bounds j h.within);
  whole = λ f xs j h ok. h.broken (ok.whole j h.within h.asked);
}
