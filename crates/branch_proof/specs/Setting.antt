-- What certificates and proofs of a file are judged by.
use Rattle.nl_model.specs.File.{File}
use Rattle.nl_model.specs.Kinds.{kinds_in}
use Rattle.certificates.specs.Setting.{Setting}

-- the number of constraints, and the kinds of the variables
abbrev pub setting_of : File → Setting
setting_of f = record {
  rows = f.counts.n_con;
  kinds = kinds_in f;
}
