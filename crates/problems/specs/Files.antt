-- What certificates and proofs by branches are for an .nl file.
pub use Rattle.branch_proof.specs.Files.{IsCertificateIn, IsProofIn}
