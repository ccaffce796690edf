-- The coefficients of a form, which are kept in one of two ways.
use Rattle.std.specs.Prelude.{List}
use Rattle.linear_program.specs.declared.coefficients.TermList.{TermList}
use Rattle.linear_program.specs.declared.coefficients.TermList.TheVariants.{Fractions, Decimals}
use Rattle.linear_program.specs.Coefs.{Term}
use Rattle.linear_program.specs.Decimals.{fraction_terms}

-- the terms with fractions
abbrev pub listed_terms : TermList → List Term
listed_terms (Fractions ts) = ts
listed_terms (Decimals ds) = fraction_terms ds
