-- The words that a Dec holds, made from the number that it is.
use Rattle.std.specs.Prelude.{ℤ}
use Rattle.std.proofs.Common.{sym, subst}
use Rattle.std.specs.Coded.{le_prop}
use lib.IntN.{ℤ_set}
use Rattle.exact_numbers.specs.Decimal.{IsDec}
use Rattle.exact_numbers.specs.InsidePacked.{whole_of, signed_words_of, whole_back}

pub IsDec-prop : (m e : ℤ) → IsProp (IsDec m e)
IsDec-prop m e x y i =
    record {
      mantissa = le_prop x.mantissa y.mantissa i;
      exponent = le_prop x.exponent y.exponent i;
      shortest =
          λ z.
          (ℤ_set _ _ (x.shortest z).0 (y.shortest z).0 i, ℤ_set _ _ (x.shortest z).1 (y.shortest z).1 i);
    }

-- the rule of a Dec, for the words that are made from it
pub dec_words : {m e : ℤ} → IsDec m e → IsDec (whole_of (signed_words_of m)) e
dec_words {m} {e} h = subst (λ k. IsDec k e) (sym (whole_back m h.mantissa)) h
