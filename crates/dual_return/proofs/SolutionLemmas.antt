-- All parts of a .sol file together.
use Rattle.std.proofs.Common.{◌≡◌, inl, inr, ℕ, ℤ, ◌≤◌, Bool, true, false, List, ◌++◌, length, Option, IsTrue, ap, arith}
use Rattle.std.proofs.lemmas.Bool.{leb-true}
use Rattle.exact_numbers.specs.declared.dec.Dec.{Dec}
use Rattle.nl_model.specs.declared.header_counts.Counts.{Counts}
use Rattle.nl_model.specs.File.{File}
use Rattle.nl_model.specs.HeaderRules.{is_header, are_options, are_counts}
use Rattle.exact_numbers.proofs.NumberLemmas.{first_of_both}
use Rattle.answer_file.specs.Grammar.{AnswerValue}
use Rattle.sol_files.specs.Sol.{Sol}
use Rattle.sol_files.specs.Built.{AreGiven, IsEmptyOrFull, empty_sol}
use Rattle.sol_files.specs.declared.suffix.SolSuffix.{SolSuffix}
use Rattle.dual_return.specs.Return.{AreDualsIf}

pub options-few : (options : List ℤ) (c : Counts) → IsTrue (is_header options c) → length options ≤ 9
unfolding is_header
options-few options c e = omega (arith, leb-true (length options) 4 (first_of_both _ _ (first_of_both (are_options options) (are_counts c) e)))

pub dual-count : (b : Bool) (f : File) (a : AnswerValue) (duals : List Dec) → AreDualsIf b f a duals → IsEmptyOrFull f.counts.n_con (length duals)
dual-count true f a duals h = inr h.count
dual-count false f a duals h = inl (ap length h)

pub all-given : (f : File) (a : AnswerValue) (b : Bool) (options : List ℤ) (n_con n_var : ℕ) (values : List Dec)
    (s0 s1 s2 s3 s4 s5 : Sol) (ds : List Dec) (message : List (List ℕ)) (objno : Option (ℤ × ℤ))
    (suffixes : List SolSuffix)
    → s0 ≡ empty_sol options n_con n_var → s1 ≡ record s0 { message = message } → s2 ≡ record s1 { duals = ds }
    → s3 ≡ record s2 { primals = s2.primals ++ values } → s4 ≡ record s3 { objno = objno }
    → s5 ≡ record s4 { suffixes = suffixes }
    → n_con ≡ f.counts.n_con → AreDualsIf b f a ds → IsEmptyOrFull n_var (length values) → AreGiven s5
all-given f a b options n_con n_var values s0 s1 s2 s3 s4 s5 ds message objno suffixes e0 e1 e2 e3 e4 e5 con duals given =
    rw (e5, e4, e3, e2, e1, e0, con) (record { duals = dual-count b f a ds duals; primals = given })
