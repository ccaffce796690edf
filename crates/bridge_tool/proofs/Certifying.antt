-- What an .nl text and a certificate come to as a .sol text: one outcome, and what each verdict means.
use Rattle.std.proofs.Common.{[], ◌∷◌, ◌≡◌, ◌≢◌, ◌∙◌, inl, inr, ℕ, ◌+◌, ◌-◌, ◌<◌, ◌≤◌, ◌^◌, ℤ, pos, Bool, true, false, List, Option, Some, None, Result, Ok, Err, refl, sym, ap, subst, arith, codes}
use Rattle.std.specs.Prelude.{◌++◌, IfOk, IsSomeAnd, option_map}
use Rattle.std.specs.Option.{option_map_or}
use Rattle.std.specs.Global.{Vec}
use Rattle.std.proofs.lemmas.Option.{same_Some}
use Rattle.text_base.specs.declared.stop.Stop.{Stop}
use Rattle.exact_numbers.specs.Rational.{ℚ}
use Rattle.linear_program.specs.Linear.{Linear, variable_count}
use Rattle.certificates.specs.Certificate.{Cause, ClaimOutcome, feasible as feasible_at, fails, holds, outcome, judged, Judged, valued, refused}
use Rattle.certificates.specs.Means.{Means}
use Rattle.certificates.specs.Problem.{Problem, IsFeasible}
use Rattle.certificates.specs.ToldMeaning.{Told, IsTrueOf, optimal, within, bound, feasible, infeasible, unbounded}
use Rattle.linear_program.specs.Numbers.{number_value, spread}
use Rattle.nl_segments.specs.Grammar.{NlValue}
use Rattle.certificates.specs.Certificates.{CertificateValue, Given, claim_objective}
use Rattle.certificates.specs.Reading.{given_in}
use Rattle.certificates.specs.Told.{told_claim}
use Rattle.certificates.specs.declared.certificate.Claim.{Claim}
use Rattle.certificates.specs.declared.certificate.Claim.TheVariants.{Optimal, Within, Bound, Feasible, Infeasible, Unbounded}
use Rattle.certificate_text.specs.Reader.{IsCertificateText}
use Rattle.certified_solution.specs.Solution.{HasOneSolution, IsSolutionOf, code_of, point_values}
use Rattle.certified_solution.specs.Lagrangian.{ShowBound}
use Rattle.exact_checks.specs.Terms.{value_found, values_of}
use Rattle.certified_solution.proofs.One.{one_solution}
use Rattle.problems.specs.NlSetting.{setting_of}
use Rattle.sol_files.specs.Sol.{Sol}
use Rattle.sol_files.specs.Written.{sol_text}
use Rattle.command_core.specs.Outcome.{Outcome, Refused, Done}
use Rattle.command_core.proofs.SeveralFiles.{HasOne, IsEither, IsLast, IsPlain, one_of_both, same_one}
use Rattle.command_parts.specs.CertificateTold.{objective_text, outcome_text, told_text}
use Rattle.command_parts.specs.Refusal.{IsCertificateRefused}
use Rattle.command_parts.specs.Stages.{fold_steps}
use Rattle.command_parts.proofs.TextsRead.{certificate_read}
use Rattle.bridge_tool.specs.Certified.{ByLinear, ByShown, CertifiesAs, IsNotDecimalLine, IsPointTold, IsSolTrue, IsTextMade, TextComes, shown_of, told_bound, told_code}
use Rattle.bridge_tool.specs.Verify.{nl_claim_row}
use Rattle.nl_model.specs.File.{File}
use Rattle.nl_model.specs.Rules.{IsFile}
use Rattle.nl_model.proofs.Headers.{counts_of_header}
use Rattle.dual_return.proofs.ReturnedRules.{small_objective}
use Rattle.problems.proofs.Files.{meant as file_meant}
use Rattle.text_base.specs.Desk.{Meaning, Texts}
use Rattle.text_base.specs.declared.stop.Stop.TheVariants.{Fault, Memory}
use Rattle.linear_program.specs.Linear.{value_at}
use Rattle.certificates.specs.Certificate.{alone, unbounded as unbounded_at, with_ray}
use Rattle.certificates.specs.ProblemSays.{OutcomeSays}
use Rattle.certificates.specs.Ray.{RayFault, ray_fault}
use Rattle.certificates.specs.ToldMeaning.{IsToldTrue}
use Rattle.certificates.proofs.Problems.{outcomes}
use Rattle.nl_model.specs.FoldFaults.{FoldFault, fold_fault}
use Rattle.linear_fold.specs.FoldedFaults.{named_fault}
use Rattle.linear_program.specs.Programs.{LinearValue, linear_value}
use Rattle.nl_segments.specs.Reader.{IsNl}
use Rattle.certificates.specs.Certificates.{IsCertificateOf, claim_outcome}
use Rattle.certificates.proofs.Settings.{certificate_for}
use Rattle.certificate_text.proofs.Files.{text_is_certificate}
use Rattle.problems.proofs.NlSettings.{file_setting}
use Rattle.command_core.specs.InsideAnswer.{IsCounted}
use Rattle.command_core.specs.SeveralFiles.{ByVerdict, Comes, desk_promise}
use Rattle.command_core.specs.declared.answer.Answer.{Answer}
use Rattle.command_core.specs.declared.refused.Refusal.{Refusal}
use Rattle.command_core.proofs.SeveralFiles.{meant_as, text_so, value_said}
use Rattle.command_parts.specs.CertificateTold.{is_held}
use Rattle.command_parts.specs.NlTold.{fold_line}
use Rattle.command_parts.specs.Refusal.{HasTextRefusal}
use Rattle.command_parts.specs.Stages.{HasFolded}
use Rattle.bridge_tool.specs.Certified.{IsCertifiedTrue, IsNotShown, SaysCertified, certified_promise, certified_read}
use Rattle.bridge_tool.specs.Verify.{claim_shown}
use Rattle.bridge_tool.specs.declared.verify.ProblemText.TheVariants.{Nl}
use Rattle.bridge_tool.proofs.Duals.{duals_so}
use Rattle.bridge_tool.proofs.Exporting.{text_file}
use Rattle.bridge_tool.proofs.Messages.{message_line, told_fits}
use Rattle.bridge_tool.proofs.Programs.{Says, back, bound_fits, claimed, folds_clean, says_so}
use Rattle.certificate_judge.specs.Outcomes.{outcome_of}
use Rattle.certificate_judge.specs.declared.outcome.Outcome.{Outcome as Judgement}
use Rattle.certificate_judge.specs.declared.outcome.Outcome.TheVariants.{Holds, Fails}
use Rattle.nl_model.specs.LinearFile.{HasLines, linear_of}
use Rattle.nl_model.proofs.Folding.{clean_has_lines}
use Rattle.nl_model.proofs.Formed.{file_formed}
use Rattle.problems.specs.FileProblem.{problem_of}
use Rattle.problems.specs.Files.{IsCertificateIn}
use Rattle.problems.proofs.Given.{certificate_of}
use Rattle.sol_files.specs.Built.{IsMessageLine}
use Rattle.certificates.specs.Certificates.{IsAskedFor}

-- ---- one outcome

module _ (options : List ℤ) (m n : ℕ) (line : List ℕ) (c : CertificateValue) where
  one_sol : HasOneSolution options m n line c.claim (given_in c)
  one_sol = one_solution options m n line c.claim (given_in c)

  text_either : IsEither (IsTextMade options m n line c) (IsNotDecimalLine n c)
  text_either = record {
    accepted = λ a b x y. x.1.1 ∙ ap sol_text (one_sol.one x.0 y.0 x.1.0 y.1.0) ∙ sym y.1.1;
    refused = λ a b x y. x.1 ∙ sym y.1;
    either = elim one_sol.some [ inl s ↦ inl (sol_text s.0, (s.0, (s.1, refl))) | inr wide ↦ inr (codes "refused file 2: value not decimal\n", (wide, refl)) ];
    apart = λ bytes told x y. one_sol.not_both x.0 x.1.0 y.0;
  }

  one_text : HasOne IsPlain (TextComes options m n line c)
  one_text = one_of_both (IsTextMade options m n line c) (IsNotDecimalLine n c) text_either

module _ (nl : NlValue) (c : CertificateValue) where
  by_shown : (shown : ClaimOutcome) → HasOne IsPlain (ByShown nl c shown)
  by_shown (fails cause) = same_one (Done false []) tt
  by_shown (holds value) = one_text nl.file.options nl.file.counts.n_con nl.file.counts.n_var (outcome_text c.claim (holds value)) c

  by_line : (shown : ClaimOutcome) (o : Option (List ℕ)) → HasOne IsPlain (ByLinear nl c shown o)
  by_line shown None = by_shown shown
  by_line shown (Some line) = same_one (Refused line) tt

pub certified_last : (nl : NlValue) → IsLast true (IsCertificateText (setting_of nl.file))
    (IsCertificateRefused (setting_of nl.file) 2) (λ c. CertifiesAs nl c)
    (λ c old new. new ≤ old + fold_steps nl (claim_objective c.claim))
certified_last nl = record {
  read = certificate_read (setting_of nl.file) 2;
  one = λ c. by_line nl c (shown_of nl c) (nl_claim_row.no_linear nl (claim_objective c.claim));
  idle = λ c k. omega arith;
  verdict = λ c held bytes e. inr refl;
}

-- ---- what is told of the values

module _ (p : Problem) (n : ℕ) (g : Given) where
  abbrev point : List ℚ
  point = spread n g.point

  told_as : (P : Told → Type 0) (a b : Told) → Some a ≡ Some b → P b → P a
  told_as P a b e h = subst P (sym (same_Some a b e)) h

  told_of : (P : Told → Type 0) (a b : Told) → Some a ≡ Some b → P a → P b
  told_of P a b e h = subst P (same_Some a b e) h

  -- a claim without a point does not speak of it
  pub true_at : (claim : Claim) (o : Option ℚ) (told : Told) → told_claim claim o ≡ Some told → IsTrueOf p point told → IsTrueOf p (point_values n claim g) told
  true_at (Optimal k) o told e h = h
  true_at (Within k b) o told e h = h
  true_at (Bound k v) None told e h = absurd cc
  true_at (Bound k v) (Some w) told e h = told_of (IsTrueOf p []) (bound w) told e (told_as (IsTrueOf p point) (bound w) told e h)
  true_at (Feasible k) o told e h = h
  true_at Infeasible None told e h = told_of (IsTrueOf p []) infeasible told e (told_as (IsTrueOf p point) infeasible told e h)
  true_at Infeasible (Some w) told e h = absurd cc
  true_at (Unbounded k) o told e h = h

  pub code_at : (claim : Claim) (o : Option ℚ) (told : Told) → told_claim claim o ≡ Some told → code_of claim ≡ told_code told
  code_at (Optimal k) None told e = absurd cc
  code_at (Optimal k) (Some v) told e = ap told_code (same_Some (optimal v) told e)
  code_at (Within k b) None told e = absurd cc
  code_at (Within k b) (Some v) told e = ap told_code (same_Some (within (number_value b) v) told e)
  code_at (Bound k v) None told e = absurd cc
  code_at (Bound k v) (Some w) told e = ap told_code (same_Some (bound w) told e)
  code_at (Feasible k) None told e = absurd cc
  code_at (Feasible k) (Some v) told e = ap told_code (same_Some (feasible v) told e)
  code_at Infeasible None told e = ap told_code (same_Some infeasible told e)
  code_at Infeasible (Some w) told e = absurd cc
  code_at (Unbounded k) None told e = ap told_code (same_Some unbounded told e)
  code_at (Unbounded k) (Some w) told e = absurd cc

  -- where the claim has a ray, its point is feasible
  abbrev pub IsRayPoint : Claim → Type 0
  IsRayPoint (Optimal k) = Unit {0}
  IsRayPoint (Within k b) = Unit {0}
  IsRayPoint (Bound k v) = Unit {0}
  IsRayPoint (Feasible k) = Unit {0}
  IsRayPoint Infeasible = Unit {0}
  IsRayPoint (Unbounded k) = IsFeasible p point

  pub point_at : (claim : Claim) (o : Option ℚ) (told : Told) → told_claim claim o ≡ Some told → IsTrueOf p point told → IsRayPoint claim → IsPointTold p (point_values n claim g) told
  point_at (Optimal k) None told e h ray = absurd cc
  point_at (Optimal k) (Some v) told e h ray = told_of (IsPointTold p point) (optimal v) told e (told_as (IsTrueOf p point) (optimal v) told e h).0.feasible
  point_at (Within k b) None told e h ray = absurd cc
  point_at (Within k b) (Some v) told e h ray = told_of (IsPointTold p point) (within (number_value b) v) told e (told_as (IsTrueOf p point) (within (number_value b) v) told e h).0.feasible
  point_at (Bound k v) None told e h ray = absurd cc
  point_at (Bound k v) (Some w) told e h ray = told_of (IsPointTold p []) (bound w) told e refl
  point_at (Feasible k) None told e h ray = absurd cc
  point_at (Feasible k) (Some v) told e h ray = told_of (IsPointTold p point) (feasible v) told e (told_as (IsTrueOf p point) (feasible v) told e h).feasible
  point_at Infeasible None told e h ray = told_of (IsPointTold p []) infeasible told e refl
  point_at Infeasible (Some w) told e h ray = absurd cc
  point_at (Unbounded k) None told e h ray = told_of (IsPointTold p point) unbounded told e ray
  point_at (Unbounded k) (Some w) told e h ray = absurd cc

  -- ---- the .sol value says it
  pub sol_true : (options : List ℤ) (m : ℕ) (claim : Claim) (o : Option ℚ) (told : Told) (s : Sol) → told_claim claim o ≡ Some told → IsTrueOf p point told → IsRayPoint claim
      → (values_of s.duals ≢ [] → IsSomeAnd (told_bound told) (ShowBound p (values_of s.duals)))
      → IsSolutionOf options m n (outcome_text claim (holds o)) claim g s → IsSolTrue p (claim_objective claim) s
  sol_true options m claim o told s e h ray shown is = record {
    told = told;
    message = is.message ∙ ap (λ (t : Option Told). (option_map_or told_text t [] ++ objective_text (claim_objective claim)) ∷ []) e;
    objno = is.objno ∙ ap (λ (k : ℕ). Some (pos (claim_objective claim), pos k)) (code_at claim o told e);
    point = subst (λ xs. IsPointTold p xs told) (sym is.primals) (point_at claim o told e h ray);
    true_of = subst (λ xs. IsTrueOf p xs told) (sym is.primals) (true_at claim o told e h);
    duals = shown;
  }

-- ---- the point of a claim with a ray is feasible

module _ (f : Linear) (p : Problem) (means : Means f p) (xs ds : List ℚ) where
  at_point : (o : ClaimOutcome) → outcome f (feasible_at xs) ≡ o → OutcomeSays p f (feasible_at xs) o
  at_point o e = subst (OutcomeSays p f (feasible_at xs)) e (outcomes f p means (feasible_at xs) tt)

  as_feasible : outcome f (feasible_at xs) ≡ alone (judged f xs)
  unfolding outcome
  as_feasible = refl

  by_judged : (r : Option RayFault) (j : Judged) (o : Option ℚ) → judged f xs ≡ j → with_ray r j ≡ holds o → IsFeasible p xs
  by_judged r (refused cause) o e h = absurd cc
  by_judged r (valued v) o e h =
      let says = at_point (holds (Some v)) (as_feasible ∙ ap alone e) in
      (subst (IsTrueOf p xs) (sym (same_Some (feasible v) says.told says.is_told)) says.true_of).feasible

  pub ray_point : (o : Option ℚ) → outcome f (unbounded_at xs ds) ≡ holds o → IsFeasible p xs
  unfolding outcome
  ray_point o h = by_judged (ray_fault f (value_at ds)) (judged f xs) o refl h

module _ (f : Linear) (p : Problem) (means : Means f p) (g : Given) (o : Option ℚ) where
  pub ray_so : (claim : Claim) → claim_outcome f claim g ≡ holds o → IsRayPoint p p.variables g claim
  ray_so (Optimal k) h = tt
  ray_so (Within k b) h = tt
  ray_so (Bound k v) h = tt
  ray_so (Feasible k) h = tt
  ray_so Infeasible h = tt
  ray_so (Unbounded k) h =
      subst (λ n. IsFeasible p (spread n g.point)) (sym means.variables) (ray_point f p means (spread (variable_count f) g.point) (spread (variable_count f) g.ray) o h)

-- ---- what a verdict means

module _ (text given : List ℕ) (nl : NlValue) (c : CertificateValue) (reads : IsNl text nl) (certifies : IsCertificateText (setting_of nl.file) given c) where
  abbrev k : ℕ
  k = claim_objective c.claim

  abbrev f : Linear
  f = nl_claim_row.linear nl k

  abbrev p : Problem
  p = nl_claim_row.problem nl k

  certificate_so : IsCertificateOf f c
  certificate_so = certificate_for f (setting_of nl.file) (file_setting nl.file k) c (text_is_certificate (setting_of nl.file) given c certifies).is

  module _ (none : nl_claim_row.no_linear nl k ≡ None) where
    meant : Means f p
    meant = (claimed Nl).means text nl k reads none

    lines : HasLines nl.file k
    lines =
        let file = text_file text nl reads in
        clean_has_lines nl.file k (file_formed nl.file file k) (folds_clean nl k none)

    asked : IsAskedFor c.claim (given_in c)
    asked = subst (IsAskedFor c.claim) (sym (back f c certificate_so)) certificate_so.asked

    yes_means : (value : Option ℚ) (bytes : List ℕ) → shown_of nl c ≡ holds value
        → IsTextMade nl.file.options nl.file.counts.n_con nl.file.counts.n_var (outcome_text c.claim (holds value)) c
        bytes → IsCertifiedTrue nl c bytes
    yes_means value bytes is made =
        let so : IsToldTrue p (spread p.variables (given_in c).point) (told_claim c.claim value) =
        subst (Says f c certificate_so p meant p.variables p.constraints (given_in c)) is
        (says_so f c certificate_so p meant) in
        record {
          sol = made.0;
          text = made.1.1;
          true_of = sol_true p nl.file.counts.n_var (given_in c) nl.file.options nl.file.counts.n_con c.claim value
              so.told made.0 so.is_told so.true_of (ray_so f p meant (given_in c) value c.claim is)
              (duals_so nl.file k lines c.claim (given_in c) value so.told asked is so.is_told (values_of made.0.duals) made.1.0.duals_are) made.1.0;
        }

    no_means : (cause : Cause) → shown_of nl c ≡ fails cause → IsNotShown nl c
    no_means cause is = record { cause = cause; shown = is; denies = subst (Says f c certificate_so p meant p.variables p.constraints (given_in c)) is (says_so f c certificate_so p meant) }

    by_verdict : (shown : ClaimOutcome) → shown_of nl c ≡ shown → (held : Bool) (bytes : List ℕ) → ByShown nl c shown (Done held bytes) → ByVerdict held (IsCertifiedTrue nl c bytes) (IsNotShown nl c)
    by_verdict (fails cause) is true bytes h = absurd cc
    by_verdict (fails cause) is false bytes h = no_means cause is
    by_verdict (holds value) is true bytes h = yes_means value bytes is h
    by_verdict (holds value) is false bytes h = absurd h

  by_linear_so : (o : Option (List ℕ)) → nl_claim_row.no_linear nl k ≡ o → (held : Bool) (bytes : List ℕ)
      → ByLinear nl c (shown_of nl c) o (Done held bytes) → ByVerdict held (IsCertifiedTrue nl c bytes) (IsNotShown nl c)
  by_linear_so None none held bytes h = by_verdict none (shown_of nl c) refl held bytes h
  by_linear_so (Some line) some held bytes h = absurd cc

  pub certified_meant : (judged : Result (Bool × Vec ℕ) (Stop Refusal)) → Comes (CertifiesAs nl c) judged → IfOk judged (λ t. ByVerdict t.0 (IsCertifiedTrue nl c t.1.items) (IsNotShown nl c))
  certified_meant (Ok t) comes = by_linear_so (nl_claim_row.no_linear nl k) refl t.0 t.1.items comes
  certified_meant (Err stop) comes = tt

-- ---- the command says it of both texts

module _ (first certificate : List ℕ) where
  yes_says : (texts : Texts) (bytes : List ℕ) → (certified_read first certificate texts).means bytes → SaysCertified texts first bytes
  yes_says texts bytes h =
      let one = value_said IsNl HasTextRefusal texts first _ bytes h in
      let s = setting_of one.0.file in
      let two = value_said (IsCertificateText s) (IsCertificateRefused s 2) texts certificate _ bytes one.1.1 in
      let says = two.1.1 in
      record {
        objective = claim_objective two.0.claim;
        problem = nl_claim_row.problem one.0 (claim_objective two.0.claim);
        sol = says.sol;
        says = text_so _ (λ (text : List ℕ) (is : IsNl text one.0). (claimed Nl).states text one.0 (claim_objective two.0.claim) is) one.1.0;
        text = says.text;
        true_of = says.true_of;
      }

  pub certified_counted : {old new : Meaning} {m n : ℕ} {answer : Answer} (t : Option Texts)
      → IsCounted (desk_promise true (certified_read first certificate) t) old new m n answer
      → IsCounted (certified_promise t first certificate) old new m n answer
  certified_counted t = meant_as true (certified_read first certificate) (λ texts. SaysCertified texts first) t yes_says

-- ---- what the code answers

module _ (nl : NlValue) (c : CertificateValue) (l : LinearValue) (folds : HasFolded nl (claim_objective c.claim) l) where
  none_so : nl_claim_row.no_linear nl (claim_objective c.claim) ≡ None
  none_so = ap (λ (o : Option FoldFault). option_map (fold_line nl.places) (option_map (named_fault nl.file) o)) folds.fine

  shown_is : claim_shown (linear_value l) c ≡ shown_of nl c
  shown_is = ap (λ (g : Linear). claim_shown g c) folds.linear

  as_shown : (shown : ClaimOutcome) → shown_of nl c ≡ shown → (o : Outcome) → ByShown nl c shown o → CertifiesAs nl c o
  as_shown shown is o h =
      subst (λ (line : Option (List ℕ)). ByLinear nl c (shown_of nl c) line o) (sym none_so) (subst (λ (s : ClaimOutcome). ByShown nl c s o) (sym is) h)

  module _ (o : ClaimOutcome) (is : o ≡ claim_shown (linear_value l) c) where
    pub not_held : is_held o ≡ false → CertifiesAs nl c (Done false [])
    not_held e = by o (sym (is ∙ shown_is)) e
      where
        by : (shown : ClaimOutcome) → shown_of nl c ≡ shown → is_held shown ≡ false → CertifiesAs nl c (Done false [])
        by (fails cause) same e = as_shown (fails cause) same (Done false []) refl
        by (holds value) same e = absurd cc

    abbrev TextWith : List ℕ → Result (Bool × Vec ℕ) (Stop Refusal) → Type 0
    TextWith line judged = Comes (TextComes nl.file.options nl.file.counts.n_con nl.file.counts.n_var line c) judged

    as_held : (value : Option ℚ) → shown_of nl c ≡ holds value → (judged : Result (Bool × Vec ℕ) (Stop Refusal))
        → TextWith (outcome_text c.claim (holds value)) judged → Comes (CertifiesAs nl c) judged
    as_held value same (Ok t) h = as_shown (holds value) same (Done t.0 t.1.items) h
    as_held value same (Err (Fault why)) h = as_shown (holds value) same (Refused why.line) h
    as_held value same (Err Memory) h = tt

    -- the message is the line of the verdict
    pub text_comes : is_held o ≡ true → (line : List ℕ) → line ≡ outcome_text c.claim o → (judged : Result (Bool × Vec ℕ) (Stop Refusal)) → TextWith line judged → Comes (CertifiesAs nl c) judged
    text_comes e line same judged h = by o (sym (is ∙ shown_is)) e (subst (λ (bytes : List ℕ). TextWith bytes judged) same h)
      where
        by : (shown : ClaimOutcome) → shown_of nl c ≡ shown → is_held shown ≡ true → TextWith (outcome_text c.claim shown) judged → Comes (CertifiesAs nl c) judged
        by (fails cause) same e h = absurd cc
        by (holds value) same e h = as_held value same judged h

-- ---- what the code asks for

-- a file has fewer than 2^31 objectives
pub objective_small : (file : File) (k : ℕ) → IsFile file → fold_fault file k ≡ None → k < 2 ^ 31
objective_small file k is fine =
    let counts = counts_of_header file.options file.counts is.ruled in
    let small = small_objective file k counts.objectives (file_meant file k is fine).there in
    omega (arith, small)

-- the line of a claim that holds is a line of a message
module _ (nl : NlValue) (c : CertificateValue) (l : LinearValue) (folds : HasFolded nl (claim_objective c.claim) l) (file : IsFile nl.file) (given : IsCertificateIn nl.file c) where
  pub message_so : (o : Judgement) → outcome_of o ≡ claim_shown (linear_value l) c → is_held (outcome_of o) ≡ true → IsMessageLine (outcome_text c.claim (outcome_of o))
  message_so (Fails cause) is e = absurd cc
  message_so (Holds v) is e =
      let k = claim_objective c.claim in
      let f = linear_of nl.file k in
      let p = problem_of nl.file k in
      let certified = certificate_of nl.file k c given in
      let means = file_meant nl.file k file folds.fine in
      let so : IsToldTrue p (spread p.variables (given_in c).point) (told_claim c.claim (value_found v)) =
      subst (Says f c certified p means p.variables p.constraints (given_in c)) (sym (is ∙ shown_is nl c l folds))
      (says_so f c certified p means) in
      subst IsMessageLine (sym (ap (λ (t : Option Told). option_map_or told_text t [] ++ objective_text k) so.is_told))
      (message_line so.told k (told_fits c.claim v so.told (bound_fits f c certified) so.is_told) (objective_small nl.file k file folds.fine))
