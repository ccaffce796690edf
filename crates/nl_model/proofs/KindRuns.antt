-- The kinds of variables are those of their runs.
use Rattle.std.proofs.Common.{◌≡◌, ◌∙◌, drop, take, ◌<◌, ◌≤◌, ◌+◌, ℕ, zero, suc, ◌-◌, min, length, nat_le, Bool, true}
use Rattle.std.proofs.Common.{false, nat_lt, if◌then◌else◌, List, [], ◌∷◌, ◌++◌, get_or, replicate, ap, refl, sym}
use Rattle.std.proofs.Common.{arith}
use Rattle.std.proofs.lemmas.Bool.{le-ltb, lt-ltb, ltb-true, ltb-false}
use Rattle.std.proofs.lemmas.List.{append_assoc, append-nil, get_or_append_left, get_or-append_right, drop_all, drop_more, length-append, take_all, get_or-replicate, length-replicate}
use Rattle.nl_model.specs.declared.header_counts.Counts.{Counts}
use Rattle.nl_model.specs.InsideKinds.{kind_among, runs}
use Rattle.nl_model.specs.declared.kinds.Run.{Run}
use Rattle.linear_program.specs.Elements.{elements_from}
use Rattle.nl_model.specs.Kinds.{groups, variable_kind}
use Rattle.linear_program.specs.declared.kind.Kind.{Kind}
use Rattle.linear_program.specs.declared.kind.Kind.TheVariants.{Continuous}

-- all kinds, in order
abbrev pub kinds_of_runs : List Run → List Kind
kinds_of_runs [] = []
kinds_of_runs (r ∷ rs) = replicate r.size r.kind ++ kinds_of_runs rs

kind_listed : (rs : List Run) (j : ℕ) → get_or (kinds_of_runs rs) j Continuous ≡ kind_among rs j
kind_listed [] j = refl
kind_listed (r ∷ rs) j = by (nat_lt j r.size) refl (kind_listed rs (j - r.size))
  where
    by : (b : Bool) → nat_lt j r.size ≡ b → get_or (kinds_of_runs rs) (j - r.size) Continuous
        ≡ kind_among rs (j - r.size) → get_or (replicate r.size r.kind ++ kinds_of_runs rs) j Continuous
        ≡ (if b then r.kind else kind_among rs (j - r.size))
    by true e later =
        let below = ltb-true j r.size e in
        get_or_append_left (replicate r.size r.kind) (kinds_of_runs rs) Continuous j (omega (arith, below, length-replicate r.size r.kind))
        ∙ get_or-replicate r.size j r.kind Continuous below
    by false e later =
        get_or-append_right (replicate r.size r.kind) (kinds_of_runs rs) r.size j Continuous (length-replicate r.size r.kind) (ltb-false j r.size e)
        ∙ later

pub groups_are_runs : (c : Counts) → groups c ≡ kinds_of_runs (runs c)
groups_are_runs c = simp (append_assoc, append-nil)

pub variable_kind_by_runs : (c : Counts) (j : ℕ) → variable_kind c j ≡ kind_among (runs c) j
unfolding variable_kind
variable_kind_by_runs c j = ap (λ ks. get_or ks j Continuous) (groups_are_runs c) ∙ kind_listed (runs c) j

pub kind_by_runs : (c d : Counts) (j : ℕ) (k : Kind) → c ≡ d → k ≡ kind_among (runs c) j → k ≡ variable_kind d j
kind_by_runs c d j k same e = e ∙ sym (variable_kind_by_runs c j) ∙ ap (λ x. variable_kind x j) same

-- the kinds of the first n variables, beyond the last run too
abbrev pub kinds_left : List Run → ℕ → List Kind
kinds_left [] n = replicate n Continuous
kinds_left (r ∷ rs) n = replicate (min n r.size) r.kind ++ kinds_left rs (n - r.size)

module _ (g : ℕ → Kind) where
  elements_alike : (k : Kind) (i n : ℕ) → ((j : ℕ) → j < n → g (i + j) ≡ k) → elements_from g i n ≡ replicate n k
  unfolding elements_from
  elements_alike k i zero h = refl
  elements_alike k i (suc n) h =
      let first : g i ≡ k = ap g (omega arith) ∙ h 0 (omega arith) in
      let later : elements_from g (suc i) n ≡ replicate n k = elements_alike k (suc i) n (λ j lt. ap g (let e : suc i + j ≡ i + suc j = omega arith in e) ∙ h (suc j) (omega (arith, lt))) in
      rw (first, later) refl

  elements_joined : (i a b : ℕ) → elements_from g i (a + b) ≡ elements_from g i a ++ elements_from g (i + a) b
  unfolding elements_from
  elements_joined i zero b =
      let none : 0 + b ≡ b = omega arith in
      let same : i + 0 ≡ i = omega arith in
      rw (none, same) refl
  elements_joined i (suc a) b =
      let same : suc a + b ≡ suc (a + b) = omega arith in
      let next : suc i + a ≡ i + suc a = omega arith in
      rw same (ap (λ xs. g i ∷ xs) (elements_joined (suc i) a b ∙ ap (λ j. elements_from g (suc i) a ++ elements_from g j b) next))

none_left : (rs : List Run) → kinds_left rs 0 ≡ []
none_left [] = refl
none_left (r ∷ rs) = rw (let e : min 0 r.size ≡ 0 = omega arith in e, let e : 0 - r.size ≡ 0 = omega arith in e) (none_left rs)

elements_by_runs : (rs : List Run) (g : ℕ → Kind) (i n : ℕ) → ((j : ℕ) → g (i + j) ≡ kind_among rs j) → elements_from g i n ≡ kinds_left rs n
elements_by_runs [] g i n h = elements_alike g Continuous i n (λ j lt. h j)
elements_by_runs (r ∷ rs) g i n h = by (nat_le n r.size) refl (elements_by_runs rs g (i + r.size) (n - r.size) beyond)
  where
    inside : (j : ℕ) → j < r.size → g (i + j) ≡ r.kind
    inside j lt = h j ∙ rw (lt-ltb j r.size lt) refl

    beyond : (j : ℕ) → g (i + r.size + j) ≡ kind_among rs j
    beyond j =
        let at : i + r.size + j ≡ i + (r.size + j) = omega arith in
        let out : nat_lt (r.size + j) r.size ≡ false = le-ltb (r.size + j) r.size (omega arith) in
        let left : r.size + j - r.size ≡ j = omega arith in
        ap g at ∙ h (r.size + j) ∙ rw (out, left) refl

    by : (b : Bool) → nat_le n r.size ≡ b → elements_from g (i + r.size) (n - r.size) ≡ kinds_left rs (n - r.size) → elements_from g i n ≡ replicate (min n r.size) r.kind ++ kinds_left rs (n - r.size)
    by true e later =
        let few : n ≤ r.size = grind (arith, e) in
        let all : min n r.size ≡ n = omega (arith, few) in
        let none : n - r.size ≡ 0 = omega (arith, few) in
        elements_alike g r.kind i n (λ j lt. inside j (omega (arith, lt, few)))
        ∙ rw (all, none, none_left rs) (sym (append-nil (replicate n r.kind)))
    by false e later =
        let many : r.size < n = grind (arith, e) in
        let all : min n r.size ≡ r.size = omega (arith, many) in
        let both : n ≡ r.size + (n - r.size) = omega (arith, many) in
        ap (elements_from g i) both ∙ elements_joined g i r.size (n - r.size)
        ∙ ap (λ xs. xs ++ elements_from g (i + r.size) (n - r.size)) (elements_alike g r.kind i r.size inside)
        ∙ ap (λ xs. replicate r.size r.kind ++ xs) later
        ∙ rw all refl

-- one run more of those that are left
pub run_pushed : (rs : List Run) (i : ℕ) (d : Run) (n : ℕ) (done now all : List Kind) → i < length rs → length done ≤ n
    → done ++ kinds_left (drop i rs) (n - length done) ≡ all → now
    ≡ done ++ replicate (min (n - length done) (get_or rs i d).size) (get_or rs i d).kind
    → (length now ≤ n) × (now ++ kinds_left (drop (i + 1) rs) (n - length now) ≡ all)
run_pushed rs i d n done now all more few e is =
    let r = get_or rs i d in
    let added = replicate (min (n - length done) r.size) r.kind in
    let long : length now ≡ length done + min (n - length done) r.size = ap length is ∙ length-append done added ∙ ap (λ m. length done + m) (length-replicate (min (n - length done) r.size) r.kind) in
    let left : n - length now ≡ n - length done - r.size = omega (arith, long, few) in
    let next : kinds_left (drop i rs) (n - length done) ≡ added ++ kinds_left (drop (i + 1) rs) (n - length done - r.size) = ap (λ xs. kinds_left xs (n - length done)) (drop_more rs i d more) in (
      omega (arith, long, few),
      rw left (ap (λ xs. xs ++ kinds_left (drop (i + 1) rs) (n - length done - r.size)) is
          ∙ append_assoc done added (kinds_left (drop (i + 1) rs) (n - length done - r.size))
          ∙ ap (λ xs. done ++ xs) (sym next) ∙ e),
    )

kinds_by_runs : (c : Counts) → kinds_left (runs c) c.n_var ≡ elements_from (variable_kind c) 0 c.n_var
kinds_by_runs c = sym (elements_by_runs (runs c) (variable_kind c) 0 c.n_var (λ j. ap (variable_kind c) (let e : 0 + j ≡ j = omega arith in e) ∙ variable_kind_by_runs c j))

pub runs_done : (c d : Counts) (rs : List Run) (i : ℕ) (done now : List Kind) → length rs ≤ i → length done ≤ c.n_var
    → done ++ kinds_left (drop i rs) (c.n_var - length done) ≡ kinds_left rs c.n_var → rs ≡ runs c → c ≡ d → (m : ℕ)
    → m ≡ length done → now ≡ take c.n_var done ++ replicate (c.n_var - m) Continuous
    → now ≡ elements_from (variable_kind d) 0 d.n_var
runs_done c d rs i done now last few e are same m long is =
    let left = replicate (c.n_var - length done) Continuous in
    let none : kinds_left (drop i rs) (c.n_var - length done) ≡ left = ap (λ xs. kinds_left xs (c.n_var - length done)) (drop_all i rs last) in
    is ∙ ap (λ l. take c.n_var done ++ replicate (c.n_var - l) Continuous) long ∙ ap (λ xs. xs ++ left) (take_all c.n_var done few) ∙ ap (λ xs. done ++ xs) (sym none) ∙ e
    ∙ ap (λ xs. kinds_left xs c.n_var) are ∙ kinds_by_runs c ∙ ap (λ x. elements_from (variable_kind x) 0 x.n_var) same
