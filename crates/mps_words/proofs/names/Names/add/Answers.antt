use Rattle.std.proofs.Common.{◌≡◌, List, None, ℕ, ap, map, option_map, sym, subst}
use Rattle.mps_words.specs.InsideCodes.{name_of}
use Rattle.text_base.proofs.NamePlaces.{texts_of}
use Rattle.mps_words.proofs.CodeLemmas.{are_bytes, fresh_code}
use Rattle.mps_words.proofs.KeptNames.{IsNew, as_seen, set_kept, set_seen, codes_seen, codes_kept, begun, set_more, codes_more, seen_more}
use Rattle.mps_words.proofs.names.Names.add.Goals.{After-of-key, In-None}
use Rattle.mps_words.proofs.names.Names.add.Goals as goal

-- the name is new to those that are kept
new : (c : After-of-key) (names : List (List ℕ)) → names ≡ c.args.self.now → IsNew names c.args.name.now c.of-key.result.code
new c names same = subst (λ (names : List (List ℕ)). IsNew names c.args.name.now c.of-key.result.code) (sym same) (record {
  is = c.of-key.ensures;
  bytes = are_bytes c.args.name.now c.type_inv.name;
  own = c.requires.name;
  new = c.requires.new;
  room = c.requires.room;
})

none : (c : In-None) → option_map (λ s. texts_of s.keys) c.self.inside.names ≡ None
none c = ap (option_map (λ s. texts_of s.keys)) c.in-None.is

seen : (c : In-None) → map name_of c.self.inside.codes ≡ c.args.self.now
seen c = codes_seen _ c.self.inside.codes _ (none c) c.self.view_is

pub invariant_of-self : goal.invariant_of-self
invariant_of-self c =
    let some = ap (option_map (λ s. texts_of s.keys)) c.in-Some.is in
    set_more c.add_to.result c.in-Some.names.keys c.add_to.new.names.keys c.self.inside.codes c.add_to.new.codes
    c.args.name.now c.of-key.result.code (set_kept _ c.self.inside.codes _ some c.self.invariant)
    (new (goal.at.invariant_of-self c).After-of-key (texts_of c.in-Some.names.keys) (set_seen _ c.self.inside.codes _ _ some c.self.view_is))
    c.add_to.ensures.names c.add_to.ensures.codes c.add_to.ensures.same_names c.add_to.ensures.same_codes

pub invariant_of-self-then-key-gt0 : goal.invariant_of-self-then-key-gt0
invariant_of-self-then-key-gt0 c =
    let d = goal.at.invariant_of-self-then-key-gt0 c in
    codes_more c.add.result _ c.self.inside.codes c.add.new.self c.args.name.now c.of-key.result.code (none d.In-None)
    c.self.invariant (new d.After-of-key _ (seen d.In-None)) c.if-key-gt0.true c.add.ensures.more c.add.ensures.same

pub returns-then-key-gt0 : goal.returns-then-key-gt0
returns-then-key-gt0 c =
    seen_more c.add.result _ c.self.inside.codes c.add.new.self c.args.name.now c.of-key.result.code c.args.self.now (none (goal.at.returns-then-key-gt0 c).In-None) c.self.view_is
    c.of-key.ensures (are_bytes c.args.name.now c.type_inv.name) c.if-key-gt0.true c.add.ensures.more

pub invariant_of-self-in-None : goal.invariant_of-self-in-None
invariant_of-self-in-None c =
    let d = goal.at.invariant_of-self-in-None c in
    begun c.in_ok-names-in-None.names.keys c.self.inside.codes c.begun_with.new.codes c.args.name.now
    c.of-key.result.code (codes_kept _ c.self.inside.codes (none d.In-None) c.self.invariant)
    (new d.After-of-key _ (seen d.In-None))
    c.in_ok-names-in-None.ensures.names c.in_ok-names-in-None.ensures.codes

pub add_to-requires-clause-fresh : goal.add_to-requires-clause-fresh
add_to-requires-clause-fresh c =
    fresh_code c.args.self.now c.self.inside.codes c.args.name.now c.of-key.result.code
    (as_seen _ c.self.inside.codes _ c.self.invariant c.self.view_is) c.of-key.ensures
    (are_bytes c.args.name.now c.type_inv.name) c.requires.new

pub add-requires : goal.add-requires
add-requires c =
    fresh_code c.args.self.now c.self.inside.codes c.args.name.now c.of-key.result.code
    (as_seen _ c.self.inside.codes _ c.self.invariant c.self.view_is) c.of-key.ensures
    (are_bytes c.args.name.now c.type_inv.name) c.requires.new
