-- One name more.
use Rattle.std.proofs.Common.{◌≡◌, ◌≢◌, ℕ, ◌+◌, ◌<◌, ◌^◌, false, List, [], ◌∷◌, ◌++◌, length, get_or, None, sym, arith, length-append}
use Rattle.std.proofs.lemmas.List.Elements.{All-push}
use Rattle.std.proofs.lemmas.List.Quantifiers.{all_pairs_push}
use Rattle.text_base.specs.Names.{IsName, place_of}
use Rattle.text_base.proofs.NamePlaces.{place_none, bytes_differ}
use Rattle.mps_model.specs.Names.{AreNames, is_reserved}

pub names_more : (names : List (List ℕ)) (name : List ℕ) → AreNames names → place_of names name ≡ None
    → length names + 1 < 2 ^ 32 → IsName name → is_reserved name ≡ false → AreNames (names ++ name ∷ [])
names_more names name a new room named free =
    let others = place_none names name new in
    record {
      few = omega (arith, room, length-append names (name ∷ []));
      named = All-push IsName names name a.named named;
      apart = all_pairs_push (λ (m n : List ℕ). m ≢ n) names name a.apart (λ i d lt. λ same. bytes_differ name (get_or names i d) (others i d lt) (sym same));
      free = All-push (λ (n : List ℕ). is_reserved n ≡ false) names name a.free free;
    }
