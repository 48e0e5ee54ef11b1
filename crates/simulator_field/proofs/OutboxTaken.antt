-- Datagrams that are taken out of an outbox one after another, and sent.
use Rattle.std.proofs.Common.{◌≡◌, refl, sym, ap, ◌∙◌, ℕ, List, [], ◌∷◌, ◌++◌, Option, Some, None, drop}
use Rattle.std.specs.Prelude.{slice_get}
use Rattle.std.proofs.lemmas.List.{append_assoc}
use Rattle.std.proofs.lemmas.Option.{same_Some}
use Rattle.simulator_spec.specs.rasta_core.Ends.{handed_out}
use Rattle.simulator_spec.specs.rasta_core.Links.{OnLink, sent_on}
use Rattle.simulator_spec.specs.rasta_core.identity.Role.TheVariants as role

none_is_not_some : (one : List ℕ) → None ≡ Some one → ⊥
none_is_not_some one same = cc

pub first_taken : (datagrams : List (List ℕ)) (first : List ℕ) → Some first ≡ slice_get datagrams 0 → datagrams ≡ first ∷ drop 1 datagrams
first_taken [] first there = absurd (none_is_not_some first (sym there))
first_taken (one ∷ others) first there = ap (λ d. d ∷ others) (sym (same_Some first one there))

pub none_taken : (datagrams : List (List ℕ)) → None ≡ slice_get datagrams 0 → datagrams ≡ []
none_taken [] there = refl
none_taken (one ∷ others) there = absurd (none_is_not_some one there)

abbrev pub by_server : ℕ → ℕ → Option ℕ → List (List ℕ) → List OnLink
by_server link time connection datagrams = sent_on link (handed_out time role.Server connection datagrams)

-- one is sent, and those after it
pub one_sent : (sent : List OnLink) (link time : ℕ) (connection : Option ℕ) (datagrams others : List (List ℕ)) (first : List ℕ) → datagrams ≡ first ∷ others
    → (sent ++ by_server link time connection (first ∷ [])) ++ by_server link time connection others ≡ sent ++ by_server link time connection datagrams
one_sent sent link time connection datagrams others first are =
    append_assoc sent (by_server link time connection (first ∷ [])) (by_server link time connection others)
    ∙ ap (λ all. sent ++ by_server link time connection all) (sym are)
