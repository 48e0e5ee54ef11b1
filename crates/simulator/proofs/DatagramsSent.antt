-- Datagrams that are sent one after another, each on the link of its receiver.
use Rattle.std.proofs.Common.{◌≡◌, refl, sym, ap, ◌∙◌, ℕ, List, [], ◌∷◌, ◌++◌, length, Option, Some, None, drop}
use Rattle.std.specs.Prelude.{slice_get, slice_index_or}
use Rattle.std.proofs.lemmas.Option.{same_Some}
use Rattle.ixl_state.specs.layout.Entries.{Site}
use Rattle.ixl_state.specs.rasta_core.Ends.{handed_out}
use Rattle.ixl_state.specs.rasta_core.Links.{OnLink, sent_on}
use Rattle.ixl_state.specs.rasta_core.identity.Role.TheVariants as role
use Rattle.simulator_spec.specs.Interlocking.{Sending, begun_by, link_of, sending_all, sending_one}

pub one_sent : (site : Site) (time link moment : ℕ) (bytes : List ℕ) (begun new_begun : List (Option ℕ)) (sent new_sent : List OnLink) (connection : Option ℕ)
    → link ≡ link_of site bytes → moment ≡ length sent → new_begun ≡ begun_by link moment bytes begun → connection ≡ slice_index_or new_begun link None
    → new_sent ≡ sent ++ sent_on link (handed_out time role.Client connection (bytes ∷ []))
    → (record { connections = new_begun; sent = new_sent }) ≡ sending_one site time bytes (record { connections = begun; sent = sent })
unfolding sending_one
one_sent site time link moment bytes begun new_begun sent new_sent connection link_is moment_is begun_is connection_is sent_is =
    let Sent : ℕ → List (Option ℕ) → Option ℕ → Sending = λ l b c. record { connections = b; sent = sent ++ sent_on l (handed_out time role.Client c (bytes ∷ [])) }
    in let Done : ℕ → List (Option ℕ) → Sending = λ l b. Sent l b (slice_index_or b l None)
    in ap (λ (s : List OnLink). record { connections = new_begun; sent = s }) sent_is
    ∙ ap (Sent link new_begun) connection_is
    ∙ ap (Done link) (begun_is ∙ ap (λ m. begun_by link m bytes begun) moment_is)
    ∙ ap (λ l. Done l (begun_by l (length sent) bytes begun)) link_is

none_is_not_some : (one : List ℕ) → None ≡ Some one → ⊥
none_is_not_some one same = cc

pub first_taken : (datagrams : List (List ℕ)) (first : List ℕ) → Some first ≡ slice_get datagrams 0 → datagrams ≡ first ∷ drop 1 datagrams
first_taken [] first there = absurd (none_is_not_some first (sym there))
first_taken (one ∷ others) first there = ap (λ d. d ∷ others) (sym (same_Some first one there))

pub none_taken : (datagrams : List (List ℕ)) → None ≡ slice_get datagrams 0 → datagrams ≡ []
none_taken [] there = refl
none_taken (one ∷ others) there = absurd (none_is_not_some one there)

-- the first is sent, and then the others
pub others_sent : (site : Site) (time : ℕ) (first : List ℕ) (datagrams others : List (List ℕ)) (before after : Sending) → datagrams ≡ first ∷ others → after ≡ sending_one site time first before
    → sending_all site time others after ≡ sending_all site time datagrams before
unfolding sending_all
others_sent site time first datagrams others before after are after_is =
    ap (sending_all site time others) after_is ∙ ap (λ all. sending_all site time all before) (sym are)

pub all_sent : (site : Site) (time : ℕ) (datagrams : List (List ℕ)) (sending : Sending) → datagrams ≡ [] → sending ≡ sending_all site time datagrams sending
unfolding sending_all
all_sent site time datagrams sending none = ap (λ all. sending_all site time all sending) (sym none)
