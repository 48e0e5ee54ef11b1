-- Ends of a link that are up are in one connection.
use Rattle.simulator_recovery.proofs.Words.Basics.{◌≡◌, ℕ, ◌<◌, true, sym, ap, subst, ◌∙◌, same_Some}
use Rattle.simulator_recovery.proofs.Words.Links.{settled, AreTimely, reading_of, Links, seen, LinkState, is_up, Role}
use Rattle.simulator_recovery.proofs.Words.Stations.{Site, AreLinksOf, names_at, links, partners, WorldState}
use Rattle.simulator_recovery.proofs.Words.Recovery.{AreInOne, IsUpOn, LawsBelow}
use Rattle.simulator_recovery.proofs.Lemmas.Ground.ClientItem.{partners_length}
use Rattle.simulator_recovery.proofs.Lemmas.Talk.ClientLinks.{up_open}
use Rattle.simulator_recovery.proofs.Lemmas.Ground.EndCalls.{at_place}

pub in_one : LawsBelow → (site : Site) (link : ℕ) (world : WorldState) (these : Links) → link < links site → AreTimely (links site) (names_at site) these → AreLinksOf site world these → IsUpOn link world → AreInOne link these
in_one laws site link world these below timely are up =
    let id = at_place (partners site) link (subst (λ (n : ℕ). link < n) (sym (partners_length site)) below)
    in let client = are.clients link id.0 id.1
    in let kept : client.kept ≡ up.client = same_Some client.kept up.client (sym client.there ∙ up.client_there)
    in let is_up_there : is_up (these.ends link).client.link.phase ≡ true = ap (λ (l : LinkState). is_up l.phase) (client.link_is ∙ ap (settled (reading_of world.interlocking.clock)) kept) ∙ up.client_up
    in let some = laws.one_connection_some (names_at site link) (seen link these) Role.Client (timely.each link below) (up_open (these.ends link).client.link.phase is_up_there)
    in record { connection = some.0; client = some.1; server = laws.one_connection_up (names_at site link) (seen link these) (timely.each link below) is_up_there ∙ some.1 }
