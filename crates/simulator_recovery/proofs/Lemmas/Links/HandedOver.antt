-- What is given on a link of a station by one round has come over after the next.
use Rattle.simulator_recovery.proofs.Words.Basics.{◌≡◌, ℕ, suc, ◌^◌, ◌<◌, ◌≤◌, List, [], ◌∷◌, ◌++◌, length, Some, slice_get, refl, sym, ap, subst, ◌∙◌, arith, same_Some}
use Rattle.simulator_recovery.proofs.Words.Links.{settled, Each, reading_of, Links, LinkState}
use Rattle.simulator_recovery.proofs.Words.Interlockings.{IsTableOf}
use Rattle.simulator_recovery.proofs.Words.Stations.{Site, Once, IsStation, Event, Flowing, round, AreLinksOf, ServerEnd, links, partners, WorldState, IsReached}
use Rattle.simulator_recovery.proofs.Words.Recovery.{HasHandedOver, IsUpOn, StaysBelowLimit, link_rounds, HasTime, IsWork, all_tried, good_rounds, LawsBelow}
use Rattle.simulator_recovery.proofs.Lemmas.Ground.ClientItem.{partners_length}
use Rattle.simulator_recovery.proofs.Lemmas.Links.ComeUp.{begun_so, behind_rounds, rounds_open, up_on, rounds_stay}
use Rattle.simulator_recovery.proofs.Lemmas.Ground.EndCalls.{at_place}
use Rattle.simulator_recovery.proofs.Lemmas.Links.Moments.{Passes}
use Rattle.simulator_recovery.proofs.Lemmas.Links.Ready.{IsUpBehind, count_front, front_of, hand_over, ups}
use Rattle.simulator_recovery.proofs.Lemmas.Silence.Spent.{settled_given, settled_taken}

-- ---- the ends of a link that is up

module _ (site : Site) (link : ℕ) (there : link < links site) (world : WorldState) (these : Links) (are : AreLinksOf site world these) (up : IsUpOn link world) where
  id : (one : ℕ) × (slice_get (partners site) link ≡ Some one)
  id = at_place (partners site) link (subst (λ (n : ℕ). link < n) (sym (partners_length site)) there)

  pub client_is : (these.ends link).client.link ≡ settled (reading_of world.interlocking.clock) up.client
  client_is = let client = are.clients link id.0 id.1 in client.link_is ∙ ap (settled (reading_of world.interlocking.clock)) (same_Some client.kept up.client (sym client.there ∙ up.client_there))

  pub server_is : (these.ends link).server.link ≡ settled (reading_of up.server.clock) up.server.link
  server_is = let server = are.servers link id.0 id.1 in server.link_is ∙ ap (λ (s : ServerEnd). settled (reading_of s.clock) s.link) (same_Some server.kept up.server (sym server.there ∙ up.server_there))

handed : (site : Site) (link : ℕ) (there : link < links site) (old new : WorldState) (before after : Links) (are_old : AreLinksOf site old before) (are_new : AreLinksOf site new after) (was : IsUpOn link old) (up : IsUpOn link new)
    → Passes (before.ends link).client.link (before.ends link).server.link (after.ends link).client.link (after.ends link).server.link → HasHandedOver link old new
handed site link there old new before after are_old are_new was up p = record {
  before = was;
  behind = up;
  to_controller = omega (arith, p.to_server, client_given, server_taken);
  controller_few = subst (λ (n : ℕ). n < 2 ^ 31) server_taken p.server_few;
  to_interlocking = omega (arith, p.to_client, server_given, client_taken);
  interlocking_few = subst (λ (n : ℕ). n < 2 ^ 31) client_taken p.client_few;
}
  where
    client_given : (before.ends link).client.link.given ≡ was.client.given
    client_given = ap (λ (l : LinkState). l.given) (client_is site link there old before are_old was) ∙ settled_given (reading_of old.interlocking.clock) was.client

    server_given : (before.ends link).server.link.given ≡ was.server.link.given
    server_given = ap (λ (l : LinkState). l.given) (server_is site link there old before are_old was) ∙ settled_given (reading_of was.server.clock) was.server.link

    client_taken : (after.ends link).client.link.taken ≡ up.client.taken
    client_taken = ap (λ (l : LinkState). l.taken) (client_is site link there new after are_new up) ∙ settled_taken (reading_of new.interlocking.clock) up.client

    server_taken : (after.ends link).server.link.taken ≡ up.server.link.taken
    server_taken = ap (λ (l : LinkState). l.taken) (server_is site link there new after are_new up) ∙ settled_taken (reading_of up.server.clock) up.server.link

-- ---- two rounds

pub hands_over : LawsBelow → (between : List Event) (later_rounds : List (List Event)) (last : List Event) (flowing : Flowing) (link : ℕ) → Once flowing.state.sited.site → IsStation flowing.state.sited.site
    → IsTableOf flowing.state.sited.site flowing.state.sited.table → IsReached flowing.state.sited.site flowing.state.sited.table flowing.state.run → Each IsWork between → Each (Each IsWork) (later_rounds ++ last ∷ [])
    → HasTime (suc (length (later_rounds ++ last ∷ []))) flowing.state.run → link < links flowing.state.sited.site → link_rounds ≤ suc (length later_rounds)
    → StaysBelowLimit flowing.state.sited.site link (later_rounds ++ last ∷ []) (all_tried between (round flowing))
    → HasHandedOver link (good_rounds (between ∷ later_rounds) flowing).state.run (good_rounds (between ∷ (later_rounds ++ last ∷ [])) flowing).state.run
hands_over laws between later_rounds last flowing link once station is_table reached work works can there long below =
    let sited = flowing.state.sited
    in let start = begun_so laws sited station once is_table link there between flowing refl reached work
    in let next = all_tried between (round flowing)
    in let rounds = later_rounds ++ last ∷ []
    in let count = count_front later_rounds last
    in let later_can = start.later_can (length rounds) can
    in let b = behind_rounds laws sited station once is_table link there between flowing work start rounds works later_can
    in let t : IsUpBehind laws sited station once is_table link there between flowing work start rounds
    = record { behind = b; opens = rounds_open link rounds next start.before works (rounds_stay laws sited station once is_table link there rounds next start.is); below = b.below below; long = omega (arith, long, count) }
    in let s = front_of laws sited station once is_table link there between flowing work start later_rounds last works later_can t (omega (arith, long))
    in handed sited.site link there (good_rounds later_rounds next).state.run (good_rounds rounds next).state.run s.behind.after t.behind.after s.behind.are t.behind.are
    (up_on laws sited station once is_table link there (good_rounds later_rounds next).state.run s.behind.after s.behind.are (ups laws sited station once is_table link there between flowing work start later_rounds s))
    (up_on laws sited station once is_table link there (good_rounds rounds next).state.run t.behind.after t.behind.are (ups laws sited station once is_table link there between flowing work start rounds t))
    (hand_over laws sited station once is_table link there between flowing work start later_rounds last s t)
