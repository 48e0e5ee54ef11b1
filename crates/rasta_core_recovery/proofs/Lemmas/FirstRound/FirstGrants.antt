-- A client that asks, and what comes of its request in the first good round.
use Rattle.rasta_core_recovery.proofs.Words.Basics.{◌≡◌, ℕ, ◌∙◌, ◌+◌, ◌^◌, ◌≤◌, ◌<◌, Bool, true, false, nat_le, nat_lt, List, [], ◌∷◌, drop, Some, refl, sym, ap, subst, arith, leb-true, leb-false, nat_tests}
use Rattle.rasta_core_recovery.proofs.Words.Links.{stamp, wire, LinkState, is_asking, deadline, settled, state_at, Step, entered, header_of, limited, pdu_of, sending, silent, then_do, beginning, granting, judging, meeting, by_state, connected, hearing, resting, Role, Pdu, Each, Names, InFlight, Ordered, times_of}
use Rattle.rasta_core_recovery.proofs.Words.Recovery.{Flow}
use Rattle.rasta_core_recovery.proofs.Lemmas.Rounds.Calls.{Lives, heard_lives, worked_calm}
use Rattle.rasta_core_recovery.proofs.Lemmas.Rounds.Facts.{each_both, each_map, each_read, in_newest, is_inside}
use Rattle.rasta_core_recovery.proofs.Lemmas.FirstRound.FirstAsked.{Asked, IsAsked, IsRequestOf, open_asking}
use Rattle.rasta_core_recovery.proofs.Lemmas.Rounds.Links.{Pair, all_heard, end_round, heard, worked}
use Rattle.rasta_core_recovery.proofs.Lemmas.Rounds.Lists.{each_drop}
use Rattle.rasta_core_recovery.proofs.Lemmas.Rounds.Mirror.{Mirrors}
use Rattle.rasta_core_recovery.proofs.Lemmas.ComingUp.Opens.{Left, asking_link, granted_link, not_quiet, request, response, resting_link, same_eq, server_rests}
use Rattle.rasta_core_recovery.proofs.Lemmas.ComingUp.Stays.{quiet_stays, settled_out}

-- a client that asks, and what comes from it
pub record Asking (names : Names) (p : Pair) : Type 0 where
  pub link : p.client ≡ asking_link names p.client.clock p.client.closed_at p.client.own_first p.client.own_stamp
  pub fits : p.client.own_first < 2 ^ 32
  pub due : Each (λ q. q ≡ request names p.client.own_first p.client.own_stamp) p.to_server

pub asking_of : (names : Names) (f : Flow) (p : Pair) (m : Mirrors names f p) → Ordered names f.ends → Asked names f.ends → is_asking p.client ≡ true → Asking names p
asking_of names f p m ordered asked asks = subst (λ (l : LinkState). AskingAs l) m.client (record { link = was.link; fits = was.fits; due = due })
  where
    AskingAs : LinkState → Type 0
    AskingAs l = Asking names (record p { client = l })

    asks_there : is_asking f.ends.client.link ≡ true
    asks_there = ap is_asking m.client ∙ asks

    was : IsAsked names f.ends
    was = asked asks_there

    due : Each (λ q. q ≡ request names f.ends.client.link.own_first f.ends.client.link.own_stamp) p.to_server
    due = each_read names.key (λ q. q ≡ request names f.ends.client.link.own_first f.ends.client.link.own_stamp) Role.Client (f.ends.time + 10000) (drop f.passed f.ends.sent) p.to_server
        (each_map _ _ (λ d known sender can pdu read. known.1 sender
        (m.timely.ends_timed.client.in_newest (is_inside f.ends.client.link (open_asking f.ends.client.link asks_there)) ∙ ap Some (sym (in_newest names f p m ordered d known.0 can).0))
        pdu read) (drop f.passed f.ends.sent)
        (each_drop _ f.passed f.ends.sent
        (each_both (InFlight names (times_of f.ends m.timely.of_client m.timely.of_server m.timely.newest)) (IsRequestOf names f.ends) f.ends.sent m.timely.datagrams was.said)))
        m.to_server

-- ---- what a server that is outside makes of its request, which may come again and again

pub data ServerFirst (names : Names) (now closed_at : ℕ) (left : Left) (cf at : ℕ) (s : Step) : Type 0 where
  rests : s ≡ silent (resting_link names Role.Server now closed_at left) → ServerFirst names now closed_at left cf at s
  grants : s ≡ record {
    link = granted_link names now closed_at (wire left.own_first left.sent) (request names cf at) now;
    pdus = response names (wire left.own_first left.sent) (request names cf at) now ∷ [];
  } → ServerFirst names now closed_at left cf at s

module _ (names : Names) (now closed_at cf at : ℕ) (left : Left) where
  abbrev asked : Pdu
  asked = request names cf at

  abbrev sf : ℕ
  sf = wire left.own_first left.sent

  abbrev pub granted : LinkState
  granted = granted_link names now closed_at sf asked now

  lives : Lives now granted
  lives = record { connected = refl; young = omega arith; room = omega arith }

  here_young : nat_lt now (now + 1800) ≡ true
  here_young = grind (arith, nat_tests)

  pub hears_again : heard now asked granted ≡ silent granted
  unfolding hearing by_state connected state_at deadline
  hears_again = heard_lives now asked granted lives ∙ rw (same_eq names.server, same_eq names.client, here_young, same_eq (wire cf 0), same_eq (stamp at)) refl

  all_again : (ps : List Pdu) → Each (λ q. q ≡ asked) ps → all_heard now ps granted ≡ silent granted
  unfolding all_heard
  all_again [] each = refl
  all_again (q ∷ ps) each = ap (λ (r : Pdu). then_do (heard now r granted) (λ l. all_heard now ps l)) each.0
      ∙ ap (λ (s : Step). then_do s (λ l. all_heard now ps l)) hears_again
      ∙ ap (λ (s : Step). then_do (silent granted) (λ l. s)) (all_again ps each.1)

  pub hears_first : closed_at + 6000 ≤ now → heard now asked (resting_link names Role.Server now closed_at left) ≡ record { link = granted; pdus = response names sf asked now ∷ [] }
  unfolding heard hearing by_state resting granting judging meeting state_at beginning sending header_of pdu_of entered limited settled deadline
  hears_first over = rw (not_quiet _ _ over, same_eq names.server, same_eq names.client) refl

  works_on : worked now Role.Server granted ≡ silent granted
  works_on = worked_calm now Role.Server granted lives refl

  takes_it : (q : Pdu) (ps : List Pdu) → closed_at + 6000 ≤ now → q ≡ asked → Each (λ q. q ≡ asked) ps
      → all_heard now (q ∷ ps) (resting_link names Role.Server now closed_at left) ≡ record { link = granted; pdus = response names sf asked now ∷ [] }
  unfolding all_heard
  takes_it q ps over is each = ap (λ (r : Pdu). then_do (heard now r (resting_link names Role.Server now closed_at left)) (λ l. all_heard now ps l)) is
      ∙ ap (λ (s : Step). then_do s (λ l. all_heard now ps l)) (hears_first over)
      ∙ ap (λ (s : Step). then_do (record { link = granted; pdus = response names sf asked now ∷ [] }) (λ l. s)) (all_again ps each)

pub server_first : (names : Names) (clock closed_at cf at : ℕ) (left : Left) (ps : List Pdu) → Each (λ q. q ≡ request names cf at) ps
    → ServerFirst names (clock + 10) closed_at left cf at (end_round (clock + 10) ps (resting_link names Role.Server clock closed_at left))
unfolding end_round
server_first names clock closed_at cf at left ps each = choose (nat_le (closed_at + 6000) (clock + 10)) refl
  where
    out : LinkState
    out = resting_link names Role.Server clock closed_at left

    by_list : (qs : List Pdu) → Each (λ q. q ≡ request names cf at) qs → closed_at + 6000 ≤ clock + 10
        → ServerFirst names (clock + 10) closed_at left cf at
        (then_do (all_heard (clock + 10) qs (settled (clock + 10) (resting_link names Role.Server clock closed_at left))) (λ k. worked (clock + 10) Role.Server k))
    by_list [] is over = rests (server_rests names clock closed_at left)
    by_list (q ∷ qs) is over = grants (
        ap (λ (l : LinkState). then_do (all_heard (clock + 10) (q ∷ qs) l) (λ k. worked (clock + 10) Role.Server k)) (settled_out (clock + 10) (resting_link names Role.Server clock closed_at left) refl)
        ∙ ap (λ (s : Step). then_do s (λ k. worked (clock + 10) Role.Server k)) (takes_it names (clock + 10) closed_at cf at left q qs over is.0 is.1)
        ∙ ap (λ (s : Step). then_do
        (record { link = granted names (clock + 10) closed_at cf at left; pdus = response names (wire left.own_first left.sent) (request names cf at) (clock + 10) ∷ [] }) (λ k. s))
        (works_on names (clock + 10) closed_at cf at left)
        )

    choose : (b : Bool) → nat_le (closed_at + 6000) (clock + 10) ≡ b
        → ServerFirst names (clock + 10) closed_at left cf at (end_round (clock + 10) ps (resting_link names Role.Server clock closed_at left))
    choose false e = rests (quiet_stays (clock + 10) ps (resting_link names Role.Server clock closed_at left) refl (leb-false _ _ e))
    choose true e = by_list ps each (leb-true _ _ e)
