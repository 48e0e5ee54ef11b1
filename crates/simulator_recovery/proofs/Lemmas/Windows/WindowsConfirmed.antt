-- What the interlocking says on a link of a station in good rounds, and what that confirms to the controller.
use Rattle.simulator_recovery.proofs.Words.Basics.{◌≡◌, ℕ, suc, ◌<◌, ◌≤◌, ◌&&◌, nat_le, Bool, true, false, if◌then◌else◌, List, [], ◌∷◌, ◌++◌, length, refl, sym, ap, subst, ◌∙◌, arith}
use Rattle.simulator_recovery.proofs.Words.Links.{SpeaksAlone, StaysAtWork, Flow, flow_after, AreAtWork, LeavesOpen, StayBelow, work_round, work_rounds, deadline, settled, Each, reading_of, Event as LinkEvent, of_link, start_of, Names, Ends, LinkState, confirmed_items, is_open, Phase}
use Rattle.simulator_recovery.proofs.Words.Interlockings.{IsTableOf, SitedTable}
use Rattle.simulator_recovery.proofs.Words.Stations.{Once, IsStation, Event, Flowing, round, names_at, starts_at_zero, links, WorldState, IsReached}
use Rattle.simulator_recovery.proofs.Words.Recovery.{ConfirmsAtOnce, HasSpokenAlone, IsUpOn, StaysBelowLimit, link_rounds, HasTime, IsWork, all_tried, clocks_of, good_rounds, LawsBelow}
use Rattle.simulator_recovery.proofs.Lemmas.Links.ComeUp.{Begun, begun_so, behind_rounds, lists_length, lists_on, rounds_open, up_on, rounds_stay}
use Rattle.simulator_recovery.proofs.Lemmas.Links.ConfirmedLinks.{settled_confirmed}
use Rattle.simulator_recovery.proofs.Lemmas.Links.HandedOver.{client_is, server_is}
use Rattle.simulator_recovery.proofs.Lemmas.Rounds.LinkRounds.{are_links}
use Rattle.simulator_recovery.proofs.Lemmas.Links.Ready.{IsUpBehind, below_front, count_front, each_front, fewer_time, front_of, hand_over, lists_front, rounds_both, ups, work_front}
use Rattle.simulator_recovery.proofs.Lemmas.Silence.Spent.{settled_given}

settled_sent : (now : ℕ) (l : LinkState) → (settled now l).sent ≡ l.sent
unfolding settled
settled_sent now l = choose (is_open l.phase && nat_le (deadline l) now)
  where
    choose : (b : Bool) → (if b then record l { phase = Phase.Closed; closed_at = deadline l; clock = now } else record l { clock = now }).sent ≡ l.sent
    choose true = refl
    choose false = refl

module _ (ready : LawsBelow) (sited : SitedTable) (station : IsStation sited.site) (once : Once sited.site) (is_table : IsTableOf sited.site sited.table) (link : ℕ) (there : link < links sited.site)
    (first : List Event) (flowing : Flowing) (work_first : Each IsWork first) (start : Begun ready sited station once is_table link there first flowing) where
  abbrev pub next : Flowing
  next = all_tried first (round flowing)

  abbrev pub names : Names
  names = names_at sited.site link

  abbrev pub lists : List (List Event) → List (List LinkEvent)
  lists some = lists_on link some next start.before

  abbrev pub passed : ℕ
  passed = length (of_link link flowing.state.run.sent)

  abbrev pub flow : Flow
  flow = flow_after names (start_of link starts_at_zero) start.is_run.events passed

  abbrev pub UpBehind : List (List Event) → Type 0
  UpBehind some = IsUpBehind ready sited station once is_table link there first flowing work_first start some

  abbrev pub at : List (List Event) → Flow
  at some = work_rounds (lists some) flow

  abbrev pub world_at : List (List Event) → WorldState
  world_at some = (good_rounds some next).state.run

  -- what the links at the ends of the rounds are
  pub up_behind : (some : List (List Event)) → UpBehind some → IsUpOn link (world_at some)
  up_behind some s = up_on ready sited station once is_table link there (world_at some) s.behind.after s.behind.are (ups ready sited station once is_table link there first flowing work_first start some s)

  pub client_at : (some : List (List Event)) (s : UpBehind some) (up : IsUpOn link (world_at some)) → (at some).ends.client.link ≡ settled (reading_of (world_at some).interlocking.clock) up.client
  client_at some s up = ap (λ (e : Ends). e.client.link) (sym s.behind.ends) ∙ client_is sited.site link there (world_at some) s.behind.after s.behind.are up

  pub server_at : (some : List (List Event)) (s : UpBehind some) (up : IsUpOn link (world_at some)) → (at some).ends.server.link ≡ settled (reading_of up.server.clock) up.server.link
  server_at some s up = ap (λ (e : Ends). e.server.link) (sym s.behind.ends) ∙ server_is sited.site link there (world_at some) s.behind.after s.behind.are up

  pub sent_at : (some : List (List Event)) (s : UpBehind some) (up : IsUpOn link (world_at some)) → (at some).ends.client.link.sent ≡ up.client.sent
  sent_at some s up = ap (λ (l : LinkState). l.sent) (client_at some s up) ∙ settled_sent (reading_of (world_at some).interlocking.clock) up.client

  pub given_at : (some : List (List Event)) (s : UpBehind some) (up : IsUpOn link (world_at some)) → (at some).ends.client.link.given ≡ up.client.given
  given_at some s up = ap (λ (l : LinkState). l.given) (client_at some s up) ∙ settled_given (reading_of (world_at some).interlocking.clock) up.client

  pub server_given_at : (some : List (List Event)) (s : UpBehind some) (up : IsUpOn link (world_at some)) → (at some).ends.server.link.given ≡ up.server.link.given
  server_given_at some s up = ap (λ (l : LinkState). l.given) (server_at some s up) ∙ settled_given (reading_of up.server.clock) up.server.link

  pub confirmed_at : (some : List (List Event)) (s : UpBehind some) (up : IsUpOn link (world_at some)) → confirmed_items (at some).ends.server.link ≡ confirmed_items up.server.link
  confirmed_at some s up = ap confirmed_items (server_at some s up) ∙ settled_confirmed (reading_of up.server.clock) up.server.link

module _ (laws : LawsBelow) (sited : SitedTable) (station : IsStation sited.site) (once : Once sited.site) (is_table : IsTableOf sited.site sited.table) (link : ℕ) (there : link < links sited.site)
    (first : List Event) (flowing : Flowing) (work_first : Each IsWork first) (start : Begun laws sited station once is_table link there first flowing) where
  abbrev Behind : List (List Event) → Type 0
  Behind some = UpBehind laws sited station once is_table link there first flowing work_first start some

  abbrev flow_at : List (List Event) → Flow
  flow_at some = at laws sited station once is_table link there first flowing work_first start some

  abbrev world : List (List Event) → WorldState
  world some = world_at laws sited station once is_table link there first flowing work_first start some

  abbrev own_names : Names
  own_names = names_at sited.site link

  abbrev lists_at : List (List Event) → List (List LinkEvent)
  lists_at some = lists laws sited station once is_table link there first flowing work_first start some

  abbrev begins : Flow
  begins = flow laws sited station once is_table link there first flowing work_first start

  -- one round more is a round at work
  record Next (rounds : List (List Event)) (last : List Event) : Type 0 where
    calls : List LinkEvent
    are : flow_at (rounds ++ last ∷ []) ≡ work_round calls (flow_at rounds)
    stays : StaysAtWork own_names (flow_at rounds) calls

  next_round : (rounds : List (List Event)) (last : List Event) → Behind (rounds ++ last ∷ []) → Next rounds last
  next_round rounds last t = record {
    calls = c.0;
    are = ap (λ (l : List (List LinkEvent)). work_rounds l begins) c.1 ∙ rounds_both (lists_at rounds) c.0 begins;
    stays = record {
      work = (work_front own_names (lists_at rounds) c.0 begins (subst (λ (l : List (List LinkEvent)). AreAtWork own_names l begins) c.1 t.behind.work)).1;
      opens = (each_front (Each LeavesOpen) (lists_at rounds) c.0 (subst (Each (Each LeavesOpen)) c.1 t.opens)).1;
      room = (below_front (lists_at rounds) c.0 begins (subst (λ (l : List (List LinkEvent)). StayBelow l begins) c.1 t.below)).1;
    };
  }
    where
      c : (calls : List LinkEvent) × (lists_at (rounds ++ last ∷ []) ≡ lists_at rounds ++ calls ∷ [])
      c = lists_front link rounds last (all_tried first (round flowing)) start.before

  module _ (rounds : List (List Event)) (one two three : List Event) (s : Behind rounds) (t : Behind (rounds ++ one ∷ [])) (u : Behind ((rounds ++ one ∷ []) ++ two ∷ [])) (v : Behind (((rounds ++ one ∷ []) ++ two ∷ []) ++ three ∷ []))
      (spoken : HasSpokenAlone link (world rounds) (world (rounds ++ one ∷ [])) (world ((rounds ++ one ∷ []) ++ two ∷ []))) where
    abbrev r1 : List (List Event)
    r1 = rounds ++ one ∷ []

    abbrev r2 : List (List Event)
    r2 = r1 ++ two ∷ []

    abbrev r3 : List (List Event)
    r3 = r2 ++ three ∷ []

    n1 : Next rounds one
    n1 = next_round rounds one t

    n2 : Next r1 two
    n2 = next_round r1 two u

    n3 : Next r2 three
    n3 = next_round r2 three v

    two_is : flow_at r2 ≡ work_round n2.calls (work_round n1.calls (flow_at rounds))
    two_is = n2.are ∙ ap (work_round n2.calls) n1.are

    three_is : flow_at r3 ≡ work_round n3.calls (work_round n2.calls (work_round n1.calls (flow_at rounds)))
    three_is = n3.are ∙ ap (work_round n3.calls) two_is

    alone : SpeaksAlone own_names (flow_at rounds) n1.calls n2.calls
    alone = record {
      first = n1.stays;
      second = subst (λ (f : Flow). StaysAtWork own_names f n2.calls) n1.are n2.stays;
      quiet = let q = spoken.quiet in let a = given_at laws sited station once is_table link there first flowing work_first start rounds s spoken.old in let b = given_at laws sited station once is_table link there first flowing work_first start r2 u spoken.new in subst (λ (f : Flow). f.ends.client.link.given ≤ (flow_at rounds).ends.client.link.given) two_is (omega (arith, q, a, b));
      speaks = subst (λ (f : Flow). f.ends.client.link.sent < (work_round n2.calls (work_round n1.calls (flow_at rounds))).ends.client.link.sent) n1.are
          (subst (λ (f : Flow). (flow_at r1).ends.client.link.sent < f.ends.client.link.sent) two_is (let q = spoken.sent in let a = sent_at laws sited station once is_table link there first flowing work_first start r1 t spoken.mid in let b = sent_at laws sited station once is_table link there first flowing work_first start r2 u spoken.new in omega (arith, q, a, b)));
    }

    still : confirmed_items (flow_at r2).ends.server.link ≤ confirmed_items (flow_at r1).ends.server.link
    still = subst (λ (f : Flow). confirmed_items f.ends.server.link ≤ confirmed_items (flow_at r1).ends.server.link) (sym two_is)
        (subst (λ (f : Flow). confirmed_items (work_round n2.calls (work_round n1.calls (flow_at rounds))).ends.server.link ≤ confirmed_items f.ends.server.link) (sym n1.are)
        (laws.quiet_clients_confirm_at_once_still own_names (start_of link starts_at_zero) start.is_run.events (length (of_link link flowing.state.run.sent)) (lists_at rounds) n1.calls n2.calls ((are_links laws sited station once).each link there) start.is_run.may
        s.behind.work s.opens s.below (let l = s.long in let n = lists_length link rounds (all_tried first (round flowing)) start.before in omega (arith, l, n)) alone))

    all : (flow_at r2).ends.client.link.taken ≤ confirmed_items (flow_at r3).ends.server.link
    all = subst (λ (f : Flow). (flow_at r2).ends.client.link.taken ≤ confirmed_items f.ends.server.link) (sym three_is)
        (subst (λ (f : Flow). f.ends.client.link.taken ≤ confirmed_items (work_round n3.calls (work_round n2.calls (work_round n1.calls (flow_at rounds)))).ends.server.link) (sym two_is)
        (laws.quiet_clients_confirm_at_once_all own_names (start_of link starts_at_zero) start.is_run.events (length (of_link link flowing.state.run.sent)) (lists_at rounds) n1.calls n2.calls n3.calls ((are_links laws sited station once).each link there) start.is_run.may
        s.behind.work s.opens s.below (let l = s.long in let n = lists_length link rounds (all_tried first (round flowing)) start.before in omega (arith, l, n)) alone (subst (λ (f : Flow). StaysAtWork own_names f n3.calls) two_is n3.stays)))

    over : (flow_at r1).ends.server.link.given ≤ (flow_at r2).ends.client.link.taken
    over =
        let p = (hand_over laws sited station once is_table link there first flowing work_first start r1 two t u).to_client
        in let a = ap (λ (e : Ends). e.server.link.given) t.behind.ends
        in let b = ap (λ (e : Ends). e.client.link.taken) u.behind.ends
        in omega (arith, p, a, b)

    pub confirmed_so : ConfirmsAtOnce link (world r1) (world r2) (world r3)
    confirmed_so =
        let one_up = up_behind laws sited station once is_table link there first flowing work_first start r1 t
        in let two_up = up_behind laws sited station once is_table link there first flowing work_first start r2 u
        in let three_up = up_behind laws sited station once is_table link there first flowing work_first start r3 v
        in record {
          first = one_up;
          second = two_up;
          third = three_up;
          still = let q = still in let a = confirmed_at laws sited station once is_table link there first flowing work_first start r1 t one_up in let b = confirmed_at laws sited station once is_table link there first flowing work_first start r2 u two_up in omega (arith, q, a, b);
          all = let q = all in let o = over in let a = server_given_at laws sited station once is_table link there first flowing work_first start r1 t one_up in let b = confirmed_at laws sited station once is_table link there first flowing work_first start r3 v three_up in omega (arith, q, o, a, b);
        }

pub confirms_at_once : LawsBelow → (between : List Event) (later_rounds : List (List Event)) (one two three : List Event) (flowing : Flowing) (link : ℕ) → Once flowing.state.sited.site → IsStation flowing.state.sited.site
    → IsTableOf flowing.state.sited.site flowing.state.sited.table → IsReached flowing.state.sited.site flowing.state.sited.table flowing.state.run → Each IsWork between → Each (Each IsWork) (((later_rounds ++ one ∷ []) ++ two ∷ []) ++ three ∷ [])
    → HasTime (suc (length (((later_rounds ++ one ∷ []) ++ two ∷ []) ++ three ∷ []))) flowing.state.run → link < links flowing.state.sited.site → link_rounds ≤ suc (length later_rounds)
    → StaysBelowLimit flowing.state.sited.site link (((later_rounds ++ one ∷ []) ++ two ∷ []) ++ three ∷ []) (all_tried between (round flowing))
    → HasSpokenAlone link (good_rounds (between ∷ later_rounds) flowing).state.run (good_rounds (between ∷ (later_rounds ++ one ∷ [])) flowing).state.run (good_rounds (between ∷ ((later_rounds ++ one ∷ []) ++ two ∷ [])) flowing).state.run
    → ConfirmsAtOnce link (good_rounds (between ∷ (later_rounds ++ one ∷ [])) flowing).state.run (good_rounds (between ∷ ((later_rounds ++ one ∷ []) ++ two ∷ [])) flowing).state.run
    (good_rounds (between ∷ (((later_rounds ++ one ∷ []) ++ two ∷ []) ++ three ∷ [])) flowing).state.run
confirms_at_once laws between later_rounds one two three flowing link once station is_table reached work works can there long below spoken =
    let sited = flowing.state.sited
    in let start = begun_so laws sited station once is_table link there between flowing refl reached work
    in let next = all_tried between (round flowing)
    in let r1 = later_rounds ++ one ∷ []
    in let r2 = r1 ++ two ∷ []
    in let r3 = r2 ++ three ∷ []
    in let c1 = count_front later_rounds one
    in let c2 = count_front r1 two
    in let c3 = count_front r2 three
    in let can3 = start.later_can (length r3) can
    in let can2 = fewer_time (length r2) (length r3) (clocks_of next.state.run) (omega (arith, c3)) can3
    in let can1 = fewer_time (length r1) (length r2) (clocks_of next.state.run) (omega (arith, c2)) can2
    in let works2 = (each_front (Each IsWork) r2 three works).0
    in let works1 = (each_front (Each IsWork) r1 two works2).0
    in let b = behind_rounds laws sited station once is_table link there between flowing work start r3 works can3
    in let v : IsUpBehind laws sited station once is_table link there between flowing work start r3
    = record { behind = b; opens = rounds_open link r3 next start.before works (rounds_stay laws sited station once is_table link there r3 next start.is); below = b.below below; long = omega (arith, long, c1, c2, c3) }
    in let u = front_of laws sited station once is_table link there between flowing work start r2 three works can3 v (omega (arith, long, c1, c2))
    in let t = front_of laws sited station once is_table link there between flowing work start r1 two works2 can2 u (omega (arith, long, c1))
    in let s = front_of laws sited station once is_table link there between flowing work start later_rounds one works1 can1 t (omega (arith, long))
    in confirmed_so laws sited station once is_table link there between flowing work start later_rounds one two three s t u v spoken
