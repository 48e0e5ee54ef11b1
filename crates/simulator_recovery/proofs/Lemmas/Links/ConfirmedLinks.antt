-- Where a controller says something in a good round, the interlocking's link holds for confirmed after the next what it had taken then.
use Rattle.simulator_recovery.proofs.Words.Basics.{◌≡◌, ℕ, suc, ◌<◌, ◌≤◌, ◌&&◌, nat_le, Bool, true, false, if◌then◌else◌, List, [], ◌∷◌, ◌++◌, length, refl, sym, ap, subst, ◌∙◌, arith}
use Rattle.simulator_recovery.proofs.Words.Links.{Accepts, StaysAtWork, in_round, with_reply, Flow, flow_after, AreAtWork, LeavesOpen, StayBelow, work_round, work_rounds, deadline, settled, Each, reading_of, Event as LinkEvent, run, Links, of_link, seen, start_of, Names, Ends, later, LinkState, confirmed_items, is_open, Phase}
use Rattle.simulator_recovery.proofs.Words.Interlockings.{IsTableOf, SitedTable}
use Rattle.simulator_recovery.proofs.Words.Stations.{Once, IsStation, Event, Flowing, round, names_at, starts_at_zero, links, IsReached}
use Rattle.simulator_recovery.proofs.Words.Recovery.{HasConfirmed, IsUpOn, StaysBelowLimit, calls_on, link_rounds, links_behind, RepliesAfter, RepliesBehind, RepliesOn, HasTime, IsWork, all_tried, clocks_of, good_rounds, LawsBelow}
use Rattle.simulator_recovery.proofs.Lemmas.Links.ComeUp.{Begun, begun_so, behind_rounds, links_after, lists_length, lists_on, rounds_open, up_on, rounds_stay}
use Rattle.simulator_recovery.proofs.Lemmas.Links.HandedOver.{client_is}
use Rattle.simulator_recovery.proofs.Lemmas.Rounds.LinkRounds.{are_links}
use Rattle.simulator_recovery.proofs.Lemmas.Links.Ready.{IsUpBehind, below_front, count_front, each_front, fewer_time, front_of, lists_front, rounds_both, ups, work_front}
use Rattle.simulator_recovery.proofs.Lemmas.Silence.Spent.{settled_given}

pub settled_confirmed : (now : ℕ) (l : LinkState) → confirmed_items (settled now l) ≡ confirmed_items l
unfolding settled
settled_confirmed now l = choose (is_open l.phase && nat_le (deadline l) now)
  where
    choose : (b : Bool) → confirmed_items (if b then record l { phase = Phase.Closed; closed_at = deadline l; clock = now } else record l { clock = now }) ≡ confirmed_items l
    choose true = refl
    choose false = refl

-- the calls of the round in which the controller says something
replies_at : (link : ℕ) (rounds : List (List Event)) (between : List Event) (flowing : Flowing) (before : Links) → RepliesAfter link rounds between flowing before
    → RepliesOn link between (good_rounds rounds flowing) (links_after rounds flowing before)
    × (lists_on link (rounds ++ between ∷ []) flowing before ≡ lists_on link rounds flowing before ++ calls_on link between (good_rounds rounds flowing) (links_after rounds flowing before) ∷ [])
replies_at link [] between flowing before replies = (replies, refl)
replies_at link (first ∷ rounds) between flowing before replies =
    let more = replies_at link rounds between (all_tried first (round flowing)) (links_behind first flowing before) replies
    in (more.0, ap (λ (l : List (List LinkEvent)). calls_on link first flowing before ∷ l) more.1)

module _ (laws : LawsBelow) (sited : SitedTable) (station : IsStation sited.site) (once : Once sited.site) (is_table : IsTableOf sited.site sited.table) (link : ℕ) (there : link < links sited.site)
    (first : List Event) (flowing : Flowing) (work_first : Each IsWork first) (start : Begun laws sited station once is_table link there first flowing)
    (rounds : List (List Event)) (between last : List Event) where
  abbrev next : Flowing
  next = all_tried first (round flowing)

  abbrev names : Names
  names = names_at sited.site link

  abbrev lists : List (List Event) → List (List LinkEvent)
  lists some = lists_on link some next start.before

  abbrev passed : ℕ
  passed = length (of_link link flowing.state.run.sent)

  abbrev flow : Flow
  flow = flow_after names (start_of link starts_at_zero) start.is_run.events passed

  abbrev UpBehind : List (List Event) → Type 0
  UpBehind some = IsUpBehind laws sited station once is_table link there first flowing work_first start some

  module _ (s : UpBehind rounds) (m : UpBehind (rounds ++ between ∷ [])) (t : UpBehind ((rounds ++ between ∷ []) ++ last ∷ [])) (replies : RepliesAfter link rounds between next start.before) where
    r : RepliesOn link between (good_rounds rounds next) (links_after rounds next start.before)
    r = (replies_at link rounds between next start.before replies).0

    abbrev reply : List LinkEvent
    reply = with_reply r.front r.item r.rest

    abbrev at : Flow
    at = work_rounds (lists rounds) flow

    lists_are : lists (rounds ++ between ∷ []) ≡ lists rounds ++ reply ∷ []
    lists_are = (replies_at link rounds between next start.before replies).1 ∙ ap (λ (c : List LinkEvent). lists rounds ++ c ∷ []) r.are

    seen_is : seen link (links_after rounds next start.before) ≡ at.ends
    seen_is = ap (seen link) (sym s.behind.after_is) ∙ s.behind.ends

    then_is : work_rounds (lists (rounds ++ between ∷ [])) flow ≡ work_round reply at
    then_is = ap (λ (l : List (List LinkEvent)). work_rounds l flow) lists_are ∙ rounds_both (lists rounds) reply flow

    first_round : StaysAtWork names at reply
    first_round = record {
      work = (work_front names (lists rounds) reply flow (subst (λ (l : List (List LinkEvent)). AreAtWork names l flow) lists_are m.behind.work)).1;
      opens = (each_front (Each LeavesOpen) (lists rounds) reply (subst (Each (Each LeavesOpen)) lists_are m.opens)).1;
      room = (below_front (lists rounds) reply flow (subst (λ (l : List (List LinkEvent)). StayBelow l flow) lists_are m.below)).1;
    }

    calls : (calls : List LinkEvent) × (lists ((rounds ++ between ∷ []) ++ last ∷ []) ≡ lists (rounds ++ between ∷ []) ++ calls ∷ [])
    calls = lists_front link (rounds ++ between ∷ []) last next start.before

    second_round : StaysAtWork names (work_round reply at) calls.0
    second_round = subst (λ (f : Flow). StaysAtWork names f calls.0) then_is (record {
      work = (work_front names (lists (rounds ++ between ∷ [])) calls.0 flow (subst (λ (l : List (List LinkEvent)). AreAtWork names l flow) calls.1 t.behind.work)).1;
      opens = (each_front (Each LeavesOpen) (lists (rounds ++ between ∷ [])) calls.0 (subst (Each (Each LeavesOpen)) calls.1 t.opens)).1;
      room = (below_front (lists (rounds ++ between ∷ [])) calls.0 flow (subst (λ (l : List (List LinkEvent)). StayBelow l flow) calls.1 t.below)).1;
    })

    end_is : seen link t.behind.after ≡ (work_round calls.0 (work_round reply at)).ends
    end_is = t.behind.ends ∙ ap (λ (l : List (List LinkEvent)). (work_rounds l flow).ends) calls.1 ∙ ap (λ (f : Flow). f.ends) (rounds_both (lists (rounds ++ between ∷ [])) calls.0 flow)
        ∙ ap (λ (f : Flow). (work_round calls.0 f).ends) then_is

    accepts : Accepts (in_round r.front at).server
    accepts = subst (λ (ends : Ends). Accepts (run r.front (later 10000 10000 10000 ends)).server) seen_is r.accepts

    has_taken : (seen link s.behind.after).client.link.given ≤ (in_round r.front at).server.link.taken
    has_taken = subst (λ (ends : Ends). ends.client.link.given ≤ (in_round r.front at).server.link.taken) (sym s.behind.ends)
        (subst (λ (ends : Ends). ends.client.link.given ≤ (run r.front (later 10000 10000 10000 ends)).server.link.taken) seen_is r.has_taken)

    over : (in_round r.front at).server.link.taken ≤ confirmed_items (seen link t.behind.after).client.link
    over = subst (λ (ends : Ends). (in_round r.front at).server.link.taken ≤ confirmed_items ends.client.link) (sym end_is)
        (laws.two_ends_at_work_confirm names (start_of link starts_at_zero) start.is_run.events passed (lists rounds) r.front r.item r.rest calls.0 ((are_links laws sited station once).each link there) start.is_run.may
        s.behind.work s.opens s.below (let l = s.long in let n = lists_length link rounds next start.before in omega (arith, l, n)) first_round second_round accepts)

    pub confirms : HasConfirmed link (good_rounds rounds next).state.run (good_rounds ((rounds ++ between ∷ []) ++ last ∷ []) next).state.run
    confirms = record {
      before = was;
      behind = up;
      confirmed = let taken = has_taken in let more = over in omega (arith, taken, more, client_given, client_confirmed);
    }
      where
        was : IsUpOn link (good_rounds rounds next).state.run
        was = up_on laws sited station once is_table link there (good_rounds rounds next).state.run s.behind.after s.behind.are (ups laws sited station once is_table link there first flowing work_first start rounds s)

        up : IsUpOn link (good_rounds ((rounds ++ between ∷ []) ++ last ∷ []) next).state.run
        up = up_on laws sited station once is_table link there (good_rounds ((rounds ++ between ∷ []) ++ last ∷ []) next).state.run t.behind.after t.behind.are
            (ups laws sited station once is_table link there first flowing work_first start ((rounds ++ between ∷ []) ++ last ∷ []) t)

        client_given : (seen link s.behind.after).client.link.given ≡ was.client.given
        client_given = ap (λ (l : LinkState). l.given) (client_is sited.site link there (good_rounds rounds next).state.run s.behind.after s.behind.are was) ∙ settled_given (reading_of (good_rounds rounds next).state.run.interlocking.clock) was.client

        client_confirmed : confirmed_items (seen link t.behind.after).client.link ≡ confirmed_items up.client
        client_confirmed = ap confirmed_items (client_is sited.site link there (good_rounds ((rounds ++ between ∷ []) ++ last ∷ []) next).state.run t.behind.after t.behind.are up)
            ∙ settled_confirmed (reading_of (good_rounds ((rounds ++ between ∷ []) ++ last ∷ []) next).state.run.interlocking.clock) up.client

pub links_confirm : LawsBelow → (between : List Event) (later_rounds : List (List Event)) (replied last : List Event) (flowing : Flowing) (link : ℕ) → Once flowing.state.sited.site → IsStation flowing.state.sited.site
    → IsTableOf flowing.state.sited.site flowing.state.sited.table → IsReached flowing.state.sited.site flowing.state.sited.table flowing.state.run → Each IsWork between → Each (Each IsWork) ((later_rounds ++ replied ∷ []) ++ last ∷ [])
    → HasTime (suc (length ((later_rounds ++ replied ∷ []) ++ last ∷ []))) flowing.state.run → link < links flowing.state.sited.site → link_rounds ≤ suc (length later_rounds)
    → StaysBelowLimit flowing.state.sited.site link ((later_rounds ++ replied ∷ []) ++ last ∷ []) (all_tried between (round flowing))
    → RepliesBehind flowing.state.sited.site link later_rounds replied (all_tried between (round flowing))
    → HasConfirmed link (good_rounds (between ∷ later_rounds) flowing).state.run (good_rounds (between ∷ ((later_rounds ++ replied ∷ []) ++ last ∷ [])) flowing).state.run
links_confirm laws between later_rounds replied last flowing link once station is_table reached work works can there long below replies =
    let sited = flowing.state.sited
    in let start = begun_so laws sited station once is_table link there between flowing refl reached work
    in let next = all_tried between (round flowing)
    in let middle = later_rounds ++ replied ∷ []
    in let rounds = middle ++ last ∷ []
    in let count = count_front middle last
    in let count_middle = count_front later_rounds replied
    in let later_can = start.later_can (length rounds) can
    in let b = behind_rounds laws sited station once is_table link there between flowing work start rounds works later_can
    in let t : IsUpBehind laws sited station once is_table link there between flowing work start rounds
    = record { behind = b; opens = rounds_open link rounds next start.before works (rounds_stay laws sited station once is_table link there rounds next start.is); below = b.below below; long = omega (arith, long, count, count_middle) }
    in let m = front_of laws sited station once is_table link there between flowing work start middle last works later_can t (omega (arith, long, count_middle))
    in let s = front_of laws sited station once is_table link there between flowing work start later_rounds replied (each_front (Each IsWork) middle last works).0
    (fewer_time (length middle) (length rounds) (clocks_of next.state.run) (omega (arith, count)) later_can) m (omega (arith, long))
    in confirms laws sited station once is_table link there between flowing work start later_rounds replied last s m t (replies start.before start.has.are)
