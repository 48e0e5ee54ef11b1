-- The links of a station are ready at both ends, as long as nothing closes them.
use Rattle.simulator_recovery.proofs.Words.Basics.{◌≡◌, ℕ, zero, suc, ◌+◌, ◌-◌, ◌*◌, ◌<◌, ◌≤◌, List, [], ◌∷◌, ◌++◌, length, refl, sym, ap, subst, ◌∙◌, arith}
use Rattle.simulator_recovery.proofs.Words.Links.{AreUp, Flow, BeginAtWork, AreAtWork, HandOver, HaveRoom, IsAtWork, LeavesOpen, StayBelow, recovery_rounds_at_work, work_round, work_rounds, Each, Event as LinkEvent, Links, of_link, seen, start_of, Names, Ends, later}
use Rattle.simulator_recovery.proofs.Words.Interlockings.{IsTableOf, is_ready, SitedTable}
use Rattle.simulator_recovery.proofs.Words.Stations.{Once, IsStation, Event, Flowing, round, names_at, starts_at_zero, controller_at, links, WorldState, IsStanding, IsReached}
use Rattle.simulator_recovery.proofs.Words.Recovery.{first_ready_rounds, StaysBelowLimit, calls_on, links_behind, HostIsAt, IsReadyOn, ready_rounds, HasTime, IsWork, all_tried, clocks_of, good_rounds, LawsBelow}
use Rattle.simulator_recovery.proofs.Lemmas.Ground.AtLink.{AtLink, at_link, client_said, told_once}
use Rattle.simulator_recovery.proofs.Lemmas.Links.ComeUp.{BegunAt, BehindAt, Begun, begins_so, begun_at, begun_so, behind_at, flow_at, lists_length, lists_on, rounds_open, up_at, up_on, rounds_stay}
use Rattle.simulator_recovery.proofs.Lemmas.Rounds.LinkRounds.{are_links}
use Rattle.simulator_recovery.proofs.Lemmas.Links.Moments.{Moment, Passes, client_is_ready, host_is_ready, two_taken}
use Rattle.simulator_recovery.proofs.Lemmas.Rounds.Rounds.{rounds_reached}
use Rattle.simulator_recovery.proofs.Lemmas.Talk.Standing.{stand_by_counts}

-- ---- lists by their last

pub record Last {X : Type 0} (count : ℕ) (list : List X) : Type 0 where
  pub front : List X
  pub last : X
  pub are : list ≡ front ++ last ∷ []
  pub long : length front ≡ count

pub last_of : {X : Type 0} (count : ℕ) (list : List X) → length list ≡ suc count → Last count list
last_of count [] long = absurd (omega (arith, long))
last_of zero (x ∷ []) long = record { front = []; last = x; are = refl; long = refl }
last_of zero (x ∷ (y ∷ list)) long = absurd (omega (arith, long))
last_of (suc count) (x ∷ list) long = let more = last_of count list (omega (arith, long)) in record { front = x ∷ more.front; last = more.last; are = ap (λ l. x ∷ l) more.are; long = omega (arith, more.long) }

pub each_front : {X : Type 0} (P : X → Type 0) (front : List X) (last : X) → Each P (front ++ last ∷ []) → Each P front × P last
each_front P [] last each = (tt, each.0)
each_front P (x ∷ front) last each = let more = each_front P front last each.1 in ((each.0, more.0), more.1)

pub count_front : {X : Type 0} (front : List X) (last : X) → length (front ++ last ∷ []) ≡ length front + 1
count_front [] last = omega arith
count_front (x ∷ front) last = let more = count_front front last in omega (arith, more)

-- ---- rounds at work by their last

pub rounds_both : (front : List (List LinkEvent)) (last : List LinkEvent) (f : Flow) → work_rounds (front ++ last ∷ []) f ≡ work_round last (work_rounds front f)
rounds_both [] last f = refl
rounds_both (first ∷ front) last f = rounds_both front last (work_round first f)

pub work_front : (names : Names) (front : List (List LinkEvent)) (last : List LinkEvent) (f : Flow) → AreAtWork names (front ++ last ∷ []) f → AreAtWork names front f × IsAtWork names (work_rounds front f) last
work_front names [] last f work = (tt, work.0)
work_front names (first ∷ front) last f work = let more = work_front names front last (work_round first f) work.1 in ((work.0, more.0), more.1)

begin_front : (names : Names) (front : List (List LinkEvent)) (last : List LinkEvent) (f : Flow) → 1 ≤ length front → BeginAtWork names (front ++ last ∷ []) f
    → BeginAtWork names front f × IsAtWork names (work_rounds front f) last
begin_front names [] last f some work = absurd (omega (arith, some))
begin_front names (first ∷ front) last f some work = let more = work_front names front last (work_round first f) work.1 in ((work.0, more.0), more.1)

pub below_front : (front : List (List LinkEvent)) (last : List LinkEvent) (f : Flow) → StayBelow (front ++ last ∷ []) f → StayBelow front f × HaveRoom last (later 10000 10000 10000 (work_rounds front f).ends)
below_front [] last f below = (tt, below.0)
below_front (first ∷ front) last f below = let more = below_front front last (work_round first f) below.1 in ((below.0, more.0), more.1)

pub lists_front : (link : ℕ) (front : List (List Event)) (last : List Event) (flowing : Flowing) (before : Links) → (calls : List LinkEvent) × (lists_on link (front ++ last ∷ []) flowing before ≡ lists_on link front flowing before ++ calls ∷ [])
lists_front link [] last flowing before = (calls_on link last flowing before, refl)
lists_front link (first ∷ front) last flowing before =
    let more = lists_front link front last (all_tried first (round flowing)) (links_behind first flowing before)
    in (more.0, ap (λ (l : List (List LinkEvent)). calls_on link first flowing before ∷ l) more.1)

pub fewer_time : (n m : ℕ) (clocks : List ℕ) → n ≤ m → Each (λ clock. clock + 10000 * m ≤ 9000000000000000) clocks → Each (λ clock. clock + 10000 * n ≤ 9000000000000000) clocks
fewer_time n m [] few each = tt
fewer_time n m (clock ∷ clocks) few each = (omega (arith, few, each.0), fewer_time n m clocks few each.1)

-- ---- one link

-- what was given at one moment is taken at the next
passes_so : (old new : Ends) → HandOver old new → Passes old.client.link old.server.link new.client.link new.server.link
passes_so old new h = record { to_server = h.to_server.counts; server_few = h.to_server.few; to_client = h.to_client.counts; client_few = h.to_client.few }

module _ (laws : LawsBelow) (sited : SitedTable) (station : IsStation sited.site) (once : Once sited.site) (is_table : IsTableOf sited.site sited.table) (link : ℕ) (there : link < links sited.site)
    (old next : Flowing) (start : BegunAt laws sited station once is_table link there old next) where
  abbrev pub lists : List (List Event) → List (List LinkEvent)
  lists rounds = lists_on link rounds next start.before

  abbrev pub flow : Flow
  flow = flow_at laws sited station once is_table link there old next start

  abbrev pub Behind : List (List Event) → Type 0
  Behind rounds = BehindAt laws sited station once is_table link there old next start rounds

  -- What is so after rounds that are enough for the link to be up.
  pub record IsUpAt (rounds : List (List Event)) : Type 0 where
    pub behind : Behind rounds
    pub opens : Each (Each LeavesOpen) (lists rounds)
    pub below : StayBelow (lists rounds) flow
    pub long : recovery_rounds_at_work ≤ length rounds

  -- And after one round less: its client is up already.
  pub record IsSoonUpAt (rounds : List (List Event)) : Type 0 where
    pub behind : Behind rounds
    pub opens : Each (Each LeavesOpen) (lists rounds)
    pub below : StayBelow (lists rounds) flow
    pub long : recovery_rounds_at_work ≤ suc (length rounds)

  abbrev soon_of : (rounds : List (List Event)) → IsUpAt rounds → IsSoonUpAt rounds
  soon_of rounds s = record { behind = s.behind; opens = s.opens; below = s.below; long = let l = s.long in omega (arith, l) }

  many : (rounds : List (List Event)) → length (lists rounds) ≡ length rounds
  many rounds = lists_length link rounds next start.before

  pub ups_at : (rounds : List (List Event)) → (s : IsUpAt rounds) → AreUp (seen link s.behind.after)
  ups_at rounds s = up_at laws sited station once is_table link there old next start rounds s.behind s.opens s.below (let l = s.long in omega (arith, l, many rounds))

  abbrev world_at : List (List Event) → WorldState
  world_at rounds = (good_rounds rounds next).state.run

  reached_at : (rounds : List (List Event)) → IsReached sited.site sited.table (world_at rounds)
  reached_at rounds = (rounds_reached laws sited rounds next start.is).reached

  standing_at : (rounds : List (List Event)) → IsStanding sited.site (world_at rounds)
  standing_at rounds = let reached = reached_at rounds in subst (IsStanding sited.site) (sym reached.after) (laws.stations_have_links_run sited.site sited.table reached.outset reached.events station once reached.lies reached.can)

  abbrev Moments : (rounds : List (List Event)) → IsUpAt rounds → Type 0
  Moments rounds s = AtLink sited.site station (world_at rounds) (standing_at rounds).whole (stand_by_counts sited.site sited.table (world_at rounds) station (reached_at rounds)) link (s.behind.after.ends link).client.link (s.behind.after.ends link).server.link

  at_moment : (rounds : List (List Event)) → (s : IsUpAt rounds) → Moments rounds s
  at_moment rounds s = at_link sited.site station (world_at rounds) (standing_at rounds).whole (stand_by_counts sited.site sited.table (world_at rounds) station (reached_at rounds)) link s.behind.after there s.behind.are (ups_at rounds s)

  -- from one round to the next
  handed : (front : List (List Event)) (last : List Event) → (s : IsSoonUpAt front) → (t : IsUpAt (front ++ last ∷ [])) → HandOver (seen link s.behind.after) (seen link t.behind.after)
  handed front last s t = subst (λ (old : Ends). HandOver old (seen link t.behind.after)) (sym s.behind.ends) (subst (HandOver (work_rounds (lists front) flow).ends) (sym then_is) over)
    where
      calls : (calls : List LinkEvent) × (lists (front ++ last ∷ []) ≡ lists front ++ calls ∷ [])
      calls = lists_front link front last next start.before

      work : BeginAtWork (names_at sited.site link) (lists front) flow × IsAtWork (names_at sited.site link) (work_rounds (lists front) flow) calls.0
      work = begin_front (names_at sited.site link) (lists front) calls.0 flow (let l = s.long in omega (arith, l, many front))
          (subst (λ (l : List (List LinkEvent)). BeginAtWork (names_at sited.site link) l flow) calls.1
          (begins_so start.any_first (names_at sited.site link) (lists (front ++ last ∷ [])) flow t.behind.work))

      opened : Each (Each LeavesOpen) (lists front) × Each LeavesOpen calls.0
      opened = each_front (Each LeavesOpen) (lists front) calls.0 (subst (Each (Each LeavesOpen)) calls.1 t.opens)

      room : StayBelow (lists front) flow × HaveRoom calls.0 (later 10000 10000 10000 (work_rounds (lists front) flow).ends)
      room = below_front (lists front) calls.0 flow (subst (λ (l : List (List LinkEvent)). StayBelow l flow) calls.1 t.below)

      then_is : seen link t.behind.after ≡ (work_round calls.0 (work_rounds (lists front) flow)).ends
      then_is = t.behind.ends ∙ ap (λ (l : List (List LinkEvent)). (work_rounds l flow).ends) calls.1 ∙ ap (λ (f : Flow). f.ends) (rounds_both (lists front) calls.0 flow)

      over : HandOver (work_rounds (lists front) flow).ends (work_round calls.0 (work_rounds (lists front) flow)).ends
      over = laws.two_ends_at_work_hand_over (names_at sited.site link) (start_of link starts_at_zero) start.is_run.events (length (of_link link old.state.run.sent)) (lists front) calls.0 ((are_links laws sited station once).each link there) start.is_run.may
          work.0 opened.0 room.0 (let l = s.long in omega (arith, l, many front)) work.1 opened.1 room.1

  pub all_over_at : (front : List (List Event)) (last : List Event) → (s : IsUpAt front) → (t : IsUpAt (front ++ last ∷ [])) → HandOver (seen link s.behind.after) (seen link t.behind.after)
  all_over_at front last s t = handed front last (soon_of front s) t

  pub hand_over_at : (front : List (List Event)) (last : List Event) → (s : IsUpAt front) → (t : IsUpAt (front ++ last ∷ [])) → Passes (s.behind.after.ends link).client.link (s.behind.after.ends link).server.link (t.behind.after.ends link).client.link (t.behind.after.ends link).server.link
  hand_over_at front last s t = passes_so (seen link s.behind.after) (seen link t.behind.after) (all_over_at front last s t)

  -- the rounds but for the last
  soon_front_of : (front : List (List Event)) (last : List Event) → Each (Each IsWork) (front ++ last ∷ []) → HasTime (length (front ++ last ∷ [])) next.state.run → IsUpAt (front ++ last ∷ []) → recovery_rounds_at_work ≤ suc (length front) → IsSoonUpAt front
  soon_front_of front last works can t long = record {
    behind = behind_at laws sited station once is_table link there old next start front (each_front (Each IsWork) front last works).0 (fewer_time (length front) (length (front ++ last ∷ [])) (clocks_of next.state.run) (let n = count_front front last in omega (arith, n)) can);
    opens = (each_front (Each LeavesOpen) (lists front) calls.0 (subst (Each (Each LeavesOpen)) calls.1 t.opens)).0;
    below = (below_front (lists front) calls.0 flow (subst (λ (l : List (List LinkEvent)). StayBelow l flow) calls.1 t.below)).0;
    long = long;
  }
    where
      calls : (calls : List LinkEvent) × (lists (front ++ last ∷ []) ≡ lists front ++ calls ∷ [])
      calls = lists_front link front last next start.before

  pub front_at : (front : List (List Event)) (last : List Event) → Each (Each IsWork) (front ++ last ∷ []) → HasTime (length (front ++ last ∷ [])) next.state.run → IsUpAt (front ++ last ∷ []) → recovery_rounds_at_work ≤ length front → IsUpAt front
  front_at front last works can t long = let s = soon_front_of front last works can t (omega (arith, long)) in record { behind = s.behind; opens = s.opens; below = s.below; long = long }

  -- five moments, one after the other, in the first of which the client has given an item
  module _ (r0 r1 r2 r3 r4 : List (List Event)) (t0 : IsSoonUpAt r0) (said0 : 1 ≤ (t0.behind.after.ends link).client.link.given) (t1 : IsUpAt r1) (t2 : IsUpAt r2) (t3 : IsUpAt r3) (t4 : IsUpAt r4)
      (p1 : Passes (t0.behind.after.ends link).client.link (t0.behind.after.ends link).server.link (t1.behind.after.ends link).client.link (t1.behind.after.ends link).server.link)
      (p2 : Passes (t1.behind.after.ends link).client.link (t1.behind.after.ends link).server.link (t2.behind.after.ends link).client.link (t2.behind.after.ends link).server.link)
      (p3 : Passes (t2.behind.after.ends link).client.link (t2.behind.after.ends link).server.link (t3.behind.after.ends link).client.link (t3.behind.after.ends link).server.link)
      (p4 : Passes (t3.behind.after.ends link).client.link (t3.behind.after.ends link).server.link (t4.behind.after.ends link).client.link (t4.behind.after.ends link).server.link) where
    last : Moments r4 t4
    last = at_moment r4 t4

    moment : (rounds : List (List Event)) (t : IsUpAt rounds) → Moment last.objects (t.behind.after.ends link).client.link (t.behind.after.ends link).server.link
    moment rounds t = let m = at_moment rounds t in subst (λ (n : ℕ). Moment n (t.behind.after.ends link).client.link (t.behind.after.ends link).server.link) (told_once sited.site (controller_at sited.site link) m.objects last.objects m.told last.told) m.moment

    is_ready_then : IsReadyOn sited.site link (world_at r4)
    is_ready_then = record {
      up = up_on laws sited station once is_table link there (world_at r4) t4.behind.after t4.behind.are (ups_at r4 t4);
      client = last.at;
      there = last.there;
      client_ready = ap is_ready (sym last.stage_is) ∙ client_is_ready last.objects last.few _ _ _ _ _ _ _ _ _ _ said0 (moment r1 t1) (moment r2 t2) (moment r3 t3) last.moment p1 p2 p3 p4;
      host_ready = subst (HostIsAt (controller_at sited.site link) (world_at r4)) (host_is_ready last.objects last.few _ _ _ _ _ _ _ _ _ _ said0 (moment r1 t1) (moment r2 t2) (moment r3 t3) last.moment p1 p2 p3 p4) last.host_at;
    }

  -- one round less
  record Less (rounds : List (List Event)) (t : IsUpAt rounds) : Type 0 where
    front : List (List Event)
    works : Each (Each IsWork) front
    can : HasTime (length front) next.state.run
    one_less : length front + 1 ≡ length rounds
    stage : IsUpAt front
    passes : Passes (stage.behind.after.ends link).client.link (stage.behind.after.ends link).server.link (t.behind.after.ends link).client.link (t.behind.after.ends link).server.link

  abbrev GoesBack : List (List Event) → Type 0
  GoesBack rounds = Each (Each IsWork) rounds → HasTime (length rounds) next.state.run → suc recovery_rounds_at_work ≤ length rounds → (t : IsUpAt rounds) → Less rounds t

  goes_back : (rounds : List (List Event)) → GoesBack rounds
  goes_back rounds works can long t = by_last (last_of (length rounds - 1) rounds (omega (arith, long))) works can long t
    where
      of_last : (front : List (List Event)) (last : List Event) → GoesBack (front ++ last ∷ [])
      of_last front last works can long t =
          let count = count_front front last
          in let s = front_at front last works can t (omega (arith, long, count))
          in record {
            front = front;
            works = (each_front (Each IsWork) front last works).0;
            can = fewer_time (length front) (length (front ++ last ∷ [])) (clocks_of next.state.run) (omega (arith, count)) can;
            one_less = sym count;
            stage = s;
            passes = hand_over_at front last s t;
          }

      by_last : Last (length rounds - 1) rounds → GoesBack rounds
      by_last l = subst GoesBack (sym l.are) (of_last l.front l.last)

  -- and before both are up: the client is up, and has given an item
  record SoonLess (rounds : List (List Event)) (t : IsUpAt rounds) : Type 0 where
    front : List (List Event)
    stage : IsSoonUpAt front
    said : 1 ≤ (stage.behind.after.ends link).client.link.given
    passes : Passes (stage.behind.after.ends link).client.link (stage.behind.after.ends link).server.link (t.behind.after.ends link).client.link (t.behind.after.ends link).server.link

  abbrev GoesSoonBack : List (List Event) → Type 0
  GoesSoonBack rounds = Each (Each IsWork) rounds → HasTime (length rounds) next.state.run → (t : IsUpAt rounds) → SoonLess rounds t

  goes_soon_back : (rounds : List (List Event)) → 1 ≤ length rounds → GoesSoonBack rounds
  goes_soon_back rounds some = by_last (last_of (length rounds - 1) rounds (omega (arith, some)))
    where
      of_last : (front : List (List Event)) (last : List Event) → GoesSoonBack (front ++ last ∷ [])
      of_last front last works can t =
          let count = count_front front last
          in let s = soon_front_of front last works can t (let l = t.long in omega (arith, l, count))
          in let h = handed front last s t
          in record {
            front = front;
            stage = s;
            said = client_said sited.site station (world_at front) (standing_at front).whole (stand_by_counts sited.site sited.table (world_at front) station (reached_at front)) link s.behind.after there s.behind.are h.client_up;
            passes = passes_so (seen link s.behind.after) (seen link t.behind.after) h;
          }

      by_last : Last (length rounds - 1) rounds → GoesSoonBack rounds
      by_last l = subst GoesSoonBack (sym l.are) (of_last l.front l.last)

  -- the rounds in which the link comes up, and three more
  pub ready_at : (rounds : List (List Event)) → Each (Each IsWork) rounds → HasTime (length rounds) next.state.run → first_ready_rounds ≤ length rounds → StaysBelowLimit sited.site link rounds next
      → IsReadyOn sited.site link (world_at rounds)
  ready_at rounds works can long below =
      let b = behind_at laws sited station once is_table link there old next start rounds works can
      in let whole : IsUpAt rounds = record { behind = b; opens = rounds_open link rounds next start.before works (rounds_stay laws sited station once is_table link there rounds next start.is); below = b.below below; long = omega (arith, long) }
      in let b3 = goes_back rounds works can (omega (arith, long)) whole
      in let b2 = goes_back b3.front b3.works b3.can (omega (arith, long, b3.one_less)) b3.stage
      in let b1 = goes_back b2.front b2.works b2.can (omega (arith, long, b3.one_less, b2.one_less)) b2.stage
      in let b0 = goes_soon_back b1.front (omega (arith, long, b3.one_less, b2.one_less, b1.one_less)) b1.works b1.can b1.stage
      in is_ready_then b0.front b1.front b2.front b3.front rounds b0.stage b0.said b1.stage b2.stage b3.stage whole b0.passes b1.passes b2.passes b3.passes

  -- and a controller has taken two items one round before
  two_taken_then : (r0 r1 r2 r3 : List (List Event)) (t0 : IsSoonUpAt r0) → 1 ≤ (t0.behind.after.ends link).client.link.given → (t1 : IsUpAt r1) (t2 : IsUpAt r2) (t3 : IsUpAt r3)
      → Passes (t0.behind.after.ends link).client.link (t0.behind.after.ends link).server.link (t1.behind.after.ends link).client.link (t1.behind.after.ends link).server.link
      → Passes (t1.behind.after.ends link).client.link (t1.behind.after.ends link).server.link (t2.behind.after.ends link).client.link (t2.behind.after.ends link).server.link
      → Passes (t2.behind.after.ends link).client.link (t2.behind.after.ends link).server.link (t3.behind.after.ends link).client.link (t3.behind.after.ends link).server.link
      → 2 ≤ (t3.behind.after.ends link).server.link.taken
  two_taken_then r0 r1 r2 r3 t0 said t1 t2 t3 p1 p2 p3 = two_taken last.objects last.few (t0.behind.after.ends link).client.link (t0.behind.after.ends link).server.link (t1.behind.after.ends link).client.link (t1.behind.after.ends link).server.link
      (t2.behind.after.ends link).client.link (t2.behind.after.ends link).server.link (t3.behind.after.ends link).client.link (t3.behind.after.ends link).server.link said (moment_of r1 t1) (moment_of r2 t2) p1 p2 p3
    where
      last : Moments r3 t3
      last = at_moment r3 t3

      moment_of : (some : List (List Event)) (t : IsUpAt some) → Moment last.objects (t.behind.after.ends link).client.link (t.behind.after.ends link).server.link
      moment_of some t = let m = at_moment some t in subst (λ (n : ℕ). Moment n (t.behind.after.ends link).client.link (t.behind.after.ends link).server.link) (told_once sited.site (controller_at sited.site link) m.objects last.objects m.told last.told) m.moment

  pub two_taken_at : (rounds : List (List Event)) → Each (Each IsWork) rounds → HasTime (length rounds) next.state.run → ready_rounds ≤ suc (suc (length rounds)) → (whole : IsUpAt rounds) → 2 ≤ (whole.behind.after.ends link).server.link.taken
  two_taken_at rounds works can long whole =
      let b2 = goes_back rounds works can (omega (arith, long)) whole
      in let b1 = goes_back b2.front b2.works b2.can (omega (arith, long, b2.one_less)) b2.stage
      in let b0 = goes_soon_back b1.front (omega (arith, long, b2.one_less, b1.one_less)) b1.works b1.can b1.stage
      in two_taken_then b0.front b1.front b2.front rounds b0.stage b0.said b1.stage b2.stage whole b0.passes b1.passes b2.passes

-- The rounds after a first one.
module _ (laws : LawsBelow) (sited : SitedTable) (station : IsStation sited.site) (once : Once sited.site) (is_table : IsTableOf sited.site sited.table) (link : ℕ) (there : link < links sited.site)
    (first : List Event) (flowing : Flowing) (work_first : Each IsWork first) (start : Begun laws sited station once is_table link there first flowing) where
  abbrev then_flowing : Flowing
  then_flowing = all_tried first (round flowing)

  abbrev begun : BegunAt laws sited station once is_table link there flowing then_flowing
  begun = begun_at laws sited station once is_table link there first flowing work_first start

  abbrev pub IsUpBehind : List (List Event) → Type 0
  IsUpBehind rounds = IsUpAt laws sited station once is_table link there flowing then_flowing begun rounds

  pub ups : (rounds : List (List Event)) → (s : IsUpBehind rounds) → AreUp (seen link s.behind.after)
  ups rounds s = ups_at laws sited station once is_table link there flowing then_flowing begun rounds s

  pub all_over : (front : List (List Event)) (last : List Event) → (s : IsUpBehind front) → (t : IsUpBehind (front ++ last ∷ [])) → HandOver (seen link s.behind.after) (seen link t.behind.after)
  all_over front last s t = all_over_at laws sited station once is_table link there flowing then_flowing begun front last s t

  pub hand_over : (front : List (List Event)) (last : List Event) → (s : IsUpBehind front) → (t : IsUpBehind (front ++ last ∷ [])) → Passes (s.behind.after.ends link).client.link (s.behind.after.ends link).server.link (t.behind.after.ends link).client.link (t.behind.after.ends link).server.link
  hand_over front last s t = hand_over_at laws sited station once is_table link there flowing then_flowing begun front last s t

  pub front_of : (front : List (List Event)) (last : List Event) → Each (Each IsWork) (front ++ last ∷ []) → HasTime (length (front ++ last ∷ [])) then_flowing.state.run → IsUpBehind (front ++ last ∷ []) → recovery_rounds_at_work ≤ length front → IsUpBehind front
  front_of front last works can t long = front_at laws sited station once is_table link there flowing then_flowing begun front last works can t long

  pub two_taken_behind : (rounds : List (List Event)) → Each (Each IsWork) rounds → HasTime (length rounds) then_flowing.state.run → ready_rounds ≤ suc (suc (length rounds)) → (whole : IsUpBehind rounds) → 2 ≤ (whole.behind.after.ends link).server.link.taken
  two_taken_behind rounds works can long whole = two_taken_at laws sited station once is_table link there flowing then_flowing begun rounds works can long whole

pub links_ready : LawsBelow → (between : List Event) (later_rounds : List (List Event)) (flowing : Flowing) (link : ℕ) → Once flowing.state.sited.site → IsStation flowing.state.sited.site
    → IsTableOf flowing.state.sited.site flowing.state.sited.table → IsReached flowing.state.sited.site flowing.state.sited.table flowing.state.run → Each IsWork between → Each (Each IsWork) later_rounds
    → HasTime (suc (length later_rounds)) flowing.state.run → link < links flowing.state.sited.site → ready_rounds ≤ suc (length later_rounds)
    → StaysBelowLimit flowing.state.sited.site link later_rounds (all_tried between (round flowing)) → IsReadyOn flowing.state.sited.site link (good_rounds (between ∷ later_rounds) flowing).state.run
links_ready laws between later_rounds flowing link once station is_table reached work works can there long below =
    let start = begun_so laws flowing.state.sited station once is_table link there between flowing refl reached work
    in ready_at laws flowing.state.sited station once is_table link there flowing (all_tried between (round flowing)) (begun_at laws flowing.state.sited station once is_table link there between flowing work start) later_rounds works (start.later_can (length later_rounds) can) (omega (arith, long)) below
