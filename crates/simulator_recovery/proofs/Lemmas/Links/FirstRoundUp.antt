-- A link of a station comes up from the first of good rounds on, where nothing old of it is said again in that.
use Rattle.simulator_recovery.proofs.Words.Basics.{◌≡◌, ◌≢◌, ℕ, zero, suc, ◌⊎◌, inl, inr, ◌∙◌, ◌+◌, ◌*◌, ◌<◌, ◌≤◌, ◌==◌, Bool, true, false, List, [], ◌∷◌, ◌++◌, append-nil, length, map, drop, Some, None, Ok, refl, sym, ap, subst, arith, nat_tests, ◌↔◌, IsTrue, ◌-◌}
use Rattle.simulator_recovery.proofs.Words.Links.{IsFirstAtWork, WereSent, IsWorkAt, all_coming, calls_in, due_to, newest_copy, Each, AreTimely, Call, Sent, InFlight, AreLinks, IsAmongAll, Links, OnLink, begun, of_link, run_links, name_of, partner_of, Role}
use Rattle.simulator_recovery.proofs.Words.Interlockings.{IsTableOf, reading, IsIntact, intact, Key, Pdu, SitedTable}
use Rattle.simulator_recovery.proofs.Words.Stations.{Site, Once, IsStation, Event, RoundEvent, Flowing, deliveries, round, round_of_time, names_at, starts_at_zero, datagrams_of, key_of, links, WorldState, Played, after, arrival_in, refusal_of, IsStanding, IsReached}
use Rattle.simulator_recovery.proofs.Words.Recovery.{NoneIsSaidAgain, behind_arrivals, first_link_rounds, first_ready_rounds, IsUpOn, StaysBelowLimit, all_events_tried, calls_on, event_of, flow_of, links_behind, IsReadyOn, HasTime, IsWork, all_tried, clocks_of, good_rounds, LawsBelow}
use Rattle.simulator_recovery.proofs.Lemmas.Rounds.Arrives.{passed_time}
use Rattle.simulator_recovery.proofs.Lemmas.Rounds.AtWork.{IsFrom, IsRoundOn, all_from, each_by_link, has_behind, round_on, table_sections, time_followed, time_is}
use Rattle.simulator_recovery.proofs.Lemmas.Rounds.Clocks.{CanGoOn, HasAll, time_may_pass}
use Rattle.simulator_recovery.proofs.Lemmas.Links.ComeUp.{BegunAt, RoundsOn, behind_at, lists_length, one_before, rounds_open, through, up_at, up_on, rounds_stay}
use Rattle.simulator_recovery.proofs.Lemmas.Ground.EndCalls.{IsFront, all_called_at}
use Rattle.simulator_recovery.proofs.Lemmas.Links.FirstRoundArrives.{IsFound, IsTriedOn, alive_comes, all_before, all_in_place, all_sent, all_there, arrivals_there, first_arrive, found_is}
use Rattle.simulator_recovery.proofs.Lemmas.Silence.Fresh.{same_pdu}
use Rattle.simulator_recovery.proofs.Lemmas.Rounds.LinkRounds.{HasThese, after_each, are_links, round_tried, tried_each}
use Rattle.simulator_recovery.proofs.Lemmas.Links.Ready.{ready_at}
use Rattle.simulator_recovery.proofs.Lemmas.Rounds.Rounds.{IsAt, each_can, each_later, has_all, one_round, round_reached, time_happens, tried_happens, work_reached}
use Rattle.simulator_recovery.proofs.Lemmas.Rounds.Sends.{leaves_fresh, time_sends_none}

abbrev pub ReadIsIntact : Type 0
ReadIsIntact = (key : Key) (bytes : List ℕ) (pdu : Pdu) → reading key bytes ≡ Ok pdu → IsIntact key bytes

abbrev pub IntactIsTested : Type 0
IntactIsTested = (key : Key) (bytes : List ℕ) → IsTrue (intact key bytes) ↔ IsIntact key bytes

-- ---- what a flow hasn't gone past

pub record IsSplit (n : ℕ) (xs : List OnLink) : Type 0 where
  pub front : List OnLink
  pub are : xs ≡ front ++ drop n xs
  pub many : length (drop n xs) ≡ length xs - n
  pub at : (length front ≡ n) ⊎ (drop n xs ≡ [])

pub split : (n : ℕ) (xs : List OnLink) → IsSplit n xs
split zero xs = record { front = []; are = refl; many = omega arith; at = inl refl }
split (suc n) [] = record { front = []; are = refl; many = omega arith; at = inr refl }
split (suc n) (x ∷ xs) = let s = split n xs in record { front = x ∷ s.front; are = ap (λ (l : List OnLink). x ∷ l) s.are; many = let m = s.many in omega (arith, m); at = further s.front s.at }
  where
    further : (ys : List OnLink) → (length ys ≡ n) ⊎ (drop n xs ≡ []) → (suc (length ys) ≡ suc n) ⊎ (drop n xs ≡ [])
    further ys (inl e) = inl (ap suc e)
    further ys (inr e) = inr e

none_due : (world : Played) (place n : ℕ) → n ≡ 0 → deliveries (arrival_in world) place n ≡ []
unfolding deliveries
none_due world place zero e = refl
none_due world place (suc n) e = absurd (omega (arith, e))

all_due : (world : Played) (n : ℕ) (s : IsSplit n world.run.sent) → deliveries (arrival_in world) n (length world.run.sent - n) ≡ arrivals_there n (drop n world.run.sent)
all_due world n s = choose s.at
  where
    choose : (length s.front ≡ n) ⊎ (drop n world.run.sent ≡ []) → deliveries (arrival_in world) n (length world.run.sent - n) ≡ arrivals_there n (drop n world.run.sent)
    choose (inl e) = subst (λ (k : ℕ). deliveries (arrival_in world) k (length world.run.sent - n) ≡ arrivals_there k (drop n world.run.sent)) e
        (all_there world s.front (drop n world.run.sent) (length world.run.sent - n) s.are (sym s.many))
    choose (inr none) = none_due world n (length world.run.sent - n) (sym s.many ∙ ap (λ (l : List OnLink). length l) none) ∙ sym (ap (arrivals_there n) none)

-- ---- of which link a copy is

-- a datagram of a link, as it is read
record IsSpelled (site : Site) (one : OnLink) : Type 0 where
  below : one.link < links site
  pdu : Pdu
  read : reading (key_of site) one.datagram.bytes ≡ Ok pdu
  receiver : pdu.receiver ≡ name_of (partner_of one.datagram.sender) (names_at site one.link)
  sender : pdu.sender ≡ name_of one.datagram.sender (names_at site one.link)

abbrev Flying : Site → ℕ → Sent → Type 0
Flying site link d = (pdu : Pdu) × (reading (key_of site) d.bytes ≡ Ok pdu) × (pdu.receiver ≡ name_of (partner_of d.sender)
    (names_at site link)) × (pdu.sender ≡ name_of d.sender (names_at site link))

flying : (site : Site) (link : ℕ) (times : _) (list : List Sent) → Each (InFlight (names_at site link) times) list → Each (Flying site link) list
flying site link times [] each = tt
flying site link times (first ∷ others) each = ((each.0.pdu, each.0.read, each.0.receiver, each.0.sender), flying site link times others each.1)

all_spelled : (site : Site) (these : Links) → AreTimely (links site) (names_at site) these → Each (IsSpelled site) these.sent
all_spelled site these timely = spell these.sent timely.numbered (each_by_link (Flying site) (links site) these.sent timely.numbered
    (λ link below. let t = timely.each link below in flying site link _ (of_link link these.sent) t.datagrams))
  where
    spell : (list : List OnLink) → Each (λ (one : OnLink). one.link < links site) list → Each (λ (one : OnLink). Flying site one.link one.datagram) list
        → Each (IsSpelled site) list
    spell [] below each = tt
    spell (one ∷ list) below each = (record { below = below.0; pdu = each.0.0; read = each.0.1; receiver = each.0.2; sender = each.0.3 }, spell list below.1 each.1)

-- names tell the link and the sender
one_of : (site : Site) → AreLinks (links site) (names_at site) → (l m : ℕ) → l < links site → m < links site → (a b : Role)
    → name_of (partner_of a) (names_at site l) ≡ name_of (partner_of b) (names_at site m) → name_of a (names_at site l) ≡ name_of b (names_at site m) → (l ≡ m) × (a ≡ b)
one_of site are l m l_below m_below a b receivers senders = choose (l == m) refl
  where
    is_same_number : (l == m) ≡ true → l ≡ m
    is_same_number e = grind (arith, nat_tests)

    is_other : (l == m) ≡ false → l ≢ m
    is_other e same = absurd (not_same e same)
      where
        not_same : (l == m) ≡ false → l ≡ m → ⊥
        not_same e f = grind (arith, nat_tests)

    differ : (x y : Role) → l ≡ m → name_of x (names_at site l) ≡ name_of y (names_at site m) → x ≡ y
    differ Role.Client Role.Client e f = refl
    differ Role.Server Role.Server e f = refl
    differ Role.Client Role.Server e f = absurd ((are.each l l_below).differ (f ∙ ap (λ (n : ℕ). (names_at site n).server) (sym e)))
    differ Role.Server Role.Client e f = absurd ((are.each l l_below).differ (sym (f ∙ ap (λ (n : ℕ). (names_at site n).client) (sym e))))

    never : (x y : Role) → l ≢ m → name_of (partner_of x) (names_at site l) ≡ name_of (partner_of y) (names_at site m)
        → name_of x (names_at site l) ≡ name_of y (names_at site m) → ⊥
    never Role.Client Role.Client other r s = (are.apart l m l_below m_below other).0 r
    never Role.Client Role.Server other r s = (are.apart l m l_below m_below other).1 r
    never Role.Server Role.Client other r s = (are.apart l m l_below m_below other).1 s
    never Role.Server Role.Server other r s = (are.apart l m l_below m_below other).0 s

    choose : (c : Bool) → (l == m) ≡ c → (l ≡ m) × (a ≡ b)
    choose true e = (is_same_number e, differ a b (is_same_number e) senders)
    choose false e = absurd (never a b (is_other e) receivers senders)

each_among : (P : OnLink → Type 0) (list : List OnLink) (one : OnLink) → Each P list → IsAmongAll one list → P one
each_among P [] one each is = absurd is
each_among P (x ∷ list) one each (inl same) = subst P same each.0
each_among P (x ∷ list) one each (inr is) = each_among P list one each.1 is

-- a copy is of the link and the sender of what it is a copy of
same_as : (site : Site) → AreLinks (links site) (names_at site) → (one other : OnLink) → IsSpelled site one → IsSpelled site other → other.datagram.bytes ≡ one.datagram.bytes
    → (other.link ≡ one.link) × (other.datagram.sender ≡ one.datagram.sender)
same_as site are one other o p same = one_of site are other.link one.link p.below o.below other.datagram.sender one.datagram.sender
    (sym p.receiver ∙ ap (λ (q : Pdu). q.receiver) pdus ∙ o.receiver) (sym p.sender ∙ ap (λ (q : Pdu). q.sender) pdus ∙ o.sender)
  where
    pdus : p.pdu ≡ o.pdu
    pdus = same_pdu (ap (reading (key_of site)) (sym same) ∙ p.read) o.read

as_pair : (one : OnLink) (link : ℕ) (d : Sent) → one.link ≡ link → one.datagram ≡ d → one ≡ record { link = link; datagram = d }
as_pair one link d e f = two e f
  where
    packed : ℕ → Sent → OnLink
    packed l x = record { link = l; datagram = x }

    two : {l m : ℕ} {x y : Sent} → l ≡ m → x ≡ y → packed l x ≡ packed m y
    two a b = cc (a, b)

module _ (read : ReadIsIntact) (tested : IntactIsTested) (site : Site) (are : AreLinks (links site) (names_at site)) (time : ℕ) (sent last : List OnLink)
    (spelled : Each (IsSpelled site) sent) where
  copy_of_it : (one : OnLink) (c : Sent) → IsSpelled site one → newest_copy time one.datagram.bytes (datagrams_of sent) ≡ Some c
      → IsAmongAll (record { link = one.link; datagram = c }) sent × (c.sender ≡ one.datagram.sender)
  copy_of_it one c is e = (
    subst (λ (o : OnLink). IsAmongAll o sent) (as_pair f.one one.link c same.0 f.is) f.among,
    ap (λ (d : Sent). d.sender) (sym f.is) ∙ same.1,
  )
    where
      f : IsFound time one.datagram.bytes sent c
      f = found_is time one.datagram.bytes sent c e

      same : (f.one.link ≡ one.link) × (f.one.datagram.sender ≡ one.datagram.sender)
      same = same_as site are one f.one is (each_among (IsSpelled site) sent f.one spelled f.among)
          (ap (λ (d : Sent). d.bytes) f.is ∙ (alive_comes time one.datagram.bytes c f.alive).1)

  each_tried : (link : ℕ) (list : List OnLink) → Each (IsSpelled site) list
      → Each (λ (one : OnLink). one.link ≡ link → one.datagram.is_lost ≡ false → newest_copy time one.datagram.bytes (datagrams_of sent) ≡ None
      → newest_copy time one.datagram.bytes (datagrams_of last) ≡ None) list
      → Each (IsTriedOn link site time sent last) list
  each_tried link [] from again = tt
  each_tried link (one ∷ list) from again = (
    λ same. record {
      whole = (tested (key_of site) one.datagram.bytes).1 (read (key_of site) one.datagram.bytes from.0.pdu from.0.read);
      gone = again.0 same;
      of_link = λ c e. (copy_of_it one c from.0 e).0;
      of_sender = λ c e. (copy_of_it one c from.0 e).1;
    },
    each_tried link list from.1 again.1,
  )

each_front : {X : Type 0} (P : X → Type 0) (xs ys : List X) → Each P (xs ++ ys) → Each P ys
each_front P [] ys each = each
each_front P (x ∷ xs) ys each = each_front P xs ys each.1

-- ---- the first round and those after it

module _ (laws : LawsBelow) (read : ReadIsIntact) (tested : IntactIsTested) (flowing : Flowing) (link : ℕ) (once : Once flowing.state.sited.site) (station : IsStation flowing.state.sited.site)
    (is_table : IsTableOf flowing.state.sited.site flowing.state.sited.table) (reached : IsReached flowing.state.sited.site flowing.state.sited.table flowing.state.run)
    (there : link < links flowing.state.sited.site) (again : NoneIsSaidAgain link flowing) where
  abbrev pub sited : SitedTable
  sited = flowing.state.sited

  abbrev pub world : WorldState
  world = flowing.state.run

  sections : length sited.table.detectors ≡ length sited.site.detectors
  sections = table_sections sited.site sited.table is_table

  pub standing : IsStanding sited.site world
  standing = subst (IsStanding sited.site) (sym reached.after) (laws.stations_have_links_run sited.site sited.table reached.outset reached.events station once reached.lies reached.can)

  named : AreLinks (links sited.site) (names_at sited.site)
  named = are_links laws sited station once

  abbrev pub these : Links
  these = run_links standing.linked.events (begun (names_at sited.site) starts_at_zero)

  these_timely : AreTimely (links sited.site) (names_at sited.site) these
  these_timely = laws.links_keep_time_run (links sited.site) (names_at sited.site) standing.linked.events (begun (names_at sited.site) starts_at_zero) named
      (laws.links_keep_time_starts (links sited.site) (names_at sited.site) starts_at_zero named) standing.linked.may

  has : HasThese sited flowing.state these
  has = record { same = refl; whole = standing.whole; timely = these_timely; are = standing.linked.are }

  is : IsAt sited flowing.state
  is = record { same = refl; reached = reached }

  all : HasAll sited.site world
  all = has_all laws sited world station once reached

  pub s : IsSplit flowing.passed world.sent
  s = split flowing.passed world.sent

  abbrev more : List OnLink
  more = drop flowing.passed world.sent

  -- a flow of which these were sent before the last round
  abbrev pub old : Flowing
  old = record flowing { state = record flowing.state { run = record world { sent = s.front } } }

  abbrev time : ℕ
  time = world.time + 10000

  abbrev come : List RoundEvent
  come = arrivals_there flowing.passed more

  abbrev behind_it : Played
  behind_it = after flowing.state (round_of_time sited.site)

  now_sent : behind_it.run.sent ≡ world.sent ++ []
  now_sent = (time_sends_none flowing.state).sent ∙ sym (append-nil world.sent)

  abbrev mid : Played
  mid = after_each (map event_of come) behind_it

  mid_is : behind_arrivals flowing ≡ mid
  mid_is = tried_each (map event_of (deliveries (arrival_in flowing.state) flowing.passed (length world.sent - flowing.passed)))
      (record flowing { state = behind_it })
      ∙ ap (λ (l : List RoundEvent). after_each (map event_of l) behind_it) (all_due flowing.state flowing.passed s)

  from : Each (IsFrom sited.site) more
  from = all_from sited.site these s.front more these_timely (has.are.sent_is ∙ s.are)

  spelled : Each (IsSpelled sited.site) world.sent
  spelled = subst (Each (IsSpelled sited.site)) has.are.sent_is (all_spelled sited.site these these_timely)

  tried : Each (IsTriedOn link sited.site time world.sent mid.run.sent) more
  tried = each_tried read tested sited.site named time world.sent mid.run.sent spelled link more
      (each_front (IsSpelled sited.site) s.front more (subst (Each (IsSpelled sited.site)) s.are spelled))
      (subst (λ (l : List OnLink). Each (λ (one : OnLink). one.link ≡ link → one.datagram.is_lost ≡ false
      → newest_copy time one.datagram.bytes (datagrams_of world.sent) ≡ None
      → newest_copy time one.datagram.bytes (datagrams_of l) ≡ None) more) (ap (λ (w : Played). w.run.sent) mid_is) again)

  -- what comes in the places of what is tried in it, on this link
  abbrev due_in_all : List OnLink
  due_in_all = all_in_place time world.sent more

  -- what comes in it, at each end of each link
  abbrev due_at : Role → ℕ → List (List ℕ)
  due_at who on_link = all_coming (all_called_at who on_link (all_events_tried (map event_of come) behind_it))

  module _ (able : Each CanGoOn (clocks_of world)) where
    goes : refusal_of (round_of_time sited.site) flowing.state ≡ None
    goes = time_may_pass sited.site world all able

    now : behind_it.run.time ≡ time
    now = ap (λ (w : Played). w.run.time) (tried_happens flowing.state (round_of_time sited.site) goes) ∙ ap (λ (w : WorldState). w.time) (time_happens sited.site sited.table world)
        ∙ passed_time 10000 _ world

    comes : (who : Role) (on_link : ℕ) → IsFront (due_at who on_link) (all_called_at who on_link (all_events_tried (map event_of come) behind_it))
    comes who on_link = record {
      comes = refl;
      before = all_before laws sited station once sections who on_link flowing.passed more behind_it _
          (time_followed laws sited station once sections flowing these has).has from;
    }

    due_is : (who : Role) → due_at who link ≡ due_to who time (of_link link due_in_all)
    due_is who = (first_arrive laws sited station once sections who link time world.sent mid.run.sent flowing.passed more [] behind_it _
        (time_followed laws sited station once sections flowing these has).has now now_sent from tried refl).comes

    module _ (between : List Event) (work : Each IsWork between) where
      abbrev passed_at : ℕ
      passed_at = length (of_link link s.front)

      r : IsRoundOn sited.site due_at flowing between these link
      r = round_on laws sited station once sections due_at flowing come (all_due flowing.state flowing.passed s) between these work has goes comes link there

      as_timed : (who : Role) (calls : List Call) → IsWorkAt who (due_at who link) calls → IsWorkAt who (due_to who (these.time + 10000) (of_link link due_in_all)) calls
      as_timed who calls is_work = subst (λ (t : ℕ). IsWorkAt who (due_to who (t + 10000) (of_link link due_in_all)) calls) (sym has.are.time_is)
          (subst (λ (due : List (List ℕ)). IsWorkAt who due calls) (due_is who) is_work)

      one : IsFirstAtWork (names_at sited.site link) (flow_of link passed_at these) (calls_on link between flowing these)
      one = record {
        due = of_link link due_in_all;
        comes = inl (subst (λ (l : List OnLink). WereSent (of_link link l) (of_link link due_in_all)) (sym has.are.sent_is)
            (all_sent sited.site time world.sent mid.run.sent link more tried));
        may = r.may;
        only = r.only;
        client = as_timed Role.Client (calls_in Role.Client (calls_on link between flowing these)) r.client;
        server = as_timed Role.Server (calls_in Role.Server (calls_on link between flowing these)) r.server;
      }

      abbrev next : Flowing
      next = all_tried between (round flowing)

      next_has : HasThese sited next.state (links_behind between flowing these)
      next_has = subst (λ (w : Played). HasThese sited w (links_behind between flowing these)) (sym (round_tried between flowing))
          (has_behind laws sited station once sections due_at flowing come (all_due flowing.state flowing.passed s) between these work has goes comes)

      next_is : IsAt sited next.state
      next_is = work_reached laws sited between (round flowing) (round_reached laws sited flowing is)

  goes_through : (rounds : List (List Event)) → Each (Each IsWork) rounds → HasTime (length rounds) world
      → RoundsOn true sited.site link rounds (flow_of link (length (of_link link s.front)) these) flowing these
  goes_through [] works can = record { after = these; are = has.are; work = tt; ends = refl; below = λ stay. tt; after_is = refl }
  goes_through (between ∷ later_rounds) (work, works) can =
      let able : Each CanGoOn (clocks_of world) = each_can (length later_rounds) (clocks_of world) can
      in one_before laws sited station once is_table link there true (length (of_link link s.front)) between later_rounds flowing these work
      (time_is laws sited station once sections flowing refl (goes able)) has.are (r able between work).leads (λ later_work. (one able between work, later_work))
      (through laws sited station once is_table link there later_rounds flowing (next able between work) (leaves_fresh between flowing work) (links_behind between flowing these)
      (next_has able between work)
      (next_is able between work) works
      (subst (Each (λ clock. clock + 10000 * length later_rounds ≤ 9000000000000000)) (sym (one_round between flowing work all able).clocks) (each_later (length later_rounds) (clocks_of world) can)))

  pub begun_at_once : BegunAt laws sited station once is_table link there old flowing
  begun_at_once = record {
    before = these;
    has = has;
    is = is;
    any_first = true;
    is_run = laws.each_link_is_a_run (links sited.site) (names_at sited.site) starts_at_zero standing.linked.events named standing.linked.may link there;
    goes = goes_through;
  }

pub come_up_from_the_first : LawsBelow → ReadIsIntact → IntactIsTested → (between : List Event) (later_rounds : List (List Event)) (flowing : Flowing) (link : ℕ)
    → Once flowing.state.sited.site
    → IsStation flowing.state.sited.site → IsTableOf flowing.state.sited.site flowing.state.sited.table → IsReached flowing.state.sited.site flowing.state.sited.table flowing.state.run
    → Each IsWork between
    → Each (Each IsWork) later_rounds → HasTime (suc (length later_rounds)) flowing.state.run → link < links flowing.state.sited.site → first_link_rounds ≤ suc (length later_rounds)
    → NoneIsSaidAgain link flowing → StaysBelowLimit flowing.state.sited.site link (between ∷ later_rounds) flowing
    → IsUpOn link (good_rounds (between ∷ later_rounds) flowing).state.run
come_up_from_the_first laws read tested between later_rounds flowing link once station is_table reached work works can there long again below =
    let site_table = flowing.state.sited
    in let start = begun_at_once laws read tested flowing link once station is_table reached there again
    in let before_it = old laws read tested flowing link once station is_table reached there again
    in let b = behind_at laws site_table station once is_table link there before_it flowing start (between ∷ later_rounds) (work, works) can
    in let many = lists_length link (between ∷ later_rounds) flowing start.before
    in up_on laws site_table station once is_table link there (good_rounds (between ∷ later_rounds) flowing).state.run b.after b.are
    (up_at laws site_table station once is_table link there before_it flowing start (between ∷ later_rounds) b
    (rounds_open link (between ∷ later_rounds) flowing start.before (work, works) (rounds_stay laws site_table station once is_table link there (between ∷ later_rounds) flowing start.is))
    (b.below below) (omega (arith, long, many)))

pub ready_from_the_first : LawsBelow → ReadIsIntact → IntactIsTested → (between : List Event) (later_rounds : List (List Event)) (flowing : Flowing) (link : ℕ) → Once flowing.state.sited.site
    → IsStation flowing.state.sited.site → IsTableOf flowing.state.sited.site flowing.state.sited.table → IsReached flowing.state.sited.site flowing.state.sited.table flowing.state.run
    → Each IsWork between
    → Each (Each IsWork) later_rounds → HasTime (suc (length later_rounds)) flowing.state.run → link < links flowing.state.sited.site → first_ready_rounds ≤ suc (length later_rounds)
    → NoneIsSaidAgain link flowing → StaysBelowLimit flowing.state.sited.site link (between ∷ later_rounds) flowing
    → IsReadyOn flowing.state.sited.site link (good_rounds (between ∷ later_rounds) flowing).state.run
ready_from_the_first laws read tested between later_rounds flowing link once station is_table reached work works can there long again below =
    ready_at laws flowing.state.sited station once is_table link there (old laws read tested flowing link once station is_table reached there again) flowing
    (begun_at_once laws read tested flowing link once station is_table reached there again) (between ∷ later_rounds) (work, works) can long below
