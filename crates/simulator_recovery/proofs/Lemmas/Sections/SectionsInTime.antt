-- A section is known as it is in the field so many good rounds after its last change, whatever else changes.
use Rattle.simulator_recovery.proofs.Words.Basics.{◌≡◌, ℕ, suc, ◌+◌, ◌-◌, ◌<◌, ◌≤◌, ◌∙◌, List, [], ◌∷◌, ◌++◌, append_assoc, append-nil, length, map, Some, slice_get, refl, sym, ap, subst, arith, slice_get_within}
use Rattle.simulator_recovery.proofs.Words.Links.{speaking_rounds, Each, Links, LinksEvent, run_links}
use Rattle.simulator_recovery.proofs.Words.Interlockings.{IsReportedIn, IsTableOf, SitedTable, Table}
use Rattle.simulator_recovery.proofs.Words.Stations.{Site, Once, IsStation, Event, NodeId, Flowing, round, round_of_time, detector_link, links, WorldState, Played, after, IsReached}
use Rattle.simulator_recovery.proofs.Words.Recovery.{ConfirmsAtOnce, HasSpokenAlone, HaveRoomOn, StayBelowOn, StaysBelowLimit, behind_time, calls_of_round, event_of, links_behind, time_of_round, IsReadyOn, ready_rounds, HasTime, IsWork, all_tried, good_rounds, IsKnownAsInTheField, IsKnownAsItIs, LeavesSection, OwesNone, SpeaksAloneIn, section_rounds, LawsBelow}
use Rattle.simulator_recovery.proofs.Lemmas.Rounds.LinkRounds.{after_both, after_each, events_both, round_tried}
use Rattle.simulator_recovery.proofs.Lemmas.Ground.EndCalls.{each_both}
use Rattle.simulator_recovery.proofs.Lemmas.Links.Ready.{Last, count_front, last_of}
use Rattle.simulator_recovery.proofs.Lemmas.Rounds.Rounds.{behind_time_are, events_are, IsAt, rounds_reached}
use Rattle.simulator_recovery.proofs.Lemmas.Sections.SectionsInRound.{IsCalmHere, LeadsBy, paid_behind, stays_none}
use Rattle.simulator_recovery.proofs.Lemmas.Sections.SectionsInSpeech.{speaks_soon}
use Rattle.simulator_recovery.proofs.Lemmas.Sections.SectionsRounds.{told_are_known, tried_as}
use Rattle.simulator_recovery.proofs.Lemmas.Sections.SectionsSensed.{known_in_field}
use Rattle.simulator_recovery.proofs.Lemmas.Lamps.StopComes.{last_round}
use Rattle.simulator_recovery.proofs.Lemmas.Windows.WindowsAlone.{Good, good_two, ready_at, room_front}
use Rattle.simulator_recovery.proofs.Lemmas.Windows.WindowsConfirmed.{confirms_at_once}
use Rattle.simulator_recovery.proofs.Lemmas.Windows.WindowsSpoken.{count_two, each_two}
use Rattle.simulator_recovery.proofs.Lemmas.Talk.Standing.{stand_by_counts}

-- ---- lists

abbrev rest_of : {X : Type 0} → List X → List X
rest_of [] = []
rest_of (first ∷ others) = others

-- what holds of the end of a list holds of each shorter end
each_end : {X : Type 0} (P : X → Type 0) (a b c d : List X) → a ++ b ≡ c ++ d → length a ≤ length c → Each P b → Each P d
each_end P [] b c d e few each = (each_two P c d (subst (Each P) e each)).1
each_end P (x ∷ a) b [] d e few each = absurd (omega (arith, few))
each_end P (x ∷ a) b (y ∷ c) d e few each = each_end P a b c d (ap rest_of e) (omega (arith, few)) each

-- ---- a round after which nothing comes

room_alone : (link : ℕ) (last : List Event) (flowing : Flowing) (before : Links) → HaveRoomOn link (calls_of_round last flowing) before → HaveRoomOn link (calls_of_round [] flowing) before
room_alone link last flowing before room = subst (λ (calls : List LinksEvent). HaveRoomOn link calls before) (sym (events_both (map event_of (behind_time flowing)) [] timed ∙ append-nil _))
    (room_front link _ _ before (subst (λ (calls : List LinksEvent). HaveRoomOn link calls before) (events_both (map event_of (behind_time flowing)) last timed) room))
  where
    timed : Played
    timed = after flowing.state (round_of_time flowing.state.sited.site)

below_alone : (link : ℕ) (rounds : List (List Event)) (last : List Event) (flowing : Flowing) (before : Links) → StayBelowOn link (rounds ++ last ∷ []) flowing before
    → StayBelowOn link (rounds ++ [] ∷ []) flowing before
below_alone link [] last flowing before below = (room_alone link last flowing (run_links (time_of_round flowing) before) below.0, tt)
below_alone link (first ∷ rounds) last flowing before below = (below.0, below_alone link rounds last (all_tried first (round flowing)) (links_behind first flowing before) below.1)

-- ---- rounds as events

tries_lead : (sited : SitedTable) (P : Event → Type 0) (tries : List Event) (world : Played) → world.sited ≡ sited → Each P tries
    → LeadsBy sited.site sited.table P world.run (after_each tries world).run
tries_lead sited P tries world same each = let t = tried_as sited P tries world same each in record { events = t.events; can = t.can; are = t.leads; each = t.each }

-- what holds of all that a round tries
pub record HoldsOfRounds (P : Event → Type 0) : Type 0 where
  pub times : (site : Site) → P (round_of_time site)
  pub comes : (node : NodeId) (bytes : List ℕ) → P (Event.Deliver node bytes)
  pub ticks : (node : NodeId) → P (Event.Tick node)
  pub reaches : (point : _) (position : _) → P (Event.Reach point position)

pub round_leads : (sited : SitedTable) (P : Event → Type 0) → HoldsOfRounds P → (flowing : Flowing) → flowing.state.sited ≡ sited → (last : List Event) → Each P last
    → LeadsBy sited.site sited.table P flowing.state.run (all_tried last (round flowing)).state.run
round_leads sited P holds flowing same last each = subst (λ (w : Played). LeadsBy sited.site sited.table P flowing.state.run w.run) (sym (round_tried last flowing))
    (tries_lead sited P (round_of_time flowing.state.sited.site ∷ (map event_of (behind_time flowing) ++ last)) flowing.state same (
      holds.times flowing.state.sited.site,
      each_both P (map event_of (behind_time flowing)) last
          (events_are P (behind_time flowing) (behind_time_are P holds.comes holds.ticks holds.reaches flowing)) each,
    ))

-- ---- good rounds

module _ (laws : LawsBelow) (between : List Event) (flowing : Flowing) (section : ℕ) (reporter : ℕ × ℕ) (once : Once flowing.state.sited.site) (station : IsStation flowing.state.sited.site)
    (is_table : IsTableOf flowing.state.sited.site flowing.state.sited.table)
    (reached : IsReached flowing.state.sited.site flowing.state.sited.table flowing.state.run) (work : Each IsWork between)
    (reported : slice_get flowing.state.sited.table.reporters section ≡ Some reporter) where
  abbrev site : Site
  site = flowing.state.sited.site

  abbrev table : Table
  table = flowing.state.sited.table

  abbrev link : ℕ
  link = detector_link flowing.state.sited.site reporter.0

  there : IsReportedIn site.detectors section reporter
  there = is_table.reporters.their section reporter reported

  pub inside : reporter.0 < length site.detectors
  inside = slice_get_within site.detectors reporter.0 there.0 there.1

  pub below_links : link < links site
  below_links = let a = inside in omega (arith, a)

  abbrev pub IsGood : List (List Event) → Type 0
  IsGood = Good laws between flowing reporter.0 once station is_table reached work inside

  abbrev flow_at : List (List Event) → Flowing
  flow_at rounds = good_rounds (between ∷ rounds) flowing

  abbrev world_at : List (List Event) → WorldState
  world_at rounds = (flow_at rounds).state.run

  pub is_at : (rounds : List (List Event)) → IsAt flowing.state.sited (flow_at rounds).state
  is_at rounds = rounds_reached laws flowing.state.sited (between ∷ rounds) flowing (record { same = refl; reached = reached })

  pub front : (one other : List (List Event)) → ready_rounds ≤ suc (length one) → IsGood (one ++ other) → IsGood one
  front = good_two laws between flowing reporter.0 once station is_table reached work inside

  pub ready : (rounds : List (List Event)) → IsGood rounds → IsReadyOn site link (world_at rounds)
  ready = ready_at laws between flowing reporter.0 once station is_table reached work inside

  -- ---- a section that is left as it is

  abbrev Leaves : Event → Type 0
  Leaves = LeavesSection site table section

  pub leaves_it : HoldsOfRounds Leaves
  leaves_it = record { times = λ s. tt; comes = λ node bytes. tt; ticks = λ node. tt; reaches = λ point position. tt }

  abbrev IsCalm : Event → Type 0
  IsCalm = IsCalmHere laws site table station once is_table section reporter reported

  calm_there : HoldsOfRounds IsCalm
  calm_there = record { times = λ s. (tt, tt); comes = λ node bytes. (tt, tt); ticks = λ node. (tt, tt); reaches = λ point position. (tt, tt) }

  pub next_leads : (P : Event → Type 0) → HoldsOfRounds P → (rounds : List (List Event)) (last : List Event) → Each P last → LeadsBy site table P (world_at rounds) (world_at (rounds ++ last ∷ []))
  next_leads P holds rounds last each = subst (λ (f : Flowing). LeadsBy site table P (world_at rounds) f.state.run) (sym (last_round (between ∷ rounds) last flowing))
      (round_leads flowing.state.sited P holds (flow_at rounds) (is_at rounds).same last each)

  none_on : (old new : WorldState) → LeadsBy site table Leaves old new → IsReached site table old → IsReadyOn site link old → OwesNone table old section → OwesNone table new section
  none_on old new leads at is none = stays_none laws site table station once is_table section reporter reported old new leads at is.up none

  none_next : (rounds : List (List Event)) (last : List Event) → IsGood rounds → Each Leaves last → OwesNone table (world_at rounds) section → OwesNone table (world_at (rounds ++ last ∷ [])) section
  none_next rounds last good each none = none_on (world_at rounds) (world_at (rounds ++ last ∷ [])) (next_leads Leaves leaves_it rounds last each) (is_at rounds).reached (ready rounds good) none

  pub none_later : (rounds more : List (List Event)) → ready_rounds ≤ suc (length rounds) → IsGood (rounds ++ more) → Each (Each Leaves) more → OwesNone table (world_at rounds) section
      → OwesNone table (world_at (rounds ++ more)) section
  none_later rounds [] long good each none = subst (λ (r : List (List Event)). OwesNone table (world_at r) section) (sym (append-nil rounds)) none
  none_later rounds (first ∷ more) long good each none = subst (λ (r : List (List Event)). OwesNone table (world_at r) section) same
      (none_later (rounds ++ first ∷ []) more (let count = count_front rounds first in omega (arith, count, long)) (subst IsGood (sym same) good) each.1
      (none_next rounds first (front rounds (first ∷ more) long good) each.0 none))
    where
      same : (rounds ++ first ∷ []) ++ more ≡ rounds ++ first ∷ more
      same = append_assoc rounds (first ∷ []) more

  -- ---- three rounds, in the second of which the interlocking speaks alone

  module _ (rounds : List (List Event)) (one two three : List Event) (long : ready_rounds ≤ suc (suc (length rounds))) (good : IsGood (((rounds ++ one ∷ []) ++ two ∷ []) ++ three ∷ []))
      (spoken : HasSpokenAlone link (world_at rounds) (world_at (rounds ++ one ∷ [])) (world_at ((rounds ++ one ∷ []) ++ two ∷ []))) where
    abbrev r1 : List (List Event)
    r1 = rounds ++ one ∷ []

    abbrev r2 : List (List Event)
    r2 = (rounds ++ one ∷ []) ++ two ∷ []

    -- the third round, and nothing after it
    abbrev alone : List (List Event)
    alone = ((rounds ++ one ∷ []) ++ two ∷ []) ++ [] ∷ []

    count1 : length r1 ≡ length rounds + 1
    count1 = count_front rounds one

    count2 : length r2 ≡ length r1 + 1
    count2 = count_front r1 two

    good2 : IsGood r2
    good2 = front r2 (three ∷ []) (let a = count1 in let b = count2 in omega (arith, long, a, b)) good

    good1 : IsGood r1
    good1 = front r1 (two ∷ []) (let a = count1 in omega (arith, long, a)) good2

    good_alone : IsGood alone
    good_alone = record {
      works = each_both (Each IsWork) r2 ([] ∷ []) good2.works (tt, tt);
      can = subst (λ (n : ℕ). HasTime (suc n) flowing.state.run) (count_front r2 three ∙ sym (count_front r2 [])) good.can;
      below = λ before are. below_alone link r2 three (all_tried between (round flowing)) before (good.below before are);
      long = let a = count1 in let b = count2 in let c = count_front r2 [] in omega (arith, long, a, b, c);
    }

    confirms : ConfirmsAtOnce link (world_at r1) (world_at r2) (world_at alone)
    confirms = confirms_at_once (laws) between rounds one two [] flowing link once station is_table reached work good_alone.works good_alone.can below_links
        (omega (arith, long)) good_alone.below spoken

    module _ (leaves_two : Each Leaves two) (leaves_three : Each Leaves three) where
      -- before anything comes after the third round, no report is owed
      none_alone : OwesNone table (world_at alone) section
      none_alone = paid_behind laws site table station once is_table section reporter reported laws stand_by_counts (world_at r1) (world_at r2) (world_at alone)
          (next_leads Leaves leaves_it r1 two leaves_two) (next_leads IsCalm calm_there r2 [] tt) (is_at r1).reached (is_at r2).reached (is_at alone).reached (ready r1 good1) (ready r2 good2)
          (ready alone good_alone) confirms

      abbrev timed : Played
      timed = after (flow_at r2).state (round_of_time (flow_at r2).state.sited.site)

      alone_is : (flow_at alone).state ≡ after_each (map event_of (behind_time (flow_at r2))) timed
      alone_is = ap (λ (f : Flowing). f.state) (last_round (between ∷ r2) [] flowing)
          ∙ (round_tried [] (flow_at r2) ∙ ap (λ (tries : List Event). after_each tries timed) (append-nil (map event_of (behind_time (flow_at r2)))))

      three_is : (flow_at (r2 ++ three ∷ [])).state ≡ after_each three (flow_at alone).state
      three_is = ap (λ (f : Flowing). f.state) (last_round (between ∷ r2) three flowing)
          ∙ (round_tried three (flow_at r2) ∙ (after_both (map event_of (behind_time (flow_at r2))) three timed ∙ ap (after_each three) (sym alone_is)))

      none_third : OwesNone table (world_at (r2 ++ three ∷ [])) section
      none_third = none_on (world_at alone) (world_at (r2 ++ three ∷ []))
          (subst (λ (w : Played). LeadsBy site table Leaves (world_at alone) w.run) (sym three_is) (tries_lead flowing.state.sited Leaves three (flow_at alone).state (is_at alone).same leaves_three))
          (is_at alone).reached (ready alone good_alone) none_alone

  -- and rounds after them
  none_behind : (rounds : List (List Event)) (one two : List Event) (more : List (List Event)) → 1 ≤ length more → ready_rounds ≤ suc (suc (length rounds))
      → IsGood (((rounds ++ one ∷ []) ++ two ∷ []) ++ more)
      → HasSpokenAlone link (world_at rounds) (world_at (rounds ++ one ∷ [])) (world_at ((rounds ++ one ∷ []) ++ two ∷ [])) → Each Leaves two → Each (Each Leaves) more
      → OwesNone table (world_at (((rounds ++ one ∷ []) ++ two ∷ []) ++ more)) section
  none_behind rounds one two [] some long good spoken leaves each = absurd (omega (arith, some))
  none_behind rounds one two (three ∷ more) some long good spoken leaves each = subst (λ (r : List (List Event)). OwesNone table (world_at r) section) same
      (none_later (((rounds ++ one ∷ []) ++ two ∷ []) ++ three ∷ []) more far good_then each.1
      (none_third rounds one two three long (front (((rounds ++ one ∷ []) ++ two ∷ []) ++ three ∷ []) more far good_then) spoken leaves each.0))
    where
      same : (((rounds ++ one ∷ []) ++ two ∷ []) ++ three ∷ []) ++ more ≡ ((rounds ++ one ∷ []) ++ two ∷ []) ++ three ∷ more
      same = append_assoc ((rounds ++ one ∷ []) ++ two ∷ []) (three ∷ []) more

      good_then : IsGood ((((rounds ++ one ∷ []) ++ two ∷ []) ++ three ∷ []) ++ more)
      good_then = subst IsGood (sym same) good

      far : ready_rounds ≤ suc (length (((rounds ++ one ∷ []) ++ two ∷ []) ++ three ∷ []))
      far = let a = count_front rounds one in let b = count_front (rounds ++ one ∷ []) two in let c = count_front ((rounds ++ one ∷ []) ++ two ∷ []) three in omega (arith, long, a, b, c)

  -- ---- 32 rounds

  -- 31 rounds after its last change no report of it is owed
  pub none_in_time : (rounds : List (List Event)) (one : List Event) (more : List (List Event)) (last : List Event) → ready_rounds ≤ suc (suc (length rounds)) → speaking_rounds ≤ length more
      → IsGood ((rounds ++ one ∷ []) ++ (more ++ last ∷ [])) → Each (Each Leaves) (more ++ last ∷ [])
      → OwesNone table (world_at ((rounds ++ one ∷ []) ++ (more ++ last ∷ []))) section
  none_in_time rounds one more last long enough good each = by_spoken
      (speaks_soon laws laws between flowing reporter.0 once station is_table reached work inside rounds one more long enough good_before)
    where
      base : (rounds ++ one ∷ []) ++ (more ++ last ∷ []) ≡ ((rounds ++ one ∷ []) ++ more) ++ last ∷ []
      base = sym (append_assoc (rounds ++ one ∷ []) more (last ∷ []))

      good_before : IsGood ((rounds ++ one ∷ []) ++ more)
      good_before = front ((rounds ++ one ∷ []) ++ more) (last ∷ []) (let a = count_front rounds one in let b = count_two (rounds ++ one ∷ []) more in omega (arith, long, a, b))
          (subst IsGood base good)

      by_spoken : SpeaksAloneIn link between (length rounds) ((rounds ++ one ∷ []) ++ more) flowing → OwesNone table (world_at ((rounds ++ one ∷ []) ++ (more ++ last ∷ []))) section
      by_spoken s = subst (λ (r : List (List Event)). OwesNone table (world_at r) section) (sym whole)
          (none_behind s.front s.one s.two (s.rest ++ last ∷ []) (let n = count_front s.rest last in omega (arith, n)) (let far = s.far in omega (arith, long, far))
          (subst IsGood whole good) s.spoken ends.0 ends.1)
        where
          whole : (rounds ++ one ∷ []) ++ (more ++ last ∷ []) ≡ ((s.front ++ s.one ∷ []) ++ s.two ∷ []) ++ (s.rest ++ last ∷ [])
          whole = base ∙ (ap (λ (r : List (List Event)). r ++ last ∷ []) s.are ∙ append_assoc ((s.front ++ s.one ∷ []) ++ s.two ∷ []) s.rest (last ∷ []))

          ends : Each Leaves s.two × Each (Each Leaves) (s.rest ++ last ∷ [])
          ends = each_end (Each Leaves) (rounds ++ one ∷ []) (more ++ last ∷ []) (s.front ++ s.one ∷ []) (s.two ∷ (s.rest ++ last ∷ [])) (whole
              ∙ append_assoc (s.front ++ s.one ∷ []) (s.two ∷ []) (s.rest ++ last ∷ []))
              (let a = count_front rounds one in let b = count_front s.front s.one in let far = s.far in omega (arith, a, b, far)) each

  -- and one round later it is known
  known_behind : (rounds : List (List Event)) (one : List Event) (more : List (List Event)) → ready_rounds ≤ suc (suc (length rounds)) → section_rounds ≤ length more
      → IsGood ((rounds ++ one ∷ []) ++ more) → Each (Each Leaves) more
      → IsKnownAsItIs table (world_at ((rounds ++ one ∷ []) ++ more)) section
  known_behind rounds one more long enough = by_last (last_of (length more - 1) more (omega (arith, enough)))
    where
      Known : List (List Event) → Type 0
      Known list = IsGood ((rounds ++ one ∷ []) ++ list) → Each (Each Leaves) list → IsKnownAsItIs table (world_at ((rounds ++ one ∷ []) ++ list)) section

      of_two : (most : List (List Event)) (x last : List Event) → speaking_rounds ≤ length most → Known ((most ++ x ∷ []) ++ last ∷ [])
      of_two most x last many good each = subst (λ (r : List (List Event)). IsKnownAsItIs table (world_at r) section) same
          (told_are_known laws between ((rounds ++ one ∷ []) ++ (most ++ x ∷ [])) last flowing section reporter once station is_table reached work good_then.works good_then.can reported
          (omega (arith, far)) good_then.below
          (none_in_time rounds one most x long many (front ((rounds ++ one ∷ []) ++ (most ++ x ∷ [])) (last ∷ []) far good_then) parts.0) parts.1.0)
        where
          same : ((rounds ++ one ∷ []) ++ (most ++ x ∷ [])) ++ last ∷ [] ≡ (rounds ++ one ∷ []) ++ ((most ++ x ∷ []) ++ last ∷ [])
          same = append_assoc (rounds ++ one ∷ []) (most ++ x ∷ []) (last ∷ [])

          good_then : IsGood (((rounds ++ one ∷ []) ++ (most ++ x ∷ [])) ++ last ∷ [])
          good_then = subst IsGood (sym same) good

          far : ready_rounds ≤ suc (length ((rounds ++ one ∷ []) ++ (most ++ x ∷ [])))
          far = let a = count_front rounds one in let b = count_two (rounds ++ one ∷ []) (most ++ x ∷ []) in omega (arith, long, a, b)

          parts : Each (Each Leaves) (most ++ x ∷ []) × Each (Each Leaves) (last ∷ [])
          parts = each_two (Each Leaves) (most ++ x ∷ []) (last ∷ []) each

      by_last : Last (length more - 1) more → Known more
      by_last l = subst Known (sym l.are) (by_front (last_of (length l.front - 1) l.front (let n = l.long in omega (arith, enough, n))))
        where
          by_front : Last (length l.front - 1) l.front → Known (l.front ++ l.last ∷ [])
          by_front m = subst (λ (f : List (List Event)). Known (f ++ l.last ∷ [])) (sym m.are) (of_two m.front m.last l.last (let n = l.long in let k = m.long in omega (arith, enough, n, k)))

  pub known_in_time : (rounds more : List (List Event)) → Each (Each IsWork) (rounds ++ more) → HasTime (suc (length (rounds ++ more))) flowing.state.run → ready_rounds ≤ suc (length rounds)
      → section_rounds ≤ length more
      → StaysBelowLimit site link (rounds ++ more) (all_tried between (round flowing)) → Each (Each Leaves) more → IsKnownAsInTheField table (world_at (rounds ++ more)) section
  known_in_time rounds more works can long enough below leaves =
      known_in_field laws.detector_step_is_told_to_the_object site table station is_table (world_at (rounds ++ more)) (is_at (rounds ++ more)).reached section
      (by_last (last_of (length rounds - 1) rounds (omega (arith, long))) good)
    where
      good : IsGood (rounds ++ more)
      good = record { works = works; can = can; below = below; long = let n = count_two rounds more in omega (arith, n, long) }

      by_last : Last (length rounds - 1) rounds → IsGood (rounds ++ more) → IsKnownAsItIs table (world_at (rounds ++ more)) section
      by_last l = subst (λ (r : List (List Event)). IsGood (r ++ more) → IsKnownAsItIs table (world_at (r ++ more)) section) (sym l.are)
          (λ is_good. known_behind l.front l.last more (let n = l.long in omega (arith, long, n)) enough is_good leaves)
