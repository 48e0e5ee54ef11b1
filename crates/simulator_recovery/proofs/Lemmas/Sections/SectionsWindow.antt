-- A detector owes a report only where the window of its link is full.
use Rattle.simulator_recovery.proofs.Words.Basics.{◌≡◌, ◌⊎◌, inl, inr, ℕ, zero, suc, ◌+◌, ◌-◌, ◌≤◌, ◌∙◌, nat_le, nat_lt, Bool, true, false, not, ◌&&◌, List, [], ◌∷◌, length, Option, Some, None, Result, Ok, Err, slice_get, slice_index_or, if◌then◌else◌, refl, sym, ap, subst, arith, ◌||◌, is_ok, option_map, find, false≢true, nat_tests, none-some, same_Some, slice_get_within}
use Rattle.simulator_recovery.proofs.Words.Links.{acceptance, answer_to_send, sending_item, ticking, window_size, Step, beating, entered, giving, sending, silent, LinkState, is_open, is_up, Identity, SendFault, NotUp, WindowFull, Heartbeat}
use Rattle.simulator_recovery.proofs.Words.Controllers.{writing, HostSoFar, HostState, fallen, is_completed, is_outside, keeping, silent as silent_host, telegram_of, then_do, new_host, beating as beating_host, beginning, ending, given as given_in, goes_on, host_step, most_owed, paid, paying, paying_first, posting, Input, Report, Stage, detection_behaviour, losing, owes, owing, settled as settled_section, status_of, Section}
use Rattle.simulator_recovery.proofs.Words.Interlockings.{Table}
use Rattle.simulator_recovery.proofs.Words.Stations.{DetectorEntry, Site, Once, IsDetectorOf, IsStation, SectionId, Event, IsOutsetOf, Outset, world_at, CanHappen, after_all, ClockedControllerState, WorldState, IsStanding, IsWhole, IsReached}
use Rattle.simulator_recovery.proofs.Words.Recovery.{name_of, section_names, SpeaksAt, HasNames, IsToldAlways}
use Rattle.simulator_spec.specs.tds_ctl.Sections.{paying as paying_sections}
use Rattle.simulator_recovery.proofs.Lemmas.Ground.HostKeeps.{begins, heard}
use Rattle.simulator_recovery.proofs.Lemmas.Talk.ClientLinks.{up_open}
use Rattle.simulator_recovery.proofs.Lemmas.Ground.LinkCounts.{tick_was_open}
use Rattle.simulator_recovery.proofs.Lemmas.Ground.EndCalls.{at_place, map_length}
use Rattle.simulator_recovery.proofs.Lemmas.Ground.MatchedEnds.{KeptDetector, OfPoint, OfSignal, detectors_keep, keeps as matched_keep, spoken}
use Rattle.simulator_recovery.proofs.Lemmas.Sections.SectionsCalls.{Owed, none_owed, one_owed, owed_first}
use Rattle.simulator_recovery.proofs.Lemmas.Ground.StationKeeps.{StationKeeps, all_at, always_kept}
use Rattle.simulator_recovery.proofs.Lemmas.Talk.AlwaysSaid.{new_closed}

-- ---- a link that refuses an item

abbrev pub Refuses : LinkState → Type 0
Refuses l = is_ok (acceptance l) ≡ false

module _ (now : ℕ) where
  -- it does so after the item
  refused_stays : (item : List ℕ) (l : LinkState) → is_ok (answer_to_send now l) ≡ false → Refuses (sending_item now item l).link
  unfolding answer_to_send sending_item
  refused_stays item l denied = ap (λ (b : Bool). is_ok (acceptance (if b then giving item (entered now l).link else silent (entered now l).link).link)) denied ∙ denied

  -- and after a tick
  tick_refuses : (l : LinkState) → is_open (ticking now l).link.phase ≡ true → Refuses l → Refuses (ticking now l).link
  unfolding ticking beating sending acceptance
  tick_refuses l e denied = ap (λ (s : Step). is_ok (acceptance (beating s.link).link)) (tick_was_open now l e).0 ∙ (same (is_up l.phase && nat_le 300 (now - l.sent_at)) ∙ denied)
    where
      at : LinkState
      at = record l { clock = now }

      same : (b : Bool) → is_ok (acceptance (if b then sending Heartbeat (record l { clock = now }) else silent (record l { clock = now })).link) ≡ is_ok (acceptance l)
      same true = refl
      same false = refl

-- a link that is up refuses an item for its full window alone
full_window : (l : LinkState) → is_up l.phase ≡ true → Refuses l → window_size ≤ length l.waiting
unfolding acceptance
full_window l up denied = by_room (nat_lt (length l.waiting) window_size) refl (ap (λ (b : Bool). is_ok (if b then answer (nat_lt (length l.waiting) window_size) else Err NotUp)) (sym up) ∙ denied)
  where
    answer : Bool → Result Unit SendFault
    answer b = if b then Ok tt else Err WindowFull

    by_room : (b : Bool) → nat_lt (length l.waiting) window_size ≡ b → is_ok (answer (nat_lt (length l.waiting) window_size)) ≡ false → window_size ≤ length l.waiting
    by_room true e f = absurd (false≢true (sym f ∙ ap (λ (b : Bool). is_ok (answer b)) e))
    by_room false e f = grind (arith, nat_tests, e)

-- ---- how many reports are owed

abbrev pub owed_many : List Section → ℕ
owed_many [] = 0
owed_many (first ∷ others) = if first.owes then suc (owed_many others) else owed_many others

pub many_few : (list : List Section) → owed_many list ≤ length list
many_few [] = omega arith
many_few (first ∷ others) = choose first.owes (many_few others)
  where
    choose : (b : Bool) → owed_many others ≤ length others → (if b then suc (owed_many others) else owed_many others) ≤ suc (length others)
    choose true few = omega (arith, few)
    choose false few = omega (arith, few)

-- where nothing is found that owes, nothing is owed
found_none : (list : List Section) → find owes list ≡ None → owed_many list ≡ 0
found_none [] none = refl
found_none (first ∷ others) none = choose first.owes none (found_none others)
  where
    choose : (b : Bool) → (if b then Some first else find owes others) ≡ None → (find owes others ≡ None → owed_many others ≡ 0) → (if b then suc (owed_many others) else owed_many others) ≡ 0
    choose true e later = absurd (none-some first (sym e))
    choose false e later = later e

-- with the link all is dropped
pub losing_none : (list : List Section) → owed_many (losing list) ≡ 0
losing_none [] = refl
losing_none (first ∷ others) = losing_none others

none_many : (list : List Section) → owed_many list ≡ 0 → find owes list ≡ None
none_many [] none = refl
none_many (first ∷ others) none = choose first.owes none (none_many others)
  where
    choose : (b : Bool) → (if b then suc (owed_many others) else owed_many others) ≡ 0 → (owed_many others ≡ 0 → find owes others ≡ None) → (if b then Some first else find owes others) ≡ None
    choose true e later = absurd (omega (arith, e))
    choose false e later = later e

pub paid_many : (list : List Section) (s : Section) → find owes list ≡ Some s → owed_many (paying_sections list) + 1 ≡ owed_many list
paid_many [] s found = absurd (none-some s found)
paid_many (first ∷ others) s found = choose first.owes refl found (paid_many others s)
  where
    choose : (b : Bool) → first.owes ≡ b → (if b then Some first else find owes others) ≡ Some s → (find owes others ≡ Some s → owed_many (paying_sections others) + 1 ≡ owed_many others)
        → owed_many (if b then settled_section first ∷ others else first ∷ paying_sections others) + 1 ≡ (if b then suc (owed_many others) else owed_many others)
    choose true e f later = omega arith
    choose false e f later = ap (λ (b : Bool). (if b then suc (owed_many (paying_sections others)) else owed_many (paying_sections others)) + 1) e ∙ later f

-- a section that owes is found
owes_found : (list : List Section) (at : ℕ) (s : Section) → slice_get list at ≡ Some s → s.owes ≡ true → find owes list ≡ None → ⊥
owes_found [] at s e owing none = none-some s e
owes_found (first ∷ others) zero s e owing none = none-some first (sym none ∙ ap (λ (b : Bool). if b then Some first else find owes others) (ap (λ (x : Section). x.owes) (same_Some first s e) ∙ owing))
owes_found (first ∷ others) (suc at) s e owing none = owes_found others at s e owing (rest first.owes none)
  where
    rest : (b : Bool) → (if b then Some first else find owes others) ≡ None → find owes others ≡ None
    rest true f = absurd (none-some first (sym f))
    rest false f = f

-- ---- the payments of a step

-- after payments nothing is owed, or the link refuses an item
pub record PaidOff (before after : HostState (List Section)) : Type 0 where
  pub done : (find owes after.object ≡ None) ⊎ Refuses after.link

-- before the initialisation is completed nothing is owed
abbrev pub IsIdle : HostState (List Section) → Type 0
IsIdle host = is_completed host.stage ≡ false → owed_many host.object ≡ 0

-- a new host owes nothing
new_idle : (identity : Identity) (own_name peer_name : List ℕ) (first now : ℕ) (object : List Section) (version : ℕ) → owed_many (new_host detection_behaviour identity own_name peer_name first now object version).object ≡ 0
unfolding new_host keeping
new_idle identity own_name peer_name first now object version = losing_none object

-- once the initialisation is completed, nothing is owed or the link refuses an item
abbrev pub OwesByWindow : HostState (List Section) → Type 0
OwesByWindow host = is_open host.link.phase ≡ true → is_completed host.stage ≡ true → (find owes host.object ≡ None) ⊎ Refuses host.link

module _ (now : ℕ) where
  -- how the payments of a host begin with the report that it owes first
  abbrev first_paid : (completed ok : Bool) → Report → HostState (List Section) → HostSoFar (List Section)
  first_paid completed ok report host =
      if not completed then silent_host (paid detection_behaviour host)
      else (if ok then record (posting now report host) { host = paid detection_behaviour (posting now report host).host } else posting now report host)

  abbrev all_paid : (completed ok : Bool) → ℕ → Report → HostState (List Section) → HostSoFar (List Section)
  all_paid completed ok more report host = if not completed || ok then then_do (first_paid completed ok report host) (paying detection_behaviour now more) else first_paid completed ok report host

  abbrev PaysOff : ℕ → Type 0
  PaysOff more = (host : HostState (List Section)) → is_completed host.stage ≡ true → owed_many host.object ≤ more → PaidOff host (paying detection_behaviour now more host).host

  pays_off : (more : ℕ) → PaysOff more
  unfolding paying posting
  pays_off zero host completed few = record { done = inl (none_many host.object (omega (arith, few))) }
  pays_off (suc more) host completed few = choose (owed_first host.object) (pays_off more)
    where
      whole : Option Report → HostSoFar (List Section)
      whole found = if goes_on now found host then then_do (paying_first detection_behaviour now found host) (paying detection_behaviour now more) else paying_first detection_behaviour now found host

      item : Report → List ℕ
      item report = writing (telegram_of report host)

      paid_first : (s : Section) → find owes host.object ≡ Some s → PaysOff more → (completed ok : Bool) → completed ≡ true → is_ok (answer_to_send now host.link) ≡ ok → PaidOff host (all_paid completed ok more (status_of s) host).host
      paid_first s found later false ok e f = absurd (false≢true e)
      paid_first s found later true true e f = record { done = (later (paid detection_behaviour (posting now (status_of s) host).host) completed (let one = paid_many host.object s found in omega (arith, few, one))).done }
      paid_first s found later true false e f = record { done = inr (refused_stays now (item (status_of s)) host.link f) }

      choose : Owed host.object → PaysOff more → PaidOff host (whole (option_map status_of (find owes host.object))).host
      choose (none_owed none same) later = subst (λ (found : Option Section). PaidOff host (whole (option_map status_of found)).host) (sym none) (record { done = inl none })
      choose (one_owed k s is) later = subst (λ (found : Option Section). PaidOff host (whole (option_map status_of found)).host) (sym is.found) (paid_first s is.found later (is_completed host.stage) (is_ok (answer_to_send now host.link)) completed refl)

  -- ---- payments before the initialisation is completed

  -- they leave the stage
  abbrev StageKept : ℕ → Type 0
  StageKept more = (host : HostState (List Section)) → (paying detection_behaviour now more host).host.stage ≡ host.stage

  stage_kept : (more : ℕ) → StageKept more
  unfolding paying posting
  stage_kept zero host = refl
  stage_kept (suc more) host = by_found (owing host.object) (stage_kept more)
    where
      by_bools : StageKept more → (completed ok : Bool) → (report : Report) → (all_paid completed ok more report host).host.stage ≡ host.stage
      by_bools later false ok report = later (paid detection_behaviour host)
      by_bools later true true report = later (paid detection_behaviour (posting now report host).host)
      by_bools later true false report = refl

      by_found : (found : Option Report) → StageKept more
          → (if goes_on now found host then then_do (paying_first detection_behaviour now found host) (paying detection_behaviour now more) else paying_first detection_behaviour now found host).host.stage ≡ host.stage
      by_found None later = refl
      by_found (Some report) later = by_bools later (is_completed host.stage) (is_ok (answer_to_send now host.link)) report

  -- and drop all that is owed
  abbrev DropsAll : ℕ → Type 0
  DropsAll more = (host : HostState (List Section)) → is_completed host.stage ≡ false → owed_many host.object ≤ more → owed_many (paying detection_behaviour now more host).host.object ≡ 0

  drops_all : (more : ℕ) → DropsAll more
  unfolding paying posting
  drops_all zero host early few = omega (arith, few)
  drops_all (suc more) host early few = choose (owed_first host.object) (drops_all more)
    where
      whole : Option Report → HostSoFar (List Section)
      whole found = if goes_on now found host then then_do (paying_first detection_behaviour now found host) (paying detection_behaviour now more) else paying_first detection_behaviour now found host

      paid_first : (s : Section) → find owes host.object ≡ Some s → DropsAll more → (completed ok : Bool) → completed ≡ false → owed_many (all_paid completed ok more (status_of s) host).host.object ≡ 0
      paid_first s found later true ok e = absurd (false≢true (sym e))
      paid_first s found later false ok e = later (paid detection_behaviour host) early (let one = paid_many host.object s found in omega (arith, few, one))

      choose : Owed host.object → DropsAll more → owed_many (whole (option_map status_of (find owes host.object))).host.object ≡ 0
      choose (none_owed none same) later = subst (λ (found : Option Section). owed_many (whole (option_map status_of found)).host.object ≡ 0) (sym none) (found_none host.object none)
      choose (one_owed k s is) later = subst (λ (found : Option Section). owed_many (whole (option_map status_of found)).host.object ≡ 0) (sym is.found)
          (paid_first s is.found later (is_completed host.stage) (is_ok (answer_to_send now host.link)) early)

  -- ---- what is owed after a whole step

  idle_ended : (host : HostState (List Section)) → IsIdle host → IsIdle (ending detection_behaviour host)
  unfolding fallen keeping
  idle_ended host is = choose (is_outside host.stage) (is_open host.link.phase)
    where
      fell : HostState (List Section)
      fell = record host { stage = Stage.Outside; object = losing host.object }

      choose : (a b : Bool) → IsIdle (if not a && not b then fell else host)
      choose true b = is
      choose false true = is
      choose false false = λ early. losing_none host.object

  idle_beaten : (input : Input) (host : HostState (List Section)) → IsIdle host → IsIdle (beating_host now input host).host
  unfolding beating_host
  idle_beaten Input.Tick host is = is
  idle_beaten (Input.Datagram bytes) host is = is
  idle_beaten (Input.Sense contact) host is = is

  pub idle_step : (input : Input) (host : HostState (List Section)) → owed_many (given_in detection_behaviour now input (beginning detection_behaviour now host)).host.object ≤ most_owed
      → IsIdle (host_step detection_behaviour now input host).host
  unfolding host_step
  idle_step input host few = idle_ended (beating_host now input (paying detection_behaviour now most_owed come).host).host (idle_beaten input (paying detection_behaviour now most_owed come).host
      (λ early. drops_all most_owed come (ap is_completed (sym (stage_kept most_owed come)) ∙ early) few))
    where
      come : HostState (List Section)
      come = (given_in detection_behaviour now input (beginning detection_behaviour now host)).host

  ended : (host : HostState (List Section)) → OwesByWindow host → OwesByWindow (ending detection_behaviour host)
  unfolding fallen keeping
  ended host is = choose (is_outside host.stage) (is_open host.link.phase) refl
    where
      fell : HostState (List Section)
      fell = record host { stage = Stage.Outside; object = losing host.object }

      choose : (a b : Bool) → is_open host.link.phase ≡ b → OwesByWindow (if not a && not b then fell else host)
      choose a true e = at_open a
        where
          at_open : (c : Bool) → OwesByWindow (if not c && not true then fell else host)
          at_open true = is
          at_open false = is
      choose true false e = is
      choose false false e = λ opened. absurd (false≢true (sym e ∙ opened))

  beaten : (input : Input) (host : HostState (List Section)) → PaidOff host host → is_open (beating_host now input host).host.link.phase ≡ true → (find owes (beating_host now input host).host.object ≡ None) ⊎ Refuses (beating_host now input host).host.link
  unfolding beating_host
  beaten Input.Tick host is opened = choose is.done
    where
      choose : (find owes host.object ≡ None) ⊎ Refuses host.link → (find owes host.object ≡ None) ⊎ Refuses (ticking now host.link).link
      choose (inl none) = inl none
      choose (inr refuses) = inr (tick_refuses now host.link opened refuses)
  beaten (Input.Datagram bytes) host is opened = is.done
  beaten (Input.Sense contact) host is opened = is.done

  module _ (told : IsToldAlways) (input : Input) (host : HostState (List Section)) where
    abbrev come : HostState (List Section)
    come = (given_in detection_behaviour now input (beginning detection_behaviour now host)).host

    abbrev paid_host : HostState (List Section)
    paid_host = (paying detection_behaviour now most_owed come).host

    step_owes : owed_many come.object ≤ most_owed → OwesByWindow (host_step detection_behaviour now input host).host
    unfolding host_step
    step_owes few opened completed = ended (beating_host now input paid_host).host
        (λ open_then completed_then. beaten input paid_host (record { done = (pays_off most_owed come (ap is_completed (sym ((told now input host).stage_is opened)) ∙ completed) few).done }) open_then) opened completed

abbrev pub Stands : Type 0
Stands = (site : Site) (table : Table) (outset : Outset) (events : List Event) → IsStation site → Once site → IsOutsetOf site outset → CanHappen site table events (world_at site table outset) → IsStanding site (after_all site table events (world_at site table outset))

-- ---- a station

module _ (site : Site) (station : IsStation site) (told : IsToldAlways) where
  pub record KeepsReports (entry : DetectorEntry) (host : HostState (List Section)) : Type 0 where
    pub kept_so : KeptDetector site entry host
    pub owes_so : OwesByWindow host
    pub idle_so : IsIdle host

  abbrev pub OfDetector : ℕ → HostState (List Section) → Type 0
  OfDetector place host = (entry : DetectorEntry) → slice_get site.detectors place ≡ Some entry → KeepsReports entry host

  pub few_come : (now : ℕ) (input : Input) (place : ℕ) (entry : DetectorEntry) → slice_get site.detectors place ≡ Some entry → (host : HostState (List Section)) → KeptDetector site entry host
      → owed_many (given_in detection_behaviour now input (beginning detection_behaviour now host)).host.object ≤ most_owed
  few_come now input place entry there host kept_so =
      let at_most = (all_at (IsDetectorOf site) site.detectors station.detectors place entry there).few
      in let sections = map_length (λ (s : SectionId). slice_index_or site.sections s.0 []) entry.sections
      in let come = heard detection_behaviour (HasNames (section_names site entry)) (spoken site) entry.name site.station.name (detectors_keep site (section_names site entry)) now input _
      (begins detection_behaviour (HasNames (section_names site entry)) (spoken site) entry.name site.station.name (detectors_keep site (section_names site entry)) now host kept_so)
      in let names = map_length name_of (given_in detection_behaviour now input (beginning detection_behaviour now host)).host.object
      in let same = ap length come.object
      in let few = many_few (given_in detection_behaviour now input (beginning detection_behaviour now host)).host.object
      in omega (arith, at_most, sections, names, same, few)

  window_keeps : StationKeeps site (SpeaksAt site) (λ now. SpeaksAt site) (OfSignal site) (OfPoint site) OfDetector
  window_keeps =
      let old = matched_keep site
      in record {
        clients_keep = old.clients_keep;
        new_clients = old.new_clients;
        signal_steps = old.signal_steps;
        new_signal_is = old.new_signal_is;
        point_steps = old.point_steps;
        new_point_is = old.new_point_is;
        detector_steps = λ now input place host is entry e. record {
          kept_so = old.detector_steps now input place host (λ x f. (is x f).kept_so) entry e;
          owes_so = step_owes now told input host (few_come now input place entry e host (is entry e).kept_so);
          idle_so = idle_step now input host (few_come now input place entry e host (is entry e).kept_so);
        };
        new_detector_is = λ begins occupied entry place e other f. record {
          kept_so = old.new_detector_is begins occupied entry place e other f;
          owes_so = λ opened. absurd (false≢true (sym (new_closed detection_behaviour _ _ _ _ _ _ _) ∙ opened));
          idle_so = λ early. new_idle _ _ _ _ _ _ _;
        };
      }

  module _ (once : Once site) (stands : Stands) (table : Table) (world : WorldState) (reached : IsReached site table world) (place : ℕ) (controller : ClockedControllerState (List Section))
      (e : slice_get world.detectors place ≡ Some controller) where
    whole : IsWhole site world
    whole = (subst (IsStanding site) (sym reached.after) (stands site table reached.outset reached.events station once reached.lies reached.can)).whole

    entry : (one : DetectorEntry) × (slice_get site.detectors place ≡ Some one)
    entry = at_place site.detectors place (let a = slice_get_within world.detectors place controller e in let b = whole.detectors in omega (arith, a, b))

    kept : KeepsReports entry.0 controller.host
    kept = (always_kept site table (SpeaksAt site) (λ now. SpeaksAt site) (OfSignal site) (OfPoint site) OfDetector window_keeps world reached).of_detectors place controller e entry.0 entry.1

    pub owed_wait : is_up controller.host.link.phase ≡ true → is_completed controller.host.stage ≡ true → (at : ℕ) (section : Section) → slice_get controller.host.object at ≡ Some section
        → section.owes ≡ true → window_size ≤ length controller.host.link.waiting
    owed_wait up completed at section f owing = choose (kept.owes_so (up_open _ up) completed)
      where
        choose : (find owes controller.host.object ≡ None) ⊎ Refuses controller.host.link → window_size ≤ length controller.host.link.waiting
        choose (inl none) = absurd (owes_found controller.host.object at section f owing none)
        choose (inr refuses) = full_window controller.host.link up refuses

    -- before its initialisation is completed it owes nothing
    pub idle_always : IsIdle controller.host
    idle_always = kept.idle_so
