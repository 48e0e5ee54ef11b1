-- The detectors of a station have their sections as they are in the field.
use Rattle.simulator_recovery.proofs.Words.Basics.{◌≡◌, ◌≢◌, ◌⊎◌, inl, inr, ℕ, zero, suc, ◌<◌, ◌∙◌, Bool, true, false, List, [], ◌∷◌, ◌++◌, append-nil, length, map, Option, Some, None, slice_get, slice_index_or, slice_set, if◌then◌else◌, refl, sym, ap, subst, arith, flat_map, false≢true, none-some, same_Some, slice_get-get_or}
use Rattle.simulator_recovery.proofs.Words.Links.{alive_until, settled, reading_of}
use Rattle.simulator_recovery.proofs.Words.Controllers.{Occupancy, Clear, Occupied, HostState, keeping, new_host, Keeps, Loses, ObjectCall, Pays, Senses, Takes, Ticks, contacts_in, object_after_all, host_step, ArePayments, calls_begun, calls_in_step, contacts_of, has_lost, loss_where, Input as HostInput, Sense, detection_behaviour, changed as changed_section, is_same, losing, settled as settled_section, with_section, Section}
use Rattle.simulator_recovery.proofs.Words.Interlockings.{IsReportedIn, IsTableOf, as_section, Table}
use Rattle.simulator_recovery.proofs.Words.Stations.{DetectorEntry, Site, Distinct, HasSection, IsDetectorOf, IsStation, SectionId, Event, controller_after, controller_anew, step_of, Beginning, IsOutsetOf, Outset, at_zero, first_controller, named_section, new_detector, world_at, all_later, coming, delivered_to, detector_anew, detector_stepped, happens, interlocking_stepped, made_anew, passed, point_anew, point_stepped, sensed_by, signal_anew, signal_stepped, stepped_at, ticked_at, connection_of, copy_of, detector_link, node_at, after_all, ClockedControllerState, WorldState, IsReached}
use Rattle.simulator_recovery.proofs.Words.Recovery.{IsKnownAsInTheField, IsKnownAsItIs, SensesAsTheyAre, IsToldAlways}
use Rattle.simulator_spec.specs.tds_ctl.Sections as sections
use Rattle.simulator_spec.specs.tds_ctl.Sections.{paying}
use Rattle.simulator_spec.specs.Nodes as nodes
use Rattle.simulator_recovery.proofs.Lemmas.Ground.ClientItem.{at_front}
use Rattle.simulator_recovery.proofs.Lemmas.Ground.ControllersOnLinks.{set_there}
use Rattle.simulator_recovery.proofs.Lemmas.Ground.IxlClients.{changed_at, mapped_at}
use Rattle.simulator_recovery.proofs.Lemmas.Sections.SectionReports.{apart_behind, behind_apart, first_apart, own_once}
use Rattle.simulator_recovery.proofs.Lemmas.Ground.StationKeeps.{all_at, later_at}

-- ---- lists of which one is set

set_here : {X : Type 0} (list : List X) (place : ℕ) (new old : X) → slice_get list place ≡ Some old → slice_get (slice_set list place new) place ≡ Some new
set_here [] place new old e = absurd (none-some old e)
set_here (x ∷ xs) zero new old e = refl
set_here (x ∷ xs) (suc place) new old e = set_here xs place new old e

set_other : {X : Type 0} (list : List X) (place : ℕ) (new : X) (k : ℕ) → k ≢ place → slice_get (slice_set list place new) k ≡ slice_get list k
set_other [] place new k differ = refl
set_other (x ∷ xs) zero new zero differ = absurd (differ refl)
set_other (x ∷ xs) zero new (suc k) differ = refl
set_other (x ∷ xs) (suc place) new zero differ = refl
set_other (x ∷ xs) (suc place) new (suc k) differ = set_other xs place new k (λ same. differ (ap suc same))

set_length : {X : Type 0} (list : List X) (place : ℕ) (new : X) → length (slice_set list place new) ≡ length list
set_length [] place new = refl
set_length (x ∷ xs) zero new = refl
set_length (x ∷ xs) (suc place) new = ap suc (set_length xs place new)

-- ---- what an object is told of a section

-- a contact of the section at this place tells how it is, and each other leaves it
abbrev TellsOf : ℕ → Sense → Occupancy → Occupancy → Type 0
TellsOf i (Sense.Section k told) old new = ((i ≡ k) × (new ≡ told)) ⊎ ((i ≢ k) × (new ≡ old))
TellsOf i (Sense.Position position) old new = new ≡ old

abbrev AllTellOf : ℕ → List Sense → Occupancy → Occupancy → Type 0
AllTellOf i [] old new = new ≡ old
AllTellOf i (first ∷ others) old new = (mid : Occupancy) × TellsOf i first old mid × AllTellOf i others mid new

same_told : (a b : Occupancy) → is_same a b ≡ true → b ≡ a
same_told Clear Clear e = refl
same_told Occupied Occupied e = refl
same_told Clear Occupied e = absurd (false≢true e)
same_told Occupied Clear e = absurd (false≢true e)

sensed_from : (k : ℕ) (told : Occupancy) (list : List Section) (i : ℕ) (y : Section) → slice_get (with_section k (changed_section told) list) i ≡ Some y
    → (x : Section) × (slice_get list i ≡ Some x) × TellsOf i (Sense.Section k told) x.occupancy y.occupancy
sensed_from k told [] i y e = absurd (none-some y e)
sensed_from zero told (first ∷ others) zero y e = (first, refl, inl (refl, choose (is_same told first.occupancy) refl e))
  where
    choose : (b : Bool) → is_same told first.occupancy ≡ b → Some (if b then first else record first { occupancy = told; owes = true }) ≡ Some y → y.occupancy ≡ told
    choose true f g = ap (λ (s : Section). s.occupancy) (sym (same_Some first y g)) ∙ same_told told first.occupancy f
    choose false f g = ap (λ (s : Section). s.occupancy) (sym (same_Some _ y g))
sensed_from zero told (first ∷ others) (suc i) y e = (y, e, inr (λ same. absurd (cc same), refl))
sensed_from (suc k) told (first ∷ others) zero y e = (y, e, inr (λ same. absurd (cc same), refl))
sensed_from (suc k) told (first ∷ others) (suc i) y e = let rest = sensed_from k told others i y e in (rest.0, rest.1, further rest.2)
  where
    further : {old new : Occupancy} → ((i ≡ k) × (new ≡ told)) ⊎ ((i ≢ k) × (new ≡ old)) → ((suc i ≡ suc k) × (new ≡ told)) ⊎ ((suc i ≢ suc k) × (new ≡ old))
    further (inl (f, g)) = inl (ap suc f, g)
    further (inr (differ, g)) = inr (λ same. differ (omega (arith, same)), g)

-- the section before, of which the occupancy is the same
abbrev Before : List Section → ℕ → Section → Type 0
Before list i y = (x : Section) × (slice_get list i ≡ Some x) × (y.occupancy ≡ x.occupancy)

paid_from : (list : List Section) (i : ℕ) (y : Section) → slice_get (paying list) i ≡ Some y → Before list i y
paid_from [] i y e = absurd (none-some y e)
paid_from (first ∷ others) zero y e = choose first.owes e
  where
    choose : (b : Bool) → slice_get (if b then settled_section first ∷ others else first ∷ paying others) zero ≡ Some y → Before (first ∷ others) zero y
    choose true f = (first, refl, ap (λ (s : Section). s.occupancy) (sym (same_Some (settled_section first) y f)))
    choose false f = (first, refl, ap (λ (s : Section). s.occupancy) (sym (same_Some first y f)))
paid_from (first ∷ others) (suc i) y e = choose first.owes e (paid_from others i y)
  where
    choose : (b : Bool) → slice_get (if b then settled_section first ∷ others else first ∷ paying others) (suc i) ≡ Some y → (slice_get (paying others) i ≡ Some y → Before others i y) → Before (first ∷ others) (suc i) y
    choose true f later = (y, f, refl)
    choose false f later = later f

lost_from : (list : List Section) (i : ℕ) (y : Section) → slice_get (losing list) i ≡ Some y → Before list i y
lost_from list i y e = let found = mapped_at settled_section list i y e in (found.0, found.1, ap (λ (s : Section). s.occupancy) found.2)

calls_from : (calls : List ObjectCall) (list : List Section) (i : ℕ) (y : Section) → slice_get (object_after_all detection_behaviour calls list) i ≡ Some y
    → (x : Section) × (slice_get list i ≡ Some x) × AllTellOf i (contacts_in calls) x.occupancy y.occupancy
unfolding object_after_all contacts_in
calls_from [] list i y e = (y, e, refl)
calls_from (Takes now telegram ∷ others) list i y e = calls_from others list i y e
calls_from (Ticks now ∷ others) list i y e = calls_from others list i y e
calls_from (Keeps moment ∷ others) list i y e = calls_from others list i y e
calls_from (Senses now (Sense.Section k told) ∷ others) list i y e =
    let rest = calls_from others (with_section k (changed_section told) list) i y e
    in let first = sensed_from k told list i rest.0 rest.1
    in (first.0, first.1, (rest.0.occupancy, first.2, rest.2))
calls_from (Senses now (Sense.Position position) ∷ others) list i y e = let rest = calls_from others list i y e in (rest.0, rest.1, (rest.0.occupancy, refl, rest.2))
calls_from (Pays ∷ others) list i y e =
    let rest = calls_from others (paying list) i y e
    in let first = paid_from list i rest.0 rest.1
    in (first.0, first.1, subst (λ (o : Occupancy). AllTellOf i (contacts_in others) o y.occupancy) first.2 rest.2)
calls_from (Loses ∷ others) list i y e =
    let rest = calls_from others (losing list) i y e
    in let first = lost_from list i rest.0 rest.1
    in (first.0, first.1, subst (λ (o : Occupancy). AllTellOf i (contacts_in others) o y.occupancy) first.2 rest.2)

-- ---- the contacts of a step

contacts_both : (one other : List ObjectCall) → contacts_in (one ++ other) ≡ contacts_in one ++ contacts_in other
unfolding contacts_in
contacts_both [] other = refl
contacts_both (Takes now telegram ∷ one) other = contacts_both one other
contacts_both (Ticks now ∷ one) other = contacts_both one other
contacts_both (Senses now contact ∷ one) other = ap (λ (l : List Sense). contact ∷ l) (contacts_both one other)
contacts_both (Keeps moment ∷ one) other = contacts_both one other
contacts_both (Pays ∷ one) other = contacts_both one other
contacts_both (Loses ∷ one) other = contacts_both one other

pays_none : (calls : List ObjectCall) → ArePayments calls → contacts_in calls ≡ []
unfolding contacts_in
pays_none [] are = refl
pays_none (Pays ∷ others) are = pays_none others are
pays_none (Takes now telegram ∷ others) are = absurd are
pays_none (Ticks now ∷ others) are = absurd are
pays_none (Senses now contact ∷ others) are = absurd are
pays_none (Keeps moment ∷ others) are = absurd are
pays_none (Loses ∷ others) are = absurd are

begun_none : (b : Bool) (now : ℕ) → contacts_in (loss_where b ++ Ticks now ∷ []) ≡ []
unfolding contacts_in
begun_none true now = refl
begun_none false now = refl

ended_none : (b : Bool) (moment : ℕ) → contacts_in (loss_where b ++ Keeps moment ∷ []) ≡ []
unfolding contacts_in
ended_none true moment = refl
ended_none false moment = refl

-- a section after a step is the one before, told by the contact of the step
step_from : (told : IsToldAlways) (now : ℕ) (input : HostInput) (host : HostState (List Section)) (i : ℕ) (y : Section) → slice_get (host_step detection_behaviour now input host).host.object i ≡ Some y
    → (x : Section) × (slice_get host.object i ≡ Some x) × AllTellOf i (contacts_of input) x.occupancy y.occupancy
step_from told now input host i y e =
    let t = told now input host
    in let moment = alive_until (host_step detection_behaviour now input host).host.link
    in let during : contacts_in (t.comes ++ t.pays) ≡ contacts_of input = contacts_both t.comes t.pays ∙ ap (λ (l : List Sense). contacts_in t.comes ++ l) (pays_none t.pays t.are_payments) ∙ append-nil (contacts_in t.comes) ∙ t.senses
    in let end : contacts_in ((t.comes ++ t.pays) ++ (loss_where t.is_lost ++ Keeps moment ∷ [])) ≡ contacts_of input =
    contacts_both (t.comes ++ t.pays) (loss_where t.is_lost ++ Keeps moment ∷ []) ∙ ap (λ (l : List Sense). contacts_in (t.comes ++ t.pays) ++ l) (ended_none t.is_lost moment) ∙ append-nil (contacts_in (t.comes ++ t.pays)) ∙ during
    in let all : contacts_in (calls_in_step now host (t.comes ++ t.pays) t.is_lost (host_step detection_behaviour now input host).host) ≡ contacts_of input =
    contacts_both (calls_begun now host) _ ∙ ap (λ (l : List Sense). l ++ contacts_in ((t.comes ++ t.pays) ++ (loss_where t.is_lost ++ Keeps moment ∷ []))) (begun_none (has_lost (record host { link = settled now host.link })) now) ∙ end
    in let found = calls_from (calls_in_step now host (t.comes ++ t.pays) t.is_lost (host_step detection_behaviour now input host).host) host.object i y (ap (λ (l : List Section). slice_get l i) (sym t.object_is) ∙ e)
    in (found.0, found.1, subst (λ (l : List Sense). AllTellOf i l found.0.occupancy y.occupancy) all found.2)

-- ---- one detector for each section

-- what stands in a list of a concatenation stands in it
in_all : (detectors : List DetectorEntry) (p i : ℕ) (d : DetectorEntry) (section : SectionId) → slice_get detectors p ≡ Some d → slice_get d.sections i ≡ Some section
    → (k : ℕ) × (slice_get (flat_map (λ (x : DetectorEntry). x.sections) detectors) k ≡ Some section)
in_all [] p i d section there at = absurd (none-some d there)
in_all (first ∷ others) zero i d section there at = (i, at_front first.sections _ i section (subst (λ (x : DetectorEntry). slice_get x.sections i ≡ Some section) (sym (same_Some first d there)) at))
in_all (first ∷ others) (suc p) i d section there at = let found = in_all others p i d section there at in behind first.sections found.0 found.1
  where
    behind : (front : List SectionId) (k : ℕ) → slice_get (flat_map (λ (x : DetectorEntry). x.sections) others) k ≡ Some section
        → (n : ℕ) × (slice_get (front ++ flat_map (λ (x : DetectorEntry). x.sections) others) n ≡ Some section)
    behind [] k e = (k, e)
    behind (one ∷ front) k e = let found = behind front k e in (suc found.0, found.1)

-- nothing stands in both of two lists in which all are apart
none_both : (front others : List SectionId) (section : SectionId) (i : ℕ) → Distinct (front ++ others) → slice_get front i ≡ Some section → (k : ℕ) × (slice_get others k ≡ Some section) → ⊥
none_both [] others section i apart at other = none-some section at
none_both (one ∷ front) others section zero apart at (k, other) = let found = further front k other in first_apart one (front ++ others) found.0 section apart found.1 (same_Some one section at)
  where
    further : (front : List SectionId) (k : ℕ) → slice_get others k ≡ Some section → (n : ℕ) × (slice_get (front ++ others) n ≡ Some section)
    further [] k e = (k, e)
    further (first ∷ more) k e = let found = further more k e in (suc found.0, found.1)
none_both (one ∷ front) others section (suc i) apart at other = none_both front others section i (apart_behind one (front ++ others) apart) at other

-- a section stands in the list of one detector
pub one_detector : (detectors : List DetectorEntry) (p q i j : ℕ) (d e : DetectorEntry) (section : SectionId) → Distinct (flat_map (λ (d : DetectorEntry). d.sections) detectors)
    → slice_get detectors p ≡ Some d → slice_get detectors q ≡ Some e → slice_get d.sections i ≡ Some section → slice_get e.sections j ≡ Some section → p ≡ q
one_detector [] p q i j d e section apart there other at too = absurd (none-some d there)
one_detector (first ∷ others) zero zero i j d e section apart there other at too = refl
one_detector (first ∷ others) zero (suc q) i j d e section apart there other at too =
    absurd (none_both first.sections (flat_map (λ (x : DetectorEntry). x.sections) others) section i apart
    (subst (λ (x : DetectorEntry). slice_get x.sections i ≡ Some section) (sym (same_Some first d there)) at) (in_all others q j e section other too))
one_detector (first ∷ others) (suc p) zero i j d e section apart there other at too =
    absurd (none_both first.sections (flat_map (λ (x : DetectorEntry). x.sections) others) section j apart
    (subst (λ (x : DetectorEntry). slice_get x.sections j ≡ Some section) (sym (same_Some first e other)) too) (in_all others p i d section there at))
one_detector (first ∷ others) (suc p) (suc q) i j d e section apart there other at too = ap suc (one_detector others p q i j d e section (behind_apart first.sections _ apart) there other at too)

-- ---- the field

module _ (told : IsToldAlways) (site : Site) (table : Table) (station : IsStation site) (is_table : IsTableOf site table) where
  -- each section of these detectors has its occupancy of these
  record AreSensed (occupied : List Occupancy) (detectors : List (ClockedControllerState (List Section))) : Type 0 where
    many : length occupied ≡ length site.sections
    are : (place i : ℕ) (entry : DetectorEntry) (c : ClockedControllerState (List Section)) (section : SectionId) (one : Section) → slice_get site.detectors place ≡ Some entry → slice_get detectors place ≡ Some c
        → slice_get entry.sections i ≡ Some section → slice_get c.host.object i ≡ Some one → slice_get occupied section.0 ≡ Some one.occupancy

  there : (occupied : List Occupancy) → length occupied ≡ length site.sections → (place i : ℕ) (entry : DetectorEntry) (section : SectionId) → slice_get site.detectors place ≡ Some entry → slice_get entry.sections i ≡ Some section
      → slice_get occupied section.0 ≡ Some (slice_index_or occupied section.0 Clear)
  there occupied many place i entry section e f =
      let is_detector = all_at (IsDetectorOf site) site.detectors station.detectors place entry e
      in let within : section.0 < length site.sections = all_at (HasSection site) entry.sections is_detector.sections i section f
      in slice_get-get_or occupied section.0 Clear (omega (arith, within, many))

  -- a detector that is made senses its sections as they are
  new_sensed : (begins : Beginning) (occupied : List Occupancy) → length occupied ≡ length site.sections → (place i : ℕ) (entry : DetectorEntry) (section : SectionId) (one : Section) → slice_get site.detectors place ≡ Some entry
      → slice_get entry.sections i ≡ Some section → slice_get (new_detector site begins occupied entry).object i ≡ Some one → slice_get occupied section.0 ≡ Some one.occupancy
  unfolding new_host keeping
  new_sensed begins occupied many place i entry section one e f g =
      let lost = lost_from (map (λ (x : SectionId). sections.made (named_section site occupied x)) entry.sections) i one g
      in let found = mapped_at (λ (x : SectionId). sections.made (named_section site occupied x)) entry.sections i lost.0 lost.1
      in let same : found.0 ≡ section = same_Some found.0 section (sym found.1 ∙ f)
      in there occupied many place i entry section e f ∙ ap Some (ap (λ (x : SectionId). slice_index_or occupied x.0 Clear) (sym same) ∙ ap (λ (s : Section). s.occupancy) (sym found.2) ∙ sym lost.2)

  abbrev Sensed : WorldState → Type 0
  Sensed world = AreSensed world.occupancies world.detectors

  -- a step without a contact leaves all sections
  quiet_step : (input : HostInput) (connection place : ℕ) (world : WorldState) → contacts_of input ≡ [] → Sensed world → Sensed (detector_stepped site input connection place world)
  unfolding detector_stepped stepped_at controller_after
  quiet_step input connection place world quiet before = by_found (slice_get world.detectors place) refl
    where
      by_found : (found : Option (ClockedControllerState (List Section))) → slice_get world.detectors place ≡ found
          → AreSensed world.occupancies (stepped_at detection_behaviour input connection world.time (detector_link site place) place found (record { servers = world.detectors; sent = world.sent })).servers
      by_found None e = before
      by_found (Some c) e = record { many = before.many; are = λ k i entry one section x f g h at. choose k i entry one section x f h at (set_there world.detectors place _ k one g) }
        where
          choose : (k i : ℕ) (entry : DetectorEntry) (one : ClockedControllerState (List Section)) (section : SectionId) (x : Section) → slice_get site.detectors k ≡ Some entry → slice_get entry.sections i ≡ Some section → slice_get one.host.object i ≡ Some x
              → ((k ≡ place) × (one ≡ controller_after (step_of detection_behaviour input c) connection (length world.sent) c)) ⊎ ((k ≢ place) × (slice_get world.detectors k ≡ Some one)) → slice_get world.occupancies section.0 ≡ Some x.occupancy
          choose k i entry one section x f h at (inr (differ, g)) = before.are k i entry one section x f g h at
          choose k i entry one section x f h at (inl (same, is)) =
              let was = step_from told (reading_of c.clock) input c.host i x (ap (λ (y : ClockedControllerState (List Section)). slice_get y.host.object i) (sym is) ∙ at)
              in let left = subst (λ (l : List Sense). AllTellOf i l was.0.occupancy x.occupancy) quiet was.2
              in before.are k i entry c section was.0 f (ap (slice_get world.detectors) same ∙ e) h was.1 ∙ ap Some (sym left)

  -- a section of which its reporter senses another occupancy
  module _ (section : ℕ) (occupancy : Occupancy) (world : WorldState) (before : Sensed world) where
    abbrev changed_occupancies : List Occupancy
    changed_occupancies = slice_set world.occupancies section occupancy

    many_still : length changed_occupancies ≡ length site.sections
    many_still = set_length world.occupancies section occupancy ∙ before.many

    -- another section is left
    other_left : (k i : ℕ) (entry : DetectorEntry) (c : ClockedControllerState (List Section)) (other : SectionId) (one : Section) → slice_get site.detectors k ≡ Some entry → slice_get world.detectors k ≡ Some c
        → slice_get entry.sections i ≡ Some other → slice_get c.host.object i ≡ Some one → other.0 ≢ section → slice_get changed_occupancies other.0 ≡ Some one.occupancy
    other_left k i entry c other one e f g h differ = set_other world.occupancies section occupancy other.0 differ ∙ before.are k i entry c other one e f g h

    -- no detector has a section that none reports
    unreported : slice_get table.reporters section ≡ None → AreSensed changed_occupancies world.detectors
    unreported none = record { many = many_still; are = λ k i entry c other one e f g h. other_left k i entry c other one e f g h (apart k i entry other e g) }
      where
        apart : (k i : ℕ) (entry : DetectorEntry) (other : SectionId) → slice_get site.detectors k ≡ Some entry → slice_get entry.sections i ≡ Some other → other.0 ≢ section
        apart k i entry other e f same =
            let is_detector = all_at (IsDetectorOf site) site.detectors station.detectors k entry e
            in let within : other.0 < length site.sections = all_at (HasSection site) entry.sections is_detector.sections i other f
            in let all = is_table.reporters.each
            in none-some _ (sym none ∙ (ap (slice_get table.reporters) (sym same) ∙ slice_get-get_or table.reporters other.0 (0, 0) (omega (arith, within, all))))

    module _ (reporter : ℕ × ℕ) (reports : slice_get table.reporters section ≡ Some reporter) where
      their : IsReportedIn site.detectors section reporter
      their = is_table.reporters.their section reporter reports

      elsewhere : (k i : ℕ) (entry : DetectorEntry) (other : SectionId) → slice_get site.detectors k ≡ Some entry → slice_get entry.sections i ≡ Some other → k ≢ reporter.0 → other.0 ≢ section
      elsewhere k i entry other e f differ same = differ (one_detector site.detectors k reporter.0 i reporter.1 entry their.0 other station.reported.once e their.1 f (their.2 ∙ ap Some (sym (ap as_section same))))

      beside : (i : ℕ) (entry : DetectorEntry) (other : SectionId) → slice_get site.detectors reporter.0 ≡ Some entry → slice_get entry.sections i ≡ Some other → i ≢ reporter.1 → other.0 ≢ section
      beside i entry other e f differ same = differ (own_once site.detectors reporter.0 i reporter.1 entry other station.reported.once e f
          (subst (λ (d : DetectorEntry). slice_get d.sections reporter.1 ≡ Some other) (same_Some their.0 entry (sym their.1 ∙ e)) (their.2 ∙ ap Some (sym (ap as_section same)))))

      itself : (entry : DetectorEntry) (other : SectionId) → slice_get site.detectors reporter.0 ≡ Some entry → slice_get entry.sections reporter.1 ≡ Some other → other.0 ≡ section
      itself entry other e f = ap (λ (x : SectionId). x.0) (same_Some other (as_section section) (sym f ∙ subst (λ (d : DetectorEntry). slice_get d.sections reporter.1 ≡ Some (as_section section)) (same_Some their.0 entry (sym their.1 ∙ e)) their.2))

      contact_step : AreSensed changed_occupancies (detector_stepped site (HostInput.Sense (Sense.Section reporter.1 occupancy)) 0 reporter.0 world).detectors
      unfolding detector_stepped stepped_at controller_after
      contact_step = by_found (slice_get world.detectors reporter.0) refl
        where
          contact : HostInput
          contact = HostInput.Sense (Sense.Section reporter.1 occupancy)

          own_section : (c one : ClockedControllerState (List Section)) (i : ℕ) (entry : DetectorEntry) (other : SectionId) (x was : Section) → slice_get world.detectors reporter.0 ≡ Some c → slice_get site.detectors reporter.0 ≡ Some entry
              → slice_get entry.sections i ≡ Some other → slice_get c.host.object i ≡ Some was → ((i ≡ reporter.1) × (x.occupancy ≡ occupancy)) ⊎ ((i ≢ reporter.1) × (x.occupancy ≡ was.occupancy)) → slice_get changed_occupancies other.0 ≡ Some x.occupancy
          own_section c one i entry other x was e f h at (inr (differ, left)) = other_left reporter.0 i entry c other was f e h at (beside i entry other f h differ) ∙ ap Some (sym left)
          own_section c one i entry other x was e f h at (inl (same, tells)) =
              let is = itself entry other f (subst (λ (n : ℕ). slice_get entry.sections n ≡ Some other) same h)
              in ap (slice_get changed_occupancies) is ∙ (set_here world.occupancies section occupancy was.occupancy (ap (slice_get world.occupancies) (sym is) ∙ before.are reporter.0 i entry c other was f e h at) ∙ ap Some (sym tells))

          choose : (c : ClockedControllerState (List Section)) (k i : ℕ) (entry : DetectorEntry) (one : ClockedControllerState (List Section)) (other : SectionId) (x : Section) → slice_get world.detectors reporter.0 ≡ Some c → slice_get site.detectors k ≡ Some entry
              → slice_get entry.sections i ≡ Some other → slice_get one.host.object i ≡ Some x
              → ((k ≡ reporter.0) × (one ≡ controller_after (step_of detection_behaviour contact c) 0 (length world.sent) c)) ⊎ ((k ≢ reporter.0) × (slice_get world.detectors k ≡ Some one)) → slice_get changed_occupancies other.0 ≡ Some x.occupancy
          choose c k i entry one other x e f h at (inr (differ, g)) = other_left k i entry one other x f g h at (elsewhere k i entry other f h differ)
          choose c k i entry one other x e f h at (inl (same, is)) =
              let was = step_from told (reading_of c.clock) contact c.host i x (ap (λ (y : ClockedControllerState (List Section)). slice_get y.host.object i) (sym is) ∙ at)
              in own_section c one i entry other x was.0 e (ap (slice_get site.detectors) (sym same) ∙ f) h was.1 (told_once was.2)
            where
              told_once : {i k : ℕ} {old new told : Occupancy} → AllTellOf i (Sense.Section k told ∷ []) old new → ((i ≡ k) × (new ≡ told)) ⊎ ((i ≢ k) × (new ≡ old))
              told_once (mid, inl (f, g), last) = inl (f, last ∙ g)
              told_once (mid, inr (f, g), last) = inr (f, last ∙ g)

          by_found : (found : Option (ClockedControllerState (List Section))) → slice_get world.detectors reporter.0 ≡ found
              → AreSensed changed_occupancies (stepped_at detection_behaviour contact 0 world.time (detector_link site reporter.0) reporter.0 found (record { servers = world.detectors; sent = world.sent })).servers
          by_found None e = record {
            many = many_still;
            are = λ k i entry c other one f g h at. other_left k i entry c other one f g h at
                (elsewhere k i entry other f h (λ same. absurd (none-some c (sym e ∙ (ap (slice_get world.detectors) (sym same) ∙ g)))));
          }
          by_found (Some c) e = record { many = many_still; are = λ k i entry one other x f g h at. choose c k i entry one other x e f h at (set_there world.detectors reporter.0 _ k one g) }

  contact_senses : (section : ℕ) (occupancy : Occupancy) (world : WorldState) (found : Option (ℕ × ℕ)) → slice_get table.reporters section ≡ found → Sensed world
      → Sensed (sensed_by site occupancy found (record world { occupancies = slice_set world.occupancies section occupancy }))
  unfolding detector_stepped
  contact_senses section occupancy world None e before = unreported section occupancy world before e
  contact_senses section occupancy world (Some reporter) e before = contact_step section occupancy world before reporter e

  -- ---- all events

  ticked : (node : Option nodes.Node) (world : WorldState) → Sensed world → Sensed (ticked_at site table node world)
  unfolding interlocking_stepped signal_stepped point_stepped
  ticked None world before = before
  ticked (Some nodes.Interlocking) world before = before
  ticked (Some (nodes.Signal place)) world before = before
  ticked (Some (nodes.Point place)) world before = before
  ticked (Some (nodes.Detector place)) world before = quiet_step HostInput.Tick 0 place world refl before

  comes : (bytes : List ℕ) (connection : ℕ) (node : Option nodes.Node) (world : WorldState) → Sensed world → Sensed (delivered_to site table bytes connection node world)
  unfolding interlocking_stepped signal_stepped point_stepped
  comes bytes connection None world before = before
  comes bytes connection (Some nodes.Interlocking) world before = before
  comes bytes connection (Some (nodes.Signal place)) world before = before
  comes bytes connection (Some (nodes.Point place)) world before = before
  comes bytes connection (Some (nodes.Detector place)) world before = quiet_step (coming bytes) connection place world refl before

  anew : (begins : Beginning) (place : ℕ) (found : Option DetectorEntry) (world : WorldState) → slice_get site.detectors place ≡ found → Sensed world → Sensed (detector_anew site begins place found world)
  unfolding controller_anew
  anew begins place None world e before = before
  anew begins place (Some made) world e before = record { many = before.many; are = λ k i entry one section x f g h at. choose k i entry one section x f h at (changed_at _ place world.detectors k one g) }
    where
      choose : (k i : ℕ) (entry : DetectorEntry) (one : ClockedControllerState (List Section)) (section : SectionId) (x : Section) → slice_get site.detectors k ≡ Some entry → slice_get entry.sections i ≡ Some section → slice_get one.host.object i ≡ Some x
          → ((k ≡ place) × (c : ClockedControllerState (List Section)) × (slice_get world.detectors place ≡ Some c) × (one ≡ controller_anew (new_detector site begins world.occupancies made) begins.clock (length world.sent) c)) ⊎ (slice_get world.detectors k ≡ Some one)
          → slice_get world.occupancies section.0 ≡ Some x.occupancy
      choose k i entry one section x f h at (inr g) = before.are k i entry one section x f g h at
      choose k i entry one section x f h at (inl (same, c, there_c, is)) =
          let own : entry ≡ made = same_Some entry made (sym f ∙ (ap (slice_get site.detectors) same ∙ e))
          in new_sensed begins world.occupancies before.many k i entry section x f h
          (subst (λ (d : DetectorEntry). slice_get (new_detector site begins world.occupancies d).object i ≡ Some x) (sym own) (ap (λ (y : ClockedControllerState (List Section)). slice_get y.host.object i) (sym is) ∙ at))

  restarts : (begins : Beginning) (node : Option nodes.Node) (world : WorldState) → Sensed world → Sensed (made_anew site table begins node world)
  restarts begins None world before = before
  restarts begins (Some nodes.Interlocking) world before = before
  restarts begins (Some (nodes.Signal place)) world before = by_found (slice_get site.signals place)
    where
      by_found : (found : Option _) → Sensed (signal_anew site begins place found world)
      by_found None = before
      by_found (Some entry) = before
  restarts begins (Some (nodes.Point place)) world before = by_found (slice_get site.points place)
    where
      by_found : (found : Option _) → Sensed (point_anew site begins place found world)
      by_found None = before
      by_found (Some entry) = before
  restarts begins (Some (nodes.Detector place)) world before = anew begins place (slice_get site.detectors place) world refl before

  later : (moment : ℕ) (steps : List ℕ) (occupied : List Occupancy) (detectors : List (ClockedControllerState (List Section))) → AreSensed occupied detectors → AreSensed occupied (all_later moment steps detectors)
  later moment steps occupied detectors before = record {
    many = before.many;
    are = λ k i entry one section x f g h at.
        let was = later_at moment steps detectors k one g
        in before.are k i entry was.0 section x f was.1 h (ap (λ (y : HostState (List Section)). slice_get y.object i) (sym was.2) ∙ at);
  }

  one_event : (happening : Event) (world : WorldState) → Sensed world → Sensed (happens site table happening world)
  unfolding happens passed point_stepped interlocking_stepped
  one_event (Event.Request command) world before = before
  one_event (Event.Occupy section occupancy) world before = contact_senses section.0 occupancy world (slice_get table.reporters section.0) refl before
  one_event (Event.Tick node) world before = ticked (node_at site node.0) world before
  one_event (Event.Time elapsed clocks) world before = later (length world.sent) _ world.occupancies world.detectors before
  one_event (Event.Deliver node bytes) world before = comes bytes (connection_of (copy_of bytes world)) (node_at site node.0) world before
  one_event (Event.Lose bytes) world before = before
  one_event (Event.Reach point position) world before = before
  one_event (Event.Restart node clock first) world before = restarts (record { clock = clock; first = first }) (node_at site node.0) world before

  all_events : (events : List Event) (world : WorldState) → Sensed world → Sensed (after_all site table events world)
  all_events [] world before = before
  all_events (first ∷ others) world before = all_events others (happens site table first world) (one_event first world before)

  first_sensed : (outset : Outset) → IsOutsetOf site outset → Sensed (world_at site table outset)
  unfolding world_at
  first_sensed outset lies = record {
    many = lies.occupancies;
    are = λ k i entry c section x f g h at.
        let found = mapped_at (λ (d : DetectorEntry). first_controller (new_detector site at_zero outset.occupancies d)) site.detectors k c g
        in let own : found.0 ≡ entry = same_Some found.0 entry (sym found.1 ∙ f)
        in new_sensed at_zero outset.occupancies lies.occupancies k i entry section x f h
        (subst (λ (d : DetectorEntry). slice_get (new_detector site at_zero outset.occupancies d).object i ≡ Some x) own (ap (λ (y : ClockedControllerState (List Section)). slice_get y.host.object i) (sym found.2) ∙ at));
  }

  sensed : (world : WorldState) → IsReached site table world → Sensed world
  sensed world reached = subst Sensed (sym reached.after) (all_events reached.events (world_at site table reached.outset) (first_sensed reached.outset reached.lies))

  pub senses_as_they_are : (world : WorldState) → IsReached site table world → SensesAsTheyAre table world
  senses_as_they_are world reached = record {
    sensed = λ section reporter controller one e f g.
        let their = is_table.reporters.their section reporter e
        in (sensed world reached).are reporter.0 reporter.1 their.0 controller (as_section section) one their.1 f their.2 g;
  }

  -- so what is known as its detector has it is known as it is in the field
  pub known_in_field : (world : WorldState) → IsReached site table world → (section : ℕ) → IsKnownAsItIs table world section → IsKnownAsInTheField table world section
  known_in_field world reached section (reporter, e, (controller, f, (one, g, known))) = (one.occupancy, (senses_as_they_are world reached).sensed section reporter controller one e f g, known)
