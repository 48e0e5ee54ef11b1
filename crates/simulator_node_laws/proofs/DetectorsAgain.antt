-- A detector that a contact tells again what it told last.
use Rattle.std.proofs.Common.{◌≡◌, ℕ, zero, suc, ◌<◌, Bool, true, false, List, [], ◌∷◌, ◌++◌, length, map, Some, slice_get, slice_set, refl, sym, ap, subst, ◌∙◌, arith, if◌then◌else◌}
use Rattle.std.specs.List.{zip}
use Rattle.std.proofs.lemmas.List.{append-nil}
use Rattle.std.proofs.lemmas.Option.{same_Some}
use Rattle.simulator_spec.specs.sci_telegram.declared.message.Occupancy.{Occupancy}
use Rattle.simulator_spec.specs.sci_telegram.declared.message.Occupancy.TheVariants.{Clear, Occupied}
use Rattle.simulator_spec.specs.layout.Entries.{DetectorEntry, Site}
use Rattle.simulator_spec.specs.rasta_core.Clock.{alive_until, settled as link_settled}
use Rattle.simulator_spec.specs.rasta_core.Parameters.{connection_limit}
use Rattle.simulator_spec.specs.rasta_core.identity.Identity.{Identity}
use Rattle.simulator_spec.specs.object_host.Host.{HostState, keeping}
use Rattle.simulator_spec.specs.object_host.Hosted.{IsHosted, IsSteady, new_host}
use Rattle.simulator_spec.specs.object_host.Object.{ObjectCall, Takes, Ticks, Senses, Keeps, Pays, Loses, contacts_in, object_after_all}
use Rattle.simulator_spec.specs.object_host.Step.{beginning, host_step}
use Rattle.simulator_spec.specs.object_host.Told.{ArePayments, IsToldIn, calls_in_step, contacts_of, has_lost, loss_where}
use Rattle.simulator_spec.specs.object_host.declared.input.Input.{Input}
use Rattle.simulator_spec.specs.object_host.declared.input.Input.TheVariants as inputs
use Rattle.simulator_spec.specs.object_host.declared.sense.Sense.{Sense}
use Rattle.simulator_spec.specs.object_host.declared.sense.Sense.TheVariants as sense
use Rattle.simulator_spec.specs.tds_ctl.Controlled.{detection_behaviour}
use Rattle.simulator_spec.specs.tds_ctl.History.{occupancies}
use Rattle.simulator_spec.specs.tds_ctl.Sections as sections
use Rattle.simulator_spec.specs.tds_ctl.Sections.{changed, is_same, losing, paying, settled, with_section}
use Rattle.simulator_spec.specs.tds_ctl.declared.section.Section.{Section}
use Rattle.simulator_spec.specs.ixl_spec.Table.{Table}
use Rattle.simulator_spec.specs.simulator_event.declared.event.Event.{Event}
use Rattle.simulator_spec.specs.First.{Beginning, Outset}
use Rattle.simulator_node_laws.specs.Contacts.{IsAsNoise, detector_now}
use Rattle.simulator_node_laws.specs.Lives.{detector_at, detector_sensing, first_life, host_after, occupancies_at, occupied_after, own_names, sections_in}
use Rattle.simulator_node_laws.specs.Said.{detector_life}
use Rattle.simulator_node_laws.proofs.Counts.{length_mapped, length_set}
use Rattle.simulator_node_laws.proofs.Kept.{kept_in}
use Rattle.simulator_node_laws.proofs.Noise.{begun_is, begun_where, is_lost, same_is_noise}

-- ---- how the sections are, call by call

either_tells : (told stood : Occupancy) → (if is_same told stood then stood else told) ≡ told
either_tells Clear Clear = refl
either_tells Clear Occupied = refl
either_tells Occupied Clear = refl
either_tells Occupied Occupied = refl

changed_tells : (told : Occupancy) (section : Section) → (changed told section).occupancy ≡ told
changed_tells told section = cases (is_same told section.occupancy) ∙ either_tells told section.occupancy where
  cases : (test : Bool) → (if test then section else record section { occupancy = told; owes = true }).occupancy ≡ (if test then section.occupancy else told)
  cases true = refl
  cases false = refl

set_tells : (place : ℕ) (told : Occupancy) (list : List Section) → occupancies (with_section place (changed told) list) ≡ slice_set (occupancies list) place told
set_tells place told [] = refl
set_tells zero told (first ∷ others) = ap (λ o. o ∷ occupancies others) (changed_tells told first)
set_tells (suc place) told (first ∷ others) = ap (λ l. first.occupancy ∷ l) (set_tells place told others)

paying_tells : (list : List Section) → occupancies (paying list) ≡ occupancies list
paying_tells [] = refl
paying_tells (first ∷ others) = cases first.owes (paying_tells others) where
  cases : (test : Bool) → occupancies (paying others) ≡ occupancies others → occupancies (if test then settled first ∷ others else first ∷ paying others) ≡ occupancies (first ∷ others)
  cases true same = refl
  cases false same = ap (λ l. first.occupancy ∷ l) same

losing_tells : (list : List Section) → occupancies (losing list) ≡ occupancies list
losing_tells [] = refl
losing_tells (first ∷ others) = ap (λ l. first.occupancy ∷ l) (losing_tells others)

-- what contacts tell, one after another
abbrev told_by : List Sense → List Occupancy → List Occupancy
told_by [] old = old
told_by (sense.Section place occupancy ∷ others) old = told_by others (slice_set old place occupancy)
told_by (sense.Position position ∷ others) old = told_by others old

all_tell : (calls : List ObjectCall) (list : List Section) → occupancies (object_after_all detection_behaviour calls list) ≡ told_by (contacts_in calls) (occupancies list)
unfolding object_after_all contacts_in
all_tell [] list = refl
all_tell (Takes now telegram ∷ others) list = all_tell others list
all_tell (Ticks now ∷ others) list = all_tell others list
all_tell (Senses now (sense.Section place occupancy) ∷ others) list = all_tell others (with_section place (changed occupancy) list) ∙ ap (told_by (contacts_in others)) (set_tells place occupancy list)
all_tell (Senses now (sense.Position position) ∷ others) list = all_tell others list
all_tell (Keeps moment ∷ others) list = all_tell others list
all_tell (Pays ∷ others) list = all_tell others (paying list) ∙ ap (told_by (contacts_in others)) (paying_tells list)
all_tell (Loses ∷ others) list = all_tell others (losing list) ∙ ap (told_by (contacts_in others)) (losing_tells list)

contacts_joined : (first others : List ObjectCall) → contacts_in (first ++ others) ≡ contacts_in first ++ contacts_in others
unfolding contacts_in
contacts_joined [] others = refl
contacts_joined (Takes now telegram ∷ more) others = contacts_joined more others
contacts_joined (Ticks now ∷ more) others = contacts_joined more others
contacts_joined (Senses now one ∷ more) others = ap (λ l. one ∷ l) (contacts_joined more others)
contacts_joined (Keeps moment ∷ more) others = contacts_joined more others
contacts_joined (Pays ∷ more) others = contacts_joined more others
contacts_joined (Loses ∷ more) others = contacts_joined more others

none_paid : (calls : List ObjectCall) → ArePayments calls → contacts_in calls ≡ []
unfolding contacts_in
none_paid [] are = refl
none_paid (Takes now telegram ∷ others) are = absurd are
none_paid (Ticks now ∷ others) are = absurd are
none_paid (Senses now one ∷ others) are = absurd are
none_paid (Keeps moment ∷ others) are = absurd are
none_paid (Pays ∷ others) are = none_paid others are
none_paid (Loses ∷ others) are = absurd are

-- the contacts of a step are those that come
contacts_come : (now moment : ℕ) (begins ends : Bool) (comes pays : List ObjectCall) → ArePayments pays
    → contacts_in ((loss_where begins ++ Ticks now ∷ []) ++ ((comes ++ pays) ++ (loss_where ends ++ Keeps moment ∷ []))) ≡ contacts_in comes
unfolding contacts_in
contacts_come now moment begins ends comes pays are = behind begins where
  none_last : (test : Bool) → contacts_in (loss_where test ++ Keeps moment ∷ []) ≡ []
  none_last true = refl
  none_last false = refl

  during : contacts_in ((comes ++ pays) ++ (loss_where ends ++ Keeps moment ∷ [])) ≡ contacts_in comes
  during = contacts_joined (comes ++ pays) (loss_where ends ++ Keeps moment ∷ [])
      ∙ ap (λ l. contacts_in (comes ++ pays) ++ l) (none_last ends) ∙ append-nil (contacts_in (comes ++ pays))
      ∙ contacts_joined comes pays ∙ ap (λ l. contacts_in comes ++ l) (none_paid pays are) ∙ append-nil (contacts_in comes)

  behind : (test : Bool) → contacts_in ((loss_where test ++ Ticks now ∷ []) ++ ((comes ++ pays) ++ (loss_where ends ++ Keeps moment ∷ []))) ≡ contacts_in comes
  behind true = during
  behind false = during

told_of_input : (input : Input) (old : List Occupancy) → told_by (contacts_of input) old ≡ occupied_after input old
told_of_input inputs.Tick old = refl
told_of_input (inputs.Datagram bytes) old = refl
told_of_input (inputs.Sense (sense.Section place occupancy)) old = refl
told_of_input (inputs.Sense (sense.Position position)) old = refl

-- ---- what is so of a detector in its host

-- It senses of each of its sections what its contact told last.
pub record IsKept (own : ℕ) (host : HostState (List Section)) (contacts : List Occupancy) : Type 0 where
  pub hosted : IsHosted detection_behaviour host
  pub sensed : occupancies host.object ≡ contacts
  pub long : length contacts ≡ own

-- the laws of hosts that this stands on
pub record DetectorLaws : Type 0 where
  pub new : (identity : Identity) (own_name peer_name : List ℕ) (first_sequence_number now : ℕ) (object : List Section) (version : ℕ)
      → IsHosted detection_behaviour (new_host detection_behaviour identity own_name peer_name first_sequence_number now object version)
  pub steady : (host : HostState (List Section)) → IsHosted detection_behaviour host → IsSteady detection_behaviour host
  pub hosted : (now : ℕ) (input : Input) (host : HostState (List Section)) → IsSteady detection_behaviour host → IsHosted detection_behaviour (host_step detection_behaviour now input host).host
  pub tells : (now : ℕ) (input : Input) (host : HostState (List Section)) → IsToldIn detection_behaviour now input host (host_step detection_behaviour now input host)

made_tells : (names : List (List ℕ)) (sensed : List Occupancy) → length sensed ≡ length names → occupancies (losing (map sections.made (zip names sensed))) ≡ sensed
made_tells [] [] long = refl
made_tells [] (first ∷ others) long = absurd (omega arith)
made_tells (name ∷ names) [] long = absurd (omega arith)
made_tells (name ∷ names) (first ∷ others) long = ap (λ l. first ∷ l) (made_tells names others (omega arith))

length_told : (input : Input) (old : List Occupancy) → length (occupied_after input old) ≡ length old
length_told inputs.Tick old = refl
length_told (inputs.Datagram bytes) old = refl
length_told (inputs.Sense (sense.Section place occupancy)) old = length_set old place occupancy
length_told (inputs.Sense (sense.Position position)) old = refl

module _ (laws : DetectorLaws) (site : Site) (entry : DetectorEntry) where
  begins_hosted : (begins : Beginning) (contacts : List Occupancy) → IsHosted detection_behaviour (detector_sensing site begins contacts entry)
  begins_hosted begins contacts = laws.new _ _ _ _ _ _ _

  begins_kept : (begins : Beginning) (contacts : List Occupancy) → length contacts ≡ length entry.sections → IsKept (length entry.sections) (detector_sensing site begins contacts entry) contacts
  unfolding new_host keeping
  begins_kept begins contacts long = record {
    hosted = begins_hosted begins contacts;
    sensed = made_tells (own_names site entry.sections) contacts (long ∙ sym (length_mapped _ entry.sections));
    long = long;
  }

  step_kept : (now : ℕ) (input : Input) (host : HostState (List Section)) (contacts : List Occupancy) → IsKept (length entry.sections) host contacts
      → IsKept (length entry.sections) (host_step detection_behaviour now input host).host (occupied_after input contacts)
  step_kept now input host contacts kept =
      let tells = laws.tells now input host
      in record {
        hosted = laws.hosted now input host (laws.steady host kept.hosted);
        sensed = ap occupancies tells.object_is
            ∙ all_tell (calls_in_step now host (tells.comes ++ tells.pays) tells.is_lost (host_step detection_behaviour now input host).host) host.object
            ∙ ap (λ l. told_by l (occupancies host.object)) (contacts_come now (alive_until (host_step detection_behaviour now input host).host.link) (has_lost (record host { link = link_settled now host.link })) tells.is_lost tells.comes tells.pays tells.are_payments ∙ tells.senses)
            ∙ ap (told_by (contacts_of input)) kept.sensed
            ∙ told_of_input input contacts;
        long = length_told input contacts ∙ kept.long;
      }

  pub detector_kept : (table : Table) (outset : Outset) (events : List Event) (place : ℕ) → slice_get site.detectors place ≡ Some entry
      → IsKept (length entry.sections) (detector_now site entry (detector_life site table outset events place)) (detector_life site table outset events place).contacts
  unfolding host_after
  detector_kept table outset events place is = kept_in detection_behaviour (λ begins sensed. detector_sensing site begins sensed entry) (detector_at site place) (IsKept (length entry.sections))
      (λ begins host contacts kept. begins_kept begins contacts kept.long) step_kept site table events (first_life (sections_in site outset place))
      (begins_kept _ (sections_in site outset place) (ap (λ found. length (occupancies_at outset.occupancies found)) is ∙ length_mapped _ entry.sections))

-- ---- it is told again

same_as_it_is : (occupancy : Occupancy) → is_same occupancy occupancy ≡ true
same_as_it_is Clear = refl
same_as_it_is Occupied = refl

unchanged : (told : Occupancy) (section : Section) → section.occupancy ≡ told → changed told section ≡ section
unchanged told section same = subst (λ o. changed o section ≡ section) same
    (ap (λ b. if b then section else record section { occupancy = section.occupancy; owes = true }) (same_as_it_is section.occupancy))

section_again : (place : ℕ) (told : Occupancy) (list : List Section) → slice_get (occupancies list) place ≡ Some told → with_section place (changed told) list ≡ list
section_again place told [] is = refl
section_again zero told (first ∷ others) is = ap (λ s. s ∷ others) (unchanged told first (same_Some first.occupancy told is))
section_again (suc place) told (first ∷ others) is = ap (λ l. first ∷ l) (section_again place told others is)

begun_again : (now place : ℕ) (told : Occupancy) (host : HostState (List Section)) → slice_get (occupancies host.object) place ≡ Some told
    → with_section place (changed told) (beginning detection_behaviour now host).object ≡ (beginning detection_behaviour now host).object
begun_again now place told host is =
    subst (λ (h : HostState (List Section)). with_section place (changed told) h.object ≡ h.object) (sym (begun_is detection_behaviour now host)) (cases (is_lost detection_behaviour now host)) where
      cases : (test : Bool) → with_section place (changed told) (begun_where detection_behaviour test now host).object ≡ (begun_where detection_behaviour test now host).object
      cases true = section_again place told (losing host.object) (ap (λ l. slice_get l place) (losing_tells host.object) ∙ is)
      cases false = section_again place told host.object is

pub told_again : (own now place : ℕ) (told : Occupancy) (host : HostState (List Section)) (contacts : List Occupancy) → IsKept own host contacts → slice_get contacts place ≡ Some told → host.link.sent < connection_limit
    → IsAsNoise detection_behaviour now (sense.Section place told) host
told_again own now place told host contacts kept is few =
    same_is_noise detection_behaviour now (sense.Section place told) host kept.hosted few (begun_again now place told host (ap (λ l. slice_get l place) kept.sensed ∙ is))
