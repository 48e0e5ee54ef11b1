-- A turn of a panel.
use Rattle.std.proofs.Common.{◌≡◌, ◌≤◌, ◌-◌, ◌/◌, ◌++◌, ℕ, Bool, List, Option, Some, Result, Ok, Err, length, refl, ap, sym, subst, ◌∙◌}
use Rattle.std.specs.Result.{IfOk, OnErr, OnOk}
use Rattle.panel_desk.specs.Answers.{DeskView}
use Rattle.panel_desk.specs.Boards.{Notes, none, shown_anew}
use Rattle.panel_desk.specs.declared.pictured.Pictured as pictures
use Rattle.panel_desk.specs.node_lines.closings.declared.auxiliary.AuxiliaryCounts.{AuxiliaryCounts}
use Rattle.panel_desk.specs.node_lines.layout.Entries.{Site}
use Rattle.panel_desk.specs.node_lines.simulator_event.declared.event.Event.{Event}
use Rattle.station_drive.specs.declared.datagrams.Datagrams as networks
use Rattle.station_drive.specs.simulator_event.declared.station.Station as stations
use Rattle.station_drive.specs.Drives.{BreaksRound, MakesRound}
use Rattle.station_drive.specs.Rounds.{RunSoFar, run_after}
use Rattle.station_panel.specs.DisturbedNetwork.{DisturbedView, Passes, Released, heeded}
use Rattle.station_panel.specs.Shown.{own_lines}
use Rattle.station_panel.specs.declared.ending.Ending.{Ending}
use Rattle.station_panel.specs.declared.ending.Ending.TheVariants as ends
use Rattle.station_panel.specs.Turns.{HasPartOfRound, HasRound, IsLived, IsOver, Moment, Wants, engine_of, with_numbers}
use Rattle.station_panel.proofs.Readings.{as_many}

pub stopped : {T E : Type 0} {A : Type 0} (result : Result T E) → A → OnErr result A
stopped (Ok value) is = tt
stopped (Err error) is = is

pub ok_met : {T E : Type 0} {A B : Type 0} (result : Result T E) → (A → B) → OnOk result A → OnOk result B
ok_met (Ok value) leads is = leads is
ok_met (Err error) leads is = tt

pub err_met : {T E : Type 0} {A B : Type 0} (result : Result T E) → (A → B) → OnErr result A → OnErr result B
err_met (Ok value) leads is = tt
err_met (Err error) leads is = leads is

pub if_ok_met : {T E : Type 0} {P Q : T → Type 0} (result : Result T E) → ((value : T) → P value → Q value) → IfOk result P → IfOk result Q
if_ok_met (Ok value) leads is = leads value is
if_ok_met (Err error) leads is = tt

-- what holds of two things holds of their equals
pub moved : {A B : Type 0} {a b : A} {x y : B} (P : A → B → Type 0) → a ≡ b → x ≡ y → P a x → P b y
moved {A} {B} {a} {b} {x} {y} P is are holds = subst (λ z. P b z) are (subst (λ z. P z x) is holds)

pub nothing_noted : (desk : DeskView) → Notes desk desk
nothing_noted desk = none

-- a panel that ends because its time is over has run for it
pub over : (for_ms first now last : ℕ) (ending : Ending) → now ≡ first → (Some ending ≡ Some ends.TimeIsOver → for_ms ≤ (last - now) / 1000) → IsOver for_ms first last ending
over for_ms first now last ends.TimeIsOver is late = subst (λ (n : ℕ). for_ms ≤ (last - n) / 1000) is (late refl)
over for_ms first now last ends.MemoryIsFull is late = tt
over for_ms first now last ends.Stopped is late = tt

-- after a round, made or given up, a run has a drive for each point as before
pub drives_kept : {Station T E : Type 0} (s : stations.Ghosts Station) (result : Result T E) (reading : ℕ) (state : s.State) (old new : RunSoFar) (before after : Site) → length old.drives ≡ length before.points
    → OnOk result (new ≡ run_after s.does state old reading) → OnErr result (new ≡ old) → OnOk result (after ≡ before) → OnErr result (after ≡ before) → length new.drives ≡ length after.points
drives_kept s (Ok done) reading state old new before after had made given_up same other =
    ap (λ (r : RunSoFar). length r.drives) made ∙ (as_many reading (s.does.driven state) 0 old.drives ∙ (had ∙ sym (ap (λ (l : Site). length l.points) same)))
drives_kept s (Err fault) reading state old new before after had made given_up same other = ap (λ (r : RunSoFar). length r.drives) given_up ∙ (had ∙ sym (ap (λ (l : Site). length l.points) other))

module _ {Station Network : Type 0} (s : stations.Ghosts Station) (n : networks.Ghosts Network) where
  -- an engine that was begun anew for its round, as a panel saw it before
  pub record BegunAs (reading : ℕ) (seen : Moment Station Network) (station : Station) (net : DisturbedView Network) (text : Option (List ℕ)) (jammed : List Bool) : Type 0 where
    pub begun : Released n.told n.carries (heeded seen.faults reading seen.net) net
    pub station_is : station ≡ seen.station
    pub text_is : text ≡ seen.text
    pub jammed_is : jammed ≡ seen.faults.jammed

  module _ {reading : ℕ} {seen : Moment Station Network} {station : Station} {net : DisturbedView Network} {text : Option (List ℕ)} {jammed : List Bool} (b : BegunAs reading seen station net text jammed) where
    -- its round is one of the panel
    pub round_made : (asked : List Event) (old new : Moment Station Network) → seen ≡ old
        → MakesRound s.does (Passes n.told n.carries) seen.run reading asked jammed (record { site = s.site station; state = s.state station; net = net; text = text }) (engine_of s new)
        → HasRound s n reading asked old new
    round_made asked old new same made = subst (λ (m : Moment Station Network). HasRound s n reading asked m new) same (record {
      net = net;
      begun = b.begun;
      round =
          subst (λ (j : List Bool). MakesRound s.does (Passes n.told n.carries) seen.run reading asked j (record (engine_of s seen) { net = net }) (engine_of s new)) b.jammed_is
          (moved (λ (st : Station) (t : Option (List ℕ)). MakesRound s.does (Passes n.told n.carries) seen.run reading asked jammed (record { site = s.site st; state = s.state st; net = net; text = t }) (engine_of s new))
          b.station_is b.text_is made);
    })

    pub part_made : (asked : List Event) (old new : Moment Station Network) → seen ≡ old
        → BreaksRound s.does (Passes n.told n.carries) seen.run reading asked jammed (record { site = s.site station; state = s.state station; net = net; text = text }) (engine_of s new)
        → HasPartOfRound s n reading asked old new
    part_made asked old new same made = subst (λ (m : Moment Station Network). HasPartOfRound s n reading asked m new) same (record {
      net = net;
      begun = b.begun;
      round =
          subst (λ (j : List Bool). BreaksRound s.does (Passes n.told n.carries) seen.run reading asked j (record (engine_of s seen) { net = net }) (engine_of s new)) b.jammed_is
          (moved (λ (st : Station) (t : Option (List ℕ)). BreaksRound s.does (Passes n.told n.carries) seen.run reading asked jammed (record { site = s.site st; state = s.state st; net = net; text = t }) (engine_of s new))
          b.station_is b.text_is made);
    })

  -- a round of events that are equal
  pub round_of : (reading : ℕ) (old new : Moment Station Network) (some events : List Event) → some ≡ events → HasRound s n reading some old new → HasRound s n reading events old new
  round_of reading old new some events are round = subst (λ (e : List Event). HasRound s n reading e old new) are round

  pub part_of : (reading : ℕ) (old new : Moment Station Network) (some events : List Event) → some ≡ events → HasPartOfRound s n reading some old new → HasPartOfRound s n reading events old new
  part_of reading old new some events are round = subst (λ (e : List Event). HasPartOfRound s n reading e old new) are round

  -- after it the desk alone was changed
  at_another_desk : {reading : ℕ} {asked : List Event} {old new : Moment Station Network} (desk : DeskView) → HasRound s n reading asked old new → HasRound s n reading asked old (record new { desk = desk })
  at_another_desk desk h = record { net = h.net; begun = h.begun; round = h.round }

  pub round_shown : (reading : ℕ) (asked : List Event) (old mid new : Moment Station Network) (desk : DeskView) → new ≡ record mid { desk = desk } → HasRound s n reading asked old mid → HasRound s n reading asked old new
  round_shown reading asked old mid new desk is h = subst (λ (m : Moment Station Network). HasRound s n reading asked old m) (sym is) (at_another_desk desk h)

module _ {Station Network : Type 0} (s : stations.Ghosts Station) (n : networks.Ghosts Network) (p : pictures.Ghosts Station) where
  -- a turn, by what was wanted in it, by its round and by what the desk shows after it
  pub lived : (limit reading : ℕ) (old mid after : Moment Station Network) (events : List Event) (desk : DeskView) (bytes : ℕ) (numbers : List (Option ℕ)) (counts : AuxiliaryCounts)
      → Wants s p reading old events mid → HasRound s n reading events mid after → after.run ≡ run_after s.does (s.state after.station) mid.run reading → after.desk ≡ mid.desk → after.faults ≡ mid.faults → after.orders ≡ mid.orders
      → Notes (shown_anew (s.site after.station) (p.lines after.station ++ own_lines after.faults after.orders counts bytes limit) (with_numbers numbers after.desk)) desk → IsLived s n p limit reading old (record after { desk = desk })
  lived limit reading old mid after events desk bytes numbers counts wants round run desk_is faults orders notes = record {
    events = events;
    mid = mid;
    wants = wants;
    round = at_another_desk s n desk round;
    run = run ∙ ap (λ (m : Moment Station Network). run_after s.does (s.state after.station) m.run reading) wants.new_is;
    faults = faults;
    orders = orders;
    counts = counts;
    bytes = bytes;
    numbers = numbers;
    notes =
        subst (λ (d : DeskView). Notes (shown_anew (s.site after.station) (p.lines after.station ++ own_lines after.faults after.orders counts bytes limit) (with_numbers numbers d)) desk)
        (desk_is ∙ ap (λ (m : Moment Station Network). m.desk) wants.new_is) notes;
  }
