-- Who waits after commands and turns: no route twice, and none that is manual.
use Rattle.std.proofs.Common.{◌≡◌, ◌∙◌, ◌+◌, ℕ, zero, suc, nat_lt, Bool, true, false, not, if◌then◌else◌, List, [], ◌∷◌, ◌++◌, length, replicate, Some, slice_get, slice_set, refl, sym, ap, subst, arith}
use Rattle.std.specs.Prelude.{◌&&◌, ◌||◌, ◌==◌}
use Rattle.std.proofs.lemmas.Bool.{eq-eqb, eqb-true, lt-ltb, true≢false}
use Rattle.std.proofs.lemmas.Option.{slice_get_within}
use Rattle.std.specs.List.{Contains}
use Rattle.node_lines.specs.ixl_spec.declared.command.Command.TheVariants.{Cancel, Release}
use Rattle.node_lines.specs.layout.Entries.{Site}
use Rattle.node_lines.specs.layout.declared.ids.RouteId.{RouteId}
use Rattle.node_lines.specs.simulator_event.declared.event.Event.{Event}
use Rattle.node_lines.specs.simulator_event.declared.event.Event.TheVariants.{Request}
use Rattle.panel_desk.specs.StandingLaws.{EachOnce, IsManual, LeadsTo, asks_for, here, makes_manual, obeys, turns}
use Rattle.panel_desk.specs.StandingOrders.{EachTried, StandingView, TriedIf, begins_if, begun_from, dropped, ends, flag_set, is_apart_in, is_of, is_set_in, is_shut_in, is_waiting, left, none_standing, now_waiting, obeyed, obeyed_event, obeyed_order, passes, tries}
use Rattle.panel_desk.specs.declared.panel_command.PanelCommand.{PanelCommand}
use Rattle.panel_desk.specs.declared.panel_command.PanelCommand.TheVariants as wants
use Rattle.panel_desk.specs.declared.panel_line.PanelLine.{PanelLine}
use Rattle.panel_desk.specs.declared.standing_order.StandingOrder.{StandingOrder}
use Rattle.panel_desk.specs.declared.standing_order.StandingOrder.TheVariants as order
use Rattle.panel_desk.specs.declared.standing_orders.Waiting.{Waiting}
use Rattle.panel_desk.proofs.Tries.{turn_at, waits_at}
use Rattle.panel_desk.proofs.Waits.{dropped_alone, kept_alone, once_kept, once_with, waits_alone}

-- ---- those that were tried wait as they did

same_after : (site : Site) (lines : List PanelLine) (now : ℕ) (earlier waiting : List Waiting) (routes : List RouteId) (later : List Waiting) (route : RouteId)
    → EachTried site lines now earlier waiting routes later → is_waiting route later ≡ is_waiting route waiting
same_after site lines now _ _ _ _ route (ends) = refl
same_after site lines now _ _ _ _ route (tries {one = one} {earlier = earlier} {more = more} {later = later} {routes = routes} may rest) =
    ap (λ (t : Bool). is_of route one || t) (same_after site lines now (earlier ++ one ∷ []) more routes later route rest)
same_after site lines now _ _ _ _ route (passes {one = one} {earlier = earlier} {more = more} {later = later} {routes = routes} never rest) =
    ap (λ (t : Bool). is_of route one || t) (same_after site lines now (earlier ++ one ∷ []) more routes later route rest)

-- ---- each once

once_after : (site : Site) (lines : List PanelLine) (now : ℕ) (earlier waiting : List Waiting) (routes : List RouteId) (later : List Waiting)
    → EachTried site lines now earlier waiting routes later → EachOnce waiting → EachOnce later
once_after site lines now _ _ _ _ (ends) once = tt
once_after site lines now _ _ _ _ (tries {one = one} {earlier = earlier} {more = more} {later = later} {routes = routes} may rest) once =
    (same_after site lines now (earlier ++ one ∷ []) more routes later one.route rest ∙ once.0, once_after site lines now (earlier ++ one ∷ []) more routes later rest once.1)
once_after site lines now _ _ _ _ (passes {one = one} {earlier = earlier} {more = more} {later = later} {routes = routes} never rest) once =
    (same_after site lines now (earlier ++ one ∷ []) more routes later one.route rest ∙ once.0, once_after site lines now (earlier ++ one ∷ []) more routes later rest once.1)

once_begins : (begins : Bool) (route : RouteId) (waiting : List Waiting) → EachOnce waiting → EachOnce (begins_if begins route waiting)
once_begins true route waiting once = once_with route waiting once
once_begins false route waiting once = once

once_begun : (lines : List PanelLine) (place : ℕ) (automatic : List Bool) (waiting : List Waiting) → EachOnce waiting → EachOnce (begun_from lines place automatic waiting)
once_begun lines place [] waiting once = once
once_begun lines place (is_automatic ∷ more) waiting once =
    let route : RouteId = record { 0 = place } in
    let begins : Bool = is_automatic && not (is_set_in lines route) in
    once_begun lines (suc place) more (begins_if begins route waiting) (once_begins begins route waiting once)

pub once_now : (lines : List PanelLine) (orders : StandingView) → EachOnce orders.waiting → EachOnce (now_waiting lines orders)
once_now lines orders once =
    once_begun lines 0 orders.automatic (left lines orders.waiting) (once_kept (λ one. not (is_set_in lines one.route)) orders.waiting once)

once_order : (asked : StandingOrder) (orders : StandingView) → EachOnce orders.waiting → EachOnce (obeyed_order asked orders).waiting
once_order (order.Automatic route) orders once = once
once_order (order.Queue route) orders once = once_with route orders.waiting once
once_order (order.Manual route) orders once = once_kept (λ one. not (is_of route one)) orders.waiting once

once_event : (event : Event) (orders : StandingView) → EachOnce orders.waiting → EachOnce (obeyed_event event orders).waiting
once_event (Request (Cancel route)) orders once = once_kept (λ one. not (is_of route one)) orders.waiting once
once_event (Request (Release route)) orders once = once_kept (λ one. not (is_of route one)) orders.waiting once
once_event other orders once = once

once_obeyed : (command : PanelCommand) (orders : StandingView) → EachOnce orders.waiting → EachOnce (obeyed command orders).waiting
once_obeyed (wants.Stand asked) orders once = once_order asked orders once
once_obeyed (wants.Event event) orders once = once_event event orders once
once_obeyed wants.CancelAll orders once = tt
once_obeyed (wants.Disturb disturbance) orders once = once

once_turn : (site : Site) (lines : List PanelLine) (now : ℕ) (old new : StandingView) (routes : List RouteId) (shut apart : Bool)
    → TriedIf shut apart site lines now old routes new → EachOnce old.waiting → EachOnce new.waiting
once_turn site lines now old new routes true apart turn once = subst (λ (orders : StandingView). EachOnce orders.waiting) (sym turn.1) tt
once_turn site lines now old new routes false true turn once = subst (λ (orders : StandingView). EachOnce orders.waiting) (sym turn.1) once
once_turn site lines now old new routes false false turn once =
    subst (λ (orders : StandingView). EachOnce orders.waiting) (sym turn.2)
    (once_after site lines now [] (now_waiting lines old) routes turn.0 turn.1 (once_now lines old once))

pub once_led : (site : Site) (may : PanelCommand → Bool) (places : ℕ) (orders : StandingView) → LeadsTo site may (none_standing places) orders → EachOnce orders.waiting
once_led site may places _ (here) = tt
once_led site may places _ (obeys {orders = orders} command led is) = once_obeyed command orders (once_led site may places orders led)
once_led site may places _ (turns {orders = orders} {new = new} lines now routes led turn) =
    once_turn site lines now orders new routes (is_shut_in lines) (is_apart_in lines) turn (once_led site may places orders led)

-- ---- flags

none_flagged : (places place : ℕ) → slice_get (replicate places false) place ≡ Some true → ⊥
none_flagged zero place h = absurd (cc)
none_flagged (suc places) zero h = absurd (cc)
none_flagged (suc places) (suc place) h = none_flagged places place h

-- a flag that is taken away at a place is set nowhere where it wasn't
set_less : (place at : ℕ) (flags : List Bool) → slice_get (slice_set flags place false) at ≡ Some true → slice_get flags at ≡ Some true
set_less place at [] h = h
set_less zero zero (flag ∷ flags) h = absurd (cc)
set_less zero (suc at) (flag ∷ flags) h = h
set_less (suc place) zero (flag ∷ flags) h = h
set_less (suc place) (suc at) (flag ∷ flags) h = set_less place at flags h

flagged_less : (place at : ℕ) (flags : List Bool) → slice_get (flag_set place false flags) at ≡ Some true → slice_get flags at ≡ Some true
flagged_less place at flags h = by_test (nat_lt place (length flags)) h
  where
    by_test : (test : Bool) → slice_get (if test then slice_set flags place false else flags) at ≡ Some true → slice_get flags at ≡ Some true
    by_test true is = set_less place at flags is
    by_test false is = is

set_gone : (place : ℕ) (flags : List Bool) → slice_get (slice_set flags place false) place ≡ Some true → ⊥
set_gone place [] h = absurd (cc)
set_gone zero (flag ∷ flags) h = absurd (cc)
set_gone (suc place) (flag ∷ flags) h = set_gone place flags h

flagged_gone : (place : ℕ) (flags : List Bool) → slice_get (flag_set place false flags) place ≡ Some true → ⊥
flagged_gone place flags h = by_test (nat_lt place (length flags)) refl h
  where
    by_test : (test : Bool) → nat_lt place (length flags) ≡ test → slice_get (if test then slice_set flags place false else flags) place ≡ Some true → ⊥
    by_test true inside is = set_gone place flags is
    by_test false outside is = true≢false (sym (lt-ltb place (length flags) (slice_get_within flags place true is)) ∙ outside)

-- another flag is set
set_other : (place at : ℕ) (flags : List Bool) → (place ≡ at → ⊥) → slice_get (slice_set flags place true) at ≡ Some true → slice_get flags at ≡ Some true
set_other place at [] other h = h
set_other zero zero (flag ∷ flags) other h = absurd (other refl)
set_other zero (suc at) (flag ∷ flags) other h = h
set_other (suc place) zero (flag ∷ flags) other h = h
set_other (suc place) (suc at) (flag ∷ flags) other h = set_other place at flags (λ same. other (ap suc same)) h

flagged_other : (place at : ℕ) (flags : List Bool) → (place ≡ at → ⊥) → slice_get (flag_set place true flags) at ≡ Some true → slice_get flags at ≡ Some true
flagged_other place at flags other h = by_test (nat_lt place (length flags)) h
  where
    by_test : (test : Bool) → slice_get (if test then slice_set flags place true else flags) at ≡ Some true → slice_get flags at ≡ Some true
    by_test true is = set_other place at flags other is
    by_test false is = is

-- ---- one that is manual

apart_is : (a b : ℕ) → a == b ≡ false → a ≡ b → ⊥
apart_is a b h same = true≢false (sym (eq-eqb a b same) ∙ h)

manual_dropped : (route other : RouteId) (orders : StandingView) → other.0 == route.0 ≡ true → IsManual route (dropped other orders)
manual_dropped route other orders h =
    let same : other.0 ≡ route.0 = eqb-true other.0 route.0 h in
    let made : ℕ → RouteId = λ n. record { 0 = n } in
    let is : other ≡ route = ap made same in
    subst (λ (r : RouteId). IsManual route (dropped r orders)) (sym is) (record {
      not_automatic = flagged_gone route.0 orders.automatic;
      not_waiting = dropped_alone route orders.waiting;
    })

manual_after : (route other : RouteId) (orders : StandingView) → IsManual route orders → IsManual route (dropped other orders)
manual_after route other orders manual = record {
  not_automatic = λ is. manual.not_automatic (flagged_less other.0 route.0 orders.automatic is);
  not_waiting = kept_alone route (λ one. not (is_of other one)) orders.waiting manual.not_waiting;
}

manual_none : (route : RouteId) (places : ℕ) → IsManual route (none_standing places)
manual_none route places = record { not_automatic = none_flagged places route.0; not_waiting = refl }

-- ---- a command makes it so

made_event : (route : RouteId) (event : Event) (orders : StandingView) → makes_manual route (wants.Event event) ≡ true → IsManual route (obeyed_event event orders)
made_event route (Request (Cancel other)) orders h = manual_dropped route other orders h
made_event route (Request (Release other)) orders h = manual_dropped route other orders h
made_event route other orders h = absurd (cc)

made_order : (route : RouteId) (asked : StandingOrder) (orders : StandingView) → makes_manual route (wants.Stand asked) ≡ true → IsManual route (obeyed_order asked orders)
made_order route (order.Manual other) orders h = manual_dropped route other orders h
made_order route (order.Automatic other) orders h = absurd (cc)
made_order route (order.Queue other) orders h = absurd (cc)

pub made_manual : (route : RouteId) (command : PanelCommand) (orders : StandingView) → makes_manual route command ≡ true → IsManual route (obeyed command orders)
made_manual route (wants.Stand asked) orders h = made_order route asked orders h
made_manual route (wants.Event event) orders h = made_event route event orders h
made_manual route wants.CancelAll orders h = manual_none route (length orders.automatic)
made_manual route (wants.Disturb disturbance) orders h = absurd (cc)

-- ---- and leaves it so

unasked : (test : Bool) → not test ≡ true → test ≡ false
unasked true h = absurd (cc)
unasked false h = refl

stays_order : (route : RouteId) (asked : StandingOrder) (orders : StandingView) → asks_for route (wants.Stand asked) ≡ false → IsManual route orders → IsManual route (obeyed_order asked orders)
stays_order route (order.Automatic other) orders h manual = record {
  not_automatic = λ is. manual.not_automatic (flagged_other other.0 route.0 orders.automatic (apart_is other.0 route.0 h) is);
  not_waiting = manual.not_waiting;
}
stays_order route (order.Queue other) orders h manual = record {
  not_automatic = manual.not_automatic;
  not_waiting = waits_alone other route orders.waiting h manual.not_waiting;
}
stays_order route (order.Manual other) orders h manual = manual_after route other orders manual

stays_event : (route : RouteId) (event : Event) (orders : StandingView) → IsManual route orders → IsManual route (obeyed_event event orders)
stays_event route (Request (Cancel other)) orders manual = manual_after route other orders manual
stays_event route (Request (Release other)) orders manual = manual_after route other orders manual
stays_event route other orders manual = manual

stays_obeyed : (route : RouteId) (command : PanelCommand) (orders : StandingView) → asks_for route command ≡ false → IsManual route orders → IsManual route (obeyed command orders)
stays_obeyed route (wants.Stand asked) orders h manual = stays_order route asked orders h manual
stays_obeyed route (wants.Event event) orders h manual = stays_event route event orders manual
stays_obeyed route wants.CancelAll orders h manual = manual_none route (length orders.automatic)
stays_obeyed route (wants.Disturb disturbance) orders h manual = manual

-- what begins to wait is automatic
begins_alone : (begins : Bool) (other route : RouteId) (waiting : List Waiting) → (begins ≡ true → other.0 == route.0 ≡ false) → is_waiting route waiting ≡ false → is_waiting route (begins_if begins other waiting) ≡ false
begins_alone true other route waiting apart none = waits_alone other route waiting (apart refl) none
begins_alone false other route waiting apart none = none

begun_alone : (lines : List PanelLine) (route : RouteId) (place : ℕ) (automatic : List Bool) (waiting : List Waiting)
    → ((k : ℕ) → place + k ≡ route.0 → slice_get automatic k ≡ Some true → ⊥) → is_waiting route waiting ≡ false → is_waiting route (begun_from lines place automatic waiting) ≡ false
begun_alone lines route place [] waiting manual none = none
begun_alone lines route place (is_automatic ∷ more) waiting manual none =
    let one : RouteId = record { 0 = place } in
    let begins : Bool = is_automatic && not (is_set_in lines one) in
    begun_alone lines route (suc place) more (begins_if begins one waiting)
    (λ k here_is set. manual (suc k) (omega (arith, here_is)) set)
    (begins_alone begins one route waiting (apart_where is_automatic (not (is_set_in lines one)) (manual 0)) none)
  where
    differs : (test : Bool) → place == route.0 ≡ test → (place ≡ route.0 → ⊥) → test ≡ false
    differs true is never = absurd (never (eqb-true place route.0 is))
    differs false is never = refl

    apart_where : (flag free : Bool) → (place + 0 ≡ route.0 → Some flag ≡ Some true → ⊥) → flag && free ≡ true → place == route.0 ≡ false
    apart_where true free never both = differs (place == route.0) refl (λ same. never (omega (arith, same)) refl)
    apart_where false free never both = absurd (cc)

now_alone : (lines : List PanelLine) (route : RouteId) (orders : StandingView) → IsManual route orders → is_waiting route (now_waiting lines orders) ≡ false
now_alone lines route orders manual =
    begun_alone lines route 0 orders.automatic (left lines orders.waiting)
    (λ k is set. manual.not_automatic (subst (λ (n : ℕ). slice_get orders.automatic n ≡ Some true) (omega (arith, is)) set))
    (kept_alone route (λ one. not (is_set_in lines one.route)) orders.waiting manual.not_waiting)

stays_turn : (site : Site) (lines : List PanelLine) (now : ℕ) (route : RouteId) (old new : StandingView) (routes : List RouteId) (shut apart : Bool)
    → TriedIf shut apart site lines now old routes new → IsManual route old → IsManual route new
stays_turn site lines now route old new routes true apart turn manual = subst (λ (orders : StandingView). IsManual route orders) (sym turn.1) (manual_none route (length old.automatic))
stays_turn site lines now route old new routes false true turn manual = subst (λ (orders : StandingView). IsManual route orders) (sym turn.1) manual
stays_turn site lines now route old new routes false false turn manual =
    subst (λ (orders : StandingView). IsManual route orders) (sym turn.2) (record {
      not_automatic = manual.not_automatic;
      not_waiting = same_after site lines now [] (now_waiting lines old) routes turn.0 route turn.1 ∙ now_alone lines route old manual;
    })

pub stays_led : (site : Site) (route : RouteId) (old new : StandingView) → IsManual route old → LeadsTo site (λ command. not (asks_for route command)) old new → IsManual route new
stays_led site route old _ manual (here) = manual
stays_led site route old _ manual (obeys {orders = orders} command led may) =
    stays_obeyed route command orders (unasked (asks_for route command) may) (stays_led site route old orders manual led)
stays_led site route old _ manual (turns {orders = orders} {new = new} lines now routes led turn) =
    stays_turn site lines now route orders new routes (is_shut_in lines) (is_apart_in lines) turn (stays_led site route old orders manual led)

pub untried : (site : Site) (lines : List PanelLine) (now : ℕ) (old new : StandingView) (routes : List RouteId) (route : RouteId) → IsManual route old
    → TriedIf (is_shut_in lines) (is_apart_in lines) site lines now old routes new → Contains routes route → ⊥
untried site lines now old new routes route manual turn has =
    true≢false (sym (waits_at site lines now (now_waiting lines old) route (turn_at site lines now old new routes route (is_shut_in lines) (is_apart_in lines) turn has)) ∙ now_alone lines route old manual)
