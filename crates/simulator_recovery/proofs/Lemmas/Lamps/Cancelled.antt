-- An accepted cancel leaves no aspect: no route proceeds from the signal after it, or waits to.
use Rattle.simulator_recovery.proofs.Words.Basics.{◌≡◌, ◌≢◌, ◌⊎◌, inl, inr, ℕ, zero, suc, ◌<◌, ◌==◌, ◌&&◌, Bool, true, false, if◌then◌else◌, List, [], ◌∷◌, Option, Some, None, slice_get, refl, sym, ap, subst, ◌∙◌, arith, ◌||◌, not, false≢true, nat_tests, none-some, same_Some}
use Rattle.simulator_recovery.proofs.Words.Links.{reading_of}
use Rattle.simulator_recovery.proofs.Words.Controllers.{Aspect}
use Rattle.simulator_recovery.proofs.Words.Interlockings.{cancel_refusal, commanded_by, moved_at_once, obeyed, refusal, refused_where, come_to, count, is_proceeding, is_stop_due, is_waiting, stopped, withdrawing, IxlState, KnownSignalState, RouteState, changed, Commands, all_clocked, answer_by, given, reply, stepped, ticked, watching, StepSoFar, at_route, begun_with, empty_outbox, giving_aspect, over, with_one, with_route, Row, Table, is_holding, is_set, is_signal_ready, Command, Refusal, Phase}
use Rattle.simulator_recovery.proofs.Words.Stations.{Site, RouteId, Event, Answer, answered, answered_by, happens, interlocking_stepped, key_of, WorldState, IsReached}
use Rattle.simulator_recovery.proofs.Words.Recovery.{NoneProceeds}
use Rattle.simulator_recovery.proofs.Lemmas.Lamps.ConfirmedStops.{alone}
use Rattle.simulator_recovery.proofs.Lemmas.Lamps.GivenNoMore.{over_rests}
use Rattle.simulator_recovery.proofs.Lemmas.Ground.IxlClients.{changed_at}
use Rattle.simulator_recovery.proofs.Lemmas.Silence.Spent.{within_some}
use Rattle.simulator_recovery.proofs.Lemmas.Lamps.StopsGiven.{differs, is_equal, proceeding_set, waiting_set, where_none, where_not}
use Rattle.simulator_recovery.proofs.Lemmas.Ground.SignalParts.{AtRoute, IsQuiet, PartsKeep, behind_withdrawal, over_held, step_held, watching_held, withdrawing_held}

-- no command comes after this one
abbrev pub NoCommand : Command → Type 0
NoCommand command = ⊥

pub none_comes : (route : RouteId) → NoCommand (Command.Request route) → ⊥
none_comes route never = never

-- ---- what is kept of one route

abbrev pub OfRoute : ℕ → (RouteState → Type 0) → List RouteState → List KnownSignalState → Type 0
OfRoute number F routes signals = (route : RouteState) → slice_get routes number ≡ Some route → F route

-- What the parts of a step keep of a route, whichever it is.
pub record RouteKeeps (F : RouteState → Type 0) : Type 0 where
  pub quiet : (old new : RouteState) → IsQuiet old new → F old → F new
  pub withdrawn : (route : RouteState) → F route → is_proceeding route.phase ≡ true → F (come_to Phase.Withdrawn route)
  pub waits_not : (route : RouteState) → F route → is_waiting route.phase ≡ true → route.cancelled ≡ false → ⊥

module _ (now : ℕ) (table : Table) (Obeys : Command → Type 0) (never : (route : RouteId) → Obeys (Command.Request route) → ⊥) (number : ℕ) (F : RouteState → Type 0) (keeps : RouteKeeps F) where
  changed_of : (place : ℕ) (change : RouteState → RouteState) (routes : List RouteState) → ((was : RouteState) → slice_get routes place ≡ Some was → number ≡ place → F (change was)) → ((route : RouteState) → slice_get routes number ≡ Some route → F route)
      → (route : RouteState) → slice_get (changed change place routes) number ≡ Some route → F route
  changed_of place change routes so of route e = choose (changed_at change place routes number route e)
    where
      choose : ((number ≡ place) × (was : RouteState) × (slice_get routes place ≡ Some was) × (route ≡ change was)) ⊎ (slice_get routes number ≡ Some route) → F route
      choose (inl (same, was, f, is)) = subst F (sym is) (so was f same)
      choose (inr f) = of route f

  pub route_keep : PartsKeep now table Obeys (OfRoute number F)
  route_keep = record {
    rules = record {
      quiet = λ place change routes signals quiet of. changed_of place change routes (λ was f same. keeps.quiet was (change was) (quiet was f) (of was (ap (slice_get routes) same ∙ f))) of;
      proceeds = λ place row route known items client change routes signals at waits goes_on proceeds there so of.
          changed_of place change routes (λ was f same. absurd (keeps.waits_not route (of route (ap (slice_get routes) same ∙ at.there)) waits goes_on)) of;
      ticks = λ place known outbox routes signals there of. of;
    };
    clock = λ routes signals of. of;
    client = λ place known client indicated routes signals there goes of. of;
    withdraws = λ place row route known items client routes signals at proceeds there so of. changed_of place (come_to Phase.Withdrawn) routes (λ was f same. keeps.withdrawn was (of was (ap (slice_get routes) same ∙ f)) (proceeds_so place row route was routes at f proceeds)) of;
    falls = λ place row route routes signals at proceeds unready of. changed_of place (come_to Phase.Withdrawn) routes (λ was f same. keeps.withdrawn was (of was (ap (slice_get routes) same ∙ f)) (proceeds_so place row route was routes at f proceeds)) of;
    sets = λ route ixl obeys none of. absurd (never route obeys);
  }
    where
      proceeds_so : (place : ℕ) (row : Row) (route was : RouteState) (routes : List RouteState) → AtRoute table place row route routes → slice_get routes place ≡ Some was → is_proceeding route.phase ≡ true → is_proceeding was.phase ≡ true
      proceeds_so place row route was routes at f proceeds = ap (λ (r : RouteState). is_proceeding r.phase) (same_Some was route (sym f ∙ at.there)) ∙ proceeds

-- ---- it waits, or proceeds, as a cancelled one alone

abbrev IsCancelled : RouteState → Type 0
IsCancelled route = (is_waiting route.phase ≡ true → route.cancelled ≡ true) × (is_proceeding route.phase ≡ true → route.cancelled ≡ true)

-- and its aspect has fallen
abbrev HasFallen : RouteState → Type 0
HasFallen route = (is_waiting route.phase ≡ true → route.cancelled ≡ true) × (is_proceeding route.phase ≡ false)

cancelled_quiet : (old new : RouteState) → IsQuiet old new → IsCancelled old → IsCancelled new
cancelled_quiet old new (inl (same, kept)) is = (λ waits. kept (is.0 (ap is_waiting (sym same) ∙ waits)), λ goes. kept (is.1 (ap is_proceeding (sym same) ∙ goes)))
cancelled_quiet old new (inr (over, undone, set, kept)) is = let rests = over_rests new.phase over in (λ waits. absurd (false≢true (sym rests.0 ∙ waits)), λ goes. absurd (false≢true (sym rests.1 ∙ goes)))

fallen_quiet : (old new : RouteState) → IsQuiet old new → HasFallen old → HasFallen new
fallen_quiet old new (inl (same, kept)) is = (λ waits. kept (is.0 (ap is_waiting (sym same) ∙ waits)), ap is_proceeding same ∙ is.1)
fallen_quiet old new (inr (over, undone, set, kept)) is = let rests = over_rests new.phase over in (λ waits. absurd (false≢true (sym rests.0 ∙ waits)), rests.1)

cancelled_keeps : RouteKeeps IsCancelled
cancelled_keeps = record {
  quiet = cancelled_quiet;
  withdrawn = λ route is proceeds. (λ waits. absurd (false≢true waits), λ goes. absurd (false≢true goes));
  waits_not = λ route is waits not_so. false≢true (sym not_so ∙ is.0 waits);
}

fallen_keeps : RouteKeeps HasFallen
fallen_keeps = record {
  quiet = fallen_quiet;
  withdrawn = λ route is proceeds. (λ waits. absurd (false≢true waits), refl);
  waits_not = λ route is waits not_so. false≢true (sym not_so ∙ is.0 waits);
}

-- ---- the first rule

pub stopped_routes : (now : ℕ) (row : Row) (part : StepSoFar) → (stopped now row part).ixl.routes ≡ part.ixl.routes
unfolding giving_aspect
stopped_routes now row part = choose (is_signal_ready part.ixl row.entry) (one_given (slice_get part.ixl.known_signals row.entry) _ (λ known. refl))
  where
    one_given : (found : Option KnownSignalState) (does : KnownSignalState → StepSoFar → StepSoFar) → ((known : KnownSignalState) → (does known part).ixl.routes ≡ part.ixl.routes) → (with_one found does part).ixl.routes ≡ part.ixl.routes
    one_given None does same = refl
    one_given (Some known) does same = same known

    choose : (b : Bool) → (giving_aspect now row.entry Aspect.Stop part).ixl.routes ≡ part.ixl.routes → (if b then giving_aspect now row.entry Aspect.Stop part else part).ixl.routes ≡ part.ixl.routes
    choose true same = same
    choose false same = refl

pub there_changed : (change : RouteState → RouteState) (place : ℕ) (list : List RouteState) (y : RouteState) → slice_get (changed change place list) place ≡ Some y → (x : RouteState) × (y ≡ change x)
there_changed change place [] y e = absurd (none-some y e)
there_changed change zero (x ∷ xs) y e = (x, sym (same_Some (change x) y e))
there_changed change (suc place) (x ∷ xs) y e = there_changed change place xs y e

-- a cancelled route is cancelled
cancelled_there : (now : ℕ) (ixl : IxlState) (route : RouteId) → OfRoute route.0 IsCancelled (obeyed now (Command.Cancel route) ixl).routes []
unfolding obeyed
cancelled_there now ixl route one e =
    let was = there_changed (λ old. record old { cancelled = true }) route.0 ixl.routes one e
    in let cancelled : one.cancelled ≡ true = ap (λ (r : RouteState). r.cancelled) was.1
    in (λ waits. cancelled, λ goes. cancelled)

-- at its turn the aspect of a cancelled route falls
falls_at_its_turn : (now : ℕ) (table : Table) (number : ℕ) (row : Row) (part : StepSoFar) → slice_get table.rows number ≡ Some row → OfRoute number IsCancelled part.ixl.routes part.ixl.known_signals
    → OfRoute number HasFallen (withdrawing now table number part).ixl.routes (withdrawing now table number part).ixl.known_signals
unfolding withdrawing at_route
falls_at_its_turn now table number row part there of = subst (λ (found : Option Row). OfRoute number HasFallen (with_one found (λ r p. with_one (slice_get p.ixl.routes number) (λ route p. turn r route p) p) part).ixl.routes []) (sym there)
    (at_place (slice_get part.ixl.routes number) refl)
  where
    fallen : RouteState → StepSoFar
    fallen route = stopped now row (with_route number (come_to Phase.Withdrawn) part)

    turn : Row → RouteState → StepSoFar → StepSoFar
    turn r route p = if is_stop_due table p.ixl r route then stopped now r (with_route number (come_to Phase.Withdrawn) p) else p

    by_test : (route : RouteState) → slice_get part.ixl.routes number ≡ Some route → (b : Bool) → is_stop_due table part.ixl row route ≡ b → OfRoute number HasFallen (if b then fallen route else part).ixl.routes []
    by_test route e true due one f =
        let now_so = there_changed (come_to Phase.Withdrawn) number part.ixl.routes one (ap (λ (routes : List RouteState). slice_get routes number) (sym (stopped_routes now row (with_route number (come_to Phase.Withdrawn) part))) ∙ f)
        in subst HasFallen (sym now_so.1) (λ waits. absurd (false≢true waits), refl)
    by_test route e false due one f = subst HasFallen (sym (same_Some one route (sym f ∙ e))) ((of route e).0, by_phase (is_proceeding route.phase) refl)
      where
        undue : (a b c d e : Bool) → (a && (b || c || d || e)) ≡ false → a ≡ true → b ≡ true → ⊥
        undue true true c d e g h i = false≢true (sym g)
        undue true false c d e g h i = false≢true i
        undue false b c d e g h i = false≢true h

        by_phase : (b : Bool) → is_proceeding route.phase ≡ b → is_proceeding route.phase ≡ false
        by_phase true g = absurd (undue (is_proceeding route.phase) route.cancelled _ _ _ due g ((of route e).1 g))
        by_phase false g = g

    at_place : (found : Option RouteState) → slice_get part.ixl.routes number ≡ found → OfRoute number HasFallen (with_one found (λ route p. turn row route p) part).ixl.routes []
    at_place None e = λ one f. absurd (none-some one (sym e ∙ f))
    at_place (Some route) e = by_test route e (is_stop_due table part.ixl row route) refl

-- so after the rule, at all routes
falls_behind_rule : (now : ℕ) (table : Table) (number : ℕ) (row : Row) (many : ℕ) (part : StepSoFar) → slice_get table.rows number ≡ Some row → number < many → OfRoute number IsCancelled part.ixl.routes part.ixl.known_signals
    → OfRoute number HasFallen (over (withdrawing now table) many part).ixl.routes (over (withdrawing now table) many part).ixl.known_signals
falls_behind_rule now table number row zero part there few of = absurd (omega (arith, few))
falls_behind_rule now table number row (suc many) part there few of = decide (many == number) refl (λ fewer. falls_behind_rule now table number row many part there fewer of)
  where
    is_same : (many == number) ≡ true → many ≡ number
    is_same e = grind (arith, nat_tests, e)

    before : OfRoute number IsCancelled (over (withdrawing now table) many part).ixl.routes (over (withdrawing now table) many part).ixl.known_signals
    before = over_held now table (OfRoute number IsCancelled) (route_keep now table NoCommand none_comes number IsCancelled cancelled_keeps).rules (withdrawing now table)
        (withdrawing_held now table NoCommand (OfRoute number IsCancelled) (route_keep now table NoCommand none_comes number IsCancelled cancelled_keeps)) many part of

    fewer : (many == number) ≡ false → number < many
    fewer e = grind (arith, nat_tests, e, few)

    decide : (b : Bool) → (many == number) ≡ b → (number < many → OfRoute number HasFallen (over (withdrawing now table) many part).ixl.routes (over (withdrawing now table) many part).ixl.known_signals)
        → OfRoute number HasFallen (withdrawing now table many (over (withdrawing now table) many part)).ixl.routes (withdrawing now table many (over (withdrawing now table) many part)).ixl.known_signals
    decide true e behind = subst (λ (n : ℕ). OfRoute number HasFallen (withdrawing now table n (over (withdrawing now table) many part)).ixl.routes (withdrawing now table n (over (withdrawing now table) many part)).ixl.known_signals) (sym (is_same e))
        (falls_at_its_turn now table number row (over (withdrawing now table) many part) there before)
    decide false e behind = withdrawing_held now table NoCommand (OfRoute number HasFallen) (route_keep now table NoCommand none_comes number HasFallen fallen_keeps) many (over (withdrawing now table) many part) (behind (fewer e))

-- ---- the step

cancel_stepped : (site : Site) (table : Table) (world : WorldState) (route : RouteId) (row : Row) → slice_get table.rows route.0 ≡ Some row
    → refusal (reading_of world.interlocking.clock) table (Command.Cancel route) (all_clocked (reading_of world.interlocking.clock) world.interlocking.ixl) ≡ None
    → OfRoute route.0 HasFallen (interlocking_stepped site table (Commands (Command.Cancel route)) world).interlocking.ixl.routes []
unfolding interlocking_stepped stepped ticked given moved_at_once
cancel_stepped site table world route row there none =
    behind_withdrawal now table NoCommand (OfRoute route.0 HasFallen) (route_keep now table NoCommand none_comes route.0 HasFallen fallen_keeps) watched
    (falls_behind_rule now table route.0 row (count table) watched there (within_some table.rows route.0 row there) watched_of)
  where
    now : ℕ
    now = reading_of world.interlocking.clock

    clocked : StepSoFar
    clocked = record (begun_with world.interlocking.ixl empty_outbox) { ixl = all_clocked now world.interlocking.ixl }

    heard_by : Option Refusal → StepSoFar
    heard_by cause = moved_at_once now cause (Command.Cancel route) (record clocked { ixl = commanded_by now cause (Command.Cancel route) clocked.ixl })

    heard : StepSoFar
    heard = heard_by (refusal now table (Command.Cancel route) clocked.ixl)

    watched : StepSoFar
    watched = over (watching table) (count table) heard

    obeyed_of : OfRoute route.0 IsCancelled (heard_by None).ixl.routes []
    obeyed_of = cancelled_there now clocked.ixl route

    heard_of : OfRoute route.0 IsCancelled heard.ixl.routes []
    heard_of = subst (λ (cause : Option Refusal). OfRoute route.0 IsCancelled (heard_by cause).ixl.routes []) (sym none) obeyed_of

    watched_of : OfRoute route.0 IsCancelled watched.ixl.routes watched.ixl.known_signals
    watched_of = over_held now table (OfRoute route.0 IsCancelled) (route_keep now table NoCommand none_comes route.0 IsCancelled cancelled_keeps).rules (watching table)
        (watching_held now table NoCommand (OfRoute route.0 IsCancelled) (route_keep now table NoCommand none_comes route.0 IsCancelled cancelled_keeps)) (count table) heard heard_of

-- ---- other routes

-- no route is set anew
abbrev IsCancel : Command → Type 0
IsCancel (Command.Request route) = ⊥
IsCancel (Command.Cancel route) = Unit {0}
IsCancel Command.Resume = Unit {0}
IsCancel (Command.Release route) = Unit {0}
IsCancel (Command.Move point side) = Unit {0}
IsCancel (Command.Close named) = Unit {0}
IsCancel (Command.Open named) = Unit {0}

abbrev IsUnset : RouteState → Type 0
IsUnset route = is_set route.phase ≡ false

unset_keeps : RouteKeeps IsUnset
unset_keeps = record {
  quiet = unset_quiet;
  withdrawn = λ route unset proceeds. absurd (false≢true (sym unset ∙ proceeding_set route.phase proceeds));
  waits_not = λ route unset waits not_so. false≢true (sym unset ∙ waiting_set route.phase waits);
}
  where
    unset_quiet : (old new : RouteState) → IsQuiet old new → IsUnset old → IsUnset new
    unset_quiet old new (inl (same, kept)) unset = ap is_set same ∙ unset
    unset_quiet old new (inr (over, undone, set, kept)) unset = absurd (false≢true (sym unset ∙ set))

stays_unset : (site : Site) (table : Table) (world : WorldState) (route : RouteId) (number : ℕ) → OfRoute number IsUnset world.interlocking.ixl.routes []
    → OfRoute number IsUnset (interlocking_stepped site table (Commands (Command.Cancel route)) world).interlocking.ixl.routes []
unfolding interlocking_stepped
stays_unset site table world route number unset =
    step_held (reading_of world.interlocking.clock) table IsCancel (OfRoute number IsUnset) (route_keep (reading_of world.interlocking.clock) table IsCancel (λ one never. never) number IsUnset unset_keeps) (key_of site) (Commands (Command.Cancel route))
    (begun_with world.interlocking.ixl empty_outbox) (λ command e. subst IsCancel (same_command e) tt) unset
  where
    same_command : {one other : Command} → Commands one ≡ Commands other → one ≡ other
    same_command e = cc e

-- ---- what an accepted cancel leaves

pub not_refused : (cause : Option Refusal) → answered_by (answer_by cause) ≡ Answer.Accepted → cause ≡ None
not_refused None e = refl
not_refused (Some cause) e = absurd (cc e)

-- the cancelled route was set
was_set : (now : ℕ) (ixl : IxlState) (found : Option RouteState) → cancel_refusal now ixl found ≡ None → (route : RouteState) × (found ≡ Some route) × (is_set route.phase ≡ true)
was_set now ixl None none = absurd (cc none)
was_set now ixl (Some route) none = (
  route,
  refl,
  set (is_set route.phase) (where_not (not (is_set route.phase)) Refusal.NotSet None
      (where_none (not ixl.resumed) Refusal.NotResumed (refused_where (not (is_set route.phase)) Refusal.NotSet None) (where_none (is_holding now ixl) Refusal.Holding
      (refused_where (not ixl.resumed) Refusal.NotResumed (refused_where (not (is_set route.phase)) Refusal.NotSet None)) none))),
)
  where
    set : (b : Bool) → not b ≡ false → b ≡ true
    set true e = refl
    set false e = absurd (false≢true (sym e))

refusal_is : (now : ℕ) (table : Table) (route : RouteId) (ixl : IxlState) → refusal now table (Command.Cancel route) ixl ≡ cancel_refusal now ixl (slice_get ixl.routes route.0)
unfolding refusal
refusal_is now table route ixl = refl

pub clocked_routes : (now : ℕ) (ixl : IxlState) → (all_clocked now ixl).routes ≡ ixl.routes
unfolding all_clocked
clocked_routes now ixl = refl

pub accepted_so : (site : Site) (table : Table) (world : WorldState) (route : RouteId) → answered site table (Event.Request (Command.Cancel route)) world ≡ Answer.Accepted
    → refusal (reading_of world.interlocking.clock) table (Command.Cancel route) (all_clocked (reading_of world.interlocking.clock) world.interlocking.ixl) ≡ None
unfolding answered reply
accepted_so site table world route accepted = not_refused (refusal (reading_of world.interlocking.clock) table (Command.Cancel route) (all_clocked (reading_of world.interlocking.clock) world.interlocking.ixl)) accepted

pub cancel_leaves_none : (site : Site) (table : Table) (world : WorldState) (route : RouteId) (row : Row) → IsReached site table world → slice_get table.rows route.0 ≡ Some row
    → answered site table (Event.Request (Command.Cancel route)) world ≡ Answer.Accepted → NoneProceeds table (happens site table (Event.Request (Command.Cancel route)) world).interlocking.ixl row.entry
unfolding happens
cancel_leaves_none site table world route row reached there accepted k other one is entry = decide (k == route.0) refl
  where
    now : ℕ
    now = reading_of world.interlocking.clock

    none : refusal now table (Command.Cancel route) (all_clocked now world.interlocking.ixl) ≡ None
    none = accepted_so site table world route accepted

    set : (was : RouteState) × (slice_get (all_clocked now world.interlocking.ixl).routes route.0 ≡ Some was) × (is_set was.phase ≡ true)
    set = was_set now (all_clocked now world.interlocking.ixl) (slice_get (all_clocked now world.interlocking.ixl).routes route.0) (sym (refusal_is now table route (all_clocked now world.interlocking.ixl)) ∙ none)

    set_there : slice_get world.interlocking.ixl.routes route.0 ≡ Some set.0
    set_there = ap (λ (routes : List RouteState). slice_get routes route.0) (sym (clocked_routes now world.interlocking.ixl)) ∙ set.1

    -- another route from the signal wasn't set before
    unset : k ≢ route.0 → OfRoute k IsUnset world.interlocking.ixl.routes []
    unset differ was f = by_test (is_set was.phase) refl
      where
        by_test : (b : Bool) → is_set was.phase ≡ b → is_set was.phase ≡ false
        by_test true e = absurd (differ (alone site table world reached k route.0 other row was set.0 (is.0, f) (there, set_there) entry e set.2))
        by_test false e = e

    rests_so : is_set one.phase ≡ false → (is_waiting one.phase ≡ true → one.cancelled ≡ true) × (is_proceeding one.phase ≡ false)
    rests_so not_set = (λ waits. absurd (false≢true (sym not_set ∙ waiting_set one.phase waits)), by_test (is_proceeding one.phase) refl)
      where
        by_test : (b : Bool) → is_proceeding one.phase ≡ b → is_proceeding one.phase ≡ false
        by_test true e = absurd (false≢true (sym not_set ∙ proceeding_set one.phase e))
        by_test false e = e

    decide : (b : Bool) → (k == route.0) ≡ b → (is_waiting one.phase ≡ true → one.cancelled ≡ true) × (is_proceeding one.phase ≡ false)
    decide true e = cancel_stepped site table world route row there none one (ap (slice_get (interlocking_stepped site table (Commands (Command.Cancel route)) world).interlocking.ixl.routes) (sym (is_equal k route.0 e)) ∙ is.1)
    decide false e = rests_so (stays_unset site table world route k (unset (differs k route.0 e)) one is.1)
