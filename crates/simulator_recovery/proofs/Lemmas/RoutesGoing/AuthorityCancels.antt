-- The cancel of a route that proceeds gives stop to its signal, or this is in no connection that is ready.
use Rattle.simulator_recovery.proofs.Words.Basics.{◌≡◌, ◌≢◌, ◌⊎◌, inl, inr, ℕ, zero, suc, ◌+◌, ◌^◌, ◌<◌, ◌≤◌, ◌==◌, ◌&&◌, Bool, true, false, if◌then◌else◌, List, Option, Some, None, slice_get, refl, sym, ap, subst, ◌∙◌, arith, ◌||◌, not, false≢true, nat_tests, same_Some}
use Rattle.simulator_recovery.proofs.Words.Links.{settled, reading_of, stops_at_greatest, LinkState, is_up}
use Rattle.simulator_recovery.proofs.Words.Controllers.{Aspect}
use Rattle.simulator_recovery.proofs.Words.Interlockings.{ClientState, is_outside, is_ready, ClientSoFar, begun, at_stage, clocked, commanding, fallen, message_of, posting, stage_after_command, Stage, commanded_by, obeyed, refusal, come_to, count, is_proceeding, is_stop_due, is_withdrawn, ruled, stopped, withdrawing, withdrawn, IxlState, KnownSignalState, RouteState, changed, Commands, all_clocked, clocked_known_signal, given, stepped, ticked, watching, StepSoFar, at_route, begun_with, empty_outbox, giving_aspect, known_signal_after, over, with_one, with_route, Row, Table, is_approach_clear, is_set, is_signal_ready, Command, Refusal, Phase, moved_at_once}
use Rattle.simulator_recovery.proofs.Words.Stations.{Site, RouteId, Event, Answer, answered, happens, interlocking_stepped, WorldState}
use Rattle.simulator_recovery.proofs.Words.Recovery.{ClientStandsByCounts, HasCounted}
use Rattle.simulator_spec.specs.ixl_client.declared.command.Command.{Command as ClientCommand}
use Rattle.simulator_recovery.proofs.Lemmas.Ground.AtLink.{mapped}
use Rattle.simulator_recovery.proofs.Lemmas.Lamps.Cancelled.{accepted_so, clocked_routes, stopped_routes}
use Rattle.simulator_recovery.proofs.Lemmas.Talk.ClientLinks.{post_up, up_open}
use Rattle.simulator_recovery.proofs.Lemmas.Lamps.GivenNoMore.{IsAs, NoCommand, Rests, RestsSo, rests_keep}
use Rattle.simulator_recovery.proofs.Lemmas.Ground.IxlClients.{signal_client, signal_is}
use Rattle.simulator_recovery.proofs.Lemmas.Ground.IxlSoFar.{test_of}
use Rattle.simulator_recovery.proofs.Lemmas.Ground.LinkCounts.{settled_open}
use Rattle.simulator_recovery.proofs.Lemmas.Ground.SignalParts.{given_command, behind_withdrawal, clocked_held, over_held, watching_held, withdrawing_held}
use Rattle.simulator_recovery.proofs.Lemmas.Silence.Spent.{within_some}
use Rattle.simulator_recovery.proofs.Lemmas.Lamps.StopsGiven.{AnyCommand, StopsStand, changed_elsewhere, changed_here, differs, fails, is_equal, proceeding_set, stand_keep, waiting_set}
use Rattle.simulator_recovery.proofs.Lemmas.Ground.DueTests.{first_true}
use Rattle.simulator_recovery.proofs.Lemmas.Windows.WaitingItems.{ready_inside}

-- Something was given to a signal with a number above these, or no aspect in its present connection.
abbrev pub IsPast : ℕ → KnownSignalState → Type 0
IsPast items known = (known.aspect ≡ None) ⊎ (items < known.number)

pub as_past : (items : ℕ) (one other : KnownSignalState) → IsAs one.aspect one.number other → IsPast items one → IsPast items other
as_past items one other (inl none) past = inl none
as_past items one other (inr (same, number)) (inl none) = inl (same ∙ none)
as_past items one other (inr (same, number)) (inr more) = inr (omega (arith, number, more))

-- ---- what a client counts

counts_more : (n : ℕ) → stops_at_greatest n < 2 ^ 31 → stops_at_greatest n < stops_at_greatest (n + 1)
counts_more n small = grind (arith, small)

-- a client that is inside after a command has given an item more
pub command_counts : (now : ℕ) (command : ClientCommand) (part : ClientSoFar) (taken many : ℕ) → is_outside (commanding now command part).client.stage ≡ false → HasCounted taken many part.client.link
    → HasCounted taken (many + 1) (commanding now command part).client.link
unfolding commanding fallen
command_counts now command part taken many inside has = by_up (is_up then_at.link.phase) refl inside
  where
    then_at : ClientState
    then_at = (at_stage (stage_after_command command part.client.stage) (posting now (message_of command) part)).client

    by_up : (b : Bool) → is_up then_at.link.phase ≡ b → is_outside (if b then then_at else record then_at { stage = Stage.Outside }).stage ≡ false
        → HasCounted taken (many + 1) (if b then then_at else record then_at { stage = Stage.Outside }).link
    by_up true e within = (post_up now (message_of command) part taken many e has).0
    by_up false e within = absurd (false≢true (sym within))

-- What a client counts, which is ready.
pub record CountsSo (items : ℕ) (client : ClientState) : Type 0 where
  pub taken : ℕ
  pub many : ℕ
  pub counts : HasCounted taken many client.link
  pub are : client.link.given ≡ items

-- the clock leaves a client that is inside what it counts
clocked_counts : (now : ℕ) (client : ClientState) → ClientStandsByCounts client → is_outside (clocked now client).stage ≡ false → CountsSo client.link.given (clocked now client)
unfolding clocked fallen
clocked_counts now client stands inside = by_up (is_up (settled now client.link).phase) refl inside
  where
    late : ClientState
    late = record client { link = settled now client.link }

    by_up : (b : Bool) → is_up (settled now client.link).phase ≡ b → is_outside (if b then late else record late { stage = Stage.Outside }).stage ≡ false → CountsSo client.link.given (if b then late else record late { stage = Stage.Outside })
    by_up false e within = absurd (false≢true (sym within))
    by_up true e within =
        let so = settled_open now client.link (up_open (settled now client.link).phase e)
        in let has = stands.stands so.1
        in record {
          taken = has.taken;
          many = has.given;
          counts = subst (HasCounted has.taken has.given) (sym so.0) (record { taken_is = has.counts.taken_is; given_is = has.counts.given_is; waiting = has.counts.waiting });
          are = ap (λ (l : LinkState). l.given) so.0;
        }

-- a signal is given its number
past_after : (items : ℕ) (aspect : Option Aspect) (number : ℕ) (indicated : Option Aspect) (client : ClientState) → (is_outside client.stage ≡ false → items < number) → IsPast items (known_signal_after aspect number indicated client)
past_after items aspect number indicated client more = signal_is (IsPast items) aspect number indicated client (λ outside. inl refl) (λ inside. inr (more inside))

-- ---- what is given

gave_here : (now signal : ℕ) (aspect : Aspect) (part : StepSoFar) (known : KnownSignalState) → slice_get part.ixl.known_signals signal ≡ Some known
    → slice_get (giving_aspect now signal aspect part).ixl.known_signals signal
    ≡ Some (known_signal_after (Some aspect) (commanding now (ClientCommand.Indicate aspect) (begun known.client part.outbox)).client.link.given known.indicated (commanding now (ClientCommand.Indicate aspect) (begun known.client part.outbox)).client)
unfolding giving_aspect
gave_here now signal aspect part known there = rw there (changed_here _ signal part.ixl.known_signals known there)

stopped_elsewhere : (now : ℕ) (row : Row) (part : StepSoFar) (signal : ℕ) → signal ≢ row.entry → slice_get (stopped now row part).ixl.known_signals signal ≡ slice_get part.ixl.known_signals signal
unfolding giving_aspect
stopped_elsewhere now row part signal differ = choose (is_signal_ready part.ixl row.entry) (one_given (slice_get part.ixl.known_signals row.entry) _ (λ known. changed_elsewhere _ row.entry signal part.ixl.known_signals differ))
  where
    one_given : (found : Option KnownSignalState) (does : KnownSignalState → StepSoFar → StepSoFar) → ((known : KnownSignalState) → slice_get (does known part).ixl.known_signals signal ≡ slice_get part.ixl.known_signals signal)
        → slice_get (with_one found does part).ixl.known_signals signal ≡ slice_get part.ixl.known_signals signal
    one_given None does same = refl
    one_given (Some known) does same = same known

    choose : (b : Bool) → slice_get (giving_aspect now row.entry Aspect.Stop part).ixl.known_signals signal ≡ slice_get part.ixl.known_signals signal
        → slice_get (if b then giving_aspect now row.entry Aspect.Stop part else part).ixl.known_signals signal ≡ slice_get part.ixl.known_signals signal
    choose true same = same
    choose false same = refl

-- ---- the rules, up to the turn of the route

module _ (now : ℕ) (table : Table) (number : ℕ) (row : Row) (row_there : slice_get table.rows number ≡ Some row) (cancels : Bool) (items : ℕ) (small : items < 2 ^ 31) (known : KnownSignalState)
    (counts_so : is_ready known.client.stage ≡ true → CountsSo items known.client) where
  -- the route has its aspect, is cancelled or isn't, and its signal is as it was
  pub record Goes (part : StepSoFar) : Type 0 where
    pub route : RouteState
    pub there : slice_get part.ixl.routes number ≡ Some route
    pub proceeds : is_proceeding route.phase ≡ true
    pub cancelled : route.cancelled ≡ cancels
    pub signal : slice_get part.ixl.known_signals row.entry ≡ Some known

  abbrev pub Stands : StepSoFar → Type 0
  Stands part = StopsStand table part.ixl.routes part.ixl.known_signals

  watches : (k : ℕ) (part : StepSoFar) → Goes part → Goes (watching table k part)
  unfolding watching at_route
  watches k part g = by_row (slice_get table.rows k)
    where
      watched : Row → RouteState → RouteState
      watched r old = record old { approached = old.approached || not (is_approach_clear table part.ixl r) }

      route_then : (r : Row) (b : Bool) → (k == number) ≡ b → Goes (with_route k (watched r) part)
      route_then r true e = record {
        route = watched r g.route;
        there = ap (slice_get (changed (watched r) k part.ixl.routes)) (sym (is_equal k number e)) ∙ changed_here (watched r) k part.ixl.routes g.route (ap (slice_get part.ixl.routes) (is_equal k number e) ∙ g.there);
        proceeds = g.proceeds;
        cancelled = g.cancelled;
        signal = g.signal;
      }
      route_then r false e = record {
        route = g.route;
        there = changed_elsewhere (watched r) k number part.ixl.routes (λ same. differs k number e (sym same)) ∙ g.there;
        proceeds = g.proceeds;
        cancelled = g.cancelled;
        signal = g.signal;
      }

      by_test : (r : Row) (b : Bool) → Goes (if b then with_route k (watched r) part else part)
      by_test r true = route_then r (k == number) refl
      by_test r false = g

      by_route : (r : Row) (found : Option RouteState) → Goes (with_one found (λ route p. if is_proceeding route.phase || is_withdrawn route.phase then with_route k (λ old. record old { approached = old.approached || not (is_approach_clear table p.ixl r) }) p else p) part)
      by_route r None = g
      by_route r (Some route) = by_test r (is_proceeding route.phase || is_withdrawn route.phase)

      by_row : (found : Option Row) → Goes (with_one found (λ r q. with_one (slice_get q.ixl.routes k) (λ route p. if is_proceeding route.phase || is_withdrawn route.phase then with_route k (λ old. record old { approached = old.approached || not (is_approach_clear table p.ixl r) }) p else p) q) part)
      by_row None = g
      by_row (Some r) = by_route r (slice_get part.ixl.routes k)

  all_watch : (many : ℕ) (part : StepSoFar) → Goes part → Goes (over (watching table) many part)
  all_watch zero part g = g
  all_watch (suc many) part g = watches many (over (watching table) many part) (all_watch many part g)

  -- another route leaves it so
  leaves_so : (k : ℕ) (part : StepSoFar) → k ≢ number → Stands part → Goes part → Goes (withdrawing now table k part)
  unfolding withdrawing at_route
  leaves_so k part differ stand g = by_row (slice_get table.rows k) refl
    where
      by_test : (r : Row) (one : RouteState) → slice_get table.rows k ≡ Some r → slice_get part.ixl.routes k ≡ Some one → (b : Bool) → is_stop_due table part.ixl r one ≡ b
          → Goes (if b then stopped now r (with_route k (come_to Phase.Withdrawn) part) else part)
      by_test r one e f true due = record {
        route = g.route;
        there = ap (λ (routes : List RouteState). slice_get routes number) (stopped_routes now r (with_route k (come_to Phase.Withdrawn) part)) ∙ (changed_elsewhere (come_to Phase.Withdrawn) k number part.ixl.routes (λ same. differ (sym same)) ∙ g.there);
        proceeds = g.proceeds;
        cancelled = g.cancelled;
        signal = stopped_elsewhere now r (with_route k (come_to Phase.Withdrawn) part) row.entry (λ same. differ (stand.apart k number r row one g.route (record { row_there = e; there = f }) (record { row_there = row_there; there = g.there }) (sym same)
            (proceeding_set one.phase (first_true (is_proceeding one.phase) _ due)) (proceeding_set g.route.phase g.proceeds))) ∙ g.signal;
      }
      by_test r one e f false due = g

      by_route : (r : Row) → slice_get table.rows k ≡ Some r → (found : Option RouteState) → slice_get part.ixl.routes k ≡ found
          → Goes (with_one found (λ route p. if is_stop_due table p.ixl r route then stopped now r (with_route k (come_to Phase.Withdrawn) p) else p) part)
      by_route r e None f = g
      by_route r e (Some one) f = by_test r one e f (is_stop_due table part.ixl r one) refl

      by_row : (found : Option Row) → slice_get table.rows k ≡ found
          → Goes (with_one found (λ r q. with_one (slice_get q.ixl.routes k) (λ route p. if is_stop_due table p.ixl r route then stopped now r (with_route k (come_to Phase.Withdrawn) p) else p) q) part)
      by_row None e = g
      by_row (Some r) e = by_route r e (slice_get part.ixl.routes k) refl

  -- What is so after its turn, where it is withdrawn.
  pub record Past (part : StepSoFar) : Type 0 where
    pub given_so : KnownSignalState
    pub past : IsPast items given_so
    pub rests : Rests table row.entry given_so.aspect given_so.number part.ixl.routes part.ixl.known_signals

  -- its signal is given stop, where it is ready
  stops : (part : StepSoFar) → (is_ready known.client.stage ≡ false → known.aspect ≡ None) → slice_get part.ixl.known_signals row.entry ≡ Some known
      → (new : KnownSignalState) × (slice_get (stopped now row part).ixl.known_signals row.entry ≡ Some new) × IsPast items new
  stops part unready there = by_ready (is_signal_ready part.ixl row.entry) refl
    where
      done : ClientSoFar
      done = commanding now (ClientCommand.Indicate Aspect.Stop) (begun known.client part.outbox)

      more : is_ready known.client.stage ≡ true → is_outside done.client.stage ≡ false → items < done.client.link.given
      more ready inside =
          let has = counts_so ready
          in let then_has = command_counts now (ClientCommand.Indicate Aspect.Stop) (begun known.client part.outbox) has.taken has.many inside has.counts
          in let before = has.counts.given_is
          in let after = then_has.given_is
          in let are = has.are
          in let less = counts_more has.many (subst (λ (n : ℕ). n < 2 ^ 31) (sym are ∙ before) small)
          in omega (arith, before, after, are, less)

      by_ready : (b : Bool) → is_signal_ready part.ixl row.entry ≡ b
          → (new : KnownSignalState) × (slice_get (if b then giving_aspect now row.entry Aspect.Stop part else part).ixl.known_signals row.entry ≡ Some new) × IsPast items new
      by_ready true e = (
        known_signal_after (Some Aspect.Stop) done.client.link.given known.indicated done.client,
        gave_here now row.entry Aspect.Stop part known there,
        past_after items (Some Aspect.Stop) done.client.link.given known.indicated done.client (more (test_of part.ixl.known_signals row.entry (λ k. is_ready k.client.stage) known there e)),
      )
      by_ready false e = (known, there, inl (unready (fails part.ixl.known_signals row.entry (λ k. is_ready k.client.stage) known there e)))

  -- no other route from the signal is set
  rest_so : (part : StepSoFar) → Stands part → (g : Goes part) → (k : ℕ) (r : Row) (one : RouteState) → slice_get table.rows k ≡ Some r → slice_get (changed (come_to Phase.Withdrawn) number part.ixl.routes) k ≡ Some one → r.entry ≡ row.entry → RestsSo one
  rest_so part stand g k r one e f entry = decide (k == number) refl
    where
      unset : k ≢ number → slice_get part.ixl.routes k ≡ Some one → (b : Bool) → is_set one.phase ≡ b → RestsSo one
      unset differ there true set = absurd (differ (stand.apart k number r row one g.route (record { row_there = e; there = there }) (record { row_there = row_there; there = g.there }) entry set (proceeding_set g.route.phase g.proceeds)))
      unset differ there false set = (λ waits. absurd (false≢true (sym set ∙ waiting_set one.phase waits)), by_aspect (is_proceeding one.phase) refl)
        where
          by_aspect : (b : Bool) → is_proceeding one.phase ≡ b → is_proceeding one.phase ≡ false
          by_aspect true is = absurd (false≢true (sym set ∙ proceeding_set one.phase is))
          by_aspect false is = is

      decide : (b : Bool) → (k == number) ≡ b → RestsSo one
      decide true is = subst RestsSo (same_Some (come_to Phase.Withdrawn g.route) one
          (sym (changed_here (come_to Phase.Withdrawn) number part.ixl.routes g.route g.there) ∙ (ap (slice_get (changed (come_to Phase.Withdrawn) number part.ixl.routes)) (sym (is_equal k number is)) ∙ f))) (λ waits. absurd (false≢true waits), refl)
      decide false is = let differ = differs k number is in unset differ (sym (changed_elsewhere (come_to Phase.Withdrawn) number k part.ixl.routes differ) ∙ f) (is_set one.phase) refl

  -- or it goes on, where it isn't cancelled
  abbrev pub Turned : StepSoFar → Type 0
  Turned part = Past part ⊎ (Goes part × (cancels ≡ false))

  turn : (part : StepSoFar) → Stands part → Goes part → Turned (withdrawing now table number part)
  unfolding withdrawing at_route
  turn part stand g = rw (row_there, g.there) (by_test (is_stop_due table part.ixl row g.route) refl)
    where
      undue : (a b c d e : Bool) → (a && (b || c || d || e)) ≡ false → a ≡ true → b ≡ false
      undue true true c d e is h = absurd (false≢true (sym is))
      undue true false c d e is h = refl
      undue false b c d e is h = absurd (false≢true h)

      fallen_part : StepSoFar
      fallen_part = with_route number (come_to Phase.Withdrawn) part

      by_test : (b : Bool) → is_stop_due table part.ixl row g.route ≡ b → Turned (if b then stopped now row (with_route number (come_to Phase.Withdrawn) part) else part)
      by_test false due = inr (g, sym g.cancelled ∙ undue (is_proceeding g.route.phase) g.route.cancelled _ _ _ due g.proceeds)
      by_test true due =
          let new = stops_then
          in inl (record {
            given_so = new.0;
            past = new.2;
            rests = record {
              none = λ k r one e f entry. rest_so part stand g k r one e (ap (λ (routes : List RouteState). slice_get routes k) (sym (stopped_routes now row fallen_part)) ∙ f) entry;
              given = λ later e. inr (ap (λ (s : KnownSignalState). s.aspect) (same_Some later new.0 (sym e ∙ new.1)), ap (λ (s : KnownSignalState). s.number) (same_Some later new.0 (sym e ∙ new.1)));
            };
          })
        where
          stops_then : (new : KnownSignalState) × (slice_get (stopped now row fallen_part).ixl.known_signals row.entry ≡ Some new) × IsPast items new
          stops_then = stops fallen_part (stand.ready row.entry known g.signal) g.signal

  -- ---- the rule, at all routes

  passes : (k : ℕ) (part : StepSoFar) → Past part → Past (withdrawing now table k part)
  passes k part p = record {
    given_so = p.given_so;
    past = p.past;
    rests = withdrawing_held now table NoCommand (Rests table row.entry p.given_so.aspect p.given_so.number) (rests_keep now table row.entry p.given_so.aspect p.given_so.number) k part p.rests;
  }

  stand_then : (many : ℕ) (part : StepSoFar) → Stands part → Stands (over (withdrawing now table) many part)
  stand_then = over_held now table (StopsStand table) (stand_keep now table).rules (withdrawing now table) (withdrawing_held now table AnyCommand (StopsStand table) (stand_keep now table))

  goes_below : (many : ℕ) (part : StepSoFar) → many ≤ number → Stands part → Goes part → Goes (over (withdrawing now table) many part)
  goes_below zero part few stand g = g
  goes_below (suc many) part few stand g = leaves_so many (over (withdrawing now table) many part) (λ same. omega (arith, few, same)) (stand_then many part stand) (goes_below many part (omega (arith, few)) stand g)

  past_behind : (many : ℕ) (part : StepSoFar) → number < many → Stands part → Goes part → Turned (over (withdrawing now table) many part)
  past_behind zero part few stand g = absurd (omega (arith, few))
  past_behind (suc many) part few stand g = decide (many == number) refl (λ less. past_behind many part less stand g)
    where
      is_same : (many == number) ≡ true → many ≡ number
      is_same e = grind (arith, nat_tests, e)

      fewer : (many == number) ≡ false → number < many
      fewer e = grind (arith, nat_tests, e, few)

      on : many ≢ number → Turned (over (withdrawing now table) many part) → Turned (withdrawing now table many (over (withdrawing now table) many part))
      on differ (inl p) = inl (passes many (over (withdrawing now table) many part) p)
      on differ (inr (goes, uncancelled)) = inr (leaves_so many (over (withdrawing now table) many part) differ (stand_then many part stand) goes, uncancelled)

      decide : (b : Bool) → (many == number) ≡ b → (number < many → Turned (over (withdrawing now table) many part)) → Turned (withdrawing now table many (over (withdrawing now table) many part))
      decide true e behind = subst (λ (n : ℕ). Turned (withdrawing now table n (over (withdrawing now table) many part))) (sym (is_same e))
          (turn (over (withdrawing now table) many part) (stand_then many part stand) (goes_below many part (let same = is_same e in omega (arith, same)) stand g))
      decide false e behind = on (differs many number e) (behind (fewer e))

  -- after the first rule
  pub rule_past : (part : StepSoFar) → Stands part → Goes part → Turned (withdrawn now table part)
  rule_past part stand g = past_behind (count table) part (within_some table.rows number row row_there) stand g

  -- the rules, where the route is withdrawn
  past_ruled : (part : StepSoFar) → Past (withdrawn now table part) → (new : KnownSignalState) → slice_get (ruled now table part).ixl.known_signals row.entry ≡ Some new → IsPast items new
  past_ruled part p new e =
      let rests = behind_withdrawal now table NoCommand (Rests table row.entry p.given_so.aspect p.given_so.number) (rests_keep now table row.entry p.given_so.aspect p.given_so.number) part p.rests
      in as_past items p.given_so new (rests.given new e) p.past

-- ---- the step

pub clocked_there : (now : ℕ) (ixl : IxlState) (signal : ℕ) (known : KnownSignalState) → slice_get ixl.known_signals signal ≡ Some known → slice_get (all_clocked now ixl).known_signals signal ≡ Some (clocked_known_signal now known)
unfolding all_clocked
clocked_there now ixl signal known there = mapped (clocked_known_signal now) ixl.known_signals signal known there

-- what a cancel does to the route and to the signals
pub cancelled_at : (now : ℕ) (ixl : IxlState) (route : RouteId) (one : RouteState) → slice_get ixl.routes route.0 ≡ Some one → slice_get (obeyed now (Command.Cancel route) ixl).routes route.0 ≡ Some (record one { cancelled = true })
unfolding obeyed
cancelled_at now ixl route one there = changed_here (λ (old : RouteState). record old { cancelled = true }) route.0 ixl.routes one there

cancelled_signals : (now : ℕ) (ixl : IxlState) (route : RouteId) → (obeyed now (Command.Cancel route) ixl).known_signals ≡ ixl.known_signals
unfolding obeyed
cancelled_signals now ixl route = refl

cancel_past : (site : Site) (table : Table) (world : WorldState) (route : RouteId) (row : Row) (one : RouteState) (known : KnownSignalState) → slice_get table.rows route.0 ≡ Some row → StopsStand table world.interlocking.ixl.routes world.interlocking.ixl.known_signals
    → refusal (reading_of world.interlocking.clock) table (Command.Cancel route) (all_clocked (reading_of world.interlocking.clock) world.interlocking.ixl) ≡ None → slice_get world.interlocking.ixl.routes route.0 ≡ Some one → is_proceeding one.phase ≡ true
    → slice_get world.interlocking.ixl.known_signals row.entry ≡ Some known → ClientStandsByCounts known.client → known.client.link.given < 2 ^ 31
    → (new : KnownSignalState) → slice_get (interlocking_stepped site table (Commands (Command.Cancel route)) world).interlocking.ixl.known_signals row.entry ≡ Some new → IsPast known.client.link.given new
unfolding interlocking_stepped stepped ticked given moved_at_once
cancel_past site table world route row one known row_there stand none there proceeds signal counts small =
    by_turn (rule_past now table route.0 row row_there true known.client.link.given small late counts_so watched stand_watched (all_watch now table route.0 row row_there true known.client.link.given small late counts_so (count table) heard goes_heard))
  where
    now : ℕ
    now = reading_of world.interlocking.clock

    late : KnownSignalState
    late = clocked_known_signal now known

    clocked_part : StepSoFar
    clocked_part = record (begun_with world.interlocking.ixl empty_outbox) { ixl = all_clocked now world.interlocking.ixl }

    heard_by : Option Refusal → StepSoFar
    heard_by cause = moved_at_once now cause (Command.Cancel route) (record clocked_part { ixl = commanded_by now cause (Command.Cancel route) clocked_part.ixl })

    heard : StepSoFar
    heard = heard_by (refusal now table (Command.Cancel route) clocked_part.ixl)

    watched : StepSoFar
    watched = over (watching table) (count table) heard

    stand_watched : StopsStand table watched.ixl.routes watched.ixl.known_signals
    stand_watched = over_held now table (StopsStand table) (stand_keep now table).rules (watching table) (watching_held now table AnyCommand (StopsStand table) (stand_keep now table)) (count table) heard
        (given_command now table AnyCommand (StopsStand table) (stand_keep now table) (Command.Cancel route) clocked_part tt
        (clocked_held now table AnyCommand (StopsStand table) (stand_keep now table) (begun_with world.interlocking.ixl empty_outbox) stand))

    counts_so : is_ready late.client.stage ≡ true → CountsSo known.client.link.given late.client
    counts_so ready =
        let same = signal_client known.aspect known.number known.indicated (clocked now known.client)
        in subst (CountsSo known.client.link.given) (sym same) (clocked_counts now known.client counts (ap (λ (c : ClientState). is_outside c.stage) (sym same) ∙ ready_inside late.client.stage ready))

    goes_heard : Goes now table route.0 row row_there true known.client.link.given small late counts_so heard
    goes_heard = subst (λ (cause : Option Refusal). Goes now table route.0 row row_there true known.client.link.given small late counts_so (heard_by cause)) (sym none) (record {
      route = record one { cancelled = true };
      there = cancelled_at now clocked_part.ixl route one (ap (λ (routes : List RouteState). slice_get routes route.0) (clocked_routes now world.interlocking.ixl) ∙ there);
      proceeds = proceeds;
      cancelled = refl;
      signal = ap (λ (signals : List KnownSignalState). slice_get signals row.entry) (cancelled_signals now clocked_part.ixl route) ∙ clocked_there now world.interlocking.ixl row.entry known signal;
    })

    by_turn : Turned now table route.0 row row_there true known.client.link.given small late counts_so (withdrawn now table watched)
        → (new : KnownSignalState) → slice_get (ruled now table watched).ixl.known_signals row.entry ≡ Some new → IsPast known.client.link.given new
    by_turn (inl p) = past_ruled now table route.0 row row_there true known.client.link.given small late counts_so watched p
    by_turn (inr (goes, uncancelled)) = absurd (false≢true (sym uncancelled))

pub cancel_happened : (site : Site) (table : Table) (world : WorldState) (route : RouteId) (row : Row) (one : RouteState) (known : KnownSignalState) → slice_get table.rows route.0 ≡ Some row → StopsStand table world.interlocking.ixl.routes world.interlocking.ixl.known_signals
    → answered site table (Event.Request (Command.Cancel route)) world ≡ Answer.Accepted → slice_get world.interlocking.ixl.routes route.0 ≡ Some one → is_proceeding one.phase ≡ true
    → slice_get world.interlocking.ixl.known_signals row.entry ≡ Some known → ClientStandsByCounts known.client → known.client.link.given < 2 ^ 31
    → (new : KnownSignalState) → slice_get (happens site table (Event.Request (Command.Cancel route)) world).interlocking.ixl.known_signals row.entry ≡ Some new → IsPast known.client.link.given new
unfolding happens
cancel_happened site table world route row one known row_there stand accepted = cancel_past site table world route row one known row_there stand (accepted_so site table world route accepted)
