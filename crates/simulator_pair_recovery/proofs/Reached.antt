-- A pair that was given events is two ends to which events happened that may happen to them.
use Rattle.std.proofs.Common.{◌≡◌, ℕ, ◌∙◌, Bool, true, false, List, [], ◌∷◌, ◌++◌, Option, Some, None, if◌then◌else◌, refl, sym, ap, subst, inl, inr, arith, lit<}
use Rattle.std.specs.Prelude.{◌↔◌, IsTrue, is_none}
use Rattle.std.proofs.lemmas.Bool.{false≢true}
use Rattle.md4.specs.declared.message.TheConstants.{STANDARD}
use Rattle.rasta_core_spec.specs.Calls.{created}
use Rattle.rasta_core_spec.specs.identity.Role.{Role}
use Rattle.rasta_core_spec.specs.identity.Role.TheVariants as role
use Rattle.rasta_core_spec.specs.key.Key.{Key}
use Rattle.rasta_core_spec.specs.Bag.{newest_copy}
use Rattle.rasta_core_spec.specs.Each.{Each}
use Rattle.rasta_core_spec.specs.Ends.{Sent, Call, Ticks, Opens, Closes, Sends, Receives}
use Rattle.rasta_core_spec.specs.Run.{Ends, end_of}
use Rattle.rasta_core_spec.specs.Events.{Event, Calls, Passes, Loses, Restarts, IsDelivered, IsWithinDrift, IsRun, May, MayCall, MayRun, Start, happened, run, started}
use Rattle.rasta_core_spec.specs.Names.{AreNames, Names}
use Rattle.rasta_core_spec.specs.SafetyCode.{IsIntact, intact}
use Rattle.rasta_core.specs.Invariant.{Timely}
use Rattle.simulator_pair.specs.Pair.{PairState, stepped}
use Rattle.simulator_pair.specs.Events.{connection_of, copy_of, happens, new_pair, refusal, refusal_of_delivery, refusal_of_time}
use Rattle.simulator_pair.specs.Theorem.{names}
use Rattle.simulator_pair.specs.declared.event.PairEvent.{PairEvent}
use Rattle.simulator_pair.specs.declared.event.PairEvent.TheVariants as event
use Rattle.simulator_pair.specs.refused.Refused.TheVariants.{NeverSent}
use Rattle.simulator_pair_text.specs.Flow.{tried}
use Rattle.simulator_pair_recovery.specs.Recovery.{GivesItem, after_events}

pub are_names : AreNames names
are_names = record { differ = λ same. omega (arith, same); client = lit< tt; server = lit< tt }

abbrev pub start : Start
start = record { time = 0; moment = 0; client_clock = 0; client_first = 0; server_clock = 0; server_first = 0 }

-- two ends that a run leads to
abbrev pub Reached : Ends → Type 0
Reached ends = IsRun names start ends

-- laws of the layers below, handed in by who has them
pub record Laws : Type 0 where
  pub starts : (names : Names) (start : Start) → AreNames names → Timely names (started names start)
  pub time : (names : Names) (events : List Event) (ends : Ends) → AreNames names → Timely names ends → MayRun names events ends → Timely names (run events ends)
  pub copies : (ends : Ends) (bytes : List ℕ) (datagram : Sent) → newest_copy ends.time bytes ends.sent ≡ Some datagram → IsDelivered ends bytes datagram.connection datagram
  pub intact : (key : Key) (bytes : List ℕ) → IsTrue (intact key bytes) ↔ IsIntact key bytes

may_then : (events : List Event) (e : Event) (ends : Ends) → MayRun names events ends → May names e (run events ends) → MayRun names (events ++ e ∷ []) ends
may_then [] e ends may more = (more, tt)
may_then (first ∷ others) e ends may more = (may.0, may_then others e (happened first ends) may.1 more)

run_then : (events : List Event) (e : Event) (ends : Ends) → run (events ++ e ∷ []) ends ≡ happened e (run events ends)
run_then [] e ends = refl
run_then (first ∷ others) e ends = run_then others e (happened first ends)

pub reached_then : (e : Event) (ends : Ends) → Reached ends → May names e ends → Reached (happened e ends)
reached_then e ends is may = record {
  events = is.events ++ e ∷ [];
  may = may_then is.events e (started names start) is.may (subst (May names e) (sym is.same) may);
  same = run_then is.events e (started names start) ∙ ap (happened e) is.same;
}

pub reached_timely : Laws → (ends : Ends) → Reached ends → Timely names ends
reached_timely laws ends is = subst (Timely names) is.same (laws.time names is.events (started names start) are_names (laws.starts names start are_names) is.may)

pub reached_stepped : (who : Role) (call : Call) (pair : PairState) → Reached pair.ends → MayCall names who call pair.ends → Reached (stepped who call pair).ends
unfolding stepped
reached_stepped who call pair is may = reached_then (Calls who call) pair.ends is may

-- ---- deliveries

pub key_of : (who : Role) (ends : Ends) → Timely names ends → (end_of who ends).link.identity.key ≡ names.key
key_of role.Client ends is = ap (λ i. i.key) is.client.identity
key_of role.Server ends is = ap (λ i. i.key) is.server.identity

pub never_sent : (who : Role) (bytes : List ℕ) (ends : Ends) → copy_of bytes ends ≡ None → intact (end_of who ends).link.identity.key bytes ≡ true → refusal_of_delivery who bytes ends ≡ Some NeverSent
unfolding refusal_of_delivery
never_sent who bytes ends none told = rw (none, told) refl

not_allowed : Some NeverSent ≡ None → ⊥
not_allowed same = cc

pub may_receive : Laws → (who : Role) (bytes : List ℕ) (ends : Ends) → Timely names ends → refusal_of_delivery who bytes ends ≡ None → MayCall names who (Receives bytes (connection_of (copy_of bytes ends))) ends
may_receive laws who bytes ends is allowed = by_copy (copy_of bytes ends) refl
  where
    not_intact : (test : Bool) → intact (end_of who ends).link.identity.key bytes ≡ test → copy_of bytes ends ≡ None → IsIntact names.key bytes → ⊥
    not_intact true told none is_intact = not_allowed (sym (never_sent who bytes ends none told) ∙ allowed)
    not_intact false told none is_intact = false≢true (sym told ∙ ap (λ key. intact key bytes) (key_of who ends is) ∙ (laws.intact names.key bytes).1 is_intact)

    by_copy : (copy : Option Sent) → copy_of bytes ends ≡ copy → MayCall names who (Receives bytes (connection_of (copy_of bytes ends))) ends
    by_copy (Some copy) found = inl (copy, subst (λ (c : ℕ). IsDelivered ends bytes c copy) (sym (ap connection_of found)) (laws.copies ends bytes copy found))
    by_copy None none = inr (inl (not_intact (intact (end_of who ends).link.identity.key bytes) refl none))

-- ---- events

drifts_within : (elapsed of_client of_server : ℕ) (ends : Ends) → refusal_of_time elapsed of_client of_server ends ≡ None → IsWithinDrift elapsed of_client × IsWithinDrift elapsed of_server
unfolding refusal_of_time
drifts_within elapsed of_client of_server ends allowed = (record { least = grind arith; most = grind arith }, record { least = grind arith; most = grind arith })

happens_reached : Laws → (e : PairEvent) (pair : PairState) → refusal e pair.ends ≡ None → GivesItem e → Reached pair.ends → Reached (happens e pair).ends
unfolding happens refusal
happens_reached laws (event.Give who item) pair allowed item_is is = reached_stepped who (Sends item) pair is item_is
happens_reached laws (event.Tick role.Client) pair allowed item_is is = reached_stepped role.Client Opens (stepped role.Client Ticks pair) (reached_stepped role.Client Ticks pair is tt) tt
happens_reached laws (event.Tick role.Server) pair allowed item_is is = reached_stepped role.Server Ticks pair is tt
happens_reached laws (event.Time elapsed of_client of_server) pair allowed item_is is = reached_then (Passes elapsed of_client of_server) pair.ends is (drifts_within elapsed of_client of_server pair.ends allowed)
happens_reached laws (event.Deliver who bytes) pair allowed item_is is =
    reached_stepped who (Receives bytes.items (connection_of (copy_of bytes.items pair.ends))) pair is (may_receive laws who bytes.items pair.ends (reached_timely laws pair.ends is) allowed)
happens_reached laws (event.Lose bytes) pair allowed item_is is = reached_then (Loses bytes.items) pair.ends is tt
happens_reached laws (event.Close who why) pair allowed item_is is = reached_stepped who (Closes why) pair is tt
happens_reached laws (event.Restart role.Client clock first) pair allowed item_is is = reached_then (Restarts role.Client clock first) pair.ends is tt
happens_reached laws (event.Restart role.Server clock first) pair allowed item_is is = reached_then (Restarts role.Server clock first) pair.ends is tt

pub none_is : {A : Type 0} (o : Option A) → is_none o ≡ true → o ≡ None
none_is None e = refl
none_is (Some x) e = cc

pub tried_reached : Laws → (e : PairEvent) (pair : PairState) → GivesItem e → Reached pair.ends → Reached (tried e pair).ends
unfolding tried
tried_reached laws e pair item_is is = choose (is_none (refusal e pair.ends)) refl
  where
    choose : (b : Bool) → is_none (refusal e pair.ends) ≡ b → Reached (if b then happens e pair else pair).ends
    choose true f = happens_reached laws e pair (none_is (refusal e pair.ends) f) item_is is
    choose false f = is

pub events_reached : Laws → (events : List PairEvent) (pair : PairState) → Each GivesItem events → Reached pair.ends → Reached (after_events events pair).ends
events_reached laws [] pair items is = is
events_reached laws (e ∷ events) pair items is = events_reached laws events (tried e pair) items.1 (tried_reached laws e pair items.0 is)

pub new_reached : Reached (new_pair (record { 0 = STANDARD })).ends
unfolding created
new_reached = record { events = []; may = tt; same = refl }
