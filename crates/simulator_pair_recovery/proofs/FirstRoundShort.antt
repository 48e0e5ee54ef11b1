-- All that two ends have sent is short and intact.
use Rattle.std.proofs.Common.{◌≡◌, ℕ, ◌≤◌, Bool, true, false, Ok, List, [], ◌∷◌, length, if◌then◌else◌, sym, subst}
use Rattle.rasta_core_spec.specs.PduRead.{reading}
use Rattle.rasta_core_spec.specs.Bag.{is_copy, without_oldest}
use Rattle.rasta_core_spec.specs.identity.Role.TheVariants as role
use Rattle.rasta_core_spec.specs.key.Key.{Key}
use Rattle.rasta_core_spec.specs.pdu.Pdu.{Pdu}
use Rattle.rasta_core_spec.specs.Each.{Each}
use Rattle.rasta_core_spec.specs.Ends.{Sent}
use Rattle.rasta_core_spec.specs.Run.{Ends, later, lost, restarted}
use Rattle.rasta_core_spec.specs.Events.{Event, Calls, Passes, Loses, Restarts, Elsewhere, May, MayRun, happened, run}
use Rattle.rasta_core_spec.specs.SafetyCode.{IsIntact, intact}
use Rattle.rasta_core.specs.Invariant.{InFlight, Timely}
use Rattle.rasta_core.specs.TimedEnds.{Times, times_of}
use Rattle.simulator_pair.specs.Theorem.{names}
use Rattle.simulator_pair_recovery.proofs.Reached.{Laws, Reached, are_names, reached_timely, start}
use Rattle.simulator_pair_recovery.proofs.Fresh.{IsFresh, called_adds, each_append}
use Rattle.simulator_pair_recovery.proofs.Rounds.{LawsHere}

abbrev pub ReadIsIntact : Type 0
ReadIsIntact = (key : Key) (bytes : List ℕ) (pdu : Pdu) → reading key bytes ≡ Ok pdu → IsIntact key bytes

abbrev pub IsShort : Sent → Type 0
IsShort d = length d.bytes ≤ 225

abbrev pub IsWhole : Sent → Type 0
IsWhole d = intact names.key d.bytes ≡ true

fresh_short : (time : ℕ) (ds : List Sent) → Each (IsFresh time) ds → Each IsShort ds
fresh_short time [] each = tt
fresh_short time (d ∷ ds) each = (each.0.short, fresh_short time ds each.1)

lost_short : (bytes : List ℕ) (ds : List Sent) → Each IsShort ds → Each IsShort (without_oldest bytes ds)
lost_short bytes [] each = tt
lost_short bytes (d ∷ ds) each = choose (lost_short bytes ds each.1) (is_copy bytes d)
  where
    choose : Each IsShort (without_oldest bytes ds) → (b : Bool) → Each IsShort (if b then (record d { is_lost = true }) ∷ ds else d ∷ without_oldest bytes ds)
    choose others true = each
    choose others false = (each.0, others)

one_short : LawsHere → (e : Event) (ends : Ends) → Timely names ends → May names e ends → Each IsShort ends.sent → Each IsShort (happened e ends).sent
unfolding later lost restarted
one_short law (Calls who call) ends is may each =
    let adds = called_adds law.hands law.short who call ends is may
    in subst (Each IsShort) (sym adds.sent) (each_append IsShort ends.sent adds.more each (fresh_short ends.time adds.more adds.fresh))
one_short law (Passes elapsed of_client of_server) ends is may each = each
one_short law (Loses bytes) ends is may each = lost_short bytes ends.sent each
one_short law (Restarts role.Client clock first) ends is may each = each
one_short law (Restarts role.Server clock first) ends is may each = each
one_short law (Elsewhere count) ends is may each = each

all_short : LawsHere → (events : List Event) (ends : Ends) → Timely names ends → MayRun names events ends → Each IsShort ends.sent → Each IsShort (run events ends).sent
all_short law [] ends is may each = each
all_short law (e ∷ events) ends is may each =
    all_short law events (happened e ends) (law.laws.time names (e ∷ []) ends are_names is (may.0, tt)) may.1 (one_short law e ends is may.0 each)

pub reached_short : LawsHere → (ends : Ends) → Reached ends → Each IsShort ends.sent
reached_short law ends is = subst (λ (x : Ends). Each IsShort x.sent) is.same (all_short law is.events _ (law.laws.starts names start are_names) is.may tt)

all_whole : Laws → ReadIsIntact → (times : Times) (ds : List Sent) → Each (InFlight names times) ds → Each IsWhole ds
all_whole laws read times [] each = tt
all_whole laws read times (d ∷ ds) each = ((laws.intact names.key d.bytes).1 (read names.key d.bytes each.0.pdu each.0.read), all_whole laws read times ds each.1)

pub reached_whole : Laws → ReadIsIntact → (ends : Ends) → Reached ends → Each IsWhole ends.sent
reached_whole laws read ends is = let t = reached_timely laws ends is in all_whole laws read (times_of ends t.of_client t.of_server t.newest) ends.sent t.datagrams
