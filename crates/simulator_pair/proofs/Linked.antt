-- Every event of a pair keeps the invariant of the link theorem.
use Rattle.std.proofs.Common.{◌≡◌, ◌≢◌, ◌<◌, ◌≤◌, ◌+◌, ℕ, sym, ap, ◌∙◌, subst, inl, inr, Bool, true, false, List, [], ◌∷◌, Option, Some, None, arith, refl, lit<, Result, Ok, Err}
use Rattle.std.specs.Prelude.{◌↔◌, OnOk, OnErr, IsTrue, not, nat_le}
use Rattle.std.specs.Str.{bytes_eq}
use Rattle.std.proofs.lemmas.Bool.{and_parts, false≢true}
use Rattle.std.proofs.lemmas.Bool.Decides.{nat_tests}
use Rattle.std.proofs.lemmas.Slice.Eq.{bytes_eq-Decides}
use Rattle.std.proofs.lemmas.Option.{same_Some}
use Rattle.simulator_refused.specs.declared.refused.Refused.TheVariants.{NeverSent}
use Rattle.rasta_core.specs.Bag.{is_copy, is_alive_copy, lifetime, newest_copy}
use Rattle.rasta_core.specs.Ends.{Sent, Call, Ticks, Opens, Closes, Sends, Receives, is_taken, reading_of}
use Rattle.rasta_core.specs.Run.{Ends, end_of, called}
use Rattle.rasta_core.specs.identity.Role.{Role}
use Rattle.rasta_core.specs.identity.Role.TheVariants.{Client, Server}
use Rattle.rasta_core.specs.Calls.{hearing_bytes}
use Rattle.rasta_core.specs.PdusHandedOut.{entered}
use Rattle.rasta_core.specs.State.{LinkState}
use Rattle.rasta_core.specs.Ordered.{Ordered}
use Rattle.rasta_core.specs.Events.{Event, Calls, Passes, Loses, Restarts, IsAmong, IsDelivered, IsWithinDrift, May, MayCall, happened}
use Rattle.rasta_core.specs.Names.{AreNames, Names}
use Rattle.rasta_core.specs.Invariant.{Timely}
use Rattle.rasta_core.specs.Sentences.{IsIn, IsOpening, IsOut, freshness, receipt_at}
use Rattle.simulator_pair.specs.declared.event.PairReply.{PairReply}
use Rattle.simulator_refused.specs.declared.refused.Refused.{Refused}
use Rattle.rasta_pdu.specs.SafetyCode.{IsIntact, intact}
use Rattle.rasta_pdu.specs.PduRead.{reading}
use Rattle.rasta_pdu.specs.declared.fault.PduFault.{PduFault}
use Rattle.rasta_pdu.specs.declared.key.Key.{Key}
use Rattle.rasta_pdu.specs.declared.pdu.Pdu.{Pdu}
use Rattle.simulator_pair.specs.Pair.{PairState, stepped}
use Rattle.simulator_pair.specs.Events.{connection_of, copy_of, happens, refusal, refusal_of_delivery, refusal_of_time}
use Rattle.simulator_pair.specs.Theorem.{HappensRightly, IsTakenRightly, IsUndisturbed, names}
use Rattle.simulator_pair.specs.inside.Parts.{GivesItem, IsLinked}
use Rattle.simulator_pair.specs.declared.event.PairEvent.{PairEvent}
use Rattle.simulator_pair.specs.declared.event.PairEvent.TheVariants as event
use Rattle.rasta_core.specs.verdict.Verdict.TheVariants.{Unreadable}
use Rattle.simulator_pair.proofs.Undisturbed.{outside_undisturbed, refused_undisturbed}

pub are_names : AreNames names
are_names = record { differ = λ same. omega (arith, same); client = lit< tt; server = lit< tt }

-- what is found is a copy that was sent and can still be delivered
pub record IsFound (time : ℕ) (bytes : List ℕ) (sent : List Sent) (copy : Sent) : Type 0 where
  pub was_sent : IsAmong copy sent
  pub same : copy.bytes ≡ bytes
  pub in_time : time ≤ copy.at + lifetime

le_from_test : (a b : ℕ) → nat_le a b ≡ true → a ≤ b
le_from_test a b passed = grind (arith, nat_tests)

alive_is_found : (time : ℕ) (bytes : List ℕ) (copy : Sent) → is_alive_copy time bytes copy ≡ true → (copy.bytes ≡ bytes) × (time ≤ copy.at + lifetime)
alive_is_found time bytes copy alive =
    let parts = and_parts (nat_le time (copy.at + lifetime)) (is_copy bytes copy) alive
    in let same = and_parts (not copy.is_lost) (bytes_eq copy.bytes bytes) parts.1
    in ((bytes_eq-Decides copy.bytes bytes).0 same.1, le_from_test time (copy.at + lifetime) parts.0)

found_later : (time : ℕ) (bytes : List ℕ) (first : Sent) (later : List Sent) (copy : Sent) → newest_copy time bytes later ≡ Some copy → newest_copy time bytes (first ∷ later) ≡ Some copy
found_later time bytes first later copy found = rw found refl

found_first : (time : ℕ) (bytes : List ℕ) (first : Sent) (later : List Sent) → newest_copy time bytes later ≡ None → is_alive_copy time bytes first ≡ true → newest_copy time bytes (first ∷ later) ≡ Some first
found_first time bytes first later none_later alive = rw (none_later, alive) refl

found_none : (time : ℕ) (bytes : List ℕ) (first : Sent) (later : List Sent) → newest_copy time bytes later ≡ None → is_alive_copy time bytes first ≡ false → newest_copy time bytes (first ∷ later) ≡ None
found_none time bytes first later none_later no_copy = rw (none_later, no_copy) refl

none_is_not_some : (copy : Sent) → None ≡ Some copy → ⊥
none_is_not_some copy same = cc

-- the copy that a delivery finds was sent and can still be delivered
pub newest-is_found : (time : ℕ) (bytes : List ℕ) (sent : List Sent) (copy : Sent) → newest_copy time bytes sent ≡ Some copy → IsFound time bytes sent copy
newest-is_found time bytes [] copy found = absurd (none_is_not_some copy found)
newest-is_found time bytes (first ∷ later) copy found = by_later (newest_copy time bytes later) refl (λ other. newest-is_found time bytes later other) where
  by_first : newest_copy time bytes later ≡ None → (alive : Bool) → is_alive_copy time bytes first ≡ alive → IsFound time bytes (first ∷ later) copy
  by_first none_later true alive =
      let is_first = same_Some first copy (sym (found_first time bytes first later none_later alive) ∙ found)
      in let facts = alive_is_found time bytes first alive
      in let Found : Sent → Type 0 = λ s. IsFound time bytes (first ∷ later) s
      in subst Found is_first (record { was_sent = inl refl; same = facts.0; in_time = facts.1 })
  by_first none_later false no_copy = absurd (none_is_not_some copy (sym (found_none time bytes first later none_later no_copy) ∙ found))

  by_later : (newest : Option Sent) → newest_copy time bytes later ≡ newest → ((other : Sent) → newest_copy time bytes later ≡ Some other → IsFound time bytes later other) → IsFound time bytes (first ∷ later) copy
  by_later (Some other) newest_is found_in_later =
      let is_other = same_Some other copy (sym (found_later time bytes first later other newest_is) ∙ found)
      in let inner = found_in_later copy (newest_is ∙ ap Some is_other)
      in record { was_sent = inr inner.was_sent; same = inner.same; in_time = inner.in_time }
  by_later None newest_is found_in_later = by_first newest_is (is_alive_copy time bytes first) refl

-- the laws of the link theorem that each event uses
pub record Laws : Type 0 where
  pub time : (names : Names) (event : Event) (ends : Ends) → AreNames names → Timely names ends → May names event ends → Timely names (happened event ends)
  pub order : (names : Names) (event : Event) (ends : Ends) → AreNames names → Timely names ends → Ordered names ends → May names event ends → Ordered names (happened event ends)
  pub intact : (key : Key) (bytes : List ℕ) → IsTrue (intact key bytes) ↔ IsIntact key bytes

linked_after : Laws → (happening : Event) (ends : Ends) → IsLinked ends → May names happening ends → IsLinked (happened happening ends)
linked_after laws happening ends linked may = record {
  timely = laws.time names happening ends are_names linked.timely may;
  ordered = laws.order names happening ends are_names linked.timely linked.ordered may;
}

linked_stepped : Laws → (who : Role) (call : Call) (pair : PairState) → IsLinked pair.ends → MayCall names who call pair.ends → IsLinked (stepped who call pair).ends
unfolding stepped
linked_stepped laws who call pair linked may = linked_after laws (Calls who call) pair.ends linked may

key_of : (who : Role) (ends : Ends) → IsLinked ends → (end_of who ends).link.identity.key ≡ names.key
key_of Client ends linked = ap (λ i. i.key) linked.timely.client.identity
key_of Server ends linked = ap (λ i. i.key) linked.timely.server.identity

refused_then : (who : Role) (bytes : List ℕ) (ends : Ends) → copy_of bytes ends ≡ None → intact (end_of who ends).link.identity.key bytes ≡ true → refusal_of_delivery who bytes ends ≡ Some NeverSent
unfolding refusal_of_delivery
refused_then who bytes ends none_found told = rw (none_found, told) refl

refused_is_not_allowed : Some NeverSent ≡ None → ⊥
refused_is_not_allowed same = cc

-- bytes that may be delivered are a copy that is found, or aren't intact
may_receive : Laws → (who : Role) (bytes : List ℕ) (ends : Ends) → IsLinked ends → refusal_of_delivery who bytes ends ≡ None → MayCall names who (Receives bytes (connection_of (copy_of bytes ends))) ends
unfolding refusal_of_delivery
may_receive laws who bytes ends linked allowed = by_copy (copy_of bytes ends) refl where
  not_intact : (test : Bool) → intact (end_of who ends).link.identity.key bytes ≡ test → copy_of bytes ends ≡ None → IsIntact names.key bytes → ⊥
  not_intact true told none_found is_intact = absurd (refused_is_not_allowed (sym (refused_then who bytes ends none_found told) ∙ allowed))
  not_intact false told none_found is_intact =
      false≢true (sym told ∙ ap (λ key. intact key bytes) (key_of who ends linked) ∙ (laws.intact names.key bytes).1 is_intact)

  by_copy : (copy : Option Sent) → copy_of bytes ends ≡ copy → MayCall names who (Receives bytes (connection_of (copy_of bytes ends))) ends
  by_copy (Some copy) found =
      let facts = newest-is_found ends.time bytes ends.sent copy found
      in inl (copy, record { was_sent = facts.was_sent; bytes_same = facts.same; connection_same = sym (ap connection_of found); in_time = facts.in_time })
  by_copy None none_found = inr (inl (not_intact (intact (end_of who ends).link.identity.key bytes) refl none_found))

drifts_within : (elapsed of_client of_server : ℕ) (ends : Ends) → refusal_of_time elapsed of_client of_server ends ≡ None → IsWithinDrift elapsed of_client × IsWithinDrift elapsed of_server
unfolding refusal_of_time
drifts_within elapsed of_client of_server ends allowed =
    (record { least = grind arith; most = grind arith }, record { least = grind arith; most = grind arith })

-- every event that can happen keeps the invariant
pub linked_happens : Laws → (happening : PairEvent) (pair : PairState) → refusal happening pair.ends ≡ None → GivesItem happening → IsLinked pair.ends → IsLinked (happens happening pair).ends
unfolding happens refusal
linked_happens laws (event.Give who item) pair allowed item_is linked = linked_stepped laws who (Sends item) pair linked item_is
linked_happens laws (event.Tick Client) pair allowed item_is linked =
    linked_stepped laws Client Opens (stepped Client Ticks pair) (linked_stepped laws Client Ticks pair linked tt) tt
linked_happens laws (event.Tick Server) pair allowed item_is linked = linked_stepped laws Server Ticks pair linked tt
linked_happens laws (event.Time elapsed of_client of_server) pair allowed item_is linked =
    linked_after laws (Passes elapsed of_client of_server) pair.ends linked (drifts_within elapsed of_client of_server pair.ends allowed)
linked_happens laws (event.Deliver who bytes) pair allowed item_is linked =
    linked_stepped laws who (Receives bytes.items (connection_of (copy_of bytes.items pair.ends))) pair linked (may_receive laws who bytes.items pair.ends linked allowed)
linked_happens laws (event.Lose bytes) pair allowed item_is linked = linked_after laws (Loses bytes.items) pair.ends linked tt
linked_happens laws (event.Close who why) pair allowed item_is linked = linked_stepped laws who (Closes why) pair linked tt
linked_happens laws (event.Restart Client clock first) pair allowed item_is linked = linked_after laws (Restarts Client clock first) pair.ends linked tt
linked_happens laws (event.Restart Server clock first) pair allowed item_is linked = linked_after laws (Restarts Server clock first) pair.ends linked tt

-- and so does every answer of `apply`
pub linked_answer : Laws → (happening : PairEvent) (old new : PairState) (answer : Result PairReply Refused) → OnOk answer (new ≡ happens happening old) → OnOk answer (refusal happening old.ends ≡ None) → OnErr answer (new ≡ old) → GivesItem happening → IsLinked old.ends → IsLinked new.ends
linked_answer laws happening old new (Ok reply) step allowed same item_is linked =
    let Linked : PairState → Type 0 = λ state. IsLinked state.ends
    in subst Linked (sym step) (linked_happens laws happening old allowed item_is linked)
linked_answer laws happening old new (Err why) step allowed same item_is linked =
    let Linked : PairState → Type 0 = λ state. IsLinked state.ends
    in subst Linked (sym same) linked

-- the laws of what an end takes
pub record TakingLaws : Type 0 where
  pub fresh : (names : Names) (ends : Ends) (who : Role) (bytes : List ℕ) (connection : ℕ) (copy : Sent) → AreNames names → Timely names ends → IsDelivered ends bytes connection copy → (receipt_at who bytes ends).items ≢ [] → ends.time < copy.at + freshness
  pub own : (names : Names) (ends : Ends) (who : Role) (bytes : List ℕ) (connection : ℕ) (copy : Sent) → Timely names ends → IsDelivered ends bytes connection copy → is_taken (receipt_at who bytes ends).verdict ≡ true → (end_of who (called who (Receives bytes connection) ends)).connection ≡ Some copy.connection
  pub opening : (names : Names) (ends : Ends) (who : Role) (bytes : List ℕ) (connection : ℕ) (copy : Sent) → AreNames names → Timely names ends → IsDelivered ends bytes connection copy → IsOut who ends → is_taken (receipt_at who bytes ends).verdict ≡ true → IsOpening names who ends copy
  pub inside : (names : Names) (ends : Ends) (who : Role) (bytes : List ℕ) (connection : ℕ) (copy : Sent) → Timely names ends → IsDelivered ends bytes connection copy → IsIn who ends → (end_of who ends).connection ≡ Some copy.connection
  pub intact : (key : Key) (bytes : List ℕ) → IsTrue (intact key bytes) ↔ IsIntact key bytes
  pub read : (key : Key) (bytes : List ℕ) (pdu : Pdu) → reading key bytes ≡ Ok pdu → IsIntact key bytes

-- bytes that are no copy and may be delivered can't be read, so they don't disturb an end
damaged_undisturbed : TakingLaws → (who : Role) (bytes : List ℕ) (ends : Ends) → copy_of bytes ends ≡ None → refusal_of_delivery who bytes ends ≡ None → IsUndisturbed who bytes ends
unfolding hearing_bytes
damaged_undisturbed laws who bytes ends none_found allowed = cases (reading key bytes) refl where
  key : Key
  key = (end_of who ends).link.identity.key

  begun : LinkState
  begun = (entered (reading_of (end_of who ends).clock) (end_of who ends).link).link

  cases : (read : Result Pdu PduFault) → reading key bytes ≡ read → IsUndisturbed who bytes ends
  cases (Err fault) is = refused_undisturbed who bytes ends (Unreadable fault, ap (λ r. hearing_bytes r begun) is, refl)
  cases (Ok pdu) is =
      absurd (refused_is_not_allowed (sym (refused_then who bytes ends none_found ((laws.intact key bytes).1 (laws.read key bytes pdu is))) ∙ allowed))

taken_rightly : TakingLaws → (who : Role) (bytes : List ℕ) (ends : Ends) (copy : Sent) → IsLinked ends → copy_of bytes ends ≡ Some copy → IsTakenRightly who ends copy
taken_rightly laws who bytes ends copy linked found =
    let facts = newest-is_found ends.time bytes ends.sent copy found
    in let delivered : IsDelivered ends copy.bytes copy.connection copy = record { was_sent = facts.was_sent; bytes_same = refl; connection_same = refl; in_time = facts.in_time }
    in record {
      fresh = laws.fresh names ends who copy.bytes copy.connection copy are_names linked.timely delivered;
      own = laws.own names ends who copy.bytes copy.connection copy linked.timely delivered;
      opening = laws.opening names ends who copy.bytes copy.connection copy are_names linked.timely delivered;
      inside = laws.inside names ends who copy.bytes copy.connection copy linked.timely delivered;
      outside = outside_undisturbed who copy.bytes ends;
    }

pub happens_rightly : TakingLaws → (happening : PairEvent) (ends : Ends) → IsLinked ends → HappensRightly happening ends
happens_rightly laws (event.Deliver who bytes) ends linked = record {
  sent = λ copy found. taken_rightly laws who bytes.items ends copy linked found;
  damaged = damaged_undisturbed laws who bytes.items ends;
}
happens_rightly laws (event.Give who item) ends linked = tt
happens_rightly laws (event.Tick who) ends linked = tt
happens_rightly laws (event.Time elapsed of_client of_server) ends linked = tt
happens_rightly laws (event.Lose bytes) ends linked = tt
happens_rightly laws (event.Close who why) ends linked = tt
happens_rightly laws (event.Restart who clock first) ends linked = tt
