-- What an end knows of its partner: what it gave by a past moment, where the end is caught up.
use Rattle.std.proofs.Common.{◌≡◌, ℕ, ◌+◌, ◌*◌, ◌<◌, ◌≤◌, ◌⊎◌, Bool, true, false, if◌then◌else◌, List, [], length, Some, None, inl, inr, Result, Ok, Err, refl, sym, ap, subst, ◌∙◌, arith}
use Rattle.std.specs.Prelude.{◌==◌, nat_eq}
use Rattle.rasta_core_spec.specs.Calls.{hearing_bytes, opening, opens, receiving}
use Rattle.rasta_core_spec.specs.Clock.{alive_until, deadline}
use Rattle.rasta_core_spec.specs.Ends.{Call, Closes, EndState, Opens, Receives, Sends, Ticks, outcome, reading_of}
use Rattle.rasta_core_spec.specs.Establishment.{beginning, granting, judging, meeting, own_opening, requesting}
use Rattle.std.specs.Cmp.Lexicographic.{pointwise}
use Rattle.rasta_core_spec.specs.reason.Reason.TheVariants as reason
use Rattle.rasta_core_spec.specs.body.Body.TheVariants.{ConnectionResponse}
use Rattle.rasta_core_spec.specs.Events.{IsWithinDrift}
use Rattle.rasta_core_spec.specs.Names.{AreNames, Names, partner_of}
use Rattle.rasta_core_spec.specs.Parameters.{own_version, stops_at_greatest, time_limit, window_size}
use Rattle.rasta_core_spec.specs.PduRead.{reading}
use Rattle.rasta_core_spec.specs.PdusHandedOut.{Step, entered, sending, silent, telling}
use Rattle.rasta_core_spec.specs.Receipt.{Receipt, hearing}
use Rattle.rasta_core_spec.specs.Run.{Ends, end_of}
use Rattle.rasta_core_spec.specs.Sequence.{stamp}
use Rattle.rasta_core_spec.specs.State.{LinkState, is_asking, is_open}
use Rattle.rasta_core_spec.specs.body.Opening.{Opening}
use Rattle.rasta_core_spec.specs.identity.Role.{Role}
use Rattle.rasta_core_spec.specs.identity.Role.TheVariants as role
use Rattle.rasta_core_spec.specs.pdu.Pdu.{Pdu}
use Rattle.rasta_core_spec.specs.pdu_fault.PduFault.{PduFault}
use Rattle.rasta_core_spec.specs.phase.Phase.{Phase}
use Rattle.rasta_core_spec.specs.phase.Phase.TheVariants as phase
use Rattle.rasta_core.specs.FirstPdus.{HearsOutside, grants, refuses}
use Rattle.rasta_core.specs.Invariant.{Timely}
use Rattle.rasta_core.specs.TimedEnds.{Inside, Outside, own_stamp, standing}
use Rattle.caught_up_laws.specs.Knowledge.{clock_of}
use Rattle.caught_up_laws.specs.Observer.{caught_up, is_recovering}
use Rattle.caught_up_laws.specs.inside.Laws.{Laws}
use Rattle.caught_up_laws.proofs.Lists.{by_test}
use Rattle.caught_up_laws.proofs.Since.{Since, since_self}
use Rattle.caught_up_laws.proofs.Whole.{IsWhole, inside_of}

-- ---- the observer

-- where an observer stands: its reading is that of the link, unless the end misses a PDU; and it is no later than 1800 ms from now
pub record IsWatched (end : EndState) (until : ℕ) : Type 0 where
  pub exact : is_open end.link.phase ≡ true → is_recovering end.link.phase ≡ false → until ≡ alive_until end.link
  pub bounded : is_open end.link.phase ≡ true → until ≤ reading_of end.clock + time_limit

pub sees_exactly : (until : ℕ) (link : LinkState) → is_recovering link.phase ≡ false → caught_up until link ≡ alive_until link
sees_exactly until link e = ap (λ (b : Bool). if b then until else alive_until link) e

pub keeps_so : (until : ℕ) (link : LinkState) → is_recovering link.phase ≡ true → caught_up until link ≡ until
keeps_so until link e = ap (λ (b : Bool). if b then until else alive_until link) e

pub open_alive : (link : LinkState) → is_open link.phase ≡ true → alive_until link ≡ stops_at_greatest (link.own_stamp + time_limit)
unfolding alive_until deadline
open_alive link opened = ap (λ (b : Bool). stops_at_greatest (if b then link.own_stamp + time_limit else link.closed_at)) opened

-- where nothing changes, it stays
pub until_same : (until : ℕ) (old new : LinkState) → is_open old.phase ≡ true → (is_recovering old.phase ≡ false → until ≡ alive_until old) → is_recovering new.phase ≡ is_recovering old.phase
    → is_open new.phase ≡ true → new.own_stamp ≡ old.own_stamp → caught_up until new ≡ until
until_same until old new opened exact same still stamp = go (is_recovering old.phase) refl
  where
    go : (b : Bool) → is_recovering old.phase ≡ b → caught_up until new ≡ until
    go true e = keeps_so until new (same ∙ e)
    go false e = sees_exactly until new (same ∙ e) ∙ open_alive new still ∙ ap (λ s. stops_at_greatest (s + time_limit)) stamp ∙ sym (open_alive old opened) ∙ sym (exact e)

shut_recovers_not : (its : Phase) → is_open its ≡ false → is_recovering its ≡ false
shut_recovers_not phase.Closed e = refl
shut_recovers_not phase.Start e = absurd (cc (e))
shut_recovers_not phase.Up e = absurd (cc (e))
shut_recovers_not phase.RetransmissionRequested e = absurd (cc (e))
shut_recovers_not phase.RetransmissionRunning e = absurd (cc (e))

-- ---- an end outside misses nothing

granted_recovers_not : (pdu : Pdu) (asked : Opening) (link : LinkState) → is_recovering (granting pdu asked link).link.phase ≡ false
unfolding granting judging telling sending meeting beginning
granted_recovers_not pdu asked link =
    by_test (λ (s : Step). is_recovering s.link.phase ≡ false) (pointwise nat_eq asked.version own_version) _ (telling reason.Version (meeting pdu (beginning link)))
    (λ e. by_test (λ (s : Step). is_recovering s.link.phase ≡ false) (asked.window == window_size) (sending (ConnectionResponse own_opening) (meeting pdu (beginning link))) (telling reason.Window (meeting pdu (beginning link)))
    (λ f. refl) (λ f. refl))
    (λ e. refl)

heard_recovers_not : Laws → (found : Result Pdu PduFault) (link : LinkState) → is_open link.phase ≡ false → is_recovering (hearing_bytes found link).link.phase ≡ false
unfolding hearing_bytes
heard_recovers_not law (Err fault) link shut = shut_recovers_not link.phase shut
heard_recovers_not law (Ok pdu) link shut = go (law.hears_outside pdu link shut)
  where
    go : HearsOutside pdu link (hearing pdu link) → is_recovering (hearing pdu link).link.phase ≡ false
    go (refuses why not_taken same) = ap (λ (r : Receipt). is_recovering r.link.phase) same ∙ shut_recovers_not link.phase shut
    go (grants asked server body down late same) = ap (λ (r : Receipt). is_recovering r.link.phase) same ∙ granted_recovers_not pdu asked link

received_recovers_not : Laws → (now : ℕ) (bytes : List ℕ) (link : LinkState) → is_open link.phase ≡ false → is_recovering (receiving now bytes link).link.phase ≡ false
unfolding receiving
received_recovers_not law now bytes link shut =
    heard_recovers_not law (reading link.identity.key bytes) (entered now link).link (ap (λ (s : Step). is_open s.link.phase) (law.entered_outside now link shut) ∙ shut)

opened_recovers_not : (now : ℕ) (link : LinkState) → opens now link ≡ true → is_recovering (opening now link).link.phase ≡ false
unfolding opening opens requesting sending beginning
opened_recovers_not now link may = ap (λ (b : Bool). is_recovering (if b then requesting (entered now link).link else silent (entered now link).link).link.phase) may

pub outside_recovers_not : Laws → (call : Call) (moment : ℕ) (end : EndState) → is_open end.link.phase ≡ false → is_recovering (outcome call moment end).link.phase ≡ false
unfolding outcome
outside_recovers_not law Ticks moment end shut = shut_recovers_not _ (law.stays_out Ticks moment end shut refl)
outside_recovers_not law (Closes why) moment end shut = shut_recovers_not _ (law.stays_out (Closes why) moment end shut refl)
outside_recovers_not law (Sends item) moment end shut = shut_recovers_not _ (law.stays_out (Sends item) moment end shut refl)
outside_recovers_not law (Receives bytes connection) moment end shut = received_recovers_not law (reading_of end.clock) bytes end.link shut
outside_recovers_not law Opens moment end shut = go (opens (reading_of end.clock) end.link) refl
  where
    go : (b : Bool) → opens (reading_of end.clock) end.link ≡ b → is_recovering (opening (reading_of end.clock) end.link).link.phase ≡ false
    go true e = opened_recovers_not (reading_of end.clock) end.link e
    go false e = shut_recovers_not _ (law.stays_out Opens moment end shut (ap (λ (b : Bool). if b then Some moment else None) e))

-- ---- an observer goes on

standing_stamp : (link : LinkState) → is_open link.phase ≡ true → own_stamp (standing link) ≡ link.own_stamp
standing_stamp link opened = ap (λ (b : Bool). own_stamp (if b then Inside (is_asking link) link.own_stamp link.partner_stamp else Outside link.closed_at)) opened

stamp_past : (names : Names) (who : Role) (ends : Ends) → Timely names ends → is_open (end_of who ends).link.phase ≡ true → 1000 * (end_of who ends).link.own_stamp ≤ (end_of who ends).clock
stamp_past names role.Client ends is opened = subst (λ n. 1000 * n ≤ ends.client.clock) (standing_stamp ends.client.link opened) (is.ends_timed.client.reached (inside_of ends.client.link opened))
stamp_past names role.Server ends is opened = subst (λ n. 1000 * n ≤ ends.server.clock) (standing_stamp ends.server.link opened) (is.ends_timed.server.reached (inside_of ends.server.link opened))

pub watches : (names : Names) (who : Role) (next : Ends) (until : ℕ) → Timely names next
    → (is_open (end_of who next).link.phase ≡ true → is_recovering (end_of who next).link.phase ≡ true → until ≤ reading_of (end_of who next).clock + time_limit)
    → IsWatched (end_of who next) (caught_up until (end_of who next).link)
watches names who next until timely before = record {
  exact = λ opened e. sees_exactly until (end_of who next).link e;
  bounded = λ opened. go opened (is_recovering (end_of who next).link.phase) refl;
}
  where
    low : (stamp clock until : ℕ) → 1000 * stamp ≤ clock → until ≡ stops_at_greatest (stamp + time_limit) → until ≤ reading_of clock + time_limit
    low stamp clock until e f = omega (arith, e, f)

    go : is_open (end_of who next).link.phase ≡ true → (b : Bool) → is_recovering (end_of who next).link.phase ≡ b
        → caught_up until (end_of who next).link ≤ reading_of (end_of who next).clock + time_limit
    go opened true e = subst (λ n. n ≤ reading_of (end_of who next).clock + time_limit) (sym (keeps_so until (end_of who next).link e)) (before opened e)
    go opened false e = low (end_of who next).link.own_stamp (end_of who next).clock _ (stamp_past names who next timely opened) (sees_exactly until (end_of who next).link e ∙ open_alive (end_of who next).link opened)

-- ---- what is known

-- The end has been in this connection since a past moment; and what its partner had given by then it has taken, where it is caught up.
pub record Stayed (who : Role) (past now : Ends) (until connection : ℕ) : Type 0 where
  pub was_open : is_open (end_of who past).link.phase ≡ true
  pub was_in : (end_of who past).connection ≡ Some connection
  pub time : past.time ≤ now.time
  pub most : 1000 * (end_of who now).clock + 1001 * past.time ≤ 1000 * (end_of who past).clock + 1001 * now.time
  pub least : 999 * now.time + 1000 * (end_of who past).clock ≤ 1000 * (end_of who now).clock + 999 * past.time
  pub knows : clock_of who past + time_limit < until → length (end_of (partner_of who) past).given ≤ length (end_of who now).taken

abbrev pub Known : Role → Ends → Ends → ℕ → Type 0
Known who past now until =
    (connection : ℕ) → is_open (end_of who now).link.phase ≡ true → (end_of who now).connection ≡ Some connection → (end_of (partner_of who) past).connection ≡ Some connection
    → Stayed who past now until connection ⊎ ((end_of (partner_of who) past).given ≡ [])

pub record Knowing (names : Names) (who : Role) (past now : Ends) (until : ℕ) : Type 0 where
  pub whole : IsWhole names now
  pub since : (connection : ℕ) → Since names (partner_of who) connection past.sent now.sent
  pub moment : past.moment ≤ now.moment
  pub watched : IsWatched (end_of who now) until
  pub known : Known who past now until

pub begins_known : (names : Names) (who : Role) (past : Ends) (until : ℕ) → IsWhole names past → IsWatched (end_of who past) until → Knowing names who past past until
begins_known names who past until whole watched = record {
  whole = whole;
  since = λ connection. since_self names (partner_of who) connection past.sent;
  moment = omega arith;
  watched = watched;
  known = λ connection opened at was. inl (record {
    was_open = opened;
    was_in = at;
    time = omega arith;
    most = omega arith;
    least = omega arith;
    knows = λ late. absurd (omega (arith, late, watched.bounded opened));
  });
}

module _ (law : Laws) (names : Names) (are : AreNames names) (who : Role) (past : Ends) (was : IsWhole names past) (now : Ends) (until : ℕ) (k : Knowing names who past now until) where
  -- the link of the end is as it was, as far as that goes
  pub steady_known : (next : Ends) (elapsed own : ℕ) → IsWithinDrift elapsed own → next.time ≡ now.time + elapsed → (end_of who next).clock ≡ (end_of who now).clock + own
      → (end_of who next).connection ≡ (end_of who now).connection → length (end_of who now).taken ≤ length (end_of who next).taken
      → (is_open (end_of who next).link.phase ≡ true → (is_open (end_of who now).link.phase ≡ true) × (caught_up until (end_of who next).link ≡ until))
      → Known who past next (caught_up until (end_of who next).link)
  steady_known next elapsed own drift time clock conn taken same connection opened at given =
      elim (k.known connection (same opened).0 (sym conn ∙ at) given) [
        | inl stayed ↦ inl (record {
          was_open = stayed.was_open;
          was_in = stayed.was_in;
          time = omega (arith, stayed.time, time);
          most = omega (arith, stayed.most, time, clock, drift.most);
          least = omega (arith, stayed.least, time, clock, drift.least);
          knows = λ late. more_taken (stayed.knows (subst (λ u. clock_of who past + time_limit < u) (same opened).1 late));
        })
        | inr none ↦ inr none
      ]
    where
      more_taken : length (end_of (partner_of who) past).given ≤ length (end_of who now).taken → length (end_of (partner_of who) past).given ≤ length (end_of who next).taken
      more_taken few = omega (arith, few, taken)

  pub none_elapses : IsWithinDrift 0 0
  none_elapses = record { least = omega arith; most = omega arith }

  -- the end is as it was
  pub same_known : (next : Ends) → next.time ≡ now.time → end_of who next ≡ end_of who now → Known who past next (caught_up until (end_of who next).link)
  same_known next time same =
      steady_known next 0 0 none_elapses (omega (arith, time)) (clocks (ap (λ (e : EndState). e.clock) same)) (ap (λ (e : EndState). e.connection) same)
      (lengths (ap (λ (e : EndState). e.taken) same))
      (λ opened. let was_open : is_open (end_of who now).link.phase ≡ true = ap (λ (e : EndState). is_open e.link.phase) (sym same) ∙ opened
      in (was_open, until_same until (end_of who now).link (end_of who next).link was_open (k.watched.exact was_open) (ap (λ (e : EndState). is_recovering e.link.phase) same) opened (ap (λ (e : EndState). e.link.own_stamp) same)))
    where
      clocks : {a b : ℕ} → a ≡ b → a ≡ b + 0
      clocks e = omega (arith, e)

      lengths : {a b : List (List ℕ)} → a ≡ b → length b ≤ length a
      lengths e = let n = ap length e in omega (arith, n)
