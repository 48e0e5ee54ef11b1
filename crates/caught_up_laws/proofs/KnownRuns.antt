-- Every event keeps what an end knows of its partner, and so does every run.
use Rattle.std.proofs.Common.{◌≡◌, ℕ, ◌+◌, ◌≤◌, Bool, true, false, ◌&&◌, List, length, refl, sym, ap, subst, ◌∙◌, arith}
use Rattle.std.specs.Prelude.{nat_le}
use Rattle.rasta_core_spec.specs.Calls.{created}
use Rattle.rasta_core_spec.specs.Clock.{deadline, settled}
use Rattle.rasta_core_spec.specs.Ends.{Call, EndState, end_later, end_restarted, reading_of}
use Rattle.rasta_core_spec.specs.Events.{Calls, Elsewhere, Event, IsWithinDrift, Loses, May, MayCall, Passes, Restarts, happened}
use Rattle.rasta_core_spec.specs.Names.{AreNames, Names, partner_of}
use Rattle.rasta_core_spec.specs.Parameters.{time_limit}
use Rattle.rasta_core_spec.specs.Run.{Ends, called, end_of, later, lost, restarted}
use Rattle.rasta_core_spec.specs.State.{LinkState, is_open}
use Rattle.rasta_core_spec.specs.identity.Role.{Role}
use Rattle.rasta_core_spec.specs.identity.Role.TheVariants as role
use Rattle.caught_up_laws.specs.Observer.{caught_up, is_recovering}
use Rattle.caught_up_laws.specs.inside.Laws.{Laws}
use Rattle.caught_up_laws.proofs.KnownCalls.{called_known, called_time, clock_after, link_after}
use Rattle.caught_up_laws.proofs.Knows.{Known, Knowing, outside_recovers_not, same_known, steady_known, until_same, watches}
use Rattle.caught_up_laws.proofs.Lists.{by_test}
use Rattle.caught_up_laws.proofs.Since.{event_since}
use Rattle.caught_up_laws.proofs.Whole.{IsWhole, whole_kept}

settled_same : (now : ℕ) (link : LinkState) → is_open (settled now link).phase ≡ true
    → ((settled now link).phase ≡ link.phase) × ((settled now link).own_stamp ≡ link.own_stamp)
unfolding settled
settled_same now link =
    by_test (λ (l : LinkState). is_open l.phase ≡ true → (l.phase ≡ link.phase) × (l.own_stamp ≡ link.own_stamp)) (is_open link.phase && nat_le (deadline link) now) _ (record link { clock = now })
    (λ e opened. absurd (cc (opened))) (λ e opened. (refl, refl))

called_other : (who : Role) (call : Call) (ends : Ends) → end_of (partner_of who) (called who call ends) ≡ end_of (partner_of who) ends
unfolding called
called_other role.Client call ends = refl
called_other role.Server call ends = refl

called_moment : (who : Role) (call : Call) (ends : Ends) → ends.moment ≤ (called who call ends).moment
unfolding called
called_moment role.Client call ends = omega arith
called_moment role.Server call ends = omega arith

event_moment : (event : Event) (ends : Ends) → ends.moment ≤ (happened event ends).moment
unfolding later lost restarted
event_moment (Calls who call) ends = called_moment who call ends
event_moment (Passes elapsed of_client of_server) ends = omega arith
event_moment (Loses bytes) ends = omega arith
event_moment (Restarts role.Client clock first) ends = omega arith
event_moment (Restarts role.Server clock first) ends = omega arith
event_moment (Elsewhere count) ends = omega arith

-- what becomes of what is known, and of the observer
pub record Goes (who : Role) (past now next : Ends) (until : ℕ) : Type 0 where
  pub known : Known who past next (caught_up until (end_of who next).link)
  pub bounded : is_open (end_of who next).link.phase ≡ true → is_recovering (end_of who next).link.phase ≡ true → until ≤ reading_of (end_of who next).clock + time_limit

module _ (law : Laws) (names : Names) (are : AreNames names) where
  -- the end is as it was
  as_before : (who : Role) (past now next : Ends) (until : ℕ) → IsWhole names past → Knowing names who past now until → next.time ≡ now.time → end_of who next ≡ end_of who now → Goes who past now next until
  as_before who past now next until was k time same = record {
    known = same_known law names are who past was now until k next time same;
    bounded = λ opened e. subst (λ (end : EndState). until ≤ reading_of end.clock + time_limit) (sym same) (k.watched.bounded (ap (λ (end : EndState). is_open end.link.phase) (sym same) ∙ opened));
  }

  own_call : (who : Role) (past now : Ends) (until : ℕ) → IsWhole names past → Knowing names who past now until → (call : Call) → MayCall names who call now → Goes who past now (called who call now) until
  own_call who past now until was k call may = record {
    known = λ connection opened at given. called_known law names are who past was now until k connection given call may opened at;
    bounded = λ opened e. subst (λ n. until ≤ reading_of n + time_limit) (sym (clock_after law names are who past was now until k call)) (k.watched.bounded (go e (is_open (end_of who now).link.phase) refl));
  }
    where
      go : is_recovering (end_of who (called who call now)).link.phase ≡ true → (b : Bool) → is_open (end_of who now).link.phase ≡ b → is_open (end_of who now).link.phase ≡ true
      go e true f = f
      go e false f = absurd (cc (e, ap (λ (l : LinkState). is_recovering l.phase) (link_after law names are who past was now until k call) ∙ outside_recovers_not law call now.moment (end_of who now) f))

  -- time passes for the end: its clock goes on by its own
  passes : (who : Role) (past now next : Ends) (until elapsed own moment : ℕ) → IsWhole names past → Knowing names who past now until → IsWithinDrift elapsed own → next.time ≡ now.time + elapsed
      → end_of who next ≡ end_later own moment (end_of who now) → Goes who past now next until
  unfolding end_later
  passes who past now next until elapsed own moment was k drift time is = record {
    known = steady_known law names are who past was now until k next elapsed own drift time (ap (λ (e : EndState). e.clock) is) (ap (λ (e : EndState). e.connection) is) (lengths (ap (λ (e : EndState). e.taken) is))
        (λ opened. (
          open_then opened,
          until_same until (end_of who now).link (end_of who next).link (open_then opened) (k.watched.exact (open_then opened))
              (ap (λ (e : EndState). is_recovering e.link.phase) is ∙ ap is_recovering (same opened).0) opened (ap (λ (e : EndState). e.link.own_stamp) is ∙ (same opened).1),
        ));
    bounded = λ opened e. goes_on (k.watched.bounded (open_then opened)) (ap (λ (end : EndState). end.clock) is);
  }
    where
      same : is_open (end_of who next).link.phase ≡ true → ((settled (reading_of ((end_of who now).clock + own)) (end_of who now).link).phase ≡ (end_of who now).link.phase)
          × ((settled (reading_of ((end_of who now).clock + own)) (end_of who now).link).own_stamp ≡ (end_of who now).link.own_stamp)
      same opened = settled_same (reading_of ((end_of who now).clock + own)) (end_of who now).link (ap (λ (e : EndState). is_open e.link.phase) (sym is) ∙ opened)

      open_then : is_open (end_of who next).link.phase ≡ true → is_open (end_of who now).link.phase ≡ true
      open_then opened = ap is_open (sym (same opened).0) ∙ ap (λ (e : EndState). is_open e.link.phase) (sym is) ∙ opened

      lengths : {a b : List (List ℕ)} → a ≡ b → length b ≤ length a
      lengths e = let n = ap length e in omega (arith, n)

      goes_on : until ≤ reading_of (end_of who now).clock + time_limit → (end_of who next).clock ≡ (end_of who now).clock + own → until ≤ reading_of (end_of who next).clock + time_limit
      goes_on low e = omega (arith, low, e)

  -- an end that was made anew is outside
  anew : (who : Role) (past now : Ends) (until clock first : ℕ) → Goes who past now (restarted who clock first now) until
  unfolding restarted end_restarted created
  anew role.Client past now until clock first = record { known = λ connection opened at given. absurd (cc (opened)); bounded = λ opened e. absurd (cc (opened)) }
  anew role.Server past now until clock first = record { known = λ connection opened at given. absurd (cc (opened)); bounded = λ opened e. absurd (cc (opened)) }

  pub event_goes : (who : Role) (past now : Ends) (until : ℕ) → IsWhole names past → Knowing names who past now until → (event : Event) → May names event now → Goes who past now (happened event now) until
  unfolding later lost restarted
  event_goes role.Client past now until was k (Calls role.Client call) may = own_call role.Client past now until was k call may
  event_goes role.Server past now until was k (Calls role.Server call) may = own_call role.Server past now until was k call may
  event_goes role.Client past now until was k (Calls role.Server call) may = as_before role.Client past now (called role.Server call now) until was k (called_time role.Server call now) (called_other role.Server call now)
  event_goes role.Server past now until was k (Calls role.Client call) may = as_before role.Server past now (called role.Client call now) until was k (called_time role.Client call now) (called_other role.Client call now)
  event_goes role.Client past now until was k (Passes elapsed of_client of_server) may = passes role.Client past now (later elapsed of_client of_server now) until elapsed of_client now.moment was k may.0 refl refl
  event_goes role.Server past now until was k (Passes elapsed of_client of_server) may = passes role.Server past now (later elapsed of_client of_server now) until elapsed of_server now.moment was k may.1 refl refl
  event_goes role.Client past now until was k (Loses bytes) may = as_before role.Client past now (lost bytes now) until was k refl refl
  event_goes role.Server past now until was k (Loses bytes) may = as_before role.Server past now (lost bytes now) until was k refl refl
  event_goes role.Client past now until was k (Restarts role.Client clock first) may = anew role.Client past now until clock first
  event_goes role.Server past now until was k (Restarts role.Server clock first) may = anew role.Server past now until clock first
  event_goes role.Client past now until was k (Restarts role.Server clock first) may = as_before role.Client past now (restarted role.Server clock first now) until was k refl refl
  event_goes role.Server past now until was k (Restarts role.Client clock first) may = as_before role.Server past now (restarted role.Client clock first now) until was k refl refl
  event_goes role.Client past now until was k (Elsewhere count) may = as_before role.Client past now (happened (Elsewhere count) now) until was k refl refl
  event_goes role.Server past now until was k (Elsewhere count) may = as_before role.Server past now (happened (Elsewhere count) now) until was k refl refl

  pub event_knows : (who : Role) (past now : Ends) (until : ℕ) → IsWhole names past → Knowing names who past now until → (event : Event) → May names event now
      → Knowing names who past (happened event now) (caught_up until (end_of who (happened event now)).link)
  event_knows who past now until was k event may =
      let goes = event_goes who past now until was k event may
      in let whole : IsWhole names (happened event now) = whole_kept law names event now are may k.whole
      in record {
        whole = whole;
        since = λ connection. event_since names (partner_of who) connection past.sent event now (k.since connection);
        moment = omega (arith, k.moment, event_moment event now);
        watched = watches names who (happened event now) until whole.sound.timely goes.bounded;
        known = goes.known;
      }
