-- Of the items that wait under PDUs of an end from a number on, there are no more than it has given since it had sent so many, where none was asked for again.
use Rattle.rasta_core_recovery.proofs.Words.Basics.{◌≡◌, ℕ, suc, ◌∙◌, ◌+◌, ◌-◌, ◌≤◌, Bool, true, false, nat_le, List, [], ◌∷◌, ◌++◌, length, Option, None, Ok, if◌then◌else◌, refl, ap, subst, arith, leb-true, leb-false}
use Rattle.rasta_core_recovery.proofs.Words.Links.{Each, LinkState, is_asking, is_open, behind, RetransmissionRequest, Identity, Role, Key, Unconfirmed, Pdu, reading, Call, Closes, EndState, Opens, Outcome, Receives, Sends, Ticks, end_after, end_later, kept, outcome, reading_of, Calls, Elsewhere, Event, Loses, May, MayRun, Passes as TimePasses, Restarts, run, AreNames, Names, Ends, end_of, Timely, Rises}
use Rattle.rasta_core_recovery.proofs.Words.Recovery.{AsksNothingAgain, LawsBelow}
use Rattle.rasta_core.specs.EndFlow.{later as waiting_from}
use Rattle.rasta_core_recovery.proofs.Lemmas.Windows.ConfirmingEvents.{CameBy, asks_by, does_by, settled_open, settled_so}
use Rattle.rasta_core_recovery.proofs.Lemmas.Windows.StaysIn.{Asks, Does, IsFrom, answers, calm, gives, joins, still, takes}
use Rattle.rasta_core_recovery.proofs.Lemmas.Windows.WindowNumbers.{given_later}
use Rattle.rasta_core_recovery.proofs.Lemmas.Rounds.OneConnection.{IsWhileIn, StaysLater, StaysOver, all_while}
use Rattle.rasta_core_recovery.proofs.Lemmas.Rounds.Words.{row_most}
use Rattle.rasta_core_recovery.proofs.Lemmas.Rounds.Blocks.{as_many_both}
use Rattle.rasta_core_recovery.proofs.Lemmas.Rounds.Given.{fewer_wait}

-- ---- what waits from a number on

pub none_from : (low high : ℕ) (waiting : List Unconfirmed) → Rises low high waiting → waiting_from high waiting ≡ 0
none_from low high [] rises = refl
none_from low high (first ∷ others) rises = choose (nat_le high first.tag) refl (none_from (first.tag + 1) high others rises.2)
  where
    choose : (b : Bool) → nat_le high first.tag ≡ b → waiting_from high others ≡ 0 → (if b then suc (waiting_from high others) else waiting_from high others) ≡ 0
    choose true e none = absurd (let over = leb-true _ _ e in let below = rises.1 in omega (arith, over, below))
    choose false e none = none

pub all_from : (number : ℕ) (waiting : List Unconfirmed) → Each (λ (held : Unconfirmed). number ≤ held.tag) waiting → waiting_from number waiting ≡ length waiting
all_from number [] each = refl
all_from number (first ∷ others) each = choose (nat_le number first.tag) refl (all_from number others each.1)
  where
    choose : (b : Bool) → nat_le number first.tag ≡ b → waiting_from number others ≡ length others → (if b then suc (waiting_from number others) else waiting_from number others) ≡ suc (length others)
    choose true e all = omega (arith, all)
    choose false e all = absurd (let below = leb-false _ _ e in let over = each.0 in omega (arith, below, over))

-- the end has sent so many PDUs, and of those from that number on no more items wait than it has given beyond so many
pub record IsFew (number before : ℕ) (end : EndState) : Type 0 where
  pub sent : number ≤ end.link.sent
  pub few : waiting_from number end.link.waiting + before ≤ length end.given

-- so it is while time passes
pub few_later : (number before : ℕ) → StaysLater (IsFew number before)
unfolding end_later
few_later number before elapsed moment one opened is = let s = settled_open (reading_of (one.clock + elapsed)) one.link opened in record {
  sent = let n = ap (λ (l : LinkState). l.sent) s.0 in let i = is.sent in omega (arith, n, i);
  few = let w = ap (λ (l : LinkState). waiting_from number l.waiting) s.0 in let f = is.few in omega (arith, w, f);
}

module _ (laws : LawsBelow) (names : Names) (who : Role) (number before : ℕ) (ends : Ends) (timely : Timely names ends) where
  abbrev end : EndState
  end = end_of who ends

  key_is : end.link.identity.key ≡ names.key
  key_is = by who
    where
      by : (w : Role) → (end_of w ends).link.identity.key ≡ names.key
      by Role.Client = ap (λ (i : Identity). i.key) timely.client.identity
      by Role.Server = ap (λ (i : Identity). i.key) timely.server.identity

  abbrev pub NotAsked : Call → Type 0
  NotAsked call = (p : Pdu) → CameBy end.link call p → p.body ≡ RetransmissionRequest → ⊥

  pub not_again : (call : Call) → AsksNothingAgain names who (Calls who call) → NotAsked call
  not_again Ticks asks p came is = absurd came
  not_again Opens asks p came is = absurd came
  not_again (Closes why) asks p came is = absurd came
  not_again (Sends item) asks p came is = absurd came
  not_again (Receives bytes of) asks p came is = asks refl p (subst (λ (k : Key). reading k bytes ≡ Ok p) key_is came) is

  module _ (call : Call) (not_asked : NotAsked call) where
    abbrev made : Outcome
    made = outcome call ends.moment end

    abbrev now : EndState
    now = end_after made ends.moment end

    -- it goes on in its connection
    goes_on : made.enters ≡ None → is_open end.link.phase ≡ true → is_open made.link.phase ≡ true → IsFew number before end → IsFew number before now
    unfolding end_after
    goes_on none was opened is = choose (is_asking end.link) refl
      where
        given_is : now.given ≡ end.given ++ made.given
        given_is = ap (λ (e : Option ℕ). kept e end.given ++ made.given) none

        more : length now.given ≡ length end.given + length made.given
        more = ap length given_is ∙ as_many_both end.given made.given

        by_does : Does (CameBy end.link call) end.link made.link made.pdus made.given made.taken → IsFew number before now
        by_does (calm speaks expected waits accepted handed) = record {
          sent = let s = row_most (IsFrom made.link) end.link.sent made.link.sent made.pdus speaks.pdus in let i = is.sent in omega (arith, s, i);
          few = let w = ap (waiting_from number) waits in let f = is.few in omega (arith, w, f, more);
        }
        by_does (gives item speaks expected waits accepted handed) = record {
          sent = let s = row_most (IsFrom made.link) end.link.sent made.link.sent made.pdus speaks.pdus in let i = is.sent in omega (arith, s, i);
          few = let w = ap (waiting_from number) waits ∙ given_later number end.link.waiting (record { tag = end.link.sent; item = item }) is.sent in let g = ap length accepted in let f = is.few in
              omega (arith, w, g, f, more);
        }
        by_does (takes p came passes speaks expected waits accepted) = record {
          sent = let s = row_most (IsFrom made.link) end.link.sent made.link.sent made.pdus speaks.pdus in let i = is.sent in omega (arith, s, i);
          few = let w = ap (waiting_from number) waits in let s = fewer_wait (end.link.sent - 1 - behind p end.link) number end.link.waiting in let f = is.few in omega (arith, w, s, f, more);
        }
        by_does (answers p came passes asks speaks expected waits accepted) = absurd (not_asked p came asks)

        by_asks : Asks end.link made.link made.given made.taken → IsFew number before now
        by_asks (still a own sent waits accepted handed) = record {
          sent = let i = is.sent in omega (arith, sent, i);
          few = let w = ap (waiting_from number) waits in let f = is.few in omega (arith, w, f, more);
        }
        by_asks (joins a e own sent waits accepted handed) = record {
          sent = let i = is.sent in omega (arith, sent, i);
          few = let w = ap (waiting_from number) waits in let f = is.few in omega (arith, w, f, more);
        }

        choose : (b : Bool) → is_asking end.link ≡ b → IsFew number before now
        choose true asks = by_asks (asks_by call ends.moment end was (settled_so laws names ends who timely was) asks none opened)
        choose false joined = by_does (does_by call ends.moment end was (settled_so laws names ends who timely was) joined none opened)

-- ---- every event

module _ (laws : LawsBelow) (names : Names) (are : AreNames names) (number before connection : ℕ) where
  -- While the end is in this connection, that is so.
  abbrev pub Given : Role → Ends → Type 0
  Given who ends = IsWhileIn laws names are connection (IsFew number before) (few_later number before) (end_of who ends)

  event_stays : (who : Role) (event : Event) (ends : Ends) → Timely names ends → May names event ends → AsksNothingAgain names who event → StaysOver (IsFew number before) who event ends
  event_stays who (Calls other call) ends timely may asks = λ same. goes_on laws names who number before ends timely call
      (not_again laws names who number before ends timely call (subst (λ (w : Role). AsksNothingAgain names who (Calls w call)) same asks))
  event_stays who (TimePasses elapsed of_client of_server) ends timely may asks = tt
  event_stays who (Loses bytes) ends timely may asks = tt
  event_stays who (Restarts other clock first) ends timely may asks = tt
  event_stays who (Elsewhere count) ends timely may asks = tt

  pub all_given : (who : Role) (events : List Event) (ends : Ends) → Timely names ends → MayRun names events ends → Each (AsksNothingAgain names who) events → Given who ends
      → Given who (run events ends)
  all_given who events ends timely may asks given =
      all_while laws names are connection (IsFew number before) (few_later number before) (AsksNothingAgain names who) who (event_stays who) events ends timely may asks given
