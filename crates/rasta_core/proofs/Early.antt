-- A client alone in its connection: what it does before the server enters.
use Rattle.std.proofs.Common.{◌≡◌, ℕ, ◌+◌, ◌^◌, ◌<◌, ◌≤◌, true, [], ◌∷◌, length, take, ◌⊎◌, inl, inr, refl, sym, ap, subst, ◌∙◌, arith}
use Rattle.std.proofs.lemmas.List.{length-append, append-nil}
use Rattle.rasta_core_spec.specs.Parameters.{most_sent}
use Rattle.rasta_core_spec.specs.Sequence.{wire}
use Rattle.rasta_core_spec.specs.State.{LinkState, is_asking}
use Rattle.rasta_core_spec.specs.PdusHandedOut.{Step, silent, header_of, pdu_of, sending, closed, telling, closing, reason_number, is_told}
use Rattle.rasta_core_spec.specs.reason.Reason.{Reason}
use Rattle.rasta_core_spec.specs.pdu.Pdu.{Pdu}
use Rattle.rasta_core_spec.specs.body.Body.{Body}
use Rattle.rasta_core_spec.specs.body.Body.TheVariants.{RetransmissionRequest, RetransmissionResponse, DisconnectionRequest}
use Rattle.rasta_core.specs.EndFlow.{IsAt, EndFlow, sent}
use Rattle.rasta_core.specs.Order.{Brings, Carries, IsClosing, IsSent, Counts}
use Rattle.rasta_core.specs.LinkAndFlow.{IsInside, Plays, asking, left}
use Rattle.rasta_core.specs.FirstPdus.{IsEarly, PlaysEarly, asks, gone, EarlyGoesOn}
use Rattle.rasta_core.proofs.OrderTests.{by_test}
use Rattle.rasta_core.proofs.Places.{split, within, only_one, begins_before, IsAfter}
use Rattle.rasta_core.proofs.GiverGrowth.{Extends, is_sent_kept}
use Rattle.rasta_core.proofs.Sends.{sends, upto_old, upto_new, below_old, below_new}

-- such a client is in order with whatever server enters
pub early_plays : (link : LinkState) (client server : EndFlow) → IsEarly client → PlaysEarly link client → server.first < 2 ^ 32 → Plays link client server
early_plays link client server early (asks inside alone) fits = asking (record { inside = inside; asking = alone; client = early.client_flow; reached = early.reached; partner_first = fits })
early_plays link client server early (gone shut keeps) fits = left shut keeps

-- ---- it closes and tells so

module _ (client : EndFlow) (pdu : Pdu) (early : IsEarly client) (room : sent client ≤ most_sent) (number : pdu.sequence_number ≡ wire client.first (sent client))
    (one : sent client ≡ 1) (detail why : ℕ) (body : pdu.body ≡ DisconnectionRequest detail why) where
  counts : Counts client 1
  counts = record {
    fits = omega (arith, room);
    some = omega arith;
    most = early.some;
    all = early.passed (sent client) ∙ sym (ap length early.given);
    passed = λ place le. omega (arith, early.passed place);
  }

  extends : Extends client (sends pdu client) (pdu ∷ [])
  extends = record {
    first = refl;
    flow = refl;
    passed = λ place le. upto_old (sent client) place (λ number. length client.given) client.passed le;
    expecting = λ place lt. below_old (sent client) place client.reached client.expecting lt;
    given = λ place le. refl;
    reached = omega arith;
  }

  le_or_lt : (a b : ℕ) → (a ≤ b) ⊎ (b < a)
  le_or_lt a b = grind arith

  passed_none : (place : ℕ) → (place ≤ sent client) ⊎ (sent client < place) → (sends pdu client).passed place ≡ 0
  passed_none place (inl le) = extends.passed place le ∙ early.passed place
  passed_none place (inr lt) = upto_new (sent client) place (λ number. length client.given) client.passed lt ∙ ap length early.given

  expects_one : (place : ℕ) → (place < sent client) ⊎ (sent client ≤ place) → (sends pdu client).expecting place ≡ 1
  expects_one place (inl lt) = extends.expecting place lt ∙ early.expecting place
  expects_one place (inr le) = below_new (sent client) place client.reached client.expecting le ∙ early.reached

  lt_or_le : (a b : ℕ) → (a < b) ⊎ (b ≤ a)
  lt_or_le a b = grind arith

  brings : Brings (sends pdu client) (sent client) []
  brings =
      let here = passed_none (sent client) (inl (omega arith))
      in let next = passed_none (sent client + 1) (inr (omega arith))
      in (omega (arith, here, next), ap (λ count. take count client.given) (next ∙ sym here) ∙ sym (append-nil (take ((sends pdu client).passed (sent client)) client.given)))

  closing_sent : (server_first : ℕ) → IsSent (sends pdu client) server_first (sent client) pdu
  closing_sent server_first = record {
    number = number;
    some_expected = omega (arith, expects_one (sent client) (inr (omega arith)));
    expected = omega (arith, expects_one (sent client) (inr (omega arith)), early.reached);
    confirms = inr (inr (one, subst IsClosing (sym body) tt, λ begins. early.client_flow (begins_before client.flow (pdu ∷ []) (omega (arith, one)) begins)));
    follows = λ two. absurd (omega (arith, two, one));
    carries = subst (Carries (sends pdu client) (sent client)) (sym body) brings;
  }

  each_sent : (place : ℕ) (that : Pdu) → IsAt place that client.flow ⊎ IsAfter place that client.flow (pdu ∷ []) → (server_first : ℕ) → IsSent (sends pdu client) server_first place that
  each_sent place that (inl at) server_first =
      is_sent_kept client (sends pdu client) (pdu ∷ []) extends 1 counts server_first place that (within place that client.flow at) (early.each place that at server_first)
  each_sent place that (inr (next, is, at)) server_first =
      let one = only_one next that pdu at
      in subst (λ here. IsSent (sends pdu client) server_first here that) (sym (is ∙ ap (λ more. sent client + more) one.0 ∙ none))
      (subst (IsSent (sends pdu client) server_first (sent client)) one.1 (closing_sent server_first))
    where
      none : sent client + 0 ≡ sent client
      none = omega arith

  none_of : (wanted : Body) → (DisconnectionRequest detail why ≡ wanted → ⊥) → ((place : ℕ) (that : Pdu) → IsAt place that client.flow → that.body ≡ wanted → ⊥)
      → (place : ℕ) (that : Pdu) → IsAt place that client.flow ⊎ IsAfter place that client.flow (pdu ∷ []) → that.body ≡ wanted → ⊥
  none_of wanted other before place that (inl at) is = before place that at is
  none_of wanted other before place that (inr (next, after, at)) is = other (sym body ∙ ap (λ (p : Pdu). p.body) (only_one next that pdu at).1 ∙ is)

  pub early_sends : IsEarly (sends pdu client)
  early_sends = record {
    first = early.first;
    some = omega (arith, length-append client.flow (pdu ∷ []));
    room = omega (arith, length-append client.flow (pdu ∷ []), room);
    given = early.given;
    taken = early.taken;
    waiting = early.waiting;
    reached = early.reached;
    client_flow = λ begins. early.client_flow (begins_before client.flow (pdu ∷ []) (omega (arith, one)) begins);
    passed = λ place. passed_none place (le_or_lt place (sent client));
    expecting = λ place. expects_one place (lt_or_le place (sent client));
    each = λ place that at. each_sent place that (split place that client.flow (pdu ∷ []) at);
    no_asking = λ place that at. none_of RetransmissionRequest (λ e. cc) early.no_asking place that (split place that client.flow (pdu ∷ []) at);
    no_answer = λ place that at. none_of RetransmissionResponse (λ e. cc) early.no_answer place that (split place that client.flow (pdu ∷ []) at);
  }

abbrev pub EarlyStep : EndFlow → Step → Type 0
EarlyStep client step = EarlyGoesOn client step.link step.pdus

pub early_stays : (client : EndFlow) (link : LinkState) → IsEarly client → PlaysEarly link client → EarlyGoesOn client link []
early_stays client link early plays = record { part = client; first = refl; flow = sym (append-nil client.flow); early = early; plays = plays }

pub early_told : (why : Reason) (client : EndFlow) (link : LinkState) → IsEarly client → IsInside link client → is_asking link ≡ true → EarlyStep client (telling why link)
unfolding telling sending header_of pdu_of
early_told why client link early inside alone = record {
  part = sends closing_pdu client;
  first = refl;
  flow = refl;
  early = early_sends client closing_pdu early inside.room (ap (λ first. wire first link.sent) inside.own_first ∙ ap (wire client.first) inside.counted)
      (inside.alone alone) 0 (reason_number why) refl;
  plays = gone refl (inl (record { given = inside.keeps.given; taken = inside.keeps.taken; waiting = inside.keeps.waiting }));
}
  where
    closing_pdu : Pdu
    closing_pdu = pdu_of (header_of link) link.sent (DisconnectionRequest 0 (reason_number why))

pub early_closed : (why : Reason) (client : EndFlow) (link : LinkState) → IsEarly client → IsInside link client → is_asking link ≡ true → EarlyStep client (closing why link)
unfolding closing
early_closed why client link early inside alone =
    by_test (EarlyStep client) (is_told why) (telling why link) (silent (closed link))
    (λ e. early_told why client link early inside alone)
    (λ e. early_stays client (closed link) early (gone refl (inl (record { given = inside.keeps.given; taken = inside.keeps.taken; waiting = inside.keeps.waiting }))))
