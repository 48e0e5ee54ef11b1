-- What a link in a connection sends is the next PDU of its part.
use Rattle.std.proofs.Common.{◌≡◌, ◌-◌, [], ◌∷◌, length, ◌⊎◌, inl, inr, ap, ◌∙◌, arith}
use Rattle.std.specs.Prelude.{if◌then◌else◌}
use Rattle.rasta_core_spec.specs.Sequence.{wire, before}
use Rattle.rasta_core_spec.specs.State.{LinkState}
use Rattle.rasta_core_spec.specs.PdusHandedOut.{header_of, pdu_of}
use Rattle.rasta_core_spec.specs.pdu.Pdu.{Pdu}
use Rattle.rasta_core_spec.specs.body.Body.{Body}
use Rattle.rasta_core_spec.specs.body.Body.TheVariants.{RetransmissionRequest, RetransmissionResponse}
use Rattle.rasta_core.specs.EndFlow.{EndFlow, sent}
use Rattle.rasta_core.specs.Order.{Brings, Carries, IsClosing, BeginsByResponse, InOrder}
use Rattle.rasta_core.specs.LinkAndFlow.{IsInside, HasJoined}
use Rattle.rasta_core.proofs.Places.{only_one, begins_before, opens_after}
use Rattle.rasta_core.proofs.Numbers.{before_is}
use Rattle.rasta_core.proofs.OrderOfTaken.{taker_sent}
use Rattle.rasta_core.proofs.Sends.{sends, IsNext, upto, below, below_old, brings_nothing, giver_sent}

-- what a link in the connection writes into a PDU confirms what its part has reached, but where a client closes that has
-- sent its request alone
abbrev pub Confirms : LinkState → EndFlow → EndFlow → Body → Type 0
Confirms link own other body =
    ((header_of link).confirmed_sequence_number ≡ wire other.first (own.reached - 1)) ⊎ ((sent own ≡ 1) × IsClosing body × (BeginsByResponse own.flow → ⊥))

pub joined_confirms : (link : LinkState) (own other : EndFlow) → InOrder own other → HasJoined link own other
    → (header_of link).confirmed_sequence_number ≡ wire other.first (own.reached - 1)
unfolding header_of
joined_confirms link own other order plays =
    ap (λ asks. if asks then 0 else wire link.partner_first (before link.expected)) plays.joined
    ∙ ap (λ first. wire first (before link.expected)) plays.partner_first
    ∙ ap (λ count. wire other.first count)
    (ap before plays.expected ∙ before_is own.reached order.back.counts.some (omega (arith, order.back.counts.most, order.back.counts.fits)))

module _ (link : LinkState) (own other : EndFlow) (order : InOrder own other) (inside : IsInside link own) where
  pub next_pdu : (body : Body) → Confirms link own other body → IsNext own other.first (sent own) (pdu_of (header_of link) link.sent body)
  unfolding pdu_of header_of
  next_pdu body confirms = record {
    number = ap (λ first. wire first link.sent) inside.own_first ∙ ap (λ count. wire own.first count) inside.counted;
    confirms = elim confirms [
      | inl right ↦ inl right
      | inr (one, closes, client) ↦ inr (inr (one, closes, λ begins. client (begins_before own.flow (pdu_of (header_of link) link.sent body ∷ []) (omega (arith, one)) begins)))
    ];
    follows = λ two. opens_after own.flow (pdu_of (header_of link) link.sent body ∷ []) (omega (arith, two)) inside.unsaid;
  }

  pub sends_in_order : (body : Body) → Confirms link own other body → Carries (sends (pdu_of (header_of link) link.sent body) own) (sent own) body
      → (body ≡ RetransmissionResponse → ⊥) → (body ≡ RetransmissionRequest → ⊥) → InOrder (sends (pdu_of (header_of link) link.sent body) own) other
  unfolding pdu_of
  sends_in_order body confirms carries no_response no_request =
      let pdu = pdu_of (header_of link) link.sent body
      in record {
        there = giver_sent own other pdu order.there (next_pdu body confirms) order.back.counts.some (omega (arith, inside.room)) carries no_response;
        back = taker_sent other own order.back (pdu ∷ []) (upto (sent own) (λ number. length own.given) own.passed) (below (sent own) own.reached own.expecting) own.given own.waiting
            (λ number lt. below_old (sent own) number own.reached own.expecting lt)
            (λ place that at is. no_request (ap (λ (p : Pdu). p.body) (only_one place that pdu at).1 ∙ is));
      }

  pub brings_none : (body : Body) → Confirms link own other body → Brings (sends (pdu_of (header_of link) link.sent body) own) (sent own) []
  brings_none body confirms = brings_nothing own other (pdu_of (header_of link) link.sent body) order.there (next_pdu body confirms) order.back.counts.some (omega (arith, inside.room))
