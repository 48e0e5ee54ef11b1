-- How many datagrams a part of a step hands out.
use Rattle.std.proofs.Common.{◌≡◌, ℕ, ◌+◌, ◌≤◌, List, ◌++◌, length, refl, ap, sym, ◌∙◌, arith}
use Rattle.std.proofs.lemmas.List.{length-append, length-map}
use Rattle.rasta_core.specs.Outbox.{HasRoomFor, OutboxState, posted}
use Rattle.rasta_core.specs.PdusHandedOut.{Step}
use Rattle.rasta_core.specs.Calls.{IsAt}
use Rattle.rasta_core.specs.State.{LinkState}
use Rattle.rasta_pdu.specs.declared.key.Key.{Key}
use Rattle.rasta_pdu.specs.declared.pdu.Pdu.{Pdu}
use Rattle.line_host.specs.Talk.{TalkState, Stays, called}

length-posted : (key : Key) (pdus : List Pdu) (box : OutboxState) → length (posted key pdus box).datagrams ≡ length box.datagrams + length pdus
unfolding posted
length-posted key pdus box = simp (length-append, length-map)

capacity-posted : (key : Key) (pdus : List Pdu) (box : OutboxState) → (posted key pdus box).capacity ≡ box.capacity
unfolding posted
capacity-posted key pdus box = refl

-- a call of the link hands out as many as it tells
pub stays_by : (now most : ℕ) (talk : TalkState) (link : LinkState) (pdus : List Pdu) → IsAt now talk.link link → length pdus ≤ most
    → Stays now most talk (record talk { link = link; outbox = posted talk.link.identity.key pdus talk.outbox })
stays_by now most talk link pdus at few = record {
  clock = at.clock;
  capacity = capacity-posted talk.link.identity.key pdus talk.outbox;
  few = omega (arith, length-posted talk.link.identity.key pdus talk.outbox, few);
}

pub called_stays : (now most : ℕ) (talk : TalkState) (made : Step) → IsAt now talk.link made.link → length made.pdus ≤ most → Stays now most talk (called made talk)
called_stays now most talk made at few = stays_by now most talk made.link made.pdus at few

-- the same where the code has them
pub call_stays : (now most : ℕ) (old inside : TalkState) (link made : LinkState) (pdus : List Pdu) (outbox : OutboxState) → inside ≡ old → link ≡ made → IsAt now inside.link made
    → outbox ≡ posted inside.link.identity.key pdus inside.outbox → length pdus ≤ most → Stays now most old (record inside { link = link; outbox = outbox })
call_stays now most old inside link made pdus outbox same is at posts few = record {
  clock = ap (λ (l : LinkState). l.clock) is ∙ at.clock;
  capacity = ap (λ (b : OutboxState). b.capacity) posts ∙ (capacity-posted inside.link.identity.key pdus inside.outbox ∙ ap (λ (t : TalkState). t.outbox.capacity) same);
  few =
      let count : length outbox.datagrams ≡ length inside.outbox.datagrams + length pdus =
      ap (λ (b : OutboxState). length b.datagrams) posts ∙ length-posted inside.link.identity.key pdus inside.outbox
      in let before : length inside.outbox.datagrams ≡ length old.outbox.datagrams = ap (λ (t : TalkState). length t.outbox.datagrams) same
      in omega (arith, count, before, few);
}

pub at_once : (now most : ℕ) (talk : TalkState) → talk.link.clock ≡ now → Stays now most talk talk
at_once now most talk at = record { clock = at; capacity = refl; few = omega arith }

-- one part after another
pub then_stays : (now one two both : ℕ) (old mid new : TalkState) → Stays now one old mid → Stays now two mid new → one + two ≤ both → Stays now both old new
then_stays now one two both old mid new first second within = record {
  clock = second.clock;
  capacity = second.capacity ∙ first.capacity;
  few = omega (arith, first.few, second.few, within);
}

pub more_stays : (now few many : ℕ) (old new : TalkState) → Stays now few old new → few ≤ many → Stays now many old new
more_stays now few many old new stays within = record { clock = stays.clock; capacity = stays.capacity; few = omega (arith, stays.few, within) }

-- the room that is left
pub room_left : (now most more room : ℕ) (old new : TalkState) → Stays now most old new → HasRoomFor room old.outbox → most + more ≤ room → HasRoomFor more new.outbox
room_left now most more room old new stays has within = omega (arith, stays.few, stays.capacity, has, within)
