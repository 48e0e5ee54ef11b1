-- What the numbers of a PDU of the partner say to a link in the connection, and what the link is after it took it.
use Rattle.std.proofs.Common.{◌≡◌, ℕ, ◌+◌, ◌-◌, ◌^◌, ◌<◌, ◌≤◌, Bool, true, false, List, length, sym, ap, subst, ◌∙◌, arith}
use Rattle.std.specs.Prelude.{nat_lt}
use Rattle.std.proofs.lemmas.Bool.{ltb-false}
use Rattle.rasta_core_spec.specs.Parameters.{sequence_range, stops_at_greatest}
use Rattle.rasta_core_spec.specs.Sequence.{wire, before, distance}
use Rattle.rasta_core_spec.specs.State.{LinkState, is_open, is_up, is_asking}
use Rattle.rasta_core_spec.specs.Clock.{open_state}
use Rattle.rasta_core_spec.specs.Receipt.{ahead, behind, taking, still_waiting}
use Rattle.rasta_core_spec.specs.pdu.Pdu.{Pdu}
use Rattle.rasta_core_spec.specs.phase.Phase.{Phase}
use Rattle.rasta_core.specs.EndFlow.{IsAt, EndFlow, sent}
use Rattle.rasta_core.specs.Order.{IsSent, InOrder}
use Rattle.rasta_core.specs.LinkAndFlow.{reads, HaveCome, HasJoined}
use Rattle.rasta_core.proofs.Numbers.{ahead_is, behind_is, next_is}
use Rattle.rasta_core.proofs.Places.{within}
use Rattle.rasta_core.proofs.OrderOfTaken.{taker_held}
use Rattle.rasta_core.proofs.Drops.{drops, giver_dropped, farther}

module _ (link : LinkState) (own other : EndFlow) (order : InOrder own other) (plays : HasJoined link own other) (pdu : Pdu) (place : ℕ) (at : IsAt place pdu other.flow) where
  pub made : IsSent other own.first place pdu
  made = order.back.each place pdu at

  -- the items up to this one are confirmed by it
  unfoldable pub confirmed : ℕ
  confirmed = other.expecting place - 1

  pub place_is : nat_lt sequence_range (ahead pdu link) ≡ false → place ≡ own.reached + ahead pdu link
  unfolding ahead
  place_is in_range =
      let same : distance (wire link.partner_first link.expected) pdu.sequence_number ≡ distance (wire other.first own.reached) (wire other.first place)
      = ap (λ first. distance (wire first link.expected) pdu.sequence_number) plays.partner_first
      ∙ ap (λ count. distance (wire other.first count) pdu.sequence_number) plays.expected
      ∙ ap (distance (wire other.first own.reached)) made.number
      in let near : distance (wire other.first own.reached) (wire other.first place) ≤ 200
      = subst (λ steps. steps ≤ 200) same (ltb-false 200 (distance (wire link.partner_first link.expected) pdu.sequence_number) in_range)
      in ahead_is other.first own.reached place (reached_fits order) (place_fits order) near ∙ ap (λ steps. own.reached + steps) (sym same)
    where
      reached_fits : InOrder own other → own.reached < 2 ^ 31
      reached_fits o = omega (arith, o.back.counts.most, o.back.counts.fits)

      place_fits : InOrder own other → place < 2 ^ 31
      place_fits o = omega (arith, within place pdu other.flow at, o.back.counts.fits)

  -- it confirms what its sender expected
  abbrev pub Confirms : Type 0
  Confirms = pdu.confirmed_sequence_number ≡ wire own.first (other.expecting place - 1)

  pub confirmed_is : Confirms → link.sent - 1 - behind pdu link ≡ confirmed
  unfolding behind confirmed
  confirmed_is right =
      ap (λ number. link.sent - 1 - distance number (wire link.own_first (before link.sent))) right
      ∙ ap (λ first. link.sent - 1 - distance (wire own.first (other.expecting place - 1)) (wire first (before link.sent))) plays.inside.own_first
      ∙ ap (λ count. count - 1 - distance (wire own.first (other.expecting place - 1)) (wire own.first (before count))) plays.inside.counted
      ∙ behind_is own.first (sent own) (other.expecting place) made.some_expected (omega (arith, made.expected, order.there.counts.most)) order.there.counts.fits

  pub confirmed_before : confirmed < other.reached
  unfolding confirmed
  confirmed_before = omega (arith, made.some_expected, made.expected)

  pub dropped_order : InOrder (drops confirmed own) other
  dropped_order = record {
    there = giver_dropped own other confirmed order.there confirmed_before;
    back = taker_held other own (still_waiting confirmed own.waiting) order.back;
  }

  pub keeps_waiting : Confirms → (taking pdu link).waiting ≡ still_waiting confirmed own.waiting
  unfolding taking
  keeps_waiting right = ap (λ number. still_waiting number link.waiting) (confirmed_is right) ∙ ap (still_waiting confirmed) plays.inside.keeps.waiting

  pub expects_next : (steps : ℕ) → ahead pdu link ≡ steps → place ≡ own.reached + steps → (taking pdu link).expected ≡ own.reached + steps + 1
  unfolding taking
  expects_next steps is there =
      ap (λ more. wire link.expected (more + 1)) is ∙ ap (λ count. wire count (steps + 1)) plays.expected
      ∙ next_is own.reached steps (omega (arith, there, within place pdu other.flow at, order.back.counts.fits))

  -- the link after taking, in a phase of a connection
  pub moved_plays : Confirms → (phase : Phase) (taken_count reached : ℕ) (reading : Bool) (taken : List (List ℕ))
      → is_open phase ≡ true → is_asking (record (taking pdu link) { phase = phase; taken = taken_count }) ≡ false → reading ≡ reads (open_state phase)
      → taken_count ≡ stops_at_greatest (length taken) → (taking pdu link).expected ≡ reached → HaveCome (is_up phase) (farther reached reading taken (drops confirmed own)) other
      → HasJoined (record (taking pdu link) { phase = phase; taken = taken_count }) (farther reached reading taken (drops confirmed own)) other
  unfolding taking
  moved_plays right phase taken_count reached reading taken is_opened no_asking reads_so count next come = record {
    inside = record {
      keeps = record { given = plays.inside.keeps.given; taken = count; waiting = keeps_waiting right };
      connected = is_opened;
      own_first = plays.inside.own_first;
      counted = plays.inside.counted;
      room = plays.inside.room;
      unsaid = plays.inside.unsaid;
      alone = λ asks. absurd (cc (asks, no_asking));
      reading = reads_so;
    };
    joined = no_asking;
    partner_first = plays.partner_first;
    expected = next;
    come = come;
  }
