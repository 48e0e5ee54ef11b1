-- The starved end, computed.
use Rattle.std.proofs.Common.{◌≡◌, ℕ, ◌+◌, ◌*◌, ◌≤◌, inl, inr, arith, List, [], ◌∷◌, ◌++◌, refl}
use Rattle.md4.specs.Md4.{padding, block_words, sequence, after_block, after_blocks, digest}
use Rattle.rasta_core_spec.specs.SafetyCode.{code}
use Rattle.rasta_core_spec.specs.Spelling.{payload, fields, text, writing}
use Rattle.rasta_core_spec.specs.PduRead.{text_of, opening_of, disconnection_of, nothing_of, item_of, items_to_end, items_of, body_of, pdu_of as pdu_read, reading}
use Rattle.rasta_core_spec.specs.Calls.{created, opens, opening, ticking, sending_item, acceptance, answer_to_send, hearing_bytes, receiving}
use Rattle.rasta_core_spec.specs.Clock.{settled, deadline, alive_until, quiet_until, state_at}
use Rattle.rasta_core_spec.specs.PdusHandedOut.{header_of, pdu_of, sending, telling, limited, entered, beating, giving}
use Rattle.rasta_core_spec.specs.Establishment.{beginning, requesting, meeting, judging, granting, joining}
use Rattle.rasta_core_spec.specs.Receipt.{age, ahead, behind, still_waiting, taking, repeated, retagged, repeating, answering, missing, handing, bringing, in_turn, admitting, testing, connected, asking, resting, by_state, hearing}
use Rattle.rasta_core_spec.specs.Ends.{outcome, end_after, end_later, end_restarted}
use Rattle.rasta_core_spec.specs.Bag.{lifetime}
use Rattle.rasta_core_spec.specs.Events.{Event, IsAmong, IsDelivered, IsWithinDrift, MayRun, Start, started}
use Rattle.rasta_core_spec.specs.Names.{AreNames, Names}
use Rattle.rasta_core_spec.specs.Run.{Ends, called, later, restarted}
use Rattle.rasta_core_spec.specs.identity.Role.{Role}
use Rattle.rasta_core_spec.specs.identity.Role.TheVariants as role
use Rattle.caught_up_laws.specs.Knowledge.{IsBeginning, KnowsAllBy}
use Rattle.caught_up_laws.specs.Observer.{alive}
use Rattle.caught_up_laws.specs.Starved.{IsStarved, after_the_item, asked, granted, joined, both_up, given, beaten, item, missed, answered, names, nth, resumed, start, starved, up_to_the_item}

pub is_starved : IsStarved
unfolding asked granted joined both_up given beaten missed answered resumed starved padding block_words sequence after_block after_blocks digest code payload fields text writing text_of opening_of disconnection_of nothing_of item_of items_to_end items_of body_of pdu_read reading created settled deadline alive_until quiet_until state_at header_of pdu_of sending telling limited entered beating giving beginning requesting meeting judging granting joining opens opening ticking sending_item acceptance answer_to_send hearing_bytes receiving age ahead behind still_waiting taking repeated retagged repeating answering missing handing bringing in_turn admitting testing connected asking resting by_state hearing outcome end_after end_later end_restarted called later restarted
is_starved = record {
  item_given = refl;
  not_taken = refl;
  still_up = refl;
  read_then = refl;
  reads_now = refl;
  is_behind = refl;
  would_be_caught_up = refl;
}

names_are : AreNames names
names_are = record { differ = λ e. omega (arith, e); client = omega arith; server = omega arith }

here : (ends : Ends) (n : ℕ) → IsAmong (nth n ends.sent) ends.sent → ends.time ≤ (nth n ends.sent).at + lifetime → IsDelivered ends (nth n ends.sent).bytes (nth n ends.sent).connection (nth n ends.sent)
here ends n among in_time = record { was_sent = among; bytes_same = refl; connection_same = refl; in_time = in_time }

steady : (span : ℕ) → IsWithinDrift (1000 * span) (1000 * span)
steady span = record { least = omega arith; most = omega arith }

may_run : MayRun names (up_to_the_item ++ after_the_item) (started names start)
unfolding asked granted joined both_up given beaten missed answered resumed starved padding block_words sequence after_block after_blocks digest code payload fields text writing text_of opening_of disconnection_of nothing_of item_of items_to_end items_of body_of pdu_read reading created settled deadline alive_until quiet_until state_at header_of pdu_of sending telling limited entered beating giving beginning requesting meeting judging granting joining opens opening ticking sending_item acceptance answer_to_send hearing_bytes receiving age ahead behind still_waiting taking repeated retagged repeating answering missing handing bringing in_turn admitting testing connected asking resting by_state hearing outcome end_after end_later end_restarted called later restarted
may_run = (
  (steady 6000, steady 6000),
  (
    tt,
    (
      inl (nth 0 asked.sent, here asked 0 (inl refl) (omega arith)),
      (
        inl (nth 1 granted.sent, here granted 1 (inr (inl refl)) (omega arith)),
        (
          inl (nth 2 joined.sent, here joined 2 (inr (inr (inl refl))) (omega arith)),
          (
            record { some = omega arith; most = omega arith },
            (
              (steady 1000, steady 1000),
              (
                tt,
                (
                  inl (nth 4 beaten.sent, here beaten 4 (inr (inr (inr (inr (inl refl))))) (omega arith)),
                  (
                    inl (nth 5 missed.sent, here missed 5 (inr (inr (inr (inr (inr (inl refl)))))) (omega arith)),
                    (
                      inl (nth 6 answered.sent, here answered 6 (inr (inr (inr (inr (inr (inr (inl refl))))))) (omega arith)),
                      ((steady 1700, steady 1700), tt),
                    ),
                  ),
                ),
              ),
            ),
          ),
        ),
      ),
    ),
  ),
)

-- the law, at this run
missing_item : KnowsAllBy alive role.Server names start up_to_the_item after_the_item → IsBeginning (item ∷ []) []
unfolding asked granted joined both_up given beaten missed answered resumed starved padding block_words sequence after_block after_blocks digest code payload fields text writing text_of opening_of disconnection_of nothing_of item_of items_to_end items_of body_of pdu_read reading created settled deadline alive_until quiet_until state_at header_of pdu_of sending telling limited entered beating giving beginning requesting meeting judging granting joining opens opening ticking sending_item acceptance answer_to_send hearing_bytes receiving age ahead behind still_waiting taking repeated retagged repeating answering missing handing bringing in_turn admitting testing connected asking resting by_state hearing outcome end_after end_later end_restarted called later restarted
missing_item knows = knows may_run refl (omega arith) (omega arith) 0 refl refl

none_of_it : IsBeginning (item ∷ []) [] → ⊥
none_of_it is = let same : [] ≡ (item ∷ []) ++ is.rest = is.same in cc

pub does_not_count : ((who : Role) (names : Names) (start : Start) (earlier later : List Event) → AreNames names → KnowsAllBy alive who names start earlier later) → ⊥
does_not_count law = none_of_it (missing_item (law role.Server names start up_to_the_item after_the_item names_are))
