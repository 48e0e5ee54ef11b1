-- A connection opens and an item is taken: the laws don't speak of nothing.
use Rattle.std.proofs.Common.{◌≡◌, ℕ, zero, suc, ◌+◌, ◌≤◌, inl, inr, arith, true, List, [], ◌∷◌, length, refl}
use Rattle.md4.specs.Md4.{padding, block_words, sequence, after_block, after_blocks, digest}
use Rattle.rasta_core_spec.specs.SafetyCode.{code}
use Rattle.rasta_core_spec.specs.Spelling.{payload, fields, text, writing}
use Rattle.rasta_core_spec.specs.PduRead.{text_of, opening_of, disconnection_of, nothing_of, item_of, items_to_end, items_of, body_of, pdu_of as pdu_read, reading}
use Rattle.rasta_core_spec.specs.Calls.{created, opens, opening, ticking, sending_item, acceptance, answer_to_send, hearing_bytes, receiving}
use Rattle.rasta_core_spec.specs.Clock.{settled, deadline, quiet_until, state_at}
use Rattle.rasta_core_spec.specs.PdusHandedOut.{header_of, pdu_of, sending, telling, limited, entered, beating, giving}
use Rattle.rasta_core_spec.specs.Establishment.{beginning, requesting, meeting, judging, granting, joining}
use Rattle.rasta_core_spec.specs.Receipt.{age, ahead, behind, still_waiting, taking, missing, handing, bringing, in_turn, admitting, testing, connected, asking, resting, by_state, hearing}
use Rattle.rasta_core_spec.specs.identity.Role.{Role}
use Rattle.rasta_core_spec.specs.identity.Role.TheVariants as role
use Rattle.rasta_core_spec.specs.Bag.{lifetime}
use Rattle.rasta_core_spec.specs.Ends.{Sent, Opens, Sends, Receives, outcome, end_after, end_later, end_restarted}
use Rattle.rasta_core_spec.specs.Run.{Ends, called, later, restarted}
use Rattle.rasta_core_spec.specs.verdict.Verdict.TheVariants as verdict
use Rattle.rasta_core_spec.specs.Names.{Names, AreNames}
use Rattle.rasta_core_spec.specs.Sentences.{receipt_at}
use Rattle.rasta_core_spec.specs.Events.{Event, Calls, Passes, Restarts, happened, run, started, Start, IsAmong, IsDelivered, MayRun}

abbrev pub names : Names
names = record { key = record { 0 = 0x01234567 ∷ 0x89abcdef ∷ 0xfedcba98 ∷ 0x76543210 ∷ [] }; client = 1; server = 2 }

abbrev pub start : Start
start = record { time = 0; moment = 0; client_clock = 0; client_first = 7; server_clock = 0; server_first = 9 }

abbrev pub nth : ℕ → List Sent → Sent
nth n [] = record { bytes = []; at = 0; sender = role.Client; connection = 0; is_lost = true }
nth zero (first ∷ others) = first
nth (suc n) (first ∷ others) = nth n others

-- the datagram of this place comes to an end
abbrev pub comes : Role → ℕ → Ends → Event
comes who n ends = Calls who (Receives (nth n ends.sent).bytes (nth n ends.sent).connection)

abbrev pub item : List ℕ
item = 1 ∷ 2 ∷ 3 ∷ []

-- after 6 seconds the client asks, the server grants, the client joins, and its heartbeat makes the server up
unfoldable pub asked : Ends
asked = run (Passes 6000000 6000000 6000000 ∷ Calls role.Client Opens ∷ []) (started names start)

unfoldable pub granted : Ends
granted = happened (comes role.Server 0 asked) asked

unfoldable pub joined : Ends
joined = happened (comes role.Client 1 granted) granted

unfoldable pub both_up : Ends
both_up = happened (comes role.Server 2 joined) joined

-- the client sends an item, and the server takes it
unfoldable pub given : Ends
given = happened (Calls role.Client (Sends item)) both_up

unfoldable pub taken : Ends
taken = happened (comes role.Server 3 given) given

-- the server is made anew with the clock and the sequence number that it once had
unfoldable pub anew : Ends
anew = happened (Restarts role.Server 0 9) taken

granted_two : length granted.sent ≡ 2
unfolding asked granted padding block_words sequence after_block after_blocks digest code payload fields text writing text_of opening_of disconnection_of nothing_of item_of items_to_end items_of body_of pdu_read reading created settled deadline quiet_until state_at header_of pdu_of sending telling limited entered beating giving beginning requesting meeting judging granting joining opens opening ticking sending_item acceptance answer_to_send hearing_bytes receiving age ahead behind still_waiting taking missing handing bringing in_turn admitting testing connected asking resting by_state hearing outcome end_after end_later end_restarted called later restarted
granted_two = refl

pub taken_once : taken.server.taken ≡ item ∷ []
unfolding asked granted joined both_up given taken padding block_words sequence after_block after_blocks digest code payload fields text writing text_of opening_of disconnection_of nothing_of item_of items_to_end items_of body_of pdu_read reading created settled deadline quiet_until state_at header_of pdu_of sending telling limited entered beating giving beginning requesting meeting judging granting joining opens opening ticking sending_item acceptance answer_to_send hearing_bytes receiving age ahead behind still_waiting taking missing handing bringing in_turn admitting testing connected asking resting by_state hearing outcome end_after end_later end_restarted called later restarted
taken_once = refl

pub nothing_again : ((receipt_at role.Server (nth 0 taken.sent).bytes anew).verdict ≡ verdict.Quiet)
    × ((receipt_at role.Server (nth 2 taken.sent).bytes anew).verdict ≡ verdict.Quiet)
    × ((receipt_at role.Server (nth 3 taken.sent).bytes anew).verdict ≡ verdict.Quiet)
unfolding asked granted joined both_up given taken anew padding block_words sequence after_block after_blocks digest code payload fields text writing text_of opening_of disconnection_of nothing_of item_of items_to_end items_of body_of pdu_read reading created settled deadline quiet_until state_at header_of pdu_of sending telling limited entered beating giving beginning requesting meeting judging granting joining opens opening ticking sending_item acceptance answer_to_send hearing_bytes receiving age ahead behind still_waiting taking missing handing bringing in_turn admitting testing connected asking resting by_state hearing outcome end_after end_later end_restarted called later restarted
nothing_again = (refl, refl, refl)

-- the whole run, and that it may happen
abbrev pub scenario : List Event
scenario = Passes 6000000 6000000 6000000 ∷ Calls role.Client Opens ∷ comes role.Server 0 asked ∷ comes role.Client 1 granted ∷ comes role.Server 2 joined
    ∷ Calls role.Client (Sends item) ∷ comes role.Server 3 given ∷ []

here : (ends : Ends) (n : ℕ) → IsAmong (nth n ends.sent) ends.sent → ends.time ≤ (nth n ends.sent).at + lifetime → IsDelivered ends (nth n ends.sent).bytes (nth n ends.sent).connection (nth n ends.sent)
here ends n among in_time = record { was_sent = among; bytes_same = refl; connection_same = refl; in_time = in_time }

scenario_may : MayRun names scenario (started names start)
unfolding asked granted joined both_up given taken padding block_words sequence after_block after_blocks digest code payload fields text writing text_of opening_of disconnection_of nothing_of item_of items_to_end items_of body_of pdu_read reading created settled deadline quiet_until state_at header_of pdu_of sending telling limited entered beating giving beginning requesting meeting judging granting joining opens opening ticking sending_item acceptance answer_to_send hearing_bytes receiving age ahead behind still_waiting taking missing handing bringing in_turn admitting testing connected asking resting by_state hearing outcome end_after end_later end_restarted called later restarted
scenario_may = (
  (record { least = omega arith; most = omega arith }, record { least = omega arith; most = omega arith }),
  (
    tt,
    (
      inl (nth 0 asked.sent, here asked 0 (inl refl) (omega arith)),
      (
        inl (nth 1 granted.sent, here granted 1 (inr (inl refl)) (omega arith)),
        (
          inl (nth 2 joined.sent, here joined 2 (inr (inr (inl refl))) (omega arith)),
          (
            record { some = omega arith; most = omega arith },
            (
              inl (nth 3 given.sent, here given 3 (inr (inr (inr (inl refl)))) (omega arith)),
              tt,
            ),
          ),
        ),
      ),
    ),
  ),
)

names_are : AreNames names
names_are = record { differ = λ e. omega (arith, e); client = omega arith; server = omega arith }

pub some_run : (names : Names) × (start : Start) × (events : List Event) × AreNames names × MayRun names events (started names start) × ((run events (started names start)).server.taken ≡ (1 ∷ 2 ∷ 3 ∷ []) ∷ [])
unfolding asked granted joined both_up given taken padding block_words sequence after_block after_blocks digest code payload fields text writing text_of opening_of disconnection_of nothing_of item_of items_to_end items_of body_of pdu_read reading created settled deadline quiet_until state_at header_of pdu_of sending telling limited entered beating giving beginning requesting meeting judging granting joining opens opening ticking sending_item acceptance answer_to_send hearing_bytes receiving age ahead behind still_waiting taking missing handing bringing in_turn admitting testing connected asking resting by_state hearing outcome end_after end_later end_restarted called later restarted
some_run = (names, start, scenario, names_are, scenario_may, refl)
