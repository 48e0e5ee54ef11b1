-- What the calls of a client's initialisation leave of what its items tell, and what a command adds.
use Rattle.std.proofs.Common.{inl, inr, ◌≡◌, ℕ, List, [], ◌∷◌, ◌++◌, append_assoc, refl, sym, ap, ◌∙◌}
use Rattle.std.specs.Prelude.{◌&&◌, is_ok}
use Rattle.std.proofs.lemmas.List.{append-nil}
use Rattle.ixl_spec.specs.sci_telegram.TelegramRead.{reading}
use Rattle.ixl_spec.specs.sci_telegram.Telegrams.{writing}
use Rattle.ixl_spec.specs.sci_telegram.declared.message.Aspect.{Aspect as TelegramAspect}
use Rattle.ixl_spec.specs.sci_telegram.declared.message.Aspect.TheVariants as aspects
use Rattle.ixl_spec.specs.sci_telegram.declared.message.Initialisation.TheVariants.{InitialisationRequest, VersionCheck}
use Rattle.ixl_spec.specs.sci_telegram.declared.message.Message.{Message}
use Rattle.ixl_spec.specs.sci_telegram.declared.message.Message.TheVariants as message
use Rattle.ixl_spec.specs.rasta_core.Calls.{answer_to_send, receiving}
use Rattle.ixl_spec.specs.rasta_core.Outbox.{OutboxState}
use Rattle.ixl_spec.specs.rasta_core.State.{LinkState, is_open, is_up}
use Rattle.ixl_spec.specs.rasta_core.reason.Reason.TheVariants as reason
use Rattle.ixl_spec.specs.ixl_client.Client.{ClientState, PeerState, is_outside}
use Rattle.ixl_spec.specs.ixl_client.ClientSoFar.{LinkCall, Opens, Ticks, Closes, Sends, Receives, ClientSoFar, begun, call_made, calling}
use Rattle.ixl_spec.specs.ixl_client.Step.{acted_on, acting, acting_all, fallen, hearing, is_refused_by_window, posting, rising, telegram_to}
use Rattle.simulator_move_laws.specs.Items as item
use Rattle.simulator_move_laws.specs.Items.{all_said, aspects_of, moves_of, said_by}
use Rattle.simulator_move_laws.specs.Calls.{Items, items_after, items_by}
use Rattle.simulator_move_laws.specs.Telegrams.{aspect_seen, opening_item}
use Rattle.simulator_move_laws.specs.Totals.{AreInitialCalls, IsInitial, IsInitialCall, IsReadable}
use Rattle.simulator_move_laws.proofs.Interlocking.Courses.{acts}
use Rattle.simulator_move_laws.proofs.Interlocking.Tests.{by_test}

-- ---- what items say

said_then : {A : Type 0} (of : Message → List A) (items others : List (List ℕ)) → all_said of (items ++ others) ≡ all_said of items ++ all_said of others
unfolding all_said
said_then of [] others = refl
said_then of (first ∷ later) others =
    ap (λ said. said_by of (reading first) ++ said) (said_then of later others)
    ∙ sym (append_assoc (said_by of (reading first)) (all_said of later) (all_said of others))

-- one more
pub said_one : {A : Type 0} (of : Message → List A) (items : List (List ℕ)) (one : List ℕ) → all_said of (items ++ one ∷ []) ≡ all_said of items ++ said_by of (reading one)
unfolding all_said
said_one of items one = said_then of items (one ∷ []) ∙ ap (λ said. all_said of items ++ said) (append-nil (said_by of (reading one)))

pub same_aspect : (aspect : TelegramAspect) → item.aspect_seen aspect ≡ aspect_seen aspect
same_aspect aspects.Stop = refl
same_aspect aspects.Proceed = refl
same_aspect aspects.Slow = refl

-- no item of the initialisation says an aspect or a move
pub no_aspects : (peer : PeerState) → IsReadable peer → (one : List ℕ) → IsInitial peer one → said_by aspects_of (reading one) ≡ []
no_aspects peer readable one (inl is) = ap (λ i. said_by aspects_of (reading i)) is ∙ ap (said_by aspects_of) readable.version
no_aspects peer readable one (inr is) = ap (λ i. said_by aspects_of (reading i)) is ∙ ap (said_by aspects_of) readable.request

pub no_moves : (peer : PeerState) → IsReadable peer → (one : List ℕ) → IsInitial peer one → said_by moves_of (reading one) ≡ []
no_moves peer readable one (inl is) = ap (λ i. said_by moves_of (reading i)) is ∙ ap (said_by moves_of) readable.version
no_moves peer readable one (inr is) = ap (λ i. said_by moves_of (reading i)) is ∙ ap (said_by moves_of) readable.request

-- ---- calls that give nothing but the initialisation

call_says : {A : Type 0} (of : Message → List A) (peer : PeerState) (none : (one : List ℕ) → IsInitial peer one → said_by of (reading one) ≡ [])
    (now : ℕ) (call : LinkCall) (link : LinkState) (items : Items) → IsInitialCall peer call → all_said of (items_by now call link items).given ≡ all_said of items.given
unfolding items_by
call_says of peer none now Opens link items is = absurd is
call_says of peer none now Ticks link items is = refl
call_says of peer none now (Closes why) link items is = refl
call_says of peer none now (Sends one) link items is =
    by_test (λ (i : Items). all_said of i.given ≡ all_said of items.given) (is_ok (answer_to_send now link)) (record items { given = items.given ++ one ∷ [] }) items
    (λ e. said_one of items.given one ∙ ap (λ said. all_said of items.given ++ said) (none one is) ∙ append-nil (all_said of items.given)) (λ e. refl)
call_says of peer none now (Receives bytes) link items is = refl

pub calls_say : {A : Type 0} (of : Message → List A) (peer : PeerState) (none : (one : List ℕ) → IsInitial peer one → said_by of (reading one) ≡ [])
    (now : ℕ) (calls : List LinkCall) (link : LinkState) (items : Items) → AreInitialCalls peer calls → all_said of (items_after now calls link items).given ≡ all_said of items.given
unfolding items_after
calls_say of peer none now [] link items are = refl
calls_say of peer none now (first ∷ others) link items are =
    calls_say of peer none now others (call_made now first link).link (items_by now first link items) are.1
    ∙ call_says of peer none now first link items are.0

initial_then : (peer : PeerState) (calls : List LinkCall) (call : LinkCall) → AreInitialCalls peer calls → IsInitialCall peer call → AreInitialCalls peer (calls ++ call ∷ [])
initial_then peer [] call are is = (is, tt)
initial_then peer (first ∷ others) call are is = (are.0, initial_then peer others call are.1 is)

-- ---- a datagram makes such calls

module _ (now : ℕ) (peer : PeerState) where
  abbrev Initial : ClientSoFar → Type 0
  Initial part = AreInitialCalls peer part.calls × (part.client.peer ≡ peer)

  calls_so : (call : LinkCall) (part : ClientSoFar) → IsInitialCall peer call → Initial part → Initial (calling now call part)
  unfolding calling
  calls_so call part is so = (initial_then peer part.calls call so.0 is, so.1)

  posts_so : (told : Message) (part : ClientSoFar) → IsInitial peer (writing (telegram_to part.client.peer told)) → Initial part → Initial (posting now told part)
  unfolding posting
  posts_so told part is so =
      by_test Initial (is_refused_by_window (answer_to_send now part.client.link)) (calling now (Closes reason.Window) sent) sent
      (λ e. calls_so (Closes reason.Window) sent tt sent_so) (λ e. sent_so)
    where
      sent : ClientSoFar
      sent = calling now (Sends (writing (telegram_to part.client.peer told))) part

      sent_so : Initial sent
      sent_so = calls_so (Sends (writing (telegram_to part.client.peer told))) part is so

  rises_so : (part : ClientSoFar) → Initial part → Initial (rising now part)
  unfolding rising
  rises_so part so =
      by_test Initial (is_outside part.client.stage && is_up part.client.link.phase) _ part
      (λ e. posts_so (message.Initialisation part.client.peer.protocol (VersionCheck part.client.peer.version)) part
      (inl (ap (λ (p : PeerState). opening_item p (VersionCheck p.version)) so.1)) so) (λ e. so)

  acts_so : (one : List ℕ) (part : ClientSoFar) → Initial part → Initial (acting now one part)
  acts_so one part so = acts now one part Initial part.client.peer part.client.stage
      (λ at. posts_so (message.Initialisation part.client.peer.protocol InitialisationRequest) (acted_on one part)
      (inr (ap (λ (p : PeerState). opening_item p InitialisationRequest) so.1)) so)
      (λ at. so) (λ told within turn. so) (λ at. so) (λ why. calls_so (Closes why) part tt so) refl refl

  all_so : (list : List (List ℕ)) (part : ClientSoFar) → Initial part → Initial (acting_all now list part)
  unfolding acting_all
  all_so [] part so = so
  all_so (one ∷ others) part so =
      by_test Initial (is_open part.client.link.phase) (acting_all now others (acting now one part)) part
      (λ e. all_so others (acting now one part) (acts_so one part so)) (λ e. so)

  fallen_so : (client : ClientState) → (fallen client).peer ≡ client.peer
  unfolding fallen
  fallen_so client = by_test (λ (c : ClientState). c.peer ≡ client.peer) (is_up client.link.phase) client _ (λ e. refl) (λ e. refl)

  hears_so : (bytes : List ℕ) (part : ClientSoFar) → Initial part → Initial (hearing now bytes part)
  unfolding hearing
  hears_so bytes part so =
      let acted = all_so (receiving now bytes part.client.link).items (rising now (calling now (Receives bytes) part))
      (rises_so (calling now (Receives bytes) part) (calls_so (Receives bytes) part tt so))
      in (acted.0, fallen_so (acting_all now (receiving now bytes part.client.link).items (rising now (calling now (Receives bytes) part))).client ∙ acted.1)

pub datagram_calls : (now : ℕ) (bytes : List ℕ) (client : ClientState) (outbox : OutboxState) → AreInitialCalls client.peer (hearing now bytes (begun client outbox)).calls
datagram_calls now bytes client outbox = (hears_so now client.peer bytes (begun client outbox) (tt, refl)).0
