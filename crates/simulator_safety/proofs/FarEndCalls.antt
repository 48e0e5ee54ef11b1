-- The calls of an interlocking's client as calls of the client's end of a link.
use Rattle.std.proofs.Common.{◌≡◌, ◌≤◌, ◌+◌, ℕ, Bool, true, false, List, [], ◌∷◌, ◌++◌, length, if◌then◌else◌, arith, refl, ap, sym, ◌∙◌, subst}
use Rattle.std.specs.Int.{w16, to_le_bytes}
use Rattle.std.specs.Prelude.{◌||◌, is_ok}
use Rattle.std.proofs.lemmas.List.{length-append}
use Rattle.simulator_link_laws.specs.sci_telegram.Messages.{payload, protocol_byte, protocol_of, type_number}
use Rattle.simulator_link_laws.specs.sci_telegram.Names.{name_field}
use Rattle.simulator_link_laws.specs.sci_telegram.Telegrams.{IsTelegram, writing}
use Rattle.simulator_link_laws.specs.sci_telegram.declared.message.Initialisation.{Initialisation}
use Rattle.simulator_link_laws.specs.sci_telegram.declared.message.Initialisation.TheVariants.{InitialisationRequest, StartInitialisation, InitialisationCompleted, VersionAnswer, VersionCheck}
use Rattle.simulator_link_laws.specs.sci_telegram.declared.message.Message.{Message}
use Rattle.simulator_link_laws.specs.sci_telegram.declared.message.Message.TheVariants as message
use Rattle.simulator_link_laws.specs.sci_telegram.declared.telegram.Telegram.{Telegram}
use Rattle.simulator_link_laws.specs.rasta_pdu.Items.{IsItem}
use Rattle.simulator_link_laws.specs.rasta_core.Calls.{answer_to_send, opens}
use Rattle.simulator_link_laws.specs.rasta_core.Each.{Each}
use Rattle.simulator_link_laws.specs.rasta_core.Ends as calls
use Rattle.simulator_link_laws.specs.rasta_core.Events.{MayCall}
use Rattle.simulator_link_laws.specs.rasta_core.Names.{Names}
use Rattle.simulator_link_laws.specs.rasta_core.Run.{Ends}
use Rattle.simulator_link_laws.specs.rasta_core.State.{LinkState}
use Rattle.simulator_link_laws.specs.rasta_core.Steps.{all_made, made_by}
use Rattle.simulator_link_laws.specs.rasta_core.identity.Role.TheVariants as role
use Rattle.simulator_link_laws.specs.ixl_client.Client.{PeerState}
use Rattle.simulator_link_laws.specs.ixl_client.Made.{link_after}
use Rattle.simulator_link_laws.specs.ixl_client.ClientSoFar.{LinkCall, Opens, Ticks, Closes, Sends, Receives, call_made, as_call}
use Rattle.simulator_link_laws.specs.ixl_client.Step.{telegram_to}
use Rattle.simulator_link_laws.specs.ixl_spec.Step.{Input, Datagram}
use Rattle.simulator_link_laws.specs.simulator_move_laws.Flows.{begins, given_after, given_by, has_begun, taken_after, taken_by}
use Rattle.simulator_link_laws.specs.simulator_move_laws.Calls as rules
use Rattle.simulator_link_laws.specs.simulator_move_laws.Calls.{Items, items_after, items_by}
use Rattle.simulator_link_laws.specs.simulator_move_laws.Facts.{AreCallsIn}
use Rattle.simulator_link_laws.specs.simulator_move_laws.Telegrams.{item_of}
use Rattle.simulator_safety.specs.At.{HasNames}
use Rattle.simulator_safety.specs.Calls.{as_calls}

made_same : (now connection : ℕ) (call : LinkCall) (link : LinkState) → (made_by now (as_call connection call) link).link ≡ (call_made now call link).link
unfolding made_by
made_same now connection Opens link = refl
made_same now connection Ticks link = refl
made_same now connection (Closes why) link = refl
made_same now connection (Sends item) link = refl
made_same now connection (Receives bytes) link = refl

pub links_same : (now connection : ℕ) (made : List LinkCall) (link : LinkState) → (all_made now (as_calls connection made) link).link ≡ link_after now made link
unfolding all_made link_after
links_same now connection [] link = refl
links_same now connection (call ∷ others) link =
    ap (λ (l : LinkState). (all_made now (as_calls connection others) l).link) (made_same now connection call link)
    ∙ links_same now connection others (call_made now call link).link

-- ---- what it gives and takes

one_given : (now connection : ℕ) (call : LinkCall) (link : LinkState) (items : Items) → given_by now (as_call connection call) link items.given ≡ (items_by now call link items).given
unfolding items_by
one_given now connection Opens link items = by (opens now link) where
  by : (b : Bool) → (if b then [] else items.given) ≡ (if b then record { given = []; taken = [] } else items).given
  by true = refl
  by false = refl
one_given now connection Ticks link items = refl
one_given now connection (Closes why) link items = refl
one_given now connection (Sends item) link items = by (is_ok (answer_to_send now link)) where
  by : (b : Bool) → (if b then items.given ++ item ∷ [] else items.given) ≡ (if b then record items { given = items.given ++ item ∷ [] } else items).given
  by true = refl
  by false = refl
one_given now connection (Receives bytes) link items = refl

one_taken : (now connection : ℕ) (call : LinkCall) (link : LinkState) (items : Items) → taken_by now (as_call connection call) link items.taken ≡ (items_by now call link items).taken
unfolding items_by
one_taken now connection Opens link items = by (opens now link) where
  by : (b : Bool) → (if b then [] else items.taken) ≡ (if b then record { given = []; taken = [] } else items).taken
  by true = refl
  by false = refl
one_taken now connection Ticks link items = refl
one_taken now connection (Closes why) link items = refl
one_taken now connection (Sends item) link items = by (is_ok (answer_to_send now link)) where
  by : (b : Bool) → items.taken ≡ (if b then record items { given = items.given ++ item ∷ [] } else items).taken
  by true = refl
  by false = refl
one_taken now connection (Receives bytes) link items = refl

pub given_same : (now connection : ℕ) (made : List LinkCall) (link : LinkState) (items : Items) →
    given_after now (as_calls connection made) link items.given ≡ (items_after now made link items).given
unfolding given_after items_after
given_same now connection [] link items = refl
given_same now connection (call ∷ others) link items =
    ap (λ (l : LinkState). given_after now (as_calls connection others) l (given_by now (as_call connection call) link items.given)) (made_same now connection call link)
    ∙ ap (given_after now (as_calls connection others) (call_made now call link).link) (one_given now connection call link items)
    ∙ given_same now connection others (call_made now call link).link (items_by now call link items)

pub taken_same : (now connection : ℕ) (made : List LinkCall) (link : LinkState) (items : Items) →
    taken_after now (as_calls connection made) link items.taken ≡ (items_after now made link items).taken
unfolding taken_after items_after
taken_same now connection [] link items = refl
taken_same now connection (call ∷ others) link items =
    ap (λ (l : LinkState). taken_after now (as_calls connection others) l (taken_by now (as_call connection call) link items.taken)) (made_same now connection call link)
    ∙ ap (taken_after now (as_calls connection others) (call_made now call link).link) (one_taken now connection call link items)
    ∙ taken_same now connection others (call_made now call link).link (items_by now call link items)

-- ---- whether it begins a connection

pub begun_same : (now connection : ℕ) (made : List LinkCall) (link : LinkState) → has_begun now (as_calls connection made) link ≡ rules.has_begun now made link
unfolding has_begun rules.has_begun
begun_same now connection [] link = refl
begun_same now connection (call ∷ others) link =
    ap (λ (b : Bool). b || has_begun now (as_calls connection others) (made_by now (as_call connection call) link).link) (one_begins now connection call link)
    ∙ ap (λ (l : LinkState). rules.begins now call link || has_begun now (as_calls connection others) l) (made_same now connection call link)
    ∙ ap (λ (b : Bool). rules.begins now call link || b) (begun_same now connection others (call_made now call link).link)
  where
    one_begins : (now connection : ℕ) (call : LinkCall) (link : LinkState) → begins now (as_call connection call) link ≡ rules.begins now call link
    one_begins now connection Opens link = refl
    one_begins now connection Ticks link = refl
    one_begins now connection (Closes why) link = refl
    one_begins now connection (Sends item) link = refl
    one_begins now connection (Receives bytes) link = refl

-- ---- that it may be made

pub begins_none : (now connection : ℕ) (input : Input) (peer : PeerState) (made : List LinkCall) (link : LinkState) → AreCallsIn input peer made →
    has_begun now (as_calls connection made) link ≡ false
unfolding has_begun
begins_none now connection input peer [] link are = refl
begins_none now connection input peer (Opens ∷ others) link are = absurd are.0
begins_none now connection input peer (Ticks ∷ others) link are = begins_none now connection input peer others _ are.1
begins_none now connection input peer (Closes why ∷ others) link are = begins_none now connection input peer others _ are.1
begins_none now connection input peer (Sends item ∷ others) link are = begins_none now connection input peer others _ are.1
begins_none now connection input peer (Receives bytes ∷ others) link are = begins_none now connection input peer others _ are.1

same_long : (first one other : List ℕ) → length one ≡ length other → length (first ++ one) ≡ length (first ++ other)
same_long first one other same = length-append first one ∙ ap (λ n. length first + n) same ∙ sym (length-append first other)

-- what stands before the payload of an item
abbrev head_of : PeerState → Message → List ℕ
head_of peer told =
    (protocol_byte (protocol_of told) ∷ []) ++ to_le_bytes w16 (type_number told) ++ name_field peer.own_name ++ name_field peer.name

-- of the same length as an item
as_long : (first other : List ℕ) → length other ≡ length first → IsItem first → IsItem other
as_long first other same is = record { some = subst (λ n. 1 ≤ n) (sym same) is.some; most = subst (λ n. n ≤ 61) (sym same) is.most }

module _ (written : (telegram : Telegram) → IsTelegram telegram → IsItem (writing telegram)) where
  -- whatever a client tells is an item: a version is one byte of it
  initial_item : (peer : PeerState) (protocol : _) (told : Initialisation) → HasNames peer → IsItem (item_of peer (message.Initialisation protocol told))
  unfolding writing
  initial_item peer protocol InitialisationRequest named = written (telegram_to peer (message.Initialisation protocol InitialisationRequest)) (record { sender = named.own; receiver = named.controller; message = tt })
  initial_item peer protocol StartInitialisation named = written (telegram_to peer (message.Initialisation protocol StartInitialisation)) (record { sender = named.own; receiver = named.controller; message = tt })
  initial_item peer protocol InitialisationCompleted named = written (telegram_to peer (message.Initialisation protocol InitialisationCompleted)) (record { sender = named.own; receiver = named.controller; message = tt })
  initial_item peer protocol (VersionCheck version) named =
      let zero = message.Initialisation protocol (VersionCheck 0)
      in as_long (item_of peer zero) (item_of peer (message.Initialisation protocol (VersionCheck version)))
      (same_long (head_of peer zero) (payload (message.Initialisation protocol (VersionCheck version))) (payload zero) refl)
      (written (telegram_to peer zero) (record { sender = named.own; receiver = named.controller; message = omega arith }))
  initial_item peer protocol (VersionAnswer agreement version) named =
      let zero = message.Initialisation protocol (VersionAnswer agreement 0)
      in as_long (item_of peer zero) (item_of peer (message.Initialisation protocol (VersionAnswer agreement version)))
      (same_long (head_of peer zero) (payload (message.Initialisation protocol (VersionAnswer agreement version))) (payload zero) refl)
      (written (telegram_to peer zero) (record { sender = named.own; receiver = named.controller; message = omega arith }))

  told_item : (peer : PeerState) (told : Message) → HasNames peer → IsItem (item_of peer told)
  told_item peer (message.Initialisation protocol told) named = initial_item peer protocol told named
  told_item peer (message.Point told) named = written (telegram_to peer (message.Point told)) (record { sender = named.own; receiver = named.controller; message = tt })
  told_item peer (message.Signal told) named = written (telegram_to peer (message.Signal told)) (record { sender = named.own; receiver = named.controller; message = tt })
  told_item peer (message.Detection told) named = written (telegram_to peer (message.Detection told)) (record { sender = named.own; receiver = named.controller; message = tt })

  pub may_each : (names : Names) (input : Input) (peer : PeerState) (connection : ℕ) (ends : Ends) (made : List LinkCall) → HasNames peer →
      ((bytes : List ℕ) → input ≡ Datagram bytes → MayCall names role.Client (calls.Receives bytes connection) ends) → AreCallsIn input peer made →
      Each (λ call. MayCall names role.Client call ends) (as_calls connection made)
  may_each names input peer connection ends [] named comes are = tt
  may_each names input peer connection ends (Opens ∷ others) named comes are = absurd are.0
  may_each names input peer connection ends (Ticks ∷ others) named comes are = (tt, may_each names input peer connection ends others named comes are.1)
  may_each names input peer connection ends (Closes why ∷ others) named comes are = (tt, may_each names input peer connection ends others named comes are.1)
  may_each names input peer connection ends (Sends item ∷ others) named comes are =
      (subst IsItem (sym are.0.1) (told_item peer are.0.0 named), may_each names input peer connection ends others named comes are.1)
  may_each names input peer connection ends (Receives bytes ∷ others) named comes are =
      (comes bytes are.0, may_each names input peer connection ends others named comes are.1)
