-- What a call does at an end, as far as time goes.
use Rattle.std.proofs.Common.{◌≡◌, ℕ, inl, inr, ◌-◌, ◌^◌, ◌<◌, Bool, true, false, ◌&&◌, List, [], ◌∷◌, ◌++◌, Result, Ok, Err, length, nat_le, nat_lt, is_ok, if◌then◌else◌, refl, sym, ap, subst, arith}
use Rattle.rasta_core_spec.specs.Parameters.{heartbeat_interval}
use Rattle.rasta_core_spec.specs.Sequence.{stamp}
use Rattle.rasta_core_spec.specs.State.{LinkState, is_open, is_up, is_client}
use Rattle.rasta_core_spec.specs.Clock.{state_at}
use Rattle.rasta_core_spec.specs.PdusHandedOut.{Step, silent, then_do, sending, telling, closing, beating, giving, entered, header_of, pdu_of}
use Rattle.rasta_core_spec.specs.Establishment.{own_opening, is_down, may_open, beginning, requesting}
use Rattle.rasta_core_spec.specs.Calls.{opens, opening, ticking, closing_by, acceptance, sending_item}
use Rattle.rasta_core_spec.specs.phase.State.{State}
use Rattle.rasta_core_spec.specs.phase.State.TheVariants as state
use Rattle.rasta_core_spec.specs.fault.SendFault.{SendFault}
use Rattle.rasta_core_spec.specs.fault.SendFault.TheVariants as fault
use Rattle.rasta_core_spec.specs.reason.Reason.{Reason}
use Rattle.rasta_core_spec.specs.reason.Reason.TheVariants as reason
use Rattle.rasta_core_spec.specs.identity.Identity.{Identity}
use Rattle.rasta_core_spec.specs.identity.Role.{Role}
use Rattle.rasta_core_spec.specs.identity.Role.TheVariants as role
use Rattle.rasta_core_spec.specs.pdu.Pdu.{Pdu}
use Rattle.rasta_core_spec.specs.body.Body.TheVariants.{Heartbeat}
use Rattle.rasta_core_spec.specs.Values.{IsPdu, IsOpening}
use Rattle.rasta_core_spec.specs.Items.{IsItem}
use Rattle.rasta_core.specs.TimedEnds.{Standing, Inside, IsInside, own_stamp, standing}
use Rattle.rasta_core.specs.Timely.{IsAnswering}
use Rattle.rasta_core_spec.specs.Sentences.{IsRequest}
use Rattle.rasta_core.proofs.Phases.{up_open, up_heard}
use Rattle.rasta_core.specs.Invariant.{IsSound}
use Rattle.rasta_core.proofs.Sounds.{standing_closed, inside_open}
use Rattle.rasta_core.proofs.InsidePdus.{Acts, IsKept, Speaks, IsSpeaker, sending_speaks, telling_speaks, closing_speaks, giving_speaks}
use Rattle.rasta_core.proofs.States.{IsReady, IsDownAt, and_first, and_second, and_false, entering, tells, Tells, calm}
use Rattle.rasta_core.proofs.TakenDatagram.{IsFresh, returned_by}

-- a request
pub record IsAsked (identity : Identity) (now : ℕ) (pdu : Pdu) : Type 0 where
  pub stamped : pdu.time_stamp ≡ stamp now
  pub request : IsRequest pdu.body
  pub answers : IsAnswering role.Client pdu.body → ⊥
  pub is_pdu : IsPdu pdu
  pub receiver : pdu.receiver ≡ identity.partner
  pub sender : pdu.sender ≡ identity.own

-- a PDU for an end, and from its partner
pub record IsFor (identity : Identity) (pdu : Pdu) : Type 0 where
  pub receiver : pdu.receiver ≡ identity.own
  pub sender : pdu.sender ≡ identity.partner

-- What a call is given to hear: nothing, bytes that can't be read, or a PDU.
pub data Heard : Type 0 where
  Own : Heard
  Noise : Heard
  Word : Pdu → Heard

-- What a call does to where an end stands; the Bool says whether it enters a connection. Of a datagram it may take the PDU.
pub data Deed (identity : Identity) (now : ℕ) (heard : Heard) (old new : Standing) (enters : Bool) (items : List (List ℕ)) (pdus : List Pdu) : Type 0 where
  -- nothing
  rests : new ≡ old → pdus ≡ [] → enters ≡ false → items ≡ [] → Deed identity now heard old new enters items pdus
  -- an end inside speaks, and may leave
  speaks : IsInside old → Acts identity now old new pdus → enters ≡ false → items ≡ [] → Deed identity now heard old new enters items pdus
  -- a client asks for a connection
  asks : (pdu : Pdu) → heard ≡ Own → identity.role ≡ role.Client → IsDownAt now old → new ≡ Inside true now 0 → pdus ≡ pdu ∷ [] → IsAsked identity now pdu
      → enters ≡ true → items ≡ [] → Deed identity now heard old new enters items pdus
  -- a server takes a request
  grants : (pdu : Pdu) → heard ≡ Word pdu → identity.role ≡ role.Server → IsFor identity pdu → IsDownAt now old → IsRequest pdu.body
      → Acts identity now (Inside false now pdu.time_stamp) new pdus → enters ≡ true → items ≡ [] → Deed identity now heard old new enters items pdus
  -- a client takes the response
  joins : (pdu : Pdu) → heard ≡ Word pdu → identity.role ≡ role.Client → IsFor identity pdu → IsInside old
      → Acts identity now (Inside false (own_stamp old) pdu.time_stamp) new pdus → enters ≡ false → items ≡ [] → Deed identity now heard old new enters items pdus
  -- an end inside takes a PDU
  takes : (pdu : Pdu) → heard ≡ Word pdu → IsFor identity pdu → IsInside old → IsFresh now (own_stamp old) pdu → IsAnswering role.Client pdu.body
      → Acts identity now (Inside false (returned_by now pdu) pdu.time_stamp) new pdus → enters ≡ false → Deed identity now heard old new enters items pdus

pub record Does (link : LinkState) (heard : Heard) (enters : Bool) (items : List (List ℕ)) (new : LinkState) (pdus : List Pdu) : Type 0 where
  pub kept : IsKept link new
  pub deed : Deed link.identity link.clock heard (standing link) (standing new) enters items pdus

abbrev pub Steps : LinkState → Bool → Step → Type 0
Steps link enters step = Does link Own enters [] step.link step.pdus

pub kept_same : (l : LinkState) → IsSound l → IsKept l l
kept_same l sound = record { identity = refl; clock = refl; sound = sound }

pub resting : (l : LinkState) (heard : Heard) (enters : Bool) → IsSound l → enters ≡ false → Does l heard enters [] l []
resting l heard enters sound e = record { kept = kept_same l sound; deed = rests refl refl e refl }

pub speaking : (l : LinkState) (heard : Heard) (enters : Bool) (step : Step) → IsSpeaker l → enters ≡ false → Speaks l step → Does l heard enters [] step.link step.pdus
speaking l heard enters step is e says = record { kept = says.kept; deed = speaks (inside_open l is.is_in) says.acts e refl }

pub speaker : (l : LinkState) → IsReady l → is_open l.phase ≡ true → IsSpeaker l
speaker l ready o = record { sound = ready.sound; is_in = o }

-- a call that does nothing at a closed link
abbrev pub IsIdle : (LinkState → Step) → LinkState → Type 0
IsIdle call link = is_open link.phase ≡ false → state_at link.clock link ≡ state.Quiet → call link ≡ silent link

-- a call of a ready link, after the clock rules and the limit
pub calling : (l : LinkState) (call : LinkState → Step) → IsReady l → Steps l false (call l) → IsIdle call (telling reason.Sequence l).link
    → Steps l false (then_do (entered l.clock l) call)
unfolding telling sending
calling l call ready does idle = elim (entering l ready) [
  | inl same ↦ subst (λ (s : Step). Steps l false (then_do s call)) (sym same) does
  | inr over ↦ subst (λ (s : Step). Steps l false (then_do s call)) (sym over.1)
      (subst (λ (s : Step). Steps l false (record { link = s.link; pdus = (telling reason.Sequence l).pdus ++ s.pdus })) (sym (idle refl (calm _ refl refl)))
      (speaking l Own false (telling reason.Sequence l) (speaker l ready over.0) refl (telling_speaks l reason.Sequence (speaker l ready over.0))))
]

-- ---- a tick

pub ticking_does : (l : LinkState) → IsReady l → Steps l false (ticking l.clock l)
unfolding ticking beating telling sending
ticking_does l ready = calling l beating ready (says (is_up l.phase && nat_le heartbeat_interval (l.clock - l.sent_at)) refl) (λ shut quiet. refl)
  where
    says : (b : Bool) → (is_up l.phase && nat_le heartbeat_interval (l.clock - l.sent_at)) ≡ b → Steps l false (if b then sending Heartbeat l else silent l)
    says false e = resting l Own false ready.sound refl
    says true e =
        let up : is_up l.phase ≡ true = and_first (is_up l.phase) (nat_le heartbeat_interval (l.clock - l.sent_at)) e in
        let is : IsSpeaker l = speaker l ready (up_open l up) in
        speaking l Own false (sending Heartbeat l) is refl (sending_speaks l Heartbeat is tt (λ r. absurd r) (λ a. up_heard l up))

-- ---- a close

pub closing_does : (l : LinkState) (why : Reason) → IsReady l → Steps l false (closing_by l.clock why l)
unfolding closing_by telling sending
closing_does l why ready = calling l (λ x. if is_open x.phase then closing why x else silent x) ready (says (is_open l.phase) refl) (λ shut quiet. refl)
  where
    says : (b : Bool) → is_open l.phase ≡ b → Steps l false (if b then closing why l else silent l)
    says false e = resting l Own false ready.sound refl
    says true e = speaking l Own false (closing why l) (speaker l ready e) refl (closing_speaks l why (speaker l ready e))

-- ---- an item

abbrev answered : Bool → Bool → Result Unit SendFault
answered up room = if up then (if room then Ok tt else Err fault.WindowFull) else Err fault.NotUp

pub sending_does : (l : LinkState) (item : List ℕ) → IsReady l → IsItem item → Steps l false (sending_item l.clock item l)
unfolding sending_item telling sending acceptance
sending_does l item ready is_item = calling l (λ x. if is_ok (acceptance x) then giving item x else silent x) ready (says (is_up l.phase) (nat_lt (length l.waiting) 20) refl) (λ shut quiet. refl)
  where
    says : (b c : Bool) → is_up l.phase ≡ b → Steps l false (if is_ok (answered b c) then giving item l else silent l)
    says false c e = resting l Own false ready.sound refl
    says true false e = resting l Own false ready.sound refl
    says true true e =
        let is : IsSpeaker l = speaker l ready (up_open l e) in
        speaking l Own false (giving item l) is refl (giving_speaks l item is (up_heard l e) is_item)

-- ---- an opening

is_the_client : (r : Role) → is_client r ≡ true → r ≡ role.Client
is_the_client role.Client e = refl
is_the_client role.Server e = cc

down_is : (s : State) → is_down s ≡ true → s ≡ state.Down
down_is s e = grind arith

down : (l : LinkState) → IsReady l → is_down (state_at l.clock l) ≡ true → IsDownAt l.clock (standing l)
down l ready e =
    let told = subst (Tells l) (down_is _ e) (tells l ready) in
    subst (IsDownAt l.clock) (sym (standing_closed l told.0)) told.1

pub own_is_opening : IsOpening own_opening
own_is_opening = record { version = refl; window = omega arith; reserved = refl }

requesting_does : (l : LinkState) → IsReady l → may_open l ≡ true → Steps l true (requesting l)
unfolding requesting beginning sending header_of pdu_of
requesting_does l ready may = record {
  kept = record { identity = refl; clock = refl; sound = record { own = ready.sound.own; partner = ready.sound.partner; heard = omega arith; items = tt } };
  deed = asks _ refl (is_the_client _ client) is_down_at (ap (λ (b : Bool). Inside b l.clock 0) client) refl
      (record {
        stamped = refl;
        request = tt;
        answers = λ a. a;
        is_pdu = record {
          receiver = ready.sound.partner;
          sender = ready.sound.own;
          sequence_number = omega arith;
          confirmed_sequence_number = zero_small (is_client l.identity.role) _ client;
          time_stamp = omega arith;
          confirmed_time_stamp = zero_small (is_client l.identity.role) _ client;
          body = own_is_opening;
        };
        receiver = refl;
        sender = refl;
      }) refl refl;
}
  where
    client : is_client l.identity.role ≡ true
    client = and_first (is_client l.identity.role) (is_down (state_at l.clock l)) may

    is_down_at : IsDownAt l.clock (standing l)
    is_down_at = down l ready (and_second (is_client l.identity.role) (is_down (state_at l.clock l)) may)

    zero_small : (b : Bool) (x : ℕ) → b ≡ true → (if b then 0 else x) < 2 ^ 32
    zero_small true x e = omega arith
    zero_small false x e = cc

pub opening_does : (l : LinkState) → IsReady l → Steps l (opens l.clock l) (opening l.clock l)
unfolding opens opening telling sending
opening_does l ready = elim (entering l ready) [
  | inl same ↦ subst (λ (s : Step). Steps l (may_open s.link) (then_do s asked)) (sym same) (says (may_open l) refl)
  | inr over ↦ subst (λ (s : Step). Steps l (may_open s.link) (then_do s asked)) (sym over.1) (idles over.0)
]
  where
    asked : LinkState → Step
    asked x = if may_open x then requesting x else silent x

    says : (b : Bool) → may_open l ≡ b → Steps l b (if b then requesting l else silent l)
    says true e = requesting_does l ready e
    says false e = resting l Own false ready.sound refl

    told : LinkState
    told = (telling reason.Sequence l).link

    idles : is_open l.phase ≡ true → Steps l (may_open told) (then_do (telling reason.Sequence l) asked)
    idles o =
        let quiet : state_at told.clock told ≡ state.Quiet = calm told refl refl in
        let no : may_open told ≡ false = and_false (is_client l.identity.role) (is_down (state_at told.clock told)) (ap is_down quiet) in
        subst (λ (b : Bool). Steps l b (then_do (telling reason.Sequence l) (λ x. if b then requesting x else silent x))) (sym no) ended
      where
        ended : Steps l false (then_do (telling reason.Sequence l) silent)
        ended = speaking l Own false (telling reason.Sequence l) (speaker l ready o) refl (telling_speaks l reason.Sequence (speaker l ready o))
