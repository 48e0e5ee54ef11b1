-- An end looks: what it and the two ends of the link are when it has heard its partner.
use Rattle.std.proofs.Common.{◌≡◌, ◌∙◌, ◌++◌, ℕ, Bool, true, false, inl, inr, List, [], ap, map, refl, subst, sym}
use Rattle.std.specs.Prelude.{◌⊎◌}
use Rattle.std.proofs.lemmas.Bool.{false≢true}
use Rattle.std.proofs.lemmas.List.{append-nil}
use Rattle.line_host.specs.Host.{role_of}
use Rattle.line_host.specs.Talk.{TalkSoFar, TalkState}
use Rattle.line_laws.specs.declared.words.Item.{Item}
use Rattle.line_laws.specs.declared.words.Side.{Side}
use Rattle.line_laws.specs.declared.words.Side.TheVariants.{First, Second}
use Rattle.line_telegram.specs.LineMessages.{writing}
use Rattle.line_telegram.specs.declared.greeting.Stage.TheVariants.{Outside}
use Rattle.line_telegram.specs.declared.message.LineMessage.{LineMessage}
use Rattle.line_world.specs.Names.{AreLineNames, link_names, named, other}
use Rattle.line_world.specs.declared.names.LineNames.{LineNames}
use Rattle.line_world.specs.inside.Laws.{Laws}
use Rattle.rasta_core.specs.Ends.{Sent, reading_of}
use Rattle.rasta_core.specs.Events.{IsAmong}
use Rattle.rasta_core.specs.Run.{Ends}
use Rattle.rasta_core.specs.State.{LinkState, is_open, is_up}
use Rattle.sci_telegram.specs.Names.{IsName}
use Rattle.line_world.proofs.Below.{acting_all, hearing_datagram, meeting, receives, receiving}
use Rattle.line_world.proofs.Acts.{HasActed, acted, acted_by}
use Rattle.line_world.proofs.AtEnds.{AreSentNow, HasMade, has_made}
use Rattle.line_world.proofs.Hears.{up_is_open}
use Rattle.line_world.proofs.Makes.{AreNamed, Makes}
use Rattle.line_world.proofs.Nodes.{items_append, items_of}
use Rattle.line_world.proofs.Received.{Arrives, HasEntered, HasReceived, HasStayed, come, has_received, hearing_more, other_twice, received_link, sent_in, up_is_same}
use Rattle.line_world.proofs.Receipts.{Leads, closes, comes_up, keeps}
use Rattle.line_world.proofs.Stages.{HasMet, IsStaged, IsStill, IsToMeet, met}
use Rattle.line_world.proofs.Talked.{AreLinked, AreSame, Follows, IsAtStage, IsSaid, Talked, far_end, far_is, linked_on, near_end, nothing_said, same_after, saying_more, writer}

name_is : (names : LineNames) → AreLineNames names → (side : Side) → IsName (named side names).name
name_is names are First = are.first
name_is names are Second = are.second

-- ---- a talk at its end of the link

pub record IsAt (names : LineNames) (side : Side) (now : ℕ) (ends : Ends) (talk : TalkState) (own far : Talked) : Type 0 where
  pub linked : AreLinked names side ends own far
  pub now_is : reading_of (near_end side ends).clock ≡ now
  pub link : talk.link ≡ (near_end side ends).link
  pub own_name : talk.own_name ≡ (named side names).name
  pub peer_name : talk.peer_name ≡ (named (other side) names).name
  pub sent : AreSentNow ends talk.outbox.datagrams

pub named_so : {names : LineNames} {side : Side} {now : ℕ} {ends : Ends} {talk : TalkState} {own far : Talked} → AreLineNames names → IsAt names side now ends talk own far → AreNamed talk
named_so {names} {side} are at =
    record { own = subst IsName (sym at.own_name) (name_is names are side); peer = subst IsName (sym at.peer_name) (name_is names are (other side)) }

-- the other end and true time stay, and so does the clock of this one
pub record OnTheSide (side : Side) (old new : Ends) : Type 0 where
  pub clock : (near_end side new).clock ≡ (near_end side old).clock
  pub time : new.time ≡ old.time
  pub far_same : far_end side new ≡ far_end side old
  pub among : (datagram : Sent) → IsAmong datagram old.sent → IsAmong datagram new.sent

pub on_twice : {side : Side} {old mid new : Ends} → OnTheSide side old mid → OnTheSide side mid new → OnTheSide side old new
on_twice first second = record {
  clock = second.clock ∙ first.clock;
  time = second.time ∙ first.time;
  far_same = second.far_same ∙ first.far_same;
  among = λ datagram was. second.among datagram (first.among datagram was);
}

pub on_none : {side : Side} {ends : Ends} → OnTheSide side ends ends
on_none = record { clock = refl; time = refl; far_same = refl; among = λ datagram was. was }

-- own calls have been made
pub record MadeOn (names : LineNames) (side : Side) (now : ℕ) (old : Ends) (next : TalkState) (own far : Talked) : Type 0 where
  pub ends : Ends
  pub at : IsAt names side now ends next own far
  pub on : OnTheSide side old ends
  pub connection : (near_end side ends).connection ≡ (near_end side old).connection

pub by_made : (names : LineNames) (side : Side) (now : ℕ) (old new : Ends) (talk next : TalkState) (own far : Talked) (said : List LineMessage) → IsAt names side now old talk own far
    → HasMade (link_names names) (role_of side) old new talk next said → next.own_name ≡ talk.own_name → next.peer_name ≡ talk.peer_name → IsSaid side (own.said ++ said)
    → MadeOn names side now old next (saying_more said own) far
by_made names side now old new talk next own far said at made own_name peer_name shape = record {
  ends = new;
  at = record {
    linked = linked_on names side old new own far talk next said at.linked made at.own_name at.peer_name shape;
    now_is = ap reading_of made.clock ∙ at.now_is;
    link = made.link;
    own_name = own_name ∙ at.own_name;
    peer_name = peer_name ∙ at.peer_name;
    sent = made.sent at.sent;
  };
  on = record { clock = made.clock; time = made.time; far_same = sym (far_is side new) ∙ (made.partner ∙ far_is side old); among = made.among };
  connection = made.connection;
}

pub made_on : Laws → (names : LineNames) (side : Side) (now : ℕ) (old : Ends) (talk next : TalkState) (own far : Talked) (said : List LineMessage) → AreLineNames names
    → IsAt names side now old talk own far → Makes now talk next said → IsSaid side (own.said ++ said) → MadeOn names side now old next (saying_more said own) far
made_on laws names side now old talk next own far said are at makes shape =
    let here : Makes (reading_of (near_end side old).clock) talk next said = subst (λ (n : ℕ). Makes n talk next said) (sym at.now_is) makes
    in by_made names side now old _ talk next own far said at (has_made laws (link_names names) (role_of side) old talk next said are.link at.linked.are at.link here)
    here.own_name here.peer_name shape

-- ---- what was heard

-- it is in the connection that it was in, or in none as before
pub record StaysThere (side : Side) (old new : Ends) (own then : Talked) (before : List LineMessage) : Type 0 where
  pub connection : (near_end side new).connection ≡ (near_end side old).connection
  pub before_is : before ≡ own.heard
  pub said : items_of then.said ≡ items_of own.said
  pub shut : is_open (near_end side old).link.phase ≡ false → is_open (near_end side new).link.phase ≡ false

-- it has entered the client's last connection
pub record EntersThere (side : Side) (old new : Ends) (far then : Talked) (before messages : List LineMessage) : Type 0 where
  pub second : side ≡ Second
  pub out : is_open (near_end side old).link.phase ≡ false
  pub before_is : before ≡ []
  pub no_messages : messages ≡ []
  pub said : items_of then.said ≡ []
  pub apart : AreSame old → ⊥
  pub same : AreSame new
  pub silent : far.said ≡ []

pub record HasHeard (names : LineNames) (side : Side) (now : ℕ) (old : Ends) (own far : Talked) (next : TalkState) (items : List Item) : Type 0 where
  pub ends : Ends
  pub then : Talked
  pub before : List LineMessage
  pub messages : List LineMessage
  pub at : IsAt names side now ends next then far
  pub staged : IsStaged side next then
  pub heard : then.heard ≡ before ++ messages
  pub told : is_open next.link.phase ≡ true → items_of messages ≡ items
  pub on : OnTheSide side old ends
  pub entry : EntersThere side old ends far then before messages ⊎ StaysThere side old ends own then before

stays_shut : {now : ℕ} {talk next : TalkState} {said : List LineMessage} → Makes now talk next said → is_open talk.link.phase ≡ false → is_open next.link.phase ≡ false
stays_shut {now} {talk} {next} makes shut = by_open (is_open next.link.phase) refl
  where
    by_open : (b : Bool) → is_open next.link.phase ≡ b → is_open next.link.phase ≡ false
    by_open true opened = absurd (false≢true (sym shut ∙ (sym (ap is_open (makes.stays opened)) ∙ opened)))
    by_open false is = is

no_more_items : (said more : List LineMessage) → items_of more ≡ [] → items_of (said ++ more) ≡ items_of said
no_more_items said more none = items_append said more ∙ (ap (λ (list : List Item). items_of said ++ list) none ∙ append-nil (items_of said))

-- a talk that has met its link is at the same end
still_at : {names : LineNames} {side : Side} {now : ℕ} {ends : Ends} {talk next : TalkState} {own far : Talked} → IsAt names side now ends talk own far → IsStill side talk next own
    → IsAt names side now ends next own far
still_at {ends = ends} at is = record {
  linked = at.linked;
  now_is = at.now_is;
  link = is.link ∙ at.link;
  own_name = is.own_name ∙ at.own_name;
  peer_name = is.peer_name ∙ at.peer_name;
  sent = subst (λ (o : _). AreSentNow ends o.datagrams) (sym is.outbox) at.sent;
}

-- Nothing has come.
pub heard_none : (names : LineNames) (side : Side) (now : ℕ) (old : Ends) (talk next : TalkState) (own far : Talked) → IsAt names side now old talk own far → IsStill side talk next own
    → HasHeard names side now old own far next []
heard_none names side now old talk next own far at is = record {
  ends = old;
  then = own;
  before = own.heard;
  messages = [];
  at = still_at at is;
  staged = is.staged;
  heard = sym (append-nil own.heard);
  told = λ opened. refl;
  on = on_none;
  entry = inr (record { connection = refl; before_is = refl; said = refl; shut = λ shut. shut });
}

-- ---- by a datagram

received_keeps : (now : ℕ) (bytes : List ℕ) (talk : TalkState) → ((receives now bytes talk).greeting ≡ talk.greeting) × ((receives now bytes talk).own_name ≡ talk.own_name)
    × ((receives now bytes talk).peer_name ≡ talk.peer_name)
unfolding receives
received_keeps now bytes talk = (refl, refl, refl)

-- how its link is when a datagram has come
meets_after : (names : LineNames) (side : Side) (now : ℕ) (bytes : List ℕ) (old new : Ends) (talk : TalkState) (own far came : Talked) (messages : List LineMessage)
    → talk.link ≡ (near_end side old).link → (receives now bytes talk).link ≡ (near_end side new).link → (receives now bytes talk).link ≡ (receiving now bytes (near_end side old).link).link
    → IsStaged side talk own → (is_up talk.link.phase ≡ false → talk.greeting.stage ≡ Outside)
    → HasEntered side old new far came messages ⊎ HasStayed side now bytes old new own came messages → IsToMeet side (receives now bytes talk) came
meets_after names side now bytes old new talk own far came messages link link_then link_by staged outside entry = record {
  side_is = ap (λ (g : _). g.side) (received_keeps now bytes talk).0 ∙ staged.side_is;
  version = ap (λ (g : _). g.version) (received_keeps now bytes talk).0 ∙ staged.version;
  up = λ up. up_by entry up;
  starting = λ opened down. starting_by entry opened down;
}
  where
    then : TalkState
    then = receives now bytes talk

    old_open : Bool → Type 0
    old_open b = is_open (near_end side old).link.phase ≡ b

    IsMet : Type 0
    IsMet = IsAtStage side then.greeting.stage came ⊎ ((then.greeting.stage ≡ Outside) × (came ≡ nothing_said))

    out_stage : is_up talk.link.phase ≡ false → then.greeting.stage ≡ Outside
    out_stage down = ap (λ (g : _). g.stage) (received_keeps now bytes talk).0 ∙ outside down

    was_down : is_open talk.link.phase ≡ false → is_up talk.link.phase ≡ false
    was_down shut = by_up (is_up talk.link.phase) refl
      where
        by_up : (b : Bool) → is_up talk.link.phase ≡ b → is_up talk.link.phase ≡ false
        by_up true up = absurd (false≢true (sym shut ∙ up_is_open talk.link.phase up))
        by_up false down = down

    -- where it was in a connection before
    up_inside : came ≡ own → is_open talk.link.phase ≡ true → IsMet
    up_inside as_before opened = by_up (is_up talk.link.phase) refl
      where
        at_stage : IsAtStage side talk.greeting.stage own → IsMet
        at_stage at = inl (subst (λ (o : Talked). IsAtStage side then.greeting.stage o) (sym as_before)
            (subst (λ (g : _). IsAtStage side g.stage own) (sym (received_keeps now bytes talk).0) at))

        by_up : (b : Bool) → is_up talk.link.phase ≡ b → IsMet
        by_up true up = at_stage (staged.up up)
        by_up false down = inr (out_stage down, as_before ∙ staged.starting opened down)

    was_open : HasStayed side now bytes old new own came messages → is_open then.link.phase ≡ true → is_open talk.link.phase ≡ true
    was_open stayed opened = by_open (is_open (near_end side old).link.phase) refl
      where
        by_open : (b : Bool) → old_open b → is_open talk.link.phase ≡ true
        by_open true is = ap (λ (l : LinkState). is_open l.phase) link ∙ is
        by_open false shut = absurd (false≢true (sym (stayed.shut shut) ∙ (ap (λ (l : LinkState). is_open l.phase) (sym link_then) ∙ opened)))

    up_by : HasEntered side old new far came messages ⊎ HasStayed side now bytes old new own came messages → is_up then.link.phase ≡ true → IsMet
    up_by (inl entered) up = inr (out_stage (was_down (ap (λ (l : LinkState). is_open l.phase) link ∙ entered.out)), entered.anew)
    up_by (inr stayed) up = up_inside stayed.as_before (was_open stayed (up_is_open then.link.phase up))

    down_leads : came ≡ own → is_open then.link.phase ≡ true → is_up then.link.phase ≡ false → is_open talk.link.phase ≡ true
        → Leads (near_end side old).link (receiving now bytes (near_end side old).link) → came ≡ nothing_said
    down_leads as_before opened down was (keeps same none) =
        as_before ∙ staged.starting was (ap is_up (ap (λ (l : LinkState). l.phase) link ∙ (sym same ∙ ap (λ (l : LinkState). l.phase) (sym link_by))) ∙ down)
    down_leads as_before opened down was (comes_up up) = absurd (false≢true (sym down ∙ (ap (λ (l : LinkState). is_up l.phase) link_by ∙ up)))
    down_leads as_before opened down was (closes shut none) = absurd (false≢true (sym shut ∙ (ap (λ (l : LinkState). is_open l.phase) (sym link_by) ∙ opened)))

    starting_by : HasEntered side old new far came messages ⊎ HasStayed side now bytes old new own came messages → is_open then.link.phase ≡ true → is_up then.link.phase ≡ false → came ≡ nothing_said
    starting_by (inl entered) opened down = entered.anew
    starting_by (inr stayed) opened down =
        let was : is_open talk.link.phase ≡ true = was_open stayed opened
        in down_leads stayed.as_before opened down was (stayed.leads (ap (λ (l : LinkState). is_open l.phase) (sym link) ∙ was))

-- the messages that came, where they are acted on
may_act : Laws → (names : LineNames) (side : Side) (now : ℕ) (bytes : List ℕ) (old new : Ends) (talk met_talk : TalkState) (own far came : Talked) (messages said : List LineMessage)
    → AreLinked names side new (hearing_more messages came) far → talk.link ≡ (near_end side new).link → Makes now talk met_talk said
    → HasEntered side old new far came messages ⊎ HasStayed side now bytes old new own came messages
    → (messages ≡ []) ⊎ ((is_open met_talk.link.phase ≡ true → is_up met_talk.link.phase ≡ true) × Follows far.said (came.heard ++ messages))
may_act laws names side now bytes old new talk met_talk own far came messages said linked link makes (inl entered) = inl entered.no_messages
may_act laws names side now bytes old new talk met_talk own far came messages said linked link makes (inr stayed) = by_up stayed.heard_up
  where
    by_up : (messages ≡ []) ⊎ (is_up (near_end side new).link.phase ≡ true)
        → (messages ≡ []) ⊎ ((is_open met_talk.link.phase ≡ true → is_up met_talk.link.phase ≡ true) × Follows far.said (came.heard ++ messages))
    by_up (inl none) = inl none
    by_up (inr up) = inr (
      λ opened. ap is_up (makes.stays opened) ∙ (ap (λ (l : LinkState). is_up l.phase) link ∙ up),
      linked.back (up_is_same laws names side new linked.are.timely up (up_is_open (near_end side new).link.phase up)),
    )

heard_is : (now : ℕ) (bytes : List ℕ) (talk : TalkState)
    → hearing_datagram now bytes talk ≡ acting_all now (receiving now bytes talk.link).items (record { talk = meeting now (receives now bytes talk); taken = [] })
unfolding hearing_datagram
heard_is now bytes talk = refl

-- as its host writes and reads
written_so : (names : LineNames) (side : Side) (talk : TalkState) (messages : List LineMessage) → talk.own_name ≡ (named side names).name → talk.peer_name ≡ (named (other side) names).name
    → map (writer names (other side)) messages ≡ map (writing talk.peer_name talk.own_name) messages
written_so names side talk messages own_name peer_name =
    ap (λ (s : Side). map (writing (named (other side) names).name (named s names).name) messages) (other_twice side)
    ∙ (ap (λ (name : List ℕ). map (writing (named (other side) names).name name) messages) (sym own_name)
    ∙ ap (λ (name : List ℕ). map (writing name talk.own_name) messages) (sym peer_name))

entry_then : (side : Side) (now : ℕ) (bytes : List ℕ) (old new last : Ends) (own far came then : Talked) (messages : List LineMessage) → (AreSame new → AreSame last)
    → (near_end side last).connection ≡ (near_end side new).connection → (is_open (near_end side new).link.phase ≡ false → is_open (near_end side last).link.phase ≡ false)
    → items_of then.said ≡ items_of came.said → HasEntered side old new far came messages ⊎ HasStayed side now bytes old new own came messages
    → EntersThere side old last far then came.heard messages ⊎ StaysThere side old last own then came.heard
entry_then side now bytes old new last own far came then messages same_then connection_then shut_then said_then (inl entered) = inl (record {
  second = entered.second;
  out = entered.out;
  before_is = ap (λ (o : Talked). o.heard) entered.anew;
  no_messages = entered.no_messages;
  said = said_then ∙ ap (λ (o : Talked). items_of o.said) entered.anew;
  apart = entered.apart;
  same = same_then entered.same;
  silent = entered.silent;
})
entry_then side now bytes old new last own far came then messages same_then connection_then shut_then said_then (inr stayed) = inr (record {
  connection = connection_then ∙ stayed.connection;
  before_is = ap (λ (o : Talked). o.heard) stayed.as_before;
  said = said_then ∙ ap (λ (o : Talked). items_of o.said) stayed.as_before;
  shut = λ is. shut_then (stayed.shut is);
})

-- A datagram has come.
pub heard_bytes : Laws → (names : LineNames) (side : Side) (now : ℕ) (old : Ends) (talk next : TalkState) (own far : Talked) (bytes : List ℕ) → AreLineNames names
    → IsAt names side now old talk own far → IsStill side talk next own → Arrives (link_names names) old bytes
    → HasHeard names side now old own far (hearing_datagram now bytes next).talk (hearing_datagram now bytes next).taken
heard_bytes laws names side now old talk next own far bytes are at is arrives =
    subst (λ (so_far : TalkSoFar). HasHeard names side now old own far so_far.talk so_far.taken) (sym all_is) heard
  where
    here : IsAt names side now old next own far
    here = still_at at is

    new : Ends
    new = come side bytes (sent_in arrives) old

    received : HasReceived names side now bytes old new own far next
    received = subst (λ (n : ℕ). HasReceived names side n bytes old new own far next) here.now_is (has_received laws names side old own far next bytes are.link here.linked here.link arrives)

    came : Talked
    came = received.came

    messages : List LineMessage
    messages = received.messages

    then : TalkState
    then = receives now bytes next

    at_new : IsAt names side now new then (hearing_more messages came) far
    at_new = record {
      linked = received.linked;
      now_is = ap reading_of received.clock ∙ here.now_is;
      link = received.link;
      own_name = (received_keeps now bytes next).1 ∙ here.own_name;
      peer_name = (received_keeps now bytes next).2 ∙ here.peer_name;
      sent = received.sent here.sent;
    }

    link_by : then.link ≡ (receiving now bytes (near_end side old).link).link
    link_by = received_link now bytes next ∙ ap (λ (l : LinkState). (receiving now bytes l).link) here.link

    to_be_met : IsToMeet side then came
    to_be_met = meets_after names side now bytes old new next own far came messages here.link received.link link_by is.staged is.outside received.entry

    meets : HasMet now side then (meeting now then) came
    meets = met laws.item now side then came (named_so are at_new) to_be_met

    met_then : MadeOn names side now new (meeting now then) (saying_more meets.said (hearing_more messages came)) far
    met_then = made_on laws names side now new then (meeting now then) (hearing_more messages came) far meets.said are at_new meets.makes (meets.shape received.linked.own_shape)

    acts : HasActed now side (meeting now then) (saying_more meets.said came) messages (acted_by now (meeting now then) messages)
    acts = acted laws.read laws.item now side (meeting now then) (saying_more meets.said came) messages far.said (named_so are met_then.at) meets.staged received.linked.far_shape
        (may_act laws names side now bytes old new then (meeting now then) own far came messages meets.said received.linked received.link meets.makes received.entry)

    last : TalkSoFar
    last = acted_by now (meeting now then) messages

    acted_then : MadeOn names side now met_then.ends last.talk (saying_more acts.said (saying_more meets.said (hearing_more messages came))) far
    acted_then = made_on laws names side now met_then.ends (meeting now then) last.talk (saying_more meets.said (hearing_more messages came)) far acts.said are met_then.at acts.makes
        (acts.shape (meets.shape received.linked.own_shape))

    all_is : hearing_datagram now bytes next ≡ last
    all_is = heard_is now bytes next ∙ ap (λ (items : List (List ℕ)). acting_all now items (record { talk = meeting now then; taken = [] }))
        (received.items ∙ written_so names side (meeting now then) messages met_then.at.own_name met_then.at.peer_name)

    same_then : AreSame new → AreSame acted_then.ends
    same_then same = same_after side met_then.ends acted_then.ends acted_then.connection acted_then.on.far_same (same_after side new met_then.ends met_then.connection met_then.on.far_same same)

    shut_then : is_open (near_end side new).link.phase ≡ false → is_open (near_end side acted_then.ends).link.phase ≡ false
    shut_then shut =
        ap (λ (l : LinkState). is_open l.phase) (sym acted_then.at.link)
        ∙ stays_shut acts.makes (stays_shut meets.makes (ap (λ (l : LinkState). is_open l.phase) received.link ∙ shut))

    heard : HasHeard names side now old own far last.talk last.taken
    heard = record {
      ends = acted_then.ends;
      then = saying_more acts.said (saying_more meets.said (hearing_more messages came));
      before = came.heard;
      messages = messages;
      at = acted_then.at;
      staged = acts.staged;
      heard = refl;
      told = acts.told;
      on = on_twice (record { clock = received.clock; time = received.time; far_same = received.far_same; among = received.among }) (on_twice met_then.on acted_then.on);
      entry = entry_then side now bytes old new acted_then.ends own far came (saying_more acts.said (saying_more meets.said (hearing_more messages came))) messages same_then
          (acted_then.connection ∙ met_then.connection) shut_then
          (no_more_items (came.said ++ meets.said) acts.said acts.no_items ∙ no_more_items came.said meets.said meets.no_items) received.entry;
    }
