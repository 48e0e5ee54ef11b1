-- A datagram comes to an end of the link: what the two ends are then, and what they have said and heard.
use Rattle.std.proofs.Common.{◌≡◌, ◌≢◌, ◌∙◌, ◌++◌, ℕ, Bool, true, false, not, inl, inr, List, [], ◌∷◌, Some, ap, arith, drop, length, ltb-false, ltb-true, map, refl, subst, sym}
use Rattle.std.specs.Prelude.{◌⊎◌, ◌&&◌, nat_lt}
use Rattle.std.proofs.lemmas.Bool.{false≢true}
use Rattle.std.proofs.lemmas.List.{append-nil, append_assoc, map-append}
use Rattle.line_host.specs.Host.{role_of}
use Rattle.line_host.specs.Talk.{TalkState}
use Rattle.line_laws.specs.declared.words.Side.{Side}
use Rattle.line_laws.specs.declared.words.Side.TheVariants.{First, Second}
use Rattle.line_telegram.specs.declared.message.LineMessage.{LineMessage}
use Rattle.line_world.specs.Names.{link_names, other}
use Rattle.line_world.specs.declared.names.LineNames.{LineNames}
use Rattle.line_world.specs.inside.Laws.{Laws}
use Rattle.rasta_core.specs.Each.{Each}
use Rattle.rasta_core.specs.Ends.{Call, EndState, Receives, Sent, is_taken, reading_of}
use Rattle.rasta_core.specs.Events.{IsAmong, IsDelivered, MayRun, run}
use Rattle.rasta_core.specs.Invariant.{InFlight, Timely}
use Rattle.rasta_core.specs.Names.{AreNames, Names}
use Rattle.rasta_core.specs.Outbox.{spellings}
use Rattle.rasta_core.specs.Run.{Ends, end_of}
use Rattle.rasta_core.specs.Safe.{IsSafe}
use Rattle.rasta_core.specs.Sentences.{IsOpening}
use Rattle.rasta_core.specs.State.{LinkState, is_open, is_up}
use Rattle.rasta_core.specs.Steps.{calls_at}
use Rattle.rasta_core.specs.identity.Role.{Role}
use Rattle.rasta_core.specs.identity.Role.TheVariants as role
use Rattle.rasta_pdu.specs.SafetyCode.{IsIntact}
use Rattle.line_world.proofs.Below.{EnterNone, all_made, called, end_after, enters_by, made_by, outcome, posted, receives, receiving}
use Rattle.line_world.proofs.AtEnds.{AreEnds, AreSentNow, both_sent, run_among, run_keeps, run_sends}
use Rattle.line_world.proofs.Hears.{up_is_open}
use Rattle.line_world.proofs.Makes.{bytes_of}
use Rattle.line_world.proofs.Receipts.{Leads, closes, comes_up, keeps, out_receives_none, receiving_leads}
use Rattle.line_world.proofs.Talked.{AreLinked, AreSame, Follows, IsTalked, Talked, far_end, far_is, near_end, nothing, nothing_said, same_before, texts, writer}

-- ---- lists

front_off : {A : Type 0} (front rest : List A) → drop (length front) (front ++ rest) ≡ rest
front_off [] rest = refl
front_off (first ∷ front) rest = front_off front rest

same_rest : {A : Type 0} (front one other : List A) → front ++ one ≡ front ++ other → one ≡ other
same_rest front one other is = sym (front_off front one) ∙ (ap (drop (length front)) is ∙ front_off front other)

-- a list of which the images begin so begins with those of these images
pub record Splits {A B : Type 0} (f : A → B) (list : List A) (front : List B) : Type 0 where
  pub some : List A
  pub rest : List A
  pub whole : list ≡ some ++ rest
  pub images : front ≡ map f some

abbrev pub head_or : {B : Type 0} → B → List B → B
head_or none [] = none
head_or none (first ∷ others) = first

abbrev pub tail_of : {B : Type 0} → List B → List B
tail_of [] = []
tail_of (first ∷ others) = others

abbrev pub is_some_list : {B : Type 0} → List B → Bool
is_some_list [] = false
is_some_list (first ∷ others) = true

pub splits : {A B : Type 0} (f : A → B) (list : List A) (front rest : List B) → map f list ≡ front ++ rest → Splits f list front
splits f list [] rest is = record { some = []; rest = list; whole = refl; images = refl }
splits f [] (image ∷ front) rest is = absurd (false≢true (ap is_some_list is))
splits f (first ∷ list) (image ∷ front) rest is =
    let more : Splits f list front = splits f list front rest (ap tail_of is)
    in record {
      some = first ∷ more.some;
      rest = more.rest;
      whole = ap (λ (l : List _). first ∷ l) more.whole;
      images = ap (λ (l : List _). image ∷ l) more.images ∙ ap (λ (b : _). b ∷ map f more.some) (ap (head_or image) (sym is));
    }

no_images : {A B : Type 0} (f : A → B) (list : List A) → [] ≡ map f list → list ≡ []
no_images f [] is = refl
no_images f (first ∷ list) is = absurd (false≢true (ap is_some_list is))

-- ---- what may come

-- bytes that were sent not long ago, or are damaged
pub data Arrives (names : Names) (ends : Ends) (bytes : List ℕ) : Type 0 where
  was_sent : (datagram : Sent) → IsDelivered ends bytes datagram.connection datagram → Arrives names ends bytes
  is_damaged : (IsIntact names.key bytes → ⊥) → Arrives names ends bytes

-- in which connection
abbrev pub sent_in : {names : Names} {ends : Ends} {bytes : List ℕ} → Arrives names ends bytes → ℕ
sent_in (was_sent datagram delivered) = datagram.connection
sent_in (is_damaged damaged) = 0

among_each : (P : Sent → Type 0) (datagram : Sent) (sent : List Sent) → IsAmong datagram sent → Each P sent → P datagram
among_each P datagram [] among each = absurd among
among_each P datagram (first ∷ others) (inl is) each = subst P is each.0
among_each P datagram (first ∷ others) (inr among) each = among_each P datagram others among each.1

same_number : (one other : ℕ) → (one ≢ other → ⊥) → one ≡ other
same_number one other not_apart = by_less (nat_lt one other) refl (nat_lt other one) refl
  where
    by_less : (less : Bool) → nat_lt one other ≡ less → (more : Bool) → nat_lt other one ≡ more → one ≡ other
    by_less true is more other_is = absurd (not_apart (λ same. omega (arith, ltb-true one other is, same)))
    by_less false is true other_is = absurd (not_apart (λ same. omega (arith, ltb-true other one other_is, same)))
    by_less false is false other_is = omega (arith, ltb-false one other is, ltb-false other one other_is)

-- what can be delivered was sent in the client's last connection
delivered_in : (names : Names) (ends : Ends) (bytes : List ℕ) (datagram : Sent) → Timely names ends → IsDelivered ends bytes datagram.connection datagram
    → ends.client.connection ≡ Some datagram.connection
delivered_in names ends bytes datagram timely delivered =
    let flying = among_each (InFlight names _) datagram ends.sent delivered.was_sent timely.datagrams
    in flying.known.begun
    ∙ ap (λ (n : ℕ). Some n) (sym (same_number datagram.connection timely.newest (λ apart. omega (arith, flying.known.dead apart, delivered.in_time))))

-- ---- the end then

-- an end that has entered a connection
entered_so : (who : Role) (bytes : List ℕ) (connection : ℕ) (ends : Ends) → enters_by (reading_of (end_of who ends).clock) (Receives bytes connection) (end_of who ends).link ≡ true
    → let new = end_of who (called who (Receives bytes connection) ends)
    in (new.connection ≡ Some connection) × (new.given ≡ []) × (new.taken ≡ (receiving (reading_of (end_of who ends).clock) bytes (end_of who ends).link).items)
unfolding called end_after outcome enters_by
entered_so role.Client bytes connection ends is = (rw is refl, rw is refl, rw is refl)
entered_so role.Server bytes connection ends is = (rw is refl, rw is refl, rw is refl)

entering_is : (now : ℕ) (bytes : List ℕ) (connection : ℕ) (link : LinkState) → enters_by now (Receives bytes connection) link ≡ true
    → (is_open link.phase ≡ false) × (is_taken (receiving now bytes link).verdict ≡ true)
unfolding enters_by
entering_is now bytes connection link is = by_both (is_open link.phase) (is_taken (receiving now bytes link).verdict) is
  where
    by_both : (opened taken : Bool) → (not opened && taken) ≡ true → (opened ≡ false) × (taken ≡ true)
    by_both true taken wrong = absurd (false≢true wrong)
    by_both false taken right = (refl, right)

enters_none : (now : ℕ) (bytes : List ℕ) (connection : ℕ) (link : LinkState) → enters_by now (Receives bytes connection) link ≡ false → EnterNone now (Receives bytes connection ∷ []) link
unfolding EnterNone
enters_none now bytes connection link not_so = (not_so, tt)

made_link : (now : ℕ) (bytes : List ℕ) (connection : ℕ) (link : LinkState) → (all_made now (Receives bytes connection ∷ []) link).link ≡ (receiving now bytes link).link
unfolding all_made made_by
made_link now bytes connection link = refl

made_given : (now : ℕ) (bytes : List ℕ) (connection : ℕ) (link : LinkState) → (all_made now (Receives bytes connection ∷ []) link).given ≡ []
unfolding all_made made_by
made_given now bytes connection link = refl

made_taken : (now : ℕ) (bytes : List ℕ) (connection : ℕ) (link : LinkState) → (all_made now (Receives bytes connection ∷ []) link).taken ≡ (receiving now bytes link).items
unfolding all_made made_by
made_taken now bytes connection link = append-nil (receiving now bytes link).items

made_bytes : (now : ℕ) (bytes : List ℕ) (connection : ℕ) (talk : TalkState)
    → (receives now bytes talk).outbox.datagrams ≡ talk.outbox.datagrams ++ bytes_of now (Receives bytes connection ∷ []) talk.link
unfolding receives posted made_by
made_bytes now bytes connection talk =
    ap (λ (list : List (List ℕ)). talk.outbox.datagrams ++ list) (sym (append-nil (spellings talk.link.identity.key (receiving now bytes talk.link).pdus)))

-- ---- what was said and heard then

abbrev pub hearing_more : List LineMessage → Talked → Talked
hearing_more more talked = record talked { heard = talked.heard ++ more }

-- it has entered the client's last connection, in which nothing was said
pub record HasEntered (side : Side) (old new : Ends) (far came : Talked) (messages : List LineMessage) : Type 0 where
  pub second : side ≡ Second
  pub out : is_open (near_end side old).link.phase ≡ false
  pub anew : came ≡ nothing_said
  pub no_messages : messages ≡ []
  pub apart : AreSame old → ⊥
  pub same : AreSame new
  pub silent : far.said ≡ []

-- it is in the connection that it was in, or in none as before
pub record HasStayed (side : Side) (now : ℕ) (bytes : List ℕ) (old new : Ends) (own came : Talked) (messages : List LineMessage) : Type 0 where
  pub as_before : came ≡ own
  pub connection : (near_end side new).connection ≡ (near_end side old).connection
  pub shut : is_open (near_end side old).link.phase ≡ false → is_open (near_end side new).link.phase ≡ false
  pub leads : is_open (near_end side old).link.phase ≡ true → Leads (near_end side old).link (receiving now bytes (near_end side old).link)
  pub heard_up : messages ≡ [] ⊎ (is_up (near_end side new).link.phase ≡ true)

pub record HasReceived (names : LineNames) (side : Side) (now : ℕ) (bytes : List ℕ) (old new : Ends) (own far : Talked) (talk : TalkState) : Type 0 where
  pub came : Talked
  pub messages : List LineMessage
  pub linked : AreLinked names side new (hearing_more messages came) far
  pub items : (receiving now bytes talk.link).items ≡ texts names (other side) messages
  pub link : (receives now bytes talk).link ≡ (near_end side new).link
  pub clock : (near_end side new).clock ≡ (near_end side old).clock
  pub time : new.time ≡ old.time
  pub far_same : far_end side new ≡ far_end side old
  pub among : (datagram : Sent) → IsAmong datagram old.sent → IsAmong datagram new.sent
  pub entry : HasEntered side old new far came messages ⊎ HasStayed side now bytes old new own came messages
  pub sent : AreSentNow old talk.outbox.datagrams → AreSentNow new (receives now bytes talk).outbox.datagrams

-- ---- it enters

not_server : role.Client ≡ role.Server → ⊥
not_server is = cc

second_by : (side : Side) → role_of side ≡ role.Server → side ≡ Second
second_by First is = absurd (not_server is)
second_by Second is = refl

-- only the second end enters so, and the client's last connection
entry_is : Laws → (names : LineNames) (side : Side) (ends : Ends) (bytes : List ℕ) → AreNames (link_names names) → Timely (link_names names) ends → (arrives : Arrives (link_names names) ends bytes)
    → is_open (near_end side ends).link.phase ≡ false → is_taken (receiving (reading_of (near_end side ends).clock) bytes (near_end side ends).link).verdict ≡ true
    → (side ≡ Second) × (ends.client.connection ≡ Some (sent_in arrives)) × ((near_end side ends).connection ≡ Some (sent_in arrives) → ⊥)
entry_is laws names side ends bytes are timely (was_sent datagram delivered) out taken =
    let opening : IsOpening (link_names names) (role_of side) ends datagram = laws.opening_new (link_names names) ends (role_of side) bytes datagram.connection datagram are timely delivered out taken
    in (
      second_by side opening.is_server,
      delivered_in (link_names names) ends bytes datagram timely delivered,
      λ is. omega (arith, opening.is_new datagram.connection is),
    )
entry_is laws names side ends bytes are timely (is_damaged damaged) out taken =
    absurd (false≢true (sym (laws.idle (link_names names) ends (role_of side) bytes timely (inl damaged)).1 ∙ taken))

none_texts : (names : LineNames) (side : Side) (list : List (List ℕ)) (messages : List LineMessage) → list ≡ [] → list ≡ texts names side messages → messages ≡ []
none_texts names side list messages none is = no_images (writer names side) messages (sym none ∙ is)

-- the second end has entered: what both have said and heard
linked_anew : Laws → (names : LineNames) (old new : Ends) (own far : Talked) (connection : ℕ) → AreLinked names Second old own far → AreEnds (link_names names) new
    → new.client ≡ old.client → old.client.connection ≡ Some connection → (old.server.connection ≡ Some connection → ⊥)
    → new.server.given ≡ [] → new.server.taken ≡ []
    → AreLinked names Second new (hearing_more [] nothing_said) far × (far.said ≡ [])
linked_anew laws names old new own far connection linked ends far_same client apart given taken =
    let alone : (old.client.given ≡ []) × (old.client.taken ≡ []) = laws.alone (link_names names) old connection linked.are.ordered client apart
    in let said : far.said ≡ [] = none_texts names First old.client.given far.said alone.0 linked.far_talks.given
    in let heard : far.heard ≡ [] = none_texts names Second old.client.taken far.heard alone.1 linked.far_talks.taken
    in (
      record {
        are = ends;
        own_talks = record { given = given; taken = taken };
        far_talks = subst (λ (e : EndState). IsTalked names First e far) (sym far_same) linked.far_talks;
        own_shape = nothing refl;
        far_shape = linked.far_shape;
        there = λ same. record { rest = []; is = sym heard ∙ sym (append-nil far.heard) };
        back = λ same. record { rest = far.said; is = refl };
      },
      said,
    )

-- ---- it stays

pub other_twice : (side : Side) → other (other side) ≡ side
other_twice First = refl
other_twice Second = refl

pub up_is_same : Laws → (names : LineNames) (side : Side) (ends : Ends) → Timely (link_names names) ends → is_up (near_end side ends).link.phase ≡ true → is_open (near_end side ends).link.phase ≡ true
    → AreSame ends
up_is_same laws names First ends timely up opened = laws.client_up (link_names names) ends timely up
up_is_same laws names Second ends timely up opened = laws.server_in (link_names names) ends timely opened

-- of two ends in one connection, what this one has taken is a beginning of what the other has given
safe_at : Laws → (names : LineNames) (side : Side) (ends : Ends) → AreEnds (link_names names) ends → AreSame ends → is_open (near_end side ends).link.phase ≡ true
    → (rest : List (List ℕ)) × ((far_end side ends).given ≡ (near_end side ends).taken ++ rest)
safe_at laws names First ends are same opened =
    let some = laws.some (link_names names) ends role.Client are.timely opened
    in let safe : IsSafe ends.server ends.client = (laws.safe (link_names names) ends are.ordered some.0 some.1 (same ∙ some.1)).1
    in (safe.rest, safe.beginning)
safe_at laws names Second ends are same opened =
    let some = laws.some (link_names names) ends role.Server are.timely opened
    in let safe : IsSafe ends.client ends.server = (laws.safe (link_names names) ends are.ordered some.0 (sym same ∙ some.1) some.1).0
    in (safe.rest, safe.beginning)

-- the next messages of the partner
pub record AreNext (names : LineNames) (side : Side) (said heard : List LineMessage) (items : List (List ℕ)) : Type 0 where
  pub messages : List LineMessage
  pub items_are : items ≡ texts names side messages
  pub follows : Follows said (heard ++ messages)

next_of : (names : LineNames) (side : Side) (said heard : List LineMessage) (items rest : List (List ℕ)) → Follows said heard
    → texts names side said ≡ (texts names side heard ++ items) ++ rest → AreNext names side said heard items
next_of names side said heard items rest follows is =
    let left : texts names side follows.rest ≡ items ++ rest =
    same_rest (texts names side heard) (texts names side follows.rest) (items ++ rest)
    (sym (map-append (writer names side) heard follows.rest) ∙ (ap (texts names side) (sym follows.is) ∙ (is ∙ append_assoc (texts names side heard) items rest)))
    in let split : Splits (writer names side) follows.rest items = splits (writer names side) follows.rest items rest left
    in record {
      messages = split.some;
      items_are = split.images;
      follows = record {
        rest = split.rest;
        is = follows.is ∙ (ap (λ (list : List LineMessage). heard ++ list) split.whole ∙ sym (append_assoc heard split.some split.rest));
      };
    }

-- an end stays in its connection, or out of any, and takes these items
pub record StaysLinked (names : LineNames) (side : Side) (new : Ends) (own far : Talked) (items : List (List ℕ)) : Type 0 where
  pub messages : List LineMessage
  pub linked : AreLinked names side new (hearing_more messages own) far
  pub items_are : items ≡ texts names (other side) messages
  pub heard_up : messages ≡ [] ⊎ (is_up (near_end side new).link.phase ≡ true)

linked_hearing : (names : LineNames) (side : Side) (old new : Ends) (own far : Talked) (items : List (List ℕ)) (messages : List LineMessage) → AreLinked names side old own far
    → AreEnds (link_names names) new → (near_end side new).connection ≡ (near_end side old).connection → far_end side new ≡ far_end side old
    → (near_end side new).given ≡ (near_end side old).given → (near_end side new).taken ≡ (near_end side old).taken ++ items
    → items ≡ texts names (other side) messages → (AreSame new → Follows far.said (own.heard ++ messages)) → AreLinked names side new (hearing_more messages own) far
linked_hearing names side old new own far items messages linked ends connection far_same given taken items_are follows = record {
  are = ends;
  own_talks = record {
    given = given ∙ linked.own_talks.given;
    taken =
        taken
        ∙ (ap (λ (list : List (List ℕ)). list ++ items) linked.own_talks.taken
        ∙ (ap (λ (list : List (List ℕ)). texts names (other side) own.heard ++ list) items_are ∙ sym (map-append (writer names (other side)) own.heard messages)));
  };
  far_talks = subst (λ (e : EndState). IsTalked names (other side) e far) (sym far_same) linked.far_talks;
  own_shape = linked.own_shape;
  far_shape = linked.far_shape;
  there = λ same. linked.there (same_before side old new connection far_same same);
  back = follows;
}

stays_linked : Laws → (names : LineNames) (side : Side) (old new : Ends) (own far : Talked) (items : List (List ℕ)) → AreLinked names side old own far
    → AreEnds (link_names names) new → (near_end side new).connection ≡ (near_end side old).connection → far_end side new ≡ far_end side old
    → (near_end side new).given ≡ (near_end side old).given → (near_end side new).taken ≡ (near_end side old).taken ++ items
    → (items ≡ []) ⊎ (is_up (near_end side new).link.phase ≡ true) → StaysLinked names side new own far items
stays_linked laws names side old new own far items linked ends connection far_same given taken (inl none) = record {
  messages = [];
  linked = linked_hearing names side old new own far items [] linked ends connection far_same given taken none
      (λ same. let follows : Follows far.said own.heard = linked.back (same_before side old new connection far_same same)
      in record { rest = follows.rest; is = follows.is ∙ ap (λ (list : List LineMessage). list ++ follows.rest) (sym (append-nil own.heard)) });
  items_are = none;
  heard_up = inl refl;
}
stays_linked laws names side old new own far items linked ends connection far_same given taken (inr up) =
    let opened : is_open (near_end side new).link.phase ≡ true = up_is_open (near_end side new).link.phase up
    in let same : AreSame new = up_is_same laws names side new ends.timely up opened
    in let safe = safe_at laws names side new ends same opened
    in let whole : texts names (other side) far.said ≡ (texts names (other side) own.heard ++ items) ++ safe.0 =
    sym linked.far_talks.given
    ∙ (ap (λ (e : EndState). e.given) (sym far_same)
    ∙ (safe.1 ∙ ap (λ (list : List (List ℕ)). list ++ safe.0) (taken ∙ ap (λ (list : List (List ℕ)). list ++ items) linked.own_talks.taken)))
    in let next : AreNext names (other side) far.said own.heard items =
    next_of names (other side) far.said own.heard items safe.0 (linked.back (same_before side old new connection far_same same)) whole
    in record {
      messages = next.messages;
      linked = linked_hearing names side old new own far items next.messages linked ends connection far_same given taken next.items_are (λ again. next.follows);
      items_are = next.items_are;
      heard_up = inr up;
    }

-- items come only to an end that is up then
items_up : Laws → (names : LineNames) (side : Side) (old : Ends) (bytes : List ℕ) (after : LinkState) → Timely (link_names names) old
    → after ≡ (receiving (reading_of (near_end side old).clock) bytes (near_end side old).link).link
    → ((receiving (reading_of (near_end side old).clock) bytes (near_end side old).link).items ≡ []) ⊎ (is_up after.phase ≡ true)
items_up laws names side old bytes after timely is = by_open (is_open (near_end side old).link.phase) refl
  where
    now : ℕ
    now = reading_of (near_end side old).clock

    link : LinkState
    link = (near_end side old).link

    by_leads : Leads link (receiving now bytes link) → ((receiving now bytes link).items ≡ []) ⊎ (is_up after.phase ≡ true)
    by_leads (keeps same none) = inl none
    by_leads (comes_up up) = inr (ap (λ (l : LinkState). is_up l.phase) is ∙ up)
    by_leads (closes shut none) = inl none

    by_open : (b : Bool) → is_open link.phase ≡ b → ((receiving now bytes link).items ≡ []) ⊎ (is_up after.phase ≡ true)
    by_open true opened = by_leads (receiving_leads laws.hears_out now bytes link (laws.are_settled (link_names names) old (role_of side) timely) opened)
    by_open false shut = inl (out_receives_none laws.hears_out now bytes link shut)

pub received_link : (now : ℕ) (bytes : List ℕ) (talk : TalkState) → (receives now bytes talk).link ≡ (receiving now bytes talk.link).link
unfolding receives
received_link now bytes talk = refl

-- the second end has entered
entered_by_side : Laws → (names : LineNames) (side : Side) (old new : Ends) (own far : Talked) (talk : TalkState) (bytes : List ℕ) (connection : ℕ) → AreLinked names side old own far
    → AreEnds (link_names names) new → far_end side new ≡ far_end side old → is_open (near_end side old).link.phase ≡ false
    → ((near_end side new).connection ≡ Some connection) × ((near_end side new).given ≡ [])
    × ((near_end side new).taken ≡ (receiving (reading_of (near_end side old).clock) bytes (near_end side old).link).items)
    → (receiving (reading_of (near_end side old).clock) bytes (near_end side old).link).items ≡ []
    → (receiving (reading_of (near_end side old).clock) bytes talk.link).items ≡ (receiving (reading_of (near_end side old).clock) bytes (near_end side old).link).items
    → (receives (reading_of (near_end side old).clock) bytes talk).link ≡ (near_end side new).link
    → (near_end side new).clock ≡ (near_end side old).clock → new.time ≡ old.time → ((datagram : Sent) → IsAmong datagram old.sent → IsAmong datagram new.sent)
    → (AreSentNow old talk.outbox.datagrams → AreSentNow new (receives (reading_of (near_end side old).clock) bytes talk).outbox.datagrams)
    → (side ≡ Second) × (old.client.connection ≡ Some connection) × ((near_end side old).connection ≡ Some connection → ⊥)
    → HasReceived names side (reading_of (near_end side old).clock) bytes old new own far talk
entered_by_side laws names First old new own far talk bytes connection linked ends far_same out then none items link clock time among sent entry = absurd (not_second entry.0)
  where
    not_second : First ≡ Second → ⊥
    not_second is = cc
entered_by_side laws names Second old new own far talk bytes connection linked ends far_same out then none items link clock time among sent entry =
    let anew = linked_anew laws names old new own far connection linked ends far_same entry.1 entry.2 then.1 (then.2 ∙ none)
    in record {
      came = nothing_said;
      messages = [];
      linked = anew.0;
      items = items ∙ none;
      link = link;
      clock = clock;
      time = time;
      far_same = far_same;
      among = among;
      entry = inl (record {
        second = refl;
        out = out;
        anew = refl;
        no_messages = refl;
        apart = λ same. entry.2 (same ∙ entry.1);
        same = then.0 ∙ sym (ap (λ (e : EndState). e.connection) far_same ∙ entry.1);
        silent = anew.1;
      });
      sent = sent;
    }

-- ---- all of it

may_come : (names : Names) (who : Role) (ends : Ends) (bytes : List ℕ) → (arrives : Arrives names ends bytes) → MayRun names (calls_at who (Receives bytes (sent_in arrives) ∷ [])) ends
may_come names who ends bytes (was_sent datagram delivered) = (inl (datagram, delivered), tt)
may_come names who ends bytes (is_damaged damaged) = (inr (inl damaged), tt)

abbrev pub come : Side → (bytes : List ℕ) (connection : ℕ) → Ends → Ends
come side bytes connection ends = run (calls_at (role_of side) (Receives bytes connection ∷ [])) ends

-- an end outside that enters no connection stays outside
out_then : Laws → (who : Role) (bytes : List ℕ) (connection : ℕ) (ends : Ends) → is_open (end_of who ends).link.phase ≡ false
    → enters_by (reading_of (end_of who ends).clock) (Receives bytes connection) (end_of who ends).link ≡ false
    → is_open (receiving (reading_of (end_of who ends).clock) bytes (end_of who ends).link).link.phase ≡ false
unfolding outcome enters_by
out_then laws who bytes connection ends out denied = laws.stays_out (Receives bytes connection) ends.moment (end_of who ends) out (rw denied refl)

pub has_received : Laws → (names : LineNames) (side : Side) (old : Ends) (own far : Talked) (talk : TalkState) (bytes : List ℕ) → AreNames (link_names names)
    → AreLinked names side old own far → talk.link ≡ (near_end side old).link → (arrives : Arrives (link_names names) old bytes)
    → HasReceived names side (reading_of (near_end side old).clock) bytes old (come side bytes (sent_in arrives) old) own far talk
has_received laws names side old own far talk bytes are linked link_is arrives = by_entry (enters_by now call link) refl
  where
    now : ℕ
    now = reading_of (near_end side old).clock

    link : LinkState
    link = (near_end side old).link

    call : Call
    call = Receives bytes (sent_in arrives)

    new : Ends
    new = come side bytes (sent_in arrives) old

    ends : AreEnds (link_names names) new
    ends = record {
      timely = laws.run_timely (link_names names) (calls_at (role_of side) (call ∷ [])) old are linked.are.timely (may_come (link_names names) (role_of side) old bytes arrives);
      ordered = laws.run_ordered (link_names names) (calls_at (role_of side) (call ∷ [])) old are linked.are.timely linked.are.ordered
          (may_come (link_names names) (role_of side) old bytes arrives);
    }

    new_link : (near_end side new).link ≡ (receiving now bytes link).link
    new_link = (laws.after_calls (role_of side) (call ∷ []) old).link ∙ made_link now bytes (sent_in arrives) link

    far_same : far_end side new ≡ far_end side old
    far_same = sym (far_is side new) ∙ (laws.partner (role_of side) (call ∷ []) old ∙ far_is side old)

    same_items : (receiving now bytes talk.link).items ≡ (receiving now bytes link).items
    same_items = ap (λ (l : LinkState). (receiving now bytes l).items) link_is

    talk_link : (receives now bytes talk).link ≡ (near_end side new).link
    talk_link = received_link now bytes talk ∙ (ap (λ (l : LinkState). (receiving now bytes l).link) link_is ∙ sym new_link)

    sent : AreSentNow old talk.outbox.datagrams → AreSentNow new (receives now bytes talk).outbox.datagrams
    sent before = subst (AreSentNow new) (sym (made_bytes now bytes (sent_in arrives) talk))
        (both_sent new talk.outbox.datagrams (bytes_of now (call ∷ []) talk.link) (run_keeps (role_of side) (call ∷ []) old talk.outbox.datagrams before)
        (run_sends laws (role_of side) (call ∷ []) old now talk.link refl link_is))

    in_so : (is_open link.phase ≡ false) × (is_taken (receiving now bytes link).verdict ≡ true)
        → ((near_end side new).connection ≡ Some (sent_in arrives)) × ((near_end side new).given ≡ []) × ((near_end side new).taken ≡ (receiving now bytes link).items)
        → HasReceived names side now bytes old new own far talk
    in_so out then = entered_by_side laws names side old new own far talk bytes (sent_in arrives) linked ends far_same out.0 then
        (out_receives_none laws.hears_out now bytes link out.0) same_items talk_link (laws.after_calls (role_of side) (call ∷ []) old).clock (laws.time (role_of side) (call ∷ []) old) (run_among (role_of side) (call ∷ []) old) sent
        (entry_is laws names side old bytes are linked.are.timely arrives out.0 out.1)

    by_entry : (b : Bool) → enters_by now call link ≡ b → HasReceived names side now bytes old new own far talk
    by_entry true enters = in_so (entering_is now bytes (sent_in arrives) link enters) (entered_so (role_of side) bytes (sent_in arrives) old enters)
    by_entry false denied =
        let stays = laws.stays (role_of side) (call ∷ []) old (enters_none now bytes (sent_in arrives) link denied)
        in let made : StaysLinked names side new own far (receiving now bytes link).items =
        stays_linked laws names side old new own far (receiving now bytes link).items linked ends stays.connection far_same
        (stays.given ∙ (ap (λ (list : List (List ℕ)). (near_end side old).given ++ list) (made_given now bytes (sent_in arrives) link) ∙ append-nil (near_end side old).given))
        (stays.taken ∙ ap (λ (list : List (List ℕ)). (near_end side old).taken ++ list) (made_taken now bytes (sent_in arrives) link))
        (items_up laws names side old bytes (near_end side new).link linked.are.timely new_link)
        in record {
          came = own;
          messages = made.messages;
          linked = made.linked;
          items = same_items ∙ made.items_are;
          link = talk_link;
          clock = (laws.after_calls (role_of side) (call ∷ []) old).clock;
          time = laws.time (role_of side) (call ∷ []) old;
          far_same = far_same;
          among = run_among (role_of side) (call ∷ []) old;
          entry = inr (record {
            as_before = refl;
            connection = stays.connection;
            shut = λ out. ap (λ (l : LinkState). is_open l.phase) new_link ∙ out_then laws (role_of side) bytes (sent_in arrives) old out denied;
            leads = λ opened. receiving_leads laws.hears_out now bytes link (laws.are_settled (link_names names) old (role_of side) linked.are.timely) opened;
            heard_up = made.heard_up;
          });
          sent = sent;
        }
