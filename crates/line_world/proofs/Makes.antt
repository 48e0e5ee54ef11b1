-- Own calls of a host's link at one clock, and what the host says by them.
use Rattle.std.proofs.Common.{◌≡◌, ◌∙◌, ◌++◌, ◌-◌, ◌&&◌, ℕ, suc, Bool, true, false, cond, inl, inr, List, [], ◌∷◌, Some, ap, map, refl, subst, sym}
use Rattle.std.specs.Prelude.{◌⊎◌, Ok, Err, is_ok, length, nat_le, nat_lt, take}
use Rattle.std.proofs.lemmas.Bool.{false≢true}
use Rattle.std.proofs.lemmas.List.{append-nil, append_assoc, map-append}
use Rattle.line_host.specs.Talk.{TalkState, called}
use Rattle.line_telegram.specs.LineMessages.{IsLineMessage, reading, writing}
use Rattle.line_laws.specs.declared.words.Item.{Item}
use Rattle.line_telegram.specs.declared.message.LineMessage.{LineMessage}
use Rattle.line_telegram.specs.declared.message.LineMessage.TheVariants.{Line}
use Rattle.rasta_core.specs.Ends.{Call, Ticks, Opens, Closes, Sends, Receives}
use Rattle.rasta_core.specs.Outbox.{spellings}
use Rattle.rasta_core.specs.Parameters.{connection_limit, heartbeat_interval, window_size}
use Rattle.rasta_core.specs.PdusHandedOut.{Step}
use Rattle.rasta_core.specs.fault.SendFault.TheVariants as fault
use Rattle.rasta_core.specs.phase.Phase.{Phase}
use Rattle.rasta_core.specs.phase.Phase.TheVariants as phase
use Rattle.rasta_core.specs.State.{LinkState, is_open, is_up}
use Rattle.rasta_core.specs.reason.Reason.{Reason}
use Rattle.rasta_core.specs.reason.Reason.TheVariants as reason
use Rattle.rasta_pdu.specs.Items.{IsItem}
use Rattle.sci_telegram.specs.Names.{IsName}
use Rattle.rasta_pdu.specs.declared.body.Body.TheVariants.{Heartbeat}
use Rattle.line_world.proofs.Below.{acceptance, all_made, answer_to_send, beating, beats, closes, closing, closing_by, deadline, entered, giving, giving_all, limited, made_by, posted, saying, sending, sending_item, sends, settled, telling, ticking}

-- calls by which an end takes nothing and enters nothing
abbrev pub IsOwn : Call → Type 0
IsOwn Ticks = Unit {0}
IsOwn Opens = ⊥
IsOwn (Closes why) = Unit {0}
IsOwn (Sends item) = IsItem item
IsOwn (Receives bytes connection) = ⊥

abbrev pub AreOwn : List Call → Type 0
AreOwn [] = Unit {0}
AreOwn (one ∷ others) = IsOwn one × AreOwn others

-- the datagrams that calls hand out, one after another
abbrev pub bytes_of : (now : ℕ) → List Call → LinkState → List (List ℕ)
bytes_of now [] link = []
bytes_of now (one ∷ others) link = spellings link.identity.key (made_by now one link).pdus ++ bytes_of now others (made_by now one link).link

-- ---- calls after calls

all_link : (now : ℕ) (calls more : List Call) (link : LinkState) → (all_made now (calls ++ more) link).link ≡ (all_made now more (all_made now calls link).link).link
unfolding all_made
all_link now [] more link = refl
all_link now (one ∷ others) more link = all_link now others more (made_by now one link).link

all_given : (now : ℕ) (calls more : List Call) (link : LinkState)
    → (all_made now (calls ++ more) link).given ≡ (all_made now calls link).given ++ (all_made now more (all_made now calls link).link).given
unfolding all_made
all_given now [] more link = refl
all_given now (one ∷ others) more link =
    ap (λ (rest : List (List ℕ)). (made_by now one link).given ++ rest) (all_given now others more (made_by now one link).link)
    ∙ sym (append_assoc (made_by now one link).given (all_made now others (made_by now one link).link).given
    (all_made now more (all_made now others (made_by now one link).link).link).given)

all_taken : (now : ℕ) (calls more : List Call) (link : LinkState)
    → (all_made now (calls ++ more) link).taken ≡ (all_made now calls link).taken ++ (all_made now more (all_made now calls link).link).taken
unfolding all_made
all_taken now [] more link = refl
all_taken now (one ∷ others) more link =
    ap (λ (rest : List (List ℕ)). (made_by now one link).taken ++ rest) (all_taken now others more (made_by now one link).link)
    ∙ sym (append_assoc (made_by now one link).taken (all_made now others (made_by now one link).link).taken
    (all_made now more (all_made now others (made_by now one link).link).link).taken)

all_bytes : (now : ℕ) (calls more : List Call) (link : LinkState)
    → bytes_of now (calls ++ more) link ≡ bytes_of now calls link ++ bytes_of now more (all_made now calls link).link
unfolding all_made
all_bytes now [] more link = refl
all_bytes now (one ∷ others) more link =
    ap (λ (rest : List (List ℕ)). spellings link.identity.key (made_by now one link).pdus ++ rest) (all_bytes now others more (made_by now one link).link)
    ∙ sym (append_assoc (spellings link.identity.key (made_by now one link).pdus) (bytes_of now others (made_by now one link).link)
    (bytes_of now more (all_made now others (made_by now one link).link).link))

all_own : (calls more : List Call) → AreOwn calls → AreOwn more → AreOwn (calls ++ more)
all_own [] more own also = also
all_own (one ∷ others) more own also = (own.0, all_own others more own.1 also)

-- ---- what a host makes

-- Own calls lead from one state of a host's talk to another, and by them these messages are given.
pub record Makes (now : ℕ) (talk next : TalkState) (said : List LineMessage) : Type 0 where
  pub calls : List Call
  pub own : AreOwn calls
  pub link : next.link ≡ (all_made now calls talk.link).link
  pub given : (all_made now calls talk.link).given ≡ map (writing talk.own_name talk.peer_name) said
  pub taken : (all_made now calls talk.link).taken ≡ []
  pub bytes : next.outbox.datagrams ≡ talk.outbox.datagrams ++ bytes_of now calls talk.link
  pub own_name : next.own_name ≡ talk.own_name
  pub peer_name : next.peer_name ≡ talk.peer_name
  -- where the link is in a connection after that, its phase is as it was
  pub stays : is_open next.link.phase ≡ true → next.link.phase ≡ talk.link.phase

pub makes_nothing : (now : ℕ) (talk next : TalkState) → next.link ≡ talk.link → next.outbox ≡ talk.outbox → next.own_name ≡ talk.own_name → next.peer_name ≡ talk.peer_name
    → Makes now talk next []
unfolding all_made
makes_nothing now talk next link outbox own_name peer_name = record {
  calls = [];
  own = tt;
  link = link;
  given = refl;
  taken = refl;
  bytes = ap (λ (o : _). o.datagrams) outbox ∙ sym (append-nil talk.outbox.datagrams);
  own_name = own_name;
  peer_name = peer_name;
  stays = λ opened. ap (λ (l : LinkState). l.phase) link;
}

pub makes_then : (now : ℕ) (one two three : TalkState) (said more : List LineMessage) → Makes now one two said → Makes now two three more → Makes now one three (said ++ more)
makes_then now one two three said more first second =
    let at : (all_made now first.calls one.link).link ≡ two.link = sym first.link
    in let names : map (writing two.own_name two.peer_name) more ≡ map (writing one.own_name one.peer_name) more =
    ap (λ (name : List ℕ). map (writing name two.peer_name) more) first.own_name ∙ ap (λ (name : List ℕ). map (writing one.own_name name) more) first.peer_name
    in record {
      calls = first.calls ++ second.calls;
      own = all_own first.calls second.calls first.own second.own;
      link = second.link ∙ (ap (λ (l : LinkState). (all_made now second.calls l).link) (sym at) ∙ sym (all_link now first.calls second.calls one.link));
      given =
          all_given now first.calls second.calls one.link
          ∙ (ap (λ (l : LinkState). (all_made now first.calls one.link).given ++ (all_made now second.calls l).given) at
          ∙ (ap (λ (list : List (List ℕ)). list ++ (all_made now second.calls two.link).given) first.given
          ∙ (ap (λ (list : List (List ℕ)). map (writing one.own_name one.peer_name) said ++ list) (second.given ∙ names)
          ∙ sym (map-append (writing one.own_name one.peer_name) said more))));
      taken =
          all_taken now first.calls second.calls one.link
          ∙ (ap (λ (l : LinkState). (all_made now first.calls one.link).taken ++ (all_made now second.calls l).taken) at
          ∙ (ap (λ (list : List (List ℕ)). list ++ (all_made now second.calls two.link).taken) first.taken ∙ second.taken));
      bytes =
          second.bytes
          ∙ (ap (λ (list : List (List ℕ)). list ++ bytes_of now second.calls two.link) first.bytes
          ∙ (append_assoc one.outbox.datagrams (bytes_of now first.calls one.link) (bytes_of now second.calls two.link)
          ∙ ap (λ (list : List (List ℕ)). one.outbox.datagrams ++ list)
          (ap (λ (l : LinkState). bytes_of now first.calls one.link ++ bytes_of now second.calls l) (sym at) ∙ sym (all_bytes now first.calls second.calls one.link))));
      own_name = second.own_name ∙ first.own_name;
      peer_name = second.peer_name ∙ first.peer_name;
      stays = λ opened.
          let same : three.link.phase ≡ two.link.phase = second.stays opened
          in same ∙ first.stays (sym (ap is_open same) ∙ opened);
    }

-- ---- one call

-- a call of the link by which nothing is taken
makes_one : (now : ℕ) (talk : TalkState) (made : Step) (one : Call) (said : List LineMessage) → IsOwn one → made.link ≡ (made_by now one talk.link).link
    → made.pdus ≡ (made_by now one talk.link).pdus → (made_by now one talk.link).given ≡ map (writing talk.own_name talk.peer_name) said
    → (made_by now one talk.link).taken ≡ [] → (is_open made.link.phase ≡ true → made.link.phase ≡ talk.link.phase) → Makes now talk (called made talk) said
unfolding all_made posted
makes_one now talk made one said own link pdus given taken stays = record {
  calls = one ∷ [];
  own = (own, tt);
  link = link;
  given = append-nil (made_by now one talk.link).given ∙ given;
  taken = append-nil (made_by now one talk.link).taken ∙ taken;
  bytes =
      ap (λ (list : List _). talk.outbox.datagrams ++ spellings talk.link.identity.key list) pdus
      ∙ ap (λ (list : List (List ℕ)). talk.outbox.datagrams ++ list) (sym (append-nil (spellings talk.link.identity.key (made_by now one talk.link).pdus)));
  own_name = refl;
  peer_name = refl;
  stays = stays;
}

-- ---- phases: a call leaves the phase as it was, or the link closes

pub settled_stays : (now : ℕ) (link : LinkState) → is_open (settled now link).phase ≡ true → (settled now link).phase ≡ link.phase
unfolding settled
settled_stays now link opened = by_late (is_open link.phase && nat_le (deadline link) now) opened
  where
    by_late : (late : Bool) → is_open (cond late (record link { phase = phase.Closed; closed_at = deadline link; clock = now }) (record link { clock = now })).phase ≡ true
        → (cond late (record link { phase = phase.Closed; closed_at = deadline link; clock = now }) (record link { clock = now })).phase ≡ link.phase
    by_late true opened = absurd (false≢true opened)
    by_late false opened = refl

pub limited_stays : (link : LinkState) → is_open (limited link).link.phase ≡ true → (limited link).link.phase ≡ link.phase
unfolding limited telling
limited_stays link opened = by_many (is_open link.phase && nat_le connection_limit link.sent) opened
  where
    by_many : (many : Bool) → is_open (cond many (telling reason.Sequence link) (record { link = link; pdus = [] })).link.phase ≡ true
        → (cond many (telling reason.Sequence link) (record { link = link; pdus = [] })).link.phase ≡ link.phase
    by_many true opened = absurd (false≢true opened)
    by_many false opened = refl

pub entered_stays : (now : ℕ) (link : LinkState) → is_open (entered now link).link.phase ≡ true → (entered now link).link.phase ≡ link.phase
unfolding entered
entered_stays now link opened =
    let same : (entered now link).link.phase ≡ (settled now link).phase = limited_stays (settled now link) opened
    in same ∙ settled_stays now link (sym (ap is_open same) ∙ opened)

sending_stays : (now : ℕ) (item : List ℕ) (link : LinkState) → is_open (sending_item now item link).link.phase ≡ true → (sending_item now item link).link.phase ≡ link.phase
unfolding sending_item giving sends
sending_stays now item link opened = by_answer (is_ok (acceptance (entered now link).link)) opened
  where
    by_answer : (ok : Bool) → is_open (cond ok (giving item (entered now link).link) (record { link = (entered now link).link; pdus = [] })).link.phase ≡ true
        → (cond ok (giving item (entered now link).link) (record { link = (entered now link).link; pdus = [] })).link.phase ≡ link.phase
    by_answer true opened = entered_stays now link opened
    by_answer false opened = entered_stays now link opened

beats_stays : (link : LinkState) → (beats link).link.phase ≡ link.phase
unfolding beats sends
beats_stays link = by_due (is_up link.phase && nat_le heartbeat_interval (link.clock - link.sent_at))
  where
    by_due : (due : Bool) → (cond due (sends Heartbeat link) (record { link = link; pdus = [] })).link.phase ≡ link.phase
    by_due true = refl
    by_due false = refl

ticking_stays : (now : ℕ) (link : LinkState) → is_open (ticking now link).link.phase ≡ true → (ticking now link).link.phase ≡ link.phase
unfolding ticking
ticking_stays now link opened =
    let same : (ticking now link).link.phase ≡ (entered now link).link.phase = beats_stays (entered now link).link
    in same ∙ entered_stays now link (sym (ap is_open same) ∙ opened)

-- a link that is closed isn't in a connection
closing_shuts : (now : ℕ) (why : Reason) (link : LinkState) → is_open (closing_by now why link).link.phase ≡ false
unfolding closing_by closes telling
closing_shuts now why link = by_test (is_open (entered now link).link.phase) refl
  where
    by_reason : (why : Reason) (l : LinkState) → is_open (closes why l).link.phase ≡ false
    by_reason reason.User l = refl
    by_reason reason.State l = refl
    by_reason reason.Sequence l = refl
    by_reason reason.Time l = refl
    by_reason reason.Version l = refl
    by_reason reason.Window l = refl

    by_test : (b : Bool) → is_open (entered now link).link.phase ≡ b
        → is_open (cond b (closes why (entered now link).link) (record { link = (entered now link).link; pdus = [] })).link.phase ≡ false
    by_test true is = by_reason why (entered now link).link
    by_test false is = is

pub makes_closing : (now : ℕ) (why : Reason) (talk : TalkState) → Makes now talk (closing now why talk) []
unfolding closing made_by
makes_closing now why talk =
    makes_one now talk (closing_by now why talk.link) (Closes why) [] tt refl refl refl refl (λ opened. absurd (false≢true (sym (closing_shuts now why talk.link) ∙ opened)))

pub closing_closed : (now : ℕ) (why : Reason) (talk : TalkState) → is_open (closing now why talk).link.phase ≡ false
unfolding closing
closing_closed now why talk = closing_shuts now why talk.link

-- ---- an item is sent

up_open : (p : Phase) → is_open p ≡ false → is_up p ≡ false
up_open phase.Closed closed = refl
up_open phase.Start closed = refl
up_open phase.Up closed = absurd (false≢true (sym closed))
up_open phase.RetransmissionRequested closed = absurd (false≢true (sym closed))
up_open phase.RetransmissionRunning closed = absurd (false≢true (sym closed))

-- an item is accepted only where the link is up
accepted_up : (link : LinkState) → is_ok (acceptance link) ≡ true → is_up link.phase ≡ true
unfolding acceptance
accepted_up link ok = by_test (is_up link.phase) refl ok
  where
    by_test : (b : Bool) → is_up link.phase ≡ b → is_ok (cond b (cond (nat_lt (length link.waiting) window_size) (Ok (tt {0})) (Err fault.WindowFull)) (Err fault.NotUp)) ≡ true
        → is_up link.phase ≡ true
    by_test true is some = is
    by_test false is none = absurd (false≢true none)

-- and the link stays up then
sent_up : (now : ℕ) (item : List ℕ) (link : LinkState) → is_ok (answer_to_send now link) ≡ true → is_up (sending_item now item link).link.phase ≡ true
unfolding sending_item answer_to_send giving sends
sent_up now item link ok = rw ok (accepted_up (entered now link).link ok)

-- the laws of line_telegram
abbrev pub WrittenIsRead : Type 0
WrittenIsRead = (sender receiver : List ℕ) (message : LineMessage) → IsName sender → IsName receiver → IsLineMessage message
    → reading sender receiver (writing sender receiver message) ≡ Some message

abbrev pub WrittenIsItem : Type 0
WrittenIsItem = (sender receiver : List ℕ) (message : LineMessage) → IsName sender → IsName receiver → IsItem (writing sender receiver message)

-- the names of an end and its partner are names
pub record AreNamed (talk : TalkState) : Type 0 where
  pub own : IsName talk.own_name
  pub peer : IsName talk.peer_name

pub still_named : {now : ℕ} {talk next : TalkState} {said : List LineMessage} → Makes now talk next said → AreNamed talk → AreNamed next
still_named makes named = record { own = subst IsName (sym makes.own_name) named.own; peer = subst IsName (sym makes.peer_name) named.peer }

-- What a host makes when it says a message: it is given, or the link closes.
pub record Says (now : ℕ) (message : LineMessage) (talk : TalkState) : Type 0 where
  pub said : List LineMessage
  pub makes : Makes now talk (saying now message talk) said
  pub given : (said ≡ message ∷ []) ⊎ ((said ≡ []) × (is_open (saying now message talk).link.phase ≡ false))
  pub up : said ≡ message ∷ [] → is_up (saying now message talk).link.phase ≡ true

makes_sent : (now : ℕ) (message : LineMessage) (talk : TalkState) → IsItem (writing talk.own_name talk.peer_name message) → is_ok (answer_to_send now talk.link) ≡ true
    → Makes now talk (sending now message talk) (message ∷ [])
unfolding sending made_by
makes_sent now message talk item ok =
    let text = writing talk.own_name talk.peer_name message
    in makes_one now talk (sending_item now text talk.link) (Sends text) (message ∷ []) item refl refl (rw ok refl) refl (sending_stays now text talk.link)

makes_unsent : (now : ℕ) (message : LineMessage) (talk : TalkState) → IsItem (writing talk.own_name talk.peer_name message) → is_ok (answer_to_send now talk.link) ≡ false
    → Makes now talk (sending now message talk) []
unfolding sending made_by
makes_unsent now message talk item refused =
    let text = writing talk.own_name talk.peer_name message
    in makes_one now talk (sending_item now text talk.link) (Sends text) [] item refl refl (rw refused refl) refl (sending_stays now text talk.link)

sending_up : (now : ℕ) (message : LineMessage) (talk : TalkState) → is_ok (answer_to_send now talk.link) ≡ true → is_up (sending now message talk).link.phase ≡ true
unfolding sending
sending_up now message talk ok = sent_up now (writing talk.own_name talk.peer_name message) talk.link ok

no_item : (message : LineMessage) → [] ≡ message ∷ [] → ⊥
no_item message e = cc

pub makes_saying : (now : ℕ) (message : LineMessage) (talk : TalkState) → IsItem (writing talk.own_name talk.peer_name message) → Says now message talk
unfolding saying
makes_saying now message talk item = by_answer (is_ok (answer_to_send now talk.link)) refl
  where
    by_answer : (b : Bool) → is_ok (answer_to_send now talk.link) ≡ b → Says now message talk
    by_answer true ok = record {
      said = message ∷ [];
      makes = rw ok (makes_sent now message talk item ok);
      given = inl refl;
      up = λ is. rw ok (sending_up now message talk ok);
    }
    by_answer false refused = record {
      said = [];
      makes = rw refused (makes_then now talk (sending now message talk) (closing now reason.Window (sending now message talk)) [] []
          (makes_unsent now message talk item refused) (makes_closing now reason.Window (sending now message talk)));
      given = inr (refl, rw refused (closing_closed now reason.Window (sending now message talk)));
      up = λ is. absurd (no_item message is);
    }

-- ---- all items of an end

-- What a host makes when it gives items: the first of them are given, and all where the link is up before and in a connection after.
pub record Gives (now : ℕ) (items : List Item) (talk : TalkState) : Type 0 where
  pub count : ℕ
  pub makes : Makes now talk (giving_all now items talk) (map Line (take count items))
  pub all : is_up talk.link.phase ≡ true → is_open (giving_all now items talk).link.phase ≡ true → take count items ≡ items

shut_gives_none : (now : ℕ) (items : List Item) (talk : TalkState) → is_open talk.link.phase ≡ false → giving_all now items talk ≡ talk
unfolding giving_all
shut_gives_none now [] talk closed = refl
shut_gives_none now (item ∷ items) talk closed = rw (up_open talk.link.phase closed) refl

pub none_given : (now : ℕ) (talk : TalkState) → giving_all now [] talk ≡ talk
unfolding giving_all
none_given now talk = refl

one_given : (now : ℕ) (item : Item) (items : List Item) (talk : TalkState) → is_up talk.link.phase ≡ true → giving_all now (item ∷ items) talk ≡ giving_all now items (saying now (Line item) talk)
unfolding giving_all
one_given now item items talk up = rw up refl

pub down_gives_none : (now : ℕ) (items : List Item) (talk : TalkState) → is_up talk.link.phase ≡ false → giving_all now items talk ≡ talk
unfolding giving_all
down_gives_none now [] talk down = refl
down_gives_none now (item ∷ items) talk down = rw down refl

no_items : (now : ℕ) (items : List Item) (talk : TalkState) → giving_all now items talk ≡ talk → (is_up talk.link.phase ≡ true → is_open talk.link.phase ≡ true → [] ≡ items) → Gives now items talk
no_items now items talk same all = record {
  count = 0;
  makes = subst (λ (t : TalkState). Makes now talk t []) (sym same) (makes_nothing now talk talk refl refl refl refl);
  all = λ up opened. all up (ap (λ (t : TalkState). is_open t.link.phase) (sym same) ∙ opened);
}

-- after the first item the others
more_given : (now : ℕ) (item : Item) (items : List Item) (talk : TalkState) → is_up talk.link.phase ≡ true → (says : Says now (Line item) talk)
    → Gives now items (saying now (Line item) talk) → (says.said ≡ Line item ∷ []) ⊎ ((says.said ≡ []) × (is_open (saying now (Line item) talk).link.phase ≡ false))
    → Gives now (item ∷ items) talk
more_given now item items talk up says rest (inl given) =
    let next : TalkState = saying now (Line item) talk
    in let whole : giving_all now (item ∷ items) talk ≡ giving_all now items next = one_given now item items talk up
    in let said : says.said ++ map Line (take rest.count items) ≡ map Line (item ∷ take rest.count items) = ap (λ (said : List LineMessage). said ++ map Line (take rest.count items)) given
    in record {
      count = suc rest.count;
      makes = subst (λ (t : TalkState). Makes now talk t (map Line (item ∷ take rest.count items))) (sym whole)
          (subst (λ (list : List LineMessage). Makes now talk (giving_all now items next) list) said
          (makes_then now talk next (giving_all now items next) says.said (map Line (take rest.count items)) says.makes rest.makes));
      all = λ was opened. ap (λ (more : List Item). item ∷ more) (rest.all (says.up given) (ap (λ (t : TalkState). is_open t.link.phase) (sym whole) ∙ opened));
    }
more_given now item items talk up says rest (inr closed) =
    let next : TalkState = saying now (Line item) talk
    in let whole : giving_all now (item ∷ items) talk ≡ next = one_given now item items talk up ∙ shut_gives_none now items next closed.1
    in record {
      count = 0;
      makes = subst (λ (t : TalkState). Makes now talk t []) (sym whole) (subst (λ (list : List LineMessage). Makes now talk next list) closed.0 says.makes);
      all = λ was opened. absurd (false≢true (sym closed.1 ∙ (ap (λ (t : TalkState). is_open t.link.phase) (sym whole) ∙ opened)));
    }

some_given : (now : ℕ) (item : Item) (items : List Item) (talk : TalkState) → Says now (Line item) talk → Gives now items (saying now (Line item) talk)
    → (b : Bool) → is_up talk.link.phase ≡ b → Gives now (item ∷ items) talk
some_given now item items talk says rest true up = more_given now item items talk up says rest says.given
some_given now item items talk says rest false down =
    no_items now (item ∷ items) talk (down_gives_none now (item ∷ items) talk down) (λ up opened. absurd (false≢true (sym down ∙ up)))

pub makes_giving : WrittenIsItem → (now : ℕ) (items : List Item) (talk : TalkState) → AreNamed talk → Gives now items talk
makes_giving item_is now [] talk named = no_items now [] talk (none_given now talk) (λ up opened. refl)
makes_giving item_is now (item ∷ items) talk named =
    let says : Says now (Line item) talk = makes_saying now (Line item) talk (item_is talk.own_name talk.peer_name (Line item) named.own named.peer)
    in some_given now item items talk says (makes_giving item_is now items (saying now (Line item) talk) (still_named says.makes named)) (is_up talk.link.phase) refl

-- ---- a tick

pub makes_beating : (now : ℕ) (talk : TalkState) → Makes now talk (beating now talk) []
unfolding beating made_by
makes_beating now talk = makes_one now talk (ticking now talk.link) Ticks [] tt refl refl refl refl (ticking_stays now talk.link)

-- ---- what calls leave of a greeting

pub saying_keeps : (now : ℕ) (message : LineMessage) (talk : TalkState) → (saying now message talk).greeting ≡ talk.greeting
unfolding saying sending closing
saying_keeps now message talk = by_answer (is_ok (answer_to_send now talk.link))
  where
    by_answer : (b : Bool) → (cond b (sending now message talk) (closing now reason.Window (sending now message talk))).greeting ≡ talk.greeting
    by_answer true = refl
    by_answer false = refl

more_keeps : (now : ℕ) (item : Item) (items : List Item) (talk : TalkState) → (giving_all now items (saying now (Line item) talk)).greeting ≡ (saying now (Line item) talk).greeting
    → (b : Bool) → is_up talk.link.phase ≡ b → (giving_all now (item ∷ items) talk).greeting ≡ talk.greeting
more_keeps now item items talk rest true up = ap (λ (t : TalkState). t.greeting) (one_given now item items talk up) ∙ (rest ∙ saying_keeps now (Line item) talk)
more_keeps now item items talk rest false down = ap (λ (t : TalkState). t.greeting) (down_gives_none now (item ∷ items) talk down)

pub giving_keeps : (now : ℕ) (items : List Item) (talk : TalkState) → (giving_all now items talk).greeting ≡ talk.greeting
giving_keeps now [] talk = ap (λ (t : TalkState). t.greeting) (none_given now talk)
giving_keeps now (item ∷ items) talk = more_keeps now item items talk (giving_keeps now items (saying now (Line item) talk)) (is_up talk.link.phase) refl

pub beating_keeps : (now : ℕ) (talk : TalkState) → (beating now talk).greeting ≡ talk.greeting
unfolding beating
beating_keeps now talk = refl
