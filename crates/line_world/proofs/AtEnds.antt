-- A host's calls at its end of the link: what the two ends are then, and that what the host handed out was sent.
use Rattle.std.proofs.Common.{◌≡◌, ◌∙◌, ◌++◌, ℕ, false, inl, inr, List, [], ◌∷◌, Option, Some, None, ap, map, refl, subst, sym}
use Rattle.std.proofs.lemmas.List.{append-nil, append_assoc}
use Rattle.line_host.specs.Talk.{TalkState}
use Rattle.line_telegram.specs.LineMessages.{writing}
use Rattle.line_telegram.specs.declared.message.LineMessage.{LineMessage}
use Rattle.rasta_core.specs.Ends.{Call, EndState, Sent, Ticks, Opens, Closes, Sends, Receives, handed_out, reading_of}
use Rattle.rasta_core.specs.Events.{IsAmong, MayCall, MayRun, run}
use Rattle.rasta_core.specs.Invariant.{Timely}
use Rattle.rasta_core.specs.Names.{AreNames, Names, partner_of}
use Rattle.rasta_core.specs.Ordered.{Ordered}
use Rattle.rasta_core.specs.Outbox.{spellings}
use Rattle.rasta_core.specs.Run.{Ends, end_of}
use Rattle.rasta_core.specs.State.{LinkState}
use Rattle.rasta_core.specs.Steps.{calls_at}
use Rattle.rasta_core.specs.identity.Role.{Role}
use Rattle.rasta_core.specs.identity.Role.TheVariants as role
use Rattle.line_world.specs.inside.Laws.{Laws}
use Rattle.line_world.proofs.Below.{EnterNone, all_made, called, end_after, enters_by, made_by, outcome}
use Rattle.line_world.proofs.Makes.{AreOwn, IsOwn, Makes, bytes_of}

-- two ends that have come by events that may happen
pub record AreEnds (names : Names) (ends : Ends) : Type 0 where
  pub timely : Timely names ends
  pub ordered : Ordered names ends

-- ---- own calls

pub own_enters_none : (now : ℕ) (calls : List Call) (link : LinkState) → AreOwn calls → EnterNone now calls link
unfolding EnterNone enters_by
own_enters_none now [] link own = tt
own_enters_none now (Ticks ∷ others) link own = (refl, own_enters_none now others (made_by now Ticks link).link own.1)
own_enters_none now (Opens ∷ others) link own = absurd own.0
own_enters_none now (Closes why ∷ others) link own = (refl, own_enters_none now others (made_by now (Closes why) link).link own.1)
own_enters_none now (Sends item ∷ others) link own = (refl, own_enters_none now others (made_by now (Sends item) link).link own.1)
own_enters_none now (Receives bytes connection ∷ others) link own = absurd own.0

own_may : (names : Names) (who : Role) (one : Call) (ends : Ends) → IsOwn one → MayCall names who one ends
own_may names who Ticks ends own = tt
own_may names who Opens ends own = absurd own
own_may names who (Closes why) ends own = tt
own_may names who (Sends item) ends own = own
own_may names who (Receives bytes connection) ends own = absurd own

own_may_run : (names : Names) (who : Role) (calls : List Call) (ends : Ends) → AreOwn calls → MayRun names (calls_at who calls) ends
own_may_run names who [] ends own = tt
own_may_run names who (one ∷ others) ends own = (own_may names who one ends own.0, own_may_run names who others (called who one ends) own.1)

-- ---- what was sent

-- these bytes were sent at this moment
abbrev pub IsSentNow : Ends → List ℕ → Type 0
IsSentNow ends bytes = (datagram : Sent) × IsAmong datagram ends.sent × (datagram.bytes ≡ bytes) × (datagram.at ≡ ends.time)

abbrev pub AreSentNow : Ends → List (List ℕ) → Type 0
AreSentNow ends [] = Unit {0}
AreSentNow ends (bytes ∷ others) = IsSentNow ends bytes × AreSentNow ends others

among_front : (datagram : Sent) (sent more : List Sent) → IsAmong datagram sent → IsAmong datagram (sent ++ more)
among_front datagram [] more among = absurd among
among_front datagram (first ∷ later) more (inl is) = inl is
among_front datagram (first ∷ later) more (inr among) = inr (among_front datagram later more among)

among_back : (datagram : Sent) (sent more : List Sent) → IsAmong datagram more → IsAmong datagram (sent ++ more)
among_back datagram [] more among = among
among_back datagram (first ∷ later) more among = inr (among_back datagram later more among)

pub both_sent : (ends : Ends) (one other : List (List ℕ)) → AreSentNow ends one → AreSentNow ends other → AreSentNow ends (one ++ other)
both_sent ends [] other first second = second
both_sent ends (bytes ∷ others) other first second = (first.0, both_sent ends others other first.1 second)

-- what a call sends
abbrev more_sent : Role → Call → Ends → List Sent
more_sent who one ends =
    let old = end_of who ends
    in let made = outcome one ends.moment old
    in handed_out ends.time who (end_after made ends.moment old).connection (spellings old.link.identity.key made.pdus)

called_sent : (who : Role) (one : Call) (ends : Ends) → (called who one ends).sent ≡ ends.sent ++ more_sent who one ends
unfolding called
called_sent role.Client one ends = refl
called_sent role.Server one ends = refl

called_time : (who : Role) (one : Call) (ends : Ends) → (called who one ends).time ≡ ends.time
unfolding called
called_time role.Client one ends = refl
called_time role.Server one ends = refl

-- what was sent stays so
pub run_among : (who : Role) (calls : List Call) (ends : Ends) (datagram : Sent) → IsAmong datagram ends.sent → IsAmong datagram (run (calls_at who calls) ends).sent
run_among who [] ends datagram among = among
run_among who (one ∷ others) ends datagram among =
    run_among who others (called who one ends) datagram
    (subst (IsAmong datagram) (sym (called_sent who one ends)) (among_front datagram ends.sent (more_sent who one ends) among))

-- and so does what was sent now, over a call
called_keeps : (who : Role) (one : Call) (ends : Ends) (list : List (List ℕ)) → AreSentNow ends list → AreSentNow (called who one ends) list
called_keeps who one ends [] all = tt
called_keeps who one ends (bytes ∷ others) all = (
  (
    all.0.0,
    subst (IsAmong all.0.0) (sym (called_sent who one ends)) (among_front all.0.0 ends.sent (more_sent who one ends) all.0.1),
    all.0.2,
    all.0.3 ∙ sym (called_time who one ends),
  ),
  called_keeps who one ends others all.1,
)

pub run_keeps : (who : Role) (calls : List Call) (ends : Ends) (list : List (List ℕ)) → AreSentNow ends list → AreSentNow (run (calls_at who calls) ends) list
run_keeps who [] ends list all = all
run_keeps who (one ∷ others) ends list all = run_keeps who others (called who one ends) list (called_keeps who one ends list all)

-- what a call hands out is sent
handed_sent : (ends : Ends) (before : List Sent) (who : Role) (connection : Option ℕ) (list : List (List ℕ)) → ends.sent ≡ before ++ handed_out ends.time who connection list → AreSentNow ends list
handed_sent ends before who connection [] is = tt
handed_sent ends before who connection (bytes ∷ others) is =
    let first : List Sent = handed_out ends.time who connection (bytes ∷ [])
    in (
      (
        one_sent connection,
        subst (IsAmong (one_sent connection)) (sym is) (among_back (one_sent connection) before (handed_out ends.time who connection (bytes ∷ others)) (is_first connection)),
        bytes_is connection,
        time_is connection,
      ),
      handed_sent ends (before ++ first) who connection others (is ∙ sym (append_assoc before first (handed_out ends.time who connection others))),
    )
  where
    one_sent : Option ℕ → Sent
    one_sent None = record { bytes = bytes; at = ends.time; sender = who; connection = 0; is_lost = false }
    one_sent (Some number) = record { bytes = bytes; at = ends.time; sender = who; connection = number; is_lost = false }

    is_first : (connection : Option ℕ) → IsAmong (one_sent connection) (handed_out ends.time who connection (bytes ∷ others))
    is_first None = inl refl
    is_first (Some number) = inl refl

    bytes_is : (connection : Option ℕ) → (one_sent connection).bytes ≡ bytes
    bytes_is None = refl
    bytes_is (Some number) = refl

    time_is : (connection : Option ℕ) → (one_sent connection).at ≡ ends.time
    time_is None = refl
    time_is (Some number) = refl

called_sends : (who : Role) (one : Call) (ends : Ends) → AreSentNow (called who one ends) (spellings (end_of who ends).link.identity.key (outcome one ends.moment (end_of who ends)).pdus)
called_sends who one ends =
    handed_sent (called who one ends) ends.sent who (end_after (outcome one ends.moment (end_of who ends)) ends.moment (end_of who ends)).connection
    (spellings (end_of who ends).link.identity.key (outcome one ends.moment (end_of who ends)).pdus)
    (called_sent who one ends ∙ ap (λ (time : ℕ). ends.sent ++ handed_out time who (end_after (outcome one ends.moment (end_of who ends)) ends.moment (end_of who ends)).connection
    (spellings (end_of who ends).link.identity.key (outcome one ends.moment (end_of who ends)).pdus)) (sym (called_time who one ends)))

same_pdus : (one : Call) (moment : ℕ) (end : EndState) → (outcome one moment end).pdus ≡ (made_by (reading_of end.clock) one end.link).pdus
unfolding outcome made_by
same_pdus Ticks moment end = refl
same_pdus Opens moment end = refl
same_pdus (Closes why) moment end = refl
same_pdus (Sends item) moment end = refl
same_pdus (Receives bytes connection) moment end = refl

one_link : Laws → (who : Role) (one : Call) (ends : Ends) → (end_of who (called who one ends)).link ≡ (made_by (reading_of (end_of who ends).clock) one (end_of who ends).link).link
unfolding all_made
one_link laws who one ends = (laws.after_calls who (one ∷ []) ends).link

one_clock : Laws → (who : Role) (one : Call) (ends : Ends) → (end_of who (called who one ends)).clock ≡ (end_of who ends).clock
one_clock laws who one ends = (laws.after_calls who (one ∷ []) ends).clock

-- what calls hand out is sent
pub run_sends : Laws → (who : Role) (calls : List Call) (ends : Ends) (now : ℕ) (link : LinkState) → now ≡ reading_of (end_of who ends).clock → link ≡ (end_of who ends).link
    → AreSentNow (run (calls_at who calls) ends) (bytes_of now calls link)
run_sends laws who [] ends now link at is = tt
run_sends laws who (one ∷ others) ends now link at is =
    let next : Ends = called who one ends
    in let here : spellings (end_of who ends).link.identity.key (outcome one ends.moment (end_of who ends)).pdus ≡ spellings link.identity.key (made_by now one link).pdus =
    ap (λ (pdus : List _). spellings (end_of who ends).link.identity.key pdus) (same_pdus one ends.moment (end_of who ends))
    ∙ (ap (λ (l : LinkState). spellings l.identity.key (made_by (reading_of (end_of who ends).clock) one l).pdus) (sym is)
    ∙ ap (λ (n : ℕ). spellings link.identity.key (made_by n one link).pdus) (sym at))
    in let link_then : (made_by now one link).link ≡ (end_of who next).link =
    ap (λ (n : ℕ). (made_by n one link).link) at ∙ (ap (λ (l : LinkState). (made_by (reading_of (end_of who ends).clock) one l).link) is ∙ sym (one_link laws who one ends))
    in both_sent (run (calls_at who others) next) (spellings link.identity.key (made_by now one link).pdus) (bytes_of now others (made_by now one link).link)
    (run_keeps who others next (spellings link.identity.key (made_by now one link).pdus)
    (subst (AreSentNow next) here (called_sends who one ends)))
    (run_sends laws who others next now (made_by now one link).link (at ∙ ap reading_of (sym (one_clock laws who one ends))) link_then)

-- ---- what a host makes, at its end

-- Own calls of an end have led from these two ends to those, and by them these messages are given.
pub record HasMade (names : Names) (who : Role) (old new : Ends) (talk next : TalkState) (said : List LineMessage) : Type 0 where
  pub ends : AreEnds names new
  pub link : next.link ≡ (end_of who new).link
  pub clock : (end_of who new).clock ≡ (end_of who old).clock
  pub time : new.time ≡ old.time
  pub partner : end_of (partner_of who) new ≡ end_of (partner_of who) old
  pub connection : (end_of who new).connection ≡ (end_of who old).connection
  pub given : (end_of who new).given ≡ (end_of who old).given ++ map (writing talk.own_name talk.peer_name) said
  pub taken : (end_of who new).taken ≡ (end_of who old).taken
  -- what was sent stays so
  pub among : (datagram : Sent) → IsAmong datagram old.sent → IsAmong datagram new.sent
  -- what was handed out, now and before, is sent
  pub sent : AreSentNow old talk.outbox.datagrams → AreSentNow new next.outbox.datagrams

-- where none of the calls enters a connection
pub made_by_calls : Laws → (names : Names) (who : Role) (old : Ends) (talk next : TalkState) (said : List LineMessage) (calls : List Call) → AreNames names → AreEnds names old
    → talk.link ≡ (end_of who old).link → MayRun names (calls_at who calls) old → EnterNone (reading_of (end_of who old).clock) calls (end_of who old).link
    → next.link ≡ (all_made (reading_of (end_of who old).clock) calls talk.link).link
    → (all_made (reading_of (end_of who old).clock) calls talk.link).given ≡ map (writing talk.own_name talk.peer_name) said
    → (all_made (reading_of (end_of who old).clock) calls talk.link).taken ≡ []
    → next.outbox.datagrams ≡ talk.outbox.datagrams ++ bytes_of (reading_of (end_of who old).clock) calls talk.link
    → HasMade names who old (run (calls_at who calls) old) talk next said
made_by_calls laws names who old talk next said calls are ends link may none link_is given_is taken_is bytes_is =
    let now : ℕ = reading_of (end_of who old).clock
    in let after = laws.after_calls who calls old
    in let stays = laws.stays who calls old none
    in record {
      ends = record {
        timely = laws.run_timely names (calls_at who calls) old are ends.timely may;
        ordered = laws.run_ordered names (calls_at who calls) old are ends.timely ends.ordered may;
      };
      link = link_is ∙ (ap (λ (l : LinkState). (all_made now calls l).link) link ∙ sym after.link);
      clock = after.clock;
      time = laws.time who calls old;
      partner = laws.partner who calls old;
      connection = stays.connection;
      given =
          stays.given
          ∙ ap (λ (list : List (List ℕ)). (end_of who old).given ++ list) (ap (λ (l : LinkState). (all_made now calls l).given) (sym link) ∙ given_is);
      taken =
          stays.taken
          ∙ (ap (λ (list : List (List ℕ)). (end_of who old).taken ++ list) (ap (λ (l : LinkState). (all_made now calls l).taken) (sym link) ∙ taken_is)
          ∙ append-nil (end_of who old).taken);
      among = run_among who calls old;
      sent = λ before.
          subst (AreSentNow (run (calls_at who calls) old)) (sym bytes_is)
          (both_sent (run (calls_at who calls) old) talk.outbox.datagrams (bytes_of now calls talk.link)
          (run_keeps who calls old talk.outbox.datagrams before) (run_sends laws who calls old now talk.link refl link));
    }

pub has_made : Laws → (names : Names) (who : Role) (old : Ends) (talk next : TalkState) (said : List LineMessage) → AreNames names → AreEnds names old
    → talk.link ≡ (end_of who old).link → (makes : Makes (reading_of (end_of who old).clock) talk next said)
    → HasMade names who old (run (calls_at who makes.calls) old) talk next said
has_made laws names who old talk next said are ends link makes =
    made_by_calls laws names who old talk next said makes.calls are ends link (own_may_run names who makes.calls old makes.own)
    (own_enters_none (reading_of (end_of who old).clock) makes.calls (end_of who old).link makes.own) makes.link makes.given makes.taken makes.bytes
