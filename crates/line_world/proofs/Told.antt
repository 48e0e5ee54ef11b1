-- An end looks: what it and the two ends of the link are when it has told its partner all.
use Rattle.std.proofs.Common.{◌≡◌, ◌∙◌, ◌++◌, ℕ, Bool, true, false, inl, inr, List, [], ◌∷◌, Some, ap, arith, map, refl, subst, sym, take}
use Rattle.std.specs.Prelude.{◌⊎◌}
use Rattle.std.proofs.lemmas.Bool.{false≢true}
use Rattle.std.proofs.lemmas.List.{append-nil, map-append}
use Rattle.line_host.specs.Host.{role_of}
use Rattle.line_host.specs.Talk.{TalkState, is_agreed, is_joined}
use Rattle.line_laws.specs.declared.words.Item.{Item}
use Rattle.line_laws.specs.declared.words.Side.{Side}
use Rattle.line_laws.specs.declared.words.Side.TheVariants.{First, Second}
use Rattle.line_telegram.specs.declared.greeting.Stage.{Stage}
use Rattle.line_telegram.specs.declared.greeting.Stage.TheVariants.{Agreed, AwaitsAnswer, AwaitsCheck, Differs, Outside}
use Rattle.line_telegram.specs.declared.message.LineMessage.{LineMessage}
use Rattle.line_telegram.specs.declared.message.LineMessage.TheVariants.{Line}
use Rattle.line_world.specs.Names.{AreLineNames, link_names, other}
use Rattle.line_world.specs.declared.names.LineNames.{LineNames}
use Rattle.line_world.specs.inside.Laws.{Laws}
use Rattle.rasta_core.specs.Ends.{EndState, Opens, reading_of}
use Rattle.rasta_core.specs.Events.{run}
use Rattle.rasta_core.specs.Outbox.{spellings}
use Rattle.rasta_core.specs.Run.{Ends, end_of}
use Rattle.rasta_core.specs.State.{LinkState, is_client, is_open, is_up}
use Rattle.rasta_core.specs.Steps.{calls_at}
use Rattle.rasta_core.specs.identity.Role.{Role}
use Rattle.rasta_core.specs.identity.Role.TheVariants as role
use Rattle.line_world.proofs.Below.{EnterNone, all_made, beating, called, end_after, enters_by, giving_all, made_by, opened, opening, opens, outcome, posted}
use Rattle.line_world.proofs.AtEnds.{AreEnds, AreSentNow, both_sent, made_by_calls, run_among, run_keeps, run_sends}
use Rattle.line_world.proofs.Heard.{IsAt, MadeOn, OnTheSide, by_made, made_on, named_so}
use Rattle.line_world.proofs.Hears.{greeting_of, up_is_open}
use Rattle.line_world.proofs.Makes.{Gives, Makes, beating_keeps, bytes_of, giving_keeps, makes_beating, makes_giving}
use Rattle.line_world.proofs.Receipts.{HasOpened, both_of, opening_stays, opens_so}
use Rattle.line_world.proofs.Stages.{IsStaged, more_is_none}
use Rattle.line_world.proofs.Talked.{AreSame, IsAtStage, IsSaid, IsTalked, Talked, awaits_answer, awaits_check, begins, begun_with, far_end, has_agreed, near_end, nothing, nothing_said, saying_more}

-- ---- stages

agreed_stage : (s : Stage) → is_agreed s ≡ true → s ≡ Agreed
agreed_stage Outside is = absurd (false≢true is)
agreed_stage AwaitsCheck is = absurd (false≢true is)
agreed_stage AwaitsAnswer is = absurd (false≢true is)
agreed_stage Agreed is = refl
agreed_stage Differs is = absurd (false≢true is)

pub joined_up : (talk : TalkState) → is_joined talk ≡ true → is_up talk.link.phase ≡ true
joined_up talk joined = (both_of (is_up talk.link.phase) (is_agreed talk.greeting.stage) joined).0

pub joined_open : (talk : TalkState) → is_joined talk ≡ true → is_open talk.link.phase ≡ true
joined_open talk joined = up_is_open talk.link.phase (joined_up talk joined)

-- what an end has said and heard that is joined
pub record HasAgreed (side : Side) (own : Talked) : Type 0 where
  pub said : List Item
  pub heard : List Item
  pub said_is : own.said ≡ begun_with side said
  pub heard_is : own.heard ≡ begun_with (other side) heard

not_check : AwaitsCheck ≡ Agreed → ⊥
not_check is = cc

not_answer : AwaitsAnswer ≡ Agreed → ⊥
not_answer is = cc

pub joined_so : (side : Side) (talk : TalkState) (own : Talked) → IsStaged side talk own → is_joined talk ≡ true → HasAgreed side own
joined_so side talk own staged joined = by_stage (staged.up (joined_up talk joined))
  where
    stage : talk.greeting.stage ≡ Agreed
    stage = agreed_stage talk.greeting.stage (both_of (is_up talk.link.phase) (is_agreed talk.greeting.stage) joined).1

    by_stage : IsAtStage side talk.greeting.stage own → HasAgreed side own
    by_stage (awaits_check is at said heard) = absurd (not_check (sym at ∙ stage))
    by_stage (awaits_answer is at said heard) = absurd (not_answer (sym at ∙ stage))
    by_stage (has_agreed at said heard own_said own_heard) = record { said = said; heard = heard; said_is = own_said; heard_is = own_heard }

-- one that is in a connection, and has heard something there, is joined
pub heard_joined : (side : Side) (talk : TalkState) (own : Talked) → IsStaged side talk own → is_open talk.link.phase ≡ true → (own.heard ≡ [] → ⊥) → is_joined talk ≡ true
heard_joined side talk own staged opened some = by_up (is_up talk.link.phase) refl
  where
    by_stage : is_up talk.link.phase ≡ true → IsAtStage side talk.greeting.stage own → is_joined talk ≡ true
    by_stage up (awaits_check is at said heard) = absurd (some heard)
    by_stage up (awaits_answer is at said heard) = absurd (some heard)
    by_stage up (has_agreed at said heard own_said own_heard) = rw (up, at) refl

    by_up : (b : Bool) → is_up talk.link.phase ≡ b → is_joined talk ≡ true
    by_up true up = by_stage up (staged.up up)
    by_up false down = absurd (some (ap (λ (o : Talked). o.heard) (staged.starting opened down)))

-- a link in a connection after own calls is at the stage at which it was
pub staged_on : {now : ℕ} {side : Side} {talk next : TalkState} {said : List LineMessage} (own then : Talked) → Makes now talk next said → next.greeting ≡ talk.greeting
    → IsStaged side talk own → (is_up talk.link.phase ≡ true → IsAtStage side talk.greeting.stage own → IsAtStage side talk.greeting.stage then)
    → (own ≡ nothing_said → then ≡ nothing_said) → IsStaged side next then
staged_on {side = side} {talk = talk} {next = next} own then makes greeting staged stage none = record {
  side_is = ap (λ (g : _). g.side) greeting ∙ staged.side_is;
  version = ap (λ (g : _). g.version) greeting ∙ staged.version;
  up = λ up.
      let was : is_up talk.link.phase ≡ true = ap is_up (sym (makes.stays (up_is_open next.link.phase up))) ∙ up
      in subst (λ (g : _). IsAtStage side g.stage then) (sym greeting) (stage was (staged.up was));
  starting = λ opened down. none (staged.starting (ap is_open (sym (makes.stays opened)) ∙ opened) (ap is_up (sym (makes.stays opened)) ∙ down));
}

-- ---- it gives its items

-- It has given so many of them, and all of them where it is in a connection then.
pub record HasGiven (names : LineNames) (side : Side) (now : ℕ) (old : Ends) (items : List Item) (next : TalkState) (own far : Talked) : Type 0 where
  pub count : ℕ
  pub made : MadeOn names side now old next (saying_more (map Line (take count items)) own) far
  pub staged : IsStaged side next (saying_more (map Line (take count items)) own)
  pub all : is_open next.link.phase ≡ true → take count items ≡ items
  pub shut : is_open (near_end side old).link.phase ≡ false → is_open next.link.phase ≡ false

pub gives_joined : Laws → (names : LineNames) (side : Side) (now : ℕ) (old : Ends) (talk : TalkState) (own far : Talked) (items : List Item) → AreLineNames names
    → IsAt names side now old talk own far → IsStaged side talk own → is_joined talk ≡ true → HasGiven names side now old items (giving_all now items talk) own far
gives_joined laws names side now old talk own far items are at staged joined =
    let agreed : HasAgreed side own = joined_so side talk own staged joined
    in let gives : Gives now items talk = makes_giving laws.item now items talk (named_so are at)
    in let more : List Item = take gives.count items
    in let said : own.said ++ map Line more ≡ begun_with side (agreed.said ++ more) =
    ap (λ (list : List LineMessage). list ++ map Line more) agreed.said_is ∙ ap (λ (list : List LineMessage). greeting_of side ∷ list) (sym (map-append Line agreed.said more))
    in record {
      count = gives.count;
      made = made_on laws names side now old talk (giving_all now items talk) own far (map Line more) are at gives.makes (begins (agreed.said ++ more) said);
      staged = staged_on own (saying_more (map Line more) own) gives.makes (giving_keeps now items talk) staged
          (λ up stage. has_agreed (agreed_stage talk.greeting.stage (both_of (is_up talk.link.phase) (is_agreed talk.greeting.stage) joined).1) (agreed.said ++ more) agreed.heard said agreed.heard_is)
          (λ none. absurd (not_nothing agreed.heard (sym agreed.heard_is ∙ ap (λ (o : Talked). o.heard) none)));
      all = gives.all (joined_up talk joined);
      shut = λ shut. absurd (false≢true (sym shut ∙ (ap (λ (l : LinkState). is_open l.phase) (sym at.link) ∙ joined_open talk joined)));
    }
  where
    not_nothing : (heard : List Item) → begun_with (other side) heard ≡ [] → ⊥
    not_nothing heard is = cc

-- ---- a tick: a heartbeat, and perhaps a request

-- it is in the connection that it was in, or left it, or is in none as before
pub record HasKept (side : Side) (old new : Ends) (talk next : TalkState) : Type 0 where
  pub connection : (near_end side new).connection ≡ (near_end side old).connection
  pub stays : is_open next.link.phase ≡ true → next.link.phase ≡ talk.link.phase

-- it has asked for a connection
pub record HasAsked (side : Side) (old new : Ends) (talk next : TalkState) (own : Talked) : Type 0 where
  pub first : side ≡ First
  pub shut : is_open talk.link.phase ≡ false
  pub out : is_open (far_end side old).link.phase ≡ false
  pub anew : own ≡ nothing_said
  pub apart : AreSame new → ⊥
  pub asks : is_open next.link.phase ≡ true
  pub unanswered : is_up next.link.phase ≡ false

pub record HasTicked (names : LineNames) (side : Side) (now : ℕ) (old : Ends) (talk next : TalkState) (own far : Talked) : Type 0 where
  pub ends : Ends
  pub then : Talked
  pub at : IsAt names side now ends next then far
  pub staged : IsStaged side next then
  pub on : OnTheSide side old ends
  pub entry : HasAsked side old ends talk next then ⊎ (HasKept side old ends talk next × (then ≡ own))

pub beats_on : Laws → (names : LineNames) (side : Side) (now : ℕ) (old : Ends) (talk : TalkState) (own far : Talked) → AreLineNames names → IsAt names side now old talk own far
    → IsStaged side talk own → HasTicked names side now old talk (beating now talk) own far
beats_on laws names side now old talk own far are at staged =
    let makes : Makes now talk (beating now talk) [] = makes_beating now talk
    in let made : MadeOn names side now old (beating now talk) (saying_more [] own) far =
    made_on laws names side now old talk (beating now talk) own far [] are at makes (subst (IsSaid side) (sym (append-nil own.said)) at.linked.own_shape)
    in record {
      ends = made.ends;
      then = own;
      at = subst (λ (o : Talked). IsAt names side now made.ends (beating now talk) o far) (more_is_none own) made.at;
      staged = staged_on own own makes (beating_keeps now talk) staged (λ up stage. stage) (λ none. none);
      on = made.on;
      entry = inr (record { connection = made.connection; stays = makes.stays }, refl);
    }

-- ---- a request

opening_made : (now : ℕ) (talk : TalkState) → ((opened now talk).link ≡ (all_made now (Opens ∷ []) talk.link).link) × ((all_made now (Opens ∷ []) talk.link).given ≡ [])
    × ((all_made now (Opens ∷ []) talk.link).taken ≡ []) × ((opened now talk).outbox.datagrams ≡ talk.outbox.datagrams ++ bytes_of now (Opens ∷ []) talk.link)
unfolding opened all_made made_by posted
opening_made now talk = (
  refl,
  refl,
  refl,
  ap (λ (list : List (List ℕ)). talk.outbox.datagrams ++ list) (sym (append-nil (spellings talk.link.identity.key (opening now talk.link).pdus))),
)

pub opening_keeps : (now : ℕ) (talk : TalkState) → ((opened now talk).greeting ≡ talk.greeting) × ((opened now talk).own_name ≡ talk.own_name) × ((opened now talk).peer_name ≡ talk.peer_name)
    × ((opened now talk).link ≡ (opening now talk.link).link)
unfolding opened
opening_keeps now talk = (refl, refl, refl, refl)

opens_none : (now : ℕ) (link : LinkState) → opens now link ≡ false → EnterNone now (Opens ∷ []) link
unfolding EnterNone enters_by
opens_none now link denied = (denied, tt)

asked_so : (who : Role) (ends : Ends) → opens (reading_of (end_of who ends).clock) (end_of who ends).link ≡ true → let new = end_of who (called who Opens ends)
    in (new.connection ≡ Some ends.moment) × (new.given ≡ []) × (new.taken ≡ [])
unfolding called end_after outcome
asked_so role.Client ends is = (rw is refl, rw is refl, rw is refl)
asked_so role.Server ends is = (rw is refl, rw is refl, rw is refl)

-- only the first end asks
first_by : (names : LineNames) (side : Side) (ends : Ends) → AreEnds (link_names names) ends → is_client (near_end side ends).link.identity.role ≡ true → side ≡ First
first_by names First ends are client = refl
first_by names Second ends are client = absurd (false≢true (sym (ap (λ (i : _). is_client i.role) are.timely.server.identity) ∙ client))

-- the client has asked for a connection
asks_first : Laws → (names : LineNames) (old : Ends) (talk : TalkState) (own far : Talked) → AreLineNames names → IsAt names First (reading_of old.client.clock) old talk own far
    → IsStaged First talk own → opens (reading_of old.client.clock) old.client.link ≡ true
    → HasTicked names First (reading_of old.client.clock) old talk (opened (reading_of old.client.clock) talk) own far
asks_first laws names old talk own far are at staged may = so
  where
    now : ℕ
    now = reading_of old.client.clock

    new : Ends
    new = run (calls_at role.Client (Opens ∷ [])) old

    next : TalkState
    next = opened now talk

    keeps : (next.greeting ≡ talk.greeting) × (next.own_name ≡ talk.own_name) × (next.peer_name ≡ talk.peer_name) × (next.link ≡ (opening now talk.link).link)
    keeps = opening_keeps now talk

    has : HasOpened now old.client.link
    has = opens_so laws.enters_out now old.client.link (laws.are_settled (link_names names) old role.Client at.linked.are.timely) may

    ends : AreEnds (link_names names) new
    ends = record {
      timely = laws.run_timely (link_names names) (calls_at role.Client (Opens ∷ [])) old are.link at.linked.are.timely (tt, tt);
      ordered = laws.run_ordered (link_names names) (calls_at role.Client (Opens ∷ [])) old are.link at.linked.are.timely at.linked.are.ordered (tt, tt);
    }

    then : (new.client.connection ≡ Some old.moment) × (new.client.given ≡ []) × (new.client.taken ≡ [])
    then = asked_so role.Client old may

    far_same : new.server ≡ old.server
    far_same = laws.partner role.Client (Opens ∷ []) old

    apart : AreSame new → ⊥
    apart same = omega (
      arith,
      laws.counted (link_names names) old role.Server old.moment at.linked.are.timely
          (ap (λ (e : EndState). e.connection) (sym far_same) ∙ (same ∙ then.0)),
    )

    link : next.link ≡ new.client.link
    link = (opening_made now talk).0 ∙ (ap (λ (l : LinkState). (all_made now (Opens ∷ []) l).link) at.link ∙ sym (laws.after_calls role.Client (Opens ∷ []) old).link)

    phase : next.link.phase ≡ (opening now old.client.link).link.phase
    phase = ap (λ (l : LinkState). l.phase) keeps.3 ∙ ap (λ (l : LinkState). (opening now l).link.phase) at.link

    asks : is_open next.link.phase ≡ true
    asks = ap is_open phase ∙ has.asks

    unanswered : is_up next.link.phase ≡ false
    unanswered = ap is_up phase ∙ has.unanswered

    so : HasTicked names First now old talk next own far
    so = record {
      ends = new;
      then = nothing_said;
      at = record {
        linked = record {
          are = ends;
          own_talks = record { given = then.1; taken = then.2 };
          far_talks = subst (λ (e : EndState). IsTalked names Second e far) (sym far_same) at.linked.far_talks;
          own_shape = nothing refl;
          far_shape = at.linked.far_shape;
          there = λ same. absurd (apart same);
          back = λ same. absurd (apart same);
        };
        now_is = ap reading_of (laws.after_calls role.Client (Opens ∷ []) old).clock;
        link = link;
        own_name = keeps.1 ∙ at.own_name;
        peer_name = keeps.2 ∙ at.peer_name;
        sent = subst (AreSentNow new) (sym (opening_made now talk).3)
            (both_sent new talk.outbox.datagrams (bytes_of now (Opens ∷ []) talk.link) (run_keeps role.Client (Opens ∷ []) old talk.outbox.datagrams at.sent)
            (run_sends laws role.Client (Opens ∷ []) old now talk.link refl at.link));
      };
      staged = record {
        side_is = ap (λ (g : _). g.side) keeps.0 ∙ staged.side_is;
        version = ap (λ (g : _). g.version) keeps.0 ∙ staged.version;
        up = λ up. absurd (false≢true (sym unanswered ∙ up));
        starting = λ still down. refl;
      };
      on = record {
        clock = (laws.after_calls role.Client (Opens ∷ []) old).clock;
        time = laws.time role.Client (Opens ∷ []) old;
        far_same = far_same;
        among = run_among role.Client (Opens ∷ []) old;
      };
      entry = inl (record {
        first = refl;
        shut = ap (λ (l : LinkState). is_open l.phase) at.link ∙ has.shut;
        out = laws.server_out (link_names names) old at.linked.are.timely has.down;
        anew = refl;
        apart = apart;
        asks = asks;
        unanswered = unanswered;
      });
    }

opens_no : Laws → (names : LineNames) (side : Side) (old : Ends) (talk : TalkState) (own far : Talked) → AreLineNames names
    → IsAt names side (reading_of (near_end side old).clock) old talk own far → IsStaged side talk own → opens (reading_of (near_end side old).clock) talk.link ≡ false
    → HasTicked names side (reading_of (near_end side old).clock) old talk (opened (reading_of (near_end side old).clock) talk) own far
opens_no laws names side old talk own far are at staged denied =
    let now : ℕ = reading_of (near_end side old).clock
    in let keeps = opening_keeps now talk
    in let call = opening_made now talk
    in let made : MadeOn names side now old (opened now talk) (saying_more [] own) far =
    by_made names side now old (run (calls_at (role_of side) (Opens ∷ [])) old) talk (opened now talk) own far [] at
    (made_by_calls laws (link_names names) (role_of side) old talk (opened now talk) [] (Opens ∷ []) are.link at.linked.are at.link (tt, tt)
    (opens_none now (near_end side old).link (ap (opens now) (sym at.link) ∙ denied)) call.0 call.1 call.2 call.3) keeps.1 keeps.2
    (subst (IsSaid side) (sym (append-nil own.said)) at.linked.own_shape)
    in let stays : is_open (opened now talk).link.phase ≡ true → (opened now talk).link.phase ≡ talk.link.phase =
    λ still. ap (λ (l : LinkState). l.phase) keeps.3 ∙ opening_stays now talk.link denied (ap (λ (l : LinkState). is_open l.phase) (sym keeps.3) ∙ still)
    in record {
      ends = made.ends;
      then = own;
      at = subst (λ (o : Talked). IsAt names side now made.ends (opened now talk) o far) (more_is_none own) made.at;
      staged = record {
        side_is = ap (λ (g : _). g.side) keeps.0 ∙ staged.side_is;
        version = ap (λ (g : _). g.version) keeps.0 ∙ staged.version;
        up = λ up. subst (λ (g : _). IsAtStage side g.stage own) (sym keeps.0) (staged.up (ap is_up (sym (stays (up_is_open (opened now talk).link.phase up))) ∙ up));
        starting = λ still down. staged.starting (ap is_open (sym (stays still)) ∙ still) (ap is_up (sym (stays still)) ∙ down);
      };
      on = made.on;
      entry = inr (record { connection = made.connection; stays = stays }, refl);
    }

opens_yes : Laws → (names : LineNames) (side : Side) (old : Ends) (talk : TalkState) (own far : Talked) → AreLineNames names
    → IsAt names side (reading_of (near_end side old).clock) old talk own far → IsStaged side talk own → opens (reading_of (near_end side old).clock) talk.link ≡ true
    → HasTicked names side (reading_of (near_end side old).clock) old talk (opened (reading_of (near_end side old).clock) talk) own far
opens_yes laws names side old talk own far are at staged granted = by_side side first at staged opens_here
  where
    opens_here : opens (reading_of (near_end side old).clock) (near_end side old).link ≡ true
    opens_here = ap (opens (reading_of (near_end side old).clock)) (sym at.link) ∙ granted

    has : HasOpened (reading_of (near_end side old).clock) (near_end side old).link
    has = opens_so laws.enters_out (reading_of (near_end side old).clock) (near_end side old).link (laws.are_settled (link_names names) old (role_of side) at.linked.are.timely) opens_here

    first : side ≡ First
    first = first_by names side old at.linked.are has.client

    by_side : (s : Side) → s ≡ First → IsAt names s (reading_of (near_end s old).clock) old talk own far → IsStaged s talk own
        → opens (reading_of (near_end s old).clock) (near_end s old).link ≡ true
        → HasTicked names s (reading_of (near_end s old).clock) old talk (opened (reading_of (near_end s old).clock) talk) own far
    by_side First is here stage may = asks_first laws names old talk own far are here stage may
    by_side Second is here stage may = absurd (not_first is)
      where
        not_first : Second ≡ First → ⊥
        not_first denied = cc

pub opens_on : Laws → (names : LineNames) (side : Side) (now : ℕ) (old : Ends) (talk : TalkState) (own far : Talked) → AreLineNames names → IsAt names side now old talk own far
    → IsStaged side talk own → HasTicked names side now old talk (opened now talk) own far
opens_on laws names side now old talk own far are at staged =
    subst (λ (n : ℕ). HasTicked names side n old talk (opened n talk) own far) at.now_is (by_opens (opens (reading_of (near_end side old).clock) talk.link) refl)
  where
    here : IsAt names side (reading_of (near_end side old).clock) old talk own far
    here = subst (λ (n : ℕ). IsAt names side n old talk own far) (sym at.now_is) at

    by_opens : (b : Bool) → opens (reading_of (near_end side old).clock) talk.link ≡ b
        → HasTicked names side (reading_of (near_end side old).clock) old talk (opened (reading_of (near_end side old).clock) talk) own far
    by_opens true granted = opens_yes laws names side old talk own far are here staged granted
    by_opens false denied = opens_no laws names side old talk own far are here staged denied
