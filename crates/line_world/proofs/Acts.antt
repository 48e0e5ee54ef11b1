-- What a host makes of the messages that a datagram brought.
use Rattle.std.proofs.Common.{◌≡◌, ◌∙◌, ◌++◌, ℕ, Bool, true, false, inl, inr, List, [], ◌∷◌, ap, map, refl, subst, sym}
use Rattle.std.specs.Prelude.{◌⊎◌}
use Rattle.std.proofs.lemmas.Bool.{false≢true}
use Rattle.std.proofs.lemmas.List.{append-nil, append_assoc, map-append}
use Rattle.line_host.specs.Talk.{TalkSoFar, TalkState}
use Rattle.line_laws.specs.declared.words.Item.{Item}
use Rattle.line_laws.specs.declared.words.Side.{Side}
use Rattle.line_laws.specs.declared.words.Side.TheVariants.{First, Second}
use Rattle.line_telegram.specs.Greetings.{GreetingState}
use Rattle.line_telegram.specs.LineMessages.{writing}
use Rattle.line_telegram.specs.declared.greeting.Stage.TheVariants.{Agreed, AwaitsAnswer, AwaitsCheck}
use Rattle.line_telegram.specs.declared.message.LineMessage.{LineMessage}
use Rattle.line_telegram.specs.declared.message.LineMessage.TheVariants.{Line}
use Rattle.line_world.specs.Names.{other}
use Rattle.line_world.specs.declared.names.TheConstants.{VERSION}
use Rattle.rasta_core.specs.State.{is_open, is_up}
use Rattle.line_world.proofs.Below.{acting_all}
use Rattle.line_world.proofs.Hears.{SecondHears, agreed_with, closed_drops, first_hears, greeting_of, items_taken, none_more, second_hears, up_is_open}
use Rattle.line_world.proofs.Makes.{AreNamed, Makes, WrittenIsItem, WrittenIsRead, makes_nothing}
use Rattle.line_world.proofs.Nodes.{items_are, items_of}
use Rattle.line_world.proofs.Received.{Splits, head_or, hearing_more, is_some_list, splits, tail_of}
use Rattle.line_world.proofs.Stages.{IsStaged, none_of_both, same_shape}
use Rattle.line_world.proofs.Talked.{Follows, IsAtStage, IsSaid, Talked, awaits_answer, awaits_check, begins, begun_with, has_agreed, nothing, saying_more}

-- ---- which messages those are

-- items of the line and nothing else
abbrev pub AreItems : List LineMessage → Type 0
AreItems messages = messages ≡ map Line (items_of messages)

items_back : (items : List Item) (front messages : List LineMessage) → map Line items ≡ front ++ messages → AreItems messages
items_back items [] messages is = sym is ∙ (ap (map Line) (sym (items_are items)) ∙ ap (λ (list : List LineMessage). map Line (items_of list)) is)
items_back [] (first ∷ front) messages is = absurd (false≢true (ap is_some_list is))
items_back (item ∷ items) (first ∷ front) messages is = items_back items front messages (ap tail_of is)

items_front : (items : List Item) (messages rest : List LineMessage) → map Line items ≡ messages ++ rest → AreItems messages
items_front items messages rest is =
    let split : Splits Line items messages = splits Line items messages rest is
    in split.images ∙ (ap (map Line) (sym (items_are split.some)) ∙ ap (λ (list : List LineMessage). map Line (items_of list)) (sym split.images))

-- the next of what was said, where the greeting was heard
after_greeting : (side : Side) (items heard : List Item) (messages rest : List LineMessage) → begun_with side items ≡ (begun_with side heard ++ messages) ++ rest → AreItems messages
after_greeting side items heard messages rest is =
    items_front (items_of (messages ++ rest)) messages rest
    (sym (items_back items (map Line heard) (messages ++ rest) (ap tail_of is ∙ append_assoc (map Line heard) messages rest)))

nothing_then : (side : Side) (heard : List Item) (messages rest : List LineMessage) → [] ≡ (begun_with side heard ++ messages) ++ rest → ⊥
nothing_then side heard messages rest is = false≢true (ap is_some_list is)

-- the first that is said is the greeting
greeting_first : (side : Side) (items : List Item) (first : LineMessage) (messages rest : List LineMessage) → begun_with side items ≡ (first ∷ messages) ++ rest
    → (first ≡ greeting_of side) × AreItems messages
greeting_first side items first messages rest is = (sym (ap (head_or first) is), items_front items messages rest (ap tail_of is))

-- ---- what is made of them

pub record HasActed (now : ℕ) (side : Side) (talk : TalkState) (own : Talked) (messages : List LineMessage) (after : TalkSoFar) : Type 0 where
  pub said : List LineMessage
  pub makes : Makes now talk after.talk said
  pub staged : IsStaged side after.talk (hearing_more messages (saying_more said own))
  pub shape : IsSaid side own.said → IsSaid side (own.said ++ said)
  -- where it is in a connection then, the end of the line was told the items
  pub told : is_open after.talk.link.phase ≡ true → items_of messages ≡ after.taken
  pub no_items : items_of said ≡ []

-- what came as the items of a datagram
abbrev pub acted_by : (now : ℕ) → TalkState → List LineMessage → TalkSoFar
acted_by now talk messages = acting_all now (map (writing talk.peer_name talk.own_name) messages) (record { talk = talk; taken = [] })

acted_shut : (now : ℕ) (side : Side) (talk : TalkState) (own : Talked) (messages : List LineMessage) → is_open talk.link.phase ≡ false → IsStaged side talk own
    → HasActed now side talk own messages (record { talk = talk; taken = [] })
acted_shut now side talk own messages shut staged = record {
  said = [];
  makes = makes_nothing now talk talk refl refl refl refl;
  staged = record {
    side_is = staged.side_is;
    version = staged.version;
    up = λ up. absurd (false≢true (sym shut ∙ up_is_open talk.link.phase up));
    starting = λ opened down. absurd (false≢true (sym shut ∙ opened));
  };
  shape = same_shape own;
  told = λ opened. absurd (false≢true (sym shut ∙ opened));
  no_items = refl;
}

acted_none : (now : ℕ) (side : Side) (talk : TalkState) (own : Talked) → IsStaged side talk own → HasActed now side talk own [] (record { talk = talk; taken = [] })
acted_none now side talk own staged = record {
  said = [];
  makes = makes_nothing now talk talk refl refl refl refl;
  staged = subst (IsStaged side talk) (sym (none_of_both own)) staged;
  shape = same_shape own;
  told = λ opened. refl;
  no_items = refl;
}

-- where both have agreed
acted_agreed : WrittenIsRead → (now : ℕ) (side : Side) (talk : TalkState) (own : Talked) (items : List Item) → AreNamed talk → is_up talk.link.phase ≡ true → IsStaged side talk own
    → talk.greeting.stage ≡ Agreed → (said heard : List Item) → own.said ≡ begun_with side said → own.heard ≡ begun_with (other side) heard
    → HasActed now side talk own (map Line items) (acted_by now talk (map Line items))
acted_agreed read now side talk own items named up staged stage said heard own_said own_heard =
    subst (HasActed now side talk own (map Line items)) (sym (items_taken read now items [] talk named (up_is_open talk.link.phase up) stage)) (record {
      said = [];
      makes = makes_nothing now talk talk refl refl refl refl;
      staged = record {
        side_is = staged.side_is;
        version = staged.version;
        up = λ again. has_agreed stage said (heard ++ items) (append-nil own.said ∙ own_said)
            (ap (λ (list : List LineMessage). list ++ map Line items) own_heard ∙ ap (λ (list : List LineMessage). greeting_of (other side) ∷ list) (sym (map-append Line heard items)));
        starting = λ opened down. absurd (false≢true (sym down ∙ up));
      };
      shape = same_shape own;
      told = λ opened. items_are items;
      no_items = refl;
    })

-- the first end hears the answer
acted_answered : WrittenIsRead → (now : ℕ) (talk : TalkState) (own : Talked) (items : List Item) → AreNamed talk → is_up talk.link.phase ≡ true → IsStaged First talk own
    → talk.greeting.stage ≡ AwaitsAnswer → own.said ≡ begun_with First [] → own.heard ≡ []
    → HasActed now First talk own (begun_with Second items) (acted_by now talk (begun_with Second items))
acted_answered read now talk own items named up staged stage own_said own_heard =
    subst (HasActed now First talk own (begun_with Second items)) (sym (first_hears read now items [] talk named (up_is_open talk.link.phase up) stage staged.version)) (record {
      said = [];
      makes = makes_nothing now talk (agreed_with talk) refl refl refl refl;
      staged = record {
        side_is = staged.side_is;
        version = staged.version;
        up = λ again. has_agreed refl [] items (append-nil own.said ∙ own_said) (ap (λ (list : List LineMessage). list ++ begun_with Second items) own_heard);
        starting = λ opened down. absurd (false≢true (sym down ∙ up));
      };
      shape = same_shape own;
      told = λ opened. items_are items;
      no_items = refl;
    })

-- the second end hears the question, and answers
acted_checked : WrittenIsRead → WrittenIsItem → (now : ℕ) (talk : TalkState) (own : Talked) (items : List Item) → AreNamed talk → is_up talk.link.phase ≡ true → IsStaged Second talk own
    → talk.greeting.stage ≡ AwaitsCheck → own.said ≡ [] → own.heard ≡ []
    → HasActed now Second talk own (begun_with First items) (acted_by now talk (begun_with First items))
acted_checked read item now talk own items named up staged stage own_said own_heard = by_given hears.given
  where
    after : TalkSoFar
    after = acted_by now talk (begun_with First items)

    hears : SecondHears now items [] talk after
    hears = second_hears read item now items [] talk named (up_is_open talk.link.phase up) stage staged.version

    side_then : after.talk.greeting.side ≡ Second
    side_then = ap (λ (g : GreetingState). g.side) hears.greeting ∙ staged.side_is

    version_then : after.talk.greeting.version ≡ VERSION
    version_then = ap (λ (g : GreetingState). g.version) hears.greeting ∙ staged.version

    by_given : ((hears.said ≡ greeting_of Second ∷ []) × (after.taken ≡ [] ++ items)) ⊎ ((hears.said ≡ []) × (is_open after.talk.link.phase ≡ false) × (after.taken ≡ []))
        → HasActed now Second talk own (begun_with First items) after
    by_given (inl given) =
        let said_then : own.said ++ hears.said ≡ begun_with Second [] =
        ap (λ (list : List LineMessage). list ++ hears.said) own_said ∙ given.0
        in record {
          said = hears.said;
          makes = hears.makes;
          staged = record {
            side_is = side_then;
            version = version_then;
            up = λ again. has_agreed (ap (λ (g : GreetingState). g.stage) hears.greeting) [] items said_then
                (ap (λ (list : List LineMessage). list ++ begun_with First items) own_heard);
            starting = λ opened down. absurd (false≢true (sym down ∙ (ap is_up (hears.makes.stays opened) ∙ up)));
          };
          shape = λ shape. begins [] said_then;
          told = λ opened. items_are items ∙ sym given.1;
          no_items = ap items_of given.0;
        }
    by_given (inr closed) = record {
      said = hears.said;
      makes = hears.makes;
      staged = record {
        side_is = side_then;
        version = version_then;
        up = λ again. absurd (false≢true (sym closed.1 ∙ up_is_open after.talk.link.phase again));
        starting = λ opened down. absurd (false≢true (sym closed.1 ∙ opened));
      };
      shape = λ shape. nothing (ap (λ (list : List LineMessage). list ++ hears.said) own_said ∙ closed.0);
      told = λ opened. absurd (false≢true (sym closed.1 ∙ opened));
      no_items = ap items_of closed.0;
    }

-- some messages, where the link is up
acted_some : WrittenIsRead → WrittenIsItem → (now : ℕ) (side : Side) (talk : TalkState) (own : Talked) (first : LineMessage) (messages said : List LineMessage) → AreNamed talk
    → is_up talk.link.phase ≡ true → IsStaged side talk own → IsSaid (other side) said → Follows said (own.heard ++ first ∷ messages) → IsAtStage side talk.greeting.stage own
    → HasActed now side talk own (first ∷ messages) (acted_by now talk (first ∷ messages))
acted_some read item now side talk own first messages said named up staged shape follows at = by_shape shape at
  where
    Acted : List LineMessage → Type 0
    Acted list = HasActed now side talk own list (acted_by now talk list)

    none_left : said ≡ [] → Acted (first ∷ messages)
    none_left none = absurd (false≢true (ap is_some_list (sym none ∙ follows.is) ∙ some_behind own.heard))
      where
        some_behind : (front : List LineMessage) → is_some_list ((front ++ first ∷ messages) ++ follows.rest) ≡ true
        some_behind [] = refl
        some_behind (one ∷ front) = refl

    so_begun : (s : Side) → (first ≡ greeting_of s) × AreItems messages → begun_with s (items_of messages) ≡ first ∷ messages
    so_begun s is = ap (λ (m : LineMessage). m ∷ map Line (items_of messages)) (sym is.0) ∙ ap (λ (list : List LineMessage). first ∷ list) (sym is.1)

    by_greeting_first : side ≡ First → talk.greeting.stage ≡ AwaitsAnswer → own.said ≡ begun_with side [] → own.heard ≡ [] → (first ≡ greeting_of (other side)) × AreItems messages → Acted (first ∷ messages)
    by_greeting_first side_is stage own_said own_heard is = at_side side side_is staged own_said is
      where
        at_side : (s : Side) → s ≡ First → IsStaged s talk own → own.said ≡ begun_with s [] → (first ≡ greeting_of (other s)) × AreItems messages
            → HasActed now s talk own (first ∷ messages) (acted_by now talk (first ∷ messages))
        at_side First same staged_so said_so greeting =
            subst (λ (list : List LineMessage). HasActed now First talk own list (acted_by now talk list)) (so_begun Second greeting)
            (acted_answered read now talk own (items_of messages) named up staged_so stage said_so own_heard)
        at_side Second same staged_so said_so greeting = absurd (not_first same)
          where
            not_first : Second ≡ First → ⊥
            not_first denied = cc

    by_greeting_second : side ≡ Second → talk.greeting.stage ≡ AwaitsCheck → own.said ≡ [] → own.heard ≡ [] → (first ≡ greeting_of (other side)) × AreItems messages → Acted (first ∷ messages)
    by_greeting_second side_is stage own_said own_heard is = at_side side side_is staged is
      where
        at_side : (s : Side) → s ≡ Second → IsStaged s talk own → (first ≡ greeting_of (other s)) × AreItems messages
            → HasActed now s talk own (first ∷ messages) (acted_by now talk (first ∷ messages))
        at_side Second same staged_so greeting =
            subst (λ (list : List LineMessage). HasActed now Second talk own list (acted_by now talk list)) (so_begun First greeting)
            (acted_checked read item now talk own (items_of messages) named up staged_so stage own_said own_heard)
        at_side First same staged_so greeting = absurd (not_second same)
          where
            not_second : First ≡ Second → ⊥
            not_second denied = cc

    by_stage : (items : List Item) → said ≡ begun_with (other side) items → IsAtStage side talk.greeting.stage own → Acted (first ∷ messages)
    by_stage items is (has_agreed stage own_items heard own_said own_heard) =
        let all : AreItems (first ∷ messages) =
        after_greeting (other side) items heard (first ∷ messages) follows.rest
        (sym is ∙ (follows.is ∙ ap (λ (list : List LineMessage). (list ++ first ∷ messages) ++ follows.rest) own_heard))
        in subst Acted (sym all) (acted_agreed read now side talk own (items_of (first ∷ messages)) named up staged stage own_items heard own_said own_heard)
    by_stage items is (awaits_answer side_is stage own_said own_heard) =
        by_greeting_first side_is stage own_said own_heard
        (greeting_first (other side) items first messages follows.rest (sym is ∙ (follows.is ∙ ap (λ (list : List LineMessage). (list ++ first ∷ messages) ++ follows.rest) own_heard)))
    by_stage items is (awaits_check side_is stage own_said own_heard) =
        by_greeting_second side_is stage own_said own_heard
        (greeting_first (other side) items first messages follows.rest (sym is ∙ (follows.is ∙ ap (λ (list : List LineMessage). (list ++ first ∷ messages) ++ follows.rest) own_heard)))

    by_shape : IsSaid (other side) said → IsAtStage side talk.greeting.stage own → Acted (first ∷ messages)
    by_shape (nothing none) stage = none_left none
    by_shape (begins items is) stage = by_stage items is stage

-- Messages of the partner, which come only where the link was up as they came, and follow what was heard.
pub acted : WrittenIsRead → WrittenIsItem → (now : ℕ) (side : Side) (talk : TalkState) (own : Talked) (messages said : List LineMessage) → AreNamed talk → IsStaged side talk own
    → IsSaid (other side) said → (messages ≡ []) ⊎ ((is_open talk.link.phase ≡ true → is_up talk.link.phase ≡ true) × Follows said (own.heard ++ messages))
    → HasActed now side talk own messages (acted_by now talk messages)
acted read item now side talk own messages said named staged shape come = by_open (is_open talk.link.phase) refl
  where
    texts_of : List LineMessage → List (List ℕ)
    texts_of list = map (writing talk.peer_name talk.own_name) list

    by_messages : is_open talk.link.phase ≡ true → (list : List LineMessage) → (list ≡ []) ⊎ ((is_open talk.link.phase ≡ true → is_up talk.link.phase ≡ true) × Follows said (own.heard ++ list))
        → HasActed now side talk own list (acted_by now talk list)
    by_messages opened [] some = subst (HasActed now side talk own []) (sym (none_more now (record { talk = talk; taken = [] }))) (acted_none now side talk own staged)
    by_messages opened (first ∷ list) (inl none) = absurd (false≢true (sym (ap is_some_list none)))
    by_messages opened (first ∷ list) (inr follows) =
        acted_some read item now side talk own first list said named (follows.0 opened) staged shape follows.1 (staged.up (follows.0 opened))

    by_open : (b : Bool) → is_open talk.link.phase ≡ b → HasActed now side talk own messages (acted_by now talk messages)
    by_open true opened = by_messages opened messages come
    by_open false shut =
        subst (HasActed now side talk own messages) (sym (closed_drops now (texts_of messages) (record { talk = talk; taken = [] }) shut)) (acted_shut now side talk own messages shut staged)
