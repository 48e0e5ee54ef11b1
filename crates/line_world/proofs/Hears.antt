-- What an end makes of its partner's messages, which come in their order: the greeting, and then items.
use Rattle.std.proofs.Common.{◌≡◌, ◌∙◌, ◌++◌, ℕ, Bool, true, false, cond, inl, inr, List, [], ◌∷◌, Option, Some, None, ap, arith, map, refl, subst, sym}
use Rattle.std.specs.Prelude.{◌⊎◌, ◌==◌}
use Rattle.std.proofs.lemmas.Bool.{false≢true}
use Rattle.std.proofs.lemmas.List.{append-nil, append_assoc}
use Rattle.line_host.specs.Talk.{TalkHeard, TalkSoFar, TalkState, with_item}
use Rattle.line_laws.specs.declared.words.Item.{Item}
use Rattle.line_laws.specs.declared.words.Side.{Side}
use Rattle.line_laws.specs.declared.words.Side.TheVariants.{First, Second}
use Rattle.line_telegram.specs.Greetings.{GreetingState, Hearing, hearing_at}
use Rattle.line_telegram.specs.LineMessages.{IsLineMessage, writing}
use Rattle.line_telegram.specs.declared.greeting.Heard.TheVariants.{Answered, Differed, Matched}
use Rattle.line_telegram.specs.declared.greeting.Stage.{Stage}
use Rattle.line_telegram.specs.declared.greeting.Stage.TheVariants.{Agreed, AwaitsAnswer, AwaitsCheck, Differs}
use Rattle.line_telegram.specs.declared.message.LineMessage.{LineMessage}
use Rattle.line_telegram.specs.declared.message.LineMessage.TheVariants.{Line, VersionAnswer, VersionCheck}
use Rattle.line_world.specs.declared.names.TheConstants.{VERSION}
use Rattle.rasta_core.specs.State.{is_open, is_up}
use Rattle.rasta_core.specs.phase.Phase.{Phase}
use Rattle.rasta_core.specs.phase.Phase.TheVariants as phase
use Rattle.sci_telegram.specs.declared.message.Agreement.TheVariants.{Match, NoMatch}
use Rattle.line_world.proofs.Below.{acting, acting_all, following, saying, understood}
use Rattle.line_world.proofs.Makes.{AreNamed, Makes, Says, WrittenIsItem, WrittenIsRead, makes_nothing, makes_saying, makes_then, saying_keeps, still_named}

-- ---- messages

-- what an end says first
abbrev pub greeting_of : Side → LineMessage
greeting_of First = VersionCheck VERSION
greeting_of Second = VersionAnswer Match VERSION

pub greeting_is : (side : Side) → IsLineMessage (greeting_of side)
greeting_is First = omega arith
greeting_is Second = omega arith

-- ---- one message

-- a text of the partner is understood as it was meant
acted_on : WrittenIsRead → (now : ℕ) (talk : TalkState) (message : LineMessage) → AreNamed talk → IsLineMessage message
    → acting now (writing talk.peer_name talk.own_name message) talk ≡ understood now (Some message) talk
unfolding acting
acted_on read now talk message named is =
    ap (λ (m : Option LineMessage). understood now m talk) (read talk.peer_name talk.own_name message named.peer named.own is)

item_taken : (now : ℕ) (talk : TalkState) (item : Item) → talk.greeting.stage ≡ Agreed → understood now (Some (Line item)) talk ≡ record { talk = talk; item = Some item }
unfolding understood following
item_taken now talk item agreed = ap by_hearing (ap (λ (s : Stage). hearing_at s (Line item) talk.greeting) agreed)
  where
    by_hearing : Hearing → TalkHeard
    by_hearing heard = following now heard.heard (record talk { greeting = heard.state })

-- ---- items

one_more : (now : ℕ) (text : List ℕ) (texts : List (List ℕ)) (talk : TalkState) (taken : List Item) (heard : TalkHeard) → is_open talk.link.phase ≡ true → acting now text talk ≡ heard
    → acting_all now (text ∷ texts) (record { talk = talk; taken = taken }) ≡ acting_all now texts (record { talk = heard.talk; taken = with_item heard.item taken })
unfolding acting_all
one_more now text texts talk taken heard opened is =
    rw opened (ap (λ (h : TalkHeard). acting_all now texts (record { talk = h.talk; taken = with_item h.item taken })) is)

pub none_more : (now : ℕ) (so_far : TalkSoFar) → acting_all now [] so_far ≡ so_far
unfolding acting_all
none_more now so_far = refl

-- all items are taken, and nothing is said
pub items_taken : WrittenIsRead → (now : ℕ) (items taken : List Item) (talk : TalkState) → AreNamed talk → is_open talk.link.phase ≡ true → talk.greeting.stage ≡ Agreed
    → acting_all now (map (writing talk.peer_name talk.own_name) (map Line items)) (record { talk = talk; taken = taken }) ≡ record { talk = talk; taken = taken ++ items }
items_taken read now [] taken talk named opened agreed =
    none_more now (record { talk = talk; taken = taken }) ∙ ap (λ (l : List Item). record { talk = talk; taken = l }) (sym (append-nil taken))
items_taken read now (item ∷ items) taken talk named opened agreed =
    one_more now (writing talk.peer_name talk.own_name (Line item)) (map (writing talk.peer_name talk.own_name) (map Line items)) talk taken (record { talk = talk; item = Some item }) opened
    (acted_on read now talk (Line item) named tt ∙ item_taken now talk item agreed)
    ∙ (items_taken read now items (taken ++ item ∷ []) talk named opened agreed
    ∙ ap (λ (l : List Item). record { talk = talk; taken = l }) (append_assoc taken (item ∷ []) items))

-- ---- the greeting

-- the first end hears that the versions agree
abbrev pub agreed_with : TalkState → TalkState
agreed_with talk = record talk { greeting = record talk.greeting { stage = Agreed } }

same_version : (v : ℕ) → v ≡ VERSION → (VERSION == v) ≡ true
same_version v is = rw is refl

first_greeted : (now : ℕ) (talk : TalkState) → talk.greeting.stage ≡ AwaitsAnswer → talk.greeting.version ≡ VERSION
    → understood now (Some (greeting_of Second)) talk ≡ record { talk = agreed_with talk; item = None }
unfolding understood following
first_greeted now talk awaits version =
    ap by_hearing (ap (λ (s : Stage). hearing_at s (greeting_of Second) talk.greeting) awaits
    ∙ ap (λ (b : Bool). cond b (record { state = record talk.greeting { stage = Agreed }; heard = Matched }) (record { state = record talk.greeting { stage = Differs }; heard = Differed })) (same_version talk.greeting.version version))
  where
    by_hearing : Hearing → TalkHeard
    by_hearing heard = following now heard.heard (record talk { greeting = heard.state })

-- the second end is told the version, and answers
second_greeted : (now : ℕ) (talk : TalkState) → talk.greeting.stage ≡ AwaitsCheck → talk.greeting.version ≡ VERSION
    → understood now (Some (greeting_of First)) talk ≡ record { talk = saying now (greeting_of Second) (agreed_with talk); item = None }
unfolding understood following
second_greeted now talk awaits version =
    ap by_hearing (ap (λ (s : Stage). hearing_at s (greeting_of First) talk.greeting) awaits
    ∙ (ap (λ (b : Bool). cond b (record { state = record talk.greeting { stage = Agreed }; heard = Answered (VersionAnswer Match talk.greeting.version) })
    (record { state = record talk.greeting { stage = Differs }; heard = Answered (VersionAnswer NoMatch talk.greeting.version) })) (same_version talk.greeting.version version)
    ∙ ap (λ (v : ℕ). record { state = record talk.greeting { stage = Agreed }; heard = Answered (VersionAnswer Match v) }) version))
  where
    by_hearing : Hearing → TalkHeard
    by_hearing heard = following now heard.heard (record talk { greeting = heard.state })

-- The first end hears its partner's greeting and then these items: it takes them, and says nothing.
pub first_hears : WrittenIsRead → (now : ℕ) (items taken : List Item) (talk : TalkState) → AreNamed talk → is_open talk.link.phase ≡ true → talk.greeting.stage ≡ AwaitsAnswer
    → talk.greeting.version ≡ VERSION
    → acting_all now (map (writing talk.peer_name talk.own_name) (greeting_of Second ∷ map Line items)) (record { talk = talk; taken = taken })
    ≡ record { talk = agreed_with talk; taken = taken ++ items }
first_hears read now items taken talk named opened awaits version =
    one_more now (writing talk.peer_name talk.own_name (greeting_of Second)) (map (writing talk.peer_name talk.own_name) (map Line items)) talk taken
    (record { talk = agreed_with talk; item = None }) opened
    (acted_on read now talk (greeting_of Second) named (greeting_is Second) ∙ first_greeted now talk awaits version)
    ∙ items_taken read now items taken (agreed_with talk) (record { own = named.own; peer = named.peer }) opened refl

-- The second end hears its partner's greeting and then these items: it answers, and takes them, or its link closes.
pub record SecondHears (now : ℕ) (items taken : List Item) (talk : TalkState) (after : TalkSoFar) : Type 0 where
  pub said : List LineMessage
  pub makes : Makes now talk after.talk said
  pub greeting : after.talk.greeting ≡ record talk.greeting { stage = Agreed }
  pub given : ((said ≡ greeting_of Second ∷ []) × (after.taken ≡ taken ++ items)) ⊎ ((said ≡ []) × (is_open after.talk.link.phase ≡ false) × (after.taken ≡ taken))

pub closed_drops : (now : ℕ) (texts : List (List ℕ)) (so_far : TalkSoFar) → is_open so_far.talk.link.phase ≡ false → acting_all now texts so_far ≡ so_far
unfolding acting_all
closed_drops now [] so_far closed = refl
closed_drops now (text ∷ texts) so_far closed = rw closed refl

pub up_is_open : (p : Phase) → is_up p ≡ true → is_open p ≡ true
up_is_open phase.Closed up = up
up_is_open phase.Start up = absurd (false≢true up)
up_is_open phase.Up up = refl
up_is_open phase.RetransmissionRequested up = refl
up_is_open phase.RetransmissionRunning up = refl

pub second_hears : WrittenIsRead → WrittenIsItem → (now : ℕ) (items taken : List Item) (talk : TalkState) → AreNamed talk → is_open talk.link.phase ≡ true
    → talk.greeting.stage ≡ AwaitsCheck → talk.greeting.version ≡ VERSION
    → SecondHears now items taken talk
    (acting_all now (map (writing talk.peer_name talk.own_name) (greeting_of First ∷ map Line items)) (record { talk = talk; taken = taken }))
second_hears read item now items taken talk named opened awaits version = by_said says.given
  where
    texts : List (List ℕ)
    texts = map (writing talk.peer_name talk.own_name) (map Line items)

    next : TalkState
    next = saying now (greeting_of Second) (agreed_with talk)

    says : Says now (greeting_of Second) (agreed_with talk)
    says = makes_saying now (greeting_of Second) (agreed_with talk) (item talk.own_name talk.peer_name (greeting_of Second) named.own named.peer)

    makes : Makes now talk next says.said
    makes = makes_then now talk (agreed_with talk) next [] says.said (makes_nothing now talk (agreed_with talk) refl refl refl refl) says.makes

    greeting : next.greeting ≡ record talk.greeting { stage = Agreed }
    greeting = saying_keeps now (greeting_of Second) (agreed_with talk)

    first : acting_all now (map (writing talk.peer_name talk.own_name) (greeting_of First ∷ map Line items)) (record { talk = talk; taken = taken })
        ≡ acting_all now texts (record { talk = next; taken = taken })
    first = one_more now (writing talk.peer_name talk.own_name (greeting_of First)) texts talk taken (record { talk = next; item = None }) opened
        (acted_on read now talk (greeting_of First) named (greeting_is First) ∙ second_greeted now talk awaits version)

    same_texts : texts ≡ map (writing next.peer_name next.own_name) (map Line items)
    same_texts =
        ap (λ (name : List ℕ). map (writing name talk.own_name) (map Line items)) (sym says.makes.peer_name)
        ∙ ap (λ (name : List ℕ). map (writing next.peer_name name) (map Line items)) (sym says.makes.own_name)

    next_named : AreNamed next
    next_named = still_named says.makes (record { own = named.own; peer = named.peer })

    Heard : TalkSoFar → Type 0
    Heard after = SecondHears now items taken talk after

    by_said : (says.said ≡ greeting_of Second ∷ []) ⊎ ((says.said ≡ []) × (is_open next.link.phase ≡ false))
        → Heard (acting_all now (map (writing talk.peer_name talk.own_name) (greeting_of First ∷ map Line items)) (record { talk = talk; taken = taken }))
    by_said (inl said) =
        let stays : is_open next.link.phase ≡ true = up_is_open next.link.phase (says.up said)
        in let agreed : next.greeting.stage ≡ Agreed = ap (λ (g : GreetingState). g.stage) greeting
        in let rest : acting_all now texts (record { talk = next; taken = taken }) ≡ record { talk = next; taken = taken ++ items } =
        ap (λ (t : List (List ℕ)). acting_all now t (record { talk = next; taken = taken })) same_texts ∙ items_taken read now items taken next next_named stays agreed
        in subst Heard (sym (first ∙ rest)) (record { said = says.said; makes = makes; greeting = greeting; given = inl (said, refl) })
    by_said (inr closed) =
        subst Heard (sym (first ∙ closed_drops now texts (record { talk = next; taken = taken }) closed.1))
        (record { said = says.said; makes = makes; greeting = greeting; given = inr (closed.0, closed.1, refl) })
