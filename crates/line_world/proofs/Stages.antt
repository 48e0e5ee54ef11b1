-- What a host makes where its link has come up, and of its partner's messages, by the stage of its greeting.
use Rattle.std.proofs.Common.{◌≡◌, ◌∙◌, ◌++◌, ◌&&◌, ℕ, Bool, true, false, inl, inr, List, [], ◌∷◌, ap, refl, subst, sym}
use Rattle.std.specs.Prelude.{◌⊎◌}
use Rattle.std.proofs.lemmas.Bool.{false≢true}
use Rattle.std.proofs.lemmas.List.{append-nil}
use Rattle.line_host.specs.Talk.{TalkState, is_agreed, is_joined}
use Rattle.line_laws.specs.declared.words.Side.{Side}
use Rattle.line_laws.specs.declared.words.Side.TheVariants.{First, Second}
use Rattle.line_telegram.specs.Greetings.{GreetingState}
use Rattle.line_telegram.specs.declared.greeting.Stage.TheVariants.{AwaitsAnswer, AwaitsCheck, Outside}
use Rattle.line_telegram.specs.declared.message.LineMessage.{LineMessage}
use Rattle.line_telegram.specs.declared.message.LineMessage.TheVariants.{VersionCheck}
use Rattle.line_world.specs.declared.names.TheConstants.{VERSION}
use Rattle.rasta_core.specs.State.{is_open, is_up}
use Rattle.line_world.proofs.Below.{meeting, saying}
use Rattle.line_world.proofs.Hears.{greeting_of, up_is_open}
use Rattle.line_world.proofs.Makes.{AreNamed, Makes, Says, WrittenIsItem, makes_nothing, makes_saying, makes_then, saying_keeps}
use Rattle.line_world.proofs.Nodes.{items_of}
use Rattle.line_world.proofs.Received.{hearing_more}
use Rattle.line_world.proofs.Talked.{IsAtStage, IsSaid, Talked, awaits_answer, awaits_check, begins, has_agreed, nothing, nothing_said, saying_more}

-- ---- a talk, by its stage

pub record IsStaged (side : Side) (talk : TalkState) (own : Talked) : Type 0 where
  pub side_is : talk.greeting.side ≡ side
  pub version : talk.greeting.version ≡ VERSION
  pub up : is_up talk.link.phase ≡ true → IsAtStage side talk.greeting.stage own
  pub starting : is_open talk.link.phase ≡ true → is_up talk.link.phase ≡ false → own ≡ nothing_said

-- its link may have come up since it was looked at
pub record IsToMeet (side : Side) (talk : TalkState) (own : Talked) : Type 0 where
  pub side_is : talk.greeting.side ≡ side
  pub version : talk.greeting.version ≡ VERSION
  pub up : is_up talk.link.phase ≡ true → IsAtStage side talk.greeting.stage own ⊎ ((talk.greeting.stage ≡ Outside) × (own ≡ nothing_said))
  pub starting : is_open talk.link.phase ≡ true → is_up talk.link.phase ≡ false → own ≡ nothing_said

pub to_meet : {side : Side} {talk : TalkState} {own : Talked} → IsStaged side talk own → IsToMeet side talk own
to_meet staged = record { side_is = staged.side_is; version = staged.version; up = λ up. inl (staged.up up); starting = staged.starting }

pub more_is_none : (own : Talked) → saying_more [] own ≡ own
more_is_none own = ap (λ (said : List LineMessage). record own { said = said }) (append-nil own.said)

pub none_of_both : (own : Talked) → hearing_more [] (saying_more [] own) ≡ own
none_of_both own = ap (λ (heard : List LineMessage). record { said = own.said ++ []; heard = heard }) (append-nil own.heard) ∙ more_is_none own

-- ---- it meets its link

pub record HasMet (now : ℕ) (side : Side) (talk next : TalkState) (own : Talked) : Type 0 where
  pub said : List LineMessage
  pub makes : Makes now talk next said
  pub staged : IsStaged side next (saying_more said own)
  pub shape : IsSaid side own.said → IsSaid side (own.said ++ said)
  pub no_items : items_of said ≡ []

pub same_shape : {side : Side} (own : Talked) → IsSaid side own.said → IsSaid side (own.said ++ [])
same_shape {side} own shape = subst (IsSaid side) (sym (append-nil own.said)) shape

meets_down : (now : ℕ) (talk : TalkState) → is_up talk.link.phase ≡ false → meeting now talk ≡ record talk { greeting = record talk.greeting { stage = Outside } }
unfolding meeting
meets_down now talk down = rw down refl

meets_same : (now : ℕ) (side : Side) (talk : TalkState) (own : Talked) → is_up talk.link.phase ≡ true → IsAtStage side talk.greeting.stage own → meeting now talk ≡ talk
unfolding meeting
meets_same now side talk own up (awaits_check is stage said heard) = rw (up, stage) refl
meets_same now side talk own up (awaits_answer is stage said heard) = rw (up, stage) refl
meets_same now side talk own up (has_agreed stage said heard own_said own_heard) = rw (up, stage) refl

meets_first : (now : ℕ) (talk : TalkState) → is_up talk.link.phase ≡ true → talk.greeting.stage ≡ Outside → talk.greeting.side ≡ First
    → meeting now talk ≡ saying now (VersionCheck talk.greeting.version) (record talk { greeting = record talk.greeting { stage = AwaitsAnswer } })
unfolding meeting
meets_first now talk up stage side = rw (up, stage, side) refl

meets_second : (now : ℕ) (talk : TalkState) → is_up talk.link.phase ≡ true → talk.greeting.stage ≡ Outside → talk.greeting.side ≡ Second
    → meeting now talk ≡ record talk { greeting = record talk.greeting { stage = AwaitsCheck } }
unfolding meeting
meets_second now talk up stage side = rw (up, stage, side) refl

-- it stays as it is
met_same : (now : ℕ) (side : Side) (talk : TalkState) (own : Talked) → is_up talk.link.phase ≡ true → IsToMeet side talk own → IsAtStage side talk.greeting.stage own
    → HasMet now side talk talk own
met_same now side talk own up meets at = record {
  said = [];
  makes = makes_nothing now talk talk refl refl refl refl;
  staged = record {
    side_is = meets.side_is;
    version = meets.version;
    up = λ again. subst (IsAtStage side talk.greeting.stage) (sym (more_is_none own)) at;
    starting = λ opened down. absurd (false≢true (sym down ∙ up));
  };
  shape = same_shape own;
  no_items = refl;
}

met_down : (now : ℕ) (side : Side) (talk : TalkState) (own : Talked) → is_up talk.link.phase ≡ false → IsToMeet side talk own
    → HasMet now side talk (record talk { greeting = record talk.greeting { stage = Outside } }) own
met_down now side talk own down meets = record {
  said = [];
  makes = makes_nothing now talk (record talk { greeting = record talk.greeting { stage = Outside } }) refl refl refl refl;
  staged = record {
    side_is = meets.side_is;
    version = meets.version;
    up = λ up. absurd (false≢true (sym down ∙ up));
    starting = λ opened again. more_is_none own ∙ meets.starting opened down;
  };
  shape = same_shape own;
  no_items = refl;
}

met_second : (now : ℕ) (talk : TalkState) (own : Talked) → is_up talk.link.phase ≡ true → IsToMeet Second talk own → talk.greeting.stage ≡ Outside → own ≡ nothing_said
    → HasMet now Second talk (record talk { greeting = record talk.greeting { stage = AwaitsCheck } }) own
met_second now talk own up meets stage none = record {
  said = [];
  makes = makes_nothing now talk (record talk { greeting = record talk.greeting { stage = AwaitsCheck } }) refl refl refl refl;
  staged = record {
    side_is = meets.side_is;
    version = meets.version;
    up = λ again. subst (IsAtStage Second AwaitsCheck) (sym (more_is_none own ∙ none)) (awaits_check refl refl refl refl);
    starting = λ opened down. absurd (false≢true (sym down ∙ up));
  };
  shape = same_shape own;
  no_items = refl;
}

-- the first end tells its version
met_first : WrittenIsItem → (now : ℕ) (talk : TalkState) (own : Talked) → AreNamed talk → is_up talk.link.phase ≡ true → IsToMeet First talk own → talk.greeting.stage ≡ Outside
    → own ≡ nothing_said → HasMet now First talk (saying now (greeting_of First) (record talk { greeting = record talk.greeting { stage = AwaitsAnswer } })) own
met_first item now talk own named up meets stage none = by_said says.given
  where
    begun : TalkState
    begun = record talk { greeting = record talk.greeting { stage = AwaitsAnswer } }

    next : TalkState
    next = saying now (greeting_of First) begun

    says : Says now (greeting_of First) begun
    says = makes_saying now (greeting_of First) begun (item talk.own_name talk.peer_name (greeting_of First) named.own named.peer)

    makes : Makes now talk next says.said
    makes = makes_then now talk begun next [] says.said (makes_nothing now talk begun refl refl refl refl) says.makes

    greeting : next.greeting ≡ record talk.greeting { stage = AwaitsAnswer }
    greeting = saying_keeps now (greeting_of First) begun

    by_said : (says.said ≡ greeting_of First ∷ []) ⊎ ((says.said ≡ []) × (is_open next.link.phase ≡ false)) → HasMet now First talk next own
    by_said (inl said) =
        let then : saying_more says.said own ≡ record { said = greeting_of First ∷ []; heard = [] } =
        ap (λ (o : Talked). saying_more says.said o) none ∙ ap (λ (list : List LineMessage). record { said = list; heard = [] }) said
        in record {
          said = says.said;
          makes = makes;
          staged = record {
            side_is = ap (λ (g : GreetingState). g.side) greeting ∙ meets.side_is;
            version = ap (λ (g : GreetingState). g.version) greeting ∙ meets.version;
            up = λ again. awaits_answer refl (ap (λ (g : GreetingState). g.stage) greeting) (ap (λ (o : Talked). o.said) then) (ap (λ (o : Talked). o.heard) then);
            starting = λ opened down. absurd (false≢true (sym down ∙ says.up said));
          };
          shape = λ shape. begins [] (ap (λ (o : Talked). o.said) then);
          no_items = ap items_of said;
        }
    by_said (inr closed) = record {
      said = says.said;
      makes = makes;
      staged = record {
        side_is = ap (λ (g : GreetingState). g.side) greeting ∙ meets.side_is;
        version = ap (λ (g : GreetingState). g.version) greeting ∙ meets.version;
        up = λ again. absurd (false≢true (sym closed.1 ∙ up_is_open next.link.phase again));
        starting = λ opened down. absurd (false≢true (sym closed.1 ∙ opened));
      };
      shape = λ shape. nothing (ap (λ (o : Talked). o.said ++ says.said) none ∙ closed.0);
      no_items = ap items_of closed.0;
    }

pub met : WrittenIsItem → (now : ℕ) (side : Side) (talk : TalkState) (own : Talked) → AreNamed talk → IsToMeet side talk own → HasMet now side talk (meeting now talk) own
met item now side talk own named meets = by_up (is_up talk.link.phase) refl
  where
    by_side : (s : Side) → is_up talk.link.phase ≡ true → IsToMeet s talk own → talk.greeting.stage ≡ Outside → own ≡ nothing_said → HasMet now s talk (meeting now talk) own
    by_side First up m stage none =
        subst (λ (t : TalkState). HasMet now First talk t own)
        (sym (meets_first now talk up stage m.side_is
        ∙ ap (λ (v : ℕ). saying now (VersionCheck v) (record talk { greeting = record talk.greeting { stage = AwaitsAnswer } })) m.version))
        (met_first item now talk own named up m stage none)
    by_side Second up m stage none =
        subst (λ (t : TalkState). HasMet now Second talk t own) (sym (meets_second now talk up stage m.side_is)) (met_second now talk own up m stage none)

    by_stage : is_up talk.link.phase ≡ true → IsAtStage side talk.greeting.stage own ⊎ ((talk.greeting.stage ≡ Outside) × (own ≡ nothing_said)) → HasMet now side talk (meeting now talk) own
    by_stage up (inl at) = subst (λ (t : TalkState). HasMet now side talk t own) (sym (meets_same now side talk own up at)) (met_same now side talk own up meets at)
    by_stage up (inr out) = by_side side up meets out.0 out.1

    by_up : (b : Bool) → is_up talk.link.phase ≡ b → HasMet now side talk (meeting now talk) own
    by_up true up = by_stage up (meets.up up)
    by_up false down = subst (λ (t : TalkState). HasMet now side talk t own) (sym (meets_down now talk down)) (met_down now side talk own down meets)

-- ---- a talk that was at a stage meets its link: nothing is said

pub record IsStill (side : Side) (talk next : TalkState) (own : Talked) : Type 0 where
  pub link : next.link ≡ talk.link
  pub outbox : next.outbox ≡ talk.outbox
  pub own_name : next.own_name ≡ talk.own_name
  pub peer_name : next.peer_name ≡ talk.peer_name
  pub staged : IsStaged side next own
  pub outside : is_up next.link.phase ≡ false → next.greeting.stage ≡ Outside
  pub joined : is_joined next ≡ is_joined talk

pub still : (now : ℕ) (side : Side) (talk : TalkState) (own : Talked) → IsStaged side talk own → IsStill side talk (meeting now talk) own
still now side talk own staged = by_up (is_up talk.link.phase) refl
  where
    by_up : (b : Bool) → is_up talk.link.phase ≡ b → IsStill side talk (meeting now talk) own
    by_up true up = subst (λ (t : TalkState). IsStill side talk t own) (sym (meets_same now side talk own up (staged.up up))) (record {
      link = refl;
      outbox = refl;
      own_name = refl;
      peer_name = refl;
      staged = staged;
      outside = λ down. absurd (false≢true (sym down ∙ up));
      joined = refl;
    })
    by_up false down = subst (λ (t : TalkState). IsStill side talk t own) (sym (meets_down now talk down)) (record {
      link = refl;
      outbox = refl;
      own_name = refl;
      peer_name = refl;
      staged = record {
        side_is = staged.side_is;
        version = staged.version;
        up = λ up. absurd (false≢true (sym down ∙ up));
        starting = staged.starting;
      };
      outside = λ again. refl;
      joined = ap (λ (b : Bool). b && false) down ∙ ap (λ (b : Bool). b && is_agreed talk.greeting.stage) (sym down);
    })
