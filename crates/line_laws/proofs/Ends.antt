-- What a part of a step keeps, of two ends of which the near one looks.
use Rattle.std.proofs.Common.{◌≡◌, ◌+◌, ◌≤◌, Bool, true, false, not, List, [], ◌∷◌, Option, Some, None, refl, ap, ◌∙◌, arith}
use Rattle.std.specs.Prelude.{◌&&◌, if◌then◌else◌}
use Rattle.line_laws.specs.declared.words.Position.{Position}
use Rattle.line_laws.specs.declared.words.Position.TheVariants.{Left, Right}
use Rattle.line_laws.specs.declared.words.Item.{Item}
use Rattle.line_laws.specs.declared.words.Item.TheVariants.{Ask, Give, Query, Clear, NoToken}
use Rattle.line_laws.specs.declared.words.QueryOut.{QueryOut}
use Rattle.line_laws.specs.declared.words.QueryOut.TheVariants.{No, Sound, Spoiled}
use Rattle.line_laws.specs.End.{End, Seen}
use Rattle.line_laws.specs.Step.{is_right, is_driven_right, is_no, is_sound, spoiled, lock_after, lock_moved, noticed, taken, may_give, without_token, may_query, may_answer}
use Rattle.line_laws.specs.Link.{Place, Before, Started, Up, Gone, is_up, is_gone, coming_more}
use Rattle.line_laws.specs.Line.{Node, with_coming}
use Rattle.line_laws.specs.Invariant.{number, how_many, is_give, is_query, is_clear, clears, is_out, IsEndSound, IsPairSound}
use Rattle.line_laws.proofs.Counting.{both, not_true, number_small, one_more}

-- the near end with this end in it, and with this next item taken
abbrev pub near_with : End → Node → Node
near_with end near = record near { end = end }

abbrev pub near_took : End → List Item → Node → Node
near_took end coming near = record near { end = end; coming = coming }

-- ---- words

pub spoiled_unsound : (query : QueryOut) → spoiled query ≡ Sound → ⊥
spoiled_unsound No e = cc
spoiled_unsound Sound e = cc
spoiled_unsound Spoiled e = cc

pub spoiled_out : (query : QueryOut) → is_out (spoiled query) ≡ is_out query
spoiled_out No = refl
spoiled_out Sound = refl
spoiled_out Spoiled = refl

pub spoiled_no : (query : QueryOut) → query ≡ No → spoiled query ≡ No
spoiled_no No e = refl
spoiled_no Sound e = cc
spoiled_no Spoiled e = cc

pub is_sound_sound : (query : QueryOut) → is_sound query ≡ true → query ≡ Sound
is_sound_sound No e = cc
is_sound_sound Sound e = refl
is_sound_sound Spoiled e = cc

-- ---- one more item is given

gone_more : (place : Place) (items coming : List Item) → is_gone place ≡ true → coming ≡ [] → coming_more place items coming ≡ []
gone_more Before items coming gone none = cc
gone_more Started items coming gone none = cc
gone_more Up items coming gone none = cc
gone_more Gone items coming gone none = none

-- the far end is given an item; if it is Clear, the line is clear
pub far_given : {Known : Type 0} {node : Node} (sound : IsEndSound Known node) (item : Item) → (is_clear item ≡ true → node.busy ≡ false → Known)
    → IsEndSound Known (with_coming (item ∷ []) node)
far_given {Known} {node} sound item known = record {
  locked = sound.locked;
  down = sound.down;
  gone = λ gone. gone_more node.place (item ∷ []) node.coming gone (sound.gone gone);
  token = sound.token;
  free = sound.free;
  answered = λ query some. answered query some (is_clear item) refl;
  empty_token = sound.empty_token;
  empty_free = sound.empty_free;
  empty_known = sound.empty_known;
}
  where
    answered : node.end.query ≡ Sound → 1 ≤ clears (with_coming (item ∷ []) node) → (test : Bool) → is_clear item ≡ test → Known
    answered query some true is = known is (sound.free query)
    answered query some false is = sound.answered query (omega (arith, some, one_more is_clear node.place item node.coming, ap number is))

-- The near end changes and gives one item to the far one.
pub item_given : {Near Far : Type 0} {near far : Node} (sound : IsPairSound Near Far near far) (item : Item) (end : End)
    → number end.token + number (is_give item) ≤ number near.end.token
    → number (is_query item) + number (is_out near.end.query) ≤ number (is_out end.query)
    → number end.queried + number (is_clear item) ≤ number near.end.queried
    → IsEndSound Near (near_with end near)
    → (is_clear item ≡ true → far.busy ≡ false → Far)
    → IsPairSound Near Far (near_with end near) (with_coming (item ∷ []) far)
item_given {Near} {Far} {near} {far} sound item end token query queried near_end known = record {
  one_token = omega (arith, sound.one_token, token, one_more is_give far.place item far.coming);
  near_end = near_end;
  far_end = far_given sound.far_end item known;
  near_query = λ gone. omega (arith, sound.near_query gone, query, one_more is_query far.place item far.coming);
  far_query = λ gone. omega (arith, sound.far_query gone, queried, one_more is_clear far.place item far.coming);
}

-- The near end changes, and gives nothing.
pub end_changed : {Near Far : Type 0} {near far : Node} (sound : IsPairSound Near Far near far) (end : End)
    → number end.token ≤ number near.end.token
    → number (is_out near.end.query) ≤ number (is_out end.query)
    → number end.queried ≤ number near.end.queried
    → IsEndSound Near (near_with end near)
    → IsPairSound Near Far (near_with end near) far
end_changed {Near} {Far} {near} {far} sound end token query queried near_end = record {
  one_token = omega (arith, sound.one_token, token);
  near_end = near_end;
  far_end = sound.far_end;
  near_query = λ gone. omega (arith, sound.near_query gone, query);
  far_query = λ gone. omega (arith, sound.far_query gone, queried);
}

-- ---- the rules that give an item

pub give_kept : {Near Far : Type 0} {near far : Node} (sound : IsPairSound Near Far near far) (seen : Seen) → is_up near.place ≡ true → may_give seen near.end ≡ true
    → IsPairSound Near Far (near_with (without_token near.end) near) (with_coming (Give ∷ []) far)
give_kept {Near} {Far} {near} {far} sound seen up may =
    let parts = both (near.end.token && near.end.asked && not (is_right near.end.lock)) (not (is_driven_right seen.drive)) may
    in let asked = both (near.end.token && near.end.asked) (not (is_right near.end.lock)) parts.0
    in let here = both near.end.token near.end.asked asked.0
    in item_given sound Give (without_token near.end) (omega (arith, ap number here.0)) (omega (arith, ap number (spoiled_out near.end.query))) (omega arith)
    (record {
      locked = λ lock. absurd (cc (not_true (is_right near.end.lock) asked.1, lock));
      down = λ down. absurd (cc (up, down));
      gone = sound.near_end.gone;
      token = λ query. absurd (spoiled_unsound near.end.query query);
      free = λ query. absurd (spoiled_unsound near.end.query query);
      answered = λ query. absurd (spoiled_unsound near.end.query query);
      empty_token = λ empty. absurd (cc (empty));
      empty_free = λ empty. absurd (cc (empty));
      empty_known = λ empty. absurd (cc (empty));
    }) (λ clear. absurd (cc (clear)))

pub ask_kept : {Near Far : Type 0} {near far : Node} (sound : IsPairSound Near Far near far) → is_up near.place ≡ true
    → IsPairSound Near Far (near_with (record near.end { asking = true }) near) (with_coming (Ask ∷ []) far)
ask_kept {Near} {Far} {near} {far} sound up =
    item_given sound Ask (record near.end { asking = true }) (omega arith) (omega arith) (omega arith)
    (record {
      locked = sound.near_end.locked;
      down = λ down. absurd (cc (up, down));
      gone = sound.near_end.gone;
      token = sound.near_end.token;
      free = sound.near_end.free;
      answered = sound.near_end.answered;
      empty_token = sound.near_end.empty_token;
      empty_free = sound.near_end.empty_free;
      empty_known = sound.near_end.empty_known;
    }) (λ clear. absurd (cc (clear)))

-- the second end has spoken
pub said_end : {Near Far : Type 0} {near far : Node} (sound : IsPairSound Near Far near far) → is_up near.place ≡ true
    → IsEndSound Near (near_with (record near.end { none_said = true }) near)
said_end {Near} {Far} {near} {far} sound up = record {
  locked = sound.near_end.locked;
  down = λ down. absurd (cc (up, down));
  gone = sound.near_end.gone;
  token = sound.near_end.token;
  free = sound.near_end.free;
  answered = sound.near_end.answered;
  empty_token = sound.near_end.empty_token;
  empty_free = sound.near_end.empty_free;
  empty_known = sound.near_end.empty_known;
}

up_stays : (place : Place) → is_up place ≡ true → is_gone place ≡ false
up_stays Before up = refl
up_stays Started up = refl
up_stays Up up = refl
up_stays Gone up = cc

pub query_kept : {Near Far : Type 0} {near far : Node} (sound : IsPairSound Near Far near far) (seen : Seen) → is_up near.place ≡ true → near.busy ≡ seen.busy
    → may_query seen near.end ≡ true
    → IsPairSound Near Far (near_with (record near.end { query = Sound }) near) (with_coming (Query ∷ []) far)
query_kept {Near} {Far} {near} {far} sound seen up busy may =
    let parts = both (near.end.token && not seen.busy && not near.end.empty) (is_no near.end.query) may
    in let known = both (near.end.token && not seen.busy) (not near.end.empty) parts.0
    in let here = both near.end.token (not seen.busy) known.0
    in let none : number (is_out near.end.query) ≡ 0 = ap (λ b. number (not b)) parts.1
    in item_given sound Query (record near.end { query = Sound }) (omega arith) (omega (arith, none)) (omega arith)
    (record {
      locked = sound.near_end.locked;
      down = λ down. absurd (cc (up, down));
      gone = sound.near_end.gone;
      token = λ query. here.0;
      free = λ query. busy ∙ not_true seen.busy here.1;
      answered = λ query some. absurd (omega (arith, some, none, sound.near_query (up_stays near.place up)));
      empty_token = sound.near_end.empty_token;
      empty_free = sound.near_end.empty_free;
      empty_known = sound.near_end.empty_known;
    }) (λ clear. absurd (cc (clear)))

pub answer_kept : {Near Far : Type 0} {near far : Node} (sound : IsPairSound Near Far near far) (seen : Seen) → is_up near.place ≡ true → (seen.busy ≡ false → far.busy ≡ false → Far)
    → may_answer seen near.end ≡ true
    → IsPairSound Near Far (near_with (record near.end { queried = false }) near) (with_coming (Clear ∷ []) far)
answer_kept {Near} {Far} {near} {far} sound seen up known may =
    let parts = both near.end.queried (not seen.busy) may
    in item_given sound Clear (record near.end { queried = false }) (omega arith) (omega arith) (omega (arith, ap number parts.0))
    (record {
      locked = sound.near_end.locked;
      down = λ down. absurd (cc (up, down));
      gone = sound.near_end.gone;
      token = sound.near_end.token;
      free = sound.near_end.free;
      answered = sound.near_end.answered;
      empty_token = sound.near_end.empty_token;
      empty_free = sound.near_end.empty_free;
      empty_known = sound.near_end.empty_known;
    }) (λ clear. known (not_true seen.busy parts.1))

-- ---- the rules that give none

-- what may be taken without the token stays as it was
pub lock_after_token : (drive : Option Position) (token : Bool) (lock : Position) → (lock ≡ Right → token ≡ true) → lock_after drive token lock ≡ Right → token ≡ true
lock_after_token None token lock locked right = locked right
lock_after_token (Some Left) token lock locked right = absurd (cc (right))
lock_after_token (Some Right) true lock locked right = refl
lock_after_token (Some Right) false lock locked right = locked right

pub lock_kept : {Near Far : Type 0} {near far : Node} (sound : IsPairSound Near Far near far) (seen : Seen)
    → IsPairSound Near Far (near_with (lock_moved seen near.end) near) far
lock_kept {Near} {Far} {near} {far} sound seen =
    end_changed sound (lock_moved seen near.end) (omega arith) (omega arith) (omega arith)
    (record {
      locked = lock_after_token seen.drive near.end.token near.end.lock sound.near_end.locked;
      down = λ down. ap (λ (end : End). record end { lock = lock_after seen.drive near.end.token near.end.lock }) (sound.near_end.down down);
      gone = sound.near_end.gone;
      token = sound.near_end.token;
      free = sound.near_end.free;
      answered = sound.near_end.answered;
      empty_token = sound.near_end.empty_token;
      empty_free = sound.near_end.empty_free;
      empty_known = sound.near_end.empty_known;
    })

-- the near end notices its contacts
abbrev pub near_noticed : Seen → Node → Node
near_noticed seen near = record near { end = noticed seen near.end; busy = seen.busy }

pub noticed_kept : {Near Far : Type 0} {near far : Node} (sound : IsPairSound Near Far near far) (seen : Seen)
    → IsPairSound Near Far (near_noticed seen near) far
noticed_kept {Near} {Far} {near} {far} sound seen = at_busy seen.busy
  where
    at_busy : (busy : Bool) → IsPairSound Near Far (record near { end = (if busy then record near.end { empty = false; query = spoiled near.end.query } else near.end); busy = busy }) far
    at_busy true = record {
      one_token = sound.one_token;
      near_end = record {
        locked = sound.near_end.locked;
        down = λ down. ap (λ (end : End). record end { empty = false; query = spoiled end.query }) (sound.near_end.down down);
        gone = sound.near_end.gone;
        token = λ query. absurd (spoiled_unsound near.end.query query);
        free = λ query. absurd (spoiled_unsound near.end.query query);
        answered = λ query. absurd (spoiled_unsound near.end.query query);
        empty_token = λ empty. absurd (cc (empty));
        empty_free = λ empty. absurd (cc (empty));
        empty_known = λ empty. absurd (cc (empty));
      };
      far_end = sound.far_end;
      near_query = λ gone. omega (arith, sound.near_query gone, ap number (spoiled_out near.end.query));
      far_query = sound.far_query;
    }
    at_busy false = record {
      one_token = sound.one_token;
      near_end = record {
        locked = sound.near_end.locked;
        down = sound.near_end.down;
        gone = sound.near_end.gone;
        token = sound.near_end.token;
        free = λ query. refl;
        answered = sound.near_end.answered;
        empty_token = sound.near_end.empty_token;
        empty_free = λ empty. refl;
        empty_known = sound.near_end.empty_known;
      };
      far_end = sound.far_end;
      near_query = sound.near_query;
      far_query = sound.far_query;
    }

-- the near end takes the next item
pub taken_kept : {Near Far : Type 0} {near far : Node} (sound : IsPairSound Near Far near far) (seen : Seen) → is_up near.place ≡ true → near.busy ≡ seen.busy
    → (item : Item) (rest : List Item) → near.coming ≡ item ∷ rest
    → IsPairSound Near Far (near_took (taken seen item near.end) rest near) far
taken_kept {Near} {Far} {near} {far} sound seen up busy item rest next = by_item item next
  where
    here : is_gone near.place ≡ false
    here = up_stays near.place up

    counted : (item : Item) → near.coming ≡ item ∷ rest → (is : Item → Bool) → how_many is near.coming ≡ number (is item) + how_many is rest
    counted item next is = ap (how_many is) next

    gone : is_gone near.place ≡ true → rest ≡ []
    gone left = absurd (cc (left, here))

    by_item : (item : Item) → near.coming ≡ item ∷ rest → IsPairSound Near Far (near_took (taken seen item near.end) rest near) far
    by_item Ask next = record {
      one_token = omega (arith, sound.one_token, counted Ask next is_give);
      near_end = record {
        locked = sound.near_end.locked;
        down = λ down. absurd (cc (up, down));
        gone = gone;
        token = sound.near_end.token;
        free = sound.near_end.free;
        answered = λ query some. sound.near_end.answered query (omega (arith, some, counted Ask next is_clear));
        empty_token = sound.near_end.empty_token;
        empty_free = sound.near_end.empty_free;
        empty_known = sound.near_end.empty_known;
      };
      far_end = sound.far_end;
      near_query = λ stays. omega (arith, sound.near_query stays, counted Ask next is_clear);
      far_query = λ stays. omega (arith, sound.far_query stays, counted Ask next is_query);
    }
    by_item Give next = record {
      one_token = omega (arith, sound.one_token, counted Give next is_give);
      near_end = record {
        locked = λ lock. refl;
        down = λ down. absurd (cc (up, down));
        gone = gone;
        token = λ query. refl;
        free = sound.near_end.free;
        answered = λ query some. sound.near_end.answered query (omega (arith, some, counted Give next is_clear));
        empty_token = λ empty. absurd (cc (empty));
        empty_free = λ empty. absurd (cc (empty));
        empty_known = λ empty. absurd (cc (empty));
      };
      far_end = sound.far_end;
      near_query = λ stays. omega (arith, sound.near_query stays, counted Give next is_clear);
      far_query = λ stays. omega (arith, sound.far_query stays, counted Give next is_query);
    }
    by_item Query next = record {
      one_token = omega (arith, sound.one_token, counted Query next is_give);
      near_end = record {
        locked = sound.near_end.locked;
        down = λ down. absurd (cc (up, down));
        gone = gone;
        token = sound.near_end.token;
        free = sound.near_end.free;
        answered = λ query some. sound.near_end.answered query (omega (arith, some, counted Query next is_clear));
        empty_token = sound.near_end.empty_token;
        empty_free = sound.near_end.empty_free;
        empty_known = sound.near_end.empty_known;
      };
      far_end = sound.far_end;
      near_query = λ stays. omega (arith, sound.near_query stays, counted Query next is_clear);
      far_query = λ stays. omega (arith, sound.far_query stays, counted Query next is_query);
    }
    by_item NoToken next = record {
      one_token = omega (arith, sound.one_token, counted NoToken next is_give);
      near_end = record {
        locked = sound.near_end.locked;
        down = λ down. absurd (cc (up, down));
        gone = gone;
        token = sound.near_end.token;
        free = sound.near_end.free;
        answered = λ query some. sound.near_end.answered query (omega (arith, some, counted NoToken next is_clear));
        empty_token = sound.near_end.empty_token;
        empty_free = sound.near_end.empty_free;
        empty_known = sound.near_end.empty_known;
      };
      far_end = sound.far_end;
      near_query = λ stays. omega (arith, sound.near_query stays, counted NoToken next is_clear);
      far_query = λ stays. omega (arith, sound.far_query stays, counted NoToken next is_query);
    }
    by_item Clear next = record {
      one_token = omega (arith, sound.one_token, counted Clear next is_give);
      near_end = record {
        locked = sound.near_end.locked;
        down = λ down. absurd (cc (up, down));
        gone = gone;
        token = λ query. absurd (cc (query));
        free = λ query. absurd (cc (query));
        answered = λ query. absurd (cc (query));
        empty_token = λ empty. (becomes empty).0;
        empty_free = λ empty. (becomes empty).1;
        empty_known = λ empty. (becomes empty).2;
      };
      far_end = sound.far_end;
      near_query = λ stays. omega (arith, sound.near_query stays, counted Clear next is_clear, number_small (is_out near.end.query));
      far_query = λ stays. omega (arith, sound.far_query stays, counted Clear next is_query);
    }
      where
        becomes_by : (told : Bool) → is_sound near.end.query && not seen.busy && near.end.token ≡ told → (if told then true else near.end.empty) ≡ true
            → (near.end.token ≡ true) × (near.busy ≡ false) × Near
        becomes_by true is empty =
            let parts = both (is_sound near.end.query && not seen.busy) near.end.token is
            in let queried = both (is_sound near.end.query) (not seen.busy) parts.0
            in (parts.1, busy ∙ not_true seen.busy queried.1, sound.near_end.answered (is_sound_sound near.end.query queried.0) (omega (arith, counted Clear next is_clear)))
        becomes_by false is empty = (sound.near_end.empty_token empty, sound.near_end.empty_free empty, sound.near_end.empty_known empty)

        becomes : (if is_sound near.end.query && not seen.busy && near.end.token then true else near.end.empty) ≡ true
            → (near.end.token ≡ true) × (near.busy ≡ false) × Near
        becomes empty = becomes_by (is_sound near.end.query && not seen.busy && near.end.token) refl empty
