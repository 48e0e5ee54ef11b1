-- What a whole step keeps, part by part.
use Rattle.std.proofs.Common.{◌≡◌, Bool, true, false, not, List, [], ◌∷◌, ◌++◌, refl, sym, ap, subst, arith}
use Rattle.std.specs.Prelude.{◌&&◌, if◌then◌else◌}
use Rattle.line_laws.specs.declared.words.Side.{Side}
use Rattle.line_laws.specs.declared.words.Side.TheVariants.{First, Second}
use Rattle.line_laws.specs.declared.words.Item.{Item}
use Rattle.line_laws.specs.declared.words.Item.TheVariants.{Ask, Give, Query, Clear, NoToken}
use Rattle.line_laws.specs.declared.words.QueryOut.TheVariants.{Sound}
use Rattle.line_laws.specs.End.{End, Seen, unlinked}
use Rattle.line_laws.specs.Step.{StepSoFar, begun, is_right, is_driven_right, lock_moved, noticed, taken, all_taken, made_again, introduced, may_give, without_token, token_given, may_ask, token_asked, may_query, partner_queried, may_answer, query_answered, linked_step, step}
use Rattle.line_laws.specs.Link.{is_up, is_gone}
use Rattle.line_laws.specs.Line.{Node, with_coming}
use Rattle.line_laws.specs.Invariant.{number, is_give, is_none, IsNoneSound, IsPairSound}
use Rattle.line_laws.proofs.Counting.{both, by_test, given_in_parts, nothing_given}
use Rattle.line_laws.proofs.Ends.{near_with, near_took, near_noticed, item_given, end_changed, said_end, give_kept, ask_kept, query_kept, answer_kept, lock_kept, noticed_kept, taken_kept}
use Rattle.line_laws.proofs.Nones.{first_gave, first_changed, first_took, first_noticed, second_gave, second_changed, second_took, second_said, second_noticed}

-- the near end is the first, or the second
abbrev pub NoneBy : Side → Node → Node → Type 0
NoneBy First near far = IsNoneSound near far
NoneBy Second near far = IsNoneSound far near

-- the second end has spoken
abbrev pub HasSpoken : Side → End → Type 0
HasSpoken First end = Unit {0}
HasSpoken Second end = end.none_said ≡ true

-- two ends of which the near one looks
pub record IsLookSound (Near Far : Type 0) (side : Side) (near far : Node) : Type 0 where
  pub pair : IsPairSound Near Far near far
  pub none : NoneBy side near far

-- what a step has done so far
abbrev pub IsSoFarSound : Type 0 → Type 0 → Side → Node → Node → StepSoFar → Type 0
IsSoFarSound Near Far side near far so_far = IsLookSound Near Far side (near_with so_far.end near) (with_coming so_far.given far)

-- ---- before anything is given

pub looked_at_lock : {Near Far : Type 0} {near far : Node} (side : Side) (sound : IsLookSound Near Far side near far) (seen : Seen)
    → IsLookSound Near Far side (near_with (lock_moved seen near.end) near) far
looked_at_lock {near = near} First sound seen =
    record { pair = lock_kept sound.pair seen; none = first_changed sound.none (lock_moved seen near.end) (λ is. is) (λ is. is) }
looked_at_lock {near = near} Second sound seen =
    record { pair = lock_kept sound.pair seen; none = second_changed sound.none (lock_moved seen near.end) (λ is. is) (λ is. is) }

pub looked_at_contacts : {Near Far : Type 0} {near far : Node} (side : Side) (sound : IsLookSound Near Far side near far) (seen : Seen)
    → IsLookSound Near Far side (near_noticed seen near) far
looked_at_contacts First sound seen = record { pair = noticed_kept sound.pair seen; none = first_noticed sound.none seen }
looked_at_contacts Second sound seen = record { pair = noticed_kept sound.pair seen; none = second_noticed sound.none seen }

took_next : (near far : Node) (side : Side) (none : NoneBy side near far) (seen : Seen) (item : Item) (rest : List Item) → near.coming ≡ item ∷ rest
    → NoneBy side (near_took (taken seen item near.end) rest near) far
took_next near far First none seen item rest next = first_took none seen item rest next
took_next near far Second none seen item rest next = second_took none seen item rest next

pub took_all : {Near Far : Type 0} (side : Side) (near far : Node) (sound : IsLookSound Near Far side near far) (seen : Seen) → is_up near.place ≡ true → near.busy ≡ seen.busy
    → (items rest : List Item) → near.coming ≡ items ++ rest
    → IsLookSound Near Far side (near_took (all_taken seen items near.end) rest near) far
took_all {Near} {Far} side near far sound seen up busy [] rest next =
    subst (λ (list : List Item). IsLookSound Near Far side (near_took near.end list near) far) next sound
took_all {Near} {Far} side near far sound seen up busy (item ∷ items) rest next =
    took_all side (near_took (taken seen item near.end) (items ++ rest) near) far
    (record {
      pair = taken_kept sound.pair seen up busy item (items ++ rest) next;
      none = took_next near far side sound.none seen item (items ++ rest) next;
    }) seen up busy items rest refl

-- the first end makes the token again
made_first : {Near Far : Type 0} {near far : Node} (pair : IsPairSound Near Far near far) (none : IsNoneSound near far) → is_up near.place ≡ true
    → true && not near.end.token && near.end.none_told ≡ true
    → IsLookSound Near Far First (near_with (record near.end { token = true; none_told = false }) near) far
made_first {Near} {Far} {near} {far} pair none up may =
    let parts = both (not near.end.token) near.end.none_told may
    in let away = none.told parts.1
    in record {
      pair = record {
        one_token = omega (arith, away.coming, away.going, ap number away.token);
        near_end = record {
          locked = λ lock. refl;
          down = λ down. absurd (cc (up, down));
          gone = pair.near_end.gone;
          token = λ query. refl;
          free = pair.near_end.free;
          answered = pair.near_end.answered;
          empty_token = λ empty. refl;
          empty_free = pair.near_end.empty_free;
          empty_known = pair.near_end.empty_known;
        };
        far_end = pair.far_end;
        near_query = pair.near_query;
        far_query = pair.far_query;
      };
      none = first_changed none (record near.end { token = true; none_told = false }) (λ is. is) (λ is. absurd (cc (is)));
    }

pub made : {Near Far : Type 0} {near far : Node} (side : Side) (sound : IsLookSound Near Far side near far) → is_up near.place ≡ true
    → IsLookSound Near Far side (near_with (made_again side near.end) near) far
made {Near} {Far} {near} {far} First sound up =
    by_test (λ (end : End). IsLookSound Near Far First (near_with end near) far) (true && not near.end.token && near.end.none_told)
    (record near.end { token = true; none_told = false }) near.end (λ may. made_first sound.pair sound.none up may) (λ may. sound)
made Second sound up = sound

-- ---- while items are given

pub record IsGiving (Near Far : Type 0) (side : Side) (near far : Node) (so_far : StepSoFar) : Type 0 where
  pub sound : IsSoFarSound Near Far side near far so_far
  pub spoken : HasSpoken side so_far.end

-- the near end changes and gives an item, when it has spoken
none_gave : (side : Side) (near far : Node) (none : NoneBy side near far) (item : Item) (end : End) → HasSpoken side end → is_none item ≡ false
    → (near.end.asked ≡ false → end.asked ≡ false)
    → (end.none_told ≡ true → (near.end.none_told ≡ true) × (is_give item ≡ false))
    → (near.end.token ≡ false → end.token ≡ false)
    → (is_give item ≡ true → (near.end.asked ≡ true) × (near.end.token ≡ true))
    → NoneBy side (near_with end near) (with_coming (item ∷ []) far)
none_gave First near far none item end spoken other asked told token gave = first_gave none item end asked told (λ is. (gave is).0)
none_gave Second near far none item end spoken other asked told token gave = second_gave none item end spoken other token (λ is. (gave is).1)

gave_item : {Near Far : Type 0} {side : Side} {near far : Node} {so_far : StepSoFar} (giving : IsGiving Near Far side near far so_far) (item : Item) (end : End)
    → IsPairSound Near Far (near_with end near) (with_coming (item ∷ []) (with_coming so_far.given far))
    → HasSpoken side end
    → is_none item ≡ false
    → (so_far.end.asked ≡ false → end.asked ≡ false)
    → (end.none_told ≡ true → (so_far.end.none_told ≡ true) × (is_give item ≡ false))
    → (so_far.end.token ≡ false → end.token ≡ false)
    → (is_give item ≡ true → (so_far.end.asked ≡ true) × (so_far.end.token ≡ true))
    → IsGiving Near Far side near far (record { end = end; given = so_far.given ++ item ∷ [] })
gave_item {Near} {Far} {side} {near} {far} {so_far} giving item end pair spoken other asked told token gave = record {
  sound = subst (λ (node : Node). IsLookSound Near Far side (near_with end near) node) (given_in_parts so_far.given (item ∷ []) far)
      (record {
        pair = pair;
        none = none_gave side (near_with so_far.end near) (with_coming so_far.given far) giving.sound.none item end spoken other asked told token gave;
      });
  spoken = spoken;
}

gave_token : {Near Far : Type 0} {side : Side} {near far : Node} (so_far : StepSoFar) (giving : IsGiving Near Far side near far so_far) (seen : Seen) → is_up near.place ≡ true
    → IsGiving Near Far side near far (token_given seen so_far)
gave_token {Near} {Far} {side} {near} {far} so_far giving seen up =
    by_test (λ (new : StepSoFar). IsGiving Near Far side near far new) (may_give seen so_far.end)
    (record { end = without_token so_far.end; given = so_far.given ++ Give ∷ [] }) so_far
    (λ may.
    let parts = both (so_far.end.token && so_far.end.asked && not (is_right so_far.end.lock)) (not (is_driven_right seen.drive)) may
    in let asked = both (so_far.end.token && so_far.end.asked) (not (is_right so_far.end.lock)) parts.0
    in let here = both so_far.end.token so_far.end.asked asked.0
    in gave_item giving Give (without_token so_far.end) (give_kept giving.sound.pair seen up may) (spoken side giving.spoken) refl (λ is. refl) (λ is. absurd (cc (is)))
    (λ is. refl) (λ is. (here.1, here.0)))
    (λ may. giving)
  where
    spoken : (side : Side) → HasSpoken side so_far.end → HasSpoken side (without_token so_far.end)
    spoken First said = said
    spoken Second said = said

asked_token : {Near Far : Type 0} {side : Side} {near far : Node} (so_far : StepSoFar) (giving : IsGiving Near Far side near far so_far) (seen : Seen) → is_up near.place ≡ true
    → IsGiving Near Far side near far (token_asked seen so_far)
asked_token {Near} {Far} {side} {near} {far} so_far giving seen up =
    by_test (λ (new : StepSoFar). IsGiving Near Far side near far new) (may_ask seen so_far.end)
    (record { end = record so_far.end { asking = true }; given = so_far.given ++ Ask ∷ [] }) so_far
    (λ may. gave_item giving Ask (record so_far.end { asking = true }) (ask_kept giving.sound.pair up) (spoken side giving.spoken) refl (λ is. is) (λ is. (is, refl)) (λ is. is)
    (λ is. absurd (cc (is))))
    (λ may. giving)
  where
    spoken : (side : Side) → HasSpoken side so_far.end → HasSpoken side (record so_far.end { asking = true })
    spoken First said = said
    spoken Second said = said

queried_partner : {Near Far : Type 0} {side : Side} {near far : Node} (so_far : StepSoFar) (giving : IsGiving Near Far side near far so_far) (seen : Seen) → is_up near.place ≡ true
    → near.busy ≡ seen.busy → IsGiving Near Far side near far (partner_queried seen so_far)
queried_partner {Near} {Far} {side} {near} {far} so_far giving seen up busy =
    by_test (λ (new : StepSoFar). IsGiving Near Far side near far new) (may_query seen so_far.end)
    (record { end = record so_far.end { query = Sound }; given = so_far.given ++ Query ∷ [] }) so_far
    (λ may. gave_item giving Query (record so_far.end { query = Sound }) (query_kept giving.sound.pair seen up busy may) (spoken side giving.spoken) refl (λ is. is)
    (λ is. (is, refl)) (λ is. is) (λ is. absurd (cc (is))))
    (λ may. giving)
  where
    spoken : (side : Side) → HasSpoken side so_far.end → HasSpoken side (record so_far.end { query = Sound })
    spoken First said = said
    spoken Second said = said

answered_query : {Near Far : Type 0} {side : Side} {near far : Node} (so_far : StepSoFar) (giving : IsGiving Near Far side near far so_far) (seen : Seen) → is_up near.place ≡ true
    → (seen.busy ≡ false → far.busy ≡ false → Far) → IsGiving Near Far side near far (query_answered seen so_far)
answered_query {Near} {Far} {side} {near} {far} so_far giving seen up known =
    by_test (λ (new : StepSoFar). IsGiving Near Far side near far new) (may_answer seen so_far.end)
    (record { end = record so_far.end { queried = false }; given = so_far.given ++ Clear ∷ [] }) so_far
    (λ may. gave_item giving Clear (record so_far.end { queried = false }) (answer_kept giving.sound.pair seen up known may) (spoken side giving.spoken) refl (λ is. is)
    (λ is. (is, refl)) (λ is. is) (λ is. absurd (cc (is))))
    (λ may. giving)
  where
    spoken : (side : Side) → HasSpoken side so_far.end → HasSpoken side (record so_far.end { queried = false })
    spoken First said = said
    spoken Second said = said

-- ---- the second end speaks

nothing_yet : {Near Far : Type 0} {side : Side} {near far : Node} (sound : IsLookSound Near Far side near far) → IsLookSound Near Far side near (with_coming [] far)
nothing_yet {Near} {Far} {side} {near} {far} sound = subst (λ (node : Node). IsLookSound Near Far side near node) (sym (nothing_given far)) sound

speaks : {Near Far : Type 0} {near far : Node} (sound : IsLookSound Near Far Second near far) → is_up near.place ≡ true → is_gone near.place ≡ false → near.end.none_said ≡ false
    → (token : Bool) → near.end.token ≡ token
    → IsLookSound Near Far Second (near_with (record near.end { none_said = true }) near) (with_coming (if token then [] else [] ++ NoToken ∷ []) far)
speaks {Near} {Far} {near} {far} sound up stays unsaid true here =
    nothing_yet
    (record {
      pair = end_changed sound.pair (record near.end { none_said = true }) (omega arith) (omega arith) (omega arith) (said_end sound.pair up);
      none = second_changed sound.none (record near.end { none_said = true }) (λ is. absurd (cc (is))) (λ is. is);
    })
speaks {Near} {Far} {near} {far} sound up stays unsaid false here = record {
  pair = item_given sound.pair NoToken (record near.end { none_said = true }) (omega arith) (omega arith) (omega arith) (said_end sound.pair up) (λ is. absurd (cc (is)));
  none = second_said sound.none stays unsaid here;
}

spoke : {Near Far : Type 0} (side : Side) {near far : Node} (sound : IsLookSound Near Far side near far) → is_up near.place ≡ true → is_gone near.place ≡ false
    → IsGiving Near Far side near far (introduced side (begun near.end))
spoke First sound up stays = record { sound = nothing_yet sound; spoken = tt }
spoke {Near} {Far} Second {near} {far} sound up stays = by_said near.end.none_said refl
  where
    by_said : (said : Bool) → near.end.none_said ≡ said
        → IsGiving Near Far Second near far (if not said
        then record { end = record near.end { none_said = true }; given = (if near.end.token then [] else [] ++ NoToken ∷ []) }
        else begun near.end)
    by_said true is = record { sound = nothing_yet sound; spoken = is }
    by_said false is = record { sound = speaks sound up stays is near.end.token refl; spoken = refl }

-- ---- the whole

-- in a connection
linked : {Near Far : Type 0} (side : Side) (near far : Node) (sound : IsLookSound Near Far side near far) (seen : Seen) → is_up near.place ≡ true → is_gone near.place ≡ false
    → near.busy ≡ seen.busy → (seen.busy ≡ false → far.busy ≡ false → Far) → (items rest : List Item) → near.coming ≡ items ++ rest
    → IsSoFarSound Near Far side (near_took near.end rest near) far (linked_step side seen items near.end)
linked {Near} {Far} side near far sound seen up stays busy known items rest next =
    let end : End = made_again side (all_taken seen items near.end)
    in let so_far : StepSoFar = introduced side (begun end)
    in let given : StepSoFar = token_given seen so_far
    in let asked : StepSoFar = token_asked seen given
    in let queried : StepSoFar = partner_queried seen asked
    in let begins : IsGiving Near Far side (near_took end rest near) far so_far =
    spoke side (made side (took_all side near far sound seen up busy items rest next) up) up stays
    in let gives : IsGiving Near Far side (near_took end rest near) far given = gave_token so_far begins seen up
    in let asks : IsGiving Near Far side (near_took end rest near) far asked = asked_token given gives seen up
    in let queries : IsGiving Near Far side (near_took end rest near) far queried = queried_partner asked asks seen up busy
    in (answered_query queried queries seen up known).sound

-- the near end that has made a step, before anything is written
abbrev pub stepped_near : Seen → List Item → StepSoFar → Node → Node
stepped_near seen rest so_far near = record near { end = so_far.end; busy = seen.busy; coming = rest }

pub stepped_up : {Near Far : Type 0} (side : Side) (near far : Node) (sound : IsLookSound Near Far side near far) (seen : Seen) → is_up near.place ≡ true → is_gone near.place ≡ false
    → (seen.busy ≡ false → far.busy ≡ false → Far) → (items rest : List Item) → near.coming ≡ items ++ rest
    → IsLookSound Near Far side (stepped_near seen rest (step side true seen items near.end) near) (with_coming (step side true seen items near.end).given far)
stepped_up {Near} {Far} side near far sound seen up stays known items rest next =
    let noticed_near : Node = near_noticed seen (near_with (lock_moved seen near.end) near)
    in let noticed_sound : IsLookSound Near Far side noticed_near far = looked_at_contacts side (looked_at_lock side sound seen) seen
    in looked_at_lock side (linked side noticed_near far noticed_sound seen up stays refl known items rest next) seen

pub stepped_down : {Near Far : Type 0} (side : Side) (near far : Node) (sound : IsLookSound Near Far side near far) (seen : Seen) → is_up near.place ≡ false
    → IsLookSound Near Far side (stepped_near seen near.coming (step side false seen [] near.end) near) (with_coming (step side false seen [] near.end).given far)
stepped_down {Near} {Far} side near far sound seen down =
    let end : End = noticed seen (lock_moved seen near.end)
    in let noticed_near : Node = near_noticed seen (near_with (lock_moved seen near.end) near)
    in let noticed_sound : IsLookSound Near Far side noticed_near far = looked_at_contacts side (looked_at_lock side sound seen) seen
    in let same : end ≡ unlinked end = noticed_sound.pair.near_end.down down
    in let unlinked_sound : IsLookSound Near Far side (near_with (unlinked end) noticed_near) far =
    subst (λ (end : End). IsLookSound Near Far side (near_with end noticed_near) far) same noticed_sound
    in looked_at_lock side (nothing_yet unlinked_sound) seen
