-- One item after another, told and heard.
use Rattle.std.proofs.Common.{◌≡◌, ℕ, ◌+◌, ◌*◌, ◌<◌, ◌≤◌, Bool, true, false, cond, List, [], ◌∷◌, ◌++◌, drop, length, get_or, arith, refl, ap, sym, ◌∙◌, subst}
use Rattle.std.specs.Prelude.{Option, Some, None}
use Rattle.std.proofs.lemmas.Bool.{cond-true, cond-false}
use Rattle.std.proofs.lemmas.List.{at_drop_more, at_drop_all, length-append}
use Rattle.rasta_core.specs.State.{is_open, is_up}
use Rattle.line_laws.specs.declared.words.Item.{Item}
use Rattle.line_telegram.specs.declared.message.LineMessage.TheVariants.{Line}
use Rattle.line_host.specs.Talk.{TalkState, TalkSoFar, TalkHeard, Stays, saying, giving_all, acting, acting_all, with_item}
use Rattle.line_host.proofs.Staying.{then_stays, at_once}

-- ---- what is told

-- the items before this place were given, and those from it on are left
pub record IsGiving (now : ℕ) (items : List Item) (old : TalkState) (place : ℕ) (new : TalkState) : Type 0 where
  pub leads : giving_all now (drop place items) new ≡ giving_all now items old
  pub stays : Stays now (2 * place) old new

pub begins_giving : (now : ℕ) (items : List Item) (old : TalkState) → old.link.clock ≡ now → IsGiving now items old 0 old
begins_giving now items old at = record { leads = refl; stays = at_once now 0 old at }

one_given : (now : ℕ) (item : Item) (others : List Item) (talk : TalkState) → is_up talk.link.phase ≡ true
    → giving_all now (item ∷ others) talk ≡ giving_all now others (saying now (Line item) talk)
unfolding giving_all
one_given now item others talk up = cond-true (is_up talk.link.phase) _ _ up

pub gives_on : (now place : ℕ) (items : List Item) (item : Item) (old talk new : TalkState) → IsGiving now items old place talk → place < length items
    → item ≡ get_or items place item → is_up talk.link.phase ≡ true → new ≡ saying now (Line item) talk → Stays now 2 talk new → IsGiving now items old (place + 1) new
gives_on now place items item old talk new state within is_item up is stays =
    let rest : drop place items ≡ item ∷ drop (place + 1) items =
    at_drop_more (λ rest. rest) items place item within ∙ ap (λ i. i ∷ drop (place + 1) items) (sym is_item)
    in record {
      leads = ap (giving_all now (drop (place + 1) items)) is
          ∙ (sym (one_given now item (drop (place + 1) items) talk up) ∙ (ap (λ (left : List Item). giving_all now left talk) (sym rest) ∙ state.leads));
      stays = then_stays now (2 * place) 2 (2 * (place + 1)) old talk new state.stays stays (omega arith);
    }

none_given : (now : ℕ) (talk : TalkState) → giving_all now [] talk ≡ talk
unfolding giving_all
none_given now talk = refl

pub down_gives_none : (now : ℕ) (items : List Item) (talk : TalkState) → is_up talk.link.phase ≡ false → giving_all now items talk ≡ talk
unfolding giving_all
down_gives_none now [] talk down = refl
down_gives_none now (item ∷ others) talk down = cond-false (is_up talk.link.phase) _ _ down

pub gave_all : (now place : ℕ) (items : List Item) (old talk : TalkState) → IsGiving now items old place talk → length items ≤ place → talk ≡ giving_all now items old
gave_all now place items old talk state past =
    sym (none_given now talk) ∙ (ap (λ (left : List Item). giving_all now left talk) (sym (at_drop_all (λ rest. rest) items place past)) ∙ state.leads)

pub gave_some : (now place : ℕ) (items : List Item) (old talk : TalkState) → IsGiving now items old place talk → is_up talk.link.phase ≡ false → talk ≡ giving_all now items old
gave_some now place items old talk state down = sym (down_gives_none now (drop place items) talk down) ∙ state.leads

-- ---- what is heard

pub record IsActing (now : ℕ) (items : List (List ℕ)) (old : TalkState) (place : ℕ) (talk : TalkState) (taken : List Item) : Type 0 where
  pub leads : acting_all now (drop place items) (record { talk = talk; taken = taken }) ≡ acting_all now items (record { talk = old; taken = [] })
  pub stays : Stays now (2 * place) old talk
  pub few : length taken ≤ place

pub begins_acting : (now : ℕ) (items : List (List ℕ)) (old : TalkState) (taken : List Item) → old.link.clock ≡ now → taken ≡ [] → IsActing now items old 0 old taken
begins_acting now items old taken at none = record {
  leads = ap (λ (l : List Item). acting_all now items (record { talk = old; taken = l })) none;
  stays = at_once now 0 old at;
  few = omega (arith, ap (λ (l : List Item). length l) none);
}

one_acted : (now : ℕ) (item : List ℕ) (others : List (List ℕ)) (talk : TalkState) (taken : List Item) → is_open talk.link.phase ≡ true
    → acting_all now (item ∷ others) (record { talk = talk; taken = taken })
    ≡ acting_all now others (record { talk = (acting now item talk).talk; taken = with_item (acting now item talk).item taken })
unfolding acting_all
one_acted now item others talk taken opened = cond-true (is_open talk.link.phase) _ _ opened

with_one : (told : Option Item) (taken : List Item) → length (with_item told taken) ≤ length taken + 1
with_one None taken = omega arith
with_one (Some item) taken = omega (arith, length-append taken (item ∷ []))

pub acts_on : (now place : ℕ) (items : List (List ℕ)) (item : List ℕ) (old talk new : TalkState) (taken more : List Item) (told : Option Item)
    → IsActing now items old place talk taken → place < length items → item ≡ get_or items place item → is_open talk.link.phase ≡ true
    → new ≡ (acting now item talk).talk → told ≡ (acting now item talk).item → Stays now 2 talk new → more ≡ with_item told taken
    → IsActing now items old (place + 1) new more
acts_on now place items item old talk new taken more told state within is_item opened is told-is stays more-is =
    let rest : drop place items ≡ item ∷ drop (place + 1) items =
    at_drop_more (λ rest. rest) items place item within ∙ ap (λ i. i ∷ drop (place + 1) items) (sym is_item)
    in record {
      leads =
          ap (λ (t : TalkState). acting_all now (drop (place + 1) items) (record { talk = t; taken = more })) is
          ∙ (ap (λ (l : List Item). acting_all now (drop (place + 1) items) (record { talk = (acting now item talk).talk; taken = l })) (more-is ∙ ap (λ (t : Option Item). with_item t taken) told-is)
          ∙ (sym (one_acted now item (drop (place + 1) items) talk taken opened)
          ∙ (ap (λ (left : List (List ℕ)). acting_all now left (record { talk = talk; taken = taken })) (sym rest) ∙ state.leads)));
      stays = then_stays now (2 * place) 2 (2 * (place + 1)) old talk new state.stays stays (omega arith);
      few = omega (arith, ap (λ (l : List Item). length l) more-is, with_one told taken, state.few);
    }

none_acted : (now : ℕ) (so_far : TalkSoFar) → acting_all now [] so_far ≡ so_far
unfolding acting_all
none_acted now so_far = refl

closed_drops : (now : ℕ) (items : List (List ℕ)) (so_far : TalkSoFar) → is_open so_far.talk.link.phase ≡ false → acting_all now items so_far ≡ so_far
unfolding acting_all
closed_drops now [] so_far closed = refl
closed_drops now (item ∷ others) so_far closed = cond-false (is_open so_far.talk.link.phase) _ _ closed

pub acted_all : (now place : ℕ) (items : List (List ℕ)) (old talk : TalkState) (taken : List Item) → IsActing now items old place talk taken → length items ≤ place
    → record { talk = talk; taken = taken } ≡ acting_all now items (record { talk = old; taken = [] })
acted_all now place items old talk taken state past =
    sym (none_acted now (record { talk = talk; taken = taken }))
    ∙ (ap (λ (left : List (List ℕ)). acting_all now left (record { talk = talk; taken = taken })) (sym (at_drop_all (λ rest. rest) items place past)) ∙ state.leads)

pub acted_some : (now place : ℕ) (items : List (List ℕ)) (old talk : TalkState) (taken : List Item) → IsActing now items old place talk taken → is_open talk.link.phase ≡ false
    → record { talk = talk; taken = taken } ≡ acting_all now items (record { talk = old; taken = [] })
acted_some now place items old talk taken state closed = sym (closed_drops now (drop place items) (record { talk = talk; taken = taken }) closed) ∙ state.leads
