-- What it means that the second end has no token, kept by a part of a step of either end.
use Rattle.std.proofs.Common.{◌≡◌, ◌≤◌, Bool, true, false, List, [], ◌∷◌, ◌++◌, sym, ap, ◌∙◌, arith}
use Rattle.std.specs.Prelude.{if◌then◌else◌}
use Rattle.line_laws.specs.declared.words.Item.{Item}
use Rattle.line_laws.specs.declared.words.Item.TheVariants.{Ask, Give, Query, Clear, NoToken}
use Rattle.line_laws.specs.End.{End, Seen}
use Rattle.line_laws.specs.Step.{spoiled, taken}
use Rattle.line_laws.specs.Link.{Place, Before, Started, Up, Gone, is_gone, coming_more}
use Rattle.line_laws.specs.Line.{Node, with_coming}
use Rattle.line_laws.specs.Invariant.{number, how_many, later, is_give, is_none, gives, nones, IsAway, IsSilent, IsNoneSound}
use Rattle.line_laws.proofs.Counting.{number_none, one_more, later_more, later_fewer}
use Rattle.line_laws.proofs.Ends.{near_with, near_took, near_noticed}

-- ---- the first end

-- it changes, and gives an item
pub first_gave : {first second : Node} (none : IsNoneSound first second) (item : Item) (end : End) → (first.end.asked ≡ false → end.asked ≡ false)
    → (end.none_told ≡ true → (first.end.none_told ≡ true) × (is_give item ≡ false))
    → (is_give item ≡ true → first.end.asked ≡ true)
    → IsNoneSound (near_with end first) (with_coming (item ∷ []) second)
first_gave {first} {second} none item end asked told gave = record {
  silent = λ stays unsaid.
      let old = none.silent stays unsaid in record { nothing = old.nothing; unasked = asked old.unasked; going = going old.unasked old.going };
  first_said = none.first_said;
  unasked = λ some. asked (none.unasked some);
  coming = λ some. let old = none.coming some in record { token = old.token; coming = old.coming; going = going (none.unasked some) old.going };
  told = λ is.
      let was = told is
      in let old = none.told was.0
      in record { token = old.token; coming = old.coming; going = omega (arith, old.going, one_more is_give second.place item second.coming, ap number was.1) };
}
  where
    going : first.end.asked ≡ false → gives second ≡ 0 → gives (with_coming (item ∷ []) second) ≡ 0
    going unasked old = omega (arith, old, one_more is_give second.place item second.coming, number_none (is_give item) (λ is. cc (gave is, unasked)))

-- it changes
pub first_changed : {first second : Node} (none : IsNoneSound first second) (end : End) → (first.end.asked ≡ false → end.asked ≡ false)
    → (end.none_told ≡ true → first.end.none_told ≡ true) → IsNoneSound (near_with end first) second
first_changed {first} {second} none end asked told = record {
  silent = λ stays unsaid. let old = none.silent stays unsaid in record { nothing = old.nothing; unasked = asked old.unasked; going = old.going };
  first_said = none.first_said;
  unasked = λ some. asked (none.unasked some);
  coming = λ some. let old = none.coming some in record { token = old.token; coming = old.coming; going = old.going };
  told = λ is. let old = none.told (told is) in record { token = old.token; coming = old.coming; going = old.going };
}

-- it takes the next item
pub first_took : {first second : Node} (none : IsNoneSound first second) (seen : Seen) (item : Item) (rest : List Item) → first.coming ≡ item ∷ rest
    → IsNoneSound (near_took (taken seen item first.end) rest first) second
first_took {first} {second} none seen item rest next = record {
  silent = λ stays unsaid. absurd (unsilent (none.silent stays unsaid));
  first_said = omega (arith, later_fewer is_none rest, no_more);
  unasked = λ some. absurd (omega (arith, some, no_more));
  coming = λ some. absurd (omega (arith, some, no_more));
  told = λ is. fewer (told item next is);
}
  where
    no_more : how_many is_none rest ≡ 0
    no_more = sym (ap (λ (list : List Item). how_many is_none (later list)) next) ∙ none.first_said

    unsilent : IsSilent first second → ⊥
    unsilent silent = cc (silent.nothing, next)

    -- no token comes where it is away
    fewer : IsAway first second → IsAway (near_took (taken seen item first.end) rest first) second
    fewer away = record { token = away.token; coming = omega (arith, away.coming, ap (how_many is_give) next); going = away.going }

    told : (item : Item) → first.coming ≡ item ∷ rest → (taken seen item first.end).none_told ≡ true → IsAway first second
    told Ask next is = none.told is
    told Give next is = none.told is
    told Query next is = none.told is
    told Clear next is = none.told is
    told NoToken next is = none.coming (omega (arith, ap (how_many is_none) next))

-- ---- the second end

-- it has spoken, changes, and gives an item
pub second_gave : {first second : Node} (none : IsNoneSound first second) (item : Item) (end : End) → end.none_said ≡ true → is_none item ≡ false
    → (second.end.token ≡ false → end.token ≡ false)
    → (is_give item ≡ true → second.end.token ≡ true)
    → IsNoneSound (with_coming (item ∷ []) first) (near_with end second)
second_gave {first} {second} none item end said other token gave = record {
  silent = λ stays unsaid. absurd (cc (unsaid, said));
  first_said = omega (arith, none.first_said, later_more is_none first.place item first.coming, ap number other);
  unasked = λ some. none.unasked (before some);
  coming = λ some. away (none.coming (before some));
  told = λ is. away (none.told is);
}
  where
    before : 1 ≤ nones (with_coming (item ∷ []) first) → 1 ≤ nones first
    before some = omega (arith, some, one_more is_none first.place item first.coming, ap number other)

    away : IsAway first second → IsAway (with_coming (item ∷ []) first) (near_with end second)
    away old = record {
      token = token old.token;
      coming = omega (arith, old.coming, one_more is_give first.place item first.coming, number_none (is_give item) (λ is. cc (gave is, old.token)));
      going = old.going;
    }

-- it changes
pub second_changed : {first second : Node} (none : IsNoneSound first second) (end : End) → (end.none_said ≡ false → second.end.none_said ≡ false)
    → (second.end.token ≡ false → end.token ≡ false) → IsNoneSound first (near_with end second)
second_changed {first} {second} none end said token = record {
  silent = λ stays unsaid. let old = none.silent stays (said unsaid) in record { nothing = old.nothing; unasked = old.unasked; going = old.going };
  first_said = none.first_said;
  unasked = none.unasked;
  coming = λ some. let old = none.coming some in record { token = token old.token; coming = old.coming; going = old.going };
  told = λ is. let old = none.told is in record { token = token old.token; coming = old.coming; going = old.going };
}

-- it takes the next item
pub second_took : {first second : Node} (none : IsNoneSound first second) (seen : Seen) (item : Item) (rest : List Item) → second.coming ≡ item ∷ rest
    → IsNoneSound first (near_took (taken seen item second.end) rest second)
second_took {first} {second} none seen item rest next = record {
  silent = λ stays unsaid.
      let old = none.silent stays (said item unsaid)
      in record { nothing = old.nothing; unasked = old.unasked; going = omega (arith, old.going, ap (how_many is_give) next) };
  first_said = none.first_said;
  unasked = none.unasked;
  coming = λ some. away (none.coming some);
  told = λ is. away (none.told is);
}
  where
    said : (item : Item) → (taken seen item second.end).none_said ≡ false → second.end.none_said ≡ false
    said Ask is = is
    said Give is = is
    said Query is = is
    said Clear is = is
    said NoToken is = is

    token : (item : Item) → second.coming ≡ item ∷ rest → gives second ≡ 0 → second.end.token ≡ false → (taken seen item second.end).token ≡ false
    token Ask next going is = is
    token Give next going is = absurd (omega (arith, going, ap (how_many is_give) next))
    token Query next going is = is
    token Clear next going is = is
    token NoToken next going is = is

    away : IsAway first second → IsAway first (near_took (taken seen item second.end) rest second)
    away old = record { token = token item next old.going old.token; coming = old.coming; going = omega (arith, old.going, ap (how_many is_give) next) }

-- It speaks: it had given nothing, and no token was on the way to it.
pub second_said : {first second : Node} (none : IsNoneSound first second) → is_gone second.place ≡ false → second.end.none_said ≡ false → second.end.token ≡ false
    → IsNoneSound (with_coming (NoToken ∷ []) first) (near_with (record second.end { none_said = true }) second)
second_said {first} {second} none stays unsaid token = record {
  silent = λ stays unsaid. absurd (cc (unsaid));
  first_said = omega (arith, later_more is_none first.place NoToken first.coming, one_only first.place first.coming silent.nothing);
  unasked = λ some. silent.unasked;
  coming = λ some. away;
  told = λ is. away;
}
  where
    silent : IsSilent first second
    silent = none.silent stays unsaid

    one_only : (place : Place) (coming : List Item) → coming ≡ [] → how_many is_none (later (coming_more place (NoToken ∷ []) coming)) ≡ 0
    one_only Before coming empty = ap (λ (list : List Item). how_many is_none (later (list ++ NoToken ∷ []))) empty
    one_only Started coming empty = ap (λ (list : List Item). how_many is_none (later (list ++ NoToken ∷ []))) empty
    one_only Up coming empty = ap (λ (list : List Item). how_many is_none (later (list ++ NoToken ∷ []))) empty
    one_only Gone coming empty = ap (λ (list : List Item). how_many is_none (later list)) empty

    away : IsAway (with_coming (NoToken ∷ []) first) (near_with (record second.end { none_said = true }) second)
    away = record {
      token = token;
      coming = omega (arith, one_more is_give first.place NoToken first.coming, ap (how_many is_give) silent.nothing);
      going = silent.going;
    }

-- ---- contacts

pub first_noticed : {first second : Node} (none : IsNoneSound first second) (seen : Seen) → IsNoneSound (near_noticed seen first) second
first_noticed {first} {second} none seen = at_busy seen.busy
  where
    at_busy : (busy : Bool)
        → IsNoneSound (record first { end = (if busy then record first.end { empty = false; query = spoiled first.end.query } else first.end); busy = busy }) second
    at_busy true = record {
      silent = λ stays unsaid. let old = none.silent stays unsaid in record { nothing = old.nothing; unasked = old.unasked; going = old.going };
      first_said = none.first_said;
      unasked = none.unasked;
      coming = λ some. let old = none.coming some in record { token = old.token; coming = old.coming; going = old.going };
      told = λ is. let old = none.told is in record { token = old.token; coming = old.coming; going = old.going };
    }
    at_busy false = record {
      silent = λ stays unsaid. let old = none.silent stays unsaid in record { nothing = old.nothing; unasked = old.unasked; going = old.going };
      first_said = none.first_said;
      unasked = none.unasked;
      coming = λ some. let old = none.coming some in record { token = old.token; coming = old.coming; going = old.going };
      told = λ is. let old = none.told is in record { token = old.token; coming = old.coming; going = old.going };
    }

pub second_noticed : {first second : Node} (none : IsNoneSound first second) (seen : Seen) → IsNoneSound first (near_noticed seen second)
second_noticed {first} {second} none seen = at_busy seen.busy
  where
    at_busy : (busy : Bool)
        → IsNoneSound first (record second { end = (if busy then record second.end { empty = false; query = spoiled second.end.query } else second.end); busy = busy })
    at_busy true = record {
      silent = λ stays unsaid. let old = none.silent stays unsaid in record { nothing = old.nothing; unasked = old.unasked; going = old.going };
      first_said = none.first_said;
      unasked = none.unasked;
      coming = λ some. let old = none.coming some in record { token = old.token; coming = old.coming; going = old.going };
      told = λ is. let old = none.told is in record { token = old.token; coming = old.coming; going = old.going };
    }
    at_busy false = record {
      silent = λ stays unsaid. let old = none.silent stays unsaid in record { nothing = old.nothing; unasked = old.unasked; going = old.going };
      first_said = none.first_said;
      unasked = none.unasked;
      coming = λ some. let old = none.coming some in record { token = old.token; coming = old.coming; going = old.going };
      told = λ is. let old = none.told is in record { token = old.token; coming = old.coming; going = old.going };
    }
