-- What a step says is so, part by part.
use Rattle.std.proofs.Common.{◌≡◌, ◌+◌, Bool, true, false, not, List, [], ◌∷◌, ◌++◌, refl, ap, ◌⊎◌, inl, inr, arith}
use Rattle.std.specs.Prelude.{◌&&◌, ◌||◌, if◌then◌else◌, Option, Some, None}
use Rattle.line_laws.specs.declared.words.Side.{Side}
use Rattle.line_laws.specs.declared.words.Side.TheVariants.{First, Second}
use Rattle.line_laws.specs.declared.words.Position.{Position}
use Rattle.line_laws.specs.declared.words.Position.TheVariants.{Left, Right}
use Rattle.line_laws.specs.declared.words.Item.{Item}
use Rattle.line_laws.specs.declared.words.Item.TheVariants.{Ask, Give, Query, Clear, NoToken}
use Rattle.line_laws.specs.declared.words.QueryOut.TheVariants.{Sound}
use Rattle.line_laws.specs.End.{End, Seen, unlinked}
use Rattle.line_laws.specs.Step.{StepSoFar, begun, is_right, is_driven_right, is_no, lock_after, lock_moved, noticed, all_taken, made_again, introduced, may_give, without_token, token_given, may_ask, token_asked, may_query, partner_queried, may_answer, query_answered, linked_step, step_between, step}
use Rattle.line_laws.specs.Invariant.{number, how_many, is_give, is_query, is_clear, is_none}
use Rattle.line_end.specs.Told.{is_ask, HasSome, IsTrueSaid}

pub both : (a b : Bool) → a && b ≡ true → (a ≡ true) × (b ≡ true)
both true b e = (refl, e)
both false b e = cc

pub not_true : (a : Bool) → not a ≡ true → a ≡ false
not_true true e = cc
not_true false e = refl

either : (a b : Bool) → a || b ≡ true → (a ≡ true) ⊎ (b ≡ true)
either true b e = inl refl
either false b e = inr e

pub by_test : {A : Type 0} (Fact : A → Type 0) (test : Bool) (new old : A) → (test ≡ true → Fact new) → (test ≡ false → Fact old) → Fact (if test then new else old)
by_test Fact true new old holds fails = holds refl
by_test Fact false new old holds fails = fails refl

added : (is : Item → Bool) (items : List Item) (item : Item) → how_many is (items ++ item ∷ []) ≡ how_many is items + number (is item)
added is [] item = omega arith
added is (next ∷ items) item = omega (arith, added is items item)

-- an item of another kind adds none
before : (is : Item → Bool) (items : List Item) (item : Item) → is item ≡ false → HasSome is (items ++ item ∷ []) → HasSome is items
before is items item other some = omega (arith, some, added is items item, ap number other)

-- ---- the rules

nothing_said : (side : Side) (seen : Seen) (end : End) → IsTrueSaid side seen (begun end)
nothing_said side seen end = record {
  give = λ some. absurd (omega (arith, some));
  ask = λ some. absurd (omega (arith, some));
  query = λ some. absurd (omega (arith, some));
  clear = λ some. absurd (omega (arith, some));
  none = λ some. absurd (omega (arith, some));
}

spoke : (side : Side) (seen : Seen) (end : End) → IsTrueSaid side seen (introduced side (begun end))
spoke First seen end = nothing_said First seen end
spoke Second seen end = by_said end.none_said
  where
    by_token : (token : Bool) → end.token ≡ token
        → IsTrueSaid Second seen (record { end = record end { none_said = true }; given = (if token then [] else [] ++ NoToken ∷ []) })
    by_token true here = nothing_said Second seen (record end { none_said = true })
    by_token false away = record {
      give = λ some. absurd (omega (arith, some));
      ask = λ some. absurd (omega (arith, some));
      query = λ some. absurd (omega (arith, some));
      clear = λ some. absurd (omega (arith, some));
      none = λ some. record { second = refl; away = away };
    }

    by_said : (said : Bool)
        → IsTrueSaid Second seen (if not said
        then record { end = record end { none_said = true }; given = (if end.token then [] else [] ++ NoToken ∷ []) }
        else begun end)
    by_said true = nothing_said Second seen end
    by_said false = by_token end.token refl

gave : (side : Side) (seen : Seen) (so_far : StepSoFar) → ¬ HasSome is_ask so_far.given → ¬ HasSome is_query so_far.given → IsTrueSaid side seen so_far
    → IsTrueSaid side seen (token_given seen so_far)
gave side seen so_far unasked unqueried said =
    by_test (λ (new : StepSoFar). IsTrueSaid side seen new) (may_give seen so_far.end)
    (record { end = without_token so_far.end; given = so_far.given ++ Give ∷ [] }) so_far
    (λ may.
    let parts = both (so_far.end.token && so_far.end.asked && not (is_right so_far.end.lock)) (not (is_driven_right seen.drive)) may
    in let asked = both (so_far.end.token && so_far.end.asked) (not (is_right so_far.end.lock)) parts.0
    in record {
      give = λ some. record { away = refl; unlocked = not_true (is_right so_far.end.lock) asked.1; undriven = not_true (is_driven_right seen.drive) parts.1 };
      ask = λ some. absurd (unasked (before is_ask so_far.given Give refl some));
      query = λ some. absurd (unqueried (before is_query so_far.given Give refl some));
      clear = λ some. said.clear (before is_clear so_far.given Give refl some);
      none = λ some. record { second = (said.none (before is_none so_far.given Give refl some)).second; away = refl };
    })
    (λ may. said)

asked : (side : Side) (seen : Seen) (so_far : StepSoFar) → ¬ HasSome is_query so_far.given → IsTrueSaid side seen so_far → IsTrueSaid side seen (token_asked seen so_far)
asked side seen so_far unqueried said =
    by_test (λ (new : StepSoFar). IsTrueSaid side seen new) (may_ask seen so_far.end)
    (record { end = record so_far.end { asking = true }; given = so_far.given ++ Ask ∷ [] }) so_far
    (λ may.
    let parts = both (not so_far.end.token && not so_far.end.asking) (seen.wish || is_driven_right seen.drive) may
    in let away = both (not so_far.end.token) (not so_far.end.asking) parts.0
    in record {
      give = λ some. let old = said.give (before is_give so_far.given Ask refl some) in record { away = old.away; unlocked = old.unlocked; undriven = old.undriven };
      ask = λ some. record { away = not_true so_far.end.token away.0; need = either seen.wish (is_driven_right seen.drive) parts.1 };
      query = λ some. absurd (unqueried (before is_query so_far.given Ask refl some));
      clear = λ some. said.clear (before is_clear so_far.given Ask refl some);
      none = λ some. let old = said.none (before is_none so_far.given Ask refl some) in record { second = old.second; away = old.away };
    })
    (λ may. said)

queried : (side : Side) (seen : Seen) (so_far : StepSoFar) → IsTrueSaid side seen so_far → IsTrueSaid side seen (partner_queried seen so_far)
queried side seen so_far said =
    by_test (λ (new : StepSoFar). IsTrueSaid side seen new) (may_query seen so_far.end)
    (record { end = record so_far.end { query = Sound }; given = so_far.given ++ Query ∷ [] }) so_far
    (λ may.
    let parts = both (so_far.end.token && not seen.busy && not so_far.end.empty) (is_no so_far.end.query) may
    in let known = both (so_far.end.token && not seen.busy) (not so_far.end.empty) parts.0
    in let here = both so_far.end.token (not seen.busy) known.0
    in record {
      give = λ some. let old = said.give (before is_give so_far.given Query refl some) in record { away = old.away; unlocked = old.unlocked; undriven = old.undriven };
      ask = λ some. let old = said.ask (before is_ask so_far.given Query refl some) in record { away = old.away; need = old.need };
      query = λ some. record { here = here.0; free = not_true seen.busy here.1; sound = refl };
      clear = λ some. said.clear (before is_clear so_far.given Query refl some);
      none = λ some. let old = said.none (before is_none so_far.given Query refl some) in record { second = old.second; away = old.away };
    })
    (λ may. said)

answered : (side : Side) (seen : Seen) (so_far : StepSoFar) → IsTrueSaid side seen so_far → IsTrueSaid side seen (query_answered seen so_far)
answered side seen so_far said =
    by_test (λ (new : StepSoFar). IsTrueSaid side seen new) (may_answer seen so_far.end)
    (record { end = record so_far.end { queried = false }; given = so_far.given ++ Clear ∷ [] }) so_far
    (λ may.
    let parts = both so_far.end.queried (not seen.busy) may
    in record {
      give = λ some. let old = said.give (before is_give so_far.given Clear refl some) in record { away = old.away; unlocked = old.unlocked; undriven = old.undriven };
      ask = λ some. let old = said.ask (before is_ask so_far.given Clear refl some) in record { away = old.away; need = old.need };
      query = λ some. let old = said.query (before is_query so_far.given Clear refl some) in record { here = old.here; free = old.free; sound = old.sound };
      clear = λ some. not_true seen.busy parts.1;
      none = λ some. let old = said.none (before is_none so_far.given Clear refl some) in record { second = old.second; away = old.away };
    })
    (λ may. said)

-- ---- none of a kind yet

none_spoke : (is : Item → Bool) → is NoToken ≡ false → (side : Side) (end : End) → ¬ HasSome is (introduced side (begun end)).given
none_spoke is other First end some = omega (arith, some)
none_spoke is other Second end some = by_said end.none_said some
  where
    by_said : (said : Bool)
        → ¬ HasSome is (if not said
        then record { end = record end { none_said = true }; given = (if end.token then [] else [] ++ NoToken ∷ []) }
        else begun end).given
    by_said true some = omega (arith, some)
    by_said false some = by_token end.token some
      where
        by_token : (token : Bool) → ¬ HasSome is (if token then [] else [] ++ NoToken ∷ [])
        by_token true some = omega (arith, some)
        by_token false some = omega (arith, some, ap number other)

none_gave : (is : Item → Bool) → is Give ≡ false → (seen : Seen) (so_far : StepSoFar) → ¬ HasSome is so_far.given → ¬ HasSome is (token_given seen so_far).given
none_gave is other seen so_far none =
    by_test (λ (new : StepSoFar). ¬ HasSome is new.given) (may_give seen so_far.end)
    (record { end = without_token so_far.end; given = so_far.given ++ Give ∷ [] }) so_far (λ may some. none (before is so_far.given Give other some)) (λ may. none)

none_asked : (is : Item → Bool) → is Ask ≡ false → (seen : Seen) (so_far : StepSoFar) → ¬ HasSome is so_far.given → ¬ HasSome is (token_asked seen so_far).given
none_asked is other seen so_far none =
    by_test (λ (new : StepSoFar). ¬ HasSome is new.given) (may_ask seen so_far.end)
    (record { end = record so_far.end { asking = true }; given = so_far.given ++ Ask ∷ [] }) so_far (λ may some. none (before is so_far.given Ask other some)) (λ may. none)

-- ---- the whole

linked_said : (side : Side) (seen : Seen) (items : List Item) (end : End) → IsTrueSaid side seen (linked_step side seen items end)
linked_said side seen items end =
    let spoken : StepSoFar = introduced side (begun (made_again side (all_taken seen items end)))
    in let given : StepSoFar = token_given seen spoken
    in let unasked : ¬ HasSome is_ask spoken.given = none_spoke is_ask refl side (made_again side (all_taken seen items end))
    in let unqueried : ¬ HasSome is_query spoken.given = none_spoke is_query refl side (made_again side (all_taken seen items end))
    in let after_give : IsTrueSaid side seen given = gave side seen spoken unasked unqueried (spoke side seen (made_again side (all_taken seen items end)))
    in answered side seen (partner_queried seen (token_asked seen given))
    (queried side seen (token_asked seen given) (asked side seen given (none_gave is_query refl seen spoken unqueried) after_give))

between_said : (side : Side) (up : Bool) (seen : Seen) (items : List Item) (end : End) → IsTrueSaid side seen (step_between side up seen items end)
between_said side true seen items end = linked_said side seen items end
between_said side false seen items end = nothing_said side seen (unlinked end)

-- a lock that isn't driven right doesn't come to lie there
stays_open : (seen : Seen) (token : Bool) (lock : Position) → is_driven_right seen.drive ≡ false → is_right lock ≡ false → is_right (lock_after seen.drive token lock) ≡ false
stays_open seen token lock undriven unlocked = by_drive seen.drive undriven
  where
    by_drive : (drive : Option Position) → is_driven_right drive ≡ false → is_right (lock_after drive token lock) ≡ false
    by_drive None other = unlocked
    by_drive (Some Left) other = refl
    by_drive (Some Right) other = absurd (cc (other))

pub step_said : (side : Side) (up : Bool) (seen : Seen) (items : List Item) (end : End) → IsTrueSaid side seen (step side up seen items end)
step_said side up seen items end = locked (step_between side up seen items (noticed seen (lock_moved seen end))) (between_said side up seen items (noticed seen (lock_moved seen end)))
  where
    locked : (so_far : StepSoFar) → IsTrueSaid side seen so_far → IsTrueSaid side seen (record so_far { end = lock_moved seen so_far.end })
    locked so_far said = record {
      give = λ some.
          let old = said.give some
          in record { away = old.away; unlocked = stays_open seen so_far.end.token so_far.end.lock old.undriven old.unlocked; undriven = old.undriven };
      ask = λ some. let old = said.ask some in record { away = old.away; need = old.need };
      query = λ some. let old = said.query some in record { here = old.here; free = old.free; sound = old.sound };
      clear = said.clear;
      none = λ some. let old = said.none some in record { second = old.second; away = old.away };
    }
