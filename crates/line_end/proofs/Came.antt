-- Where the token, the lock's place and what is known come from, part by part of a step.
use Rattle.std.proofs.Common.{◌≡◌, Bool, true, false, not, List, [], ◌∷◌, ◌++◌, refl, sym, ap, ◌∙◌, ◌⊎◌, inl, inr, arith, subst}
use Rattle.std.specs.Prelude.{◌&&◌, if◌then◌else◌, Option, Some, None}
use Rattle.std.specs.Option.{unwrap_or}
use Rattle.line_laws.specs.declared.words.Side.{Side}
use Rattle.line_laws.specs.declared.words.Side.TheVariants.{First, Second}
use Rattle.line_laws.specs.declared.words.Position.{Position}
use Rattle.line_laws.specs.declared.words.Position.TheVariants.{Left, Right}
use Rattle.line_laws.specs.declared.words.Item.{Item}
use Rattle.line_laws.specs.declared.words.Item.TheVariants.{Ask, Give, Query, Clear, NoToken}
use Rattle.line_laws.specs.declared.words.QueryOut.TheVariants.{Sound}
use Rattle.line_laws.specs.End.{File, End, Seen}
use Rattle.line_laws.specs.Step.{StepSoFar, begun, is_right, is_driven_right, is_sound, spoiled, lock_after, lock_moved, noticed, taken, all_taken, made_again, introduced, may_give, without_token, token_given, may_ask, token_asked, may_query, partner_queried, may_answer, query_answered, linked_step, step_between, step}
use Rattle.line_laws.specs.Invariant.{is_give, is_clear, is_none}
use Rattle.line_end.specs.State.{is_same_flag, is_same_position, changed_file}
use Rattle.line_end.specs.Told.{HasSome, IsDrivenRight, TokenComes, LockComes, EmptyComes}
use Rattle.line_end.proofs.Said.{both, not_true, by_test}

-- of two ends: the token and what is known come from the old one, the lock is where it was, and a lock driven right
-- holds the token
record Follows (seen : Seen) (old new : End) : Type 0 where
  token : new.token ≡ true → old.token ≡ true
  empty : new.empty ≡ true → old.empty ≡ true
  lock : new.lock ≡ old.lock
  held : IsDrivenRight seen → old.token ≡ true → new.token ≡ true

same_follows : (seen : Seen) (end : End) → Follows seen end end
same_follows seen end = record { token = λ is. is; empty = λ is. is; lock = refl; held = λ drive is. is }

follows_on : (seen : Seen) (old between new : End) → Follows seen old between → Follows seen between new → Follows seen old new
follows_on seen old between new first second = record {
  token = λ is. first.token (second.token is);
  empty = λ is. first.empty (second.empty is);
  lock = second.lock ∙ first.lock;
  held = λ drive is. second.held drive (first.held drive is);
}

-- ---- while items are given

spoke : (side : Side) (seen : Seen) (end : End) → Follows seen end (introduced side (begun end)).end
spoke First seen end = same_follows seen end
spoke Second seen end = by_said end.none_said
  where
    by_said : (said : Bool)
        → Follows seen end (if not said
        then record { end = record end { none_said = true }; given = (if end.token then [] else [] ++ NoToken ∷ []) }
        else begun end).end
    by_said true = same_follows seen end
    by_said false = record { token = λ is. is; empty = λ is. is; lock = refl; held = λ drive is. is }

gave : (seen : Seen) (so_far : StepSoFar) → Follows seen so_far.end (token_given seen so_far).end
gave seen so_far =
    by_test (λ (new : StepSoFar). Follows seen so_far.end new.end) (may_give seen so_far.end)
    (record { end = without_token so_far.end; given = so_far.given ++ Give ∷ [] }) so_far
    (λ may.
    let parts = both (so_far.end.token && so_far.end.asked && not (is_right so_far.end.lock)) (not (is_driven_right seen.drive)) may
    in record {
      token = λ is. absurd (cc (is));
      empty = λ is. absurd (cc (is));
      lock = refl;
      held = λ drive is. absurd (cc (drive, not_true (is_driven_right seen.drive) parts.1));
    })
    (λ may. same_follows seen so_far.end)

asked : (seen : Seen) (so_far : StepSoFar) → Follows seen so_far.end (token_asked seen so_far).end
asked seen so_far =
    by_test (λ (new : StepSoFar). Follows seen so_far.end new.end) (may_ask seen so_far.end)
    (record { end = record so_far.end { asking = true }; given = so_far.given ++ Ask ∷ [] }) so_far
    (λ may. record { token = λ is. is; empty = λ is. is; lock = refl; held = λ drive is. is }) (λ may. same_follows seen so_far.end)

queried : (seen : Seen) (so_far : StepSoFar) → Follows seen so_far.end (partner_queried seen so_far).end
queried seen so_far =
    by_test (λ (new : StepSoFar). Follows seen so_far.end new.end) (may_query seen so_far.end)
    (record { end = record so_far.end { query = Sound }; given = so_far.given ++ Query ∷ [] }) so_far
    (λ may. record { token = λ is. is; empty = λ is. is; lock = refl; held = λ drive is. is }) (λ may. same_follows seen so_far.end)

answered : (seen : Seen) (so_far : StepSoFar) → Follows seen so_far.end (query_answered seen so_far).end
answered seen so_far =
    by_test (λ (new : StepSoFar). Follows seen so_far.end new.end) (may_answer seen so_far.end)
    (record { end = record so_far.end { queried = false }; given = so_far.given ++ Clear ∷ [] }) so_far
    (λ may. record { token = λ is. is; empty = λ is. is; lock = refl; held = λ drive is. is }) (λ may. same_follows seen so_far.end)

giving : (side : Side) (seen : Seen) (items : List Item) (end : End) → Follows seen (made_again side (all_taken seen items end)) (linked_step side seen items end).end
giving side seen items end =
    let start : End = made_again side (all_taken seen items end)
    in let spoken : StepSoFar = introduced side (begun start)
    in let given : StepSoFar = token_given seen spoken
    in let asking : StepSoFar = token_asked seen given
    in let querying : StepSoFar = partner_queried seen asking
    in follows_on seen start querying.end (query_answered seen querying).end
    (follows_on seen start asking.end querying.end
    (follows_on seen start given.end asking.end (follows_on seen start spoken.end given.end (spoke side seen start) (gave seen spoken)) (asked seen given))
    (queried seen asking)) (answered seen querying)

-- ---- while items are taken

more : (is : Item → Bool) (item : Item) (items : List Item) → HasSome is items → HasSome is (item ∷ items)
more is item items some = omega (arith, some)

token_taken : (seen : Seen) (items : List Item) (end : End) → (all_taken seen items end).token ≡ true → (end.token ≡ true) ⊎ HasSome is_give items
token_taken seen [] end is = inl is
token_taken seen (item ∷ items) end is = by_rest item (token_taken seen items (taken seen item end) is)
  where
    by_rest : (item : Item) → ((taken seen item end).token ≡ true) ⊎ HasSome is_give items → (end.token ≡ true) ⊎ HasSome is_give (item ∷ items)
    by_rest item (inr some) = inr (more is_give item items some)
    by_rest Ask (inl is) = inl is
    by_rest Give (inl is) = inr (omega arith)
    by_rest Query (inl is) = inl is
    by_rest Clear (inl is) = inl is
    by_rest NoToken (inl is) = inl is

told_taken : (seen : Seen) (items : List Item) (end : End) → (all_taken seen items end).none_told ≡ true → (end.none_told ≡ true) ⊎ HasSome is_none items
told_taken seen [] end is = inl is
told_taken seen (item ∷ items) end is = by_rest item (told_taken seen items (taken seen item end) is)
  where
    by_rest : (item : Item) → ((taken seen item end).none_told ≡ true) ⊎ HasSome is_none items → (end.none_told ≡ true) ⊎ HasSome is_none (item ∷ items)
    by_rest item (inr some) = inr (more is_none item items some)
    by_rest Ask (inl is) = inl is
    by_rest Give (inl is) = inl is
    by_rest Query (inl is) = inl is
    by_rest Clear (inl is) = inl is
    by_rest NoToken (inl is) = inr (omega arith)

-- nothing becomes known while the own part is occupied
empty_item : (seen : Seen) (item : Item) (end : End) → (taken seen item end).empty ≡ true → (end.empty ≡ true) ⊎ ((seen.busy ≡ false) × (is_clear item ≡ true))
empty_item seen Ask end is = inl is
empty_item seen Give end is = absurd (cc (is))
empty_item seen Query end is = inl is
empty_item seen Clear end is = by_told (is_sound end.query && not seen.busy && end.token) refl is
  where
    by_told : (told : Bool) → is_sound end.query && not seen.busy && end.token ≡ told → (if told then true else end.empty) ≡ true
        → (end.empty ≡ true) ⊎ ((seen.busy ≡ false) × (is_clear Clear ≡ true))
    by_told true told is =
        let parts = both (is_sound end.query && not seen.busy) end.token told
        in let sound = both (is_sound end.query) (not seen.busy) parts.0
        in inr (not_true seen.busy sound.1, refl)
    by_told false told is = inl is
empty_item seen NoToken end is = inl is

empty_taken : (seen : Seen) (items : List Item) (end : End) → (all_taken seen items end).empty ≡ true → (end.empty ≡ true) ⊎ ((seen.busy ≡ false) × HasSome is_clear items)
empty_taken seen [] end is = inl is
empty_taken seen (item ∷ items) end is = by_rest (empty_taken seen items (taken seen item end) is)
  where
    by_item : (end.empty ≡ true) ⊎ ((seen.busy ≡ false) × (is_clear item ≡ true)) → (end.empty ≡ true) ⊎ ((seen.busy ≡ false) × HasSome is_clear (item ∷ items))
    by_item (inl is) = inl is
    by_item (inr came) = inr (came.0, some item came.1)
      where
        some : (item : Item) → is_clear item ≡ true → HasSome is_clear (item ∷ items)
        some Ask is = absurd (cc (is))
        some Give is = absurd (cc (is))
        some Query is = absurd (cc (is))
        some Clear is = omega arith
        some NoToken is = absurd (cc (is))

    by_rest : ((taken seen item end).empty ≡ true) ⊎ ((seen.busy ≡ false) × HasSome is_clear items) → (end.empty ≡ true) ⊎ ((seen.busy ≡ false) × HasSome is_clear (item ∷ items))
    by_rest (inr came) = inr (came.0, more is_clear item items came.1)
    by_rest (inl is) = by_item (empty_item seen item end is)

lock_taken : (seen : Seen) (items : List Item) (end : End) → (all_taken seen items end).lock ≡ end.lock
lock_taken seen [] end = refl
lock_taken seen (item ∷ items) end = lock_taken seen items (taken seen item end) ∙ by_item item
  where
    by_item : (item : Item) → (taken seen item end).lock ≡ end.lock
    by_item Ask = refl
    by_item Give = refl
    by_item Query = refl
    by_item Clear = refl
    by_item NoToken = refl

held_taken : (seen : Seen) (items : List Item) (end : End) → end.token ≡ true → (all_taken seen items end).token ≡ true
held_taken seen [] end is = is
held_taken seen (item ∷ items) end is = held_taken seen items (taken seen item end) (by_item item)
  where
    by_item : (item : Item) → (taken seen item end).token ≡ true
    by_item Ask = is
    by_item Give = refl
    by_item Query = is
    by_item Clear = is
    by_item NoToken = is

-- ---- the first end makes the token again

record Again (side : Side) (old new : End) : Type 0 where
  token : new.token ≡ true → (old.token ≡ true) ⊎ ((side ≡ First) × (old.none_told ≡ true))
  empty : new.empty ≡ old.empty
  lock : new.lock ≡ old.lock
  held : old.token ≡ true → new.token ≡ true

again : (side : Side) (end : End) → Again side end (made_again side end)
again First end =
    by_test (λ (new : End). Again First end new) (true && not end.token && end.none_told) (record end { token = true; none_told = false }) end
    (λ may. let parts = both (not end.token) end.none_told may in record { token = λ is. inr (refl, parts.1); empty = refl; lock = refl; held = λ is. refl })
    (λ may. record { token = λ is. inl is; empty = refl; lock = refl; held = λ is. is })
again Second end = record { token = λ is. inl is; empty = refl; lock = refl; held = λ is. is }

-- ---- the whole

-- where the parts of an end come from, when its contacts are noticed
noticed_token : (seen : Seen) (end : End) → (noticed seen end).token ≡ end.token
noticed_token seen end =
    by_test (λ (new : End). new.token ≡ end.token) seen.busy (record end { empty = false; query = spoiled end.query }) end (λ busy. refl) (λ busy. refl)

noticed_told : (seen : Seen) (end : End) → (noticed seen end).none_told ≡ end.none_told
noticed_told seen end =
    by_test (λ (new : End). new.none_told ≡ end.none_told) seen.busy (record end { empty = false; query = spoiled end.query }) end (λ busy. refl) (λ busy. refl)

noticed_lock : (seen : Seen) (end : End) → (noticed seen end).lock ≡ end.lock
noticed_lock seen end =
    by_test (λ (new : End). new.lock ≡ end.lock) seen.busy (record end { empty = false; query = spoiled end.query }) end (λ busy. refl) (λ busy. refl)

noticed_empty : (seen : Seen) (end : End) → (noticed seen end).empty ≡ true → (seen.busy ≡ false) × (end.empty ≡ true)
noticed_empty seen end =
    by_test (λ (new : End). new.empty ≡ true → (seen.busy ≡ false) × (end.empty ≡ true)) seen.busy (record end { empty = false; query = spoiled end.query }) end
    (λ busy is. absurd (cc (is))) (λ busy is. (busy, is))

between_token : (side : Side) (up : Bool) (seen : Seen) (items : List Item) (end : End) → (step_between side up seen items end).end.token ≡ true → TokenComes side items end
between_token side false seen items end is = inl is
between_token side true seen items end is = by_again ((again side (all_taken seen items end)).token ((giving side seen items end).token is))
  where
    by_told : side ≡ First → (end.none_told ≡ true) ⊎ HasSome is_none items → TokenComes side items end
    by_told first told = inr (inr (first, told))

    by_taken : (end.token ≡ true) ⊎ HasSome is_give items → TokenComes side items end
    by_taken (inl is) = inl is
    by_taken (inr some) = inr (inl some)

    by_again : ((all_taken seen items end).token ≡ true) ⊎ ((side ≡ First) × ((all_taken seen items end).none_told ≡ true)) → TokenComes side items end
    by_again (inl is) = by_taken (token_taken seen items end is)
    by_again (inr told) = by_told told.0 (told_taken seen items end told.1)

pub step_token : (side : Side) (up : Bool) (seen : Seen) (items : List Item) (end : End) → (step side up seen items end).end.token ≡ true → TokenComes side items end
step_token side up seen items end is = back (between_token side up seen items (noticed seen (lock_moved seen end)) is)
  where
    back_told : ((noticed seen (lock_moved seen end)).none_told ≡ true) ⊎ HasSome is_none items → (end.none_told ≡ true) ⊎ HasSome is_none items
    back_told (inl is) = inl (sym (noticed_told seen (lock_moved seen end)) ∙ is)
    back_told (inr some) = inr some

    back : TokenComes side items (noticed seen (lock_moved seen end)) → TokenComes side items end
    back (inl is) = inl (sym (noticed_token seen (lock_moved seen end)) ∙ is)
    back (inr (inl some)) = inr (inl some)
    back (inr (inr told)) = inr (inr (told.0, back_told told.1))

between_empty : (side : Side) (up : Bool) (seen : Seen) (items : List Item) (end : End) → (step_between side up seen items end).end.empty ≡ true
    → (end.empty ≡ true) ⊎ ((seen.busy ≡ false) × HasSome is_clear items)
between_empty side false seen items end is = inl is
between_empty side true seen items end is = empty_taken seen items end (sym (again side (all_taken seen items end)).empty ∙ (giving side seen items end).empty is)

pub step_empty : (side : Side) (up : Bool) (seen : Seen) (items : List Item) (end : End) → (step side up seen items end).end.empty ≡ true → EmptyComes seen items end
step_empty side up seen items end is = back (between_empty side up seen items (noticed seen (lock_moved seen end)) is)
  where
    back : ((noticed seen (lock_moved seen end)).empty ≡ true) ⊎ ((seen.busy ≡ false) × HasSome is_clear items) → EmptyComes seen items end
    back (inl is) = let old = noticed_empty seen (lock_moved seen end) is in record { free = old.0; known = inl old.1 }
    back (inr came) = record { free = came.0; known = inr came.1 }

between_lock : (side : Side) (up : Bool) (seen : Seen) (items : List Item) (end : End) → (step_between side up seen items end).end.lock ≡ end.lock
between_lock side false seen items end = refl
between_lock side true seen items end = (giving side seen items end).lock ∙ ((again side (all_taken seen items end)).lock ∙ lock_taken seen items end)

between_held : (side : Side) (up : Bool) (seen : Seen) (items : List Item) (end : End) → IsDrivenRight seen → end.token ≡ true → (step_between side up seen items end).end.token ≡ true
between_held side false seen items end drive is = is
between_held side true seen items end drive is =
    (giving side seen items end).held drive ((again side (all_taken seen items end)).held (held_taken seen items end is))

-- a lock at the right after both looks at it: what the drive, the token before and after, and the lock before were
lock_cases : (drive : Option Position) (before after : Bool) (old : Position) → (is_driven_right drive ≡ true → before ≡ true → after ≡ true)
    → lock_after drive after (lock_after drive before old) ≡ Right → (old ≡ Right) ⊎ ((is_driven_right drive ≡ true) × (after ≡ true))
lock_cases None before after old held right = inl right
lock_cases (Some Left) before after old held right = absurd (cc (right))
lock_cases (Some Right) before true old held right = inr (refl, refl)
lock_cases (Some Right) true false old held right = absurd (let is = held refl refl in cc (is))
lock_cases (Some Right) false false old held right = inl right

pub step_lock : (side : Side) (up : Bool) (seen : Seen) (items : List Item) (end : End) → (step side up seen items end).end.lock ≡ Right
    → LockComes seen end (step side up seen items end).end
step_lock side up seen items end right =
    lock_cases seen.drive end.token (step_between side up seen items (noticed seen (lock_moved seen end))).end.token end.lock
    (λ drive is. between_held side up seen items (noticed seen (lock_moved seen end)) drive (noticed_token seen (lock_moved seen end) ∙ is))
    (sym
    (ap (λ (lock : Position). lock_after seen.drive (step_between side up seen items (noticed seen (lock_moved seen end))).end.token lock)
    (between_lock side up seen items (noticed seen (lock_moved seen end)) ∙ noticed_lock seen (lock_moved seen end)))
    ∙ right)

-- a lock after both looks at it lies where it lay, or where it is driven
moved_cases : (drive : Option Position) (before after : Bool) (old : Position)
    → (lock_after drive after (lock_after drive before old) ≡ old) ⊎ (drive ≡ Some (lock_after drive after (lock_after drive before old)))
moved_cases None before after old = inl refl
moved_cases (Some Left) before after old = inr refl
moved_cases (Some Right) true true old = inr refl
moved_cases (Some Right) true false old = inr refl
moved_cases (Some Right) false true old = inr refl
moved_cases (Some Right) false false old = inl refl

pub step_moved : (side : Side) (up : Bool) (seen : Seen) (items : List Item) (end : End)
    → ((step side up seen items end).end.lock ≡ end.lock) ⊎ (seen.drive ≡ Some (step side up seen items end).end.lock)
step_moved side up seen items end =
    let looked : End = noticed seen (lock_moved seen end)
    in let after : Bool = (step_between side up seen items looked).end.token
    in let Moved : Position → Type 0 = λ mid. (lock_after seen.drive after mid ≡ end.lock) ⊎ (seen.drive ≡ Some (lock_after seen.drive after mid))
    in subst Moved (sym (between_lock side up seen items looked ∙ noticed_lock seen (lock_moved seen end))) (moved_cases seen.drive end.token after end.lock)

-- ---- the file

same_flag : (one other : Bool) → is_same_flag one other ≡ true → other ≡ one
same_flag true true e = refl
same_flag true false e = cc
same_flag false true e = cc
same_flag false false e = refl

same_position : (one other : Position) → is_same_position one other ≡ true → other ≡ one
same_position Left Left e = refl
same_position Left Right e = cc
same_position Right Left e = cc
same_position Right Right e = refl

pub unwritten_same : (old new : File) → changed_file old new ≡ None → new ≡ old
unwritten_same old new =
    by_test (λ (written : Option File). written ≡ None → new ≡ old) (is_same_flag old.token new.token && is_same_position old.lock new.lock) None (Some new)
    (λ same is.
    let parts = both (is_same_flag old.token new.token) (is_same_position old.lock new.lock) same
    in ap (λ (token : Bool). record { token = token; lock = new.lock }) (same_flag old.token new.token parts.0)
    ∙ ap (λ (lock : Position). record { token = old.token; lock = lock }) (same_position old.lock new.lock parts.1))
    (λ same is. absurd (cc (is)))

pub written_new : (old new written : File) → changed_file old new ≡ Some written → written ≡ new
written_new old new written =
    by_test (λ (file : Option File). file ≡ Some written → written ≡ new) (is_same_flag old.token new.token && is_same_position old.lock new.lock) None (Some new)
    (λ same is. absurd (cc (is))) (λ same is. cc (is))

pub written_has : (old new : File) → unwrap_or (changed_file old new) old ≡ new
written_has old new =
    by_test (λ (file : Option File). unwrap_or file old ≡ new) (is_same_flag old.token new.token && is_same_position old.lock new.lock) None (Some new)
    (λ same.
    let parts = both (is_same_flag old.token new.token) (is_same_position old.lock new.lock) same
    in sym
    (ap (λ (token : Bool). record { token = token; lock = new.lock }) (same_flag old.token new.token parts.0)
    ∙ ap (λ (lock : Position). record { token = old.token; lock = lock }) (same_position old.lock new.lock parts.1)))
    (λ same. refl)
