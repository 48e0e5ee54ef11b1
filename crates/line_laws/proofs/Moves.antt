-- Every move of a line keeps what is promised, and so does every list of moves of a line that begins.
use Rattle.std.proofs.Common.{◌≡◌, ℕ, Bool, false, not, List, [], ◌∷◌, ◌++◌, refl, sym, ap, subst, ◌∙◌, ◌⊎◌, inl, inr, append_assoc, arith}
use Rattle.std.proofs.lemmas.List.{append-nil}
use Rattle.std.specs.Prelude.{◌&&◌}
use Rattle.line_laws.specs.declared.words.Side.{Side}
use Rattle.line_laws.specs.declared.words.Side.TheVariants.{First, Second}
use Rattle.line_laws.specs.End.{Seen, file_of, unlinked}
use Rattle.line_laws.specs.Step.{step}
use Rattle.line_laws.specs.Link.{Place, Before, Started, Up, Gone, is_up, is_gone, is_inside, coming_taken}
use Rattle.line_laws.specs.Line.{Node, Line, node, Outcome, Move, Opens, Enters, ComesUp, Leaves, Looks, Rules, right_rules, left, looked, side_looked, with_node, opened, entered, come_up, after}
use Rattle.line_laws.specs.Run.{run, begins}
use Rattle.line_laws.specs.Promise.{HasToken, IsLocked, TellsClear, IsClear, Holds, Throughout, WasClear}
use Rattle.line_laws.specs.Invariant.{number, IsEndSound, IsLineSound}
use Rattle.line_laws.proofs.Counting.{both, not_true, by_test}
use Rattle.line_laws.proofs.Steps.{IsLookSound}
use Rattle.line_laws.proofs.Out.{IsOut, gone_out, opened_kept, placed_kept}
use Rattle.line_laws.proofs.Kept.{known_pair, turned, looked_kept, near_filed, far_filed, near_contacts, far_contacts}

-- ---- a move

-- a line after a move: it is sound where, beside what was known, it may be clear now
abbrev pub IsSoundAfter : Type 0 → Type 0 → Line → Type 0
IsSoundAfter Near Far line = IsLineSound (Near ⊎ IsClear line) (Far ⊎ IsClear line) line

still : {Near Far : Type 0} {line : Line} (sound : IsLineSound Near Far line) → IsSoundAfter Near Far line
still sound = record {
  ends = known_pair sound.ends (λ token free known. inl known) (λ token free known. inl known);
  none = sound.none;
  first_file = sound.first_file;
  second_file = sound.second_file;
}

-- the nodes of a look, put back at their sides
by_first : {Near Far : Type 0} (first second : Node) (sound : IsLookSound Near Far First first second) → first.file ≡ file_of first.end → second.file ≡ file_of second.end
    → IsLineSound Near Far (record { first = first; second = second })
by_first first second sound first_file second_file = record { ends = sound.pair; none = sound.none; first_file = first_file; second_file = second_file }

by_second : {Near Far : Type 0} (first second : Node) (sound : IsLookSound Near Far Second second first) → first.file ≡ file_of first.end → second.file ≡ file_of second.end
    → IsLineSound Far Near (record { first = first; second = second })
by_second first second sound first_file second_file = record { ends = turned sound.pair; none = sound.none; first_file = first_file; second_file = second_file }

first_look : {One Other : Type 0} (line : Line) (sound : IsLineSound One Other line) → IsLookSound One Other First line.first line.second
first_look line sound = record { pair = sound.ends; none = sound.none }

second_look : {One Other : Type 0} (line : Line) (sound : IsLineSound One Other line) → IsLookSound Other One Second line.second line.first
second_look line sound = record { pair = turned sound.ends; none = sound.none }

-- neither end's contacts are occupied
abbrev BothFree : Seen → Node → Type 0
BothFree seen far = (seen.busy ≡ false) × (far.busy ≡ false)

side_looked_kept : {One Other : Type 0} (line : Line) (sound : IsLineSound One Other line) (side : Side) (seen : Seen) (count : ℕ) (outcome : Outcome)
    → IsSoundAfter One Other (side_looked right_rules side seen count outcome line)
side_looked_kept {One} {Other} line sound First seen count outcome =
    let so_far = step First (is_up line.first.place) seen (coming_taken line.first.place count line.first.coming) line.first.end
    in let before : IsLookSound One (Other ⊎ BothFree seen line.second) First line.first line.second =
    record { pair = known_pair sound.ends (λ token free known. known) (λ token free known. inl known); none = sound.none }
    in let kept : IsLookSound One (Other ⊎ BothFree seen line.second) First (looked right_rules First seen count outcome line.first line.second).near
    (looked right_rules First seen count outcome line.first line.second).far =
    looked_kept First line.first line.second before seen count (λ near far. inr (near, far)) sound.first_file outcome
    in by_first (looked right_rules First seen count outcome line.first line.second).near (looked right_rules First seen count outcome line.first line.second).far
    (record { pair = known_pair kept.pair (λ token free known. inl known) (λ token free. becomes); none = kept.none })
    (near_filed seen count so_far line.first line.second outcome) (far_filed seen count so_far line.first line.second outcome sound.second_file)
  where
    becomes : Other ⊎ BothFree seen line.second → Other ⊎ IsClear (side_looked right_rules First seen count outcome line)
    becomes (inl known) = inl known
    becomes (inr free) =
        let so_far = step First (is_up line.first.place) seen (coming_taken line.first.place count line.first.coming) line.first.end
        in inr (record {
          first = near_contacts seen count so_far line.first line.second outcome ∙ free.0;
          second = far_contacts seen count so_far line.first line.second outcome ∙ free.1;
        })
side_looked_kept {One} {Other} line sound Second seen count outcome =
    let so_far = step Second (is_up line.second.place) seen (coming_taken line.second.place count line.second.coming) line.second.end
    in let before : IsLookSound Other (One ⊎ BothFree seen line.first) Second line.second line.first =
    record { pair = known_pair (turned sound.ends) (λ token free known. known) (λ token free known. inl known); none = sound.none }
    in let kept : IsLookSound Other (One ⊎ BothFree seen line.first) Second (looked right_rules Second seen count outcome line.second line.first).near
    (looked right_rules Second seen count outcome line.second line.first).far =
    looked_kept Second line.second line.first before seen count (λ near far. inr (near, far)) sound.second_file outcome
    in by_second (looked right_rules Second seen count outcome line.second line.first).far (looked right_rules Second seen count outcome line.second line.first).near
    (record { pair = known_pair kept.pair (λ token free known. inl known) (λ token free. becomes); none = kept.none })
    (far_filed seen count so_far line.second line.first outcome sound.first_file) (near_filed seen count so_far line.second line.first outcome)
  where
    becomes : One ⊎ BothFree seen line.first → One ⊎ IsClear (side_looked right_rules Second seen count outcome line)
    becomes (inl known) = inl known
    becomes (inr free) =
        let so_far = step Second (is_up line.second.place) seen (coming_taken line.second.place count line.second.coming) line.second.end
        in inr (record {
          first = far_contacts seen count so_far line.second line.first outcome ∙ free.1;
          second = near_contacts seen count so_far line.second line.first outcome ∙ free.0;
        })

opened_line : {One Other : Type 0} (line : Line) (sound : IsLineSound One Other line) → IsLineSound One Other (opened line)
opened_line {One} {Other} line sound =
    by_test (λ (new : Line). IsLineSound One Other new) (is_gone line.first.place && not (is_inside line.second.place))
    (record { first = record line.first { place = Started; coming = [] }; second = record line.second { place = Before; coming = [] } }) line
    (λ may.
    let parts = both (is_gone line.first.place) (not (is_inside line.second.place)) may
    in by_first (record line.first { place = Started; coming = [] }) (record line.second { place = Before; coming = [] })
    (opened_kept sound.ends sound.none parts.0 (not_true (is_inside line.second.place) parts.1)) sound.first_file sound.second_file)
    (λ may. sound)

entered_gone : (place : Place) → is_gone (entered place) ≡ is_gone place
entered_gone Before = refl
entered_gone Started = refl
entered_gone Up = refl
entered_gone Gone = refl

entered_down : (place : Place) → is_up (entered place) ≡ false → is_up place ≡ false
entered_down Before down = refl
entered_down Started down = refl
entered_down Up down = down
entered_down Gone down = refl

up_gone : (place : Place) → is_gone (come_up place) ≡ is_gone place
up_gone Before = refl
up_gone Started = refl
up_gone Up = refl
up_gone Gone = refl

up_down : (place : Place) → is_up (come_up place) ≡ false → is_up place ≡ false
up_down Before down = refl
up_down Started down = refl
up_down Up down = down
up_down Gone down = refl

entered_line : {One Other : Type 0} (line : Line) (sound : IsLineSound One Other line)
    → IsLineSound One Other (record line { second = record line.second { place = entered line.second.place } })
entered_line line sound =
    by_second line.first (record line.second { place = entered line.second.place })
    (placed_kept Second (second_look line sound) (entered line.second.place) (entered_gone line.second.place) (entered_down line.second.place)) sound.first_file
    sound.second_file

up_line : {One Other : Type 0} (side : Side) (line : Line) (sound : IsLineSound One Other line)
    → IsLineSound One Other (with_node side (record (node side line) { place = come_up (node side line).place }) line)
up_line First line sound =
    by_first (record line.first { place = come_up line.first.place }) line.second
    (placed_kept First (first_look line sound) (come_up line.first.place) (up_gone line.first.place) (up_down line.first.place)) sound.first_file sound.second_file
up_line Second line sound =
    by_second line.first (record line.second { place = come_up line.second.place })
    (placed_kept Second (second_look line sound) (come_up line.second.place) (up_gone line.second.place) (up_down line.second.place)) sound.first_file sound.second_file

unlinked_out : {Known : Type 0} {node : Node} (sound : IsEndSound Known node) → IsOut Known node.end (unlinked node.end) node.busy
unlinked_out sound = record { token = refl; lock = refl; nothing = refl; empty_token = sound.empty_token; empty_free = sound.empty_free; empty_known = sound.empty_known }

left_line : {One Other : Type 0} (side : Side) (line : Line) (sound : IsLineSound One Other line) → IsLineSound One Other (with_node side (left (node side line)) line)
left_line First line sound =
    by_first (left line.first) line.second
    (gone_out First (first_look line sound) (unlinked line.first.end) line.first.busy line.second.coming [] (sym (append-nil line.second.coming))
    (unlinked_out sound.ends.near_end)) sound.first_file sound.second_file
left_line Second line sound =
    by_second line.first (left line.second)
    (gone_out Second (second_look line sound) (unlinked line.second.end) line.second.busy line.first.coming [] (sym (append-nil line.first.coming))
    (unlinked_out sound.ends.far_end)) sound.first_file sound.second_file

pub move_kept : {One Other : Type 0} (line : Line) (sound : IsLineSound One Other line) (move : Move) → IsSoundAfter One Other (after right_rules move line)
move_kept line sound Opens = still (opened_line line sound)
move_kept line sound Enters = still (entered_line line sound)
move_kept line sound (ComesUp side) = still (up_line side line sound)
move_kept line sound (Leaves side) = still (left_line side line sound)
move_kept line sound (Looks side seen count outcome) = side_looked_kept line sound side seen count outcome

-- ---- lists of moves

pub begins_sound : {One Other : Type 0} (first_busy second_busy : Bool) → IsLineSound One Other (begins first_busy second_busy)
begins_sound first_busy second_busy = record {
  ends = record {
    one_token = omega arith;
    near_end = record {
      locked = λ lock. absurd (cc (lock));
      down = λ down. refl;
      gone = λ gone. refl;
      token = λ query. absurd (cc (query));
      free = λ query. absurd (cc (query));
      answered = λ query. absurd (cc (query));
      empty_token = λ empty. absurd (cc (empty));
      empty_free = λ empty. absurd (cc (empty));
      empty_known = λ empty. absurd (cc (empty));
    };
    far_end = record {
      locked = λ lock. absurd (cc (lock));
      down = λ down. refl;
      gone = λ gone. refl;
      token = λ query. absurd (cc (query));
      free = λ query. absurd (cc (query));
      answered = λ query. absurd (cc (query));
      empty_token = λ empty. absurd (cc (empty));
      empty_free = λ empty. absurd (cc (empty));
      empty_known = λ empty. absurd (cc (empty));
    };
    near_query = λ stays. omega arith;
    far_query = λ stays. omega arith;
  };
  none = record {
    silent = λ stays. absurd (cc (stays));
    first_said = refl;
    unasked = λ some. absurd (omega (arith, some));
    coming = λ some. absurd (omega (arith, some));
    told = λ is. absurd (cc (is));
  };
  first_file = refl;
  second_file = refl;
}

pub run-append : (rules : Rules) (moves more : List Move) (line : Line) → run rules (moves ++ more) line ≡ run rules more (run rules moves line)
run-append rules [] more line = refl
run-append rules (move ∷ moves) more line = run-append rules moves more (after rules move line)

throughout_more : (rules : Rules) (Fact : Line → Type 0) (moves : List Move) (move : Move) (line : Line) → Throughout rules Fact moves line
    → Fact (after rules move (run rules moves line)) → Throughout rules Fact (moves ++ move ∷ []) line
throughout_more rules Fact [] move line now next = (now, next)
throughout_more rules Fact (first ∷ moves) move line now next = (now.0, throughout_more rules Fact moves move (after rules first line) now.1 next)

-- what was known stays known while the token is here and the own part free
stays_clear : (side : Side) (start : Line) (moves : List Move) (move : Move) → Holds side (after right_rules move (run right_rules moves start)) → WasClear right_rules side start moves
    → WasClear right_rules side start (moves ++ move ∷ [])
stays_clear side start moves move holds was = record {
  earlier = was.earlier;
  later = was.later ++ move ∷ [];
  whole = sym (append_assoc was.earlier was.later (move ∷ [])) ∙ ap (λ (list : List Move). list ++ move ∷ []) was.whole;
  clear = was.clear;
  since = throughout_more right_rules (Holds side) was.later move (run right_rules was.earlier start) was.since
      (subst (λ (line : Line). Holds side (after right_rules move line)) (sym same) holds);
}
  where
    same : run right_rules was.later (run right_rules was.earlier start) ≡ run right_rules moves start
    same = sym (run-append right_rules was.earlier was.later start) ∙ ap (λ (list : List Move). run right_rules list start) was.whole

-- and is known where the line is clear
is_clear_now : (side : Side) (start : Line) (moves : List Move) → Holds side (run right_rules moves start) → IsClear (run right_rules moves start)
    → WasClear right_rules side start moves
is_clear_now side start moves holds clear = record { earlier = moves; later = []; whole = append-nil moves; clear = clear; since = holds }

-- the line is sound after these moves
abbrev pub IsSoundSince : Line → List Move → Type 0
IsSoundSince start moves = IsLineSound (WasClear right_rules First start moves) (WasClear right_rules Second start moves) (run right_rules moves start)

one_more_move : (start : Line) (moves : List Move) (move : Move) → IsSoundSince start moves → IsSoundSince start (moves ++ move ∷ [])
one_more_move start moves move sound =
    let now : Line = after right_rules move (run right_rules moves start)
    in let next : run right_rules (moves ++ move ∷ []) start ≡ now = run-append right_rules moves (move ∷ []) start
    in let kept : IsSoundAfter (WasClear right_rules First start moves) (WasClear right_rules Second start moves) now = move_kept (run right_rules moves start) sound move
    in subst (λ (line : Line). IsLineSound (WasClear right_rules First start (moves ++ move ∷ [])) (WasClear right_rules Second start (moves ++ move ∷ [])) line) (sym next)
    (record {
      ends = known_pair kept.ends (λ token free known. known_then First next (record { token = token; free = free }) known)
          (λ token free known. known_then Second next (record { token = token; free = free }) known);
      none = kept.none;
      first_file = kept.first_file;
      second_file = kept.second_file;
    })
  where
    known_then : (side : Side) → run right_rules (moves ++ move ∷ []) start ≡ after right_rules move (run right_rules moves start)
        → Holds side (after right_rules move (run right_rules moves start))
        → (WasClear right_rules side start moves ⊎ IsClear (after right_rules move (run right_rules moves start)))
        → WasClear right_rules side start (moves ++ move ∷ [])
    known_then side next holds (inl was) = stays_clear side start moves move holds was
    known_then side next holds (inr clear) =
        is_clear_now side start (moves ++ move ∷ []) (subst (λ (line : Line). Holds side line) (sym next) holds) (subst IsClear (sym next) clear)

more_moves : (start : Line) (moves more : List Move) → IsSoundSince start moves → IsSoundSince start (moves ++ more)
more_moves start moves [] sound = subst (λ (list : List Move). IsSoundSince start list) (sym (append-nil moves)) sound
more_moves start moves (move ∷ more) sound =
    subst (λ (list : List Move). IsSoundSince start list) (append_assoc moves (move ∷ []) more)
    (more_moves start (moves ++ move ∷ []) more (one_more_move start moves move sound))

-- after every list of moves of a line that begins
pub run_sound : (first_busy second_busy : Bool) (moves : List Move) → IsSoundSince (begins first_busy second_busy) moves
run_sound first_busy second_busy moves = more_moves (begins first_busy second_busy) [] moves (begins_sound first_busy second_busy)

-- ---- what follows

pub one_token : {One Other : Type 0} {line : Line} (sound : IsLineSound One Other line) → HasToken line.first → HasToken line.second → ⊥
one_token sound first second = absurd (omega (arith, sound.ends.one_token, ap number first, ap number second))

pub one_locked : {One Other : Type 0} {line : Line} (sound : IsLineSound One Other line) → IsLocked line.first → IsLocked line.second → ⊥
one_locked sound first second = one_token sound (sound.ends.near_end.locked first) (sound.ends.far_end.locked second)

pub locked_token : {One Other : Type 0} {line : Line} (side : Side) (sound : IsLineSound One Other line) → IsLocked (node side line) → HasToken (node side line)
locked_token First sound lock = sound.ends.near_end.locked lock
locked_token Second sound lock = sound.ends.far_end.locked lock

pub same_file : {One Other : Type 0} {line : Line} (side : Side) (sound : IsLineSound One Other line) → (node side line).file ≡ file_of (node side line).end
same_file First sound = sound.first_file
same_file Second sound = sound.second_file

pub told_clear_known : (side : Side) (start : Line) (moves : List Move) → IsSoundSince start moves → TellsClear (node side (run right_rules moves start))
    → WasClear right_rules side start moves
told_clear_known First start moves sound tells = sound.ends.near_end.empty_known tells.empty
told_clear_known Second start moves sound tells = sound.ends.far_end.empty_known tells.empty

-- ---- more moves

throughout_both : (rules : Rules) (Fact : Line → Type 0) (moves more : List Move) (line : Line) → Throughout rules Fact moves line
    → Throughout rules Fact more (run rules moves line) → Throughout rules Fact (moves ++ more) line
throughout_both rules Fact [] more line now next = next
throughout_both rules Fact (move ∷ moves) more line now next = (now.0, throughout_both rules Fact moves more (after rules move line) now.1 next)

pub known_through : (rules : Rules) (side : Side) (start : Line) (moves more : List Move) → WasClear rules side start moves
    → Throughout rules (Holds side) more (run rules moves start)
    → WasClear rules side start (moves ++ more)
known_through rules side start moves more was holds = record {
  earlier = was.earlier;
  later = was.later ++ more;
  whole = sym (append_assoc was.earlier was.later more) ∙ ap (λ (list : List Move). list ++ more) was.whole;
  clear = was.clear;
  since = throughout_both rules (Holds side) was.later more (run rules was.earlier start) was.since
      (subst (λ (line : Line). Throughout rules (Holds side) more line) (sym same) holds);
}
  where
    same : run rules was.later (run rules was.earlier start) ≡ run rules moves start
    same = sym (run-append rules was.earlier was.later start) ∙ ap (λ (list : List Move). run rules list start) was.whole
