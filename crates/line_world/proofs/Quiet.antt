-- Moves of a line that change no contact and no token, and how an end of it goes on by them.
use Rattle.std.proofs.Common.{◌≡◌, ◌∙◌, ◌++◌, ◌&&◌, ℕ, Bool, true, false, cond, List, [], ◌∷◌, Option, Some, None, ap, arith, drop, leb-false, leb-true, length, refl, subst, sym}
use Rattle.std.specs.Prelude.{nat_le}
use Rattle.std.proofs.lemmas.Bool.{false≢true}
use Rattle.line_laws.specs.End.{End, File, unlinked}
use Rattle.line_laws.specs.Line.{Line, Move, ComesUp, Enters, Leaves, after, right_rules}
use Rattle.line_laws.specs.Link.{Before, Gone, Started}
use Rattle.line_laws.specs.Run.{run}
use Rattle.line_laws.specs.declared.words.Item.{Item}
use Rattle.line_laws.specs.declared.words.Side.{Side}
use Rattle.line_laws.specs.declared.words.Side.TheVariants.{First, Second}
use Rattle.line_telegram.specs.declared.message.LineMessage.{LineMessage}
use Rattle.rasta_core.specs.Run.{Ends}
use Rattle.line_world.proofs.Known.{EachKeeps, IsKnownSound, IsQuiet, IsSteady, Known, quiet_known}
use Rattle.line_world.proofs.Nodes.{Half, IsThere, comes_up_is, enters_is, items_of, leaves_is, line_by, node_from, place_of, starting, unheard}
use Rattle.line_world.proofs.Talked.{AreSame}

-- ---- quiet moves, one after another

abbrev pub AreQuiet : List Move → Type 0
AreQuiet [] = Unit {0}
AreQuiet (move ∷ moves) = IsQuiet move × AreQuiet moves

-- these lead from one line to another
pub record Quietly (line next : Line) : Type 0 where
  pub moves : List Move
  pub quiet : AreQuiet moves
  pub is : run right_rules moves line ≡ next

pub by_none : {line next : Line} → line ≡ next → Quietly line next
by_none same = record { moves = []; quiet = tt; is = same }

pub by_one : {line next : Line} → (move : Move) → IsQuiet move → after right_rules move line ≡ next → Quietly line next
by_one move quiet is = record { moves = move ∷ []; quiet = (quiet, tt); is = is }

both_quiet : (moves more : List Move) → AreQuiet moves → AreQuiet more → AreQuiet (moves ++ more)
both_quiet [] more quiet also = also
both_quiet (move ∷ moves) more quiet also = (quiet.0, both_quiet moves more quiet.1 also)

run_both : (moves more : List Move) (line : Line) → run right_rules (moves ++ more) line ≡ run right_rules more (run right_rules moves line)
run_both [] more line = refl
run_both (move ∷ moves) more line = run_both moves more (after right_rules move line)

pub quiet_then : {line next last : Line} → Quietly line next → Quietly next last → Quietly line last
quiet_then {line} {next} {last} first second = record {
  moves = first.moves ++ second.moves;
  quiet = both_quiet first.moves second.moves first.quiet second.quiet;
  is = run_both first.moves second.moves line ∙ (ap (run right_rules second.moves) first.is ∙ second.is);
}

run_known : EachKeeps → (known : Known) (moves : List Move) (line : Line) → AreQuiet moves → IsSteady known line → IsKnownSound known line
    → IsSteady known (run right_rules moves line) × IsKnownSound known (run right_rules moves line)
run_known each known [] line quiet steady sound = (steady, sound)
run_known each known (move ∷ moves) line quiet steady sound =
    let then = quiet_known each known line move quiet.0 steady sound
    in run_known each known moves (after right_rules move line) quiet.1 then.0 then.1

-- what is known stays so
pub quietly_known : EachKeeps → (known : Known) {line next : Line} → Quietly line next → IsSteady known line → IsKnownSound known line → IsSteady known next × IsKnownSound known next
quietly_known each known {line} {next} quietly steady sound =
    let then = run_known each known quietly.moves line quietly.quiet steady sound
    in (subst (IsSteady known) quietly.is then.0, subst (IsKnownSound known) quietly.is then.1)

-- ---- whether the last connections of both ends are the same

abbrev pub same_connection : Option ℕ → Option ℕ → Bool
same_connection None None = true
same_connection None (Some other) = false
same_connection (Some one) None = false
same_connection (Some one) (Some other) = nat_le one other && nat_le other one

abbrev pub is_same : Ends → Bool
is_same ends = same_connection ends.server.connection ends.client.connection

same_numbers : (one other : ℕ) → (nat_le one other && nat_le other one) ≡ true → one ≡ other
same_numbers one other is = by_both (nat_le one other) refl (nat_le other one) refl is
  where
    by_both : (less : Bool) → nat_le one other ≡ less → (more : Bool) → nat_le other one ≡ more → (less && more) ≡ true → one ≡ other
    by_both true below true above both = omega (arith, leb-true one other below, leb-true other one above)
    by_both true below false above both = absurd (false≢true both)
    by_both false below more above both = absurd (false≢true both)

same_number : (one : ℕ) → (nat_le one one && nat_le one one) ≡ true
same_number one = by_le (nat_le one one) refl
  where
    by_le : (le : Bool) → nat_le one one ≡ le → (le && le) ≡ true
    by_le true is = refl
    by_le false is = absurd (omega (arith, leb-false one one is))

connections_are : (one other : Option ℕ) → same_connection one other ≡ true → one ≡ other
connections_are None None is = refl
connections_are None (Some other) is = absurd (false≢true is)
connections_are (Some one) None is = absurd (false≢true is)
connections_are (Some one) (Some other) is = ap (λ (n : ℕ). Some n) (same_numbers one other is)

itself : (one : Option ℕ) → same_connection one one ≡ true
itself None = refl
itself (Some one) = same_number one

pub are_same : (ends : Ends) → is_same ends ≡ true → AreSame ends
are_same ends is = connections_are ends.server.connection ends.client.connection is

pub same_is : (ends : Ends) → AreSame ends → is_same ends ≡ true
same_is ends same = ap (λ (c : Option ℕ). same_connection c ends.client.connection) same ∙ itself ends.client.connection

pub apart_is : (ends : Ends) → (AreSame ends → ⊥) → is_same ends ≡ false
apart_is ends apart = by_same (is_same ends) refl
  where
    by_same : (b : Bool) → is_same ends ≡ b → is_same ends ≡ false
    by_same true is = absurd (apart (are_same ends is))
    by_same false is = is

-- ---- an end of which no item more is said

-- the same items are said
pub same_said : (side : Side) (same : Bool) (near far : Half) (said : List LineMessage) → items_of said ≡ items_of near.said
    → line_by side same near far ≡ line_by side same (record near { said = said }) far
same_said First same near far said is =
    ap (λ (items : List Item). record {
      first = node_from First same near far.said;
      second = record {
        end = cond far.joined far.end (unlinked far.end);
        file = far.file;
        busy = far.busy;
        place = place_of Second far.opened far.joined same;
        coming = cond far.opened (cond same (drop (length (items_of far.heard)) items) []) [];
      };
    }) (sym is)
same_said Second same near far said is =
    ap (λ (items : List Item). record {
      first = record {
        end = cond far.joined far.end (unlinked far.end);
        file = far.file;
        busy = far.busy;
        place = place_of First far.opened far.joined same;
        coming = cond far.opened (cond same (drop (length (items_of far.heard)) items) []) [];
      };
      second = node_from Second same near far.said;
    }) (sym is)

-- an end that isn't joined is out of any connection
pub same_end : (side : Side) (same : Bool) (near far : Half) → line_by side same near far ≡ line_by side same (record near { end = cond near.joined near.end (unlinked near.end) }) far
same_end side same near far = by_side side near.joined refl
  where
    by_side : (s : Side) (joined : Bool) → near.joined ≡ joined → line_by s same near far ≡ line_by s same (record near { end = cond near.joined near.end (unlinked near.end) }) far
    by_side First true is = rw is refl
    by_side First false is = rw is refl
    by_side Second true is = rw is refl
    by_side Second false is = rw is refl

-- where it isn't joined only what it keeps out of any connection counts
pub same_out : (side : Side) (same : Bool) (near far : Half) (end : End) → near.joined ≡ false → unlinked near.end ≡ unlinked end
    → line_by side same near far ≡ line_by side same (record near { end = end }) far
same_out First same near far end down is =
    rw down (ap (λ (e : End). record {
      first = record {
        end = e;
        file = near.file;
        busy = near.busy;
        place = cond near.opened Started Gone;
        coming = cond near.opened (cond same (unheard far.said near.heard) []) [];
      };
      second = node_from Second same far near.said;
    }) is)
same_out Second same near far end down is =
    rw down (ap (λ (e : End). record {
      first = node_from First same far near.said;
      second = record {
        end = e;
        file = near.file;
        busy = near.busy;
        place = cond near.opened Started (cond same Gone Before);
        coming = cond near.opened (cond same (unheard far.said near.heard) []) [];
      };
    }) is)

-- ---- an end that goes on

-- It has stayed in its connection or out of any, or what is told there came to be for the end of the line, or its link closed.
pub record GoesOn (old new : Half) : Type 0 where
  pub end : old.joined ≡ true → new.end ≡ old.end
  pub out : unlinked new.end ≡ unlinked old.end
  pub apart : old.joined ≡ false → new.joined ≡ true → new.end ≡ unlinked old.end
  pub file : new.file ≡ old.file
  pub busy : new.busy ≡ old.busy
  pub said : items_of new.said ≡ items_of old.said
  pub heard : new.heard ≡ old.heard
  pub joined_open : new.joined ≡ true → new.opened ≡ true
  pub shut : old.opened ≡ false → new.opened ≡ false
  pub joined : new.opened ≡ true → old.joined ≡ true → new.joined ≡ true

-- an end that is so far, and is otherwise as it was
abbrev pub so_far : Half → (said : List LineMessage) → (opened joined : Bool) → End → Half
so_far old said opened joined end =
    record { opened = opened; joined = joined; end = end; file = old.file; busy = old.busy; said = said; heard = old.heard }

is_so_far : (old new : Half) → GoesOn old new → new ≡ so_far old new.said new.opened new.joined new.end
is_so_far old new on =
    ap (λ (f : File). record { opened = new.opened; joined = new.joined; end = new.end; file = f; busy = new.busy; said = new.said; heard = new.heard }) on.file
    ∙ (ap (λ (b : Bool). record { opened = new.opened; joined = new.joined; end = new.end; file = old.file; busy = b; said = new.said; heard = new.heard }) on.busy
    ∙ ap (λ (h : List LineMessage). record { opened = new.opened; joined = new.joined; end = new.end; file = old.file; busy = old.busy; said = new.said; heard = h }) on.heard)

goes_by : (side : Side) (same : Bool) (old far : Half) (said : List LineMessage) (before after : End) (opened joined opened_then joined_then : Bool) → (opened ≡ true → IsThere side same)
    → (joined ≡ true → after ≡ before) → unlinked after ≡ unlinked before → (joined ≡ false → joined_then ≡ true → after ≡ unlinked before)
    → (joined_then ≡ true → opened_then ≡ true) → (opened ≡ false → opened_then ≡ false) → (opened_then ≡ true → joined ≡ true → joined_then ≡ true)
    → Quietly (line_by side same (so_far old said opened joined before) far) (line_by side same (so_far old said opened_then joined_then after) far)
goes_by side same old far said before after false joined true joined_then there end out apart joined_open shut_then stays = absurd (false≢true (sym (shut_then refl)))
goes_by side same old far said before after true true true true there end out apart joined_open shut_then stays =
    by_none (ap (λ (e : End). line_by side same (so_far old said true true e) far) (sym (end refl)))
goes_by side same old far said before after true true true false there end out apart joined_open shut_then stays = absurd (false≢true (stays refl refl))
goes_by side same old far said before after true false true true there end out apart joined_open shut_then stays =
    quiet_then (by_none (same_out side same (so_far old said true false before) far (unlinked before) refl refl))
    (quiet_then (by_one (ComesUp side) tt (comes_up_is side same (so_far old said true false (unlinked before)) far refl refl refl))
    (by_none (ap (λ (e : End). line_by side same (so_far old said true true e) far) (sym (apart refl refl)))))
goes_by side same old far said before after true false true false there end out apart joined_open shut_then stays =
    by_none (same_out side same (so_far old said true false before) far after refl (sym out))
goes_by side same old far said before after opened joined false true there end out apart joined_open shut_then stays = absurd (false≢true (joined_open refl))
goes_by side same old far said before after opened joined false false there end out apart joined_open shut_then stays =
    quiet_then (by_one (Leaves side) tt (leaves_is side same (so_far old said opened joined before) far there))
    (by_none (same_out side same (so_far old said false false before) far after refl (sym out)))

pub goes_on : (side : Side) (same : Bool) (old new far : Half) → GoesOn old new → (old.opened ≡ true → IsThere side same)
    → Quietly (line_by side same old far) (line_by side same new far)
goes_on side same old new far on there =
    quiet_then (by_none (same_said side same old far new.said on.said))
    (quiet_then (goes_by side same old far new.said old.end new.end old.opened old.joined new.opened new.joined there on.end on.out on.apart on.joined_open on.shut on.joined)
    (by_none (ap (λ (half : Half). line_by side same half far) (sym (is_so_far old new on)))))

-- ---- the second end enters

pub record GoesIn (old new : Half) : Type 0 where
  pub out : unlinked new.end ≡ unlinked old.end
  pub file : new.file ≡ old.file
  pub busy : new.busy ≡ old.busy
  pub said : items_of new.said ≡ []
  pub heard : new.heard ≡ []
  pub unjoined : new.joined ≡ false

is_in : (old new : Half) → GoesIn old new → new ≡ so_far (starting old) new.said new.opened false new.end
is_in old new on =
    ap (λ (f : File). record { opened = new.opened; joined = new.joined; end = new.end; file = f; busy = new.busy; said = new.said; heard = new.heard }) on.file
    ∙ (ap (λ (b : Bool). record { opened = new.opened; joined = new.joined; end = new.end; file = old.file; busy = b; said = new.said; heard = new.heard }) on.busy
    ∙ (ap (λ (h : List LineMessage). record { opened = new.opened; joined = new.joined; end = new.end; file = old.file; busy = old.busy; said = new.said; heard = h }) on.heard
    ∙ ap (λ (j : Bool). record { opened = new.opened; joined = j; end = new.end; file = old.file; busy = old.busy; said = new.said; heard = [] }) on.unjoined))

stays_in : (old far : Half) (said : List LineMessage) (end : End) (opened : Bool) → Quietly (line_by Second true (so_far (starting old) said true false end) far)
    (line_by Second true (so_far (starting old) said opened false end) far)
stays_in old far said end true = by_none refl
stays_in old far said end false = by_one (Leaves Second) tt (leaves_is Second true (so_far (starting old) said true false end) far (λ opened. refl))

pub goes_in : (old new far : Half) → GoesIn old new → old.opened ≡ false → old.joined ≡ false → far.said ≡ []
    → Quietly (line_by Second false old far) (line_by Second true new far)
goes_in old new far on shut_before down silent =
    quiet_then (by_one Enters tt (enters_is old far shut_before down silent))
    (quiet_then (by_none (same_said Second true (starting old) far new.said on.said ∙ same_out Second true (so_far (starting old) new.said true false old.end) far new.end refl (sym on.out)))
    (quiet_then (stays_in old far new.said new.end new.opened)
    (by_none (ap (λ (half : Half). line_by Second true half far) (sym (is_in old new on))))))
