-- Whether the line is known to have been clear, computed along a list of moves.
use Rattle.std.proofs.Common.{◌≡◌, Bool, true, false, not, List, [], ◌∷◌, ◌++◌, refl, sym, subst}
use Rattle.std.specs.Prelude.{◌&&◌, ◌||◌}
use Rattle.line_laws.specs.declared.words.Side.{Side}
use Rattle.line_laws.specs.declared.words.Side.TheVariants.{First, Second}
use Rattle.line_laws.specs.Line.{Node, Line, Move, Rules, node, after}
use Rattle.line_laws.specs.Run.{run}
use Rattle.line_laws.specs.Promise.{IsClear, Holds, Throughout, WasClear}

-- the token is here and the own part free; and it was known before, or the partner's part is free too
abbrev pub known_at : Node → Node → Bool → Bool
known_at near far before = near.end.token && (not near.busy && (before || not far.busy))

abbrev pub partner : Side → Line → Node
partner First line = line.second
partner Second line = line.first

abbrev pub known_now : Side → Line → Bool → Bool
known_now side line before = known_at (node side line) (partner side line) before

abbrev pub known : Rules → Side → List Move → Line → Bool → Bool
known rules side [] line before = known_now side line before
known rules side (move ∷ moves) line before = known rules side moves (after rules move line) (known_now side line before)

all_true : (token busy before other : Bool) → token ≡ true → busy ≡ false → before || not other ≡ true → token && (not busy && (before || not other)) ≡ true
all_true true false before other t b o = o
all_true true true before other t b o = cc
all_true false busy before other t b o = cc

or_free : (before other : Bool) → other ≡ false → before || not other ≡ true
or_free true other o = refl
or_free false true o = sym o
or_free false false o = refl

or_before : (before other : Bool) → before ≡ true → before || not other ≡ true
or_before true other b = refl
or_before false other b = cc

other_free : (side : Side) (line : Line) → IsClear line → (partner side line).busy ≡ false
other_free First line clear = clear.second
other_free Second line clear = clear.first

holds_now : (rules : Rules) (side : Side) (moves : List Move) (line : Line) → Throughout rules (Holds side) moves line → Holds side line
holds_now rules side [] line since = since
holds_now rules side (move ∷ moves) line since = since.0

known_holds : (side : Side) (line : Line) (before : Bool) → Holds side line → before || not (partner side line).busy ≡ true → known_now side line before ≡ true
known_holds side line before holds was =
    all_true (node side line).end.token (node side line).busy before (partner side line).busy holds.token holds.free was

stays_known : (rules : Rules) (side : Side) (moves : List Move) (line : Line) (before : Bool) → Throughout rules (Holds side) moves line
    → before || not (partner side line).busy ≡ true → known rules side moves line before ≡ true
stays_known rules side [] line before since was = known_holds side line before since was
stays_known rules side (move ∷ moves) line before since was =
    stays_known rules side moves (after rules move line) (known_now side line before) since.1
    (or_before (known_now side line before) (partner side (after rules move line)).busy (known_holds side line before since.0 was))

becomes_known : (rules : Rules) (side : Side) (earlier later : List Move) (line : Line) (before : Bool) → IsClear (run rules earlier line)
    → Throughout rules (Holds side) later (run rules earlier line) → known rules side (earlier ++ later) line before ≡ true
becomes_known rules side [] later line before clear since =
    stays_known rules side later line before since (or_free before (partner side line).busy (other_free side line clear))
becomes_known rules side (move ∷ earlier) later line before clear since =
    becomes_known rules side earlier later (after rules move line) (known_now side line before) clear since

-- where it isn't known, it wasn't clear
pub unknown : (rules : Rules) (side : Side) (start : Line) (moves : List Move) → known rules side moves start false ≡ false → WasClear rules side start moves → ⊥
unknown rules side start moves none was =
    let is : known rules side moves start false ≡ true =
    subst (λ (list : List Move). known rules side list start false ≡ true) was.whole (becomes_known rules side was.earlier was.later start false was.clear was.since)
    in cc (none, is)
