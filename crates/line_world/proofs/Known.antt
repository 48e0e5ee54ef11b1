-- What an end knows of the line, event by event: whether there was a moment at which no contact of either end was occupied, since
-- which this end has had the token and no contact of its own was occupied.
use Rattle.std.proofs.Common.{◌≡◌, ◌∙◌, ⊎_elim, Bool, true, false, cond, not, ◌&&◌, ◌||◌, inl, inr, List, [], ◌∷◌, ◌++◌, ap, refl, subst, sym}
use Rattle.std.specs.Prelude.{◌⊎◌, IsTrue}
use Rattle.std.proofs.lemmas.Bool.{false≢true}
use Rattle.std.proofs.lemmas.List.{append-nil}
use Rattle.line_laws.specs.Invariant.{IsEndSound, IsLineSound}
use Rattle.line_laws.specs.Link.{Before, Started, is_gone, is_inside}
use Rattle.line_laws.specs.Line.{Line, Move, Node, Opens, Enters, ComesUp, Leaves, Looks, after, right_rules}
use Rattle.line_laws.specs.Promise.{IsClear}
use Rattle.line_laws.specs.declared.words.Side.{Side}
use Rattle.line_laws.specs.declared.words.Side.TheVariants.{First, Second}
use Rattle.line_world.specs.Events.{LineEvent}
use Rattle.line_world.specs.Promise.{AreFree, Holds, LineThen, Throughout, WasClear, then_after, then_after_all}
use Rattle.line_world.specs.declared.names.LineNames.{LineNames}

-- ---- what is known, as an end's invariant has it

-- where an end is sound by one knowledge, it is by another that follows while it has the token and its own part is free
end_knows : (One More : Type 0) (one : Node) → (one.end.token ≡ true → one.busy ≡ false → One → More) → IsEndSound One one → IsEndSound More one
end_knows One More one follows sound = record {
  locked = sound.locked;
  down = sound.down;
  gone = sound.gone;
  token = sound.token;
  free = sound.free;
  answered = λ out some. follows (sound.token out) (sound.free out) (sound.answered out some);
  empty_token = sound.empty_token;
  empty_free = sound.empty_free;
  empty_known = λ empty. follows (sound.empty_token empty) (sound.empty_free empty) (sound.empty_known empty);
}

line_knows : (One Two More Most : Type 0) (line : Line) → (line.first.end.token ≡ true → line.first.busy ≡ false → One → More)
    → (line.second.end.token ≡ true → line.second.busy ≡ false → Two → Most) → IsLineSound One Two line → IsLineSound More Most line
line_knows One Two More Most line first second sound = record {
  ends = record {
    one_token = sound.ends.one_token;
    near_end = end_knows One More line.first first sound.ends.near_end;
    far_end = end_knows Two Most line.second second sound.ends.far_end;
    near_query = sound.ends.near_query;
    far_query = sound.ends.far_query;
  };
  none = sound.none;
  first_file = sound.first_file;
  second_file = sound.second_file;
}

-- ---- computed along moves

-- It is known where the token is here and the own part free, and it was known before, or the partner's part is free too.
abbrev pub known_at : (near far : Node) → (before : Bool) → Bool
known_at near far before = near.end.token && (not near.busy && (before || not far.busy))

known_now : (near far : Node) (before : Bool) → near.end.token ≡ true → near.busy ≡ false → (IsTrue before ⊎ ((near.busy ≡ false) × (far.busy ≡ false)))
    → IsTrue (known_at near far before)
known_now near far before token free known = rw (token, free) (by_known before far.busy known)
  where
    by_known : (was busy : Bool) → (IsTrue was ⊎ ((near.busy ≡ false) × (busy ≡ false))) → IsTrue (was || not busy)
    by_known true busy some = refl
    by_known false false some = refl
    by_known false true (inl was) = absurd (cc)
    by_known false true (inr both) = absurd (false≢true (sym both.1))

-- what both ends know
pub record Known : Type 0 where
  pub first : Bool
  pub second : Bool

abbrev pub known_in : Line → Known → Known
known_in line known = record { first = known_at line.first line.second known.first; second = known_at line.second line.first known.second }

abbrev pub IsKnownSound : Known → Line → Type 0
IsKnownSound known line = IsLineSound (IsTrue known.first) (IsTrue known.second) line

-- the law of line_laws: each move keeps the invariant
abbrev pub EachKeeps : Type 0
EachKeeps = (first second : Bool) (line : Line) (move : Move) → let next = after right_rules move line
    in IsLineSound (IsTrue first) (IsTrue second) line → IsLineSound (IsTrue first ⊎ IsClear next) (IsTrue second ⊎ IsClear next) next

pub move_known : EachKeeps → (known : Known) (line : Line) (move : Move) → IsKnownSound known line
    → IsKnownSound (known_in (after right_rules move line) known) (after right_rules move line)
move_known each known line move sound =
    let next : Line = after right_rules move line
    in line_knows (IsTrue known.first ⊎ IsClear next) (IsTrue known.second ⊎ IsClear next)
    (IsTrue (known_at next.first next.second known.first)) (IsTrue (known_at next.second next.first known.second)) next
    (λ token free some. known_now next.first next.second known.first token free (⊎_elim (λ was. inl was) (λ clear. inr (clear.first, clear.second)) some))
    (λ token free some. known_now next.second next.first known.second token free (⊎_elim (λ was. inl was) (λ clear. inr (clear.second, clear.first)) some))
    (each known.first known.second line move sound)

-- ---- moves that change no contact and no token

abbrev pub IsQuiet : Move → Type 0
IsQuiet Opens = Unit {0}
IsQuiet Enters = Unit {0}
IsQuiet (ComesUp side) = Unit {0}
IsQuiet (Leaves side) = Unit {0}
IsQuiet (Looks side seen count outcome) = ⊥

-- two lines of which the tokens and the contacts are the same
pub record HoldAlike (line other : Line) : Type 0 where
  pub first_token : other.first.end.token ≡ line.first.end.token
  pub first_busy : other.first.busy ≡ line.first.busy
  pub second_token : other.second.end.token ≡ line.second.end.token
  pub second_busy : other.second.busy ≡ line.second.busy

pub quiet_alike : (line : Line) (move : Move) → IsQuiet move → HoldAlike line (after right_rules move line)
quiet_alike line Opens quiet = by_test (is_gone line.first.place && not (is_inside line.second.place))
  where
    by_test : (opens : Bool) → HoldAlike line (cond opens
        (record { first = record line.first { place = Started; coming = [] }; second = record line.second { place = Before; coming = [] } }) line)
    by_test true = record { first_token = refl; first_busy = refl; second_token = refl; second_busy = refl }
    by_test false = record { first_token = refl; first_busy = refl; second_token = refl; second_busy = refl }
quiet_alike line Enters quiet = record { first_token = refl; first_busy = refl; second_token = refl; second_busy = refl }
quiet_alike line (ComesUp First) quiet = record { first_token = refl; first_busy = refl; second_token = refl; second_busy = refl }
quiet_alike line (ComesUp Second) quiet = record { first_token = refl; first_busy = refl; second_token = refl; second_busy = refl }
quiet_alike line (Leaves First) quiet = record { first_token = refl; first_busy = refl; second_token = refl; second_busy = refl }
quiet_alike line (Leaves Second) quiet = record { first_token = refl; first_busy = refl; second_token = refl; second_busy = refl }
quiet_alike line (Looks side seen count outcome) quiet = absurd quiet

alike_known : (line other : Line) (known : Known) → HoldAlike line other → known_in other known ≡ known_in line known
alike_known line other known same = record-path
    (known_alike line.first line.second other.first other.second known.first same.first_token same.first_busy same.second_busy)
    (known_alike line.second line.first other.second other.first known.second same.second_token same.second_busy same.first_busy)
  where
    known_alike : (near far new newer : Node) (before : Bool) → new.end.token ≡ near.end.token → new.busy ≡ near.busy → newer.busy ≡ far.busy
        → known_at new newer before ≡ known_at near far before
    known_alike near far new newer before token busy other = rw (token, busy, other) refl

    record-path : {a b c d : Bool} → a ≡ b → c ≡ d → ◌≡◌ {A = Known} (record { first = a; second = c }) (record { first = b; second = d })
    record-path {a} {b} {c} {d} first second = ap (λ (x : Bool). record { first = x; second = c }) first ∙ ap (λ (y : Bool). record { first = b; second = y }) second

-- what is known is known still
abbrev pub IsSteady : Known → Line → Type 0
IsSteady known line = known_in line known ≡ known

once : (token busy before other : Bool) → token && (not busy && ((token && (not busy && (before || not other))) || not other)) ≡ token && (not busy && (before || not other))
once false busy before other = refl
once true true before other = refl
once true false true other = refl
once true false false true = refl
once true false false false = refl

pub known_steady : (line : Line) (known : Known) → IsSteady (known_in line known) line
known_steady line known =
    ap (λ (x : Bool). record { first = x; second = known_at line.second line.first (known_at line.second line.first known.second) })
    (once line.first.end.token line.first.busy known.first line.second.busy)
    ∙ ap (λ (y : Bool). record { first = known_at line.first line.second known.first; second = y })
    (once line.second.end.token line.second.busy known.second line.first.busy)

pub quiet_known : EachKeeps → (known : Known) (line : Line) (move : Move) → IsQuiet move → IsSteady known line → IsKnownSound known line
    → IsSteady known (after right_rules move line) × IsKnownSound known (after right_rules move line)
quiet_known each known line move quiet steady sound =
    let next : Line = after right_rules move line
    in let is : known_in next known ≡ known = alike_known line next known (quiet_alike line move quiet) ∙ steady
    in (is, subst (λ (k : Known). IsKnownSound k next) is (move_known each known line move sound))

-- ---- event by event

pub then_append : (names : LineNames) (events : List LineEvent) (event : LineEvent) (start : LineThen)
    → then_after_all names (events ++ event ∷ []) start ≡ then_after names event (then_after_all names events start)
then_append names [] event start = refl
then_append names (first ∷ events) event start = then_append names events event (then_after names first start)

through_on : (names : LineNames) (Fact : LineThen → Type 0) (events : List LineEvent) (event : LineEvent) (now : LineThen) → Throughout names Fact events now
    → Fact (then_after_all names (events ++ event ∷ []) now) → Throughout names Fact (events ++ event ∷ []) now
through_on names Fact [] event now all fact = (all, fact)
through_on names Fact (first ∷ events) event now all fact = (all.0, through_on names Fact events event (then_after names first now) all.1 fact)

split : (names : LineNames) (events more : List LineEvent) (now : LineThen) → then_after_all names (events ++ more) now ≡ then_after_all names more (then_after_all names events now)
split names [] more now = refl
split names (first ∷ events) more now = split names events more (then_after names first now)

regrouped : (xs ys : List LineEvent) (event : LineEvent) → xs ++ (ys ++ event ∷ []) ≡ (xs ++ ys) ++ event ∷ []
regrouped [] ys event = refl
regrouped (x ∷ xs) ys event = ap (λ (rest : List LineEvent). x ∷ rest) (regrouped xs ys event)

-- an end that knew goes on to know while it holds
pub was_on : (names : LineNames) (side : Side) (start : LineThen) (events : List LineEvent) (event : LineEvent) → WasClear names side start events
    → Holds side (then_after_all names (events ++ event ∷ []) start) → WasClear names side start (events ++ event ∷ [])
was_on names side start events event was holds = record {
  earlier = was.earlier;
  later = was.later ++ event ∷ [];
  whole = regrouped was.earlier was.later event ∙ ap (λ (all : List LineEvent). all ++ event ∷ []) was.whole;
  clear = was.clear;
  since =
      let all : then_after_all names (events ++ event ∷ []) start ≡ then_after_all names (was.later ++ event ∷ []) (then_after_all names was.earlier start) =
      ap (λ (list : List LineEvent). then_after_all names (list ++ event ∷ []) start) (sym was.whole)
      ∙ (ap (λ (list : List LineEvent). then_after_all names list start) (sym (regrouped was.earlier was.later event))
      ∙ split names was.earlier (was.later ++ event ∷ []) start)
      in through_on names (Holds side) was.later event (then_after_all names was.earlier start) was.since (subst (Holds side) all holds);
}

-- where no contact of either end is occupied now, it knows from now on
pub was_now : (names : LineNames) (side : Side) (start : LineThen) (events : List LineEvent) → AreFree (then_after_all names events start).contacts
    → Holds side (then_after_all names events start) → WasClear names side start events
was_now names side start events free holds = record {
  earlier = events;
  later = [];
  whole = append-nil events;
  clear = free;
  since = holds;
}
