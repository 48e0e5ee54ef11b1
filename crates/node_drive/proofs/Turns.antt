-- Rounds one after another, and a round that is broken off.
use Rattle.std.proofs.Common.{◌≡◌, ◌≤◌, ℕ, Bool, true, false, List, [], ◌∷◌, ◌++◌, length, map, refl, sym, ap, ◌∙◌, subst, append_assoc, append-nil, arith}
use Rattle.node_drive.specs.Calls.{Arrival, Told}
use Rattle.node_drive.specs.Drives.{AreHeard, AreRounds, EndsDatagrams, GoesOn, is_over, silent, IsRound, Performs, Round, Stops, Timed, behind_lines, datagram_in, in_round, in_rounds, line_in, lines_end, opening, unasked}
use Rattle.node_drive.specs.Inside.{closed_end}
use Rattle.node_drive.specs.Kinds.{Kind}
use Rattle.node_drive.specs.Rounds.{Coming, Ends, NoDatagram, Standing, Tick, all_come}
use Rattle.node_drive.proofs.Comings.{come-standing, performs_same, performs_then, stops_before, stops_same, stops_then}

-- ---- one more round

pub rounds-push : (made : List Round) (round : Round) → in_rounds (made ++ round ∷ []) ≡ in_rounds made ++ in_round round
rounds-push [] round = append-nil (in_round round)
rounds-push (one ∷ made) round = ap (λ l. in_round one ++ l) (rounds-push made round) ∙ sym (append_assoc (in_round one) (in_rounds made) (in_round round))

are-push : {State In : Type 0} (kind : Kind State In) (made : List Round) (round : Round) (start : Standing State) → AreRounds kind made start → IsRound kind (all_come kind (in_rounds made) start).1 round → round.closed ≡ false → AreRounds kind (made ++ round ∷ []) start
are-push kind [] round start are is whole = (is, whole, tt)
are-push {State} kind (one ∷ made) round start are is whole = (
  are.0,
  are.1,
  are-push kind made round (all_come kind (in_round one) start).1 are.2 (subst (λ (s : Standing State). IsRound kind s round) (come-standing kind (in_round one) (in_rounds made) start) is) whole,
)

-- the same of the standing that was reached
pub are_more : {State In : Type 0} {kind : Kind State In} {start here : Standing State} {ta tb : Told} (made : List Round) (round : Round) → AreRounds kind made start → Performs kind (in_rounds made) start here ta tb → IsRound kind here round
    → round.closed ≡ false → AreRounds kind (made ++ round ∷ []) start
are_more {State} {In} {kind} {start} made round are performs is whole = are-push kind made round start are (subst (λ (s : Standing State). IsRound kind s round) performs.standing_is is) whole

-- it goes on after one more
goes-push : {State In : Type 0} (kind : Kind State In) (for_ms first : ℕ) (made : List Round) (round : Round) (start : Standing State) → GoesOn kind for_ms first made start
    → is_over kind for_ms first round.ticks (all_come kind (in_rounds (made ++ round ∷ [])) start).1 ≡ false → GoesOn kind for_ms first (made ++ round ∷ []) start
goes-push kind for_ms first [] round start goes on = (ap (λ l. is_over kind for_ms first round.ticks (all_come kind l start).1) (sym (append-nil (in_round round))) ∙ on, tt)
goes-push kind for_ms first (one ∷ made) round start goes on =
    let after = (all_come kind (in_round one) start).1 in (
      goes.0,
      goes-push kind for_ms first made round after goes.1
          (ap (is_over kind for_ms first round.ticks) (sym (come-standing kind (in_round one) (in_rounds (made ++ round ∷ [])) start)) ∙ on),
    )

-- the same of the reading and the standing that were reached
pub goes_on : {State In : Type 0} (kind : Kind State In) (for_ms first : ℕ) (made : List Round) (round : Round) (start after : Standing State) (ticks : ℕ) → GoesOn kind for_ms first made start
    → round.ticks ≡ ticks → after ≡ (all_come kind (in_rounds (made ++ round ∷ [])) start).1 → is_over kind for_ms first ticks after ≡ false → GoesOn kind for_ms first (made ++ round ∷ []) start
goes_on {State} kind for_ms first made round start after ticks goes e f on =
    goes-push kind for_ms first made round start goes
    (ap (λ (n : ℕ). is_over kind for_ms first n (all_come kind (in_rounds (made ++ round ∷ [])) start).1) e
    ∙ ap (λ (s : Standing State). is_over kind for_ms first ticks s) (sym f)
    ∙ on)

module _ {State In : Type 0} {kind : Kind State In} where
  pub performs_round : {a b c : Standing State} {ta tb tc : Told} (made : List Round) (round : Round) → Performs kind (in_rounds made) a b ta tb → Performs kind (in_round round) b c tb tc
      → Performs kind (in_rounds (made ++ round ∷ [])) a c ta tc
  performs_round made round p q = performs_same (sym (rounds-push made round)) (performs_then p q)

-- ---- a round that is broken off

-- where nothing more came after its lines
abbrev pub cut_in_lines : ℕ → Bool → List (Timed (List ℕ)) → Bool → Round
cut_in_lines begins listened lines closed = record {
  begins = begins;
  listened = listened;
  lines = lines;
  closed = closed;
  datagrams = [];
  datagrams_end = (0, NoDatagram) ∷ [];
  ticks = 0;
  ends = unasked;
}

-- or after its datagrams
abbrev pub whole_round : ℕ → Bool → List (Timed (List ℕ)) → List (Timed Arrival) → List (ℕ × Coming) → ℕ → Ends → Round
whole_round begins listened lines datagrams ends ticks answers = record {
  begins = begins;
  listened = listened;
  lines = lines;
  closed = false;
  datagrams = datagrams;
  datagrams_end = ends;
  ticks = ticks;
  ends = answers;
}

module _ {State In : Type 0} (kind : Kind State In) where
  pub cut_is_round : (start : Standing State) (begins : ℕ) (listened : Bool) (lines : List (Timed (List ℕ))) (closed : Bool) → length lines ≤ 64 → IsRound kind start (cut_in_lines begins listened lines closed)
  cut_is_round start begins listened lines closed few = record {
    few_lines = few;
    few_datagrams = omega arith;
    heard = tt;
    ends = silent (omega arith);
  }

  -- by how the process stands before its datagrams
  pub whole_is_round : {start here : Standing State} {ta tb : Told} (begins : ℕ) (listened : Bool) (lines : List (Timed (List ℕ))) (datagrams : List (Timed Arrival)) (ends : List (ℕ × Coming)) (ticks : ℕ) (answers : Ends)
      → Performs kind (opening begins listened ++ (map line_in lines ++ lines_end (length lines))) start here ta tb → length lines ≤ 64 → length datagrams ≤ 64 → AreHeard kind datagrams here
      → EndsDatagrams (all_come kind (map datagram_in datagrams) here).1.course.seen (length datagrams) ends → IsRound kind start (whole_round begins listened lines datagrams ends ticks answers)
  whole_is_round begins listened lines datagrams ends ticks answers performs few_lines few_datagrams heard end = record {
    few_lines = few_lines;
    few_datagrams = few_datagrams;
    heard = subst (λ (s : Standing State). AreHeard kind datagrams s) performs.standing_is heard;
    ends = subst (λ (s : Standing State). EndsDatagrams (all_come kind (map datagram_in datagrams) s).1.course.seen (length datagrams) ends) performs.standing_is end;
  }

-- the lines of a round and what stands after them
behind-lines : (round : Round) (closed : Bool) → (rest : List (ℕ × Coming)) × (behind_lines round closed ≡ closed_end closed ++ rest)
behind-lines round true = ([], refl)
behind-lines round false = (behind_lines round false, refl)

-- all of a round, in its parts
regrouped : (lines : List (Timed (List ℕ))) (datagrams : List (Timed Arrival)) (ends : List (ℕ × Coming)) (ticks : ℕ) (answers : Ends)
    → (map line_in lines ++ lines_end (length lines)) ++ ((map datagram_in datagrams ++ ends) ++ (ticks, Tick answers) ∷ [])
    ≡ map line_in lines ++ (lines_end (length lines) ++ ((map datagram_in datagrams ++ ends) ++ (ticks, Tick answers) ∷ []))
regrouped lines datagrams ends ticks answers = append_assoc (map line_in lines) (lines_end (length lines)) _

module _ {State In : Type 0} {kind : Kind State In} where
  pub stops_opening : {a : Standing State} {ta tb : Told} (begins : ℕ) (listened : Bool) (round : Round) → round.begins ≡ begins → round.listened ≡ listened
      → Stops kind (opening begins listened) a ta tb → Stops kind (in_round round) a ta tb
  stops_opening {a} {ta} {tb} begins listened round e f s =
      stops_before (map line_in round.lines ++ behind_lines round round.closed)
      (subst (λ (b : ℕ). Stops kind (opening b round.listened) a ta tb) (sym e) (subst (λ (v : Bool). Stops kind (opening begins v) a ta tb) (sym f) s))

  pub stops_lines : {a b : Standing State} {ta tb tc : Told} (begins : ℕ) (listened : Bool) (lines : List (Timed (List ℕ))) (closed : Bool)
      → Performs kind (opening begins listened) a b ta tb → Stops kind (map line_in lines ++ closed_end closed) b tb tc → Stops kind (in_round (cut_in_lines begins listened lines closed)) a ta tc
  stops_lines begins listened lines closed p s =
      let round : Round = cut_in_lines begins listened lines closed in
      let behind = behind-lines round closed in
      stops_then p
      (stops_same (append_assoc (map line_in lines) (closed_end closed) behind.0 ∙ ap (λ l. map line_in lines ++ l) (sym behind.1)) (stops_before behind.0 s))

  pub performs_all : {a b c d e : Standing State} {ta tb tc td te : Told} (begins : ℕ) (listened : Bool) (lines : List (Timed (List ℕ))) (datagrams : List (Timed Arrival)) (ends : List (ℕ × Coming)) (ticks : ℕ) (answers : Ends)
      → Performs kind (opening begins listened) a b ta tb → Performs kind (map line_in lines ++ lines_end (length lines)) b c tb tc → Performs kind (map datagram_in datagrams ++ ends) c d tc td
      → Performs kind ((ticks, Tick answers) ∷ []) d e td te → Performs kind (in_round (whole_round begins listened lines datagrams ends ticks answers)) a e ta te
  performs_all begins listened lines datagrams ends ticks answers p q r s =
      performs_then p (performs_same (regrouped lines datagrams ends ticks answers) (performs_then q (performs_then r s)))

  pub stops_tick : {a b c d : Standing State} {ta tb tc td te : Told} (begins : ℕ) (listened : Bool) (lines : List (Timed (List ℕ))) (datagrams : List (Timed Arrival)) (ends : List (ℕ × Coming)) (ticks : ℕ) (answers : Ends)
      → Performs kind (opening begins listened) a b ta tb → Performs kind (map line_in lines ++ lines_end (length lines)) b c tb tc → Performs kind (map datagram_in datagrams ++ ends) c d tc td
      → Stops kind ((ticks, Tick answers) ∷ []) d td te → Stops kind (in_round (whole_round begins listened lines datagrams ends ticks answers)) a ta te
  stops_tick begins listened lines datagrams ends ticks answers p q r s =
      stops_then p (stops_same (regrouped lines datagrams ends ticks answers) (stops_then q (stops_then r s)))

  pub stops_datagrams : {a b c : Standing State} {ta tb tc td : Told} (begins : ℕ) (listened : Bool) (lines : List (Timed (List ℕ))) (datagrams : List (Timed Arrival)) (ends : List (ℕ × Coming)) (ticks : ℕ) (answers : Ends)
      → Performs kind (opening begins listened) a b ta tb → Performs kind (map line_in lines ++ lines_end (length lines)) b c tb tc → Stops kind (map datagram_in datagrams ++ ends) c tc td
      → Stops kind (in_round (whole_round begins listened lines datagrams ends ticks answers)) a ta td
  stops_datagrams begins listened lines datagrams ends ticks answers p q s =
      stops_then p (stops_same (regrouped lines datagrams ends ticks answers) (stops_then q (stops_before ((ticks, Tick answers) ∷ []) s)))
