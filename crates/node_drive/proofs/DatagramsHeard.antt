-- The datagrams of a round, one after another.
use Rattle.std.proofs.Common.{◌≡◌, ◌<◌, ◌≤◌, ℕ, nat_lt, Bool, true, false, cond, List, [], ◌∷◌, ◌++◌, map, refl, sym, subst, ap, ◌∙◌, append-nil, arith}
use Rattle.std.proofs.lemmas.Bool.Decides.{nat_tests}
use Rattle.node_drive.specs.Calls.{Arrival, AsksDatagram, Calls, CallsCut, Came, DatagramHeard, Empty, Failed, Reads, ThrowsAway, Told}
use Rattle.node_drive.specs.Drives.{AreHeard, EndsDatagrams, full, silent, Performs, Stops, Timed, datagram_in, unasked}
use Rattle.node_drive.specs.Inside.{OneDatagram}
use Rattle.node_drive.specs.Kinds.{Kind}
use Rattle.node_drive.specs.Rounds.{Coming, CourseState, Datagram, FailedDatagram, NoDatagram, Standing, all_come, comes, datagram, having_called, many_more, next_kept, not_heard, one_more, then_released, with_calls}
use Rattle.node_drive.specs.Seen.{is_heard}
use Rattle.node_drive.specs.declared.outside.ThrownAway.{ThrownAway}
use Rattle.node_drive.specs.declared.socket_seen.SocketSeen.{SocketSeen}
use Rattle.node_drive.proofs.Calls.{calls_same, calls_then, cuts_same, cuts_then}
use Rattle.node_drive.proofs.Comings.{performs_one, performs_same, performs_then, stops_before, stops_one, stops_same, stops_then}
use Rattle.node_drive.proofs.Lists.{map_push}
use Rattle.node_drive.proofs.Stepped.{end_cut}
use Rattle.node_drive.specs.declared.outside.Origin.{Origin}

-- some end, whatever it is
abbrev pub SomeEnd : SocketSeen → ℕ → Type 0
SomeEnd seen taken = (ends : List (ℕ × Coming)) × EndsDatagrams seen taken ends

by_count : (seen : SocketSeen) (taken : ℕ) (v : Bool) → nat_lt taken 64 ≡ v → taken ≤ 64 → SomeEnd seen taken
by_count seen taken true e few = ((0, NoDatagram) ∷ [], silent (grind (arith, nat_tests, e)))
by_count seen taken false e few =
    let many : 64 ≤ taken = grind (arith, nat_tests, e) in
    ([], full (omega (arith, few, many)))

pub some_end : (seen : SocketSeen) (taken : ℕ) → taken ≤ 64 → SomeEnd seen taken
some_end seen taken few = by_count seen taken (nat_lt taken 64) refl few

-- what was heard, said otherwise
pub asked_as : {ta tb : Told} {some one : DatagramHeard} → some ≡ one → Calls ta tb (AsksDatagram some ∷ []) → Calls ta tb (AsksDatagram one ∷ [])
asked_as e p = calls_same (ap (λ (heard : DatagramHeard). AsksDatagram heard ∷ []) e) p

-- that it is heard is told by what was seen before it came
pub heard_before : {State : Type 0} (a b : Standing State) (now : ℕ) (value : Bool) → b ≡ having_called (Reads now ∷ []) a → is_heard now b.course.seen ≡ value → is_heard now a.course.seen ≡ value
heard_before {State} a b now value noted e = ap (λ (s : Standing State). is_heard now s.course.seen) (sym noted) ∙ e

-- it isn't heard, and is thrown away
abbrev thrown_behind : ThrownAway → CourseState → CourseState
thrown_behind thrown course = record (with_calls (ThrowsAway thrown.count thrown.found_empty ∷ []) course) { too_old = many_more thrown.count (one_more course.too_old) }

module _ {State In : Type 0} (kind : Kind State In) where
  heard-push : (datagrams : List (Timed Arrival)) (one : Timed Arrival) (a : Standing State) → AreHeard kind datagrams a → is_heard one.now (all_come kind (map datagram_in datagrams) a).1.course.seen ≡ true → AreHeard kind (datagrams ++ one ∷ []) a
  heard-push [] one a are e = (e, tt)
  heard-push (first ∷ datagrams) one a are e = (are.0, heard-push datagrams one (comes kind first.now (datagram_in first).1 a).1 are.1 e)

  heard_is : (one : Timed Arrival) (a : Standing State) → is_heard one.now a.course.seen ≡ true → then_released one.ends.leaves (datagram kind one.now (next_kept one.ends.kept) one.input.0 one.input.1 (having_called (Reads one.now ∷ []) a)) ≡ comes kind one.now (datagram_in one).1 a
  heard_is one a heard =
      ap (λ (v : Bool). cond v (then_released one.ends.leaves (datagram kind one.now (next_kept one.ends.kept) one.input.0 one.input.1 (having_called (Reads one.now ∷ []) a))) (not_heard (record { count = 0; found_empty = false }) (having_called (Reads one.now ∷ []) a)))
      (sym heard)

module _ {State In : Type 0} {kind : Kind State In} where
  -- one more
  pub more_datagrams : {a b c : Standing State} {ta tb tc : Told} (datagrams : List (Timed Arrival)) (one : Timed Arrival) → Performs kind (map datagram_in datagrams) a b ta tb → Performs kind (datagram_in one ∷ []) b c tb tc
      → Performs kind (map datagram_in (datagrams ++ one ∷ [])) a c ta tc
  more_datagrams datagrams one p q = performs_same (sym (map_push datagram_in datagrams one)) (performs_then p q)

  pub heard_more : {a b : Standing State} {ta tb : Told} (datagrams : List (Timed Arrival)) (one : Timed Arrival) → AreHeard kind datagrams a → Performs kind (map datagram_in datagrams) a b ta tb → is_heard one.now b.course.seen ≡ true
      → AreHeard kind (datagrams ++ one ∷ []) a
  heard_more {a} {b} datagrams one are p e = heard-push kind datagrams one a are (ap (λ (s : Standing State). is_heard one.now s.course.seen) (sym p.standing_is) ∙ e)

  pub cut_more : {a b : Standing State} {ta tb tc : Told} (datagrams : List (Timed Arrival)) (one : Timed Arrival) (ends : List (ℕ × Coming)) → Performs kind (map datagram_in datagrams) a b ta tb
      → Stops kind (datagram_in one ∷ []) b tb tc → Stops kind (map datagram_in (datagrams ++ one ∷ []) ++ ends) a ta tc
  cut_more datagrams one ends p s = stops_before ends (stops_same (sym (map_push datagram_in datagrams one)) (stops_then p s))

  pub full_datagrams : {a b : Standing State} {ta tb : Told} (datagrams : List (Timed Arrival)) → Performs kind (map datagram_in datagrams) a b ta tb → Performs kind (map datagram_in datagrams ++ []) a b ta tb
  full_datagrams datagrams p = performs_same (sym (append-nil (map datagram_in datagrams))) p

  -- how they end, by what was seen after them
  pub ends_behind : {a b : Standing State} {ta tb : Told} (datagrams : List (Timed Arrival)) (taken : ℕ) (ends : List (ℕ × Coming)) → Performs kind (map datagram_in datagrams) a b ta tb → EndsDatagrams b.course.seen taken ends
      → EndsDatagrams (all_come kind (map datagram_in datagrams) a).1.course.seen taken ends
  ends_behind {a} {b} datagrams taken ends p e = subst (λ (s : Standing State). EndsDatagrams s.course.seen taken ends) p.standing_is e

  -- that one came, where it was answered so
  pub came_one : {a b : Standing State} {ta tb : Told} (came : Bool) → came ≡ true → OneDatagram kind came a b ta tb → (one : Timed Arrival) × (is_heard one.now a.course.seen ≡ true) × Performs kind (datagram_in one ∷ []) a b ta tb
  came_one {a} {b} {ta} {tb} came e h = subst (λ (v : Bool). OneDatagram kind v a b ta tb) e h

  -- or none
  pub came_none : {a b : Standing State} {ta tb : Told} (came : Bool) → came ≡ false → OneDatagram kind came a b ta tb
      → (ends : List (ℕ × Coming)) × ((taken : ℕ) → taken < 64 → EndsDatagrams a.course.seen taken ends) × Performs kind ends a b ta tb
  came_none {a} {b} {ta} {tb} came e h = subst (λ (v : Bool). OneDatagram kind v a b ta tb) e h

  -- ---- one datagram

  pub one_datagram : {a b z : Standing State} {ta tb tc td : Told} (one : Timed Arrival) → b ≡ having_called (Reads one.now ∷ []) a → is_heard one.now a.course.seen ≡ true → Calls ta tb (AsksDatagram (Came one.input) ∷ []) → Calls tb tc (Reads one.now ∷ [])
      → z ≡ (then_released one.ends.leaves (datagram kind one.now (next_kept one.ends.kept) one.input.0 one.input.1 b)).1 → Calls tc td (then_released one.ends.leaves (datagram kind one.now (next_kept one.ends.kept) one.input.0 one.input.1 b)).0 → Performs kind (datagram_in one ∷ []) a z ta td
  one_datagram {a} one noted heard asks reads e calls =
      let is = heard_is kind one a heard in
      performs_one one.now (datagram_in one).1
      (e ∙ ap (λ (s : Standing State). (then_released one.ends.leaves (datagram kind one.now (next_kept one.ends.kept) one.input.0 one.input.1 s)).1) noted ∙ ap (λ d. d.1) is)
      (calls_then asks (calls_then reads (calls_same (ap (λ (s : Standing State). (then_released one.ends.leaves (datagram kind one.now (next_kept one.ends.kept) one.input.0 one.input.1 s)).0) noted ∙ ap (λ d. d.0) is) calls)))

  pub one_cut : {a b : Standing State} {ta tb tc td : Told} (one : Timed Arrival) → b ≡ having_called (Reads one.now ∷ []) a → is_heard one.now a.course.seen ≡ true → Calls ta tb (AsksDatagram (Came one.input) ∷ []) → Calls tb tc (Reads one.now ∷ [])
      → CallsCut tc td (datagram kind one.now (next_kept one.ends.kept) one.input.0 one.input.1 b).0 → Stops kind (datagram_in one ∷ []) a ta td
  one_cut {a} {b} one noted heard asks reads cut =
      let is = heard_is kind one a heard in
      stops_one one.now (datagram_in one).1
      (cuts_then asks
      (cuts_then reads
      (cuts_same (ap (λ (s : Standing State). (then_released one.ends.leaves (datagram kind one.now (next_kept one.ends.kept) one.input.0 one.input.1 s)).0) noted ∙ ap (λ d. d.0) is)
      (end_cut kind one.ends.leaves (datagram kind one.now (next_kept one.ends.kept) one.input.0 one.input.1 b) cut))))

  pub none_came : {state : State} {course after : CourseState} {ta tb : Told} → after ≡ with_calls (AsksDatagram Empty ∷ []) course → Calls ta tb (AsksDatagram Empty ∷ [])
      → Performs kind ((0, NoDatagram) ∷ []) (record { state = state; course = course }) (record { state = state; course = after }) ta tb
  none_came {state} noted asks = performs_one 0 NoDatagram (ap (λ (c : CourseState). record { state = state; course = c }) noted) asks

  pub none_known : {a : Standing State} {ta tb : Told} → Calls ta tb (AsksDatagram Failed ∷ []) → Performs kind ((0, FailedDatagram) ∷ []) a a ta tb
  none_known asks = performs_one 0 FailedDatagram refl asks

  pub old_came : {state : State} {course read after : CourseState} {ta tb tc td : Told} (now : ℕ) (origin : Origin) (bytes : List ℕ) (thrown : ThrownAway) → read ≡ with_calls (Reads now ∷ []) course → is_heard now course.seen ≡ false
      → after ≡ record (with_calls (ThrowsAway thrown.count thrown.found_empty ∷ []) read) { too_old = many_more thrown.count (one_more read.too_old) }
      → Calls ta tb (AsksDatagram (Came (origin, bytes)) ∷ []) → Calls tb tc (Reads now ∷ []) → Calls tc td (ThrowsAway thrown.count thrown.found_empty ∷ [])
      → Performs kind ((now, Datagram origin bytes thrown unasked) ∷ []) (record { state = state; course = course }) (record { state = state; course = after }) ta td
  old_came {state} {course} {read} {after} now origin bytes thrown noted late e asks reads throws =
      let here : Standing State = having_called (Reads now ∷ []) (record { state = state; course = course }) in
      let is : not_heard thrown here ≡ comes kind now (Datagram origin bytes thrown unasked) (record { state = state; course = course })
      = ap (λ (v : Bool). cond v (then_released 0 (datagram kind now true origin bytes here)) (not_heard thrown here)) (sym late) in
      performs_one now (Datagram origin bytes thrown unasked)
      (ap (λ (c : CourseState). record { state = state; course = c }) (e ∙ ap (thrown_behind thrown) noted) ∙ ap (λ d. d.1) is)
      (calls_then asks (calls_then reads (calls_same (ap (λ d. d.0) is) throws)))
