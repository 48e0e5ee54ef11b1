-- What a process sends was handed out in time.
use Rattle.std.proofs.Common.{◌≡◌, ℕ, Bool, true, false, List, [], ◌∷◌, ◌++◌, map, Option, Some, None, IsSomeAnd, refl, sym, subst}
use Rattle.node_kinds.specs.simulator_spec.layout.Entries.{Site}
use Rattle.node_kinds.specs.node_drive.Ages.{IsIn, SendsBy, SentInTime, handed_by}
use Rattle.node_kinds.specs.node_drive.Beginning.{first_course}
use Rattle.node_kinds.specs.node_drive.Calls.{AsksDatagram, Call, Empty, IsBroken, between, within, IsCut, Reads, Sends, ThrowsAway, Told, Writes}
use Rattle.node_kinds.specs.node_drive.Kinds.{Kind}
use Rattle.node_kinds.specs.node_drive.Lives.{came}
use Rattle.node_kinds.specs.node_drive.Rounds.{Coming, RoundBegins, Listened, Line, NoLine, LinesEnd, Datagram, NoDatagram, FailedDatagram, Tick, Standing, all_come, asked, comes}
use Rattle.node_kinds.specs.node_drive.Seen.{nothing_seen, seen_with}
use Rattle.node_kinds.specs.node_drive.Waiting.{Addressed, Waiting}
use Rattle.node_kinds.specs.node_drive.declared.socket_seen.SocketSeen.{SocketSeen}
use Rattle.node_kinds.specs.Openings.{Equipment, Opening, Opens, opened_by, opening_kind, untold}
use Rattle.node_kinds.specs.Processes.{standing}
use Rattle.node_safety.specs.Records.{WasCalled, WasHandedOut, calls_in}

-- the law of the engine, for a kind
abbrev pub AllInTime : {State Input : Type 0} → Kind State Input → Type 0
AllInTime {State} kind = (comings : List (ℕ × Coming)) (standing : Standing State) → SendsBy (SentInTime kind comings standing) standing.course.seen (all_come kind comings standing).0

-- ---- the clock is read before anything is sent

abbrev ReadsFirst : List Call → Type 0
ReadsFirst [] = Unit {0}
ReadsFirst (Reads reading ∷ calls) = Unit {0}
ReadsFirst (Sends to bytes ∷ calls) = ⊥
ReadsFirst (call ∷ calls) = ReadsFirst calls

first_then : (some more : List Call) → ReadsFirst some → ReadsFirst more → ReadsFirst (some ++ more)
first_then [] more p q = q
first_then (Reads reading ∷ some) more p q = tt
first_then (Sends to bytes ∷ some) more p q = absurd p
first_then (call ∷ some) more p q = first_then some more p q

writes_first : (texts : List (List ℕ)) → ReadsFirst (map Writes texts)
writes_first [] = tt
writes_first (text ∷ texts) = writes_first texts

module _ {State Input : Type 0} (kind : Kind State Input) where
  comes_first : (now : ℕ) (coming : Coming) (at : Standing State) → ReadsFirst (asked now coming ++ (comes kind now coming at).0)
  comes_first now RoundBegins at = tt
  comes_first now (Listened true) at = writes_first (kind.stands now at.state)
  comes_first now (Listened false) at = tt
  comes_first now (Line text ends) at = tt
  comes_first now NoLine at = tt
  comes_first now LinesEnd at = tt
  comes_first now (Datagram origin bytes thrown ends) at = tt
  comes_first now NoDatagram at = tt
  comes_first now FailedDatagram at = tt
  comes_first now (Tick ends) at = tt

  all_first : (comings : List (ℕ × Coming)) (at : Standing State) → ReadsFirst (all_come kind comings at).0
  all_first [] at = tt
  all_first (one ∷ others) at =
      let after = (comes kind one.0 one.1 at).1 in
      first_then (asked one.0 one.1 ++ (comes kind one.0 one.1 at).0) (all_come kind others after).0 (comes_first one.0 one.1 at) (all_first others after)

-- ---- what holds of each that is sent

-- what was read last then
latest_with : (call : Call) (seen other : SocketSeen) → seen.latest ≡ other.latest → (seen_with call seen).latest ≡ (seen_with call other).latest
latest_with (Reads reading) seen other same = refl
latest_with (AsksDatagram Empty) seen other same = same
latest_with (ThrowsAway count true) seen other same = same
latest_with call seen other same = same

module _ (Holds : ℕ → Addressed → Type 0) where
  -- it counts only what was read last
  same_latest : (calls : List Call) (seen other : SocketSeen) → seen.latest ≡ other.latest → SendsBy Holds seen calls → SendsBy Holds other calls
  same_latest [] seen other same sends = tt
  same_latest (Sends to bytes ∷ calls) seen other same sends =
      (subst (λ (o : Option ℕ). IsSomeAnd o (λ now. Holds now (to, bytes))) same sends.0, same_latest calls seen other same sends.1)
  same_latest (call ∷ calls) seen other same sends = same_latest calls (seen_with call seen) (seen_with call other) (latest_with call seen other same) sends

  -- and where the clock is read first, nothing of before
  any_seen : (calls : List Call) (seen other : SocketSeen) → ReadsFirst calls → SendsBy Holds seen calls → SendsBy Holds other calls
  any_seen [] seen other first sends = tt
  any_seen (Reads reading ∷ calls) seen other first sends = same_latest calls (seen_with (Reads reading) seen) (seen_with (Reads reading) other) refl sends
  any_seen (Sends to bytes ∷ calls) seen other first sends = absurd first
  any_seen (call ∷ calls) seen other first sends = any_seen calls (seen_with call seen) (seen_with call other) first sends

  sends_then : (some more : List Call) (seen : SocketSeen) → SendsBy Holds seen some → ((then : SocketSeen) → SendsBy Holds then more) → SendsBy Holds seen (some ++ more)
  sends_then [] more seen p q = q seen
  sends_then (Sends to bytes ∷ some) more seen p q = (p.0, sends_then some more seen p.1 q)
  sends_then (call ∷ some) more seen p q = sends_then some more (seen_with call seen) p q

  sends_front : (some more : List Call) (seen : SocketSeen) → SendsBy Holds seen (some ++ more) → SendsBy Holds seen some
  sends_front [] more seen p = tt
  sends_front (Sends to bytes ∷ some) more seen p = (p.0, sends_front some more seen p.1)
  sends_front (call ∷ some) more seen p = sends_front some more (seen_with call seen) p

  -- a line that is broken off sends nothing
  broken_sends : {behind last : List Call} → IsBroken behind last → (seen : SocketSeen) → SendsBy Holds seen last
  broken_sends between seen = tt
  broken_sends within seen = tt

  cut_sends : (whole calls : List Call) (seen : SocketSeen) → IsCut whole calls → SendsBy Holds seen whole → SendsBy Holds seen calls
  cut_sends whole calls seen cut sends =
      subst (SendsBy Holds seen) (sym cut.calls_are)
      (sends_then cut.front cut.last seen (sends_front cut.front cut.behind seen (subst (SendsBy Holds seen) cut.whole_is sends)) (broken_sends cut.broken))

  called_sends : (ended : Bool) (read new : Told) (whole : List Call) (called : WasCalled ended read new whole) → ((seen : SocketSeen) → SendsBy Holds seen whole) → (seen : SocketSeen) → SendsBy Holds seen (calls_in ended read new whole called)
  called_sends true read new whole called sends seen = sends seen
  called_sends false read new whole called sends seen = cut_sends whole called.calls seen called.cut (sends seen)

some_also : (One Other : ℕ → Type 0) (some : Option ℕ) → ((now : ℕ) → One now → Other now) → IsSomeAnd some One → IsSomeAnd some Other
some_also One Other None also p = absurd p
some_also One Other (Some now) also p = also now p

sends_also : (Holds Other : ℕ → Addressed → Type 0) → ((now : ℕ) (datagram : Addressed) → Holds now datagram → Other now datagram) → (calls : List Call) (seen : SocketSeen) → SendsBy Holds seen calls → SendsBy Other seen calls
sends_also Holds Other also [] seen sends = tt
sends_also Holds Other also (Sends to bytes ∷ calls) seen sends =
    (some_also (λ now. Holds now (to, bytes)) (λ now. Other now (to, bytes)) seen.latest (λ now. also now (to, bytes)) sends.0, sends_also Holds Other also calls seen sends.1)
sends_also Holds Other also (call ∷ calls) seen sends = sends_also Holds Other also calls (seen_with call seen) sends

-- ---- in a life before which nothing waits

module _ {State Input : Type 0} (kind : Kind State Input) (in_time : AllInTime kind) (comings : List (ℕ × Coming)) (first : Standing State) (none : first.course.waiting ≡ []) where
  abbrev Handed : ℕ → Addressed → Type 0
  Handed = WasHandedOut kind (came kind comings first) first.state

  handed_out : (now : ℕ) (datagram : Addressed) → SentInTime kind comings first now datagram → Handed now datagram
  handed_out now datagram sent =
      let handed = handed_by kind (came kind comings first) first.state in
      record {
        since = sent.since;
        in_time = sent.in_time;
        handed = subst (λ (waiting : List Waiting). IsIn (sent.since, datagram) (map (λ (one : Waiting). (one.since, one.datagram)) waiting ++ handed)) none sent.handed;
      }

  pub life_sends : (seen : SocketSeen) → SendsBy Handed seen (all_come kind comings first).0
  life_sends seen =
      let calls = (all_come kind comings first).0 in
      any_seen Handed calls first.course.seen seen (all_first kind comings first) (sends_also (SentInTime kind comings first) Handed handed_out calls first.course.seen (in_time comings first))

  -- with what was called before the node was made
  pub record_sends : (ended : Bool) (read new : Told) (now : ℕ) (earlier : List Call) (called : WasCalled ended read new (all_come kind comings first).0) → SendsBy Handed nothing_seen earlier
      → SendsBy Handed nothing_seen ((earlier ++ Reads now ∷ []) ++ calls_in ended read new (all_come kind comings first).0 called)
  record_sends ended read new now earlier called before =
      sends_then Handed (earlier ++ Reads now ∷ []) (calls_in ended read new (all_come kind comings first).0 called) nothing_seen
      (sends_then Handed earlier (Reads now ∷ []) nothing_seen before (λ seen. tt))
      (called_sends Handed ended read new (all_come kind comings first).0 called life_sends)

-- ---- before a controller is made nothing is sent

opening_hands : (inputs : List (ℕ × Opens)) (opening : Opening) → handed_by opening_kind inputs opening ≡ []
opening_hands [] opening = refl
opening_hands (one ∷ others) opening = opening_hands others (opened_by one.1 opening)

none_before : {A : Type 0} (before after : List A) (one : A) → [] ≡ before ++ one ∷ after → ⊥
none_before [] after one e = cc
none_before (first ∷ before) after one e = cc

none_in : {A : Type 0} (one : A) → IsIn one [] → ⊥
none_in one is = none_before is.before is.after one is.all_are

pub opening_sends : AllInTime opening_kind → (Holds : ℕ → Addressed → Type 0) (site : Site) (equipment : Equipment) (comings : List (ℕ × Coming))
    → SendsBy Holds nothing_seen (all_come opening_kind comings (standing (untold site equipment) first_course)).0
opening_sends in_time Holds site equipment comings =
    let first : Standing Opening = standing (untold site equipment) first_course in
    sends_also (SentInTime opening_kind comings first) Holds
    (λ now datagram sent. absurd (none_in (sent.since, datagram) (subst (IsIn (sent.since, datagram)) (opening_hands (came opening_kind comings first) first.state) sent.handed)))
    (all_come opening_kind comings first).0 nothing_seen (in_time comings first)
