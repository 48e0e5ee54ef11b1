-- What a step of the interlocking leaves as it was, and what it calls its links to: it receives what comes, then says something
-- or closes links, and in a tick each of its links ticks and opens.
use Rattle.simulator_recovery.proofs.Words.Basics.{◌≡◌, ℕ, zero, suc, ◌<◌, ◌≤◌, Bool, true, false, List, [], ◌∷◌, ◌++◌, append_assoc, append-nil, length, map, Option, Some, None, slice_get, refl, sym, ap, subst, ◌∙◌, if◌then◌else◌, arith, ◌&&◌, ◌||◌}
use Rattle.simulator_recovery.proofs.Words.Links.{Each, reading, Key}
use Rattle.simulator_recovery.proofs.Words.Interlockings.{LinkCall, Opens, Receives, Ticks, begun, hearing, commanded_by, moved_at_once, obeyed, refusal, count, ended, ending_authority, freed_by_cancel, freed_by_passage, freeing_by_cancel, freeing_by_passage, freeing_next, frees_cancelled, frees_next, is_move_due, is_proceed_due, is_proceeding, is_stop_due, is_withdrawn, moved, moving, moving_one, proceeding, repeated, ruled, stopped, withdrawing, withdrawn, IxlState, KnownDetectorState, KnownPointState, KnownSignalState, RouteState, changed, Commands, Datagram, Input, Tick, addressed, all_clocked, detector_hearing, detector_ticking, given, known_point_hearing, known_point_ticking, known_signal_hearing, known_signal_ticking, looking, looking_by, looks, node_hearing, occupied_heard, stepped, ticked, watching, Detector, Node, Point, Signal, StepSoFar, along, at_route, detector_after, giving_aspect, giving_move, noted, over, with_detector, with_one, with_route, Need, Row, Table, Command, Refusal}
use Rattle.simulator_spec.specs.ixl_client.declared.command.Command.{Command as ClientCommand}
use Rattle.simulator_recovery.proofs.Lemmas.Ground.ClientCalls.{IsSaid, commanding_calls, hearing_calls, ticking_calls}
use Rattle.simulator_recovery.proofs.Lemmas.Ground.EndCalls.{Grows, at_place, each_both, each_mapped, grows_by, grows_none, grows_then, map_length}

-- ---- what stays

-- the same interlocking, with as many controllers
pub record Stays (old new : StepSoFar) : Type 0 where
  pub created : new.ixl.created ≡ old.ixl.created
  pub signals : length new.ixl.known_signals ≡ length old.ixl.known_signals
  pub points : length new.ixl.known_points ≡ length old.ixl.known_points
  pub detectors : length new.ixl.detectors ≡ length old.ixl.detectors

stays : (part : StepSoFar) → Stays part part
stays part = record { created = refl; signals = refl; points = refl; detectors = refl }

stays_then : (one two three : StepSoFar) → Stays one two → Stays two three → Stays one three
stays_then one two three first second = record {
  created = second.created ∙ first.created;
  signals = second.signals ∙ first.signals;
  points = second.points ∙ first.points;
  detectors = second.detectors ∙ first.detectors;
}

pub changed_length : {X : Type 0} (change : X → X) (place : ℕ) (list : List X) → length (changed change place list) ≡ length list
changed_length change place [] = refl
changed_length change zero (first ∷ others) = refl
changed_length change (suc place) (first ∷ others) = ap suc (changed_length change place others)

-- a client of the interlocking says something, or closes its link
abbrev pub IsSaidAt : Node × LinkCall → Type 0
IsSaidAt made = IsSaid made.1

-- A part of a step in which clients say something at most.
pub record GoesOn (old new : StepSoFar) : Type 0 where
  pub stays : Stays old new
  pub says : Grows IsSaidAt old.calls new.calls

goes : (part : StepSoFar) → GoesOn part part
goes part = record { stays = stays part; says = grows_none IsSaidAt part.calls }

goes_then : (one two three : StepSoFar) → GoesOn one two → GoesOn two three → GoesOn one three
goes_then one two three first second = record {
  stays = stays_then one two three first.stays second.stays;
  says = grows_then IsSaidAt one.calls two.calls three.calls first.says second.says;
}

-- ---- the shapes of a step

abbrev Goes : (StepSoFar → StepSoFar) → Type 0
Goes does = (part : StepSoFar) → GoesOn part (does part)

one_goes : {A : Type 0} (old : StepSoFar) (found : Option A) (does : A → StepSoFar → StepSoFar) (part : StepSoFar) → ((one : A) → GoesOn old (does one part)) → GoesOn old part → GoesOn old (with_one found does part)
one_goes old None does part each none = none
one_goes old (Some one) does part each none = each one

one_stays : {A : Type 0} (old : StepSoFar) (found : Option A) (does : A → StepSoFar → StepSoFar) (part : StepSoFar) → ((one : A) → Stays old (does one part)) → Stays old part → Stays old (with_one found does part)
one_stays old None does part each none = none
one_stays old (Some one) does part each none = each one

-- what is there is done something with
one_there : {A : Type 0} (P : StepSoFar → Type 0) (found : Option A) (does : A → StepSoFar → StepSoFar) (part : StepSoFar) (there : A) → found ≡ Some there → ((one : A) → P (does one part)) → P (with_one found does part)
one_there P found does part there is each = subst (λ (o : Option _). P (with_one o does part)) (sym is) (each there)

route_goes : (table : Table) (number : ℕ) (does : Row → RouteState → StepSoFar → StepSoFar) → ((row : Row) (route : RouteState) → Goes (does row route)) → Goes (at_route table number does)
unfolding at_route
route_goes table number does each part =
    one_goes part (slice_get table.rows number) (λ row part. with_one (slice_get part.ixl.routes number) (does row) part) part
    (λ row. one_goes part (slice_get part.ixl.routes number) (does row) part (λ route. each row route part) (goes part)) (goes part)

over_goes : (does : ℕ → StepSoFar → StepSoFar) → ((number : ℕ) → Goes (does number)) → (n : ℕ) → Goes (over does n)
over_goes does each zero part = goes part
over_goes does each (suc n) part = goes_then part (over does n part) (does n (over does n part)) (over_goes does each n part) (each n (over does n part))

along_goes : {A : Type 0} (does : A → StepSoFar → StepSoFar) → ((one : A) → Goes (does one)) → (list : List A) → Goes (along does list)
along_goes does each [] part = goes part
along_goes does each (first ∷ others) part = goes_then part (does first part) (along does others (does first part)) (each first part) (along_goes does each others (does first part))

repeated_goes : (n : ℕ) (does : StepSoFar → StepSoFar) → Goes does → Goes (repeated n does)
repeated_goes zero does each part = goes part
repeated_goes (suc n) does each part = goes_then part (does part) (repeated n does (does part)) (each part) (repeated_goes n does each (does part))

where_goes : (b : Bool) (part one : StepSoFar) → GoesOn part one → GoesOn part (if b then one else part)
where_goes true part one so = so
where_goes false part one so = goes part

with_route_goes : (number : ℕ) (change : RouteState → RouteState) → Goes (with_route number change)
with_route_goes number change part = record { stays = record { created = refl; signals = refl; points = refl; detectors = refl }; says = grows_none IsSaidAt part.calls }

-- ---- what is given

said_by : (node : Node) (calls : List LinkCall) (before : List (Node × LinkCall)) → Each IsSaid calls → Grows IsSaidAt before (before ++ map (λ call. (node, call)) calls)
said_by node calls before each = grows_by IsSaidAt before (map (λ call. (node, call)) calls) (each_mapped IsSaidAt (λ (call : LinkCall). (node, call)) calls each)

aspect_goes : (now signal : ℕ) (aspect : _) → Goes (giving_aspect now signal aspect)
unfolding giving_aspect
aspect_goes now signal aspect part = one_goes part (slice_get part.ixl.known_signals signal) _ part (λ known_signal. record {
  stays = record { created = refl; signals = changed_length _ signal part.ixl.known_signals; points = refl; detectors = refl };
  says = said_by (Signal signal) _ part.calls (commanding_calls now (ClientCommand.Indicate aspect) known_signal.client part.outbox);
}) (goes part)

move_goes : (now point : ℕ) (side : _) → Goes (giving_move now point side)
unfolding giving_move
move_goes now point side part = one_goes part (slice_get part.ixl.known_points point) _ part (λ known_point. record {
  stays = record { created = refl; signals = refl; points = changed_length _ point part.ixl.known_points; detectors = refl };
  says = said_by (Point point) _ part.calls (commanding_calls now (ClientCommand.Move side) known_point.client part.outbox);
}) (goes part)

-- ---- the rules

module _ (now : ℕ) (table : Table) where
  stopped_goes : (row : Row) → Goes (stopped now row)
  stopped_goes row part = where_goes _ part _ (aspect_goes now row.entry _ part)

  withdrawing_goes : (number : ℕ) → Goes (withdrawing now table number)
  unfolding withdrawing
  withdrawing_goes number = route_goes table number _ (λ row route part. where_goes (is_stop_due table part.ixl row route) part _
      (goes_then part _ _ (with_route_goes number _ part) (stopped_goes row _)))

  ending_goes : (number : ℕ) → Goes (ending_authority now table number)
  unfolding ending_authority
  ending_goes number = route_goes table number _ (λ row route part. where_goes _ part _ (with_route_goes number _ part))

  next_goes : (number : ℕ) → Goes (freeing_next table number)
  unfolding freeing_next
  next_goes number = route_goes table number _ (λ row route part. where_goes (frees_next table part.ixl row route route.phase) part _ (with_route_goes number _ part))

  passage_goes : (number : ℕ) → Goes (freeing_by_passage table number)
  unfolding freeing_by_passage
  passage_goes number = route_goes table number _ (λ row route. repeated_goes (length row.sections) (freeing_next table number) (next_goes number))

  cancel_goes : (number : ℕ) → Goes (freeing_by_cancel now table number)
  unfolding freeing_by_cancel
  cancel_goes number = route_goes table number _ (λ row route part. where_goes (route.cancelled && frees_cancelled now table part.ixl row route route.phase) part _ (with_route_goes number _ part))

  moving_one_goes : (number : ℕ) (need : Need) → Goes (moving_one now table number need)
  unfolding moving_one
  moving_one_goes number need = route_goes table number _ (λ row route part. where_goes (is_move_due table part.ixl number route need) part _ (move_goes now need.point need.side part))

  moving_goes : (number : ℕ) → Goes (moving now table number)
  unfolding moving
  moving_goes number = route_goes table number _ (λ row route. along_goes (moving_one now table number) (moving_one_goes number) row.needs)

  proceeding_goes : (number : ℕ) → Goes (proceeding now table number)
  unfolding proceeding
  proceeding_goes number = route_goes table number _ (λ row route part. where_goes (is_proceed_due now table part.ixl row route) part _
      (goes_then part _ _ (with_route_goes number _ part) (aspect_goes now row.entry row.aspect _)))

  watching_goes : (number : ℕ) → Goes (watching table number)
  unfolding watching
  watching_goes number = route_goes table number _ (λ row route part. where_goes (is_proceeding route.phase || is_withdrawn route.phase) part _ (with_route_goes number _ part))

  ruled_goes : Goes (ruled now table)
  ruled_goes part =
      goes_then part (moved now table part) (ruled now table part)
      (goes_then part (freed_by_cancel now table part) (moved now table part)
      (goes_then part (freed_by_passage now table part) (freed_by_cancel now table part)
      (goes_then part (ended now table part) (freed_by_passage now table part)
      (goes_then part (withdrawn now table part) (ended now table part)
      (over_goes (withdrawing now table) withdrawing_goes (count table) part)
      (over_goes (ending_authority now table) ending_goes (count table) (withdrawn now table part)))
      (over_goes (freeing_by_passage table) passage_goes (count table) (ended now table part)))
      (over_goes (freeing_by_cancel now table) cancel_goes (count table) (freed_by_passage now table part)))
      (over_goes (moving now table) moving_goes (count table) (freed_by_cancel now table part)))
      (over_goes (proceeding now table) proceeding_goes (count table) (moved now table part))

  -- ---- what is heard

  looking_by_goes : (section : ℕ) (occupied : Bool) (number : ℕ) → Goes (looking_by section occupied table number)
  unfolding looking_by
  looking_by_goes section occupied number = route_goes table number _ (λ row route part. where_goes _ part _ (with_route_goes number _ part))

  looking_goes : (look : ℕ × Bool) → Goes (looking table look)
  looking_goes look = over_goes (looking_by look.0 look.1 table) (looking_by_goes look.0 look.1) (count table)

  -- A datagram came to a client: it received this first.
  pub record Hears (node : Node) (bytes : List ℕ) (old new : StepSoFar) : Type 0 where
    pub stays : Stays old new
    pub more : List (Node × LinkCall)
    pub calls : new.calls ≡ old.calls ++ (node, Receives bytes) ∷ more
    pub each : Each IsSaidAt more

  hears_then : (node : Node) (bytes : List ℕ) (one two three : StepSoFar) → Hears node bytes one two → GoesOn two three → Hears node bytes one three
  hears_then node bytes one two three first second = record {
    stays = stays_then one two three first.stays second.stays;
    more = first.more ++ second.says.more;
    calls = second.says.are ∙ ap (λ (calls : List (Node × LinkCall)). calls ++ second.says.more) first.calls ∙ append_assoc one.calls ((node, Receives bytes) ∷ first.more) second.says.more;
    each = each_both IsSaidAt first.more second.says.more first.each second.says.each;
  }

  -- a client that is there, of which the table knows the sections if it is a detector's
  abbrev pub IsThere : Node → IxlState → Type 0
  IsThere (Signal place) ixl = (known_signal : KnownSignalState) × (slice_get ixl.known_signals place ≡ Some known_signal)
  IsThere (Point place) ixl = (known_point : KnownPointState) × (slice_get ixl.known_points place ≡ Some known_point)
  IsThere (Detector place) ixl = (sections : List ℕ) × (detector : KnownDetectorState) × (slice_get table.detectors place ≡ Some sections) × (slice_get ixl.detectors place ≡ Some detector)

  clocked_stays : (part : StepSoFar) → Stays part (record part { ixl = all_clocked now part.ixl })
  unfolding all_clocked
  clocked_stays part = record {
    created = refl;
    signals = map_length _ part.ixl.known_signals;
    points = map_length _ part.ixl.known_points;
    detectors = map_length _ part.ixl.detectors;
  }

  hearing_stays : (bytes : List ℕ) (node : Node) (part : StepSoFar) → Stays part (node_hearing now table bytes node part)
  unfolding node_hearing known_signal_hearing known_point_hearing detector_hearing
  hearing_stays bytes (Signal place) part = one_stays part (slice_get part.ixl.known_signals place) _ part
      (λ known_signal. record { created = refl; signals = changed_length _ place part.ixl.known_signals; points = refl; detectors = refl }) (stays part)
  hearing_stays bytes (Point place) part = one_stays part (slice_get part.ixl.known_points place) _ part
      (λ known_point. record { created = refl; signals = refl; points = changed_length _ place part.ixl.known_points; detectors = refl }) (stays part)
  hearing_stays bytes (Detector place) part = one_stays part (slice_get table.detectors place) _ part
      (λ sections. one_stays part (slice_get part.ixl.detectors place) _ part (λ detector.
      let done = hearing now bytes (begun detector.client part.outbox)
      in let heard = with_detector place (detector_after (occupied_heard done.heard detector.occupied) done.client) (noted (Detector place) done part)
      in stays_then part heard _ (record { created = refl; signals = refl; points = refl; detectors = changed_length _ place part.ixl.detectors })
      (along_goes (looking table) looking_goes (looks sections detector done.heard done.client) heard).stays) (stays part)) (stays part)

  heard_first : (bytes : List ℕ) (node : Node) (calls others : List LinkCall) (before : List (Node × LinkCall)) → calls ≡ Receives bytes ∷ others
      → before ++ map (λ call. (node, call)) calls ≡ before ++ (node, Receives bytes) ∷ map (λ call. (node, call)) others
  heard_first bytes node calls others before are = ap (λ (cs : List LinkCall). before ++ map (λ call. (node, call)) cs) are

  node_hears : (bytes : List ℕ) (node : Node) (part : StepSoFar) → IsThere node part.ixl → Hears node bytes part (node_hearing now table bytes node part)
  unfolding node_hearing known_signal_hearing known_point_hearing detector_hearing
  node_hears bytes (Signal place) part there = one_there (Hears (Signal place) bytes part) (slice_get part.ixl.known_signals place) _ part there.0 there.1 (λ known_signal.
      let heard = hearing_calls now bytes known_signal.client part.outbox
      in record {
        stays = record { created = refl; signals = changed_length _ place part.ixl.known_signals; points = refl; detectors = refl };
        more = map (λ call. (Signal place, call)) heard.0;
        calls = heard_first bytes (Signal place) _ heard.0 part.calls heard.1.1;
        each = each_mapped IsSaidAt (λ (call : LinkCall). (Signal place, call)) heard.0 heard.1.0;
      })
  node_hears bytes (Point place) part there = one_there (Hears (Point place) bytes part) (slice_get part.ixl.known_points place) _ part there.0 there.1 (λ known_point.
      let heard = hearing_calls now bytes known_point.client part.outbox
      in record {
        stays = record { created = refl; signals = refl; points = changed_length _ place part.ixl.known_points; detectors = refl };
        more = map (λ call. (Point place, call)) heard.0;
        calls = heard_first bytes (Point place) _ heard.0 part.calls heard.1.1;
        each = each_mapped IsSaidAt (λ (call : LinkCall). (Point place, call)) heard.0 heard.1.0;
      })
  node_hears bytes (Detector place) part (sections_there, detector_there, known, found) =
      one_there (Hears (Detector place) bytes part) (slice_get table.detectors place) _ part sections_there known
      (λ sections. one_there (Hears (Detector place) bytes part) (slice_get part.ixl.detectors place) _ part detector_there found (λ detector.
      let heard = hearing_calls now bytes detector.client part.outbox
      in let done = hearing now bytes (begun detector.client part.outbox)
      in let noted_so = with_detector place (detector_after (occupied_heard done.heard detector.occupied) done.client) (noted (Detector place) done part)
      in hears_then (Detector place) bytes part noted_so _
      (record {
        stays = record { created = refl; signals = refl; points = refl; detectors = changed_length _ place part.ixl.detectors };
        more = map (λ call. (Detector place, call)) heard.0;
        calls = heard_first bytes (Detector place) _ heard.0 part.calls heard.1.1;
        each = each_mapped IsSaidAt (λ (call : LinkCall). (Detector place, call)) heard.0 heard.1.0;
      }) (along_goes (looking table) looking_goes (looks sections detector done.heard done.client) noted_so)))

  -- ---- the input

  obeyed_created : (command : Command) (ixl : IxlState) → (obeyed now command ixl).created ≡ ixl.created
  unfolding obeyed
  obeyed_created (Command.Request route) ixl = refl
  obeyed_created (Command.Cancel route) ixl = refl
  obeyed_created Command.Resume ixl = refl
  obeyed_created (Command.Release route) ixl = refl
  obeyed_created (Command.Move point side) ixl = refl
  obeyed_created (Command.Close named) ixl = refl
  obeyed_created (Command.Open named) ixl = refl

  -- the same controllers
  abbrev SameSize : IxlState → IxlState → Type 0
  SameSize old new = (length new.known_signals ≡ length old.known_signals) × (length new.known_points ≡ length old.known_points) × (length new.detectors ≡ length old.detectors)

  obeyed_size : (command : Command) (ixl : IxlState) → SameSize ixl (obeyed now command ixl)
  unfolding obeyed
  obeyed_size (Command.Request route) ixl = (refl, map_length _ ixl.known_points, refl)
  obeyed_size (Command.Cancel route) ixl = (refl, refl, refl)
  obeyed_size Command.Resume ixl = (refl, refl, refl)
  obeyed_size (Command.Release route) ixl = (refl, refl, refl)
  obeyed_size (Command.Move point side) ixl = (refl, refl, refl)
  obeyed_size (Command.Close named) ixl = (refl, refl, refl)
  obeyed_size (Command.Open named) ixl = (refl, refl, refl)

  commanded_goes : (cause : Option Refusal) (command : Command) (part : StepSoFar) → GoesOn part (record part { ixl = commanded_by now cause command part.ixl })
  commanded_goes None command part =
      let size = obeyed_size command part.ixl
      in record { stays = record { created = obeyed_created command part.ixl; signals = size.0; points = size.1; detectors = size.2 }; says = grows_none IsSaidAt part.calls }
  commanded_goes (Some cause) command part = goes part

  -- a move that isn't refused is given behind it
  moved_goes : (cause : Option Refusal) (command : Command) (part : StepSoFar) → GoesOn part (moved_at_once now cause command part)
  unfolding moved_at_once
  moved_goes (Some cause) command part = goes part
  moved_goes None (Command.Move point side) part = move_goes now point.0 side part
  moved_goes None (Command.Request route) part = goes part
  moved_goes None (Command.Cancel route) part = goes part
  moved_goes None Command.Resume part = goes part
  moved_goes None (Command.Release route) part = goes part
  moved_goes None (Command.Close named) part = goes part
  moved_goes None (Command.Open named) part = goes part

  command_goes : (command : Command) (part : StepSoFar) → GoesOn part (moved_at_once now (refusal now table command part.ixl) command (record part { ixl = commanded_by now (refusal now table command part.ixl) command part.ixl }))
  command_goes command part =
      goes_then part _ _ (commanded_goes (refusal now table command part.ixl) command part)
      (moved_goes (refusal now table command part.ixl) command (record part { ixl = commanded_by now (refusal now table command part.ixl) command part.ixl }))

  given_stays : (key : Key) (input : Input) (part : StepSoFar) → Stays part (given now table key input part)
  unfolding given
  given_stays key Tick part = stays part
  given_stays key (Datagram bytes) part = one_stays part (addressed (reading key bytes) part.ixl) (node_hearing now table bytes) part (λ node. hearing_stays bytes node part) (stays part)
  given_stays key (Commands command) part = (command_goes command part).stays

  -- ---- ticks

  -- a link ticks and opens
  abbrev pub tick_of : Node → List (Node × LinkCall)
  tick_of node = (node, Ticks) ∷ (node, Opens) ∷ []

  -- so do those of the first controllers of a kind
  abbrev pub ticks_of : (ℕ → Node) → ℕ → List (Node × LinkCall)
  ticks_of node zero = []
  ticks_of node (suc n) = ticks_of node n ++ tick_of (node n)

  record TicksBy (calls : List (Node × LinkCall)) (old new : StepSoFar) : Type 0 where
    stays : Stays old new
    calls_are : new.calls ≡ old.calls ++ calls

  ticks_then : (some others : List (Node × LinkCall)) (one two three : StepSoFar) → TicksBy some one two → TicksBy others two three → TicksBy (some ++ others) one three
  ticks_then some others one two three first second = record {
    stays = stays_then one two three first.stays second.stays;
    calls_are = second.calls_are ∙ ap (λ (calls : List (Node × LinkCall)). calls ++ others) first.calls_are ∙ append_assoc one.calls some others;
  }

  ticked_calls : (node : Node) (calls : List LinkCall) (before : List (Node × LinkCall)) → calls ≡ Ticks ∷ Opens ∷ [] → before ++ map (λ call. (node, call)) calls ≡ before ++ tick_of node
  ticked_calls node calls before are = ap (λ (cs : List LinkCall). before ++ map (λ call. (node, call)) cs) are

  signal_ticks : (place : ℕ) (part : StepSoFar) → place < length part.ixl.known_signals → TicksBy (tick_of (Signal place)) part (known_signal_ticking now place part)
  unfolding known_signal_ticking
  signal_ticks place part few =
      let found = at_place part.ixl.known_signals place few
      in one_there (TicksBy (tick_of (Signal place)) part) (slice_get part.ixl.known_signals place) _ part found.0 found.1 (λ known_signal. record {
        stays = record { created = refl; signals = changed_length _ place part.ixl.known_signals; points = refl; detectors = refl };
        calls_are = ticked_calls (Signal place) _ part.calls (ticking_calls now known_signal.client part.outbox);
      })

  point_ticks : (place : ℕ) (part : StepSoFar) → place < length part.ixl.known_points → TicksBy (tick_of (Point place)) part (known_point_ticking now place part)
  unfolding known_point_ticking
  point_ticks place part few =
      let found = at_place part.ixl.known_points place few
      in one_there (TicksBy (tick_of (Point place)) part) (slice_get part.ixl.known_points place) _ part found.0 found.1 (λ known_point. record {
        stays = record { created = refl; signals = refl; points = changed_length _ place part.ixl.known_points; detectors = refl };
        calls_are = ticked_calls (Point place) _ part.calls (ticking_calls now known_point.client part.outbox);
      })

  detector_ticks : (place : ℕ) (part : StepSoFar) → place < length part.ixl.detectors → TicksBy (tick_of (Detector place)) part (detector_ticking now place part)
  unfolding detector_ticking
  detector_ticks place part few =
      let found = at_place part.ixl.detectors place few
      in one_there (TicksBy (tick_of (Detector place)) part) (slice_get part.ixl.detectors place) _ part found.0 found.1 (λ detector. record {
        stays = record { created = refl; signals = refl; points = refl; detectors = changed_length _ place part.ixl.detectors };
        calls_are = ticked_calls (Detector place) _ part.calls (ticking_calls now detector.client part.outbox);
      })

  -- all controllers of a kind
  over_ticks : (node : ℕ → Node) (does : ℕ → StepSoFar → StepSoFar) (size : IxlState → ℕ) → ((old new : StepSoFar) → Stays old new → size new.ixl ≡ size old.ixl)
      → ((place : ℕ) (part : StepSoFar) → place < size part.ixl → TicksBy (tick_of (node place)) part (does place part))
      → (n : ℕ) (part : StepSoFar) → n ≤ size part.ixl → TicksBy (ticks_of node n) part (over does n part)
  over_ticks node does size same one zero part few = record { stays = stays part; calls_are = sym (append-nil part.calls) }
  over_ticks node does size same one (suc n) part few =
      let before = over_ticks node does size same one n part (omega (arith, few))
      in let as_many = same part (over does n part) before.stays
      in ticks_then (ticks_of node n) (tick_of (node n)) part (over does n part) (does n (over does n part)) before (one n (over does n part) (omega (arith, few, as_many)))

  -- those of all
  abbrev pub all_ticks : IxlState → List (Node × LinkCall)
  all_ticks ixl = ticks_of Signal (length ixl.known_signals) ++ (ticks_of Point (length ixl.known_points) ++ ticks_of Detector (length ixl.detectors))

  ticked_ticks : (part : StepSoFar) → TicksBy (all_ticks part.ixl) part (ticked now Tick part)
  unfolding ticked
  ticked_ticks part =
      let signals = over_ticks Signal (known_signal_ticking now) (λ ixl. length ixl.known_signals) (λ old new s. s.signals) signal_ticks (length part.ixl.known_signals) part (omega arith)
      in let one = over (known_signal_ticking now) (length part.ixl.known_signals) part
      in let same = signals.stays.points
      in let points = over_ticks Point (known_point_ticking now) (λ ixl. length ixl.known_points) (λ old new s. s.points) point_ticks (length part.ixl.known_points) one (omega (arith, same))
      in let two = over (known_point_ticking now) (length part.ixl.known_points) one
      in let same_one = signals.stays.detectors
      in let same_two = points.stays.detectors
      in let detectors = over_ticks Detector (detector_ticking now) (λ ixl. length ixl.detectors) (λ old new s. s.detectors) detector_ticks (length part.ixl.detectors) two (omega (arith, same_one, same_two))
      in ticks_then (ticks_of Signal (length part.ixl.known_signals)) _ part one _ signals
      (ticks_then (ticks_of Point (length part.ixl.known_points)) (ticks_of Detector (length part.ixl.detectors)) one two _ points detectors)

  ticked_stays : (input : Input) (part : StepSoFar) → Stays part (ticked now input part)
  unfolding ticked
  ticked_stays Tick part = (ticked_ticks part).stays
  ticked_stays (Datagram bytes) part = stays part
  ticked_stays (Commands command) part = stays part

  -- ---- the step

  module _ (key : Key) (part : StepSoFar) where
    abbrev clocked : StepSoFar
    clocked = record part { ixl = all_clocked now part.ixl }

    abbrev seen_so : Input → StepSoFar
    seen_so input = over (watching table) (count table) (given now table key input clocked)

    ruled_so : (input : Input) → GoesOn (given now table key input clocked) (ruled now table (seen_so input))
    ruled_so input = goes_then (given now table key input clocked) (seen_so input) (ruled now table (seen_so input))
        (over_goes (watching table) watching_goes (count table) (given now table key input clocked)) (ruled_goes (seen_so input))

    before_ticks : (input : Input) → Stays part (ruled now table (seen_so input))
    before_ticks input = stays_then part (given now table key input clocked) (ruled now table (seen_so input))
        (stays_then part clocked (given now table key input clocked) (clocked_stays part) (given_stays key input clocked)) (ruled_so input).stays

    pub step_stays : (input : Input) → Stays part (stepped now table key input part)
    unfolding stepped
    step_stays input = stays_then part (ruled now table (seen_so input)) _ (before_ticks input) (ticked_stays input (ruled now table (seen_so input)))

    -- a command: something is said at most
    pub command_says : (command : Command) → Grows IsSaidAt part.calls (stepped now table key (Commands command) part).calls
    unfolding stepped given ticked
    command_says command = grows_then IsSaidAt part.calls _ _ (command_goes command clocked).says (ruled_so (Commands command)).says

    -- a datagram: the client that it is for receives it first
    pub datagram_hears : (bytes : List ℕ) (node : Node) → addressed (reading key bytes) (all_clocked now part.ixl) ≡ Some node → IsThere node (all_clocked now part.ixl)
        → (more : List (Node × LinkCall)) × (Each IsSaidAt more × ((stepped now table key (Datagram bytes) part).calls ≡ part.calls ++ (node, Receives bytes) ∷ more))
    unfolding stepped given ticked
    datagram_hears bytes node is there =
        let heard = subst (λ (found : Option Node). Hears node bytes clocked (with_one found (node_hearing now table bytes) clocked)) (sym is) (node_hears bytes node clocked there)
        in let all = hears_then node bytes clocked (given now table key (Datagram bytes) clocked) (ruled now table (seen_so (Datagram bytes))) heard (ruled_so (Datagram bytes))
        in (all.more, (all.each, all.calls))

    -- a datagram that comes to no client: something is said at most
    pub others_say : (bytes : List ℕ) → given now table key (Datagram bytes) clocked ≡ clocked → Grows IsSaidAt part.calls (stepped now table key (Datagram bytes) part).calls
    unfolding stepped ticked
    others_say bytes none = grows_then IsSaidAt part.calls _ _ (subst (λ (heard : StepSoFar). Grows IsSaidAt part.calls heard.calls) (sym none) (grows_none IsSaidAt part.calls)) (ruled_so (Datagram bytes)).says

    -- a tick: something is said at most, and then all links tick and open
    pub tick_ticks : (front : List (Node × LinkCall)) × (Each IsSaidAt front × ((stepped now table key Tick part).calls ≡ (part.calls ++ front) ++ all_ticks part.ixl))
    unfolding stepped given
    tick_ticks =
        let before = before_ticks Tick
        in let ruled_now = ruled now table (seen_so Tick)
        in let says = (ruled_so Tick).says
        in (says.more, (says.each, (ticked_ticks ruled_now).calls_are ∙ two (all_same part.ixl ruled_now.ixl before.signals before.points before.detectors) says.are))
      where
        two : {a b c d : List (Node × LinkCall)} → a ≡ b → c ≡ d → c ++ a ≡ d ++ b
        two e f = cc (e, f)

        all_same : (old new : IxlState) → length new.known_signals ≡ length old.known_signals → length new.known_points ≡ length old.known_points → length new.detectors ≡ length old.detectors → all_ticks new ≡ all_ticks old
        all_same old new one other third = rw (one, other, third) refl
