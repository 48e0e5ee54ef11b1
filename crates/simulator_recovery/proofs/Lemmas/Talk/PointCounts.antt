-- A point's host gives at most two items more than it has acted on: the whole initialisation for the check and the request, and one
-- report for each move.
use Rattle.simulator_recovery.proofs.Words.Basics.{◌≡◌, ℕ, zero, suc, ◌∙◌, ◌+◌, ◌≤◌, Bool, true, false, not, ◌&&◌, ◌==◌, List, [], ◌∷◌, ◌++◌, length, Option, Some, None, Result, Ok, Err, if◌then◌else◌, refl, sym, ap, subst, arith, is_ok, nat_le, false≢true, length-append, none-some}
use Rattle.simulator_recovery.proofs.Words.Links.{answer_to_send, receiving, settled, LinkState, is_open}
use Rattle.simulator_recovery.proofs.Words.Controllers.{reading, SciFault, NoMatch, Match, InitialisationCompleted, InitialisationRequest, StartInitialisation, VersionAnswer, VersionCheck, Message, Position, Telegram, HostSoFar, HostState, at_stage, fallen, is_completed, is_outside, keeping, risen, said, silent, then_do, calls_made, items_given, meaning, acting, acting_all, answering, beating, beginning, commanding, ending, following, given as given_in, goes_on, hearing, host_step, initial_status, initialising, is_admitted, most_objects, most_owed, paid, paying, paying_first, posting, posting_all, received, telling_status, violating, item_of, Input, Report, Sense, Stage, point_behaviour, PointState, answered, drive_end, final_report, is_at, limited, reached, sensing, taking, ticking, unanswered, Progress}
use Rattle.simulator_spec.specs.object_host.Meaning.{commanding as by_stage}
use Rattle.simulator_spec.specs.point_ctl.Drive as drive
use Rattle.simulator_spec.specs.point_ctl.Drive.{losing}
use Rattle.simulator_recovery.proofs.Lemmas.Talk.HostLinks.{risen_same}
use Rattle.simulator_recovery.proofs.Lemmas.Talk.HostSaid.{items_both, made_both}
use Rattle.simulator_recovery.proofs.Lemmas.Talk.Standing.{point_tells, points_tell}

-- ---- what waits

-- whether a move waits for its report
abbrev pub waits : PointState → ℕ
waits point = unanswered point.progress

pub one_at_most : (how : Progress) → unanswered how ≤ 1
one_at_most Progress.Answered = omega arith
one_at_most (Progress.Driving side since) = omega arith
one_at_most Progress.Arrived = omega arith
one_at_most Progress.TimedOut = omega arith

-- a move more at most
taken_waits : (now : ℕ) (telegram : Telegram) (point : PointState) → waits (taking now telegram point) ≤ waits point + 1
taken_waits now telegram point = let most = one_at_most (taking now telegram point).progress in omega (arith, most)

limited_same : (now : ℕ) (how : Progress) → unanswered (limited now how) ≡ unanswered how
limited_same now Progress.Answered = refl
limited_same now (Progress.Driving side since) = choose (nat_le (drive_end since) now)
  where
    choose : (b : Bool) → unanswered (if b then Progress.TimedOut else Progress.Driving side since) ≡ 1
    choose true = refl
    choose false = refl
limited_same now Progress.Arrived = refl
limited_same now Progress.TimedOut = refl

reached_same : (position : Position) (how : Progress) → unanswered (reached position how) ≡ unanswered how
reached_same position Progress.Answered = refl
reached_same position (Progress.Driving side since) = choose (is_at side position)
  where
    choose : (b : Bool) → unanswered (if b then Progress.Arrived else Progress.Driving side since) ≡ 1
    choose true = refl
    choose false = refl
reached_same position Progress.Arrived = refl
reached_same position Progress.TimedOut = refl

sensed_same : (now : ℕ) (contact : Sense) (point : PointState) → waits (sensing now contact point) ≡ waits point
sensed_same now (Sense.Position position) point = reached_same position (limited now point.progress) ∙ limited_same now point.progress
sensed_same now (Sense.Section place occupancy) point = refl

-- a report that was owed answers a move
owed_waits : (how : Progress) (point : PointState) (report : Report) → final_report how point ≡ Some report → unanswered how ≡ unanswered (answered how) + 1
owed_waits Progress.Answered point report e = absurd (none-some report e)
owed_waits (Progress.Driving side since) point report e = absurd (none-some report e)
owed_waits Progress.Arrived point report e = refl
owed_waits Progress.TimedOut point report e = refl

-- ---- by the stage

-- how many items a point's host has given, where it has taken so many, and so many moves wait for their reports
abbrev pub Within : Stage → (given taken waiting : ℕ) → Type 0
Within Stage.Outside given taken waiting = (given ≡ 0) × (waiting ≡ 0)
Within Stage.AwaitsCheck given taken waiting = (given ≡ 0) × (waiting ≡ 0)
Within Stage.AwaitsRequest given taken waiting = (given ≤ 1) × (1 ≤ taken) × (waiting ≡ 0)
Within Stage.Completed given taken waiting = given + waiting ≤ 2 + taken
Within Stage.Refused given taken waiting = (given ≤ 1) × (waiting ≡ 0)

pub within_more : (s : Stage) (given taken waiting more : ℕ) → taken ≤ more → Within s given taken waiting → Within s given more waiting
within_more Stage.Outside given taken waiting more few has = has
within_more Stage.AwaitsCheck given taken waiting more few has = has
within_more Stage.AwaitsRequest given taken waiting more few (a, b, c) = (a, omega (arith, b, few), c)
within_more Stage.Completed given taken waiting more few has = omega (arith, has, few)
within_more Stage.Refused given taken waiting more few has = has

-- in any case
pub within_ever : (s : Stage) (given taken waiting : ℕ) → Within s given taken waiting → given + waiting ≤ 2 + taken
within_ever Stage.Outside given taken waiting (a, b) = omega (arith, a, b)
within_ever Stage.AwaitsCheck given taken waiting (a, b) = omega (arith, a, b)
within_ever Stage.AwaitsRequest given taken waiting (a, b, c) = omega (arith, a, c)
within_ever Stage.Completed given taken waiting has = has
within_ever Stage.Refused given taken waiting (a, b) = omega (arith, a, b)

-- before the initialisation is completed no move waits
pub within_idle : (s : Stage) (given taken waiting : ℕ) → is_completed s ≡ false → Within s given taken waiting → waiting ≡ 0
within_idle Stage.Outside given taken waiting e (a, b) = b
within_idle Stage.AwaitsCheck given taken waiting e (a, b) = b
within_idle Stage.AwaitsRequest given taken waiting e (a, b, c) = c
within_idle Stage.Completed given taken waiting e has = absurd (false≢true (sym e))
within_idle Stage.Refused given taken waiting e (a, b) = b

module _ (now : ℕ) where
  -- ---- parts of a step

  -- so many items were given by these calls
  abbrev gave : HostState PointState → HostSoFar PointState → ℕ
  gave host part = length (items_given now part.calls host.link)

  -- A part of a step that acts on so many items at most counts on.
  pub record Keeps (given taken most : ℕ) (host : HostState PointState) (part : HostSoFar PointState) : Type 0 where
    pub made : part.host.link ≡ (calls_made now part.calls host.link).link
    pub few : length part.acted ≤ most
    pub within : Within part.host.stage (given + gave host part) (taken + length part.acted) (waits part.host.object)

  gave_both : (host : HostState PointState) (first : HostSoFar PointState) (next : HostState PointState → HostSoFar PointState) → first.host.link ≡ (calls_made now first.calls host.link).link
      → gave host (then_do first next) ≡ gave host first + gave first.host (next first.host)
  gave_both host first next made = ap length (items_both now first.calls (next first.host).calls host.link)
      ∙ ap (λ (l : LinkState). length (items_given now first.calls host.link ++ items_given now (next first.host).calls l)) (sym made)
      ∙ length-append (items_given now first.calls host.link) (items_given now (next first.host).calls first.host.link)

  keeps_then : (given taken one_most other_most most : ℕ) (host : HostState PointState) (first : HostSoFar PointState) (next : HostState PointState → HostSoFar PointState) → one_most + other_most ≤ most → Keeps given taken one_most host first
      → Keeps (given + gave host first) (taken + length first.acted) other_most first.host (next first.host) → Keeps given taken most host (then_do first next)
  keeps_then given taken one_most other_most most host first next fits one other = record {
    made = other.made ∙ ap (λ (l : LinkState). (calls_made now (next first.host).calls l).link) one.made ∙ sym (made_both now first.calls (next first.host).calls host.link);
    few = let t = length-append first.acted (next first.host).acted in let a = one.few in let b = other.few in omega (arith, t, a, b, fits);
    within = let g = gave_both host first next one.made in let t = length-append first.acted (next first.host).acted in
        subst (λ (n : ℕ). Within (next first.host).host.stage n (taken + length (first.acted ++ (next first.host).acted)) (waits (next first.host).host.object)) (sums given (gave host first) (gave first.host (next first.host)) (gave host (then_do first next)) g)
        (subst (λ (n : ℕ). Within (next first.host).host.stage ((given + gave host first) + gave first.host (next first.host)) n (waits (next first.host).host.object))
        (sums taken (length first.acted) (length (next first.host).acted) (length (first.acted ++ (next first.host).acted)) t) other.within);
  }
    where
      sums : (a b c d : ℕ) → d ≡ b + c → (a + b) + c ≡ a + d
      sums a b c d e = omega (arith, e)

  none_more : (n : ℕ) → n ≡ n + 0
  none_more n = omega arith

  -- nothing is called
  keeps_none : (given taken most : ℕ) (host after : HostState PointState) → after.link ≡ host.link → Within after.stage given taken (waits after.object) → Keeps given taken most host (silent after)
  unfolding items_given calls_made
  keeps_none given taken most host after same has = record {
    made = same;
    few = omega arith;
    within = subst (λ (n : ℕ). Within after.stage n (taken + 0) (waits after.object)) (none_more given) (subst (λ (n : ℕ). Within after.stage given n (waits after.object)) (none_more taken) has);
  }

  keeps_closed : (given taken most : ℕ) (host : HostState PointState) → Within host.stage given taken (waits host.object) → Keeps given taken most host (violating now host)
  unfolding violating items_given calls_made
  keeps_closed given taken most host has = record {
    made = refl;
    few = omega arith;
    within = subst (λ (n : ℕ). Within host.stage n (taken + 0) (waits host.object)) (none_more given) (subst (λ (n : ℕ). Within host.stage given n (waits host.object)) (none_more taken) has);
  }

  -- ---- reports

  -- A part of a step gives so many items at most, and does nothing else.
  record Posts (many : ℕ) (host : HostState PointState) (part : HostSoFar PointState) : Type 0 where
    made : part.host.link ≡ (calls_made now part.calls host.link).link
    few : gave host part ≤ many
    stage_is : part.host.stage ≡ host.stage
    object_is : part.host.object ≡ host.object
    acted : part.acted ≡ []

  posts_then : (one other both : ℕ) (host : HostState PointState) (first : HostSoFar PointState) (next : HostState PointState → HostSoFar PointState) → one + other ≤ both → Posts one host first → Posts other first.host (next first.host)
      → Posts both host (then_do first next)
  posts_then one other both host first next fits a b = record {
    made = b.made ∙ ap (λ (l : LinkState). (calls_made now (next first.host).calls l).link) a.made ∙ sym (made_both now first.calls (next first.host).calls host.link);
    few = let g = gave_both host first next a.made in let f = a.few in let s = b.few in omega (arith, g, f, s, fits);
    stage_is = b.stage_is ∙ a.stage_is;
    object_is = b.object_is ∙ a.object_is;
    acted = ap (λ (l : List (List ℕ)). l ++ (next first.host).acted) a.acted ∙ b.acted;
  }

  posts_one : (report : Report) (host : HostState PointState) → Posts 1 host (posting now report host)
  unfolding posting calls_made items_given
  posts_one report host = record { made = refl; few = choose (is_ok (answer_to_send now host.link)); stage_is = refl; object_is = refl; acted = refl }
    where
      choose : (b : Bool) → length ((if b then item_of host report ∷ [] else []) ++ []) ≤ 1
      choose true = omega arith
      choose false = omega arith

  posts_all : (reports : List Report) (host : HostState PointState) → Posts (length reports) host (posting_all now reports host)
  unfolding posting_all calls_made items_given
  posts_all [] host = record { made = refl; few = omega arith; stage_is = refl; object_is = refl; acted = refl }
  posts_all (first ∷ others) host = posts_then 1 (length others) (length (first ∷ others)) host (posting now first host) (posting_all now others) (omega arith) (posts_one first host) (posts_all others (posting now first host).host)

  -- the whole initialisation of a point
  initialising_posts : (host : HostState PointState) → Posts 3 host (then_do (then_do (posting now (said point_behaviour StartInitialisation) host) (telling_status point_behaviour now)) (posting now (said point_behaviour InitialisationCompleted)))
  initialising_posts host = posts_then 2 1 3 host (then_do start (telling_status point_behaviour now)) (posting now (said point_behaviour InitialisationCompleted)) (omega arith)
      (posts_then 1 1 2 host start (telling_status point_behaviour now) (omega arith) (posts_one (said point_behaviour StartInitialisation) host) (states start.host)) (posts_one (said point_behaviour InitialisationCompleted) _)
    where
      start : HostSoFar PointState
      start = posting now (said point_behaviour StartInitialisation) host

      states : (h : HostState PointState) → Posts 1 h (telling_status point_behaviour now h)
      states h = subst (λ (n : ℕ). Posts n h (telling_status point_behaviour now h)) (point_tells h.object) (posts_all (initial_status point_behaviour most_objects 0 h.object) h)

  -- ---- one item

  -- an item that is answered
  posted_on : (given taken many : ℕ) (item : List ℕ) (told : List Telegram) (after : Stage) (host : HostState PointState) (part : HostSoFar PointState) → Posts many host part
      → ((more : ℕ) → more ≤ many → Within after (given + more) (taken + 1) (waits host.object)) → Keeps given taken 1 host (record (at_stage after part) { acted = item ∷ []; told = told })
  posted_on given taken many item told after host part posts enough = record {
    made = posts.made;
    few = omega arith;
    within = subst (λ (p : PointState). Within after (given + gave host part) (taken + 1) (waits p)) (sym posts.object_is) (enough (gave host part) posts.few);
  }

  answers : (given taken : ℕ) (item : List ℕ) (telegram : Telegram) (version : ℕ) (host : HostState PointState) → Within Stage.AwaitsCheck given taken (waits host.object)
      → Keeps given taken 1 host (following point_behaviour now item telegram (meaning (Message.Initialisation point_behaviour.protocol (VersionCheck version)) Stage.AwaitsCheck) host)
  unfolding following answering
  answers given taken item telegram version host (none, idle) = choose (version == host.version)
    where
      choose : (b : Bool) → Keeps given taken 1 host (record (if b then at_stage Stage.AwaitsRequest (posting now (said point_behaviour (VersionAnswer Match host.version)) host)
          else at_stage Stage.Refused (posting now (said point_behaviour (VersionAnswer NoMatch host.version)) host)) { acted = item ∷ []; told = [] })
      choose true = posted_on given taken 1 item [] Stage.AwaitsRequest host (posting now (said point_behaviour (VersionAnswer Match host.version)) host) (posts_one _ host) (λ more few. (omega (arith, none, few), omega arith, idle))
      choose false = posted_on given taken 1 item [] Stage.Refused host (posting now (said point_behaviour (VersionAnswer NoMatch host.version)) host) (posts_one _ host) (λ more few. (omega (arith, none, few), idle))

  commands : (given taken : ℕ) (item : List ℕ) (telegram : Telegram) (how_far : Stage) (host : HostState PointState) → host.stage ≡ how_far → Within how_far given taken (waits host.object)
      → Keeps given taken 1 host (following point_behaviour now item telegram (by_stage how_far) host)
  unfolding following commanding violating items_given calls_made
  commands given taken item telegram Stage.Completed host is has = choose (point_behaviour.accepts now telegram host.object)
    where
      after : HostState PointState
      after = record host { object = taking now telegram host.object }

      counted : Within host.stage (given + 0) (taken + 1) (waits after.object)
      counted = let more = taken_waits now telegram host.object in subst (λ (s : Stage). Within s (given + 0) (taken + 1) (waits after.object)) (sym is) (omega (arith, has, more))

      choose : (b : Bool) → Keeps given taken 1 host (record (if b then silent after else violating now after) { acted = item ∷ []; told = telegram ∷ [] })
      choose true = record { made = refl; few = omega arith; within = counted }
      choose false = record { made = refl; few = omega arith; within = counted }
  commands given taken item telegram Stage.Outside host is has = keeps_closed given taken 1 host (subst (λ (s : Stage). Within s given taken (waits host.object)) (sym is) has)
  commands given taken item telegram Stage.AwaitsCheck host is has = keeps_closed given taken 1 host (subst (λ (s : Stage). Within s given taken (waits host.object)) (sym is) has)
  commands given taken item telegram Stage.AwaitsRequest host is has = keeps_closed given taken 1 host (subst (λ (s : Stage). Within s given taken (waits host.object)) (sym is) has)
  commands given taken item telegram Stage.Refused host is has = keeps_closed given taken 1 host (subst (λ (s : Stage). Within s given taken (waits host.object)) (sym is) has)

  initialises : (given taken : ℕ) (item : List ℕ) (telegram : Telegram) (host : HostState PointState) → Within Stage.AwaitsRequest given taken (waits host.object)
      → Keeps given taken 1 host (following point_behaviour now item telegram (meaning (Message.Initialisation point_behaviour.protocol InitialisationRequest) Stage.AwaitsRequest) host)
  unfolding following initialising
  initialises given taken item telegram host (one, some, idle) = posted_on given taken 3 item [] Stage.Completed host _ (initialising_posts host) (λ more few. omega (arith, one, some, idle, few))

  follows : (given taken : ℕ) (item : List ℕ) (telegram : Telegram) (what : Message) (how_far : Stage) (host : HostState PointState) → host.stage ≡ how_far → Within how_far given taken (waits host.object)
      → Keeps given taken 1 host (following point_behaviour now item telegram (meaning what how_far) host)
  unfolding following
  follows given taken item telegram (Message.Initialisation protocol (VersionCheck version)) Stage.AwaitsCheck host is has = answers given taken item telegram version host has
  follows given taken item telegram (Message.Initialisation protocol (VersionCheck version)) Stage.Outside host is has = keeps_closed given taken 1 host (subst (λ (s : Stage). Within s given taken (waits host.object)) (sym is) has)
  follows given taken item telegram (Message.Initialisation protocol (VersionCheck version)) Stage.AwaitsRequest host is has = keeps_closed given taken 1 host (subst (λ (s : Stage). Within s given taken (waits host.object)) (sym is) has)
  follows given taken item telegram (Message.Initialisation protocol (VersionCheck version)) Stage.Completed host is has = keeps_closed given taken 1 host (subst (λ (s : Stage). Within s given taken (waits host.object)) (sym is) has)
  follows given taken item telegram (Message.Initialisation protocol (VersionCheck version)) Stage.Refused host is has = keeps_closed given taken 1 host (subst (λ (s : Stage). Within s given taken (waits host.object)) (sym is) has)
  follows given taken item telegram (Message.Initialisation protocol InitialisationRequest) Stage.AwaitsRequest host is has = initialises given taken item telegram host has
  follows given taken item telegram (Message.Initialisation protocol InitialisationRequest) Stage.Outside host is has = keeps_closed given taken 1 host (subst (λ (s : Stage). Within s given taken (waits host.object)) (sym is) has)
  follows given taken item telegram (Message.Initialisation protocol InitialisationRequest) Stage.AwaitsCheck host is has = keeps_closed given taken 1 host (subst (λ (s : Stage). Within s given taken (waits host.object)) (sym is) has)
  follows given taken item telegram (Message.Initialisation protocol InitialisationRequest) Stage.Completed host is has = keeps_closed given taken 1 host (subst (λ (s : Stage). Within s given taken (waits host.object)) (sym is) has)
  follows given taken item telegram (Message.Initialisation protocol InitialisationRequest) Stage.Refused host is has = keeps_closed given taken 1 host (subst (λ (s : Stage). Within s given taken (waits host.object)) (sym is) has)
  follows given taken item telegram (Message.Initialisation protocol StartInitialisation) how_far host is has = keeps_closed given taken 1 host (subst (λ (s : Stage). Within s given taken (waits host.object)) (sym is) has)
  follows given taken item telegram (Message.Initialisation protocol InitialisationCompleted) how_far host is has = keeps_closed given taken 1 host (subst (λ (s : Stage). Within s given taken (waits host.object)) (sym is) has)
  follows given taken item telegram (Message.Initialisation protocol (VersionAnswer agreement version)) how_far host is has = keeps_closed given taken 1 host (subst (λ (s : Stage). Within s given taken (waits host.object)) (sym is) has)
  follows given taken item telegram (Message.Point what) how_far host is has = commands given taken item telegram how_far host is has
  follows given taken item telegram (Message.Signal what) how_far host is has = commands given taken item telegram how_far host is has
  follows given taken item telegram (Message.Detection what) how_far host is has = commands given taken item telegram how_far host is has

  pub acts : (given taken : ℕ) (item : List ℕ) (read : Result Telegram SciFault) (host : HostState PointState) → Within host.stage given taken (waits host.object) → Keeps given taken 1 host (acting point_behaviour now item read host)
  unfolding acting
  acts given taken item (Err fault) host has = keeps_closed given taken 1 host has
  acts given taken item (Ok telegram) host has = choose (is_admitted point_behaviour telegram host)
    where
      choose : (b : Bool) → Keeps given taken 1 host (if b then following point_behaviour now item telegram (meaning telegram.message host.stage) host else violating now host)
      choose true = follows given taken item telegram telegram.message host.stage host refl has
      choose false = keeps_closed given taken 1 host has

  all_act : (given taken : ℕ) (items : List (List ℕ)) (host : HostState PointState) → Within host.stage given taken (waits host.object) → Keeps given taken (length items) host (acting_all point_behaviour now items host)
  unfolding acting_all
  all_act given taken [] host has = keeps_none given taken 0 host host refl has
  all_act given taken (item ∷ others) host has = choose (is_open host.link.phase)
      (let first = acts given taken item (reading item) host has in keeps_then given taken 1 (length others) (length (item ∷ others)) host (acting point_behaviour now item (reading item) host) (acting_all point_behaviour now others) (omega arith) first
      (all_act (given + gave host (acting point_behaviour now item (reading item) host)) (taken + length (acting point_behaviour now item (reading item) host).acted) others (acting point_behaviour now item (reading item) host).host first.within))
    where
      choose : (b : Bool) → Keeps given taken (length (item ∷ others)) host (then_do (acting point_behaviour now item (reading item) host) (acting_all point_behaviour now others))
          → Keeps given taken (length (item ∷ others)) host (if b then then_do (acting point_behaviour now item (reading item) host) (acting_all point_behaviour now others) else silent host)
      choose true so = so
      choose false so = keeps_none given taken (length (item ∷ others)) host host refl has

  -- ---- what comes

  risen_within : (given taken : ℕ) (host : HostState PointState) → Within host.stage given taken (waits host.object) → Within (risen host).stage given taken (waits (risen host).object)
  unfolding risen
  risen_within given taken host has = at_stages host.stage refl (is_open host.link.phase)
    where
      Behind : HostState PointState → Type 0
      Behind h = Within h.stage given taken (waits h.object)

      at_stages : (s : Stage) → host.stage ≡ s → (b : Bool) → Behind (if is_outside s && b then record host { stage = Stage.AwaitsCheck } else host)
      at_stages Stage.Outside e true = subst (λ (s : Stage). Within s given taken (waits host.object)) e has
      at_stages Stage.Outside e false = has
      at_stages Stage.AwaitsCheck e b = has
      at_stages Stage.AwaitsRequest e b = has
      at_stages Stage.Completed e b = has
      at_stages Stage.Refused e b = has

  came : (given taken : ℕ) (bytes : List ℕ) (host : HostState PointState) → Within host.stage given taken (waits host.object) → Keeps given taken 0 host (received now bytes (receiving now bytes host.link) host)
  unfolding received items_given calls_made
  came given taken bytes host has = record {
    made = (risen_same point_behaviour points_tell 1 now at).link;
    few = omega arith;
    within = subst (λ (n : ℕ). Within (risen at).stage n (taken + 0) (waits (risen at).object)) (none_more given) (subst (λ (n : ℕ). Within (risen at).stage given n (waits (risen at).object)) (none_more taken) (risen_within given taken at has));
  }
    where
      at : HostState PointState
      at = record host { link = (receiving now bytes host.link).link }

  pub received_within : (given taken : ℕ) (bytes : List ℕ) (host : HostState PointState) → Within host.stage given taken (waits host.object)
      → Within (received now bytes (receiving now bytes host.link) host).host.stage given taken (waits (received now bytes (receiving now bytes host.link) host).host.object)
  unfolding received
  received_within given taken bytes host has = risen_within given taken (record host { link = (receiving now bytes host.link).link }) has

  hears : (given taken : ℕ) (bytes : List ℕ) (host : HostState PointState) → Within host.stage given taken (waits host.object) → Keeps given taken (length (receiving now bytes host.link).items) host (hearing point_behaviour now bytes host)
  unfolding hearing
  hears given taken bytes host has =
      let first = came given taken bytes host has
      in let part = received now bytes (receiving now bytes host.link) host
      in keeps_then given taken 0 (length (receiving now bytes host.link).items) (length (receiving now bytes host.link).items) host part (acting_all point_behaviour now (receiving now bytes host.link).items) (omega arith) first
      (all_act (given + gave host part) (taken + length part.acted) (receiving now bytes host.link).items part.host first.within)

  -- how many items come
  abbrev pub coming : Input → LinkState → ℕ
  coming (Input.Datagram bytes) link = length (receiving now bytes.now link).items
  coming _ link = 0

  gives : (given taken : ℕ) (input : Input) (host : HostState PointState) → Within host.stage given taken (waits host.object) → Keeps given taken (coming input host.link) host (given_in point_behaviour now input host)
  unfolding given_in
  gives given taken Input.Tick host has = keeps_none given taken 0 host host refl has
  gives given taken (Input.Datagram bytes) host has = hears given taken bytes.now host has
  gives given taken (Input.Sense contact) host has = keeps_none given taken 0 host (record host { object = sensing now contact host.object }) refl
      (subst (λ (n : ℕ). Within host.stage given taken n) (sym (sensed_same now contact host.object)) has)

  -- ---- what is owed

  one_given : (report : Report) (host : HostState PointState) → is_ok (answer_to_send now host.link) ≡ true → length (items_given now (posting now report host).calls host.link) ≡ 1
  unfolding posting items_given
  one_given report host ok = ap (λ (b : Bool). length ((if b then item_of host report ∷ [] else []) ++ [])) ok

  none_given : (report : Report) (host : HostState PointState) → is_ok (answer_to_send now host.link) ≡ false → length (items_given now (posting now report host).calls host.link) ≡ 0
  unfolding posting items_given
  none_given report host denied = ap (λ (b : Bool). length ((if b then item_of host report ∷ [] else []) ++ [])) denied

  -- a report answers a move
  reports : (given taken : ℕ) (report : Report) (host : HostState PointState) → final_report host.object.progress host.object ≡ Some report → is_completed host.stage ≡ true → Within host.stage given taken (waits host.object) → (b : Bool) → is_ok (answer_to_send now host.link) ≡ b
      → Keeps given taken 0 host (if b then record (posting now report host) { host = paid point_behaviour (posting now report host).host } else posting now report host)
  unfolding posting calls_made
  reports given taken report host owes done has true ok = record { made = refl; few = omega arith; within = subst (λ (n : ℕ). Within host.stage (given + n) (taken + 0) (waits (drive.paying host.object))) (sym (one_given report host ok)) (by_stage host.stage done has) }
    where
      by_stage : (s : Stage) → is_completed s ≡ true → Within s given taken (waits host.object) → Within s (given + 1) (taken + 0) (waits (drive.paying host.object))
      by_stage Stage.Completed e h = let less = owed_waits host.object.progress host.object report owes in omega (arith, h, less)
      by_stage Stage.Outside e h = absurd (false≢true e)
      by_stage Stage.AwaitsCheck e h = absurd (false≢true e)
      by_stage Stage.AwaitsRequest e h = absurd (false≢true e)
      by_stage Stage.Refused e h = absurd (false≢true e)
  reports given taken report host owes done has false denied = record {
    made = refl;
    few = omega arith;
    within = subst (λ (n : ℕ). Within host.stage (given + n) (taken + 0) (waits host.object)) (sym (none_given report host denied))
        (subst (λ (n : ℕ). Within host.stage n (taken + 0) (waits host.object)) (none_more given) (subst (λ (n : ℕ). Within host.stage given n (waits host.object)) (none_more taken) has));
  }

  pays_first : (given taken : ℕ) (report : Option Report) (host : HostState PointState) → point_behaviour.owed host.object ≡ report → Within host.stage given taken (waits host.object) → Keeps given taken 0 host (paying_first point_behaviour now report host)
  pays_first given taken None host owes has = keeps_none given taken 0 host host refl has
  pays_first given taken (Some report) host owes has = choose (is_completed host.stage) refl (is_ok (answer_to_send now host.link)) refl
    where
      sent : HostSoFar PointState
      sent = posting now report host

      choose : (b : Bool) → is_completed host.stage ≡ b → (c : Bool) → is_ok (answer_to_send now host.link) ≡ c
          → Keeps given taken 0 host (if not b then silent (paid point_behaviour host) else (if c then record sent { host = paid point_behaviour sent.host } else sent))
      choose false e c f = let idle = within_idle host.stage given taken (waits host.object) e has in let one = owed_waits host.object.progress host.object report owes in absurd (omega (arith, idle, one))
      choose true e c f = reports given taken report host owes e has c f

  pays : (given taken most : ℕ) (host : HostState PointState) → Within host.stage given taken (waits host.object) → Keeps given taken 0 host (paying point_behaviour now most host)
  unfolding paying
  pays given taken zero host has = keeps_none given taken 0 host host refl has
  pays given taken (suc most) host has = choose (goes_on now (point_behaviour.owed host.object) host)
      (keeps_then given taken 0 0 0 host first (paying point_behaviour now most) (omega arith) first_keeps (pays (given + gave host first) (taken + length first.acted) most first.host first_keeps.within))
    where
      first : HostSoFar PointState
      first = paying_first point_behaviour now (point_behaviour.owed host.object) host

      first_keeps : Keeps given taken 0 host first
      first_keeps = pays_first given taken (point_behaviour.owed host.object) host refl has

      choose : (b : Bool) → Keeps given taken 0 host (then_do first (paying point_behaviour now most)) → Keeps given taken 0 host (if b then then_do first (paying point_behaviour now most) else first)
      choose true so = so
      choose false so = first_keeps

  beats : (given taken : ℕ) (input : Input) (host : HostState PointState) → Within host.stage given taken (waits host.object) → Keeps given taken 0 host (beating now input host)
  unfolding beating items_given calls_made
  beats given taken Input.Tick host has = record {
    made = refl;
    few = omega arith;
    within = subst (λ (n : ℕ). Within host.stage n (taken + 0) (waits host.object)) (none_more given) (subst (λ (n : ℕ). Within host.stage given n (waits host.object)) (none_more taken) has);
  }
  beats given taken (Input.Datagram bytes) host has = keeps_none given taken 0 host host refl has
  beats given taken (Input.Sense contact) host has = keeps_none given taken 0 host host refl has

  -- ---- how a step begins and ends

  -- where the clock rules leave the link open nothing changes; else the host is outside, and no move waits
  pub record IsFoundSo (host found : HostState PointState) : Type 0 where
    pub link : found.link ≡ settled now host.link
    pub inside : is_open (settled now host.link).phase ≡ true → (found.stage ≡ host.stage) × (waits found.object ≡ waits host.object)
    pub outside : is_open (settled now host.link).phase ≡ false → (is_completed host.stage ≡ false → waits host.object ≡ 0) → (found.stage ≡ Stage.Outside) × (waits found.object ≡ 0)

  pub begins_so : (host : HostState PointState) → IsFoundSo host (beginning point_behaviour now host)
  unfolding beginning fallen
  begins_so host = by (is_outside host.stage) refl (is_open (settled now host.link).phase) refl
    where
      at : HostState PointState
      at = record host { link = settled now host.link }

      lost : HostState PointState
      lost = record at { stage = Stage.Outside; object = losing host.object }

      ticked : HostState PointState → HostState PointState
      ticked h = record h { object = ticking now h.object }

      outside_is : (s : Stage) → is_outside s ≡ true → (s ≡ Stage.Outside) × (is_completed s ≡ false)
      outside_is Stage.Outside e = (refl, refl)
      outside_is Stage.AwaitsCheck e = absurd (false≢true e)
      outside_is Stage.AwaitsRequest e = absurd (false≢true e)
      outside_is Stage.Completed e = absurd (false≢true e)
      outside_is Stage.Refused e = absurd (false≢true e)

      by : (x : Bool) → is_outside host.stage ≡ x → (y : Bool) → is_open (settled now host.link).phase ≡ y → IsFoundSo host (ticked (if not x && not y then lost else at))
      by true g y h = record {
        link = refl;
        inside = λ opened. (refl, limited_same now host.object.progress);
        outside = λ closed idle. ((outside_is host.stage g).0, limited_same now host.object.progress ∙ idle (outside_is host.stage g).1);
      }
      by false g true h = record { link = refl; inside = λ opened. (refl, limited_same now host.object.progress); outside = λ closed idle. absurd (false≢true (sym closed ∙ h)) }
      by false g false h = record { link = refl; inside = λ opened. absurd (false≢true (sym h ∙ opened)); outside = λ closed idle. (refl, refl) }

  -- what a step leaves
  pub record Steps (given taken : ℕ) (input : Input) (host : HostState PointState) : Type 0 where
    pub idle : is_completed (host_step point_behaviour now input host).host.stage ≡ false → waits (host_step point_behaviour now input host).host.object ≡ 0
    pub inside : is_open (host_step point_behaviour now input host).host.link.phase ≡ true → Within (host_step point_behaviour now input host).host.stage
        (given + length (items_given now (host_step point_behaviour now input host).calls (settled now host.link))) (taken + length (host_step point_behaviour now input host).acted) (waits (host_step point_behaviour now input host).host.object)
    pub few : length (host_step point_behaviour now input host).acted ≤ coming input (settled now host.link)
    pub ever : given + length (items_given now (host_step point_behaviour now input host).calls (settled now host.link)) ≤ 2 + (taken + length (host_step point_behaviour now input host).acted)

  -- how it ends
  record EndsSo (given taken : ℕ) (host after : HostState PointState) : Type 0 where
    idle : is_completed after.stage ≡ false → waits after.object ≡ 0
    inside : is_open after.link.phase ≡ true → Within after.stage given taken (waits after.object)

  ends_so : (given taken : ℕ) (host : HostState PointState) → Within host.stage given taken (waits host.object) → EndsSo given taken host (ending point_behaviour host)
  unfolding fallen keeping
  ends_so given taken host has = choose (is_outside host.stage) (is_open host.link.phase) refl
    where
      lost : HostState PointState
      lost = record host { stage = Stage.Outside; object = losing host.object }

      stays : EndsSo given taken host (keeping point_behaviour host)
      stays = record { idle = λ e. within_idle host.stage given taken (waits host.object) e has; inside = λ e. has }

      choose : (b c : Bool) → is_open host.link.phase ≡ c → EndsSo given taken host (keeping point_behaviour (if not b && not c then lost else host))
      choose true c e = stays
      choose false true e = stays
      choose false false e = record { idle = λ f. refl; inside = λ f. absurd (false≢true (sym e ∙ f)) }

  pub steps : (given taken : ℕ) (input : Input) (host : HostState PointState) → Within (beginning point_behaviour now host).stage given taken (waits (beginning point_behaviour now host).object) → Steps given taken input host
  unfolding host_step
  steps given taken input host has = record {
    idle = ended.idle;
    inside = λ e. subst (λ (l : LinkState). Within (ending point_behaviour done.host).stage (given + length (items_given now done.calls l)) (taken + length done.acted) (waits (ending point_behaviour done.host).object)) (begins_so host).link (ended.inside e);
    few = subst (λ (l : LinkState). length done.acted ≤ coming input l) (begins_so host).link kept.few;
    ever = subst (λ (l : LinkState). given + length (items_given now done.calls l) ≤ 2 + (taken + length done.acted)) (begins_so host).link
        (let all = within_ever done.host.stage (given + gave first done) (taken + length done.acted) (waits done.host.object) kept.within in omega (arith, all));
  }
    where
      first : HostState PointState
      first = beginning point_behaviour now host

      heard : HostSoFar PointState
      heard = given_in point_behaviour now input first

      heard_keeps : Keeps given taken (coming input first.link) first heard
      heard_keeps = gives given taken input first has

      told_so : HostSoFar PointState
      told_so = then_do heard (paying point_behaviour now most_owed)

      told_keeps : Keeps given taken (coming input first.link) first told_so
      told_keeps = keeps_then given taken (coming input first.link) 0 (coming input first.link) first heard (paying point_behaviour now most_owed) (omega arith) heard_keeps (pays (given + gave first heard) (taken + length heard.acted) most_owed heard.host heard_keeps.within)

      done : HostSoFar PointState
      done = then_do told_so (beating now input)

      kept : Keeps given taken (coming input first.link) first done
      kept = keeps_then given taken (coming input first.link) 0 (coming input first.link) first told_so (beating now input) (omega arith) told_keeps (beats (given + gave first told_so) (taken + length told_so.acted) input told_so.host told_keeps.within)

      ended : EndsSo (given + gave first done) (taken + length done.acted) done.host (ending point_behaviour done.host)
      ended = ends_so (given + gave first done) (taken + length done.acted) done.host kept.within
