-- Each move is answered by one report, through every step.
use Rattle.std.proofs.Common.{◌≡◌, ℕ, ◌+◌, zero, suc, Bool, true, false, if◌then◌else◌, List, [], ◌∷◌, ◌++◌, length, refl, ap, sym, ◌∙◌, subst}
use Rattle.std.specs.Prelude.{map, Some, None, slice_get}
use Rattle.std.proofs.lemmas.Bool.{false≢true}
use Rattle.ixl_state.specs.sci_telegram.declared.message.Side.{Side}
use Rattle.ixl_state.specs.layout.Entries.{Site}
use Rattle.ixl_state.specs.layout.declared.entries.Point.{Point as LayoutPoint}
use Rattle.ixl_state.specs.rasta_core.Clock.{settled}
use Rattle.ixl_state.specs.ixl_client.Client.{ClientState, PeerState, is_outside, new_client}
use Rattle.ixl_state.specs.ixl_client.Step.{clocked}
use Rattle.ixl_state.specs.ixl_client.declared.indication.ObjectState.{ObjectState}
use Rattle.ixl_state.specs.ixl_client.declared.stage.Stage.{Stage}
use Rattle.ixl_state.specs.ixl_client.declared.stage.Stage.TheVariants as stage
use Rattle.ixl_state.specs.ixl_client.ItemsSaid.{items_said, items_sent}
use Rattle.ixl_state.specs.ixl_spec.Due.{Known}
use Rattle.ixl_state.specs.ixl_spec.StepSoFar.{StepSoFar, Point, begun_with, empty_outbox, over}
use Rattle.ixl_state.specs.ixl_spec.Rules.{count, ruled}
use Rattle.ixl_state.specs.ixl_spec.State.{IxlState, KnownPointState}
use Rattle.ixl_state.specs.ixl_spec.Step.{Input, Reply, all_clocked, clocked_known_point, given, stepped, watching}
use Rattle.ixl_state.specs.ixl_spec.Table.{Table}
use Rattle.ixl_state.specs.First.{Beginning, key_of, new_ixl, new_known_point_of}
use Rattle.ixl.specs.Interlocking.{HasStepped, InterlockingState, step_of}
use Rattle.ixl_laws.specs.Answered.{GoesOnAnswered, IsAnswered, IsCounted, IsOfPoint, kept_by, last_told, move_items, told_in}
use Rattle.ixl_laws.specs.Nodes.{of_node}
use Rattle.ixl_laws.proofs.PointAnswers.{Begins, Hears, Says, SaysNoMore, SoFar, available_completed, given_stays, ruled_stays, seen_stays, known_point_none, known_point_side, ticked_stays}
use Rattle.ixl_laws.proofs.Clients.{mapped, known_point_client}
use Rattle.ixl_laws.proofs.Hears.{Counts, counts_inside, counts_within, fallen_peer, inside_stays, nothing_outside}
use Rattle.ixl_laws.proofs.PickedByTest.{none_is, some_same}

counted_outside : (s : Stage) (moves : List Side) (told : List ObjectState) → is_outside s ≡ true → IsCounted s moves told
counted_outside stage.Outside moves told is = tt
counted_outside stage.AwaitsAnswer moves told is = absurd (false≢true is)
counted_outside stage.AwaitsStart moves told is = absurd (false≢true is)
counted_outside (stage.AwaitsStatus left) moves told is = absurd (false≢true is)
counted_outside stage.Completed moves told is = absurd (false≢true is)
counted_outside stage.AwaitsReport moves told is = absurd (false≢true is)

-- a point once the clock has acted, and what is kept of what was given and told
module _ (now : ℕ) (before : KnownPointState) (moves : List Side) (told : List ObjectState) (was : IsAnswered moves told before) where
  client : ClientState
  client = clocked now before.client

  abbrev start : KnownPointState
  start = clocked_known_point now before

  abbrev kept_moves : List Side
  kept_moves = kept_by (clocked now before.client) moves

  abbrev kept_told : List ObjectState
  kept_told = kept_by (clocked now before.client) told

  client_is : start.client ≡ clocked now before.client
  client_is = known_point_client before.side before.moved (clocked now before.client)

  clocked_peer : (clocked now before.client).peer ≡ before.client.peer
  unfolding clocked
  clocked_peer = fallen_peer (record before.client { link = settled now before.client.link })

  clocked_stage : is_outside (clocked now before.client).stage ≡ false → (clocked now before.client).stage ≡ before.client.stage
  unfolding clocked
  clocked_stage inside = inside_stays (record before.client { link = settled now before.client.link }) inside

  peer_is : start.client.peer ≡ before.client.peer
  peer_is = ap (λ (c : ClientState). c.peer) client_is ∙ clocked_peer

  was_inside : is_outside (clocked now before.client).stage ≡ false → is_outside before.client.stage ≡ false
  was_inside inside = ap is_outside (sym (clocked_stage inside)) ∙ inside

  counts_by : (b : Bool) → is_outside (clocked now before.client).stage ≡ b → Counts (clocked now before.client).stage (if b then [] else moves) (if b then [] else told)
  counts_by true outside = nothing_outside (clocked now before.client).stage outside
  counts_by false inside = subst (λ s. Counts s moves told) (sym (clocked_stage inside)) (counts_within before.client.stage moves told (was_inside inside) was.counted)

  side_by : (b : Bool) → is_outside (clocked now before.client).stage ≡ b → start.side ≡ last_told None (if b then [] else told)
  side_by true outside = known_point_none before.side before.moved (clocked now before.client) outside
  side_by false inside = known_point_side before.side before.moved (clocked now before.client) inside ∙ was.last (was_inside inside)

  begins : (place : ℕ) (part : StepSoFar) → slice_get part.ixl.known_points place ≡ Some start → part.calls ≡ [] → part.acted ≡ [] → Begins place start kept_moves kept_told part
  begins place part there calls acted = record {
    there = there;
    of = subst IsOfPoint (sym peer_is) was.point;
    calls = calls;
    acted = acted;
    counts = subst (λ (c : ClientState). Counts c.stage kept_moves kept_told) (sym client_is) (counts_by (is_outside (clocked now before.client).stage) refl);
    side = side_by (is_outside (clocked now before.client).stage) refl;
  }

  -- after all parts of a step
  ends : (input : Input) (old : InterlockingState) (place : ℕ) (after : KnownPointState) → (so_far : SoFar place start kept_moves kept_told (step_of now input old.state)) →
      so_far.known_point ≡ after → GoesOnAnswered now input old place before after moves told
  ends input old place after so_far is = subst (λ (s : KnownPointState). GoesOnAnswered now input old place before s moves told) is (record {
    more = so_far.more;
    sent = λ inside. ap (λ (c : ClientState). items_said c ++ items_sent (of_node (Point place) (step_of now input old.state).calls)) (sym client_is) ∙ so_far.fine.sent inside
        ∙ ap (λ (p : PeerState). items_said so_far.known_point.client ++ move_items p so_far.more) peer_is;
    answered = subst (λ (p : PeerState). IsAnswered (kept_moves ++ so_far.more) (kept_told ++ told_in p (of_node (Point place) (step_of now input old.state).acted)) so_far.known_point) peer_is (record {
      point = subst IsOfPoint (sym (so_far.fine.peer ∙ peer_is)) was.point;
      counted = counted (is_outside so_far.known_point.client.stage) refl;
      last = so_far.fine.last;
    });
  }) where
    counted : (b : Bool) → is_outside so_far.known_point.client.stage ≡ b → IsCounted so_far.known_point.client.stage (kept_moves ++ so_far.more) (kept_told ++ told_in start.client.peer (of_node (Point place) (step_of now input old.state).acted))
    counted true outside = counted_outside so_far.known_point.client.stage _ _ outside
    counted false inside = counts_inside so_far.known_point.client.stage _ _ (so_far.fine.counted inside)

pub stays_answered : (now : ℕ) (input : Input) (old new : InterlockingState) (answer : Reply) (place : ℕ) (before after : KnownPointState) (moves : List Side) (told : List ObjectState) → Hears now → Says now → SaysNoMore now →
    HasStepped now input old new answer → slice_get old.state.ixl.known_points place ≡ Some before → slice_get new.state.ixl.known_points place ≡ Some after → IsAnswered moves told before → GoesOnAnswered now input old place before after moves told
unfolding stepped all_clocked
stays_answered now input old new answer place before after moves told hears says more step is also was =
    ends now before moves told was input old place after so_far (some_same (sym so_far.there ∙ ap (λ (i : IxlState). slice_get i.known_points place) (sym step.ixl) ∙ also))
  where
    table : Table
    table = old.state.sited.table

    begun : StepSoFar
    begun = begun_with (all_clocked now old.state.ixl) empty_outbox

    heard : StepSoFar
    heard = given now table (key_of old.state.sited.site) input begun

    so_far : SoFar place (clocked_known_point now before) (kept_by (clocked now before.client) moves) (kept_by (clocked now before.client) told) (step_of now input old.state)
    so_far = ticked_stays place _ _ _ now input (ruled now table (over (watching table) (count table) heard)) more
        (ruled_stays place _ _ _ now table (over (watching table) (count table) heard) says
        (seen_stays place _ _ _ table heard
        (given_stays place _ _ _ now table (key_of old.state.sited.site) input begun says hears
        (begins now before moves told was place begun (mapped (clocked_known_point now) place old.state.ixl.known_points before is) refl refl))))

-- ---- an interlocking that was just made

pub was_mapped : {A B : Type 0} (change : A → B) (place : ℕ) (list : List A) (one : B) → slice_get (map change list) place ≡ Some one → (old : A) × (one ≡ change old)
was_mapped change place [] one is = absurd (none_is is)
was_mapped change zero (first ∷ others) one is = (first, sym (some_same is))
was_mapped change (suc place) (first ∷ others) one is = was_mapped change place others one is

made_answered : (site : Site) (begins : Beginning) (point : LayoutPoint) → IsAnswered [] [] (new_known_point_of site begins point)
unfolding new_client
made_answered site begins point = record { point = record { protocol = refl; one = refl }; counted = tt; last = λ inside. refl }

pub first_answered : (site : Site) (table : Table) (begins : Beginning) (place : ℕ) (known_point : KnownPointState) → slice_get (new_ixl site table begins).known_points place ≡ Some known_point → IsAnswered [] [] known_point
unfolding new_ixl
first_answered site table begins place known_point is =
    let found = was_mapped (new_known_point_of site begins) place site.points known_point is
    in subst (IsAnswered [] []) (sym found.1) (made_answered site begins found.0)

-- ---- a point that is known

pub known_answered : (ixl : IxlState) (place : ℕ) (side : Side) (known_point : KnownPointState) (moves : List Side) (told : List ObjectState) → slice_get ixl.known_points place ≡ Some known_point → Known ixl place side → IsAnswered moves told known_point →
    (length told ≡ length moves + 1) × (last_told None told ≡ Some side)
known_answered ixl place side known_point moves told is known answered =
    let same : known.0 ≡ known_point = some_same (sym known.1 ∙ is)
    in let completed = subst (λ (s : KnownPointState). s.client.stage ≡ stage.Completed) same (available_completed known.0.client.stage known.2.0)
    in (
      subst (λ s. IsCounted s moves told) completed answered.counted,
      sym (answered.last (ap is_outside completed)) ∙ subst (λ (s : KnownPointState). s.side ≡ Some side) same known.2.1,
    )
