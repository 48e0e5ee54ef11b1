-- How a step finds a point.
use Rattle.std.proofs.Common.{◌≡◌, ◌+◌, ℕ, Bool, true, false, not, ◌&&◌, List, [], ◌∷◌, ◌++◌, map, length, arith, refl, ap, sym, ◌∙◌}
use Rattle.std.specs.Prelude.{is_some}
use Rattle.std.proofs.lemmas.Bool.{false≢true}
use Rattle.std.proofs.lemmas.List.Elements.{All-nil}
use Rattle.rasta_core.specs.State.{LinkState, is_open}
use Rattle.rasta_core.specs.Clock.{settled}
use Rattle.rasta_core.specs.Ends.{reading_of}
use Rattle.object_host.specs.Host.{HostState, HostSoFar, is_completed, is_outside}
use Rattle.object_host.specs.Step.{beginning}
use Rattle.object_host.specs.Told.{has_lost, item_of}
use Rattle.object_host.specs.declared.input.Input.{Input}
use Rattle.object_host.specs.declared.report.Report.{Report}
use Rattle.object_host_laws.specs.World.{World, host_of}
use Rattle.point_ctl.specs.declared.progress.Progress.{Progress}
use Rattle.point_ctl.specs.declared.progress.Progress.TheVariants.{Answered}
use Rattle.point_ctl.specs.Controlled.{point_behaviour}
use Rattle.point_ctl.specs.Drive.{PointState, limited, move_in}
use Rattle.point_ctl.specs.History.{unanswered}
use Rattle.object_host_laws.specs.Point.{IsFound, IsPointStep, IsReported, found_by, found_host, is_moving, moves_in}
use Rattle.object_host_laws.proofs.Moves.{limit_moves, limit_waits}
use Rattle.object_host_laws.proofs.Points.{begun_stage, early_outside}

-- the items of reports depend on the names of the host alone
pub items_same : (reports : List Report) (old new : HostState PointState) → new.own_name ≡ old.own_name → new.peer_name ≡ old.peer_name →
    map (item_of new) reports ≡ map (item_of old) reports
items_same [] old new own peer = refl
items_same (report ∷ others) old new own peer =
    ap (λ rest. item_of new report ∷ rest) (items_same others old new own peer) ∙ ap (λ item. item ∷ map (item_of old) others) (rw (own, peer) refl)

zero_sum : (n : ℕ) → n ≡ 0 → 0 + n ≡ 0
zero_sum n is = omega (arith, is)

-- nothing was reported, and every move is answered
pub nothing_before : (now : ℕ) (host : HostState PointState) → (found_by now host).progress ≡ Answered → IsFound now [] [] host
unfolding moves_in
nothing_before now host answered = record {
  reporting = record {
    stood = (found_by now host).sensed;
    answers = [];
    begins = [];
    finals = [];
    given = refl;
    are_answers = All-nil _;
    are_some = tt;
    are_final = All-nil _;
    early = λ _. (refl, refl);
    moves = refl;
    each = zero_sum (unanswered (found_by now host).progress) (ap unanswered answered);
  };
  answered = λ _. answered;
  drive = λ moves. absurd (false≢true (sym (ap (λ (p : Progress). is_some (move_in p)) answered) ∙ moves));
}

module _ (input : Input) (part : HostSoFar PointState) (world : World PointState)
    (step : IsPointStep (reading_of world.ends.server.clock) input (host_of world) part)
    (is_settled : settled (reading_of world.ends.server.clock) world.ends.server.link ≡ world.ends.server.link) (reported : IsReported world)
  where
    abbrev now : ℕ
    now = reading_of world.ends.server.clock

    abbrev host : HostState PointState
    host = host_of world

    abbrev found : PointState
    found = found_by now host

    lost_is : has_lost (record host { link = settled now host.link }) ≡ (not (is_outside world.stage) && not (is_open world.ends.server.link.phase))
    lost_is = ap (λ (l : LinkState). not (is_outside world.stage) && not (is_open l.phase)) is_settled

    -- in a connection
    pub found_inside : is_open world.ends.server.link.phase ≡ true → IsFound now world.ends.server.given world.told host
    found_inside opened =
        let before = reported.inside opened
        in let not_lost : has_lost (record host { link = settled now host.link }) ≡ false = lost_is ∙ no_loss (is_outside world.stage) opened
        in let ticked = step.stays not_lost
        in let same : unanswered found.progress ≡ unanswered world.object.progress =
        ap (λ (p : PointState). unanswered p.progress) ticked ∙ limit_waits now world.object.progress
        in let not_yet : is_completed (beginning point_behaviour now host).stage ≡ false → is_completed world.stage ≡ false =
        λ early. ap is_completed (sym (begun_stage now host not_lost)) ∙ early
        in record {
          reporting = record {
            stood = before.stood;
            answers = before.answers;
            begins = before.begins;
            finals = before.finals;
            given = before.given ∙ items_same ((before.answers ++ before.begins) ++ before.finals) (found_host now host) host refl refl;
            are_answers = before.are_answers;
            are_some = before.are_some;
            are_final = before.are_final;
            early = λ early. before.early (not_yet early);
            moves = before.moves;
            each = ap (λ n. length before.finals + n) same ∙ before.each;
          };
          answered = λ early. ap (λ (p : PointState). p.progress) ticked ∙ ap (limited now) (reported.answered (not_yet early));
          drive = λ moves. limit_moves now world.object.progress (ap is_moving (sym ticked) ∙ moves);
        }
      where
        no_loss : (out : Bool) → is_open world.ends.server.link.phase ≡ true → (not out && not (is_open world.ends.server.link.phase)) ≡ false
        no_loss true is = refl
        no_loss false is = ap not is

    -- out of one every move is answered
    pub out_answered : is_open world.ends.server.link.phase ≡ false → found.progress ≡ Answered
    out_answered closed = by (is_outside world.stage) refl where
      by : (b : Bool) → is_outside world.stage ≡ b → found.progress ≡ Answered
      by true out =
          ap (λ (p : PointState). p.progress) (step.stays (lost_is ∙ ap (λ b. not b && not (is_open world.ends.server.link.phase)) out))
          ∙ ap (limited now) (reported.answered (early_outside world.stage out))
      by false in_it = ap (λ (p : PointState). p.progress) (step.lost (lost_is ∙ ap (λ b. not b && not (is_open world.ends.server.link.phase)) in_it ∙ ap not closed))

    pub found_outside : is_open world.ends.server.link.phase ≡ false → IsFound now [] [] host
    found_outside closed = nothing_before now host (out_answered closed)
