use Rattle.std.proofs.Common.{◌≡◌, ◌<◌, ◌≤◌, ◌∙◌, ◌-◌, ◌/◌, ℕ, [], ◌∷◌, ◌++◌, length, Some, None, ap, subst, refl, arith}
use Rattle.std.proofs.lemmas.List.{length-replicate}
use Rattle.replay_lines.specs.Names.{node_names}
use Rattle.station_drive.specs.Drives.{beginning}
use Rattle.station_drive.specs.Rounds.{RoundHeard}
use Rattle.station_drive.proofs.Composed.{performs_none, stopped, stops_all, stops_none}
use Rattle.station_drive.proofs.Rows.{all-lead, all-push, length-drives_after}
use Rattle.station_drive.proofs.Turns.{broken_round, next_read, next_round, next_standing}
use Rattle.station_drive.proofs.engine.Engine.drive.Goals as goal

-- no round was begun
pub returns-in_err-course-clause-stopped : goal.returns-in_err-course-clause-stopped
returns-in_err-course-clause-stopped g c =
    stopped c.from_residual.result (record {
      first = c.read-first.result;
      made = [];
      broken = None;
      read = c.read-first.ensures.told;
      plain = tt;
      goes_on = tt;
      stops = stops_none _ _;
      all_made = omega arith;
    })

pub loop-init : goal.loop-init
loop-init g c =
    let began = c.in_ok-course.ensures in (
      [],
      c.read-first.ensures.told,
      tt,
      tt,
      performs_none _,
      began,
      ap (λ s. s.first) began,
      ap (λ s. length s.drives) began ∙ length-replicate _ _,
      tt,
    )

-- a round was broken off
pub returns-in_err-round-clause-stopped : goal.returns-in_err-round-clause-stopped
returns-in_err-round-clause-stopped g c =
    let before = c.loop.invariant in
    let last = c.in_err-round.ensures.stopped in
    let turn : RoundHeard = record { reading = c.read-reading.result; heard = last.heard; asked = []; jammed = [] } in
    let cut = broken_round _ c.loop.course before.0 turn before.5 before.4 last.stops in
    stopped c.from_residual-in_err-round.result (record {
      first = c.read-first.result;
      made = before.0;
      broken = Some turn;
      read = next_read _ _ _ _ before.0 turn before.1 c.read-reading.ensures.told;
      plain = all-push _ before.0 turn before.2 (record { whole = last.each ∙ ap (λ p. length (node_names p)) before.4.same_site; unasked = refl; unjammed = refl });
      goes_on = before.3;
      stops = cut.0;
      all_made = cut.1;
    })

pub returns-then-passed-for_ms-clause-done : goal.returns-then-passed-for_ms-clause-done
returns-then-passed-for_ms-clause-done g c =
    let s = g.S.Station in
    let site = s.site c.args.self.now.station in
    let before = c.loop.invariant in
    let done = c.in_ok-round.ensures.done in
    let turn : RoundHeard = record { reading = c.read-reading.result; heard = done.heard; asked = []; jammed = [] } in
    let first : c.round.new.course.first ≡ c.read-first.result = ap (λ k. k.first) c.in_ok-round.ensures.course ∙ before.6 in
    let late = c.passed-passed.ensures ∙ ap (λ (n : ℕ). (c.read-reading.result - n) / 1000) first in
    record {
      first = c.read-first.result;
      earlier = before.0;
      last = turn;
      read = next_read _ _ _ _ before.0 turn before.1 c.read-reading.ensures.told;
      plain = all-push _ before.0 turn before.2 (record { whole = done.each ∙ ap (λ p. length (node_names p)) before.4.same_site; unasked = refl; unjammed = refl });
      goes_on = before.3;
      over = subst (λ n. c.args.for_ms ≤ n) late c.if-passed-for_ms.true;
      performs = next_round _ c.loop.course before.0 turn before.5 before.4 done.performs;
    }

-- it was stopped, later than after each round before
pub returns-then-is_stopped-clause-done : goal.returns-then-is_stopped-clause-done
returns-then-is_stopped-clause-done g c =
    let s = g.S.Station in
    let site = s.site c.args.self.now.station in
    let before = c.loop.invariant in
    let done = c.in_ok-round.ensures.done in
    let turn : RoundHeard = record { reading = c.read-reading.result; heard = done.heard; asked = []; jammed = [] } in
    let first : c.round.new.course.first ≡ c.read-first.result = ap (λ k. k.first) c.in_ok-round.ensures.course ∙ before.6 in
    let late = c.passed-passed.ensures ∙ ap (λ (n : ℕ). (c.read-reading.result - n) / 1000) first in
    let passed = c.passed-passed.result in
    let most = c.loop.most in
    let longer : most < passed = c.if-passed-most.true in
    record {
      first = c.read-first.result;
      earlier = before.0;
      last = turn;
      read = next_read _ _ _ _ before.0 turn before.1 c.read-reading.ensures.told;
      plain = all-push _ before.0 turn before.2 (record { whole = done.each ∙ ap (λ p. length (node_names p)) before.4.same_site; unasked = refl; unjammed = refl });
      goes_on = all-lead (λ one. (one.reading - c.read-first.result) / 1000 ≤ most) (λ one. (one.reading - c.read-first.result) / 1000 < passed) (λ one h. omega (arith, h, longer)) before.0 before.8;
      over = subst (λ n. passed ≤ n) late (omega arith);
      performs = next_round _ c.loop.course before.0 turn before.5 before.4 done.performs;
    }

pub loop-preserved : goal.loop-preserved
loop-preserved g c =
    let s = g.S.Station in
    let site = s.site c.args.self.now.station in
    let before = c.loop.invariant in
    let done = c.in_ok-round.ensures.done in
    let turn : RoundHeard = record { reading = c.read-reading.result; heard = done.heard; asked = []; jammed = [] } in
    let start = beginning site c.args.script.now c.read-first.result in
    let performs = next_round start c.loop.course before.0 turn before.5 before.4 done.performs in
    let course = c.in_ok-round.ensures.course in
    let first : c.round.new.course.first ≡ c.read-first.result = ap (λ k. k.first) course ∙ before.6 in
    let late = c.passed-passed.ensures ∙ ap (λ (n : ℕ). (c.read-reading.result - n) / 1000) first in
    let most = c.loop.most in
    let latest = c.later-most.result in
    let older = c.later-most.ensures.one in
    let newest = c.later-most.ensures.other in (
      before.0 ++ turn ∷ [],
      next_read _ _ _ _ before.0 turn before.1 c.read-reading.ensures.told,
      all-push _ before.0 turn before.2 (record { whole = done.each ∙ ap (λ p. length (node_names p)) before.4.same_site; unasked = refl; unjammed = refl }),
      all-push _ before.0 turn before.3 (subst (λ n. n < c.args.for_ms) late c.if-passed-for_ms.false),
      performs,
      next_standing start c.loop.course _ before.0 turn performs before.5 course,
      first,
      ap (λ k. length k.drives) course ∙ (length-drives_after _ _ _ _ ∙ before.7),
      all-push _ before.0 turn
          (all-lead (λ one. (one.reading - c.read-first.result) / 1000 ≤ most) (λ one. (one.reading - c.read-first.result) / 1000 ≤ latest) (λ one h. omega (arith, h, older)) before.0 before.8)
          (subst (λ n. n ≤ latest) late newest),
    )

-- no round was broken off
pub returns-clause-stopped : goal.returns-clause-stopped
returns-clause-stopped g c =
    let before = c.loop.invariant in
    let all = stops_all before.4 in
    record { first = c.read-first.result; made = before.0; broken = None; read = before.1; plain = before.2; goes_on = before.3; stops = all.0; all_made = all.1 }
