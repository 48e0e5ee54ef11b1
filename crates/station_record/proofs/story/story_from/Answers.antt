use Rattle.std.proofs.Common.{◌≡◌, ◌≢◌, ◌+◌, ◌∷◌, ◌++◌, ◌∙◌, List, drop, map, sym, ap, refl, subst}
use Rattle.std.proofs.lemmas.List.{drop_more}
use Rattle.replay.specs.World.{answer, played}
use Rattle.replay.specs.simulator_spec.Tried.{Played}
use Rattle.replay.specs.replay_lines.declared.session.Entry.{Entry}
use Rattle.lane_chart.specs.declared.change.Change.{Change}
use Rattle.lane_chart.specs.declared.change.Happening.{Happening}
use Rattle.lane_chart.specs.declared.lane.Lane.{Lane}
use Rattle.station_record.specs.Changes.{TellsEvents, TellsLanes, change_to, watch_of}
use Rattle.station_record.specs.Lanes.{lanes_of}
use Rattle.station_record.specs.Marks.{marks_of, seen_mark}
use Rattle.station_record.specs.Story.{world_behind}
use Rattle.station_record.specs.inside.FirstChanges.{first_change}
use Rattle.station_record.specs.declared.watch.Watch.{Watch}
use Rattle.station_record.proofs.Agreed.{agreed_begins, agreed_closes, agreed_goes_on, differs_here, failed}
use Rattle.station_record.proofs.Events.{Happened, behind_close, behind_more, events_begin, events_close, events_go_on, marks_close, marks_more}
use Rattle.station_record.proofs.Looks.{first_told, watched_again}
use Rattle.station_record.proofs.story.story_from.Goals as goal

pub loop-place-init : goal.loop-place-init
loop-place-init c =
    let first = played c.args.world.now
    in let entries = c.args.entries.now
    in let lanes = c.in_ok-lanes.lanes.items
    in let shown = map (change_to 0 first) lanes
    in let watches : c.in_ok-watches.watches.items ≡ map (watch_of first) lanes = c.in_ok-watches.ensures ∙ ap (map (watch_of first)) c.deref.ensures.value
    in let changes : c.in_ok-changes.changes.items ≡ shown = c.in_ok-changes.ensures ∙ ap (map (first_change c.time.result)) (c.deref-2.ensures.value ∙ watches) ∙ first_told first c.time.result lanes c.time.ensures
    in record {
      stands = agreed_begins entries first;
      watches = watches;
      changes = subst (λ (now : List Change). Happened lanes first entries 0 first shown now) (sym changes) (events_begin lanes first entries shown);
      behind = refl;
      happenings = ap (λ (happenings : List Happening). map seen_mark happenings ++ marks_of 1 first entries) c.new-happenings.ensures.items;
    }

pub returns-then-not-branch-clause-differs : goal.returns-then-not-branch-clause-differs
returns-then-not-branch-clause-differs c =
    let entries = c.args.entries.now
    in let place = c.loop-place.place
    in let entry = c.index-entries-place.result
    in let now = played c.loop-place.world
    in let left = drop_more entries place entry c.loop-place-test.true ∙ ap (λ (e : Entry). e ∷ drop (place + 1) entries) (sym c.index-entries-place.is)
    in let other : answer now entry.event ≢ entry.answer = failed c.in_ok-agrees.field-0 c.in_ok-agrees.ensures.same c.if-not-branch.true
    in differs_here entries (played c.args.world.now) now place entry left other c.loop-place.invariant.stands

pub loop-place-preserved : goal.loop-place-preserved
loop-place-preserved c =
    let first = played c.args.world.now
    in let lanes = c.in_ok-lanes.lanes.items
    in let entries = c.args.entries.now
    in let place = c.loop-place.place
    in let entry = c.index-entries-place.result
    in let now = played c.loop-place.world
    in let then = played c.agrees.new.station
    in let moved = c.in_ok-agrees.ensures.happens
    in let left = drop_more entries place entry c.loop-place-test.true ∙ ap (λ (e : Entry). e ∷ drop (place + 1) entries) (sym c.index-entries-place.is)
    in let watched = c.deref-in-loop-place.ensures.value ∙ c.loop-place.invariant.watches
    in let told = c.in_ok-next.ensures.told
    in let tells = subst (λ (watches : List Watch). TellsLanes (place + 1) then watches told.0) watched told.1
    in record {
      stands = agreed_goes_on entries first now then place entry left (c.in_ok-agrees.ensures.same.0 c.if-not-branch.false) moved c.loop-place.invariant.stands;
      watches = c.in_ok-next.ensures.next ∙ ap (map (λ (watch : Watch). watch_of then watch.lane)) watched ∙ watched_again now then lanes;
      changes = events_go_on lanes first entries place entry now then (map (change_to 0 first) lanes) c.loop-place.changes.items c.look_at_all.new.changes.items told.0 left moved tells told.2
          c.loop-place.invariant.changes;
      behind = behind_more entries place entry now then (world_behind first entries) left moved c.loop-place.invariant.behind;
      happenings = marks_more first entries place entry now then (map seen_mark c.loop-place.happenings.items) (map seen_mark c.add_happening.new.happenings.items) (marks_of 1 first entries) left moved
          c.in_ok-add_happening.ensures c.loop-place.invariant.happenings;
    }

pub returns-clause-agree : goal.returns-clause-agree
returns-clause-agree c =
    agreed_closes c.args.entries.now (played c.args.world.now) (played c.loop-place.world) c.loop-place.place c.loop-place-test.false c.loop-place.invariant.stands

pub returns-clause-told : goal.returns-clause-told
returns-clause-told c =
    let first = played c.args.world.now
    in let now = played c.loop-place.world
    in let entries = c.args.entries.now
    in let place = c.loop-place.place
    in let changes = c.loop-place.changes.items
    in let lanes = c.in_ok-lanes.lanes.items
    in let are : lanes ≡ lanes_of first.sited.site = c.in_ok-lanes.ensures ∙ ap lanes_of (c.layout.ensures.entries ∙ c.table.ensures)
    in let told = events_close lanes first entries place now (map (change_to 0 first) lanes) changes c.loop-place-test.false c.loop-place.invariant.changes
    in record {
      history = subst (λ (all : List Lane). (told : List Change) × TellsEvents all 1 first entries told × (changes ≡ map (change_to 0 first) all ++ told)) are told;
      happenings = marks_close entries place now (map seen_mark c.loop-place.happenings.items) (marks_of 1 first entries) c.loop-place-test.false c.loop-place.invariant.happenings;
      end = c.time-2.ensures ∙ ap (λ (w : Played). w.run.time) (behind_close entries place now (world_behind first entries) c.loop-place-test.false c.loop-place.invariant.behind);
    }
