use Rattle.std.proofs.Common.{◌≡◌, ◌++◌, ◌∷◌, ◌+◌, List, drop, map, ap}
use Rattle.std.proofs.lemmas.List.{drop_more}
use Rattle.replay.specs.World.{played}
use Rattle.station_record.specs.Changes.{watch_of}
use Rattle.station_record.specs.declared.watch.Watch.{Watch}
use Rattle.station_record.proofs.Looks.{looks_begin, looks_close, looks_go_on, seen_close, seen_more, watch_added, watch_told}
use Rattle.station_record.proofs.story.look_at_all.Goals as goal

pub loop-watch-init : goal.loop-watch-init
loop-watch-init c =
    let view : Watch → Watch = λ watch. watch_of (played c.args.world.now) watch.lane
    in record {
      looked = looks_begin c.args.line (played c.args.world.now) c.args.watches.now c.args.changes.now.items;
      next = ap (λ (next : List Watch). next ++ map view c.args.watches.now) c.in_ok-next.ensures.items;
    }

pub loop-watch-preserved : goal.loop-watch-preserved
loop-watch-preserved c =
    let world = played c.args.world.now
    in let watches = c.args.watches.now
    in let place = c.loop-watch.watch-index
    in let watch = watch_told c.args.line world _ c.loop-watch.changes.items c.look.new.changes.items c.in_ok-seen.ensures.told
    in let left : drop place watches ≡ watch ∷ drop (place + 1) watches = drop_more watches place _ c.loop-watch-test.true
    in let view : Watch → Watch = λ watch. watch_of world watch.lane
    in record {
      looked = looks_go_on c.args.line world watches place watch c.args.changes.now.items c.loop-watch.changes.items c.look.new.changes.items left c.in_ok-seen.ensures.told c.loop-watch.invariant.looked;
      next = seen_more view watches place watch c.loop-watch.next.items c.push.new.self.items left
          (watch_added world watch c.in_ok-seen.seen c.loop-watch.next.items c.push.new.self.items c.in_ok-push.ensures.items c.in_ok-seen.ensures.seen) c.loop-watch.invariant.next;
    }

pub returns-clause-next : goal.returns-clause-next
returns-clause-next c =
    let view : Watch → Watch = λ watch. watch_of (played c.args.world.now) watch.lane
    in seen_close view c.args.watches.now c.loop-watch.watch-index c.loop-watch.next.items c.loop-watch-test.false c.loop-watch.invariant.next

pub returns-clause-told : goal.returns-clause-told
returns-clause-told c =
    looks_close c.args.line (played c.args.world.now) c.args.watches.now c.loop-watch.watch-index c.args.changes.now.items c.loop-watch.changes.items c.loop-watch-test.false c.loop-watch.invariant.looked
