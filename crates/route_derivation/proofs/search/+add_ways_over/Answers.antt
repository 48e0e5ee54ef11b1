use Rattle.std.proofs.Common.{◌≡◌, ◌≢◌, sym, true, false, arith}
use Rattle.std.proofs.lemmas.Result.{err_from_is_err_and}
use Rattle.route_derivation.specs.declared.search.Beyond.TheVariants as comes
use Rattle.route_derivation.specs.inside.WaySearch.{comes_to, may_go}
use Rattle.route_derivation.proofs.Adding.{adds_at_none, adds_at_full, adds_at_stop, adds_at_nowhere, adds_at_end, adds_further_err, adds_further_ok}
use Rattle.route_derivation.proofs.search.+add_ways_over.Goals as goal

pub returns-in-None : goal.returns-in-None
returns-in-None t c =
    adds_at_none c.args.search.layout.now c.args.search.signal c.args.room c.args.before.now c.args.passage c.args.found.now.items c.in-None.is

pub returns-then-room-eq0 : goal.returns-then-room-eq0
returns-then-room-eq0 t c =
    adds_at_full c.args.search.layout.now c.args.search.signal c.args.room c.args.before.now c.args.passage c.args.found.now.items c.in-Some.passage c.in-Some.is c.if-room-eq0.true

pub returns-then-not-may_go : goal.returns-then-not-may_go
returns-then-not-may_go t c =
    let stop : may_go c.args.search.layout.now c.args.before.now c.in-Some.passage ≡ false = cc in
    adds_at_stop c.args.search.layout.now c.args.search.signal c.args.room c.args.before.now c.args.passage c.args.found.now.items c.in-Some.passage c.in-Some.is stop

pub returns-in-Nowhere : goal.returns-in-Nowhere
returns-in-Nowhere t c =
    let go : may_go c.args.search.layout.now c.args.before.now c.in-Some.passage ≡ true = cc in
    let to : comes_to c.args.search.layout.now c.args.search.signal c.in-Some.passage.left ≡ comes.Nowhere = sym c.in-Nowhere.ensures in
    adds_at_nowhere c.args.search.layout.now c.args.search.signal c.args.room c.args.before.now c.args.passage c.args.found.now.items c.in-Some.passage c.in-Some.is go to

pub returns-in-Exit : goal.returns-in-Exit
returns-in-Exit t c =
    let go : may_go c.args.search.layout.now c.args.before.now c.in-Some.passage ≡ true = cc in
    let to : comes_to c.args.search.layout.now c.args.search.signal c.in-Some.passage.left ≡ comes.Exit c.in-Exit.exit = sym c.in-Exit.ensures in
    let some : c.args.room ≢ 0 = omega arith in
    adds_at_end c.args.search.layout.now c.args.search.signal c.args.room c.args.before.now c.args.passage c.args.found.now.items c.in-Some.passage c.in-Exit.exit
    c.in_ok-longer.longer c.ended.result c.add_way.result c.add_way.new.found.items c.in-Some.is some go to c.in_ok-longer.ensures c.ended.ensures c.add_way.ensures

pub returns-in_err-add_ways_over-in-On : goal.returns-in_err-add_ways_over-in-On
returns-in_err-add_ways_over-in-On t c =
    let go : may_go c.args.search.layout.now c.args.before.now c.in-Some.passage ≡ true = cc in
    let to : comes_to c.args.search.layout.now c.args.search.signal c.in-Some.passage.left ≡ comes.On c.in-On.entered = sym c.in-On.ensures in
    let some : c.args.room ≢ 0 = omega arith in
    let p = err_from_is_err_and c.from_residual-in_err-add_ways_over-in-On.result c.from_residual-in_err-add_ways_over-in-On.ensures.1 in
    rw (p.1, p.2) (adds_further_err c.args.search.layout.now c.args.search.signal c.args.room c.args.before.now c.args.passage c.args.found.now.items c.in-Some.passage c.in-On.entered
    c.in_ok-longer.longer c.first_out.result c.in_err-add_ways_over-in-On.field-0.0 c.add_ways_over.new.found.items c.in-Some.is some go to c.in_ok-longer.ensures c.first_out.ensures c.in_err-add_ways_over-in-On.ensures)

pub returns-in_ok-add_ways_over-in-On : goal.returns-in_ok-add_ways_over-in-On
returns-in_ok-add_ways_over-in-On t c =
    let go : may_go c.args.search.layout.now c.args.before.now c.in-Some.passage ≡ true = cc in
    let to : comes_to c.args.search.layout.now c.args.search.signal c.in-Some.passage.left ≡ comes.On c.in-On.entered = sym c.in-On.ensures in
    let some : c.args.room ≢ 0 = omega arith in
    adds_further_ok c.args.search.layout.now c.args.search.signal c.args.room c.args.before.now c.args.passage c.args.found.now.items c.in-Some.passage c.in-On.entered
    c.in_ok-longer.longer c.first_out.result c.second_out.result c.add_ways_over-in-On.result c.add_ways_over.new.found.items c.add_ways_over-in-On.new.found.items c.in-Some.is some go to c.in_ok-longer.ensures c.first_out.ensures c.second_out.ensures c.in_ok-add_ways_over-in-On.ensures c.add_ways_over-in-On.ensures
