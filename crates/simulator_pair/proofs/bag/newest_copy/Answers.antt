use Rattle.std.proofs.Common.{rules, ◌≡◌, ◌+◌, ◌≤◌, ◌∙◌, ap, sym, subst, false, Some, arith}
use Rattle.std.specs.Option.{option_map}
use Rattle.rasta_core.specs.Bag.{is_copy}
use Rattle.rasta_core.specs.Ends.{Sent}
use Rattle.simulator_pair.proofs.Order.{sent_by}
use Rattle.simulator_pair.proofs.Copies.{SearchedBack, back_begins, back_more, newest_found, newest_too_old, newest_until, place_within}
use Rattle.simulator_pair.proofs.bag.newest_copy.Goals as goal

pub loop-found-init : goal.loop-found-init
loop-found-init c = back_begins _ _ _ _ _ c.requires.indexed c.key_of.ensures.value c.newest-found.ensures.found c.newest-found.ensures.none

pub overflow_add-at : goal.overflow_add-at
overflow_add-at c =
    let is : c.loop-found.found ≡ Some c.in-Some.place = cc
    in let searched = subst (SearchedBack c.args.bytes.now c.args.index.now.keys c.args.sent.now) is c.loop-found.invariant
    in let below = place_within c.args.bytes.now c.args.index.now.keys c.args.sent.now c.in-Some.place c.requires.indexed searched.1
    in let by_time = sent_by c.args.time c.args.sent.now c.requires.in_order c.in-Some.place c.index-sent-place.result below
    in let at_by : c.at.result ≤ c.args.time = rw c.at.ensures (rw c.index-sent-place.is by_time)
    in omega arith

pub returns-then-at-time : goal.returns-then-at-time
returns-then-at-time c =
    let is : c.loop-found.found ≡ Some c.in-Some.place = cc
    in let searched = subst (SearchedBack c.args.bytes.now c.args.index.now.keys c.args.sent.now) is c.loop-found.invariant
    in let below = place_within c.args.bytes.now c.args.index.now.keys c.args.sent.now c.in-Some.place c.requires.indexed searched.1
    in let too_old = newest_too_old c.args.time c.args.time c.args.bytes.now c.args.sent.now c.in-Some.place c.index-sent-place.result c.requires.in_order below c.index-sent-place.is (omega arith)
    in ap (option_map (λ (s : Sent). s.connection)) (sym too_old ∙ newest_until c.args.time c.args.bytes.now c.args.sent.now (c.in-Some.place + 1) searched.0)

pub returns-then-is_copy : goal.returns-then-is_copy
returns-then-is_copy c =
    let is : c.loop-found.found ≡ Some c.in-Some.place = cc
    in let searched = subst (SearchedBack c.args.bytes.now c.args.index.now.keys c.args.sent.now) is c.loop-found.invariant
    in let below = place_within c.args.bytes.now c.args.index.now.keys c.args.sent.now c.in-Some.place c.requires.indexed searched.1
    in let found = newest_found c.args.time c.args.bytes.now c.args.sent.now c.in-Some.place c.index-sent-place.result below c.index-sent-place.is (omega arith) (search rules)
    in ap Some c.connection.ensures ∙ ap (option_map (λ (s : Sent). s.connection)) (sym found ∙ newest_until c.args.time c.args.bytes.now c.args.sent.now (c.in-Some.place + 1) searched.0)

pub loop-found-preserved : goal.loop-found-preserved
loop-found-preserved c =
    let is : c.loop-found.found ≡ Some c.in-Some.place = cc
    in let searched = subst (SearchedBack c.args.bytes.now c.args.index.now.keys c.args.sent.now) is c.loop-found.invariant
    in let no_copy : is_copy c.args.bytes.now c.index-sent-place.result ≡ false = search rules
    in back_more _ _ _ c.in-Some.place c.index-sent-place.result _ c.requires.indexed searched c.index-sent-place.is no_copy c.older-found.ensures.found c.older-found.ensures.none

pub returns : goal.returns
returns c =
    let searched = subst (SearchedBack c.args.bytes.now c.args.index.now.keys c.args.sent.now) c.in_default.is c.loop-found.invariant
    in ap (option_map (λ (s : Sent). s.connection)) (newest_until c.args.time c.args.bytes.now c.args.sent.now 0 searched.0)
