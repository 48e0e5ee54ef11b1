use Rattle.std.proofs.Common.{rules, ◌≡◌, subst, true, false, Some}
use Rattle.rasta_core.specs.Bag.{is_copy}
use Rattle.simulator_pair.proofs.Copies.{SearchedOn, has_none, oldest_is, on_begins, on_more, place_within}
use Rattle.simulator_pair.proofs.bag.oldest_copy.Goals as goal

pub loop-found-init : goal.loop-found-init
loop-found-init c = on_begins _ _ _ _ _ c.requires c.key_of.ensures.value c.oldest-found.ensures.found c.oldest-found.ensures.none

pub returns-then-is_copy-clause-found : goal.returns-then-is_copy-clause-found
returns-then-is_copy-clause-found c =
    let is : c.loop-found.found ≡ Some c.in-Some.place = cc
    in let searched = subst (SearchedOn c.args.bytes.now c.args.index.now.keys c.args.sent.now) is c.loop-found.invariant
    in let below = place_within c.args.bytes.now c.args.index.now.keys c.args.sent.now c.in-Some.place c.requires searched.1
    in let copy : is_copy c.args.bytes.now c.index-sent-place.result ≡ true = search rules
    in let oldest = oldest_is c.args.bytes.now c.args.sent.now c.in-Some.place c.index-sent-place.result below c.index-sent-place.is copy searched.0
    in (oldest.0, record { copy = c.index-sent-place.result; below = below; there = c.index-sent-place.is; lost = oldest.1 })

pub loop-found-preserved : goal.loop-found-preserved
loop-found-preserved c =
    let is : c.loop-found.found ≡ Some c.in-Some.place = cc
    in let searched = subst (SearchedOn c.args.bytes.now c.args.index.now.keys c.args.sent.now) is c.loop-found.invariant
    in let no_copy : is_copy c.args.bytes.now c.index-sent-place.result ≡ false = search rules
    in on_more _ _ _ c.in-Some.place c.index-sent-place.result _ c.requires searched c.index-sent-place.is no_copy c.newer-found.ensures.found c.newer-found.ensures.none

pub returns-clause-none : goal.returns-clause-none
returns-clause-none c =
    let searched = subst (SearchedOn c.args.bytes.now c.args.index.now.keys c.args.sent.now) c.in_default.is c.loop-found.invariant
    in has_none c.args.bytes.now c.args.sent.now searched.0
