use Rattle.std.proofs.Common.{◌≡◌, ◌+◌, List, All, sym, ap, ◌∙◌, length, arith, subst, rules}
use Rattle.std.proofs.lemmas.List.Elements.{All-push}
use Rattle.control_table.specs.layout.Entries.{Site}
use Rattle.route_lock.specs.Rows.{none}
use Rattle.route_lock.specs.declared.rows.Locked.{Locked}
use Rattle.route_lock.proofs.KeptLaws.{kept-none, none-set}
use Rattle.route_lock.proofs.locks.Locks.new.Goals as goal

pub loop-route-preserved : goal.loop-route-preserved
loop-route-preserved c =
    let old = c.loop-route.locks.items in
    let more = c.in_ok-push.ensures.items in
    let count = c.loop-route.invariant.0 in
    let all : List Locked → Type 0 = λ xs. All (λ k. k ≡ none) xs in
    (grind (arith, more, count), subst all (sym more) (All-push (λ k. k ≡ none) old c.none.result c.loop-route.invariant.1 c.none.ensures))

pub invariant_of-result : goal.invariant_of-result
invariant_of-result c =
    let facts = c.facts_of.ensures in
    let count = c.loop-route.invariant.0 in
    let end = c.loop-route-test.false in
    let far = c.loop-route.auto._route-end in
    let routes = ap length (c.routes-route-end.ensures ∙ ap (λ (l : Site). l.routes) c.layout.ensures.entries) in
    kept-none c.in_ok-table.table c.loop-route.locks.items c.all_of-all.result facts.once facts.station facts.sound (omega (arith, count, end, far, routes)) c.loop-route.invariant.1 (search rules)

pub returns-clause-free : goal.returns-clause-free
returns-clause-free c = none-set c.in_ok-table.table c.loop-route.locks.items c.loop-route.invariant.1
