use Rattle.std.proofs.Common.{◌≡◌, Some, arith, subst, sym, ◌∙◌}
use Rattle.simulator_field.proofs.Copies.{has_none, on_begins}
use Rattle.simulator_field.proofs.Searches.{KnowsOn, copies, oldest_later, oldest_there}
use Rattle.simulator_field.proofs.copies_found.oldest_copy.Goals as goal

pub loop-found-init : goal.loop-found-init
loop-found-init c = on_begins c.args.bytes.now c.args.index.now.keys (copies c.args.row.now c.args.entries.now) _ _ c.requires.indexed c.key_of.ensures.value c.oldest-found.ensures.found c.oldest-found.ensures.none

pub returns-then-is_copy-clause-found : goal.returns-then-is_copy-clause-found
returns-then-is_copy-clause-found c =
    let is : c.loop-found.found ≡ Some c.in-Some.place = cc
    in let knows = subst (KnowsOn c.args.bytes.now c.args.index.now.keys c.args.row.now c.args.entries.now) is c.loop-found.invariant
    in oldest_there c.args.bytes.now c.args.index.now.keys c.args.row.now c.args.entries.now c.in-Some.place _ c.requires.indexed knows (sym c.is_copy.ensures ∙ c.if-is_copy.true)

pub loop-found-preserved : goal.loop-found-preserved
loop-found-preserved c =
    let is : c.loop-found.found ≡ Some c.in-Some.place = cc
    in let knows = subst (KnowsOn c.args.bytes.now c.args.index.now.keys c.args.row.now c.args.entries.now) is c.loop-found.invariant
    in oldest_later c.args.bytes.now c.args.index.now.keys c.args.row.now c.args.entries.now c.in-Some.place _ _ c.requires.indexed knows (sym c.is_copy.ensures ∙ c.if-is_copy.false) c.newer-found.ensures.found c.newer-found.ensures.none

pub returns-clause-none : goal.returns-clause-none
returns-clause-none c =
    let knows = subst (KnowsOn c.args.bytes.now c.args.index.now.keys c.args.row.now c.args.entries.now) c.in_default.is c.loop-found.invariant
    in has_none c.args.bytes.now (copies c.args.row.now c.args.entries.now) knows.0
