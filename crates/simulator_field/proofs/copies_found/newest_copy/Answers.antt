use Rattle.std.proofs.Common.{◌≡◌, None, Some, ap, arith, subst, sym, ◌∙◌}
use Rattle.std.specs.Option.{option_map}
use Rattle.simulator_spec.specs.rasta_core.Ends.{Sent}
use Rattle.simulator_field.proofs.Copies.{back_begins, newest_until}
use Rattle.simulator_field.proofs.Searches.{KnowsBack, copies, newest_before, newest_there, no_entry, none_alive}
use Rattle.simulator_field.proofs.copies_found.newest_copy.Goals as goal

pub loop-found-init : goal.loop-found-init
loop-found-init c = back_begins c.args.bytes.now c.args.index.now.keys (copies c.args.row.now c.args.entries.now) _ _ c.requires.indexed c.key_of.ensures.value c.newest-found.ensures.found c.newest-found.ensures.none

pub returns-then-saturating_sub-gt-LIFETIME_MICROS : goal.returns-then-saturating_sub-gt-LIFETIME_MICROS
returns-then-saturating_sub-gt-LIFETIME_MICROS c =
    let is : c.loop-found.found ≡ Some c.in-Some.place = cc
    in let knows = subst (KnowsBack c.args.bytes.now c.args.index.now.keys c.args.row.now c.args.entries.now) is c.loop-found.invariant
    in none_alive c.args.time c.args.bytes.now c.args.index.now.keys c.args.row.now c.args.entries.now c.in-Some.place no_entry c.requires.kept c.requires.indexed knows (omega arith)

pub returns-then-is_copy : goal.returns-then-is_copy
returns-then-is_copy c =
    let is : c.loop-found.found ≡ Some c.in-Some.place = cc
    in let knows = subst (KnowsBack c.args.bytes.now c.args.index.now.keys c.args.row.now c.args.entries.now) is c.loop-found.invariant
    in newest_there c.args.time c.args.bytes.now c.args.index.now.keys c.args.row.now c.args.entries.now c.in-Some.place _ c.requires.indexed knows (omega arith) (sym c.is_copy.ensures ∙ c.if-is_copy.true)

pub loop-found-preserved : goal.loop-found-preserved
loop-found-preserved c =
    let is : c.loop-found.found ≡ Some c.in-Some.place = cc
    in let knows = subst (KnowsBack c.args.bytes.now c.args.index.now.keys c.args.row.now c.args.entries.now) is c.loop-found.invariant
    in newest_before c.args.bytes.now c.args.index.now.keys c.args.row.now c.args.entries.now c.in-Some.place _ _ c.requires.indexed knows (sym c.is_copy.ensures ∙ c.if-is_copy.false) c.older-found.ensures.found c.older-found.ensures.none

pub returns : goal.returns
returns c =
    let knows = subst (KnowsBack c.args.bytes.now c.args.index.now.keys c.args.row.now c.args.entries.now) c.in_default.is c.loop-found.invariant
    in ap (option_map (λ (s : Sent). s.connection)) (newest_until c.args.time c.args.bytes.now (copies c.args.row.now c.args.entries.now) 0 knows.0)
