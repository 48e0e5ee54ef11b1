use Rattle.std.proofs.Common.{◌≤◌, ◌<◌, ◌-◌, length, ◌∙◌, subst, arith}
use Rattle.std.proofs.lemmas.List.{get_or_default}
use Rattle.place_index.specs.Places.{no_key}
use Rattle.place_index.proofs.Searches.{IsBehind, behind_first, behind_less, behind_more, found_behind, none_behind, read}
use Rattle.place_index.proofs.rings.Rings.last_before.Goals as goal

pub loop-at-init : goal.loop-at-init
loop-at-init c =
    let there : c.args.node < length c.args.self.now.older.items = omega arith
    in subst (IsBehind c.args.buckets c.args.node c.args.key c.args.keys.now) (read _ _ _ there c.index.ensures) (behind_first _ _ _ _ _ _ c.requires)

pub returns-then-keys-place-clause-found : goal.returns-then-keys-place-clause-found
returns-then-keys-place-clause-found c =
    let place : c.args.buckets ≤ c.loop-at.at = omega arith
    in let inside : c.loop-at.at - c.args.buckets < length c.args.keys.now = omega (arith, c.loop-at.invariant.within)
    in found_behind _ _ _ _ _ c.loop-at.invariant place (get_or_default _ _ no_key 0 inside ∙ c.if-keys-place.true)

pub loop-at-preserved : goal.loop-at-preserved
loop-at-preserved c =
    let place : c.args.buckets ≤ c.loop-at.at = omega arith
    in let inside : c.loop-at.at - c.args.buckets < length c.args.keys.now = omega (arith, c.loop-at.invariant.within)
    in let there : c.loop-at.at < length c.args.self.now.older.items = omega (arith, c.loop-at.invariant.within)
    in subst (IsBehind c.args.buckets c.args.node c.args.key c.args.keys.now) (read _ _ _ there c.index-in-loop-at.ensures)
    (behind_more _ _ _ _ _ _ _ c.requires c.loop-at.invariant place (λ e. c.if-keys-place.false (get_or_default _ _ 0 no_key inside ∙ e)))

pub loop-at-smaller : goal.loop-at-smaller
loop-at-smaller c =
    let place : c.args.buckets ≤ c.loop-at.at = omega arith
    in let there : c.loop-at.at < length c.args.self.now.older.items = omega (arith, c.loop-at.invariant.within)
    in subst (λ x. x < c.loop-at.at) (read _ _ _ there c.index-in-loop-at.ensures) (behind_less _ _ _ _ _ _ _ c.requires c.loop-at.invariant place)

pub returns-clause-none : goal.returns-clause-none
returns-clause-none c = λ place inside same. none_behind _ _ _ _ place _ c.loop-at.invariant (omega arith) inside same
