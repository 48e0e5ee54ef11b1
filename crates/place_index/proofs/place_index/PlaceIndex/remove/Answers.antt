use Rattle.std.proofs.Common.{◌≡◌, ◌≢◌, ◌<◌, length, refl, sym, ap, ◌∙◌, arith}
use Rattle.std.proofs.lemmas.List.{get_or_default}
use Rattle.place_index.specs.Places.{key_at, no_key}
use Rattle.place_index.proofs.Whole.{linked_place, whole-left, whole-like}
use Rattle.place_index.proofs.place_index.PlaceIndex.remove.Goals as goal

pub leave-requires-clause-newer_there : goal.leave-requires-clause-newer_there
leave-requires-clause-newer_there c =
    let whole = c.self.invariant.0
    in let keys = ap (λ i. length i.keys) c.self.view_is
    in let within : c.args.place < length c.self.inside.keys.items = omega (arith, keys, c.requires)
    in let has_key : key_at c.self.inside.keys.items c.args.place ≢ no_key = λ e. c.if-index.true (c.index.ensures ∙ get_or_default _ _ _ no_key within ∙ e)
    in let linked = linked_place _ _ _ _ _ _ whole within has_key
    in omega (arith, linked.1.newer_within, whole.older_length)

pub leave-requires-clause-older_there : goal.leave-requires-clause-older_there
leave-requires-clause-older_there c =
    let whole = c.self.invariant.0
    in let keys = ap (λ i. length i.keys) c.self.view_is
    in let within : c.args.place < length c.self.inside.keys.items = omega (arith, keys, c.requires)
    in let has_key : key_at c.self.inside.keys.items c.args.place ≢ no_key = λ e. c.if-index.true (c.index.ensures ∙ get_or_default _ _ _ no_key within ∙ e)
    in let linked = linked_place _ _ _ _ _ _ whole within has_key
    in omega (arith, linked.1.older_within, whole.newer_length)

pub invariant_of-self : goal.invariant_of-self
invariant_of-self c =
    let keys = ap (λ i. length i.keys) c.self.view_is
    in let within : c.args.place < length c.self.inside.keys.items = omega (arith, keys, c.requires)
    in let has_key : key_at c.self.inside.keys.items c.args.place ≢ no_key = λ e. c.if-index.true (c.index.ensures ∙ get_or_default _ _ _ no_key within ∙ e)
    in (
      whole-like _ _ _ _ _ _ _ _ refl c.leave.ensures.newer c.leave.ensures.older (whole-left _ _ _ _ _ _ c.self.invariant.0 within has_key),
      omega arith,
      omega arith,
      omega arith,
    )
