use Rattle.std.proofs.Common.{◌≡◌, ◌≢◌, ◌<◌, ◌+◌, length, refl, sym, ap, ◌∙◌, subst, arith}
use Rattle.place_index.specs.Places.{key_at, no_key}
use Rattle.place_index.specs.inside.Rings.{CanSearch}
use Rattle.place_index.proofs.Searches.{behind-own, can_from_place, first_like, key-read, none_from_like}
use Rattle.place_index.proofs.place_index.PlaceIndex.newer.Goals as goal

pub first_behind-requires : goal.first_behind-requires
first_behind-requires c =
    let keys = ap (λ i. i.keys) c.self.view_is
    in let count = ap length keys
    in let within : c.args.place < length c.self.inside.keys.items = omega (arith, count, c.requires.within)
    in let key = key-read c.self.inside.keys.items c.args.place c.index-key.result.now within c.index-key.ensures
    in let is_key : c.index-key.result.now ≢ no_key = λ e. c.requires.has_key (ap (λ k. key_at k c.args.place) (sym keys) ∙ key ∙ e)
    in subst (λ k. CanSearch c.self.inside.buckets (c.self.inside.buckets + c.args.place) c.index-key.result.now k c.self.inside.rings.newer.items c.self.inside.rings.older.items) (sym c.as_slice.ensures.value)
    (can_from_place _ _ _ _ _ _ _ c.self.invariant.0 within is_key key)

pub returns-clause-found : goal.returns-clause-found
returns-clause-found c =
    let keys = ap (λ i. i.keys) c.self.view_is
    in let count = ap length keys
    in let within : c.args.place < length c.self.inside.keys.items = omega (arith, count, c.requires.within)
    in let key = key-read c.self.inside.keys.items c.args.place c.index-key.result.now within c.index-key.ensures
    in first_like _ _ _ _ _ _ _ (behind-own _ c.args.place) (sym key ∙ ap (λ k. key_at k c.args.place) keys) (c.as_slice.ensures.value ∙ keys) c.first_behind.ensures.found

pub returns-clause-none : goal.returns-clause-none
returns-clause-none c =
    let keys = ap (λ i. i.keys) c.self.view_is
    in let count = ap length keys
    in let within : c.args.place < length c.self.inside.keys.items = omega (arith, count, c.requires.within)
    in let key = key-read c.self.inside.keys.items c.args.place c.index-key.result.now within c.index-key.ensures
    in none_from_like _ _ _ _ _ _ _ (behind-own _ c.args.place) (sym key ∙ ap (λ k. key_at k c.args.place) keys) (c.as_slice.ensures.value ∙ keys) c.first_behind.ensures.none
