use Rattle.std.proofs.Common.{◌<◌, ◌≤◌, ◌%◌, length, refl, sym, ap, ◌∙◌, subst, arith}
use Rattle.place_index.specs.inside.Rings.{CanSearch}
use Rattle.place_index.proofs.Searches.{behind-bucket, can_from_bucket, first_like, none_anywhere, none_from_like}
use Rattle.place_index.proofs.place_index.PlaceIndex.oldest.Goals as goal

pub first_behind-requires : goal.first_behind-requires
first_behind-requires c =
    let some : 0 < c.self.inside.buckets = omega arith
    in subst (λ k. CanSearch c.self.inside.buckets (c.args.key % c.self.inside.buckets) c.args.key k c.self.inside.rings.newer.items c.self.inside.rings.older.items) (sym c.as_slice.ensures.value)
    (can_from_bucket _ _ _ _ _ _ c.self.invariant.0 c.requires some)

pub returns-clause-found : goal.returns-clause-found
returns-clause-found c =
    let some : 0 < c.self.inside.buckets = omega arith
    in let low : c.args.key % c.self.inside.buckets < c.self.inside.buckets = omega arith
    in let keys = ap (λ i. i.keys) c.self.view_is
    in first_like _ _ _ _ _ _ _ (behind-bucket _ _ low) refl (c.as_slice.ensures.value ∙ keys) c.first_behind.ensures.found

pub returns-clause-none : goal.returns-clause-none
returns-clause-none c =
    let some : 0 < c.self.inside.buckets = omega arith
    in let low : c.args.key % c.self.inside.buckets < c.self.inside.buckets = omega arith
    in let keys = ap (λ i. i.keys) c.self.view_is
    in none_from_like _ _ _ _ _ _ _ (behind-bucket _ _ low) refl (c.as_slice.ensures.value ∙ keys) c.first_behind.ensures.none
