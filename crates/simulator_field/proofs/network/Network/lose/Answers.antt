use Rattle.std.proofs.Common.{◌<◌, ◌∙◌, length, ap, refl, arith}
use Rattle.std.proofs.lemmas.List.{length-map}
use Rattle.place_index.specs.Places.{IndexState}
use Rattle.simulator_field.specs.Network.{NetworkState}
use Rattle.simulator_field.specs.inside.Entries.{on_link}
use Rattle.simulator_field.proofs.Kept.{kept_lost}
use Rattle.simulator_field.proofs.Searches.{as_many_keys, keys-lost}
use Rattle.simulator_field.proofs.Views.{seen_lost}
use Rattle.simulator_field.proofs.network.Network.lose.Goals as goal

pub remove-requires : goal.remove-requires
remove-requires c =
    let below : c.args.place < length c.self.inside.entries.items = omega (arith, length-map c.self.inside.entries.items (on_link c.self.inside.row.items), ap (λ (s : NetworkState). length s.sent) c.self.view_is)
    in omega (arith, as_many_keys c.self.inside.index.keys c.self.inside.row.items c.self.inside.entries.items c.self.invariant.3)

pub invariant_of-self : goal.invariant_of-self
invariant_of-self c =
    let below : c.args.place < length c.self.inside.entries.items = omega (arith, length-map c.self.inside.entries.items (on_link c.self.inside.row.items), ap (λ (s : NetworkState). length s.sent) c.self.view_is)
    in (
      kept_lost c.self.inside.time c.self.inside.row.items c.self.inside.entries.items c.args.place c.index_mut.result.now _ c.self.invariant.0 below c.index_mut.ensures.value refl refl refl,
      c.self.invariant.1,
      c.self.invariant.2,
      ap (λ (i : IndexState). i.keys) c.remove.ensures ∙ keys-lost c.self.inside.index.keys c.self.inside.row.items c.self.inside.entries.items c.args.place _ c.self.invariant.3 refl,
      omega (arith, ap (λ (i : IndexState). i.room) c.remove.ensures, c.self.invariant.4),
    )

pub returns : goal.returns
returns c = λ one is_one.
    let below : c.args.place < length c.self.inside.entries.items = omega (arith, length-map c.self.inside.entries.items (on_link c.self.inside.row.items), ap (λ (s : NetworkState). length s.sent) c.self.view_is)
    in seen_lost c.self.inside.time c.self.inside.room c.args.place c.self.inside.row.items c.self.inside.entries.items c.index_mut.result.now _ c.args.self.now one c.self.view_is below c.index_mut.ensures.value refl is_one
