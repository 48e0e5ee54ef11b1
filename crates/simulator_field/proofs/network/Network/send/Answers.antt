use Rattle.std.proofs.Common.{ℕ, List, [], ◌∷◌, length, refl, ◌≡◌, ◌<◌, ◌++◌, ◌∙◌, ap, sym, subst, rules, arith}
use Rattle.place_index.specs.Places.{IndexState}
use Rattle.simulator_field.specs.Network.{NetworkState}
use Rattle.simulator_field.specs.declared.entry.Entry.{Entry}
use Rattle.simulator_field.specs.inside.Entries.{AreKept}
use Rattle.simulator_field.specs.inside.Indexed.{keys_of}
use Rattle.simulator_field.proofs.Kept.{kept_sent}
use Rattle.simulator_field.proofs.Searches.{keys-sent}
use Rattle.simulator_field.proofs.Views.{new_entry, seen_sent}
use Rattle.simulator_field.proofs.network.Network.send.Goals as goal

pub push-requires-clause-room : goal.push-requires-clause-room
push-requires-clause-room c =
    let some : 0 < c.self.inside.room = omega (arith, ap (λ (s : NetworkState). s.room) c.self.view_is)
    in omega (arith, c.self.invariant.4)

pub invariant_of-self : goal.invariant_of-self
invariant_of-self c =
    let some : 0 < c.self.inside.room = omega (arith, ap (λ (s : NetworkState). s.room) c.self.view_is)
    in let row_is : c.extend_from_slice.new.self.items ≡ c.self.inside.row.items ++ c.as_slice-bytes.result.now = search rules
    in let kept = kept_sent c.self.inside.time c.self.inside.row.items c.as_slice-bytes.result.now c.self.inside.entries.items
    (new_entry c.len.result (length c.as_slice-bytes.result.now) c.self.inside.time c.unwrap_or.result c.args.link c.args.sender) c.self.invariant.0 (search rules) refl refl
    in let Kept = λ (row : List ℕ) (entries : List Entry). AreKept c.self.inside.time row entries
    in (
      subst (λ row. Kept row c.push_reserved.new.self.items) (sym row_is) (subst (Kept (c.self.inside.row.items ++ c.as_slice-bytes.result.now)) (sym c.push_reserved.ensures.items) kept),
      search rules,
      search rules,
      ap (λ (i : IndexState). i.keys) c.push.ensures
          ∙ ap (λ k. c.self.inside.index.keys ++ k ∷ []) c.key_of.ensures.value
          ∙ keys-sent c.self.inside.index.keys c.self.inside.row.items c.as_slice-bytes.result.now c.self.inside.entries.items
          (new_entry c.len.result (length c.as_slice-bytes.result.now) c.self.inside.time c.unwrap_or.result c.args.link c.args.sender) c.self.invariant.0.within c.self.invariant.3 (search rules) refl refl
          ∙ ap (λ (r : List ℕ). keys_of r (c.self.inside.entries.items ++ new_entry c.len.result (length c.as_slice-bytes.result.now) c.self.inside.time c.unwrap_or.result c.args.link c.args.sender ∷ [])) (sym row_is)
          ∙ ap (keys_of c.extend_from_slice.new.self.items) (sym c.push_reserved.ensures.items),
      omega (arith, ap (λ (i : IndexState). i.room) c.push.ensures, c.self.invariant.4),
    )

pub returns : goal.returns
returns c =
    let some : 0 < c.self.inside.room = omega (arith, ap (λ (s : NetworkState). s.room) c.self.view_is)
    in let row_is : c.extend_from_slice.new.self.items ≡ c.self.inside.row.items ++ c.as_slice-bytes.result.now = search rules
    in seen_sent c.self.inside.time c.self.inside.room c.len.result c.unwrap_or.result c.args.link c.self.inside.row.items c.as_slice-bytes.result.now c.args.datagram.now.items _ c.self.inside.entries.items _ c.args.sender c.args.connection c.args.self.now
    c.self.view_is c.self.invariant.0 (search rules) c.as_slice-bytes.ensures.value row_is c.push_reserved.ensures.items c.unwrap_or.ensures
