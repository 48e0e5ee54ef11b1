-- Which node a number names, and the entry at a place.
use Rattle.std.proofs.Common.{◌≡◌, ◌∙◌, ◌<◌, ap, get_or, length, List, ℕ, Option, Some, refl, sym}
use Rattle.std.specs.Prelude.{slice_get}
use Rattle.std.specs.Option.{option_map}
use Rattle.std.proofs.lemmas.Option.{same_Some, slice_get_read}
use Rattle.node_kinds.specs.simulator_spec.layout.Entries.{Site}
use Rattle.node_kinds.specs.simulator_spec.layout.Nodes.{meant_node, node_at}
use Rattle.node_kinds.specs.simulator_spec.layout.declared.node.Node as code

-- the node of a number, as the layout told it
pub chosen_is : (told : Option code.Node) (node : code.Node) (site same : Site) (number : ℕ) → told ≡ Some node → option_map meant_node told ≡ node_at same number → same ≡ site → Some (meant_node node) ≡ node_at site number
chosen_is told node site same number is at are = sym (ap (option_map meant_node) is) ∙ at ∙ ap (λ s. node_at s number) are

-- the entry that was read at a place
pub entry_is : {Entry : Type 0} (entries same : List Entry) (place : ℕ) (entry one : Entry) → entries ≡ same → place < length same → entry ≡ get_or entries place entry → slice_get same place ≡ Some one → entry ≡ one
entry_is {Entry} entries same place entry one entries_are within is there =
    same_Some entry one (sym (slice_get_read same (length same) place entry refl within (is ∙ ap (λ (all : List Entry). get_or all place entry) entries_are)) ∙ there)
