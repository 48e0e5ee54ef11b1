use Rattle.std.proofs.Common.{◌≡◌, ◌++◌, take}
use Rattle.std.specs.List.{flat_map}
use Rattle.std.specs.Prelude.{string_bytes}
use Rattle.node_network.specs.Records.{thing_words}
use Rattle.node_network.proofs.entry.add_things.Given as goal

-- those of the things so far
abbrev pub invariant-loop-thing : goal.invariant-loop-thing
invariant-loop-thing l = string_bytes l.line ≡ string_bytes l.initial.line ++ flat_map (thing_words l.layout) (take l.thing-index l.things)
