use Rattle.std.proofs.Common.{◌≡◌}
use Rattle.toml.specs.View.{members_view, table_view}
use Rattle.node_addresses.specs.Addresses.{unknown_key}
use Rattle.node_addresses.proofs.keys.check_keys.Given as goal

-- the keys so far are names of nodes, so the keys that are left decide
abbrev pub invariant-loop-key : goal.invariant-loop-key
invariant-loop-key l =
    (goal.iterator-loop-key).can_next l.key-iterator ×
    (goal.iterator-loop-key).is_finite l.key-iterator ×
    (unknown_key l.layout (members_view l.key-iterator) ≡ unknown_key l.layout (table_view l.document))
