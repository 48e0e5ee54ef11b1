-- The connections that the interlocking began, as they are kept.
use Rattle.simulator_field.specs.Network.{NetworkState}
use Rattle.simulator_spec.specs.Interlocking.{Sending}
use Rattle.simulator.specs.declared.connections.Connections.{Connections}

-- what was begun and sent so far
abbrev pub sending_by : Connections → NetworkState → Sending
sending_by connections network = record { connections = connections.begun.items; sent = network.sent }
