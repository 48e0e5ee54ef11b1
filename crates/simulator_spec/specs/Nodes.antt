-- The nodes of a station: how many, under which names and identities, and by which numbers events name them.
pub use Rattle.ixl_spec.specs.First.{key_of, names_of}
pub use Rattle.ixl_spec.specs.layout.Nodes.{links, nodes, partners, Node, Interlocking, Signal, Point, Detector, point_link, detector_link, controller_at, node_at}
