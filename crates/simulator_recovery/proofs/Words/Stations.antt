-- Words of layouts, of stations and of what happens to them.
pub use Rattle.simulator_link_laws.specs.Calls.{AreOfNodes, IsNodeOf, link_at, node_call}
pub use Rattle.simulator_link_laws.specs.Events.{FollowsBy, anew_events, contact_events, delivery_events, detector_events, host_events, interlocking_events, numbers_below, point_events, restart_events, signal_events, tick_events, time_events}
unfoldable pub use Rattle.simulator_link_laws.specs.Events.{events_of}
pub use Rattle.simulator_link_laws.specs.HasLinks.{HasLinks, IsStanding, links_in}
pub use Rattle.simulator_link_laws.specs.Nodes.{IsEndOfServer, MayComeWith}
pub use Rattle.simulator_link_laws.specs.Whole.{HasClients, IsNamed, IsPeer, IsWhole, client_states}
pub use Rattle.simulator_safety.specs.InFlight.{given_on}
pub use Rattle.simulator_safety.specs.Reached.{IsReached, IsReadOff, IsTakenOf}
pub use Rattle.simulator_safety.specs.Represents.{IsNetworkOf, Represents, RepresentsAfter, given_in}
pub use Rattle.simulator_safety.specs.Seen.{positions_at}
pub use Rattle.simulator_spec.specs.Controllers.{has_entered, step_of}
unfoldable pub use Rattle.simulator_spec.specs.Controllers.{controller_after, controller_anew, controller_later, sent_by_controller}
pub use Rattle.simulator_spec.specs.First.{Beginning, IsOutsetOf, Outset, at_rest, at_zero, first_controller, named_section, new_detector, new_detector_of, new_known_point_of, new_known_signal_of, new_point, new_route_of, new_signal, point_standing}
unfoldable pub use Rattle.simulator_spec.specs.First.{new_ixl, world_at}
pub use Rattle.simulator_spec.specs.Flow.{Flowing, delivery, did, due, next_drive, position_of, reach, round, round_of_time}
unfoldable pub use Rattle.simulator_spec.specs.Flow.{all_did, deliveries, next_drives, reaches, ticks}
pub use Rattle.simulator_spec.specs.Happens.{Stepped, all_later, answered_by, coming, delivered_to, detector_anew, made_anew, point_anew, sensed_by, signal_anew, ticked_at}
unfoldable pub use Rattle.simulator_spec.specs.Happens.{answered, detector_stepped, happens, interlocking_stepped, passed, point_stepped, signal_stepped, stepped_at}
pub use Rattle.simulator_spec.specs.Interlocking.{Sending, begun_by, interlocking_step, link_of}
unfoldable pub use Rattle.simulator_spec.specs.Interlocking.{sending_all, sending_one}
pub use Rattle.simulator_spec.specs.Links.{AreLinksOf, IsClientAt, IsServerAt, ServerEnd, client_links, end_of_server, names_at, server_ends, starts_at_zero}
pub use Rattle.simulator_spec.specs.Network.{connection_of, copy_of, datagrams_of}
pub use Rattle.simulator_spec.specs.Nodes.{Detector, Interlocking, Node, controller_at, detector_link, key_of, links, node_at, nodes, partners, point_link}
pub use Rattle.simulator_spec.specs.Refusals.{all_within, are_within, clock_limit, driven_at, driven_by, interlocking_within, is_missing, keeps_time, may_reach, refused_where}
unfoldable pub use Rattle.simulator_spec.specs.Refusals.{refusal, refusal_of_time}
pub use Rattle.simulator_spec.specs.Run.{CanHappen, after_all}
pub use Rattle.simulator_spec.specs.Seen.{shown_by}
pub use Rattle.simulator_spec.specs.State.{ClockedControllerState, ClockedInterlockingState, WorldState}
pub use Rattle.simulator_spec.specs.Tried.{Played, after, arrival_in, arriving, arriving_if, driven, receiver, refusal_of, world_where}
pub use Rattle.simulator_spec.specs.bit_row.Places.{Places}
pub use Rattle.simulator_spec.specs.control_table.Path.{Passage, Path}
pub use Rattle.simulator_spec.specs.control_table.Table.{AreSections, InLayoutOrder, RouteRequires, is_slow, telegram_version}
pub use Rattle.simulator_spec.specs.control_table.Topology.{IsRoute, Joined}
pub use Rattle.simulator_spec.specs.declared.round.FoundDriven.{FoundDriven}
pub use Rattle.simulator_spec.specs.declared.round.RoundEvent.{RoundEvent}
pub use Rattle.simulator_spec.specs.layout.Entries.{DetectorEntry, RouteEntry, Site}
pub use Rattle.simulator_spec.specs.layout.Once.{Distinct, Once}
unfoldable pub use Rattle.simulator_spec.specs.layout.Once.{all_names}
pub use Rattle.simulator_spec.specs.layout.Station.{HasElement, HasPort, HasSection, IsDetectorOf, IsRouteOf, IsStation}
pub use Rattle.simulator_spec.specs.layout.declared.entries.Joint.{Joint}
pub use Rattle.simulator_spec.specs.layout.declared.entries.Point.{Point}
pub use Rattle.simulator_spec.specs.layout.declared.entries.Signal.{Signal}
pub use Rattle.simulator_spec.specs.layout.declared.ids.PointId.{PointId}
pub use Rattle.simulator_spec.specs.layout.declared.ids.RouteId.{RouteId}
pub use Rattle.simulator_spec.specs.layout.declared.ids.SectionId.{SectionId}
pub use Rattle.simulator_spec.specs.layout.declared.port.Port.{Port}
pub use Rattle.simulator_spec.specs.simulator_event.declared.event.Event.{Event}
pub use Rattle.simulator_spec.specs.simulator_event.declared.event.Event.TheVariants.{Deliver, Request}
pub use Rattle.simulator_spec.specs.simulator_event.declared.reply.Answer.{Answer}
pub use Rattle.simulator_spec.specs.simulator_event.declared.reply.Answer.TheVariants.{Accepted}
pub use Rattle.simulator_spec.specs.simulator_event.layout.declared.ids.NodeId.{NodeId}
pub use Rattle.simulator_spec.specs.simulator_event.refused.Refused.{Refused}
pub use Rattle.simulator_spec.specs.simulator_event.refused.Refused.TheVariants.{NeverSent}
