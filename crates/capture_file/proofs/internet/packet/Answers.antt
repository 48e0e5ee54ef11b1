use Rattle.std.proofs.Common.{rules, subst, sym, append_assoc}
use Rattle.capture_file.specs.Internet.{IsPacket, packet_bytes, udp_bytes}
use Rattle.capture_file.proofs.Packets.{is_packet}
use Rattle.capture_file.proofs.internet.packet.Goals as goal

pub returns-clause-exact : goal.returns-clause-exact
unfolding packet_bytes udp_bytes
returns-clause-exact c = search (rules, append_assoc)

pub returns-clause-is : goal.returns-clause-is
returns-clause-is c =
    subst (λ b. IsPacket c.args.journey.now c.args.payload.now b) (sym (returns-clause-exact c)) (is_packet c.args.journey.now c.args.payload.now c.requires c.udp_checksum_of.ensures.known)
