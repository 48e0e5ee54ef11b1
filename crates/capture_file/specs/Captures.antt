-- A whole capture file.
use Rattle.std.specs.Prelude.{List, ℕ, [], ◌∷◌, ◌++◌}
use Rattle.capture_file.specs.Journeys.{Sent}
use Rattle.capture_file.specs.Blocks.{IsBlock, IsPacketBlock, SECTION_HEADER, section_body, INTERFACE_DESCRIPTION, interface_body}

-- Bytes are a capture of datagrams: a section header, the description of the interface, and a block for each datagram, in
-- order.
pub data IsCapture : List Sent → List ℕ → Type 0 where
  begins : {section interface : List ℕ} → IsBlock SECTION_HEADER section_body section → IsBlock INTERFACE_DESCRIPTION interface_body interface → IsCapture [] (section ++ interface)
  goes_on : {sent : List Sent} {one : Sent} {before bytes : List ℕ} → IsCapture sent before → IsPacketBlock one bytes → IsCapture (sent ++ one ∷ []) (before ++ bytes)
