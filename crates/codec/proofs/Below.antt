-- Definitions of the layers below that proofs here unfold.
unfoldable pub use Rattle.rasta_pdu.specs.SafetyCode.{code}
