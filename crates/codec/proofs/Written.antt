-- The fields and the payload of a PDU are spelled as the PDU is written.
use Rattle.std.proofs.Common.{◌≡◌, ℕ, ◌+◌, ◌≤◌, List, length, refl, ap, ◌∙◌, arith}
use Rattle.std.proofs.lemmas.List.{length-append}
use Rattle.md4.specs.Md4.{digest}
use Rattle.rasta_pdu.specs.declared.key.Key.{Key}
use Rattle.rasta_pdu.specs.declared.pdu.Pdu.{Pdu}
use Rattle.rasta_pdu.specs.SafetyCode.{code}
use Rattle.rasta_pdu.specs.Spelling.{fields, text, writing}
use Rattle.codec.specs.declared.pdu.PduFields.{PduFields}
use Rattle.codec.specs.Pdu.{fields_of, head, payload_of, spelled}
use Rattle.codec.specs.Pdu as own

pub spelled-written : (key : Key) (pdu : Pdu) → spelled key (fields_of pdu) (payload_of pdu) ≡ writing key pdu
unfolding spelled own.text head writing text fields
spelled-written key pdu = refl

-- fields and a payload that are those of a PDU
pub spelled_as_written : (key : Key) (pdu : Pdu) (given : PduFields) (payload : List ℕ) → given ≡ fields_of pdu → payload ≡ payload_of pdu → spelled key given payload ≡ writing key pdu
spelled_as_written key pdu given payload same is = ap (λ (one : PduFields). spelled key one payload) same ∙ ap (spelled key (fields_of pdu)) is ∙ spelled-written key pdu

length-code : (key : Key) (bytes : List ℕ) → length (code key bytes) ≡ 8
unfolding code digest
length-code key bytes = refl

length-fields : (pdu : Pdu) (n : ℕ) → length (fields pdu n) ≡ 28
unfolding fields
length-fields pdu n = refl

length-text : (pdu : Pdu) → length (text pdu) ≡ length (payload_of pdu) + 28
unfolding text
length-text pdu = omega (arith, length-append (fields pdu (length (payload_of pdu))) (payload_of pdu), length-fields pdu (length (payload_of pdu)))

length-writing : (key : Key) (pdu : Pdu) → length (writing key pdu) ≡ length (payload_of pdu) + 36
unfolding writing
length-writing key pdu = omega (arith, length-append (text pdu) (code key (text pdu)), length-code key (text pdu), length-text pdu)

-- a payload is at most three items long
pub payload_short : (key : Key) (pdu : Pdu) → length (writing key pdu) ≤ 225 → length (payload_of pdu) ≤ 189
payload_short key pdu most = omega (arith, length-writing key pdu, most)
