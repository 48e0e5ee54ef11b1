-- The parts of a telegram are spelled as the telegram is written, and aren't longer than a telegram has room for.
use Rattle.std.proofs.Common.{◌≡◌, ℕ, suc, ◌-◌, ◌+◌, ◌≤◌, List, ◌++◌, length, drop, replicate, refl, ap, ◌∙◌, arith}
use Rattle.std.proofs.lemmas.List.{append_assoc, drop-replicate, length-append, length-replicate}
use Rattle.rasta_pdu.specs.Items.{IsItem}
use Rattle.sci_telegram.specs.declared.telegram.Telegram.{Telegram}
use Rattle.sci_telegram.specs.Messages.{payload, protocol_byte, protocol_of, type_number}
use Rattle.sci_telegram.specs.Names.{name_field}
use Rattle.sci_telegram.specs.Telegrams.{IsTelegram, writing}
use Rattle.codec.specs.Telegram.{IsWrittenSo, spelled}

spelled-written : (t : Telegram) → spelled (protocol_byte (protocol_of t.message)) (type_number t.message) t.sender t.receiver (payload t.message) ≡ writing t
unfolding spelled writing
spelled-written t = refl

pub spelled_as_written : (t : Telegram) (protocol kind : ℕ) (sender receiver given : List ℕ) → IsWrittenSo t protocol kind sender receiver given → spelled protocol kind sender receiver given ≡ writing t
spelled_as_written t protocol kind sender receiver given is =
    rw is.protocol_is (rw is.kind_is (rw is.sender_is (rw is.receiver_is (rw is.payload_is (spelled-written t)))))

-- how long a written telegram is
length-writing : (t : Telegram) → length (writing t) ≡ 3 + (length (name_field t.sender) + (length (name_field t.receiver) + length (payload t.message)))
unfolding writing
length-writing t =
    let e : length (writing t) ≡ suc (suc (suc (length (name_field t.sender ++ name_field t.receiver ++ payload t.message)))) = refl in
    omega (arith, e, length-append (name_field t.sender ++ name_field t.receiver) (payload t.message), length-append (name_field t.sender) (name_field t.receiver))

length-name_field : (name : List ℕ) → length name ≤ 20 → length (name_field name) ≡ 20
length-name_field name most = omega (arith, length-append name (replicate (20 - length name) 95), length-replicate {A = ℕ} (20 - length name) 95)

-- the names and the payload of a telegram are no longer than their places
pub parts_short : (t : Telegram) (protocol kind : ℕ) (sender receiver given : List ℕ) → IsTelegram t → IsWrittenSo t protocol kind sender receiver given → IsItem (writing t) → (length sender ≤ 20) × (length receiver ≤ 20) × (length given ≤ 18)
parts_short t protocol kind sender receiver given of is item =
    (rw is.sender_is of.sender.most, rw is.receiver_is of.receiver.most, rw is.payload_is (omega (arith, item.most, length-writing t, length-name_field t.sender of.sender.most, length-name_field t.receiver of.receiver.most)))

-- a name, and after it what is left of a field that it doesn't fill
pub put_padding : (old name after padded padding : List ℕ) → after ≡ old ++ name → padded ≡ after ++ padding → padding ≡ drop (length name) (replicate 20 95) → padded ≡ old ++ name_field name
put_padding old name after padded padding first second rest =
    second ∙ ap (λ (a : List ℕ). a ++ padding) first ∙ append_assoc old name padding ∙ ap (λ (p : List ℕ). old ++ (name ++ p)) (rest ∙ drop-replicate {X = ℕ} (length name) 20 95)
