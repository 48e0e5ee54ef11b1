-- Each fault is the first test that fails.
use Rattle.std.proofs.Common.{◌≡◌, ℕ, ◌≤◌, not, eqb, ltb, List, length, Some, None, Err, sym, ap, ◌∙◌, subst, ⊎_elim}
use Rattle.std.proofs.lemmas.Bool.{cond-true, cond-false, lt-ltb, le-ltb, eq-eqb, ne_eqb, ltb-true, ltb-false, eqb-true, eqb-false, not-true, not-false}
use Rattle.sci_telegram.specs.declared.fault.SciFault.{SciFault}
use Rattle.sci_telegram.specs.declared.fault.SciFault.TheVariants as faults
use Rattle.sci_telegram.specs.declared.kind.Kind.{Kind}
use Rattle.sci_telegram.specs.declared.message.Message.{Message}
use Rattle.sci_telegram.specs.declared.message.Protocol.{Protocol}
use Rattle.sci_telegram.specs.Messages.{protocol_of, protocol_byte, payload}
use Rattle.sci_telegram.specs.TelegramRead.{protocol_field, type_field, sender_field, receiver_field, payload_field, protocol_at, kind_at, payload_length, name_spelled, message_in, telegram_in, reading}
use Rattle.sci_telegram.specs.Faults.{HasProtocol, HasType, HasLength, HasNames, IsFault}
use Rattle.sci_telegram.proofs.Steps.{bind_some, bind_none, is_none, cases_option, bind_err, guard_err, some_or_none, same_some}
use Rattle.sci_telegram.proofs.NameFields.{spelled_takes, spelled_again, spells_none}
use Rattle.sci_telegram.proofs.Tables.{protocol_takes, protocol_again, kind_of, Carries, message_takes, kind_takes, kind_again, length_again, message_again, some_message, some_of_row}

-- the row that was found is that of every message which has the protocol and type of these bytes
record AtRow (bytes : List ℕ) (p : Protocol) (k : Kind) : Type 0 where
  protocol : protocol_at (protocol_field bytes) ≡ Some p
  kind : kind_at p (type_field bytes) ≡ Some k

same_protocol : (bytes : List ℕ) (p : Protocol) (m : Message) → protocol_at (protocol_field bytes) ≡ Some p → HasType bytes m → p ≡ protocol_of m
same_protocol bytes p m at has = same_some _ p (protocol_of m) at (ap protocol_at has.protocol ∙ protocol_again (protocol_of m))

found_kind : (bytes : List ℕ) (p : Protocol) (m : Message) → protocol_at (protocol_field bytes) ≡ Some p → HasType bytes m → kind_at p (type_field bytes) ≡ Some (kind_of m)
found_kind bytes p m at has = ap (λ (q : Protocol). kind_at q (type_field bytes)) (same_protocol bytes p m at has) ∙ ap (kind_at (protocol_of m)) has.type_number ∙ kind_again m

same_kind : (bytes : List ℕ) (p : Protocol) (k : Kind) (m : Message) → AtRow bytes p k → HasType bytes m → k ≡ kind_of m
same_kind bytes p k m at has = same_some _ k (kind_of m) at.kind (found_kind bytes p m at.protocol has)

-- and there is such a message
row_has : (bytes : List ℕ) (p : Protocol) (k : Kind) → AtRow bytes p k → HasType bytes (some_message p k)
row_has bytes p k at =
    let row = kind_takes p (type_field bytes) k at.kind in
    let of_row = some_of_row p k in
    record { protocol = protocol_takes _ p at.protocol ∙ ap protocol_byte (sym (of_row.protocol ∙ row.1)); type_number = row.0 ∙ sym of_row.number }

row_has_length : (bytes : List ℕ) (p : Protocol) (k : Kind) → AtRow bytes p k → length (payload_field bytes) ≡ payload_length k → HasLength bytes (some_message p k)
row_has_length bytes p k at sized = (row_has bytes p k at, sized ∙ sym ((some_of_row p k).length_is))

at_protocol : (bytes : List ℕ) → 43 ≤ length bytes → protocol_at (protocol_field bytes) ≡ None → IsFault bytes faults.Protocol
at_protocol bytes long none = (long, λ p h. some_or_none _ p (ap protocol_at h ∙ protocol_again p) none)

at_type : (bytes : List ℕ) (p : Protocol) → 43 ≤ length bytes → protocol_at (protocol_field bytes) ≡ Some p → kind_at p (type_field bytes) ≡ None → IsFault bytes faults.BadType
at_type bytes p long at none = (long, (p, protocol_takes _ p at), λ m has. some_or_none _ (kind_of m) (found_kind bytes p m at has) none)

at_length : (bytes : List ℕ) (p : Protocol) (k : Kind) → 43 ≤ length bytes → AtRow bytes p k → (length (payload_field bytes) ≡ payload_length k → ⊥) → IsFault bytes faults.Length
at_length bytes p k long at other = (long, (some_message p k, row_has bytes p k at), λ m has. other (has.1 ∙ length_again m ∙ ap payload_length (sym (same_kind bytes p k m at has.0))))

at_sender : (bytes : List ℕ) (p : Protocol) (k : Kind) → 43 ≤ length bytes → AtRow bytes p k → length (payload_field bytes) ≡ payload_length k → name_spelled (sender_field bytes) ≡ None → IsFault bytes faults.Name
at_sender bytes p k long at sized none = (long, (some_message p k, row_has_length bytes p k at sized), λ s r names. spells_none _ s none names.sender_is_name names.sender_spelled)

at_receiver : (bytes : List ℕ) (p : Protocol) (k : Kind) → 43 ≤ length bytes → AtRow bytes p k → length (payload_field bytes) ≡ payload_length k → name_spelled (receiver_field bytes) ≡ None → IsFault bytes faults.Name
at_receiver bytes p k long at sized none = (long, (some_message p k, row_has_length bytes p k at sized), λ s r names. spells_none _ r none names.receiver_is_name names.receiver_spelled)

at_value : (bytes : List ℕ) (p : Protocol) (k : Kind) (s r : List ℕ) → 43 ≤ length bytes → AtRow bytes p k → length (payload_field bytes) ≡ payload_length k → name_spelled (sender_field bytes) ≡ Some s → name_spelled (receiver_field bytes) ≡ Some r → message_in p k (payload_field bytes) ≡ None → IsFault bytes faults.Value
at_value bytes p k s r long at sized sender receiver none =
    let s_is = spelled_takes (sender_field bytes) s sender in
    let r_is = spelled_takes (receiver_field bytes) r receiver in
    let names : HasNames bytes s r = record { sender_is_name = s_is.0; receiver_is_name = r_is.0; sender_spelled = s_is.1; receiver_spelled = r_is.1 } in (
      long,
      (some_message p k, row_has_length bytes p k at sized),
      (s, r, names),
      λ m has same. some_or_none _ m (ap (λ (q : Protocol). message_in q k (payload_field bytes)) (same_protocol bytes p m at.protocol has) ∙ ap (λ (j : Kind). message_in (protocol_of m) j (payload_field bytes)) (same_kind bytes p k m at has) ∙ ap (message_in (protocol_of m) (kind_of m)) same ∙ message_again m) none,
    )

-- the faults of names and payload
in_fields : (bytes : List ℕ) (p : Protocol) (k : Kind) (fault : SciFault) → 43 ≤ length bytes → AtRow bytes p k → length (payload_field bytes) ≡ payload_length k → telegram_in p k (sender_field bytes) (receiver_field bytes) (payload_field bytes) ≡ Err fault → IsFault bytes fault
unfolding telegram_in
in_fields bytes p k fault long at sized e =
    ⊎_elim (λ h. subst (IsFault bytes) (sym h.1) (at_sender bytes p k long at sized h.0)) (λ sender.
    ⊎_elim (λ h. subst (IsFault bytes) (sym h.1) (at_receiver bytes p k long at sized h.0)) (λ receiver.
    ⊎_elim (λ h. subst (IsFault bytes) (sym h.1) (at_value bytes p k sender.0 receiver.0 long at sized sender.1 receiver.1 h.0)) (λ message. absurd (let e = message.2 in cc))
    (bind_err (message_in p k (payload_field bytes)) faults.Value fault _ receiver.2))
    (bind_err (name_spelled (receiver_field bytes)) faults.Name fault _ sender.2))
    (bind_err (name_spelled (sender_field bytes)) faults.Name fault _ e)

-- a fault of reading says of the bytes what it stands for
pub fault_means : (bytes : List ℕ) (fault : SciFault) → reading bytes ≡ Err fault → IsFault bytes fault
unfolding reading
fault_means bytes fault e =
    ⊎_elim (λ h. subst (IsFault bytes) (sym h.1) (ltb-true (length bytes) 43 h.0)) (λ long. let is_long = ltb-false (length bytes) 43 long.0 in
    ⊎_elim (λ h. subst (IsFault bytes) (sym h.1) (at_protocol bytes is_long h.0)) (λ protocol.
    ⊎_elim (λ h. subst (IsFault bytes) (sym h.1) (at_type bytes protocol.0 is_long protocol.1 h.0)) (λ kind.
    let at : AtRow bytes protocol.0 kind.0 = record { protocol = protocol.1; kind = kind.1 } in
    ⊎_elim (λ h. subst (IsFault bytes) (sym h.1) (at_length bytes protocol.0 kind.0 is_long at (eqb-false _ _ (not-true _ h.0)))) (λ sized.
    in_fields bytes protocol.0 kind.0 fault is_long at (eqb-true _ _ (not-false _ sized.0)) sized.1)
    (guard_err (not (eqb (length (payload_field bytes)) (payload_length kind.0))) faults.Length fault _ kind.2))
    (bind_err (kind_at protocol.0 (type_field bytes)) faults.BadType fault _ protocol.2))
    (bind_err (protocol_at (protocol_field bytes)) faults.Protocol fault _ long.1))
    (guard_err (ltb (length bytes) 43) faults.Short fault _ e)

-- ---- where a test fails, its fault is told

reading_at : (bytes : List ℕ) (p : Protocol) (k : Kind) → 43 ≤ length bytes → AtRow bytes p k → length (payload_field bytes) ≡ payload_length k → reading bytes ≡ telegram_in p k (sender_field bytes) (receiver_field bytes) (payload_field bytes)
unfolding reading
reading_at bytes p k long at sized =
    cond-false (ltb (length bytes) 43) _ _ (le-ltb (length bytes) 43 long)
    ∙ bind_some (protocol_at (protocol_field bytes)) faults.Protocol _ p at.protocol
    ∙ bind_some (kind_at p (type_field bytes)) faults.BadType _ k at.kind
    ∙ cond-false (not (eqb (length (payload_field bytes)) (payload_length k))) _ _ (ap not (eq-eqb _ _ sized))

row_of : (bytes : List ℕ) (m : Message) → HasType bytes m → AtRow bytes (protocol_of m) (kind_of m)
row_of bytes m has =
    record { protocol = ap protocol_at has.protocol ∙ protocol_again (protocol_of m); kind = ap (kind_at (protocol_of m)) has.type_number ∙ kind_again m }

told_protocol : (bytes : List ℕ) → 43 ≤ length bytes → ((p : Protocol) → HasProtocol bytes p → ⊥) → reading bytes ≡ Err faults.Protocol
unfolding reading
told_protocol bytes long none =
    cond-false (ltb (length bytes) 43) _ _ (le-ltb (length bytes) 43 long)
    ∙ bind_none (protocol_at (protocol_field bytes)) faults.Protocol _ (is_none _ (λ p e. none p (protocol_takes _ p e)))

told_type : (bytes : List ℕ) (p : Protocol) → 43 ≤ length bytes → HasProtocol bytes p → ((m : Message) → HasType bytes m → ⊥) → reading bytes ≡ Err faults.BadType
unfolding reading
told_type bytes p long has none =
    let at : protocol_at (protocol_field bytes) ≡ Some p = ap protocol_at has ∙ protocol_again p in
    cond-false (ltb (length bytes) 43) _ _ (le-ltb (length bytes) 43 long)
    ∙ bind_some (protocol_at (protocol_field bytes)) faults.Protocol _ p at
    ∙ bind_none (kind_at p (type_field bytes)) faults.BadType _ (is_none _ (λ k e. none (some_message p k) (row_has bytes p k (record { protocol = at; kind = e }))))

told_length : (bytes : List ℕ) (m : Message) → 43 ≤ length bytes → HasType bytes m → (HasLength bytes m → ⊥) → reading bytes ≡ Err faults.Length
unfolding reading
told_length bytes m long has none =
    let at = row_of bytes m has in
    cond-false (ltb (length bytes) 43) _ _ (le-ltb (length bytes) 43 long)
    ∙ bind_some (protocol_at (protocol_field bytes)) faults.Protocol _ (protocol_of m) at.protocol
    ∙ bind_some (kind_at (protocol_of m) (type_field bytes)) faults.BadType _ (kind_of m) at.kind
    ∙ cond-true (not (eqb (length (payload_field bytes)) (payload_length (kind_of m)))) _ _ (ap not (ne_eqb _ _ (λ e. none (has, e ∙ sym (length_again m)))))

told_in_names : (bytes : List ℕ) (p : Protocol) (k : Kind) → ((s r : List ℕ) → HasNames bytes s r → ⊥) → telegram_in p k (sender_field bytes) (receiver_field bytes) (payload_field bytes) ≡ Err faults.Name
unfolding telegram_in
told_in_names bytes p k none =
    ⊎_elim (λ no_sender. bind_none (name_spelled (sender_field bytes)) faults.Name _ no_sender) (λ sender.
    let sender_is = spelled_takes (sender_field bytes) sender.0 sender.1 in
    bind_some (name_spelled (sender_field bytes)) faults.Name _ sender.0 sender.1
    ∙ bind_none (name_spelled (receiver_field bytes)) faults.Name _ (is_none _ (λ r e.
    let receiver_is = spelled_takes (receiver_field bytes) r e in
    none sender.0 r (record { sender_is_name = sender_is.0; receiver_is_name = receiver_is.0; sender_spelled = sender_is.1; receiver_spelled = receiver_is.1 }))))
    (cases_option (name_spelled (sender_field bytes)))

told_in_value : (bytes : List ℕ) (p : Protocol) (k : Kind) (s r : List ℕ) → HasNames bytes s r → ((m : Message) → message_in p k (payload_field bytes) ≡ Some m → ⊥) → telegram_in p k (sender_field bytes) (receiver_field bytes) (payload_field bytes) ≡ Err faults.Value
unfolding telegram_in
told_in_value bytes p k s r names none =
    bind_some (name_spelled (sender_field bytes)) faults.Name _ s (ap name_spelled names.sender_spelled ∙ spelled_again s names.sender_is_name)
    ∙ bind_some (name_spelled (receiver_field bytes)) faults.Name _ r (ap name_spelled names.receiver_spelled ∙ spelled_again r names.receiver_is_name)
    ∙ bind_none (message_in p k (payload_field bytes)) faults.Value _ (is_none _ none)

-- what a row carries has its protocol and type
carried_type : (bytes : List ℕ) (p : Protocol) (k : Kind) (m : Message) → AtRow bytes p k → Carries p k (payload_field bytes) m → HasType bytes m
carried_type bytes p k m at carries =
    let row = kind_takes p (type_field bytes) k at.kind in
    record { protocol = protocol_takes _ p at.protocol ∙ ap protocol_byte (sym (carries.protocol ∙ row.1)); type_number = row.0 ∙ sym carries.number }

told_value : (bytes s r : List ℕ) (m : Message) → 43 ≤ length bytes → HasLength bytes m → HasNames bytes s r → ((m : Message) → HasType bytes m → payload_field bytes ≡ payload m → ⊥) → reading bytes ≡ Err faults.Value
told_value bytes s r m long has names none =
    let p = protocol_of m in
    let k = kind_of m in
    let at = row_of bytes m has.0 in
    let sized : length (payload_field bytes) ≡ payload_length k = has.1 ∙ length_again m in
    reading_at bytes p k long at sized
    ∙ told_in_value bytes p k s r names (λ other e. let carries = message_takes p k (payload_field bytes) other sized e in none other (carried_type bytes p k other at carries) carries.bytes_are)

-- the fault of bytes is what reading them answers
pub fault_told : (bytes : List ℕ) (fault : SciFault) → IsFault bytes fault → reading bytes ≡ Err fault
unfolding reading
fault_told bytes faults.Short h = cond-true (ltb (length bytes) 43) _ _ (lt-ltb (length bytes) 43 h)
fault_told bytes faults.Protocol h = told_protocol bytes h.0 h.1
fault_told bytes faults.BadType h = told_type bytes h.1.0 h.0 h.1.1 h.2
fault_told bytes faults.Length h = told_length bytes h.1.0 h.0 h.1.1 (h.2 h.1.0)
fault_told bytes faults.Name h =
    let m = h.1.0 in
    reading_at bytes (protocol_of m) (kind_of m) h.0 (row_of bytes m h.1.1.0) (h.1.1.1 ∙ length_again m) ∙ told_in_names bytes (protocol_of m) (kind_of m) h.2
fault_told bytes faults.Value h = told_value bytes h.2.0 h.2.1 h.1.0 h.0 h.1.1 h.2.2 h.3
