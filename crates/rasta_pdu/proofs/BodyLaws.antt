-- The payload of each type: what is read is spelled so, what is spelled so is read, and the faults.
use Rattle.std.proofs.Common.{◌≡◌, ℕ, ◌^◌, ◌<◌, false, not, eqb, List, [], ◌++◌, length, take, drop, Ok, refl, sym, ap, subst, ◌∙◌, append_assoc, arith}
use Rattle.std.specs.Int.{w16, from_le_bytes, to_le_bytes}
use Rattle.std.proofs.lemmas.Bool.{eqb-true, eq-eqb, not-false}
use Rattle.std.proofs.lemmas.List.{take_at, drop_at, take-append-drop, drop-drop, length-take, length-drop, length-append, nil_from_length, drop_all}
use Rattle.std.proofs.lemmas.Nat.{from_le_bytes-to_le_bytes_2}
use Rattle.rasta_pdu.specs.declared.body.Opening.{Opening}
use Rattle.rasta_pdu.specs.declared.body.Body.{Body}
use Rattle.rasta_pdu.specs.declared.body.Body.TheVariants.{DisconnectionRequest}
use Rattle.rasta_pdu.specs.declared.fault.PduFault.TheVariants as faults
use Rattle.rasta_pdu.specs.Values.{IsBody, IsOpening}
use Rattle.rasta_pdu.specs.Spelling.{opening_bytes, payload, type_of}
use Rattle.rasta_pdu.specs.PduRead.{disconnection_of, nothing_of, opening_of, u16_at}
use Rattle.rasta_pdu.proofs.Steps.{guard_ok, ok_is}
use Rattle.rasta_pdu.specs.Values.{IsBytes}
use Rattle.rasta_pdu.proofs.Bytes.{IsBytes-drop, front_16, below_16}

-- ---- payloads of one length

sized : (payload : List ℕ) (size : ℕ) → not (eqb (length payload) size) ≡ false → length payload ≡ size
sized payload size e = eqb-true (length payload) size (not-false _ e)

pub opening_found : (bytes : List ℕ) (opening : Opening) → IsBytes bytes → opening_of bytes ≡ Ok opening → (bytes ≡ opening_bytes opening) × IsOpening opening
unfolding opening_of
opening_found bytes opening fits e =
    let made : Opening = record { version = take 4 bytes; window = u16_at 4 bytes; reserved = drop 6 bytes } in
    let g = guard_ok (not (eqb (length bytes) 14)) faults.Body (Ok made) opening e in
    let len : length bytes ≡ 14 = sized bytes 14 g.0 in
    let same : made ≡ opening = ok_is made opening g.1 in
    let middle : drop 4 bytes ≡ to_le_bytes w16 (u16_at 4 bytes) ++ drop 6 bytes = front_16 (drop 4 bytes) (IsBytes-drop 4 bytes fits) (omega (arith, length-drop 4 bytes)) ∙ ap (λ (x : List ℕ). to_le_bytes w16 (u16_at 4 bytes) ++ x) (drop-drop 2 4 bytes) in
    let whole : bytes ≡ opening_bytes made = sym (take-append-drop 4 bytes) ∙ ap (λ (x : List ℕ). take 4 bytes ++ x) middle ∙ sym (append_assoc (take 4 bytes) (to_le_bytes w16 (u16_at 4 bytes)) (drop 6 bytes)) in
    subst (λ (o : Opening). (bytes ≡ opening_bytes o) × IsOpening o) same (
      whole,
      record {
        version = omega (arith, length-take 4 bytes);
        window = below_16 (drop 4 bytes) (IsBytes-drop 4 bytes fits);
        reserved = omega (arith, length-drop 6 bytes);
      },
    )

made_again : (bytes : List ℕ) (opening : Opening) → length bytes ≡ 14 → take 4 bytes ≡ opening.version → u16_at 4 bytes ≡ opening.window → drop 6 bytes ≡ opening.reserved → opening_of bytes ≡ Ok opening
unfolding opening_of
made_again bytes opening len version window reserved =
    rw (eq-eqb (length bytes) 14 len, version, window, reserved) refl

pub opening_again : (opening : Opening) → IsOpening opening → opening_of (opening_bytes opening) ≡ Ok opening
opening_again opening is =
    let window : List ℕ = to_le_bytes w16 opening.window in
    let regrouped : opening_bytes opening ≡ opening.version ++ (window ++ opening.reserved) = append_assoc opening.version window opening.reserved in
    let front : List ℕ = opening.version ++ window in
    let front_len : length front ≡ 6 = omega (arith, length-append opening.version window, is.version) in
    let len : length (opening_bytes opening) ≡ 14 = omega (arith, length-append front opening.reserved, front_len, is.reserved) in
    let at_version : take 4 (opening_bytes opening) ≡ opening.version = ap (take 4) regrouped ∙ take_at opening.version (window ++ opening.reserved) 4 is.version in
    let at_window : drop 4 (opening_bytes opening) ≡ window ++ opening.reserved = ap (drop 4) regrouped ∙ drop_at opening.version (window ++ opening.reserved) 4 is.version in
    let at_reserved : drop 6 (opening_bytes opening) ≡ opening.reserved = drop_at front opening.reserved 6 front_len in
    let number : u16_at 4 (opening_bytes opening) ≡ opening.window = ap (from_le_bytes w16) at_window ∙ from_le_bytes-to_le_bytes_2 opening.window is.window in
    made_again (opening_bytes opening) opening len at_version number at_reserved

pub disconnection_found : (bytes : List ℕ) (body : Body) → IsBytes bytes → disconnection_of bytes ≡ Ok body → (type_of body ≡ 6216) × (bytes ≡ payload body) × IsBody body
unfolding disconnection_of payload
disconnection_found bytes body fits e =
    let made : Body = DisconnectionRequest (u16_at 0 bytes) (u16_at 2 bytes) in
    let g = guard_ok (not (eqb (length bytes) 4)) faults.Body (Ok made) body e in
    let len : length bytes ≡ 4 = sized bytes 4 g.0 in
    let second : drop 2 bytes ≡ to_le_bytes w16 (u16_at 2 bytes) ++ drop 4 bytes = front_16 (drop 2 bytes) (IsBytes-drop 2 bytes fits) (omega (arith, length-drop 2 bytes)) ∙ ap (λ (x : List ℕ). to_le_bytes w16 (u16_at 2 bytes) ++ x) (drop-drop 2 2 bytes) in
    let nothing : drop 4 bytes ≡ [] = drop_all 4 bytes (omega arith) in
    let whole : bytes ≡ payload made = front_16 bytes fits (omega arith) ∙ ap (λ (x : List ℕ). to_le_bytes w16 (u16_at 0 bytes) ++ x) (second ∙ ap (λ (x : List ℕ). to_le_bytes w16 (u16_at 2 bytes) ++ x) nothing) in
    subst (λ (b : Body). (type_of b ≡ 6216) × (bytes ≡ payload b) × IsBody b) (ok_is made body g.1) (refl, whole, (below_16 bytes fits, below_16 (drop 2 bytes) (IsBytes-drop 2 bytes fits)))

pub disconnection_again : (detail reason : ℕ) → detail < 2 ^ 16 → reason < 2 ^ 16 → disconnection_of (to_le_bytes w16 detail ++ to_le_bytes w16 reason) ≡ Ok (DisconnectionRequest detail reason)
unfolding disconnection_of
disconnection_again detail reason d r =
    ap (λ (n : ℕ). Ok (DisconnectionRequest n (u16_at 2 (to_le_bytes w16 detail ++ to_le_bytes w16 reason)))) (from_le_bytes-to_le_bytes_2 detail d)
    ∙ ap (λ (n : ℕ). Ok (DisconnectionRequest detail n)) (from_le_bytes-to_le_bytes_2 reason r)

pub nothing_found : (made : Body) (bytes : List ℕ) (body : Body) → nothing_of made bytes ≡ Ok body → (bytes ≡ []) × (made ≡ body)
unfolding nothing_of
nothing_found made bytes body e =
    let g = guard_ok (not (eqb (length bytes) 0)) faults.Body (Ok made) body e in
    (nil_from_length bytes (sized bytes 0 g.0), ok_is made body g.1)
