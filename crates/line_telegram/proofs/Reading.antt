-- What is read is spelled so, and what is spelled so is read.
use Rattle.std.proofs.Common.{◌≡◌, ℕ, ◌+◌, ◌≤◌, Bool, true, false, cond, List, [], ◌∷◌, ◌++◌, length, ltb, drop, slice_index, Option, Some, None, refl, sym, ap, ◌∙◌, arith}
use Rattle.std.specs.Option.{option_map, IfSome}
use Rattle.std.proofs.lemmas.Bool.{cond-false, le-ltb}
use Rattle.std.specs.Str.{bytes_eq}
use Rattle.std.proofs.lemmas.List.{length-append, drop_at}
use Rattle.std.proofs.lemmas.Slice.Eq.{bytes_eq-Decides}
use Rattle.rasta_pdu.specs.Items.{IsItem}
use Rattle.line_laws.specs.declared.words.Item.TheVariants.{Ask, Give, Query, Clear, NoToken}
use Rattle.sci_telegram.specs.declared.message.Agreement.TheVariants.{NoMatch, Match}
use Rattle.sci_telegram.specs.TelegramRead.{agreement_at}
use Rattle.sci_telegram.specs.Names.{IsName, name_field}
use Rattle.line_telegram.specs.declared.message.LineMessage.{LineMessage}
use Rattle.line_telegram.specs.declared.message.LineMessage.TheVariants.{VersionCheck, VersionAnswer, Line}
use Rattle.line_telegram.specs.LineMessages.{payload, writing, message_in, if_spelled, reading}
use Rattle.line_telegram.proofs.Fields.{field_has_20}

-- the payload stands after the names
payload_at : (s r p : List ℕ) → length s ≡ 20 → length r ≡ 20 → drop 40 ((s ++ r) ++ p) ≡ p
payload_at s r p hs hr = drop_at (s ++ r) p 40 (omega (arith, length-append s r))

in_writing : (sender receiver : List ℕ) (message : LineMessage) → IsName sender → IsName receiver → message_in (writing sender receiver message) ≡ Some message
unfolding writing
in_writing sender receiver (Line Ask) s r = refl
in_writing sender receiver (Line Give) s r = refl
in_writing sender receiver (Line Query) s r = refl
in_writing sender receiver (Line Clear) s r = refl
in_writing sender receiver (Line NoToken) s r = refl
in_writing sender receiver (VersionCheck version) s r =
    ap (λ (bytes : List ℕ). Some (VersionCheck (slice_index bytes 0)))
    (payload_at (name_field sender) (name_field receiver) (version ∷ []) (field_has_20 sender s) (field_has_20 receiver r))
in_writing sender receiver (VersionAnswer NoMatch version) s r =
    ap (λ (bytes : List ℕ). option_map (λ agreement. VersionAnswer agreement (slice_index bytes 1)) (agreement_at (slice_index bytes 0)))
    (payload_at (name_field sender) (name_field receiver) (1 ∷ version ∷ []) (field_has_20 sender s) (field_has_20 receiver r))
in_writing sender receiver (VersionAnswer Match version) s r =
    ap (λ (bytes : List ℕ). option_map (λ agreement. VersionAnswer agreement (slice_index bytes 1)) (agreement_at (slice_index bytes 0)))
    (payload_at (name_field sender) (name_field receiver) (2 ∷ version ∷ []) (field_has_20 sender s) (field_has_20 receiver r))

if_spelled_so : (sender receiver bytes : List ℕ) (message : LineMessage) → writing sender receiver message ≡ bytes
    → if_spelled sender receiver bytes (Some message) ≡ Some message
if_spelled_so sender receiver bytes message same =
    ap (λ (test : Bool). cond test (Some message) None) ((bytes_eq-Decides (writing sender receiver message) bytes).1 same)

payload_short : (message : LineMessage) → length (payload message) ≤ 2
payload_short (Line item) = omega arith
payload_short (VersionCheck version) = omega arith
payload_short (VersionAnswer agreement version) = omega arith

pub writing_long : (sender receiver : List ℕ) (message : LineMessage) → IsName sender → IsName receiver
    → length (writing sender receiver message) ≡ 43 + length (payload message)
unfolding writing
writing_long sender receiver message s r =
    omega (arith, length-append (name_field sender ++ name_field receiver) (payload message), length-append (name_field sender) (name_field receiver), field_has_20 sender s, field_has_20 receiver r)

pub read_again : (sender receiver : List ℕ) (message : LineMessage) → IsName sender → IsName receiver → reading sender receiver (writing sender receiver message) ≡ Some message
read_again sender receiver message s r =
    cond-false (ltb (length (writing sender receiver message)) 43) _ _
    (le-ltb (length (writing sender receiver message)) 43 (omega (arith, writing_long sender receiver message s r)))
    ∙ (ap (if_spelled sender receiver (writing sender receiver message)) (in_writing sender receiver message s r)
    ∙ if_spelled_so sender receiver (writing sender receiver message) message refl)

pub read_spelled : (sender receiver bytes : List ℕ) (message : LineMessage) → reading sender receiver bytes ≡ Some message → bytes ≡ writing sender receiver message
read_spelled sender receiver bytes message is = by_length (ltb (length bytes) 43) is
  where
    by_test : (found : LineMessage) (test : Bool) → bytes_eq (writing sender receiver found) bytes ≡ test → cond test (Some found) None ≡ Some message
        → bytes ≡ writing sender receiver message
    by_test found true same is =
        let spelled : writing sender receiver found ≡ bytes = (bytes_eq-Decides (writing sender receiver found) bytes).0 same
        in let found_is : found ≡ message = cc (is)
        in sym spelled ∙ ap (writing sender receiver) found_is
    by_test found false same is = absurd (cc (is))

    by_message : (message_found : Option LineMessage) → if_spelled sender receiver bytes message_found ≡ Some message → bytes ≡ writing sender receiver message
    by_message None is = absurd (cc (is))
    by_message (Some found) is = by_test found (bytes_eq (writing sender receiver found) bytes) refl is

    by_length : (short : Bool) → cond short None (if_spelled sender receiver bytes (message_in bytes)) ≡ Some message → bytes ≡ writing sender receiver message
    by_length true is = absurd (cc (is))
    by_length false is = by_message (message_in bytes) is

pub writing_is_item : (sender receiver : List ℕ) (message : LineMessage) → IsName sender → IsName receiver → IsItem (writing sender receiver message)
writing_is_item sender receiver message s r = record {
  some = omega (arith, writing_long sender receiver message s r);
  most = omega (arith, writing_long sender receiver message s r, payload_short message);
}

pub one_spelling : (sender receiver : List ℕ) (one other : LineMessage) → IsName sender → IsName receiver → writing sender receiver one ≡ writing sender receiver other → one ≡ other
one_spelling sender receiver one other s r same =
    let is : Some one ≡ Some other = sym (read_again sender receiver one s r) ∙ (ap (reading sender receiver) same ∙ read_again sender receiver other s r) in cc (is)

pub found_spelled : (sender receiver bytes : List ℕ) (result : Option LineMessage) → result ≡ reading sender receiver bytes
    → IfSome result (λ message. bytes ≡ writing sender receiver message)
found_spelled sender receiver bytes None is = tt
found_spelled sender receiver bytes (Some message) is = read_spelled sender receiver bytes message (sym is)
