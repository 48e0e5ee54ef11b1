-- What the bytes of a PDU tell of it: whether it is a connection request, and the link to its receiver.
use Rattle.std.proofs.Common.{◌≡◌, ℕ, zero, suc, ◌+◌, ◌-◌, ◌<◌, ◌≤◌, Bool, true, false, cond, not, nat_lt, List, [], ◌∷◌, length, get_or, take, drop, Some, None, Result, Ok, Err, position, slice_get, refl, sym, ap, subst, ◌∙◌, arith, if◌then◌else◌}
use Rattle.std.specs.Prelude.{◌==◌, unwrap_or}
use Rattle.std.specs.Int.{w32, from_le_bytes}
use Rattle.std.specs.List.{position_or_len, prefix_len}
use Rattle.std.specs.Str.{bytes_eq}
use Rattle.std.proofs.lemmas.Bool.{true≢false}
use Rattle.std.proofs.lemmas.Bool.Decides.{nat_tests}
use Rattle.std.proofs.lemmas.List.{get_or-drop, get_or-take}
use Rattle.std.proofs.lemmas.Option.{same_Some}
use Rattle.simulator_spec.specs.layout.Entries.{Site}
use Rattle.simulator_spec.specs.rasta_core.Links.{AreLinks}
use Rattle.simulator_spec.specs.rasta_core.Sentences.{IsRequest}
use Rattle.simulator_spec.specs.rasta_pdu.PduRead.{body_of, pdu_of, reading, text_of, u32_at, ◌>>=◌}
use Rattle.simulator_spec.specs.rasta_pdu.SafetyCode.{before_code, code, last_8, length_field}
use Rattle.simulator_spec.specs.rasta_pdu.Spelling.{fields, text, writing}
use Rattle.simulator_spec.specs.rasta_pdu.declared.body.Body.{Body}
use Rattle.simulator_spec.specs.rasta_pdu.declared.body.Body.TheVariants.{ConnectionRequest, ConnectionResponse, RetransmissionRequest, RetransmissionResponse, DisconnectionRequest, Heartbeat, Data, RetransmittedData}
use Rattle.simulator_spec.specs.rasta_pdu.declared.fault.PduFault.{PduFault}
use Rattle.simulator_spec.specs.rasta_pdu.declared.fault.PduFault.TheVariants as faults
use Rattle.simulator_spec.specs.rasta_pdu.declared.key.Key.{Key}
use Rattle.simulator_spec.specs.rasta_pdu.declared.pdu.Pdu.{Pdu}
use Rattle.simulator_spec.specs.Links.{names_at}
use Rattle.simulator_spec.specs.Nodes.{links, partners}
use Rattle.simulator_spec.specs.Interlocking.{link_of}
use Rattle.simulator_spec.specs.rasta_pdu.Header.{is_request}
use Rattle.simulator_link_laws.proofs.Lists.{itself, unequal}
use Rattle.simulator_link_laws.proofs.Partners.{named_at, partners_count}

-- ---- the type

is_typed : (key : Key) (receiver sender number confirmed stamp confirmed_stamp : ℕ) (body : Body) → IsRequest body → is_request (writing key (record {
  receiver = receiver;
  sender = sender;
  sequence_number = number;
  confirmed_sequence_number = confirmed;
  time_stamp = stamp;
  confirmed_time_stamp = confirmed_stamp;
  body = body;
})) ≡ true
unfolding writing text fields
is_typed key receiver sender number confirmed stamp confirmed_stamp (ConnectionRequest opening) is = refl
is_typed key receiver sender number confirmed stamp confirmed_stamp (ConnectionResponse opening) is = absurd is
is_typed key receiver sender number confirmed stamp confirmed_stamp RetransmissionRequest is = absurd is
is_typed key receiver sender number confirmed stamp confirmed_stamp RetransmissionResponse is = absurd is
is_typed key receiver sender number confirmed stamp confirmed_stamp (DisconnectionRequest detail why) is = absurd is
is_typed key receiver sender number confirmed stamp confirmed_stamp Heartbeat is = absurd is
is_typed key receiver sender number confirmed stamp confirmed_stamp (Data items) is = absurd is
is_typed key receiver sender number confirmed stamp confirmed_stamp (RetransmittedData items) is = absurd is

pub request_is_seen : (key : Key) (pdu : Pdu) → IsRequest pdu.body → is_request (writing key pdu) ≡ true
request_is_seen key pdu is = is_typed key pdu.receiver pdu.sender pdu.sequence_number pdu.confirmed_sequence_number pdu.time_stamp pdu.confirmed_time_stamp pdu.body is

is_other : (key : Key) (receiver sender number confirmed stamp confirmed_stamp : ℕ) (body : Body) → (IsRequest body → ⊥) → is_request (writing key (record {
  receiver = receiver;
  sender = sender;
  sequence_number = number;
  confirmed_sequence_number = confirmed;
  time_stamp = stamp;
  confirmed_time_stamp = confirmed_stamp;
  body = body;
})) ≡ false
unfolding writing text fields
is_other key receiver sender number confirmed stamp confirmed_stamp (ConnectionRequest opening) is = absurd (is tt)
is_other key receiver sender number confirmed stamp confirmed_stamp (ConnectionResponse opening) is = refl
is_other key receiver sender number confirmed stamp confirmed_stamp RetransmissionRequest is = refl
is_other key receiver sender number confirmed stamp confirmed_stamp RetransmissionResponse is = refl
is_other key receiver sender number confirmed stamp confirmed_stamp (DisconnectionRequest detail why) is = refl
is_other key receiver sender number confirmed stamp confirmed_stamp Heartbeat is = refl
is_other key receiver sender number confirmed stamp confirmed_stamp (Data items) is = refl
is_other key receiver sender number confirmed stamp confirmed_stamp (RetransmittedData items) is = refl

pub other_is_seen : (key : Key) (pdu : Pdu) → (IsRequest pdu.body → ⊥) → is_request (writing key pdu) ≡ false
other_is_seen key pdu is = is_other key pdu.receiver pdu.sender pdu.sequence_number pdu.confirmed_sequence_number pdu.time_stamp pdu.confirmed_time_stamp pdu.body is

-- ---- the receiver

-- what was read of a text, and where
record IsReadOf (bytes : List ℕ) (pdu : Pdu) : Type 0 where
  pub long : 36 ≤ length bytes
  pub receiver : pdu.receiver ≡ u32_at 4 (before_code bytes)

text_read : (body : Result Body PduFault) (bytes : List ℕ) (pdu : Pdu) → (body >>= λ body. Ok (record {
  receiver = u32_at 4 bytes;
  sender = u32_at 8 bytes;
  sequence_number = u32_at 12 bytes;
  confirmed_sequence_number = u32_at 16 bytes;
  time_stamp = u32_at 20 bytes;
  confirmed_time_stamp = u32_at 24 bytes;
  body = body;
})) ≡ Ok pdu → pdu.receiver ≡ u32_at 4 bytes
text_read (Err fault) bytes pdu read = absurd (cc (read))
text_read (Ok body) bytes pdu read = sym (ap receiver_of read) where
  receiver_of : Result Pdu PduFault → ℕ
  receiver_of (Ok pdu) = pdu.receiver
  receiver_of (Err fault) = u32_at 4 bytes

pdu_read : (text : List ℕ) (pdu : Pdu) → pdu_of text ≡ Ok pdu → pdu.receiver ≡ u32_at 4 text
unfolding pdu_of
pdu_read text pdu read = text_read (body_of (from_le_bytes Rattle.std.specs.Int.w16 (drop 2 text)) (drop 28 text)) text pdu read

bytes_read : (key : Key) (bytes : List ℕ) (pdu : Pdu) → reading key bytes ≡ Ok pdu → IsReadOf bytes pdu
unfolding reading text_of
bytes_read key bytes pdu read = by_length (nat_lt (length bytes) 36) refl read where
  by_length : (short : Bool) → nat_lt (length bytes) 36 ≡ short → ((if short then Err faults.TooShort else
      if not (length_field bytes == length bytes) then Err faults.Length else
      if not (bytes_eq (last_8 bytes) (code key (before_code bytes))) then Err faults.Code else
      Ok (before_code bytes)) >>= pdu_of) ≡ Ok pdu → IsReadOf bytes pdu
  by_length true e read = absurd (cc (read))
  by_length false e read = by_field (not (length_field bytes == length bytes)) read where
    by_field : (wrong : Bool) → ((if wrong then Err faults.Length else
        if not (bytes_eq (last_8 bytes) (code key (before_code bytes))) then Err faults.Code else
        Ok (before_code bytes)) >>= pdu_of) ≡ Ok pdu → IsReadOf bytes pdu
    by_field true read = absurd (cc (read))
    by_field false read = by_code (not (bytes_eq (last_8 bytes) (code key (before_code bytes)))) read where
      by_code : (wrong : Bool) → ((if wrong then Err faults.Code else Ok (before_code bytes)) >>= pdu_of) ≡ Ok pdu → IsReadOf bytes pdu
      by_code true read = absurd (cc (read))
      by_code false read = record { long = grind (arith, nat_tests); receiver = pdu_read (before_code bytes) pdu read }

four_same : (one other : List ℕ) → get_or one 0 0 ≡ get_or other 0 0 → get_or one 1 0 ≡ get_or other 1 0 → get_or one 2 0 ≡ get_or other 2 0 → get_or one 3 0 ≡ get_or other 3 0
    → from_le_bytes w32 one ≡ from_le_bytes w32 other
four_same one other a b c d = omega arith

taken_at : (bytes : List ℕ) (n place : ℕ) → 8 ≤ n → place < 4 → get_or (drop 4 (take n bytes)) place 0 ≡ get_or (drop 4 bytes) place 0
taken_at bytes n place long below = get_or-drop 4 (take n bytes) place 0 ∙ get_or-take n bytes (4 + place) 0 (omega arith) ∙ sym (get_or-drop 4 bytes place 0)

pub receiver_is_seen : (key : Key) (bytes : List ℕ) (pdu : Pdu) → reading key bytes ≡ Ok pdu → u32_at 4 bytes ≡ pdu.receiver
receiver_is_seen key bytes pdu read =
    let is = bytes_read key bytes pdu read
    in let long : 8 ≤ length bytes - 8 = omega (arith, is.long)
    in sym (four_same (drop 4 (before_code bytes)) (drop 4 bytes)
    (taken_at bytes (length bytes - 8) 0 long (omega arith)) (taken_at bytes (length bytes - 8) 1 long (omega arith))
    (taken_at bytes (length bytes - 8) 2 long (omega arith)) (taken_at bytes (length bytes - 8) 3 long (omega arith)))
    ∙ sym is.receiver

-- ---- the link to a receiver

first_place : (test : ℕ → Bool) (list : List ℕ) (place one : ℕ) → slice_get list place ≡ Some one → test one ≡ true
    → ((earlier other : ℕ) → earlier < place → slice_get list earlier ≡ Some other → test other ≡ false) → position_or_len test list ≡ place
first_place test [] place one at passes before = absurd (none_is at) where
  none_is : None ≡ Some one → ⊥
  none_is e = cc (e)
first_place test (first ∷ others) zero one at passes before = ap (λ b. cond (not b) (1 + prefix_len (λ x. not (test x)) others) 0) (ap test (same_Some first one at) ∙ passes)
first_place test (first ∷ others) (suc place) one at passes before =
    ap (λ b. cond (not b) (1 + prefix_len (λ x. not (test x)) others) 0) (before 0 first (omega arith) refl)
    ∙ ap (λ n. 1 + n) (first_place test others place one at passes (λ earlier other below there. before (suc earlier) other (omega arith) there))
    ∙ one_more place
  where
    one_more : (n : ℕ) → 1 + n ≡ suc n
    one_more n = omega arith

found_at : (test : ℕ → Bool) (list : List ℕ) (place : ℕ) → position_or_len test list ≡ place → place < length list → unwrap_or (position test list) (length list) ≡ place
found_at test list place is within = cases (nat_lt (position_or_len test list) (length list)) refl where
  cases : (b : Bool) → nat_lt (position_or_len test list) (length list) ≡ b → unwrap_or (cond (nat_lt (position_or_len test list) (length list)) (Some (position_or_len test list)) None) (length list) ≡ place
  cases true e = ap (λ b. unwrap_or (cond b (Some (position_or_len test list)) None) (length list)) e ∙ is
  cases false e = absurd (true≢false (sym below ∙ e)) where
    below : nat_lt (position_or_len test list) (length list) ≡ true
    below = grind (arith, nat_tests)

-- the receiver's identity is that of one link
pub link_is_found : (site : Site) → AreLinks (links site) (names_at site) → (link id : ℕ) (bytes : List ℕ) → slice_get (partners site) link ≡ Some id → link < links site → u32_at 4 bytes ≡ id → link_of site bytes ≡ link
link_is_found site are link id bytes at below receiver =
    found_at (λ other. other == u32_at 4 bytes) (partners site) link
    (first_place (λ other. other == u32_at 4 bytes) (partners site) link id at (ap (λ n. id == n) receiver ∙ itself id) earlier_differ)
    (subst (λ n. link < n) (sym (partners_count site)) below)
  where
    earlier_differ : (earlier other : ℕ) → earlier < link → slice_get (partners site) earlier ≡ Some other → (other == u32_at 4 bytes) ≡ false
    earlier_differ earlier other before there = ap (λ n. other == n) receiver ∙ unequal other id (λ same.
        (are.apart earlier link (omega arith) below (λ e. omega (arith, e))).0
        (ap (λ n. n.server) (named_at site earlier other there) ∙ same ∙ sym (ap (λ n. n.server) (named_at site link id at))))
