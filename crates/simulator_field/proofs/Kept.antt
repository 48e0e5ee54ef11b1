-- What keeps the entries of a network and their bytes.
use Rattle.std.proofs.Common.{◌≡◌, refl, sym, ap, ◌∙◌, ℕ, zero, suc, ◌+◌, ◌≤◌, ◌<◌, List, [], ◌∷◌, ◌++◌, map, length, take, drop, get_or, subst, arith}
use Rattle.std.proofs.Math.ListN.{set}
use Rattle.std.specs.List.{All}
use Rattle.std.proofs.lemmas.List.{drop-append-le, drop_at, get_or-map, length-append, length-drop, length-map, map-set, map_push, take-append-le, take_all}
use Rattle.std.proofs.lemmas.List.Elements.{All-append, All-cons, All-head, All-tail, All-weaker}
use Rattle.simulator_spec.specs.rasta_core.Ends.{Sent}
use Rattle.simulator_spec.specs.rasta_core.Links.{OnLink}
use Rattle.simulator_field.specs.Network.{datagrams}
use Rattle.simulator_field.specs.declared.entry.Entry.{Entry}
use Rattle.simulator_field.specs.inside.Entries.{AreInOrder, AreKept, AreWithin, IsWithin, bytes_of, on_link, on_links}
use Rattle.simulator_field.proofs.Order.{in_order_later, in_order_sending, in_order_setting}

-- ---- what stands in the row stays, whatever follows it

bytes_stay : (row more : List ℕ) (entry : Entry) → IsWithin row entry → bytes_of (row ++ more) entry ≡ bytes_of row entry
bytes_stay row more entry within =
    let enough : entry.length ≤ length (drop entry.start row) = omega (arith, length-drop entry.start row)
    in ap (take entry.length) (drop-append-le entry.start row more (omega arith))
    ∙ take-append-le entry.length (drop entry.start row) more enough

abbrev pub with_bytes : Entry → List ℕ → OnLink
with_bytes entry bytes = record {
  link = entry.link;
  datagram = record { bytes = bytes; at = entry.at; sender = entry.sender; connection = entry.connection; is_lost = entry.is_lost };
}

same_entry : (row more : List ℕ) (entry : Entry) → IsWithin row entry → on_link (row ++ more) entry ≡ on_link row entry
same_entry row more entry within = ap (with_bytes entry) (bytes_stay row more entry within)

entries_stay : (row more : List ℕ) (entries : List Entry) → AreWithin row entries → on_links (row ++ more) entries ≡ on_links row entries
entries_stay row more [] within = refl
entries_stay row more (first ∷ later) within =
    let Within : Entry → Type 0 = λ entry. IsWithin row entry
    in ap (λ one. one ∷ on_links (row ++ more) later) (same_entry row more first (All-head Within first later within))
    ∙ ap (λ others. on_link row first ∷ others) (entries_stay row more later (All-tail Within first later within))

-- ---- one more is sent

-- its bytes stand at the end of the row
own_bytes : (row bytes : List ℕ) (entry : Entry) → entry.start ≡ length row → entry.length ≡ length bytes → bytes_of (row ++ bytes) entry ≡ bytes
own_bytes row bytes entry starts ends =
    ap (take entry.length) (drop_at row bytes entry.start (sym starts)) ∙ take_all entry.length bytes (omega arith)

pub entries_sent : (row bytes : List ℕ) (entries : List Entry) (entry : Entry) → AreWithin row entries → entry.start ≡ length row → entry.length ≡ length bytes
    → on_links (row ++ bytes) (entries ++ entry ∷ []) ≡ on_links row entries ++ with_bytes entry bytes ∷ []
entries_sent row bytes entries entry within starts ends =
    map_push (on_link (row ++ bytes)) entries entry
    ∙ ap (λ before. before ++ on_link (row ++ bytes) entry ∷ []) (entries_stay row bytes entries within)
    ∙ ap (λ own. on_links row entries ++ with_bytes entry own ∷ []) (own_bytes row bytes entry starts ends)

pub kept_sent : (time : ℕ) (row bytes : List ℕ) (entries : List Entry) (entry : Entry) → AreKept time row entries → entry.start ≡ length row → entry.length ≡ length bytes → entry.at ≡ time
    → AreKept time (row ++ bytes) (entries ++ entry ∷ [])
kept_sent time row bytes entries entry kept starts ends now =
    let Within : Entry → Type 0 = λ e. IsWithin (row ++ bytes) e
    in let all = length-append row bytes
    in let before : AreWithin (row ++ bytes) entries = All-weaker (λ e. IsWithin row e) Within (λ e (h : IsWithin row e). omega arith) entries kept.within
    in let nothing : All Within [] = λ k d (below : k < 0). absurd (omega arith)
    in let last : All Within (entry ∷ []) = All-cons Within entry [] (omega arith) nothing
    in let sent = ap datagrams (entries_sent row bytes entries entry kept.within starts ends) ∙ map_push (λ (one : OnLink). one.datagram) (on_links row entries) (with_bytes entry bytes)
    in record {
      within = All-append Within entries (entry ∷ []) before last;
      in_order = subst (AreInOrder time) (sym sent) (in_order_sending time (datagrams (on_links row entries)) (with_bytes entry bytes).datagram now kept.in_order);
    }

-- ---- one is lost, and time goes on

pub at_place : (row : List ℕ) (entries : List Entry) (place : ℕ) (entry : Entry) → place < length entries → entry ≡ get_or entries place entry → on_link row entry ≡ get_or (on_links row entries) place (on_link row entry)
at_place row entries place entry below is_entry =
    ap (on_link row) is_entry ∙ sym (get_or-map (on_link row) entries place entry (on_link row entry) below)

pub datagram_at : (row : List ℕ) (entries : List Entry) (place : ℕ) (entry : Entry) → place < length entries → entry ≡ get_or entries place entry
    → (on_link row entry).datagram ≡ get_or (datagrams (on_links row entries)) place (on_link row entry).datagram
datagram_at row entries place entry below is_entry =
    ap (λ (one : OnLink). one.datagram) (at_place row entries place entry below is_entry)
    ∙ sym (get_or-map (λ (one : OnLink). one.datagram) (on_links row entries) place (on_link row entry) (on_link row entry).datagram (omega (arith, length-map entries (on_link row))))

pub as_many : (row : List ℕ) (entries : List Entry) → length (datagrams (on_links row entries)) ≡ length entries
as_many row entries = length-map (on_links row entries) (λ one. one.datagram) ∙ length-map entries (on_link row)

within_setting : (row : List ℕ) (entries : List Entry) (place : ℕ) (new : Entry) → IsWithin row new → AreWithin row entries → AreWithin row (set entries place new)
within_setting row [] place new new_within within = within
within_setting row (first ∷ later) zero new new_within within =
    let Within : Entry → Type 0 = λ e. IsWithin row e
    in All-cons Within new later new_within (All-tail Within first later within)
within_setting row (first ∷ later) (suc place) new new_within within =
    let Within : Entry → Type 0 = λ e. IsWithin row e
    in All-cons Within first (set later place new) (All-head Within first later within) (within_setting row later place new new_within (All-tail Within first later within))

pub kept_lost : (time : ℕ) (row : List ℕ) (entries : List Entry) (place : ℕ) (entry new : Entry) → AreKept time row entries → place < length entries → entry ≡ get_or entries place entry
    → new.start ≡ entry.start → new.length ≡ entry.length → new.at ≡ entry.at → AreKept time row (set entries place new)
kept_lost time row entries place entry new kept below is_entry same_start same_length same_at =
    let entry_within : IsWithin row entry = rw is_entry (kept.within place entry below)
    in let sent = ap datagrams (map-set (on_link row) entries place new) ∙ map-set (λ (one : OnLink). one.datagram) (on_links row entries) place (on_link row new)
    in record {
      within = within_setting row entries place new (omega arith) kept.within;
      in_order = subst (AreInOrder time) (sym sent)
          (in_order_setting time (datagrams (on_links row entries)) place (on_link row entry).datagram (on_link row new).datagram
          (omega (arith, as_many row entries)) (datagram_at row entries place entry below is_entry) same_at kept.in_order);
    }

pub kept_later : (time elapsed : ℕ) (row : List ℕ) (entries : List Entry) → AreKept time row entries → AreKept (time + elapsed) row entries
kept_later time elapsed row entries kept = record {
  within = kept.within;
  in_order = in_order_later time (time + elapsed) (datagrams (on_links row entries)) (omega arith) kept.in_order;
}
