-- The newest and the oldest copy, found by going through the datagrams one after the other.
use Rattle.std.proofs.Common.{◌≡◌, ◌≢◌, refl, sym, ap, ◌∙◌, ℕ, ◌+◌, ◌≤◌, ◌<◌, Bool, true, false, not, ◌&&◌, if◌then◌else◌, IfSome, IfNone, inl, inr, Option, List, map, [], ◌∷◌, ◌++◌, length, take, drop, get_or, zero, suc, Some, None, add-one, arith}
use Rattle.std.proofs.Math.ListN.{set}
use Rattle.std.proofs.lemmas.Bool.{cases_eq, cases_lt}
use Rattle.std.proofs.lemmas.List.{get_or-map, get_or_default, length-map, take_more}
use Rattle.std.proofs.lemmas.Slice.Eq.{bytes_eq-Decides}
use Rattle.std.specs.Str.{bytes_eq}
use Rattle.std.proofs.lemmas.Bool.Decides.{nat_tests}
use Rattle.std.proofs.lemmas.Grind.{common_steps}
use Rattle.place_index.specs.Places.{HasNoneBefore, HasNoneFrom, IsFirstFrom, IsLastBefore, key_at, key_of, no_key}
use Rattle.simulator_field.specs.inside.Indexed.{key_of_sent}
use Rattle.simulator_spec.specs.rasta_core.Ends.{Sent}
use Rattle.simulator_spec.specs.rasta_core.Bag.{lifetime, has_copy, is_copy, is_alive_copy, newest_copy}
use Rattle.simulator_spec.specs.rasta_core.Links.{OnLink, without_oldest_of_all}
use Rattle.simulator_field.specs.Network.{datagrams, lost}
use Rattle.simulator_field.specs.inside.Entries.{AreInOrder}

-- the last of a list is its newest copy, if it is one
newest_is_last : (time : ℕ) (bytes : List ℕ) (sent : List Sent) (last : Sent) → is_alive_copy time bytes last ≡ true → newest_copy time bytes (sent ++ last ∷ []) ≡ Some last
newest_is_last time bytes [] last alive = rw alive refl
newest_is_last time bytes (first ∷ later) last alive = rw (newest_is_last time bytes later last alive) refl

newest_before_last : (time : ℕ) (bytes : List ℕ) (sent : List Sent) (last : Sent) → is_alive_copy time bytes last ≡ false → newest_copy time bytes (sent ++ last ∷ []) ≡ newest_copy time bytes sent
newest_before_last time bytes [] last no_copy = rw no_copy refl
newest_before_last time bytes (first ∷ later) last no_copy = rw (newest_before_last time bytes later last no_copy) refl

is_alive : (time : ℕ) (bytes : List ℕ) (sent : Sent) → time ≤ sent.at + lifetime → is_copy bytes sent ≡ true → is_alive_copy time bytes sent ≡ true
is_alive time bytes sent in_time copy = grind (arith, nat_tests, common_steps)

is_too_old : (time : ℕ) (bytes : List ℕ) (sent : Sent) → sent.at + lifetime < time → is_alive_copy time bytes sent ≡ false
is_too_old time bytes sent too_old = grind (arith, nat_tests, common_steps)

is_no_copy : (time : ℕ) (bytes : List ℕ) (sent : Sent) → is_copy bytes sent ≡ false → is_alive_copy time bytes sent ≡ false
is_no_copy time bytes sent no_copy = grind (arith, nat_tests, common_steps)

-- the search from the newest datagram back finds one
pub newest_found : (time : ℕ) (bytes : List ℕ) (sent : List Sent) (i : ℕ) (one : Sent) → i < length sent → one ≡ get_or sent i one → time ≤ one.at + lifetime → is_copy bytes one ≡ true → newest_copy time bytes (take (i + 1) sent) ≡ Some one
newest_found time bytes sent i one below is_one in_time copy =
    ap (newest_copy time bytes) (take_more sent i one below ∙ ap (λ s. take i sent ++ s ∷ []) (sym is_one))
    ∙ newest_is_last time bytes (take i sent) one (is_alive time bytes one in_time copy)

too_old_first : (time : ℕ) (bytes : List ℕ) (first : Sent) (later : List Sent) → first.at + lifetime < time → newest_copy time bytes later ≡ None → newest_copy time bytes (first ∷ later) ≡ None
too_old_first time bytes first later too_old none_later = rw (none_later, is_too_old time bytes first too_old) refl

none_until : (now time : ℕ) (bytes : List ℕ) (sent : List Sent) (i : ℕ) (one : Sent) → AreInOrder now sent → i < length sent → one ≡ get_or sent i one → one.at + lifetime < time → newest_copy time bytes (take (suc i) sent) ≡ None
none_until now time bytes [] i one in_order below is_one too_old = refl
none_until now time bytes (first ∷ later) zero one in_order below is_one too_old =
    too_old_first time bytes first [] (rw is_one at too_old) refl
none_until now time bytes (first ∷ later) (suc i) one in_order below is_one too_old =
    let not_after : first.at ≤ one.at = rw is_one (in_order.1 i one (omega arith))
    in too_old_first time bytes first (take (suc i) later) (omega arith) (none_until now time bytes later i one in_order.2 (omega arith) is_one too_old)

-- the search ends at one that is too old: those before it are too
pub newest_too_old : (now time : ℕ) (bytes : List ℕ) (sent : List Sent) (i : ℕ) (one : Sent) → AreInOrder now sent → i < length sent → one ≡ get_or sent i one → one.at + lifetime < time → newest_copy time bytes (take (i + 1) sent) ≡ None
newest_too_old now time bytes sent i one in_order below is_one too_old = rw add-one (none_until now time bytes sent i one in_order below is_one too_old)

without_first : (bytes : List ℕ) (first : OnLink) (later : List OnLink) → is_copy bytes first.datagram ≡ true → without_oldest_of_all bytes (first ∷ later) ≡ lost first ∷ later
without_first bytes first later copy = rw copy refl

found_first : (bytes : List ℕ) (first : OnLink) (later : List OnLink) → is_copy bytes first.datagram ≡ true → has_copy bytes (datagrams (first ∷ later)) ≡ true
found_first bytes first later copy = rw copy refl

-- what is no copy is told by a test that isn't true
not_true : (b : Bool) → (b ≡ true → ⊥) → b ≡ false
not_true true refuted = absurd (refuted refl)
not_true false refuted = refl

copy-key_by : (is_lost : Bool) (own bytes : List ℕ) → (not is_lost && bytes_eq own bytes) ≡ true → (if is_lost then no_key else key_of own) ≡ key_of bytes
copy-key_by true own bytes copy = cc
copy-key_by false own bytes copy = ap key_of ((bytes_eq-Decides own bytes).0 copy)

-- a copy of bytes has their key
copy-key : (bytes : List ℕ) (one : Sent) → is_copy bytes one ≡ true → key_of_sent one ≡ key_of bytes
copy-key bytes one copy = copy-key_by one.is_lost one.bytes bytes copy

-- No datagram of these places is a copy.
abbrev pub NoneBetween : List ℕ → ℕ → ℕ → List Sent → Type 0
NoneBetween bytes from end sent = (i : ℕ) (d : Sent) → from ≤ i → i < end → i < length sent → is_copy bytes (get_or sent i d) ≡ false

-- one that has another key is none
pub no_copy : (bytes : List ℕ) (keys : List ℕ) (sent : List Sent) (i : ℕ) (d : Sent) → keys ≡ map key_of_sent sent → i < length sent → key_at keys i ≢ key_of bytes → is_copy bytes (get_or sent i d) ≡ false
no_copy bytes keys sent i d indexed below other =
    not_true (is_copy bytes (get_or sent i d)) (λ copy.
    other (ap (λ k. key_at k i) indexed ∙ get_or-map key_of_sent sent i d no_key below ∙ copy-key bytes (get_or sent i d) copy))

none_with_first : (time : ℕ) (bytes : List ℕ) (first : Sent) (later : List Sent) → is_alive_copy time bytes first ≡ false → newest_copy time bytes later ≡ None → newest_copy time bytes (first ∷ later) ≡ None
none_with_first time bytes first later no_first none_later = rw (none_later, no_first) refl

later_none : (bytes : List ℕ) (from end : ℕ) (first : Sent) (later : List Sent) → NoneBetween bytes (suc from) (suc end) (first ∷ later) → NoneBetween bytes from end later
later_none bytes from end first later none = λ i d start stop inside. none (suc i) d (omega arith) (omega arith) (omega arith)

-- after the last copy the search has nothing to find
pub newest_until : (time : ℕ) (bytes : List ℕ) (sent : List Sent) (k : ℕ) → NoneBetween bytes k (length sent) sent → newest_copy time bytes (take k sent) ≡ newest_copy time bytes sent
newest_until time bytes [] zero none = refl
newest_until time bytes [] (suc k) none = refl
newest_until time bytes (first ∷ later) zero none =
    let no_first : is_copy bytes first ≡ false = none 0 first (omega arith) (omega arith) (omega arith)
    in let below : NoneBetween bytes 0 (length later) later = λ i d start stop inside. none (suc i) d (omega arith) (omega arith) (omega arith)
    in sym (none_with_first time bytes first later (is_no_copy time bytes first no_first) (sym (newest_until time bytes later 0 below)))
newest_until time bytes (first ∷ later) (suc k) none = rw (newest_until time bytes later k (later_none bytes k (length later) first later none)) refl

found_later : (bytes : List ℕ) (first : OnLink) (later : List OnLink) → is_copy bytes first.datagram ≡ false → has_copy bytes (datagrams (first ∷ later)) ≡ has_copy bytes (datagrams later)
found_later bytes first later no_first = rw no_first refl

without_later : (bytes : List ℕ) (first : OnLink) (later : List OnLink) → is_copy bytes first.datagram ≡ false → without_oldest_of_all bytes (first ∷ later) ≡ first ∷ without_oldest_of_all bytes later
without_later bytes first later no_first = rw no_first refl

-- the first copy is the oldest, and is lost where it stands
pub oldest_is : (bytes : List ℕ) (sent : List OnLink) (i : ℕ) (one : OnLink) → i < length sent → one ≡ get_or sent i one → is_copy bytes one.datagram ≡ true → NoneBetween bytes 0 i (datagrams sent)
    → (has_copy bytes (datagrams sent) ≡ true) × (without_oldest_of_all bytes sent ≡ set sent i (lost one))
oldest_is bytes [] i one below is_one copy none = absurd (omega arith)
oldest_is bytes (first ∷ later) zero one below is_one copy none =
    let first_copy : is_copy bytes first.datagram ≡ true = sym (ap (λ (o : OnLink). is_copy bytes o.datagram) is_one) ∙ copy
    in (
      found_first bytes first later first_copy,
      without_first bytes first later first_copy ∙ ap (λ o. lost o ∷ later) (sym is_one),
    )
oldest_is bytes (first ∷ later) (suc i) one below is_one copy none =
    let no_first : is_copy bytes first.datagram ≡ false = none 0 first.datagram (omega arith) (omega arith) (omega arith)
    in let rest = oldest_is bytes later i one (omega arith) is_one copy (λ j d start stop inside. none (suc j) d (omega arith) (omega arith) (omega arith))
    in (
      found_later bytes first later no_first ∙ rest.0,
      without_later bytes first later no_first ∙ ap (λ o. first ∷ o) rest.1,
    )

no_copy_first : (bytes : List ℕ) (first : Sent) (later : List Sent) → is_copy bytes first ≡ false → has_copy bytes (first ∷ later) ≡ has_copy bytes later
no_copy_first bytes first later no_first = rw no_first refl

-- where no place has a copy there is none
pub has_none : (bytes : List ℕ) (sent : List Sent) → NoneBetween bytes 0 (length sent) sent → has_copy bytes sent ≡ false
has_none bytes [] none = refl
has_none bytes (first ∷ later) none =
    let no_first : is_copy bytes first ≡ false = none 0 first (omega arith) (omega arith) (omega arith)
    in no_copy_first bytes first later no_first ∙ has_none bytes later (λ j d start stop inside. none (suc j) d (omega arith) (omega arith) (omega arith))

-- up to which place a search back has still to go
abbrev pub reach : Option ℕ → ℕ
reach None = 0
reach (Some place) = place + 1

-- and from which place one forward has
abbrev pub start : Option ℕ → ℕ → ℕ
start None count = count
start (Some place) count = place

-- what a search found has the key
abbrev pub HasKey : List ℕ → List ℕ → Option ℕ → Type 0
HasKey bytes keys found = IfSome found (λ place. (place < length keys) × (key_at keys place ≡ key_of bytes))

-- There are as many keys as datagrams.
pub as_many : (keys : List ℕ) (sent : List Sent) → keys ≡ map key_of_sent sent → length keys ≡ length sent
as_many keys sent indexed = ap length indexed ∙ length-map sent key_of_sent

-- what a search back knows: no copy stands after the place that it found, which has the key
abbrev pub SearchedBack : List ℕ → List ℕ → List Sent → Option ℕ → Type 0
SearchedBack bytes keys sent found = NoneBetween bytes (reach found) (length sent) sent × HasKey bytes keys found

-- it has looked after an end, and finds the last place before it
pub searched_back : (bytes keys : List ℕ) (sent : List Sent) (end key : ℕ) (found : Option ℕ) → keys ≡ map key_of_sent sent → key ≡ key_of bytes → NoneBetween bytes end (length sent) sent
    → IfSome found (IsLastBefore end key keys) → IfNone found (HasNoneBefore end key keys) → SearchedBack bytes keys sent found
searched_back bytes keys sent end key None indexed same behind last none = (
  λ i d from below inside. elim (cases_lt i end) [
    | inl lt ↦ no_copy bytes keys sent i d indexed inside (λ e. none i lt (e ∙ sym same))
    | inr ge ↦ behind i d ge below inside
  ],
  tt,
)
searched_back bytes keys sent end key (Some place) indexed same behind last none = (
  λ i d from below inside. elim (cases_lt i end) [
    | inl lt ↦ no_copy bytes keys sent i d indexed inside (λ e. last.last i (omega arith) lt (e ∙ sym same))
    | inr ge ↦ behind i d ge below inside
  ],
  (last.within, last.has ∙ same),
)

pub back_begins : (bytes keys : List ℕ) (sent : List Sent) (key : ℕ) (found : Option ℕ) → keys ≡ map key_of_sent sent → key ≡ key_of bytes
    → IfSome found (IsLastBefore (length keys) key keys) → IfNone found (HasNoneBefore (length keys) key keys) → SearchedBack bytes keys sent found
back_begins bytes keys sent key found indexed same last none =
    let count : length keys ≡ length sent = as_many keys sent indexed
    in searched_back bytes keys sent (length keys) key found indexed same (λ i d from below inside. absurd (omega arith)) last none

-- what it found is no copy, so it goes on before that
pub back_more : (bytes keys : List ℕ) (sent : List Sent) (place : ℕ) (one : Sent) (found : Option ℕ) → keys ≡ map key_of_sent sent → SearchedBack bytes keys sent (Some place) → one ≡ get_or sent place one → is_copy bytes one ≡ false
    → IfSome found (IsLastBefore place (key_at keys place) keys) → IfNone found (HasNoneBefore place (key_at keys place) keys) → SearchedBack bytes keys sent found
back_more bytes keys sent place one found indexed searched is_one no_copy last none =
    searched_back bytes keys sent place (key_at keys place) found indexed searched.1.1
    (λ i d from below inside. elim (cases_eq i place) [
      | inl e ↦ (ap (λ j. is_copy bytes (get_or sent j d)) e ∙ ap (is_copy bytes) (get_or_default sent place d one (let there : i ≡ place = e in omega arith) ∙ sym is_one) ∙ no_copy)
      | inr ne ↦ searched.0 i d (omega arith) below inside
    ])
    last none

-- what a search forward knows: no copy stands before the place that it found, which has the key
abbrev pub SearchedOn : List ℕ → List ℕ → List Sent → Option ℕ → Type 0
SearchedOn bytes keys sent found = NoneBetween bytes 0 (start found (length sent)) sent × HasKey bytes keys found

pub searched_on : (bytes keys : List ℕ) (sent : List Sent) (from key : ℕ) (found : Option ℕ) → keys ≡ map key_of_sent sent → key ≡ key_of bytes → NoneBetween bytes 0 from sent
    → IfSome found (IsFirstFrom from key keys) → IfNone found (HasNoneFrom from key keys) → SearchedOn bytes keys sent found
searched_on bytes keys sent from key None indexed same before first none = (
  λ i d zero below inside. elim (cases_lt i from) [
    | inl lt ↦ before i d zero lt inside
    | inr ge ↦ no_copy bytes keys sent i d indexed inside (λ e. none i ge (e ∙ sym same))
  ],
  tt,
)
searched_on bytes keys sent from key (Some place) indexed same before first none = (
  λ i d zero below inside. elim (cases_lt i from) [
    | inl lt ↦ before i d zero lt inside
    | inr ge ↦ no_copy bytes keys sent i d indexed inside (λ e. first.first i ge below (e ∙ sym same))
  ],
  (first.within, first.has ∙ same),
)

pub on_begins : (bytes keys : List ℕ) (sent : List Sent) (key : ℕ) (found : Option ℕ) → keys ≡ map key_of_sent sent → key ≡ key_of bytes
    → IfSome found (IsFirstFrom 0 key keys) → IfNone found (HasNoneFrom 0 key keys) → SearchedOn bytes keys sent found
on_begins bytes keys sent key found indexed same first none =
    searched_on bytes keys sent 0 key found indexed same (λ i d from below inside. absurd (omega arith)) first none

pub on_more : (bytes keys : List ℕ) (sent : List Sent) (place : ℕ) (one : Sent) (found : Option ℕ) → keys ≡ map key_of_sent sent → SearchedOn bytes keys sent (Some place) → one ≡ get_or sent place one → is_copy bytes one ≡ false
    → IfSome found (IsFirstFrom (place + 1) (key_at keys place) keys) → IfNone found (HasNoneFrom (place + 1) (key_at keys place) keys) → SearchedOn bytes keys sent found
on_more bytes keys sent place one found indexed searched is_one no_copy first none =
    searched_on bytes keys sent (place + 1) (key_at keys place) found indexed searched.1.1
    (λ i d zero below inside. elim (cases_eq i place) [
      | inl e ↦ (ap (λ j. is_copy bytes (get_or sent j d)) e ∙ ap (is_copy bytes) (get_or_default sent place d one (let there : i ≡ place = e in omega arith) ∙ sym is_one) ∙ no_copy)
      | inr ne ↦ searched.0 i d zero (omega arith) inside
    ])
    first none

-- where a place stands among those that were sent
pub place_within : (bytes keys : List ℕ) (sent : List Sent) (place : ℕ) → keys ≡ map key_of_sent sent → HasKey bytes keys (Some place) → place < length sent
place_within bytes keys sent place indexed has =
    let count : length keys ≡ length sent = as_many keys sent indexed
    in let within : place < length keys = has.0
    in omega arith
