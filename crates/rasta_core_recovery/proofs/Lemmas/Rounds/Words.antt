-- What an end says in a round: PDUs with rising numbers, all with the stamp of that round.
use Rattle.rasta_core_recovery.proofs.Words.Basics.{◌≡◌, ℕ, suc, ◌∙◌, ◌+◌, ◌^◌, ◌≤◌, ◌<◌, false, List, [], ◌∷◌, ◌++◌, length, refl, sym, ap, subst, arith}
use Rattle.rasta_core_recovery.proofs.Words.Links.{wire, before, stamp, LinkState, is_asking, header_of, pdu_of, repeated, Header, Unconfirmed, Pdu, Body, ConnectionRequest, ConnectionResponse, RetransmissionRequest, RetransmissionResponse, DisconnectionRequest, Heartbeat, Data, RetransmittedData}
use Rattle.rasta_core_recovery.proofs.Lemmas.ComingUp.Health.{chosen_not}

-- what an end inside may say: nothing that opens
abbrev pub IsTalk : Body → Type 0
IsTalk (ConnectionRequest opening) = ⊥
IsTalk (ConnectionResponse opening) = ⊥
IsTalk _ = Unit {0}

-- and nothing that asks for a retransmission
abbrev pub IsPlain : Body → Type 0
IsPlain (ConnectionRequest opening) = ⊥
IsPlain (ConnectionResponse opening) = ⊥
IsPlain RetransmissionRequest = ⊥
IsPlain _ = Unit {0}

-- and nothing that opens or closes
abbrev pub IsSpeech : Body → Type 0
IsSpeech (ConnectionRequest opening) = ⊥
IsSpeech (ConnectionResponse opening) = ⊥
IsSpeech (DisconnectionRequest detail reason) = ⊥
IsSpeech _ = Unit {0}

pub plain_talk : (body : Body) → IsPlain body → IsTalk body
plain_talk (ConnectionRequest opening) is = is
plain_talk (ConnectionResponse opening) is = is
plain_talk RetransmissionRequest is = tt
plain_talk _ is = tt

-- a heartbeat, or items for the first time
abbrev pub IsSimple : Body → Type 0
IsSimple Heartbeat = Unit {0}
IsSimple (Data items) = Unit {0}
IsSimple _ = ⊥

pub simple_plain : (body : Body) → IsSimple body → IsPlain body
simple_plain Heartbeat is = tt
simple_plain (Data items) is = tt
simple_plain (ConnectionRequest opening) is = absurd is
simple_plain (ConnectionResponse opening) is = absurd is
simple_plain RetransmissionRequest is = absurd is
simple_plain RetransmissionResponse is = absurd is
simple_plain (DisconnectionRequest detail reason) is = absurd is
simple_plain (RetransmittedData items) is = absurd is

pub simple_talk : (body : Body) → IsSimple body → IsTalk body
simple_talk body is = plain_talk body (simple_plain body is)

-- anything but the answer to one that asks
abbrev pub IsNoAnswer : Body → Type 0
IsNoAnswer RetransmissionResponse = ⊥
IsNoAnswer _ = Unit {0}

pub simple_no_answer : (body : Body) → IsSimple body → IsNoAnswer body
simple_no_answer RetransmissionResponse is = is
simple_no_answer _ is = tt

-- ---- PDUs of one header

abbrev pub Says : (Body → Type 0) → Header → ℕ → List Pdu → ℕ → Type 0
Says P h n [] end = n ≡ end
Says P h n (p ∷ ps) end = (p ≡ pdu_of h n p.body) × P p.body × Says P h (n + 1) ps end

pub says_to : (P : Body → Type 0) (h : Header) (n : ℕ) (ps : List Pdu) (end other : ℕ) → end ≡ other → Says P h n ps end → Says P h n ps other
says_to P h n ps end other e s = subst (λ (k : ℕ). Says P h n ps k) e s

pub says_most : (P : Body → Type 0) (h : Header) (n : ℕ) (ps : List Pdu) (end : ℕ) → Says P h n ps end → n ≤ end
says_most P h n [] end s = omega (arith, s)
says_most P h n (p ∷ ps) end s = let t = says_most P h (n + 1) ps end s.2 in omega (arith, t)

pub says_then : (P : Body → Type 0) (h : Header) (n m end : ℕ) (ps qs : List Pdu) → Says P h n ps m → Says P h m qs end → Says P h n (ps ++ qs) end
says_then P h n m end [] qs s t = subst (λ (k : ℕ). Says P h k qs end) (sym s) t
says_then P h n m end (p ∷ ps) qs s t = (s.0, s.1, says_then P h (n + 1) m end ps qs s.2 t)

pub says_again : (h : Header) (n : ℕ) (waiting : List Unconfirmed) → Says IsPlain h n (repeated h n waiting) (n + length waiting)
unfolding repeated pdu_of
says_again h n [] = omega arith
says_again h n (first ∷ others) = (refl, tt, says_to IsPlain h (n + 1) (repeated h (n + 1) others) (n + 1 + length others) (n + suc (length others)) (omega arith) (says_again h (n + 1) others))

-- ---- rows of PDUs by their numbers

abbrev pub Row : (ℕ → Pdu → Type 0) → ℕ → List Pdu → ℕ → Type 0
Row Q n [] end = n ≡ end
Row Q n (p ∷ ps) end = Q n p × Row Q (n + 1) ps end

pub row_then : (Q : ℕ → Pdu → Type 0) (n m end : ℕ) (ps qs : List Pdu) → Row Q n ps m → Row Q m qs end → Row Q n (ps ++ qs) end
row_then Q n m end [] qs s t = subst (λ (k : ℕ). Row Q k qs end) (sym s) t
row_then Q n m end (p ∷ ps) qs s t = (s.0, row_then Q (n + 1) m end ps qs s.1 t)

pub row_most : (Q : ℕ → Pdu → Type 0) (n end : ℕ) (ps : List Pdu) → Row Q n ps end → n ≤ end
row_most Q n end [] s = omega (arith, s)
row_most Q n end (p ∷ ps) s = let t = row_most Q (n + 1) end ps s.1 in omega (arith, t)

-- who speaks: the names, the first numbers of both ends, and the stamp of the round
pub record Voice : Type 0 where
  pub receiver : ℕ
  pub sender : ℕ
  pub first : ℕ
  pub partner_first : ℕ
  pub stamp : ℕ

abbrev pub voice_of : LinkState → Voice
voice_of l = record { receiver = l.identity.partner; sender = l.identity.own; first = l.own_first; partner_first = l.partner_first; stamp = stamp l.clock }

-- a PDU of this number by this voice, whatever it confirms and returns
pub record IsNumbered (v : Voice) (n : ℕ) (p : Pdu) : Type 0 where
  pub receiver : p.receiver ≡ v.receiver
  pub sender : p.sender ≡ v.sender
  pub number : p.sequence_number ≡ wire v.first n
  pub stamped : p.time_stamp ≡ v.stamp
  pub talk : IsTalk p.body

-- a PDU that confirms a count, and returns a reading
pub record IsWord (v : Voice) (n c r : ℕ) (p : Pdu) : Type 0 where
  pub numbered : IsNumbered v n p
  pub confirms : p.confirmed_sequence_number ≡ wire v.partner_first c
  pub returns : p.confirmed_time_stamp ≡ stamp r

-- PDUs whose numbers go on, and whose confirmed counts and returned readings don't fall
abbrev pub Chain : Voice → ℕ → ℕ → ℕ → List Pdu → ℕ → ℕ → ℕ → Type 0
Chain v n c r [] end confirmed returned = (n ≡ end) × (c ≤ confirmed) × (r ≤ returned)
Chain v n c r (p ∷ ps) end confirmed returned = (d : ℕ) × (q : ℕ) × (c ≤ d) × (r ≤ q) × IsWord v n d q p × Chain v (n + 1) d q ps end confirmed returned

pub chain_lower : (v : Voice) (n m c d r q : ℕ) (ps : List Pdu) (end confirmed returned : ℕ) → m ≡ n → d ≤ c → q ≤ r → Chain v n c r ps end confirmed returned → Chain v m d q ps end confirmed returned
chain_lower v n m c d r q [] end confirmed returned e f g (i, j, k) = (omega (arith, i, e), omega (arith, f, j), omega (arith, g, k))
chain_lower v n m c d r q (p ∷ ps) end confirmed returned e f g (x, y, h, i, w, more) =
    subst (λ (z : ℕ). Chain v z d q (p ∷ ps) end confirmed returned) (sym e) (x, y, omega (arith, f, h), omega (arith, g, i), w, more)

pub chain_then : (v : Voice) (n c r m d q end e s : ℕ) (ps qs : List Pdu) → Chain v n c r ps m d q → Chain v m d q qs end e s → Chain v n c r (ps ++ qs) end e s
chain_then v n c r m d q end e s [] qs (i, j, k) next = chain_lower v m n d c q r qs end e s i j k next
chain_then v n c r m d q end e s (p ∷ ps) qs (x, y, h, i, w, more) next = (x, y, h, i, w, chain_then v (n + 1) x y m d q end e s ps qs more next)

pub chain_ends : (v : Voice) (n c r end d q : ℕ) (ps : List Pdu) → Chain v n c r ps end d q → (n ≤ end) × (c ≤ d) × (r ≤ q)
chain_ends v n c r end d q [] (i, j, k) = (omega (arith, i), j, k)
chain_ends v n c r end d q (p ∷ ps) (x, y, h, i, w, more) = let t = chain_ends v (n + 1) x y end d q ps more in (omega (arith, t.0), omega (arith, t.1, h), omega (arith, t.2, i))

pub chain_row : (v : Voice) (n c r end d q : ℕ) (ps : List Pdu) → Chain v n c r ps end d q → Row (IsNumbered v) n ps end
chain_row v n c r end d q [] (i, j, k) = i
chain_row v n c r end d q (p ∷ ps) (x, y, h, i, w, more) = (w.numbered, chain_row v (n + 1) x y end d q ps more)

-- ---- what an end that has joined says, as a chain

-- of a header: what a link's header is by its fields
pub record Speaks (l : LinkState) (v : Voice) (count kept : ℕ) : Type 0 where
  pub joined : is_asking l ≡ false
  pub voice : voice_of l ≡ v
  pub some : l.expected ≡ count + 1
  pub fits : count < 2 ^ 31
  pub kept_is : l.partner_stamp ≡ stamp kept

pub speaks_numbered : (v : Voice) (l : LinkState) (n : ℕ) (p : Pdu) → voice_of l ≡ v → p ≡ pdu_of (header_of l) n p.body → IsTalk p.body → IsNumbered v n p
unfolding header_of pdu_of
speaks_numbered v l n p voice e talk = record {
  receiver = ap (λ (q : Pdu). q.receiver) e ∙ ap (λ (w : Voice). w.receiver) voice;
  sender = ap (λ (q : Pdu). q.sender) e ∙ ap (λ (w : Voice). w.sender) voice;
  number = ap (λ (q : Pdu). q.sequence_number) e ∙ ap (λ (w : Voice). wire w.first n) voice;
  stamped = ap (λ (q : Pdu). q.time_stamp) e ∙ ap (λ (w : Voice). w.stamp) voice;
  talk = talk;
}

pub speaks_word : (v : Voice) (l : LinkState) (n count kept : ℕ) (p : Pdu) → Speaks l v count kept → p ≡ pdu_of (header_of l) n p.body → IsTalk p.body → IsWord v n count kept p
unfolding header_of pdu_of
speaks_word v l n count kept p is e talk = record {
  numbered = speaks_numbered v l n p is.voice e talk;
  confirms = ap (λ (q : Pdu). q.confirmed_sequence_number) e ∙ chosen_not (is_asking l) _ is.joined ∙ counted ∙ ap (λ (w : Voice). wire w.partner_first count) is.voice;
  returns = ap (λ (q : Pdu). q.confirmed_time_stamp) e ∙ chosen_not (is_asking l) _ is.joined ∙ is.kept_is;
}
  where
    counted : wire l.partner_first (before l.expected) ≡ wire l.partner_first count
    counted = ap (wire l.partner_first) (omega (arith, is.some, is.fits))

pub says_row : (P : Body → Type 0) → ((body : Body) → P body → IsTalk body) → (v : Voice) (l : LinkState) (n end : ℕ) (ps : List Pdu) → voice_of l ≡ v → Says P (header_of l) n ps end → Row (IsNumbered v) n ps end
says_row P talks v l n end [] voice s = s
says_row P talks v l n end (p ∷ ps) voice s = (speaks_numbered v l n p voice s.0 (talks p.body s.1), says_row P talks v l (n + 1) end ps voice s.2)

pub says_chain : (P : Body → Type 0) → ((body : Body) → P body → IsTalk body) → (v : Voice) (l : LinkState) (n end count kept : ℕ) (ps : List Pdu) → Speaks l v count kept → Says P (header_of l) n ps end
    → Chain v n count kept ps end count kept
says_chain P talks v l n end count kept [] is s = (s, omega arith, omega arith)
says_chain P talks v l n end count kept (p ∷ ps) is s =
    (count, kept, omega arith, omega arith, speaks_word v l n count kept p is s.0 (talks p.body s.1), says_chain P talks v l (n + 1) end count kept ps is s.2)
