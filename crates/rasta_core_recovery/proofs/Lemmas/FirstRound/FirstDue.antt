-- What comes in a first round of what was sent before it, and what of what is said in it.
use Rattle.rasta_core_recovery.proofs.Words.Basics.{◌≡◌, ℕ, ◌⊎◌, inl, inr, Bool, true, false, if◌then◌else◌, List, [], ◌∷◌, Ok, refl, ap, subst}
use Rattle.rasta_core_recovery.proofs.Words.Links.{reading, Key, Role, Pdu, Each, Sent, IsAmong}
use Rattle.rasta_core_recovery.proofs.Words.Recovery.{can_come}
use Rattle.rasta_core_recovery.proofs.Lemmas.Rounds.Mirror.{AreRead, arriving, bytes_from, chosen}

-- ---- what holds of PDUs holds of the datagrams that are read as them

-- a datagram of this end, whatever it is read as
abbrev pub IsReadAs : Key → (Pdu → Type 0) → Role → Sent → Type 0
IsReadAs key Q who d = d.sender ≡ who → (pdu : Pdu) → reading key d.bytes ≡ Ok pdu → Q pdu

pub each_from : (key : Key) (Q : Pdu → Type 0) (who : Role) (ds : List Sent) (ps : List Pdu) → Each Q ps → AreRead key (bytes_from who ds) ps → Each (IsReadAs key Q who) ds
each_from key Q who [] ps each are = tt
each_from key Q who (d ∷ ds) ps each are = by_sender (λ qs all read. each_from key Q who ds qs all read) who d.sender refl refl are
  where
    Others : Type 0
    Others = (qs : List Pdu) → Each Q qs → AreRead key (bytes_from who ds) qs → Each (IsReadAs key Q who) ds

    same_pdu : (p q : Pdu) → reading key d.bytes ≡ Ok p → reading key d.bytes ≡ Ok q → p ≡ q
    same_pdu p q e f = cc (e, f)

    taken : Others → (qs : List Pdu) → Each Q qs → AreRead key (d.bytes ∷ bytes_from who ds) qs → Each (IsReadAs key Q who) (d ∷ ds)
    taken others [] all read = absurd read
    taken others (q ∷ qs) all read = (λ same pdu is. subst Q (same_pdu q pdu read.0 is) all.0, others qs all.1 read.1)

    skipped : Others → (d.sender ≡ who → ⊥) → AreRead key (bytes_from who ds) ps → Each (IsReadAs key Q who) (d ∷ ds)
    skipped others other read = (λ same pdu is. absurd (other same), others ps each read)

    by_sender : Others → (one other : Role) → one ≡ who → d.sender ≡ other → AreRead key (chosen one other d.bytes (bytes_from who ds)) ps → Each (IsReadAs key Q who) (d ∷ ds)
    by_sender others Role.Client Role.Client e f read = taken others ps each read
    by_sender others Role.Server Role.Server e f read = taken others ps each read
    by_sender others Role.Client Role.Server e f read = skipped others (λ same. cc (e, f, same)) read
    by_sender others Role.Server Role.Client e f read = skipped others (λ same. cc (e, f, same)) read

-- of those that can come
pub each_arrived : (P : Sent → Type 0) (t : ℕ) (ds : List Sent) → Each P (arriving t ds) → Each (λ (d : Sent). can_come t d ≡ true → P d) ds
each_arrived P t [] each = tt
each_arrived P t (d ∷ ds) each = choose (λ all. each_arrived P t ds all) (can_come t d) refl each
  where
    choose : (Each P (arriving t ds) → Each (λ (x : Sent). can_come t x ≡ true → P x) ds) → (b : Bool) → can_come t d ≡ b → Each P (if b then d ∷ arriving t ds else arriving t ds) → Each (λ (d : Sent). can_come t d ≡ true → P d) (d ∷ ds)
    choose others true e all = (λ can. all.0, others all.1)
    choose others false e all = (λ can. absurd (cc (can, e)), others all)

-- ---- among lists

pub each_of : (P : Sent → Type 0) (ds : List Sent) → ((d : Sent) → IsAmong d ds → P d) → Each P ds
each_of P [] all = tt
each_of P (d ∷ ds) all = (all d (inl refl), each_of P ds (λ x is. all x (inr is)))

pub of_each : (P : Sent → Type 0) (ds : List Sent) (d : Sent) → Each P ds → IsAmong d ds → P d
of_each P [] d each is = absurd is
of_each P (x ∷ ds) d each (inl same) = subst P same each.0
of_each P (x ∷ ds) d each (inr is) = of_each P ds d each.1 is

-- an end of which nothing is among them sent none of them
pub none_of : (who : Role) (d : Sent) (ds : List Sent) → bytes_from who ds ≡ [] → IsAmong d ds → d.sender ≡ who → ⊥
none_of who d [] none is same = is
none_of who d (x ∷ ds) none is same = by_sender (λ left more. none_of who d ds left more same) who x.sender refl refl none is
  where
    by_sender : (bytes_from who ds ≡ [] → IsAmong d ds → ⊥) → (one other : Role) → one ≡ who → x.sender ≡ other → chosen one other x.bytes (bytes_from who ds) ≡ [] → (x ≡ d) ⊎ IsAmong d ds → ⊥
    by_sender others Role.Client Role.Client e f left among = cc left
    by_sender others Role.Server Role.Server e f left among = cc left
    by_sender others Role.Client Role.Server e f left (inl at) = let g = ap (λ (y : Sent). y.sender) at in cc (e, f, g, same)
    by_sender others Role.Server Role.Client e f left (inl at) = let g = ap (λ (y : Sent). y.sender) at in cc (e, f, g, same)
    by_sender others Role.Client Role.Server e f left (inr more) = others left more
    by_sender others Role.Server Role.Client e f left (inr more) = others left more
