-- Where no port is joined twice and no two signals stand at one, what is found is what there is.
use Rattle.std.proofs.Common.{◌≡◌, ◌≢◌, ◌+◌, ℕ, zero, suc, Bool, true, false, List, [], ◌∷◌, map, Option, Some, None, refl, sym, ap, subst, ◌∙◌, inl, inr, ⊎_elim, arith}
use Rattle.std.specs.Prelude.{if◌then◌else◌, slice_get}
use Rattle.std.specs.Option.{option_or, option_map}
use Rattle.std.specs.List.{Contains}
use Rattle.std.proofs.lemmas.List.Elements.{All-contains}
use Rattle.control_table.specs.layout.declared.ids.SignalId.{SignalId}
use Rattle.control_table.specs.layout.declared.port.Port.{Port}
use Rattle.control_table.specs.layout.declared.entries.Joint.{Joint}
use Rattle.control_table.specs.layout.declared.entries.Signal.{Signal}
use Rattle.control_table.specs.layout.Entries.{Site}
use Rattle.control_table.specs.layout.Once.{Distinct, joined_ports, Once}
use Rattle.control_table.specs.layout.Station.{HasPort, IsStation}
use Rattle.control_table.specs.Topology.{Joins, Joined, StandsAt}
use Rattle.station_track.specs.Ports.{is_port, other_port, beyond, signal_from}
use Rattle.station_track.proofs.Members.{contains-none, contains-here, contains-there, contains-cases, none-some, some-injective, false-from, distinct-first, distinct-rest}
use Rattle.station_track.proofs.Same.{port-decides}

-- Some joint of a list lies between two ports.
abbrev JoinedIn : List Joint → Port → Port → Type 0
JoinedIn joints p q = (joint : Joint) × Contains joints joint × Joins joint p q

-- ---- what is found is joined

joins-if : (b c : Bool) (joint : Joint) (p q : Port) → b ≡ is_port joint.first p → c ≡ is_port joint.second p → (if b then Some joint.second else if c then Some joint.first else None) ≡ Some q → Joins joint p q
joins-if true c joint p q h k e = inl ((port-decides joint.first p).0 (sym h), some-injective joint.second q e)
joins-if false true joint p q h k e = inr (some-injective joint.first q e, (port-decides joint.second p).0 (sym k))
joins-if false false joint p q h k e = absurd (none-some q e)

found-or : (joint : Joint) (joints : List Joint) (p q : Port) (o : Option Port) → other_port joint p ≡ o → (beyond joints p ≡ Some q → JoinedIn joints p q) → option_or o (beyond joints p) ≡ Some q → JoinedIn (joint ∷ joints) p q
found-or joint joints p q None h later e = let on = later e in (on.0, contains-there joint on.0 joints on.1, on.2)
found-or joint joints p q (Some other) h later e =
    (joint, contains-here joint joints, joins-if (is_port joint.first p) (is_port joint.second p) joint p q refl refl (h ∙ e))

found-in : (joints : List Joint) (p q : Port) → beyond joints p ≡ Some q → JoinedIn joints p q
found-in [] p q e = absurd (none-some q e)
found-in (joint ∷ joints) p q e = found-or joint joints p q (other_port joint p) refl (found-in joints p q) e

pub beyond-joined : (l : Site) (p q : Port) → beyond l.joints p ≡ Some q → Joined l p q
beyond-joined l p q e = found-in l.joints p q e

-- ---- what is joined is found

ports-contained : (joints : List Joint) (joint : Joint) → Contains joints joint → Contains (joined_ports joints) joint.first × Contains (joined_ports joints) joint.second
ports-contained [] joint c = absurd (contains-none joint c)
ports-contained (other ∷ joints) joint c =
    let ports : List Port = joined_ports joints in
    let Both : Joint → Type 0 = λ j. Contains (joined_ports (other ∷ joints)) j.first × Contains (joined_ports (other ∷ joints)) j.second in
    let here : Both other = (contains-here other.first (other.second ∷ ports), contains-there other.first other.second (other.second ∷ ports) (contains-here other.second ports)) in
    let behind : (p : Port) → Contains ports p → Contains (joined_ports (other ∷ joints)) p = λ p on. contains-there other.first p (other.second ∷ ports) (contains-there other.second p ports on) in
    ⊎_elim (λ e. subst Both e here) (λ later. let on = ports-contained joints joint later in (behind joint.first on.0, behind joint.second on.1)) (contains-cases other joint joints c)

stands-in : (joints : List Joint) (p q : Port) → JoinedIn joints p q → Contains (joined_ports joints) p
stands-in joints p q h =
    let on = ports-contained joints h.0 h.1 in
    let C : Port → Type 0 = λ port. Contains (joined_ports joints) port in
    ⊎_elim (λ first. subst C first.0 on.0) (λ second. subst C second.1 on.1) h.2

other-of : (joint : Joint) (p q : Port) → joint.first ≢ joint.second → Joins joint p q → other_port joint p ≡ Some q
other-of joint p q differ (inl h) =
    ap (λ b. if b then Some joint.second else if is_port joint.second p then Some joint.first else None) ((port-decides joint.first p).1 h.0) ∙ ap Some h.1
other-of joint p q differ (inr h) =
    let not_first : is_port joint.first p ≡ false = false-from (is_port joint.first p) (λ t. differ ((port-decides joint.first p).0 t ∙ sym h.1)) in
    ap (λ b. if b then Some joint.second else if is_port joint.second p then Some joint.first else None) not_first
    ∙ ap (λ b. if b then Some joint.first else None) ((port-decides joint.second p).1 h.1) ∙ ap Some h.0

other-none : (joint : Joint) (p : Port) → joint.first ≢ p → joint.second ≢ p → other_port joint p ≡ None
other-none joint p first second =
    let not_first : is_port joint.first p ≡ false = false-from (is_port joint.first p) (λ t. first ((port-decides joint.first p).0 t)) in
    let not_second : is_port joint.second p ≡ false = false-from (is_port joint.second p) (λ t. second ((port-decides joint.second p).0 t)) in
    ap (λ b. if b then Some joint.second else if is_port joint.second p then Some joint.first else None) not_first
    ∙ ap (λ b. if b then Some joint.first else None) not_second

only-in : (joints : List Joint) → Distinct (joined_ports joints) → (p q : Port) → JoinedIn joints p q → beyond joints p ≡ Some q
only-in [] d p q h = absurd (contains-none h.0 h.1)
only-in (joint ∷ joints) d p q h =
    let ports : List Port = joined_ports joints in
    let J : Joint → Type 0 = λ j. Joins j p q in
    let differ : joint.first ≢ joint.second = distinct-first joint.first joint.second (joint.second ∷ ports) d (contains-here joint.second ports) in
    let rest : Distinct (joint.second ∷ ports) = distinct-rest joint.first (joint.second ∷ ports) d in
    let here : joint ≡ h.0 → beyond (joint ∷ joints) p ≡ Some q = λ e.
    ap (λ o. option_or o (beyond joints p)) (other-of joint p q differ (subst J (sym e) h.2)) in
    let later : Contains joints h.0 → beyond (joint ∷ joints) p ≡ Some q = λ c.
    let on : JoinedIn joints p q = (h.0, c, h.2) in
    let stands = stands-in joints p q on in
    let first : joint.first ≢ p = distinct-first joint.first p (joint.second ∷ ports) d (contains-there joint.second p ports stands) in
    let second : joint.second ≢ p = distinct-first joint.second p ports rest stands in
    ap (λ o. option_or o (beyond joints p)) (other-none joint p first second) ∙ only-in joints (distinct-rest joint.second ports rest) p q on in
    ⊎_elim here later (contains-cases joint h.0 joints h.1)

pub joined-beyond : (l : Site) → Once l → (p q : Port) → Joined l p q → beyond l.joints p ≡ Some q
joined-beyond l once p q h = only-in l.joints once.joined p q h

pub one-beyond : (l : Site) → Once l → (p q r : Port) → Joined l p q → Joined l p r → q ≡ r
one-beyond l once p q r h k = some-injective q r (sym (joined-beyond l once p q h) ∙ joined-beyond l once p r k)

-- both ports of a joint are there
pub joined-there : (l : Site) → IsStation l → (p q : Port) → Joined l p q → HasPort l p × HasPort l q
joined-there l station p q h =
    let both = All-contains (λ j. HasPort l j.first × HasPort l j.second) l.joints h.0 station.joints h.1 in
    ⊎_elim
    (λ e. (subst (HasPort l) e.0 both.0, subst (HasPort l) e.1 both.1))
    (λ e. (subst (HasPort l) e.1 both.1, subst (HasPort l) e.0 both.0))
    h.2

-- ---- signals

-- the m-th of a list stands at a port
abbrev StandsIn : List Signal → ℕ → Port → Type 0
StandsIn signals m p = option_map (λ (signal : Signal). signal.at) (slice_get signals m) ≡ Some p

found-signal : (n : ℕ) (signals : List Signal) (p : Port) (k : ℕ) → signal_from n signals p ≡ Some k → (m : ℕ) × (k ≡ n + m) × StandsIn signals m p
found-signal n [] p k e = absurd (none-some k e)
found-signal n (signal ∷ signals) p k e = by (is_port signal.at p) refl e (λ e. found-signal (suc n) signals p k e) where
  by : (b : Bool) → b ≡ is_port signal.at p → (if b then Some n else signal_from (suc n) signals p) ≡ Some k
      → (signal_from (suc n) signals p ≡ Some k → (m : ℕ) × (k ≡ suc n + m) × StandsIn signals m p) → (m : ℕ) × (k ≡ n + m) × StandsIn (signal ∷ signals) m p
  by true h e later = (0, omega (arith, some-injective n k e), ap Some ((port-decides signal.at p).0 (sym h)))
  by false h e later = let on = later e in (suc on.0, (let same = on.1 in omega (arith, same)), on.2)

pub signal-stands : (l : Site) (p : Port) (k : ℕ) → signal_from 0 l.signals p ≡ Some k → StandsAt l (record { 0 = k }) p
signal-stands l p k e =
    let on = found-signal 0 l.signals p k e in
    let same : on.0 ≡ k = (let at = on.1 in omega (arith, at)) in
    subst (λ m. StandsIn l.signals m p) same on.2

standing-contained : (signals : List Signal) (m : ℕ) (p : Port) → StandsIn signals m p → Contains (map (λ (s : Signal). s.at) signals) p
standing-contained [] m p e = absurd (none-some p e)
standing-contained (signal ∷ signals) zero p e =
    let C : Port → Type 0 = λ q. Contains (map (λ (s : Signal). s.at) (signal ∷ signals)) q in
    subst C (some-injective signal.at p e) (contains-here signal.at (map (λ (s : Signal). s.at) signals))
standing-contained (signal ∷ signals) (suc m) p e = contains-there signal.at p (map (λ (s : Signal). s.at) signals) (standing-contained signals m p e)

only-signal : (n : ℕ) (signals : List Signal) → Distinct (map (λ (s : Signal). s.at) signals) → (m : ℕ) (p : Port) → StandsIn signals m p → signal_from n signals p ≡ Some (n + m)
only-signal n [] d m p e = absurd (none-some p e)
only-signal n (signal ∷ signals) d zero p e =
    ap (λ b. if b then Some n else signal_from (suc n) signals p) ((port-decides signal.at p).1 (some-injective signal.at p e)) ∙ ap Some (omega arith)
only-signal n (signal ∷ signals) d (suc m) p e =
    let other : signal.at ≢ p = distinct-first signal.at p (map (λ (s : Signal). s.at) signals) d (standing-contained signals m p e) in
    let no : is_port signal.at p ≡ false = false-from (is_port signal.at p) (λ t. other ((port-decides signal.at p).0 t)) in
    ap (λ b. if b then Some n else signal_from (suc n) signals p) no
    ∙ only-signal (suc n) signals (distinct-rest signal.at (map (λ (s : Signal). s.at) signals) d) m p e ∙ ap Some (omega arith)

pub stands-signal : (l : Site) → Once l → (s : SignalId) (p : Port) → StandsAt l s p → signal_from 0 l.signals p ≡ Some s.0
stands-signal l once s p h = only-signal 0 l.signals once.signalled s.0 p h ∙ ap Some (omega arith)

-- a signal stands at a port that is there
get-all : {A : Type 0} (P : A → Type 0) (f : A → Port) (xs : List A) (m : ℕ) (p : Port) → option_map f (slice_get xs m) ≡ Some p → (x : A) × Contains xs x × (f x ≡ p)
get-all P f [] m p e = absurd (none-some p e)
get-all P f (x ∷ xs) zero p e = (x, contains-here x xs, some-injective (f x) p e)
get-all P f (x ∷ xs) (suc m) p e = let on = get-all P f xs m p e in (on.0, contains-there x on.0 xs on.1, on.2)

pub signal-there : (l : Site) → IsStation l → (s : SignalId) (p : Port) → StandsAt l s p → HasPort l p
signal-there l station s p h =
    let on = get-all (λ (s : Signal). HasPort l s.at) (λ (s : Signal). s.at) l.signals s.0 p h in
    subst (HasPort l) on.2 (All-contains (λ (s : Signal). HasPort l s.at) l.signals on.0 station.signals on.1)
