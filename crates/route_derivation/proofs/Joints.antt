-- Where no port is joined twice, the joint that is found is the joint that there is.
use Rattle.std.proofs.Common.{◌≡◌, ◌≢◌, Bool, true, false, List, [], ◌∷◌, Option, Some, None, refl, sym, ap, subst, ◌∙◌, inl, inr, ⊎_elim}
use Rattle.std.specs.Prelude.{if◌then◌else◌}
use Rattle.std.specs.Option.{option_or}
use Rattle.std.specs.List.{Contains}
use Rattle.control_table.specs.layout.declared.port.Port.{Port}
use Rattle.control_table.specs.layout.declared.entries.Joint.{Joint}
use Rattle.control_table.specs.layout.Entries.{Site}
use Rattle.control_table.specs.layout.Once.{Distinct, joined_ports, Once}
use Rattle.control_table.specs.Topology.{Joins, Joined}
use Rattle.route_derivation.specs.inside.WaySearch.{is_port, other_port, joined_to}
use Rattle.route_derivation.proofs.Members.{none-some, false-from}
use Rattle.route_derivation.proofs.Members.{contains-none, contains-here, contains-there, contains-cases, some-injective, distinct-first, distinct-rest}
use Rattle.route_derivation.proofs.Same.{port-decides}

-- Some joint of a list lies between two ports.
abbrev pub JoinedIn : List Joint → Port → Port → Type 0
JoinedIn joints p q = (joint : Joint) × Contains joints joint × Joins joint p q

-- ---- what is found is joined

joins-if : (b c : Bool) (joint : Joint) (p q : Port) → b ≡ is_port joint.first p → c ≡ is_port joint.second p → (if b then Some joint.second else if c then Some joint.first else None) ≡ Some q → Joins joint p q
joins-if true c joint p q h k e = inl ((port-decides joint.first p).0 (sym h), some-injective joint.second q e)
joins-if false true joint p q h k e = inr (some-injective joint.first q e, (port-decides joint.second p).0 (sym k))
joins-if false false joint p q h k e = absurd (none-some q e)

found-or : (joint : Joint) (joints : List Joint) (p q : Port) (o : Option Port) → other_port joint p ≡ o → (joined_to joints p ≡ Some q → JoinedIn joints p q) → option_or o (joined_to joints p) ≡ Some q → JoinedIn (joint ∷ joints) p q
found-or joint joints p q None h later e = let on = later e in (on.0, contains-there joint on.0 joints on.1, on.2)
found-or joint joints p q (Some beyond) h later e =
    (joint, contains-here joint joints, joins-if (is_port joint.first p) (is_port joint.second p) joint p q refl refl (h ∙ e))

found-in : (joints : List Joint) (p q : Port) → joined_to joints p ≡ Some q → JoinedIn joints p q
found-in [] p q e = absurd (none-some q e)
found-in (joint ∷ joints) p q e = found-or joint joints p q (other_port joint p) refl (found-in joints p q) e

pub joined-found : (l : Site) (p q : Port) → joined_to l.joints p ≡ Some q → Joined l p q
joined-found l p q e = found-in l.joints p q e

-- ---- what is joined is found, where no port is joined twice

ports-contained : (joints : List Joint) (joint : Joint) → Contains joints joint → Contains (joined_ports joints) joint.first × Contains (joined_ports joints) joint.second
ports-contained [] joint c = absurd (contains-none joint c)
ports-contained (other ∷ joints) joint c =
    let ports : List Port = joined_ports joints in
    let Both : Joint → Type 0 = λ j. Contains (joined_ports (other ∷ joints)) j.first × Contains (joined_ports (other ∷ joints)) j.second in
    let here : Both other = (contains-here other.first (other.second ∷ ports), contains-there other.first other.second (other.second ∷ ports) (contains-here other.second ports)) in
    let behind : (p : Port) → Contains ports p → Contains (joined_ports (other ∷ joints)) p = λ p on. contains-there other.first p (other.second ∷ ports) (contains-there other.second p ports on) in
    ⊎_elim (λ e. subst Both e here) (λ later. let on = ports-contained joints joint later in (behind joint.first on.0, behind joint.second on.1)) (contains-cases other joint joints c)

pub stands-in : (joints : List Joint) (p q : Port) → JoinedIn joints p q → Contains (joined_ports joints) p
stands-in joints p q h =
    let on = ports-contained joints h.0 h.1 in
    let C : Port → Type 0 = λ port. Contains (joined_ports joints) port in
    ⊎_elim (λ first. subst C first.0 on.0) (λ second. subst C second.1 on.1) h.2

other-of : (joint : Joint) (p q : Port) → joint.first ≢ joint.second → Joins joint p q → other_port joint p ≡ Some q
other-of joint p q differ (inl h) =
    ap (λ b. if b then Some joint.second else if is_port joint.second p then Some joint.first else None) ((port-decides joint.first p).1 h.0) ∙ ap Some h.1
other-of joint p q differ (inr h) =
    let not_first : is_port joint.first p ≡ false = false-from (is_port joint.first p) (λ t. differ ((port-decides joint.first p).0 t ∙ sym h.1)) in
    ap (λ b. if b then Some joint.second else if is_port joint.second p then Some joint.first else None) not_first
    ∙ ap (λ b. if b then Some joint.first else None) ((port-decides joint.second p).1 h.1) ∙ ap Some h.0

other-none : (joint : Joint) (p : Port) → joint.first ≢ p → joint.second ≢ p → other_port joint p ≡ None
other-none joint p first second =
    let not_first : is_port joint.first p ≡ false = false-from (is_port joint.first p) (λ t. first ((port-decides joint.first p).0 t)) in
    let not_second : is_port joint.second p ≡ false = false-from (is_port joint.second p) (λ t. second ((port-decides joint.second p).0 t)) in
    ap (λ b. if b then Some joint.second else if is_port joint.second p then Some joint.first else None) not_first
    ∙ ap (λ b. if b then Some joint.first else None) not_second

only-in : (joints : List Joint) → Distinct (joined_ports joints) → (p q : Port) → JoinedIn joints p q → joined_to joints p ≡ Some q
only-in [] d p q h = absurd (contains-none h.0 h.1)
only-in (joint ∷ joints) d p q h =
    let ports : List Port = joined_ports joints in
    let J : Joint → Type 0 = λ j. Joins j p q in
    let differ : joint.first ≢ joint.second = distinct-first joint.first joint.second (joint.second ∷ ports) d (contains-here joint.second ports) in
    let rest : Distinct (joint.second ∷ ports) = distinct-rest joint.first (joint.second ∷ ports) d in
    let here : joint ≡ h.0 → joined_to (joint ∷ joints) p ≡ Some q = λ e.
    ap (λ o. option_or o (joined_to joints p)) (other-of joint p q differ (subst J (sym e) h.2)) in
    let later : Contains joints h.0 → joined_to (joint ∷ joints) p ≡ Some q = λ c.
    let on : JoinedIn joints p q = (h.0, c, h.2) in
    let stands = stands-in joints p q on in
    let first : joint.first ≢ p = distinct-first joint.first p (joint.second ∷ ports) d (contains-there joint.second p ports stands) in
    let second : joint.second ≢ p = distinct-first joint.second p ports rest stands in
    ap (λ o. option_or o (joined_to joints p)) (other-none joint p first second) ∙ only-in joints (distinct-rest joint.second ports rest) p q on in
    ⊎_elim here later (contains-cases joint h.0 joints h.1)

-- A port leads to one other port at most.
abbrev pub OneBeyond : Site → Type 0
OneBeyond l = (p q : Port) → Joined l p q → joined_to l.joints p ≡ Some q

pub one-beyond : (l : Site) → Once l → OneBeyond l
one-beyond l once p q h = only-in l.joints once.joined p q h
