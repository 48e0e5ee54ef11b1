-- Each throat leads from place to place, over tracks alone, without a signal between, up to a signal.
use Rattle.std.proofs.Common.{◌≡◌, ◌≢◌, ℕ, zero, suc, Bool, true, false, length, is_some, List, [], ◌∷◌, Option, Some, None, refl, sym, ap, subst, ◌∙◌, inl, inr}
use Rattle.std.specs.Prelude.{if◌then◌else◌}
use Rattle.std.specs.Option.{option_map}
use Rattle.std.proofs.lemmas.Bool.{false≢true}
use Rattle.train_machine.specs.Lists.{IsOf, IsNext, IsLast}
use Rattle.control_table.specs.layout.declared.port.Port.{Port}
use Rattle.control_table.specs.layout.Entries.{Site}
use Rattle.control_table.specs.layout.Once.{Once}
use Rattle.control_table.specs.layout.Station.{HasElement, HasPort, IsStation}
use Rattle.control_table.specs.Topology.{Joined}
use Rattle.station_track.specs.declared.place.Place.{Place}
use Rattle.station_track.specs.declared.place.Place.TheVariants as place
use Rattle.station_track.specs.Places.{HasPlace, place_number, place_at}
use Rattle.station_track.specs.Ports.{front, rear, track_behind, beyond, signal_from}
use Rattle.station_track.specs.Throats.{has_signal, throat_over, throat_from, none_at_all}
use Rattle.station_track.specs.Tracks.{track_of, front_of, signal_before, place_point}
use Rattle.station_track.proofs.Members.{none-some, some-injective}
use Rattle.station_track.proofs.Joints.{beyond-joined, joined-there, signal-stands, signal-there}
use Rattle.station_track.proofs.Numbered.{number-at}
use Rattle.station_track.proofs.Passages.{IsTrackBehind, track-behind}
use Rattle.station_track.proofs.Neighbours.{leads-follows}

pub record IsThroatSane (l : Site) (places : List ℕ) : Type 0 where
  pub leads : (a b : ℕ) → IsNext a b places → (track_of l).follows a b ≡ true
  pub ends : (place : ℕ) → IsLast place places → (track_of l).signal place ≢ None
  pub plain : (place : ℕ) → IsOf place places → (track_of l).point place ≡ None

-- the first of the places is entered by a port
abbrev Starts : Site → Port → List ℕ → Type 0
Starts l entered [] = ⊥
Starts l entered (first ∷ later) = (p : Place) × (place_at l first ≡ Some p) × (rear p ≡ Some entered)

no-places : (l : Site) → IsThroatSane l []
no-places l = record { leads = λ a b h. absurd h; ends = λ n h. absurd h; plain = λ n h. absurd h }

-- a place at whose front a signal stands
signalled : (l : Site) (n : ℕ) (p : Place) → place_at l n ≡ Some p → has_signal l (front p) ≡ true → (track_of l).signal n ≢ None
signalled l n p at has none =
    let there : signal_from 0 l.signals (front p) ≡ None = sym (ap (λ o. signal_before l (front_of o)) at) ∙ none in
    false≢true (sym (ap is_some there) ∙ has)

alone : (l : Site) (n : ℕ) (p : Place) → place_at l n ≡ Some p → has_signal l (front p) ≡ true → place_point (Some p) ≡ None → IsThroatSane l (n ∷ [])
alone l n p at has plain = record {
  leads = λ a b h. absurd (no-next a b h);
  ends = λ place last. subst (λ m. (track_of l).signal m ≢ None) last (signalled l n p at has);
  plain = λ place of. by place of;
}
  where
    no-next : (a b : ℕ) → IsNext a b (n ∷ []) → ⊥
    no-next a b (inl h) = absurd h.1
    no-next a b (inr h) = absurd h

    by : (place : ℕ) → IsOf place (n ∷ []) → (track_of l).point place ≡ None
    by place (inl e) = subst (λ m. (track_of l).point m ≡ None) e (ap place_point at ∙ plain)
    by place (inr h) = absurd h

-- one more place before the others
before : (l : Site) → Once l → (n : ℕ) (p : Place) (entered : Port) (later : List ℕ) → place_at l n ≡ Some p → place_point (Some p) ≡ None → Joined l (front p) entered
    → Starts l entered later → IsThroatSane l later → IsThroatSane l (n ∷ later)
before l once n p entered [] at plain joined starts sane = absurd starts
before l once n p entered (m ∷ later) at plain joined starts sane = record {
  leads = λ a b h. leads a b h;
  ends = λ place last. sane.ends place last;
  plain = λ place of. points place of;
}
  where
    here : (track_of l).follows n m ≡ true
    here = leads-follows l once n m (record { place = p; next = starts.0; between = entered; at = at; behind = starts.1; joined = joined; entered = starts.2 })

    leads : (a b : ℕ) → IsNext a b (n ∷ m ∷ later) → (track_of l).follows a b ≡ true
    leads a b (inl h) = subst (λ y. (track_of l).follows a y ≡ true) h.1 (subst (λ x. (track_of l).follows x m ≡ true) h.0 here)
    leads a b (inr h) = sane.leads a b h

    points : (place : ℕ) → IsOf place (n ∷ m ∷ later) → (track_of l).point place ≡ None
    points place (inl e) = subst (λ x. (track_of l).point x ≡ None) e (ap place_point at ∙ plain)
    points place (inr h) = sane.plain place h

-- from no port no throat leads on
pub nothing : (l : Site) (n : ℕ) (later : List ℕ) → throat_from l n None ≡ Some later → ⊥
nothing l zero later e = none-some later e
nothing l (suc n) later e = none-some later e

pub throat-from : (l : Site) → Once l → IsStation l → (n : ℕ) (entered : Port) → HasPort l entered → (places : List ℕ) → throat_from l n (Some entered) ≡ Some places
    → IsThroatSane l places × Starts l entered places
throat-from l once station zero entered there places e = absurd (none-some places e)
throat-from l once station (suc n) entered there places e =
    over (track_behind (Some entered)) refl e (λ q beyond later f. throat-from l once station n q beyond later f)
  where
    Deeper : Type 0
    Deeper = (q : Port) → HasPort l q → (later : List ℕ) → throat_from l n (Some q) ≡ Some later → IsThroatSane l later × Starts l q later

    over : (o : Option Place) → track_behind (Some entered) ≡ o → throat_over l (throat_from l n) o ≡ Some places → Deeper → IsThroatSane l places × Starts l entered places
    over None is e deeper = absurd (none-some places e)
    over (Some p) is e deeper = by (has_signal l (front p)) refl e
      where
        behind : IsTrackBehind entered p
        behind = track-behind entered p is

        at : place_at l (place_number l p) ≡ Some p
        at = number-at l p (subst (HasElement l) (sym behind.on) there.element)

        plain : place_point (Some p) ≡ None
        plain = behind.plain

        starts : (later : List ℕ) → Starts l entered (place_number l p ∷ later)
        starts later = (p, at, behind.behind)

        Sane : List ℕ → Type 0
        Sane ns = IsThroatSane l ns × Starts l entered ns

        further : (next : Option Port) (o : Option (List ℕ)) → beyond l.joints (front p) ≡ next → throat_from l n next ≡ o → option_map (λ ns. place_number l p ∷ ns) o ≡ Some places → Sane places
        further next None j f e = absurd (none-some places e)
        further None (Some later) j f e = absurd (nothing l n later f)
        further (Some q) (Some later) j f e =
            let joined = beyond-joined l (front p) q j in
            let rest = deeper q (joined-there l station (front p) q joined).1 later f in
            subst Sane (some-injective (place_number l p ∷ later) places e)
            (before l once (place_number l p) p q later at plain joined rest.1 rest.0, starts later)

        by : (b : Bool) → has_signal l (front p) ≡ b
            → (if b then Some (place_number l p ∷ []) else option_map (λ ns. place_number l p ∷ ns) (throat_from l n (beyond l.joints (front p)))) ≡ Some places → Sane places
        by true has e = subst Sane (some-injective (place_number l p ∷ []) places e) (alone l (place_number l p) p at has plain, starts [])
        by false has e = further (beyond l.joints (front p)) (throat_from l n (beyond l.joints (front p))) refl refl e

pub throats-sane : (l : Site) → Once l → IsStation l → (n : ℕ) → IsThroatSane l ((track_of l).throat n)
throats-sane l once station n = by (has_signal l port) refl
  where
    outside : Place
    outside = place.Outside (record { 0 = n })

    port : Port
    port = front outside

    found : (o : Option (List ℕ)) (entered : Option Port) → beyond l.joints port ≡ entered → throat_from l (length l.tracks) entered ≡ o → IsThroatSane l (none_at_all o)
    found None entered j e = no-places l
    found (Some places) None j e = absurd (nothing l (length l.tracks) places e)
    found (Some places) (Some q) j e = (throat-from l once station (length l.tracks) q (joined-there l station port q (beyond-joined l port q j)).1 places e).0

    signal-here : (o : Option ℕ) → signal_from 0 l.signals port ≡ o → is_some o ≡ true → HasPlace l outside
    signal-here None e t = absurd (false≢true t)
    signal-here (Some s) e t = (signal-there l station (record { 0 = s }) port (signal-stands l port s e)).element

    by : (b : Bool) → has_signal l port ≡ b
        → IsThroatSane l (if b then place_number l outside ∷ [] else none_at_all (throat_from l (length l.tracks) (beyond l.joints port)))
    by true has = alone l (place_number l outside) outside (number-at l outside (signal-here (signal_from 0 l.signals port) refl has)) has refl
    by false has = found (throat_from l (length l.tracks) (beyond l.joints port)) (beyond l.joints port) refl refl
