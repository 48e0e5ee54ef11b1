-- The throat of a border: the places from it up to the first signal that stands toward the station, where only tracks lie
-- between. A border at whose own port a signal stands has the place outside.
use Rattle.std.specs.Prelude.{ℕ, zero, suc, Bool, length, is_some, List, [], ◌∷◌, Option, Some, None, if◌then◌else◌}
use Rattle.std.specs.Option.{option_map}
use Rattle.control_table.specs.layout.declared.port.Port.{Port}
use Rattle.control_table.specs.layout.Entries.{Site}
use Rattle.station_track.specs.declared.place.Place.{Place}
use Rattle.station_track.specs.Places.{place_number}
use Rattle.station_track.specs.Ports.{front, track_behind, beyond, signal_from}

abbrev pub has_signal : Site → Port → Bool
has_signal l p = is_some (signal_from 0 l.signals p)

-- over one track: its place is the last where a signal stands at its front, and else those that come later are behind it
abbrev pub throat_over : Site → (later : Option Port → Option (List ℕ)) → Option Place → Option (List ℕ)
throat_over l later None = None
throat_over l later (Some p) =
    if has_signal l (front p) then Some (place_number l p ∷ []) else option_map (λ ns. place_number l p ∷ ns) (later (beyond l.joints (front p)))

-- from a port on, over so many tracks at most
abbrev pub throat_from : Site → ℕ → Option Port → Option (List ℕ)
throat_from l zero entered = None
throat_from l (suc n) entered = throat_over l (throat_from l n) (track_behind entered)

abbrev pub none_at_all : Option (List ℕ) → List ℕ
none_at_all None = []
none_at_all (Some ns) = ns

abbrev pub throat_places : Site → Place → List ℕ
throat_places l outside =
    if has_signal l (front outside) then place_number l outside ∷ []
    else none_at_all (throat_from l (length l.tracks) (beyond l.joints (front outside)))
