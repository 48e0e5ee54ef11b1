-- Stations, one after the other.
use Rattle.std.proofs.Common.{◌≡◌, ◌<◌, ◌+◌, ℕ, List, [], ◌∷◌, ◌++◌, Global, String, arith, get_or, length, map, refl, string_bytes, take}
use Rattle.std.proofs.lemmas.List.{map-append, take_more}
use Rattle.layout_text.specs.declared.fault.LayoutFault.{LayoutFault}
use Rattle.layout_text.specs.declared.fault.LayoutFault.TheVariants.{Toml, MissingKey, WrongKind, UnknownName, DoubleName, DoubleJoint, Limit, OutOfMemory}
use Rattle.layout_text.specs.FirstFault.{Fails, Read}
use Rattle.control_table.specs.layout.Entries.{Site}
use Rattle.railway_layout.specs.declared.found.Found.TheVariants.{NoLayout}
use Rattle.railway_layout.specs.declared.found.RailwayStation.{RailwayStation}
use Rattle.railway_layout.specs.Stations.{AreStations, IsOf, IsStationOf}
use Rattle.railway_layout.specs.Written.{StationText}

pub stations_pushed : (ss : List StationText) (ts : List (List ℕ)) (rs : List RailwayStation) (s : StationText) (t : List ℕ) (r : RailwayStation)
    → AreStations ss ts rs → IsStationOf s t r → AreStations (ss ++ s ∷ []) (ts ++ t ∷ []) (rs ++ r ∷ [])
stations_pushed [] [] [] s t r all one = (one, tt)
stations_pushed [] [] (r' ∷ rs) s t r all one = absurd all
stations_pushed [] (t' ∷ ts) rs s t r all one = absurd all
stations_pushed (s' ∷ ss) [] rs s t r all one = absurd all
stations_pushed (s' ∷ ss) (t' ∷ ts) [] s t r all one = absurd all
stations_pushed (s' ∷ ss) (t' ∷ ts) (r' ∷ rs) s t r all one = (all.0, stations_pushed ss ts rs s t r all.1 one)

-- one more station, with its text
pub stations_more : (ss : List StationText) (ts : List (String Global)) (rs : List RailwayStation) (i : ℕ) (s : StationText) (t : String Global) (r : RailwayStation)
    → i < length ss → length ts ≡ length ss → s ≡ get_or ss i s → t ≡ get_or ts i t → AreStations (take i ss) (map string_bytes (take i ts)) rs → IsStationOf s (string_bytes t) r
    → AreStations (take (i + 1) ss) (map string_bytes (take (i + 1) ts)) (rs ++ r ∷ [])
stations_more ss ts rs i s t r lt same here there so_far one =
    let lt' : i < length ts = omega arith in
    rw (take_more ss i s lt, take_more ts i t lt', ← here, ← there, map-append) (stations_pushed (take i ss) (map string_bytes (take i ts)) rs s (string_bytes t) r so_far one)

-- a fault that isn't want of memory is that of the text
pub no_layout : (fault : LayoutFault) → (fault ≡ OutOfMemory → ⊥) → (read : Read Site) → Fails fault read → IsOf read (NoLayout fault)
no_layout OutOfMemory other read fails = absurd (other refl)
no_layout Toml other read fails = rw fails refl
no_layout (MissingKey place) other read fails = rw fails refl
no_layout (WrongKind place) other read fails = rw fails refl
no_layout (UnknownName place) other read fails = rw fails refl
no_layout (DoubleName place) other read fails = rw fails refl
no_layout (DoubleJoint place) other read fails = rw fails refl
no_layout (Limit place) other read fails = rw fails refl
