-- What a fault says of a layout's text whose keys and values are read.
use Rattle.std.specs.Prelude.{◌≡◌, ◌⊎◌, ℕ, suc, Bool, true, false, List, [], ◌∷◌, ◌++◌, map, Ok, Err}
use Rattle.std.specs.List.{AllPairs, Contains}
use Rattle.toml.specs.Parse.{parse_document}
use Rattle.layout_text.specs.declared.fault.LayoutFault.{LayoutFault}
use Rattle.layout_text.specs.declared.fault.LayoutFault.TheVariants.{DoubleName, DoubleJoint, OutOfMemory}
use Rattle.layout_text.specs.declared.fault.Place.{Place}
use Rattle.layout_text.specs.declared.fault.TableName.{TableName}
use Rattle.layout_text.specs.declared.fault.TableName.TheVariants as named
use Rattle.layout.specs.declared.port.Port.{Port}
use Rattle.layout.specs.Entries.{Site}
use Rattle.layout_text.specs.Written.{LayoutText}
use Rattle.layout_text.specs.FirstFault.{Read, ◌>>=◌}
use Rattle.layout_text.specs.Text.{text_of, document_of}
use Rattle.layout_text.specs.Limits.{limits_of}
use Rattle.layout.specs.Known.{same_name, same_port}
use Rattle.layout.specs.Doubles.{same_id, sections_reported, ports_joined}
use Rattle.layout.specs.NamesResolved.{entries_of}

-- ---- keys with the places of their entries, in reading order

-- one key for each entry of a table, the first of which stands at place n
abbrev pub numbered : {K : Type 0} → TableName → ℕ → List K → List (K × Place)
numbered table n [] = []
numbered table n (key ∷ keys) = (key, record { table = table; entry = n }) ∷ numbered table (suc n) keys

-- the keys of one entry
abbrev pub all_at : {K : Type 0} → Place → List K → List (K × Place)
all_at place keys = map (λ key. (key, place)) keys

-- a list of keys for each entry
abbrev pub listed : {K A : Type 0} → (A → List K) → TableName → ℕ → List A → List (K × Place)
listed keys_in table n [] = []
listed keys_in table n (x ∷ xs) = all_at (record { table = table; entry = n }) (keys_in x) ++ listed keys_in table (suc n) xs

-- all names
unfoldable pub names_written : LayoutText → List (List ℕ × Place)
names_written text =
    (text.station.name, record { table = named.Station; entry = 1 }) ∷ (numbered named.Section 1 text.sections ++ (numbered named.Track 1 (map (λ t. t.name) text.tracks)
    ++ (numbered named.Point 1 (map (λ p. p.name) text.points) ++ (numbered named.Border 1 text.borders ++ (numbered named.Signal 1 (map (λ s. s.name) text.signals)
    ++ (numbered named.Detector 1 (map (λ d. d.name) text.detectors) ++ numbered named.Route 1 (map (λ r. r.name) text.routes)))))))

-- all identities
unfoldable pub ids_written : LayoutText → List (ℕ × Place)
ids_written text =
    (text.station.id, record { table = named.Station; entry = 1 }) ∷ (numbered named.Point 1 (map (λ p. p.id) text.points)
    ++ (numbered named.Signal 1 (map (λ s. s.id) text.signals) ++ numbered named.Detector 1 (map (λ d. d.id) text.detectors)))

-- the sections that are reported
abbrev pub sections_written : LayoutText → List (List ℕ × Place)
sections_written text = listed sections_reported named.Detector 1 text.detectors

-- the ports that are joined, and those at which signals stand
abbrev pub joints_written : Site → List (Port × Place)
joints_written l = listed ports_joined named.Joint 1 l.joints

abbrev pub signals_written : Site → List (Port × Place)
signals_written l = numbered named.Signal 1 (map (λ s. s.at) l.signals)

-- ---- a key that comes again

-- No key is the same as an earlier one.
abbrev pub NoneTwice : {K : Type 0} → (K → K → Bool) → List (K × Place) → Type 0
NoneTwice same keys = AllPairs (λ a b. same b a ≡ false) (map (λ e. e.0) keys)

-- The first key that is the same as an earlier one stands at this place.
pub record IsFirstTwice {K : Type 0} (same : K → K → Bool) (keys : List (K × Place)) (place : Place) : Type 0 where
  pub earlier : List (K × Place)
  pub key : K
  pub later : List (K × Place)
  pub stands : keys ≡ earlier ++ (key, place) ∷ later
  pub again : (k : K) × Contains (map (λ e. e.0) earlier) k × (same key k ≡ true)
  pub first : NoneTwice same earlier

-- A name is used twice; or else an identity; or else a section is reported twice. The fault is at the first later use.
abbrev pub IsDoubleName : LayoutText → LayoutFault → Type 0
IsDoubleName text f = (place : Place) × (f ≡ DoubleName place)
    × (IsFirstTwice same_name (names_written text) place
    ⊎ (NoneTwice same_name (names_written text) × (IsFirstTwice same_id (ids_written text) place
    ⊎ (NoneTwice same_id (ids_written text) × IsFirstTwice same_name (sections_written text) place))))

-- No name and no identity is used twice, and no section reported twice.
pub record HasNothingTwice (text : LayoutText) : Type 0 where
  pub names : NoneTwice same_name (names_written text)
  pub ids : NoneTwice same_id (ids_written text)
  pub sections : NoneTwice same_name (sections_written text)

-- A port is joined twice; or else two signals stand at one port. The fault is at the later one.
abbrev pub IsDoubleJoint : Site → LayoutFault → Type 0
IsDoubleJoint l f = (place : Place) × (f ≡ DoubleJoint place)
    × (IsFirstTwice same_port (joints_written l) place ⊎ (NoneTwice same_port (joints_written l) × IsFirstTwice same_port (signals_written l) place))

-- What a text writes, or its first missing key or wrong kind in reading order.
abbrev pub written_in : List ℕ → Read LayoutText
written_in text = document_of (parse_document text) >>= λ document. text_of document

-- The fault of a text that is written so: the first entry too many, or else a double name, or else an unknown name, or
-- else a double joint.
abbrev pub IsFaultOf : LayoutText → LayoutFault → Type 0
IsFaultOf text f = (limits_of text ≡ Err f)
    ⊎ ((limits_of text ≡ Ok tt) × (IsDoubleName text f
    ⊎ (HasNothingTwice text × ((entries_of text ≡ Err f)
    ⊎ ((l : Site) × (entries_of text ≡ Ok l) × IsDoubleJoint l f)))))

-- A fault is the first of a text: it is no TOML, or a key is missing or of a wrong kind; or else it is that of what the
-- text writes. Nothing is said of want of memory.
abbrev pub IsFirstFault : List ℕ → LayoutFault → Type 0
IsFirstFault text OutOfMemory = Unit {0}
IsFirstFault text f = (written_in text ≡ Err f) ⊎ ((w : LayoutText) × (written_in text ≡ Ok w) × IsFaultOf w f)
