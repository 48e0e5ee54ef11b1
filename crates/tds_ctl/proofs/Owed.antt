-- What sections owe, and what was told of them.
use Rattle.std.proofs.Common.{◌≡◌, ℕ, zero, suc, Bool, true, false, not, List, [], ◌∷◌, refl, ap, sym, ◌∙◌, if◌then◌else◌, Some, option_map, find}
use Rattle.std.proofs.lemmas.Bool.{false≢true}
use Rattle.sci_telegram.specs.declared.message.Occupancy.{Occupancy}
use Rattle.object_host.specs.declared.sense.Sense.TheVariants as sense
use Rattle.tds_ctl.specs.declared.section.Section.{Section}
use Rattle.tds_ctl.specs.Sections.{is_same, changed, settled, with_section, owing, paying, losing, status_at, status_of, owes}
use Rattle.object_host.specs.Object.{ObjectCall, Takes, Ticks, Senses, Keeps, Pays, Loses, object_after, object_after_all}
use Rattle.tds_ctl.specs.Controlled.{detection_behaviour}
use Rattle.tds_ctl.specs.History.{IsChange, StaysOwed, changes_at, is_first, is_settled, owes_at}

true≢false : {A : Type 0} → true ≡ false → A
true≢false h = absurd (false≢true (sym h))

-- a change owes
change_owes : (same : Bool) (now before : Section) → not same ≡ true → now.owes ≡ true → (if same then before else now).owes ≡ true
change_owes true now before is owed = absurd (false≢true is)
change_owes false now before is owed = owed

pub changing_owes : (place : ℕ) (occupancy : Occupancy) (sections : List Section) → changes_at place occupancy sections ≡ true
    → owes_at place (with_section place (changed occupancy) sections) ≡ true
changing_owes place occupancy [] is = absurd (false≢true is)
changing_owes zero occupancy (section ∷ rest) is =
    change_owes (is_same occupancy section.occupancy) (record section { occupancy = occupancy; owes = true }) section is refl
changing_owes (suc place) occupancy (section ∷ rest) is = changing_owes place occupancy rest is

-- and stays owed by what a contact tells
still_owes : (same : Bool) (now before : Section) → now.owes ≡ true → before.owes ≡ true → (if same then before else now).owes ≡ true
still_owes true now before h k = k
still_owes false now before h k = h

sensing_keeps : (at place : ℕ) (occupancy : Occupancy) (sections : List Section) → owes_at place sections ≡ true
    → owes_at place (with_section at (changed occupancy) sections) ≡ true
sensing_keeps at place occupancy [] owed = owed
sensing_keeps zero zero occupancy (section ∷ rest) owed =
    still_owes (is_same occupancy section.occupancy) (record section { occupancy = occupancy; owes = true }) section refl owed
sensing_keeps zero (suc place) occupancy (section ∷ rest) owed = owed
sensing_keeps (suc at) zero occupancy (section ∷ rest) owed = owed
sensing_keeps (suc at) (suc place) occupancy (section ∷ rest) owed = sensing_keeps at place occupancy rest owed

-- and where another section is paid
paying_behind : (b : Bool) (place : ℕ) (section : Section) (rest : List Section) → section.owes ≡ b → owes_at place rest ≡ true
    → (is_first place rest ≡ false → owes_at place (paying rest) ≡ true) → is_first (suc place) (section ∷ rest) ≡ false
    → owes_at (suc place) (paying (section ∷ rest)) ≡ true
paying_behind true place section rest is owed later first = rw is owed
paying_behind false place section rest is owed later first = rw is (later (rw is at first))

paying_keeps : (place : ℕ) (sections : List Section) → owes_at place sections ≡ true → is_first place sections ≡ false
    → owes_at place (paying sections) ≡ true
paying_keeps place [] owed first = owed
paying_keeps zero (section ∷ rest) owed first = true≢false (sym owed ∙ first)
paying_keeps (suc place) (section ∷ rest) owed first =
    paying_behind section.owes place section rest refl owed (λ h. paying_keeps place rest owed h) first

abbrev after : ObjectCall → List Section → List Section
after call sections = object_after detection_behaviour call sections

call_keeps : (call : ObjectCall) (place : ℕ) (sections : List Section) → owes_at place sections ≡ true → is_settled place call sections ≡ false
    → owes_at place (after call sections) ≡ true
call_keeps (Takes now telegram) place sections owed stays = owed
call_keeps (Ticks now) place sections owed stays = owed
call_keeps (Senses now (sense.Section at occupancy)) place sections owed stays = sensing_keeps at place occupancy sections owed
call_keeps (Senses now (sense.Position position)) place sections owed stays = owed
call_keeps (Keeps moment) place sections owed stays = owed
call_keeps Pays place sections owed stays = paying_keeps place sections owed stays
call_keeps Loses place sections owed stays = true≢false stays

pub calls_keep : (place : ℕ) (calls : List ObjectCall) (sections : List Section) → owes_at place sections ≡ true → StaysOwed place calls sections
    → owes_at place (object_after_all detection_behaviour calls sections) ≡ true
unfolding object_after_all
calls_keep place [] sections owed stays = owed
calls_keep place (call ∷ calls) sections owed stays =
    calls_keep place calls (after call sections) (call_keeps call place sections owed stays.0) stays.1

-- a section owes nothing without a change of it
owed_by_change : (same : Bool) (now before : Section) → (if same then before else now).owes ≡ true → before.owes ≡ false → not same ≡ true
owed_by_change true now before owed free = true≢false (sym owed ∙ free)
owed_by_change false now before owed free = refl

sensing_changes : (at place : ℕ) (occupancy : Occupancy) (sections : List Section)
    → owes_at place (with_section at (changed occupancy) sections) ≡ true → owes_at place sections ≡ false
    → (at ≡ place) × (changes_at place occupancy sections ≡ true)
sensing_changes at place occupancy [] owed free = true≢false (sym owed ∙ free)
sensing_changes zero zero occupancy (section ∷ rest) owed free =
    (refl, owed_by_change (is_same occupancy section.occupancy) (record section { occupancy = occupancy; owes = true }) section owed free)
sensing_changes zero (suc place) occupancy (section ∷ rest) owed free = true≢false (sym owed ∙ free)
sensing_changes (suc at) zero occupancy (section ∷ rest) owed free = true≢false (sym owed ∙ free)
sensing_changes (suc at) (suc place) occupancy (section ∷ rest) owed free =
    let behind = sensing_changes at place occupancy rest owed free in (ap suc behind.0, behind.1)

paying_settles : (place : ℕ) (sections : List Section) → owes_at place sections ≡ false → owes_at place (paying sections) ≡ false
paying_settles place [] free = free
paying_settles zero (section ∷ rest) free = rw free refl
paying_settles (suc place) (section ∷ rest) free =
    elim section.owes as (λ (b : Bool). owes_at (suc place) (if b then settled section ∷ rest else section ∷ paying rest) ≡ false) [
      | true ↦ free
      | false ↦ paying_settles place rest free
    ]

losing_settles : (place : ℕ) (sections : List Section) → owes_at place (losing sections) ≡ false
losing_settles place [] = refl
losing_settles zero (section ∷ rest) = refl
losing_settles (suc place) (section ∷ rest) = losing_settles place rest

pub owed_after_change : (call : ObjectCall) (place : ℕ) (sections : List Section) → owes_at place (object_after detection_behaviour call sections) ≡ true
    → owes_at place sections ≡ false → IsChange place call sections
owed_after_change (Takes now telegram) place sections owed free = true≢false (sym owed ∙ free)
owed_after_change (Ticks now) place sections owed free = true≢false (sym owed ∙ free)
owed_after_change (Senses now (sense.Section at occupancy)) place sections owed free = sensing_changes at place occupancy sections owed free
owed_after_change (Senses now (sense.Position position)) place sections owed free = true≢false (sym owed ∙ free)
owed_after_change (Keeps moment) place sections owed free = true≢false (sym owed ∙ free)
owed_after_change Pays place sections owed free = true≢false (sym owed ∙ paying_settles place sections free)
owed_after_change Loses place sections owed free = true≢false (sym owed ∙ losing_settles place sections)

-- the first that owes is told as it is
behind_is_told : (b : Bool) (place : ℕ) (section : Section) (rest : List Section) → (if b then false else is_first place rest) ≡ true
    → (is_first place rest ≡ true → owing rest ≡ status_at place rest)
    → option_map status_of (if b then Some section else find owes rest) ≡ status_at place rest
behind_is_told true place section rest first told = absurd (false≢true first)
behind_is_told false place section rest first told = told first

pub first_is_told : (place : ℕ) (sections : List Section) → is_first place sections ≡ true → owing sections ≡ status_at place sections
first_is_told place [] first = absurd (false≢true first)
first_is_told zero (section ∷ rest) first = rw first refl
first_is_told (suc place) (section ∷ rest) first =
    behind_is_told section.owes place section rest first (λ h. first_is_told place rest h)
