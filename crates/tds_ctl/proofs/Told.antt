-- What sections don't owe was told.
use Rattle.std.proofs.Common.{◌≡◌, ℕ, zero, suc, Bool, true, false, List, [], ◌∷◌, refl, sym, ◌∙◌, if◌then◌else◌}
use Rattle.std.proofs.lemmas.Bool.{false≢true}
use Rattle.sci_telegram.specs.declared.message.Occupancy.{Occupancy}
use Rattle.object_host.specs.declared.sense.Sense.TheVariants as sense
use Rattle.tds_ctl.specs.declared.section.Section.{Section}
use Rattle.tds_ctl.specs.Sections.{is_same, changed, settled, with_section, paying, losing}
use Rattle.object_host.specs.Object.{ObjectCall, Takes, Ticks, Senses, Keeps, Pays, Loses}
use Rattle.tds_ctl.specs.History.{History, AreTold, IsKnown, begun_at, next, occupancies, telling, told_by}

told_as_they_are : (sections : List Section) → AreTold sections (occupancies sections)
told_as_they_are [] = tt
told_as_they_are (section ∷ rest) = (λ free. refl, told_as_they_are rest)

told_through_change : (same : Bool) (last : Occupancy) (now before : Section) → now.owes ≡ true
    → (before.owes ≡ false → last ≡ before.occupancy)
    → (if same then before else now).owes ≡ false → last ≡ (if same then before else now).occupancy
told_through_change true last now before owed told free = told free
told_through_change false last now before owed told free = absurd (false≢true (sym free ∙ owed))

sensing_tells : (place : ℕ) (occupancy : Occupancy) (sections : List Section) (told : List Occupancy) → AreTold sections told
    → AreTold (with_section place (changed occupancy) sections) told
sensing_tells place occupancy [] told known = known
sensing_tells zero occupancy (section ∷ rest) [] known = absurd known
sensing_tells zero occupancy (section ∷ rest) (last ∷ told) known =
    (told_through_change (is_same occupancy section.occupancy) last (record section { occupancy = occupancy; owes = true }) section refl known.0, known.1)
sensing_tells (suc place) occupancy (section ∷ rest) [] known = absurd known
sensing_tells (suc place) occupancy (section ∷ rest) (last ∷ told) known = (known.0, sensing_tells place occupancy rest told known.1)

paying_tells : (sections : List Section) (told : List Occupancy) → AreTold sections told → AreTold (paying sections) (telling sections told)
paying_tells [] told known = known
paying_tells (section ∷ rest) [] known = absurd known
paying_tells (section ∷ rest) (last ∷ told) known =
    elim section.owes as (λ (b : Bool). AreTold (if b then settled section ∷ rest else section ∷ paying rest)
    (if b then section.occupancy ∷ told else last ∷ telling rest told)) [
      | true ↦ (λ free. refl, known.1)
      | false ↦ (known.0, paying_tells rest told known.1)
    ]

losing_tells : (sections : List Section) → AreTold (losing sections) (occupancies sections)
losing_tells [] = tt
losing_tells (section ∷ rest) = (λ free. refl, losing_tells rest)

call_tells : (call : ObjectCall) (history : History) → IsKnown history → IsKnown (next call history)
call_tells (Takes now telegram) history known = record { known = known.known }
call_tells (Ticks now) history known = record { known = known.known }
call_tells (Keeps moment) history known = record { known = known.known }
call_tells (Senses now (sense.Section place occupancy)) history known =
    record { known = sensing_tells place occupancy history.sections history.told known.known }
call_tells (Senses now (sense.Position position)) history known = record { known = known.known }
call_tells Pays history known = record { known = paying_tells history.sections history.told known.known }
call_tells Loses history known = record { known = losing_tells history.sections }

pub calls_tell : (calls : List ObjectCall) (history : History) → IsKnown history → IsKnown (told_by calls history)
calls_tell [] history known = known
calls_tell (call ∷ calls) history known = calls_tell calls (next call history) (call_tells call history known)

pub begins_told : (sections : List Section) → IsKnown (begun_at sections)
begins_told sections = record { known = told_as_they_are sections }
