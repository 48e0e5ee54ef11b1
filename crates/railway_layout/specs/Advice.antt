-- What a fault of a railway means, and what to do, in words.
use Rattle.std.specs.Prelude.{ℕ, List, codes}
use Rattle.railway_layout.specs.declared.fault.RailwayFault.{RailwayFault}
use Rattle.railway_layout.specs.declared.fault.RailwayFault.TheVariants as fault
use Rattle.railway_layout.specs.declared.fault.TextFault.{TextFault}
use Rattle.railway_layout.specs.declared.fault.TextFault.TheVariants.{Toml, MissingKey, WrongKind, OutOfMemory}

abbrev pub text_advice : TextFault → List ℕ
text_advice Toml = codes "the text is no TOML"
text_advice (MissingKey at) = codes "a key is missing there"
text_advice (WrongKind at) = codes "a value there is of another kind or form"
text_advice OutOfMemory = codes "memory is lacking"

abbrev pub advice : RailwayFault → List ℕ
advice (fault.DoubleName at what) = codes "stations and lines have names of their own, and a part has each section once"
advice (fault.Layout at what) = codes "the file of this station is no layout: station check tells more of it"
advice (fault.Table at what) = codes "the routes of this station aren't sound: station check tells more of them"
advice (fault.UnknownName at what) = codes "no station, or no border, point or section of this station, is called so"
advice (fault.Unseen at) = codes "the station of this end has a fault, which is to be mended first"
advice (fault.SameStation at) = codes "a line joins two stations"
advice (fault.DoubleId at) = codes "the two ends of a line need two identities"
advice (fault.DoubleBorder at) = codes "a border belongs to one line"
advice (fault.NotJoined at) = codes "from the right leg of the lock only tracks may lead, one after the other, to the border"
advice (fault.LockNotRight at what) = codes "a route onto the line has to leave the lock by its right leg"
advice (fault.LockNotLeft at what) = codes "a route that leaves the lock by its tip has to enter by its left leg"
advice (fault.NoRouteIn at) = codes "some route has to come in over the left leg of the lock"
advice (fault.ClearElsewhere at) = codes "the section that the end tells is of tracks between lock and border, and of nothing else"
advice (fault.ClearNotAlone at) = codes "the section that the end tells needs a detector that reports nothing else"
advice (fault.PartHasClear at) = codes "the part is of sections with contacts, and the end of a line tells one of these itself"
advice (fault.PartLacksTrack at) = codes "the part needs the section at the left leg of the lock, where trains come in"
