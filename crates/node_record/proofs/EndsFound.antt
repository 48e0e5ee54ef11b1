-- Ends of addresses, one after the other.
use Rattle.std.proofs.Common.{◌≡◌, ◌∙◌, ℕ, ◌+◌, ◌<◌, ◌≤◌, List, [], ◌∷◌, ◌++◌, length, map, take, get_or, slice_get, Some, Result, Ok, Err, ap, sym, subst}
use Rattle.std.specs.Prelude.{IfErr, IfOk, IsErrAnd}
use Rattle.std.proofs.lemmas.List.{map-append, take_all, take_more}
use Rattle.std.specs.declared.net.socket_addr.SocketAddr.{SocketAddr}
use Rattle.capture_file.specs.declared.journey.Endpoint.{Endpoint}
use Rattle.control_table.specs.layout.Entries.{Site}
use Rattle.station_check.specs.node_addresses.Networks.{IsSoundIn, NetworksState}
use Rattle.station_check.specs.Report.{IsSound}
use Rattle.station_check.specs.declared.failure.Failure.{Failure}
use Rattle.station_check.specs.declared.failure.Failure.TheVariants.{Addresses, NoIpv4, OutOfMemory}
use Rattle.node_record.specs.GivenEnds.{AreEnds, AreOfOne, Explains, end_at}
use Rattle.node_record.specs.NodeEnds.{Ends}
use Rattle.node_record.specs.inside.EndsSoFar.{ExplainsOf, HasEnds, HasNoEnd, IsNoEnd, IsNoEndOf}

-- one more
pub grows : (all : List SocketAddr) (place : ℕ) (one : SocketAddr) (old new : List Endpoint) → place < length all → one ≡ get_or all place one
    → map (λ (end : Endpoint). Some end) new ≡ map (λ (end : Endpoint). Some end) old ++ end_at one ∷ [] → map end_at (take place all) ≡ map (λ (end : Endpoint). Some end) old
    → map end_at (take (place + 1) all) ≡ map (λ (end : Endpoint). Some end) new
grows all place one old new within at added before =
    ap (λ l. map end_at l) (take_more all place one within ∙ ap (λ o. take place all ++ o ∷ []) (sym at))
    ∙ (map-append end_at (take place all) (one ∷ []) ∙ (ap (λ l. l ++ end_at one ∷ []) before ∙ sym added))

pub ends : (all : List SocketAddr) (count place : ℕ) (found : List Endpoint) → count ≡ length all → count ≤ place → map end_at (take place all) ≡ map (λ (end : Endpoint). Some end) found
    → map end_at all ≡ map (λ (end : Endpoint). Some end) found
ends all count place found counted past is = ap (λ l. map end_at l) (sym (take_all place all (rw (sym counted) past))) ∙ is

-- an address has no end, so there are no ends of all
pub fails : {F : Type 0} (site : Site) (all : List SocketAddr) (place : ℕ) (one : SocketAddr) (why : Failure) (tried : Result F Failure) → slice_get all place ≡ Some one
    → IsNoEndOf site one place why → IsErrAnd tried (λ told. told ≡ why) → IfErr tried (IsNoEnd site all)
fails site all place one why (Ok found) there so told = tt
fails site all place one why (Err other) there so told = subst (IsNoEnd site all) (sym told) (none why so)
  where
    none : (why : Failure) → IsNoEndOf site one place why → IsNoEnd site all why
    none OutOfMemory so = tt
    none (NoIpv4 name) so = record { place = place; address = one; there = there; named = so.0; none = so.1 }
    none other so = absurd so

-- ---- of a text

pub lack_end : (site : Site) (text : List ℕ) (networks : NetworksState) (addresses : List SocketAddr) (why : Failure) → IsSoundIn site text networks → AreOfOne networks addresses
    → IsNoEnd site addresses why → ExplainsOf site text why
lack_end site text networks addresses OutOfMemory are of_one so = tt
lack_end site text networks addresses (NoIpv4 name) are of_one so = record { networks = networks; are = are; addresses = addresses; of_one = of_one; lacks = so }
lack_end site text networks addresses other are of_one so = absurd so

-- ---- of a layout's text

pub are_ends : {F E : Type 0} (ends : F → Ends) (layout text : List ℕ) (site drawn : Site) (tried : Result F E) → IsSound layout site → drawn ≡ site
    → IfOk tried (λ found. HasEnds drawn text (ends found)) → IfOk tried (λ found. AreEnds layout text (ends found))
are_ends ends layout text site drawn (Ok found) sound same has =
    let have : HasEnds site text (ends found) = subst (λ (s : Site). HasEnds s text (ends found)) same has
    in record { site = site; sound = sound; networks = have.networks; are = have.are; first_are = have.first_are; second_are = have.second_are }
are_ends ends layout text site drawn (Err why) sound same has = tt

explained : (layout text : List ℕ) (site : Site) (why : Failure) → IsSound layout site → ExplainsOf site text why → Explains layout text why
explained layout text site OutOfMemory sound so = tt
explained layout text site (Addresses fault) sound so = (site, sound, so)
explained layout text site (NoIpv4 name) sound so = record {
  site = site;
  sound = sound;
  networks = so.networks;
  are = so.are;
  addresses = so.addresses;
  of_one = so.of_one;
  place = so.lacks.place;
  address = so.lacks.address;
  there = so.lacks.there;
  named = so.lacks.named;
  none = so.lacks.none;
}
explained layout text site other sound so = absurd so

pub no_ends : {F : Type 0} (layout text : List ℕ) (site drawn : Site) (tried : Result F Failure) → IsSound layout site → drawn ≡ site → IfErr tried (ExplainsOf drawn text)
    → IfErr tried (Explains layout text)
no_ends layout text site drawn (Ok found) sound same so = tt
no_ends layout text site drawn (Err why) sound same so = explained layout text site why sound (subst (λ (s : Site). ExplainsOf s text why) same so)
