-- The ends of addresses that are lent.
use Rattle.std.proofs.Common.{◌≡◌, ◌∙◌, ◌≤◌, ℕ, List, [], length, map, option_map, unwrap_or, Option, Some, None, Result, Ok, Err, ap, refl, sym, subst}
use Rattle.std.specs.Prelude.{IfErr, IfOk}
use Rattle.std.specs.Borrow.{Bor}
use Rattle.std.specs.declared.net.socket_addr.SocketAddr.{SocketAddr}
use Rattle.capture_file.specs.declared.journey.Endpoint.{Endpoint}
use Rattle.control_table.specs.layout.Entries.{Site}
use Rattle.station_check.specs.node_addresses.Networks.{NetworksState}
use Rattle.station_check.specs.declared.failure.Failure.{Failure}
use Rattle.node_record.specs.GivenEnds.{end_at, second_of}
use Rattle.node_record.specs.inside.EndsSoFar.{IsNoEnd}

pub counted_at : (bound : ℕ) (one other : List SocketAddr) → one ≡ other → length other ≤ bound → length one ≤ bound
counted_at bound one other is within = subst (λ (l : List SocketAddr). length l ≤ bound) (sym is) within

pub found_at : {F E : Type 0} (items : F → List Endpoint) (one other : List SocketAddr) (tried : Result F E) → one ≡ other
    → IfOk tried (λ ends. map end_at one ≡ map (λ (end : Endpoint). Some end) (items ends)) → IfOk tried (λ ends. map end_at other ≡ map (λ (end : Endpoint). Some end) (items ends))
found_at items one other tried is found = subst (λ (l : List SocketAddr). IfOk tried (λ ends. map end_at l ≡ map (λ (end : Endpoint). Some end) (items ends))) is found

pub none_at : {F : Type 0} (site : Site) (one other : List SocketAddr) (tried : Result F Failure) → one ≡ other → IfErr tried (IsNoEnd site one) → IfErr tried (IsNoEnd site other)
none_at site one other tried is none = subst (λ (l : List SocketAddr). IfErr tried (IsNoEnd site l)) is none

-- those in the second network
pub second_is : (networks : NetworksState) (told : Option (Bor (List SocketAddr))) (lent : Bor (List SocketAddr)) → option_map (λ s. s.now) told ≡ networks.second → told ≡ Some lent → lent.now ≡ second_of networks
second_is networks told lent is some =
    ap (λ (o : Option (Bor (List SocketAddr))). unwrap_or (option_map (λ s. s.now) o) []) (sym some) ∙ ap (λ (o : Option (List SocketAddr)). unwrap_or o []) is

pub second_is_none : (networks : NetworksState) (told : Option (Bor (List SocketAddr))) → option_map (λ s. s.now) told ≡ networks.second → told ≡ None → [] ≡ second_of networks
second_is_none networks told is none =
    ap (λ (o : Option (Bor (List SocketAddr))). unwrap_or (option_map (λ s. s.now) o) []) (sym none) ∙ ap (λ (o : Option (List SocketAddr)). unwrap_or o []) is

pub no_ends_found : (networks : NetworksState) (ends : List Endpoint) → ends ≡ [] → [] ≡ second_of networks → map end_at (second_of networks) ≡ map (λ (end : Endpoint). Some end) ends
no_ends_found networks ends none is = ap (λ (l : List SocketAddr). map end_at l) (sym is) ∙ ap (λ (l : List Endpoint). map (λ (end : Endpoint). Some end) l) (sym none)
