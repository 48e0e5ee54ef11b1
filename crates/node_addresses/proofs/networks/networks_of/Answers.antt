use Rattle.std.proofs.Common.{◌≡◌, ◌∙◌, List, sym, subst, true, false}
use Rattle.std.proofs.lemmas.Result.{err_from_is_err_and}
use Rattle.std.specs.declared.net.socket_addr.SocketAddr.{SocketAddr}
use Rattle.toml.specs.View.{table_view}
use Rattle.node_addresses.specs.Addresses.{AreIn, StopsIn}
use Rattle.node_addresses.specs.Networks.{one, two}
use Rattle.node_addresses.specs.inside.NetworksRead.{stops_alone, stops_in_first, stops_in_second}
use Rattle.node_addresses.specs.declared.network.Network.TheVariants.{Second}
use Rattle.node_addresses.proofs.Explained.{unless_memory}
use Rattle.node_addresses.proofs.networks.networks_of.Goals as goal

pub returns-in_err-first-clause-fault : goal.returns-in_err-first-clause-fault
returns-in_err-first-clause-fault c =
    let p = err_from_is_err_and c.from_residual.result c.from_residual.ensures.1 in
    rw (p.1, p.2) (unless_memory c.in_err-first.field-0.0 (λ stops. stops_alone (sym c.has_two.ensures ∙ c.if-not-has_two.true) stops) c.in_err-first.ensures.fault)

pub returns-then-not-has_two-clause-found : goal.returns-then-not-has_two-clause-found
returns-then-not-has_two-clause-found c = one (sym c.has_two.ensures ∙ c.if-not-has_two.true) c.in_ok-first.ensures.found

pub returns-in_err-first-2-clause-fault : goal.returns-in_err-first-2-clause-fault
returns-in_err-first-2-clause-fault c =
    let p = err_from_is_err_and c.from_residual-in_err-first-2.result c.from_residual-in_err-first-2.ensures.1 in
    rw (p.1, p.2) (unless_memory c.in_err-first-2.field-0.0 (λ stops. stops_in_first (sym c.has_two.ensures ∙ c.if-not-has_two.false) stops) c.in_err-first-2.ensures.fault)

pub returns-in_err-second-clause-fault : goal.returns-in_err-second-clause-fault
returns-in_err-second-clause-fault c =
    let site = c.args.layout.now in
    let document = table_view c.args.document.now in
    let fault = c.in_err-second.field-0.0 in
    let p = err_from_is_err_and c.from_residual-in_err-second.result c.from_residual-in_err-second.ensures.1 in
    rw (p.1, p.2)
    (unless_memory fault
    (λ stops. stops_in_second (sym c.has_two.ensures ∙ c.if-not-has_two.false) c.in_ok-first-2.ensures.found (subst (λ (xs : List SocketAddr). StopsIn Second xs site document fault) c.deref.ensures.value stops))
    c.in_err-second.ensures.fault)

pub returns-clause-found : goal.returns-clause-found
returns-clause-found c =
    two (sym c.has_two.ensures ∙ c.if-not-has_two.false) c.in_ok-first-2.ensures.found
    (subst (λ (xs : List SocketAddr). AreIn Second xs c.args.layout.now (table_view c.args.document.now) c.in_ok-second.second.items) c.deref.ensures.value c.in_ok-second.ensures.found)
