use Rattle.std.proofs.Common.{◌≡◌, ◌++◌, List, length, Some, slice_get, sym, ap, subst, ◌∙◌}
use Rattle.std.proofs.lemmas.Result.{err_from_is_err_and}
use Rattle.std.specs.List.{Contains}
use Rattle.std.specs.declared.net.socket_addr.SocketAddr.{SocketAddr}
use Rattle.toml.specs.View.{table_view}
use Rattle.replay_lines.specs.Names.{node_names}
use Rattle.node_addresses.specs.Addresses.{HasNone}
use Rattle.node_addresses.proofs.AddressesSoFar.{all_found, fewer_left, none_yet, one_more}
use Rattle.node_addresses.proofs.Explained.{stops_there}
use Rattle.node_addresses.proofs.text.addresses_of.Goals as goal

pub loop-name-init : goal.loop-name-init
loop-name-init c = rw c.new-addresses.ensures.items (none_yet c.args.network c.args.others.now (table_view c.args.document.now) (node_names c.args.layout.now) c.requires)

pub loop-name-smaller : goal.loop-name-smaller
loop-name-smaller c =
    let names = node_names c.args.layout.now in
    let before = c.loop-name.addresses.items in
    rw c.in_ok-push.ensures.items
    (fewer_left names before c.in-Some.name c.in_ok-address.address (ap (slice_get names) (sym (c.len.ensures ∙ c.loop-name.addresses.ok.0)) ∙ sym c.in-Some.ensures))

pub loop-name-preserved : goal.loop-name-preserved
loop-name-preserved c =
    let site = c.args.layout.now in
    let before = c.loop-name.addresses.items in
    let next : slice_get (node_names site) (length before) ≡ Some c.in-Some.name = ap (slice_get (node_names site)) (sym (c.len.ensures ∙ c.loop-name.addresses.ok.0)) ∙ sym c.in-Some.ensures in
    rw c.in_ok-push.ensures.items
    (one_more c.args.network c.args.others.now (table_view c.args.document.now) (node_names site) before c.in-Some.name c.in_ok-address.address c.loop-name.invariant next c.in_ok-address.ensures.found
    (λ among. c.in_ok-address.ensures.own (subst (λ (xs : List SocketAddr). Contains (c.args.others.now ++ xs) c.in_ok-address.address) (sym c.deref.ensures.value) among)))

pub returns-clause-found : goal.returns-clause-found
returns-clause-found c =
    let site = c.args.layout.now in
    all_found c.args.network c.args.others.now site (table_view c.args.document.now) c.loop-name.addresses.items c.loop-name.invariant
    (ap (slice_get (node_names site)) (sym (c.len.ensures ∙ c.loop-name.addresses.ok.0)) ∙ sym c.in_default.ensures)

pub returns-in_err-address-clause-fault : goal.returns-in_err-address-clause-fault
returns-in_err-address-clause-fault c =
    let site = c.args.layout.now in
    let document = table_view c.args.document.now in
    let before = c.loop-name.addresses.items in
    let fault = c.in_err-address.field-0.0 in
    let next : slice_get (node_names site) (length before) ≡ Some c.in-Some.name = ap (slice_get (node_names site)) (sym (c.len.ensures ∙ c.loop-name.addresses.ok.0)) ∙ sym c.in-Some.ensures in
    let why : HasNone c.args.network c.args.others.now document c.in-Some.name before fault = subst (λ (xs : List SocketAddr). HasNone c.args.network c.args.others.now document c.in-Some.name xs fault) c.deref.ensures.value c.in_err-address.ensures.fault in
    let p = err_from_is_err_and c.from_residual.result c.from_residual.ensures.1 in
    rw (p.1, p.2) (stops_there c.args.network c.args.others.now site document before c.in-Some.name fault c.loop-name.invariant next why)
