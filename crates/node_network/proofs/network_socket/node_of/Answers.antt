use Rattle.std.proofs.Common.{◌≡◌, ◌∙◌, ◌<◌, ◌+◌, ℕ, Bool, true, false, List, Some, inl, inr, slice_get, ap, subst, arith}
use Rattle.std.proofs.lemmas.Bool.{cases_lt}
use Rattle.std.proofs.lemmas.Option.{get_or_from_slice_get, slice_get-get_or, slice_get_within}
use Rattle.std.specs.declared.net.socket_addr.SocketAddr.{SocketAddr}
use Rattle.node_network.proofs.network_socket.node_of.Goals as goal

-- neither before a place nor there
not_up_to : (addresses : List SocketAddr) (address : SocketAddr) (place : ℕ)
    → ((before : ℕ) → before < place → ¬ (slice_get addresses before ≡ Some address))
    → ¬ (slice_get addresses place ≡ Some address)
    → (before : ℕ) → before < place + 1 → ¬ (slice_get addresses before ≡ Some address)
not_up_to addresses address place earlier here before few there =
    elim (cases_lt before place) [
      | inl less ↦ earlier before less there
      | inr most ↦ let same : before ≡ place = omega (arith, few, most) in here (subst (λ k. slice_get addresses k ≡ Some address) same there)
    ]

both : {b : Bool} → b ≡ true → b ≡ false → ⊥
both is isnt = cc

pub returns-then-is_same : goal.returns-then-is_same
returns-then-is_same c =
    let at = slice_get-get_or c.args.addresses.now c.loop-place.place _ c.loop-place-test.true in
    (at ∙ ap Some (c.is_same.ensures.0 c.if-is_same.true), c.loop-place.invariant)

pub loop-place-preserved : goal.loop-place-preserved
loop-place-preserved c =
    not_up_to c.args.addresses.now c.args.address.now c.loop-place.place c.loop-place.invariant (λ there.
    both (c.is_same.ensures.1 (get_or_from_slice_get c.args.addresses.now c.loop-place.place c.args.address.now _ there)) c.if-is_same.false)

pub returns : goal.returns
returns c place there =
    let within = slice_get_within c.args.addresses.now place c.args.address.now there in
    let all = c.loop-place-test.false in
    c.loop-place.invariant place (omega (arith, within, all)) there
