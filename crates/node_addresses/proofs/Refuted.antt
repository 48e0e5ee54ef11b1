-- A text with a fault is no addresses file.
use Rattle.std.proofs.Common.{◌≡◌, ◌≤◌, ◌<◌, ◌+◌, ◌-◌, ◌++◌, inl, inr, ℕ, List, [], length, length-append, get_or, Some, None, slice_get, sym, ap, subst, ◌∙◌, arith}
use Rattle.std.specs.List.{Contains}
use Rattle.std.specs.Net.Grammar.{IsSocketText}
use Rattle.std.specs.Net.Socket.{socket_port}
use Rattle.std.specs.declared.net.socket_addr.SocketAddr.{SocketAddr}
use Rattle.std.proofs.NetLemmas.Theorems.{IsSocketText_unique}
use Rattle.std.proofs.lemmas.Bool.{cases_lt}
use Rattle.std.proofs.lemmas.List.{get_or-append-add, get_or_append_left}
use Rattle.std.proofs.lemmas.Option.{get_or_from_slice_get, same_Some, slice_get-get_or, slice_get_within}
use Rattle.toml.specs.Data.{Data, Members}
use Rattle.control_table.specs.layout.Entries.{Site}
use Rattle.replay_lines.specs.Names.{node_names}
use Rattle.node_addresses.specs.declared.fault.AddressesFault.{AddressesFault}
use Rattle.node_addresses.specs.declared.fault.AddressesFault.TheVariants.{Toml, MissingNode, WrongAddress, DoubleAddress, UnknownNode, WrongName, OutOfMemory}
use Rattle.node_addresses.specs.declared.network.Network.{Network}
use Rattle.node_addresses.specs.declared.network.Network.TheVariants.{Alone, First, Second}
use Rattle.node_addresses.specs.Addresses.{AreIn, AreOfNodes, GivesAddress, HasNone, IsFault, no_toml, at_node, at_key, IsSound, StandUnder, StandsUnder, StopsIn, WritesAddress, text_in, unknown_key}
use Rattle.node_addresses.proofs.AddressesSoFar.{something_at}

none_some : {A : Type 0} {x : A} → None ≡ Some x → ⊥
none_some e = cc

-- a text that writes port 0 writes no address
pub not_written : (text : List ℕ) (found other : SocketAddr) → IsSocketText text found → socket_port found ≡ 0 → WritesAddress text other → ⊥
not_written text found other is zero writes = writes.1 (ap socket_port (IsSocketText_unique text other found writes.0 is) ∙ zero)

-- a key has one address in a network
unique : (network : Network) (document : Members) (key : List ℕ) (one other : SocketAddr) → StandsUnder network document key one → StandsUnder network document key other → one ≡ other
unique network document key one other p q =
    let value : q.0 ≡ p.0 = same_Some q.0 p.0 (sym q.1 ∙ p.1) in
    let text : q.2.0 ≡ p.2.0 = same_Some q.2.0 p.2.0 (sym q.2.1 ∙ ap (text_in network) value ∙ p.2.1) in
    IsSocketText_unique p.2.0 one other p.2.2.0 (subst (λ (t : List ℕ). IsSocketText t other) text q.2.2.0)

module _ (network : Network) (others : List SocketAddr) (site : Site) (document : Members) (addresses : List SocketAddr) (nodes : AreIn network others site document addresses) where
  -- the address of the node at a place
  pub at_place : (place : ℕ) (name : List ℕ) → slice_get (node_names site) place ≡ Some name → (address : SocketAddr) × (slice_get addresses place ≡ Some address) × StandsUnder network document name address
  at_place place name is =
      let within : place < length addresses = omega (arith, slice_get_within (node_names site) place name is, nodes.count) in
      let here = something_at addresses place within in
      let stands = nodes.each place here.0 here.1 in
      (here.0, here.1, subst (λ (n : List ℕ). StandsUnder network document n here.0) (same_Some stands.0 name (sym stands.1 ∙ is)) stands.2)

  -- what other nodes have, in either network
  in_all : (place : ℕ) (address : SocketAddr) → slice_get addresses place ≡ Some address → (d : SocketAddr) → get_or (others ++ addresses) (length others + place) d ≡ address
  in_all place address at d = get_or-append-add others addresses place d ∙ get_or_from_slice_get addresses place address d at

  -- the place of one that was taken, among all of them
  taken_at : (before : List SocketAddr) (address : SocketAddr) → StandUnder network document (node_names site) before → Contains (others ++ before) address
      → (k : ℕ) × (k < length others + length before) × (get_or (others ++ addresses) k address ≡ address)
  taken_at before address each among =
      let total = length-append others before in
      let within = among.1 in
      elim (cases_lt among.0 (length others)) [
        | inl earlier ↦ (among.0, omega (arith, earlier), get_or_append_left others addresses address among.0 earlier ∙ sym (get_or_append_left others before address among.0 earlier) ∙ among.2)
        | inr behind ↦
            let place = among.0 - length others in
            let k_is : among.0 ≡ length others + place = omega (arith, behind) in
            let small : place < length before = omega (arith, behind, within, total) in
            let there : get_or before place address ≡ address = sym (get_or-append-add others before place address) ∙ ap (λ k. get_or (others ++ before) k address) (sym k_is) ∙ among.2 in
            let earlier : slice_get before place ≡ Some address = slice_get-get_or before place address small ∙ ap Some there in
            let its_name = each place address earlier in
            let first = at_place place its_name.0 its_name.1 in
            let same : first.0 ≡ address = unique network document its_name.0 first.0 address first.2 its_name.2 in
            (length others + place, omega (arith, small), in_all place first.0 first.1 address ∙ same)
      ]

  -- an address that is taken already can't be that of the next
  double : (before : List SocketAddr) (name : List ℕ) (address : SocketAddr) → StandUnder network document (node_names site) before
      → slice_get (node_names site) (length before) ≡ Some name → StandsUnder network document name address → Contains (others ++ before) address → ⊥
  double before name address each next stands among =
      let second = at_place (length before) name next in
      let same : address ≡ second.0 = unique network document name address second.0 stands second.2 in
      let last : length before < length addresses = slice_get_within addresses (length before) second.0 second.1 in
      let total = length-append others addresses in
      let earlier = taken_at before address each among in
      nodes.once earlier.0 (length others + length before) address earlier.1 (omega (arith, last, total))
      (earlier.2 ∙ same ∙ sym (in_all (length before) second.0 second.1 address))

  at_node_refuted : (fault : AddressesFault) → StopsIn network others site document fault → ⊥
  at_node_refuted fault stops = by fault stops.why
    where
      here : (address : SocketAddr) × (slice_get addresses (length stops.before) ≡ Some address) × StandsUnder network document stops.name address
      here = at_place (length stops.before) stops.name stops.is_next

      by : (f : AddressesFault) → HasNone network others document stops.name stops.before f → ⊥
      by (MissingNode told) why = none_some (sym why.1 ∙ here.2.1)
      by (WrongAddress told) why = why.3 here.0 (subst (λ (v : Data). GivesAddress network v here.0) (same_Some here.2.0 why.1 (sym here.2.1 ∙ why.2)) here.2.2)
      by (DoubleAddress told) why = double stops.before stops.name why.1 stops.each stops.is_next why.2 why.3
      by Toml why = why
      by (UnknownNode told) why = why
      by WrongName why = why
      by OutOfMemory why = why

pub refuted : (site : Site) (text : List ℕ) (fault : AddressesFault) → IsFault site text fault → (addresses : List SocketAddr) → IsSound site text addresses → ⊥
refuted site text Toml (no_toml none) addresses sound = none_some (sym none ∙ sound.is_toml)
refuted site text fault (at_node {document} is stops) addresses sound =
    let same : sound.document ≡ document = same_Some sound.document document (sym sound.is_toml ∙ is) in
    at_node_refuted Alone [] site document addresses (subst (λ (d : Members). AreOfNodes site d addresses) same sound.of_nodes) fault stops
refuted site text fault (at_key {document} is nodes unknown) addresses sound =
    let same : sound.document ≡ document = same_Some sound.document document (sym sound.is_toml ∙ is) in
    none_some (sym (subst (λ (d : Members). unknown_key site d ≡ None) same sound.no_others) ∙ unknown)
