-- Addresses that stand under their names, one more at a time.
use Rattle.std.proofs.Common.{◌≡◌, ◌⊎◌, ℕ, zero, suc, ◌≤◌, ◌<◌, ◌-◌, List, [], ◌∷◌, ◌++◌, length, Some, None, slice_get, length-append, append_assoc, append-nil, refl, sym, ap, subst, ◌∙◌, inl, inr, arith}
use Rattle.std.specs.List.{Contains}
use Rattle.std.specs.declared.net.socket_addr.SocketAddr.{SocketAddr}
use Rattle.std.proofs.lemmas.List.Elements.{Contains-get_or}
use Rattle.std.proofs.lemmas.List.Quantifiers.{all_pairs_push}
use Rattle.std.proofs.lemmas.Option.{same_Some, slice_get_within}
use Rattle.toml.specs.Data.{Members}
use Rattle.control_table.specs.layout.Entries.{Site}
use Rattle.control_table.specs.layout.Once.{Distinct}
use Rattle.replay_lines.specs.Names.{node_names}
use Rattle.node_addresses.specs.Addresses.{AreIn, StandUnder, StandsUnder}
use Rattle.node_addresses.specs.declared.network.Network.{Network}

-- what stands in a list with one more entry stood there, or is the last
in_more : {A : Type 0} (xs : List A) (x y : A) (k : ℕ) → slice_get (xs ++ x ∷ []) k ≡ Some y → (slice_get xs k ≡ Some y) ⊎ ((k ≡ length xs) × (x ≡ y))
in_more [] x y zero e = inr (refl, same_Some x y e)
in_more [] x y (suc k) e = absurd (cc)
in_more (z ∷ xs) x y zero e = inl e
in_more (z ∷ xs) x y (suc k) e = shifted (in_more xs x y k e)
  where
    shifted : (slice_get xs k ≡ Some y) ⊎ ((k ≡ length xs) × (x ≡ y)) → (slice_get xs k ≡ Some y) ⊎ ((suc k ≡ suc (length xs)) × (x ≡ y))
    shifted (inl there) = inl there
    shifted (inr last) = inr (ap suc last.0, last.1)

pub stand_more : (network : Network) (document : Members) (names : List (List ℕ)) (addresses : List SocketAddr) (name : List ℕ) (address : SocketAddr)
    → StandUnder network document names addresses → slice_get names (length addresses) ≡ Some name → StandsUnder network document name address
    → StandUnder network document names (addresses ++ address ∷ [])
stand_more network document names addresses name address each next stands place found at = by (in_more addresses address found place at)
  where
    by : (slice_get addresses place ≡ Some found) ⊎ ((place ≡ length addresses) × (address ≡ found)) → (name : List ℕ) × (slice_get names place ≡ Some name) × StandsUnder network document name found
    by (inl there) = each place found there
    by (inr last) = (name, ap (slice_get names) last.0 ∙ next, subst (λ (a : SocketAddr). StandsUnder network document name a) last.1 stands)

pub once_more : {A : Type 0} (xs : List A) (x : A) → Distinct xs → (Contains xs x → ⊥) → Distinct (xs ++ x ∷ [])
once_more {A} xs x once none = all_pairs_push (λ y z. y ≡ z → ⊥) xs x once (λ k d within e. none (subst (λ (y : A). Contains xs y) e (Contains-get_or xs k d within)))

-- a place at which nothing stands lies after the list
pub past : {A : Type 0} (xs : List A) (k : ℕ) → slice_get xs k ≡ None → length xs ≤ k
past [] k e = omega arith
past (x ∷ xs) zero e = absurd (cc)
past (x ∷ xs) (suc k) e = omega (arith, past xs k e)

-- at any other something stands
pub something_at : {A : Type 0} (xs : List A) (k : ℕ) → k < length xs → (x : A) × (slice_get xs k ≡ Some x)
something_at [] k within = absurd (omega arith)
something_at (x ∷ xs) zero within = (x, refl)
something_at (x ∷ xs) (suc k) within = something_at xs k (omega arith)

-- ---- the nodes so far

abbrev pub AreSoFar : Network → List SocketAddr → Members → List (List ℕ) → List SocketAddr → Type 0
AreSoFar network others document names addresses = StandUnder network document names addresses × Distinct (others ++ addresses) × (length addresses ≤ length names)

pub none_yet : (network : Network) (others : List SocketAddr) (document : Members) (names : List (List ℕ)) → Distinct others → AreSoFar network others document names []
none_yet network others document names once = (
  λ place address at. absurd (omega (arith, slice_get_within [] place address at)),
  subst (λ (all : List SocketAddr). Distinct all) (sym (append-nil others)) once,
  omega arith,
)

pub fewer_left : (names : List (List ℕ)) (addresses : List SocketAddr) (name : List ℕ) (address : SocketAddr) → slice_get names (length addresses) ≡ Some name
    → length names - length (addresses ++ address ∷ []) < length names - length addresses
fewer_left names addresses name address next = omega (arith, length-append addresses (address ∷ []), slice_get_within names (length addresses) name next)

pub one_more : (network : Network) (others : List SocketAddr) (document : Members) (names : List (List ℕ)) (addresses : List SocketAddr) (name : List ℕ) (address : SocketAddr)
    → AreSoFar network others document names addresses → slice_get names (length addresses) ≡ Some name → StandsUnder network document name address → (Contains (others ++ addresses) address → ⊥)
    → AreSoFar network others document names (addresses ++ address ∷ [])
one_more network others document names addresses name address before next stands own = (
  stand_more network document names addresses name address before.0 next stands,
  subst (λ (all : List SocketAddr). Distinct all) (append_assoc others addresses (address ∷ [])) (once_more (others ++ addresses) address before.1 own),
  omega (arith, length-append addresses (address ∷ []), slice_get_within names (length addresses) name next),
)

pub all_found : (network : Network) (others : List SocketAddr) (site : Site) (document : Members) (addresses : List SocketAddr) → AreSoFar network others document (node_names site) addresses
    → slice_get (node_names site) (length addresses) ≡ None → AreIn network others site document addresses
all_found network others site document addresses found none = record {
  count = omega (arith, past (node_names site) (length addresses) none, found.2);
  each = found.0;
  once = found.1;
}
