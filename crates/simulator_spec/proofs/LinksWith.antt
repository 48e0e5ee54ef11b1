-- The link that a datagram names.
use Rattle.std.proofs.Common.{◌≡◌, ◌∙◌, ◌==◌, ap, ℕ, List, ◌++◌, length, map, Some, None, arith, length-append}
use Rattle.std.specs.Prelude.{unwrap_or}
use Rattle.std.specs.List.{position}
use Rattle.std.proofs.lemmas.List.{length-map}
use Rattle.ixl_spec.specs.layout.Entries.{Site}
use Rattle.ixl_spec.specs.rasta_pdu.Header.{receiver_of}
use Rattle.simulator_spec.specs.Interlocking.{link_of}
use Rattle.simulator_spec.specs.Nodes.{links, partners}

partners_count : (site : Site) → links site ≡ length (partners site)
partners_count site =
    let signals : List ℕ = map (λ s. s.id) site.signals in
    let points : List ℕ = map (λ p. p.id) site.points in
    let detectors : List ℕ = map (λ d. d.id) site.detectors in
    omega (arith, length-append signals (points ++ detectors), length-append points detectors, length-map site.signals (λ s. s.id), length-map site.points (λ p. p.id), length-map site.detectors (λ d. d.id))

named : (site : Site) (bytes : List ℕ) (identity : ℕ) → identity ≡ receiver_of bytes → unwrap_or (position (λ id. id == identity) (partners site)) (length (partners site)) ≡ link_of site bytes
named site bytes identity is = ap (λ n. unwrap_or (position (λ id. id == n) (partners site)) (length (partners site))) is

pub found : (site : Site) (bytes : List ℕ) (identity link : ℕ) → identity ≡ receiver_of bytes → Some link ≡ position (λ id. id == identity) (partners site) → link ≡ link_of site bytes
found site bytes identity link is at = ap (λ o. unwrap_or o (length (partners site))) at ∙ named site bytes identity is

pub missing : (site : Site) (bytes : List ℕ) (identity count : ℕ) → identity ≡ receiver_of bytes → None ≡ position (λ id. id == identity) (partners site) → count ≡ links site → count ≡ link_of site bytes
missing site bytes identity count is at count_is = count_is ∙ partners_count site ∙ ap (λ o. unwrap_or o (length (partners site))) at ∙ named site bytes identity is
