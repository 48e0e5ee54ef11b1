-- What the step of a node is to each link of a world.
use Rattle.std.proofs.Common.{inl, ◌≡◌, ◌≢◌, ℕ, ◌<◌, Bool, true, false, List, [], ◌∷◌, length, refl, sym, ap, subst, ◌∙◌, arith}
use Rattle.std.specs.Prelude.{◌==◌, if◌then◌else◌, map}
use Rattle.std.proofs.lemmas.Bool.Decides.{nat_tests}
use Rattle.rasta_core.specs.EachLink.{AreTimely}
use Rattle.rasta_core.specs.Ends.{Call}
use Rattle.rasta_core.specs.Events.{Calls, Elsewhere, MayRun, happened, run}
use Rattle.rasta_core.specs.Links.{AreLinks, CallsOn, Links, LinksEvent, MayHappenTo, MayRunLinks, happened_to, run_links, seen, sent_by}
use Rattle.rasta_core.specs.Names.{Names}
use Rattle.rasta_core.specs.Nodes.{NodeCall, at_link, calls_of}
use Rattle.rasta_core.specs.Run.{Ends, called, end_of}
use Rattle.rasta_core.specs.Steps.{calls_at}
use Rattle.rasta_core.specs.identity.Role.{Role}
use Rattle.rasta_core.specs.identity.Role.TheVariants as role
use Rattle.simulator_move_laws.specs.Flows.{ClientIsAfter, given_after, has_begun, taken_after}
use Rattle.simulator_move_laws.specs.EndsSeen.{represented}
use Rattle.simulator_move_laws.proofs.Links.Calls.{call_then}
use Rattle.simulator_move_laws.proofs.Links.Events.{EventLaws}
use Rattle.simulator_move_laws.proofs.Links.Runs.{MayHappen, Sees}

itself : (n : ℕ) → (n == n) ≡ true
itself n = grind (arith, nat_tests)

apart : (a b : ℕ) → a ≢ b → (a == b) ≡ false
apart a b differ = by_test (a == b) refl where
  same : (a == b) ≡ true → a ≡ b
  same e = grind (arith, nat_tests)

  by_test : (test : Bool) → (a == b) ≡ test → (a == b) ≡ false
  by_test true e = absurd (differ (same e))
  by_test false e = e

equal : (a b : ℕ) → (a == b) ≡ true → a ≡ b
equal a b e = grind (arith, nat_tests)

-- ---- one call

own_call : Sees → (who : Role) (link : ℕ) (call : Call) (links : Links) → seen link (happened_to (CallsOn link who call) links) ≡ called who call (seen link links)
own_call sees who link call links = sees link (CallsOn link who call) links
    ∙ ap (λ (b : Bool). run (if b then Calls who call ∷ [] else Elsewhere (length (sent_by who call (seen link links))) ∷ []) (seen link links)) (itself link)

other_call : Sees → (who : Role) (link at : ℕ) (call : Call) (links : Links) → (link == at) ≡ false
    → seen link (happened_to (CallsOn at who call) links) ≡ happened (Elsewhere (length (sent_by who call (seen at links)))) (seen link links)
other_call sees who link at call links differ = sees link (CallsOn at who call) links
    ∙ ap (λ (b : Bool). run (if b then Calls who call ∷ [] else Elsewhere (length (sent_by who call (seen at links))) ∷ []) (seen link links)) differ

-- ---- a node of one link

pub own_step : Sees → (who : Role) (link : ℕ) (calls : List Call) (links : Links) → seen link (run_links (map (λ call. CallsOn link who call) calls) links) ≡ run (calls_at who calls) (seen link links)
own_step sees who link [] links = refl
own_step sees who link (call ∷ calls) links =
    own_step sees who link calls (happened_to (CallsOn link who call) links) ∙ ap (run (calls_at who calls)) (own_call sees who link call links)

elsewhere_end : (who : Role) (count : ℕ) (ends : Ends) → end_of who (happened (Elsewhere count) ends) ≡ end_of who ends
elsewhere_end role.Client count ends = refl
elsewhere_end role.Server count ends = refl

elsewhere_representation : (count : ℕ) (ends : Ends) → represented (happened (Elsewhere count) ends) ≡ represented ends
unfolding represented
elsewhere_representation count ends = refl

pub other_ends : Sees → (who : Role) (link other : ℕ) (calls : List Call) (links : Links) → other ≢ link → (whose : Role)
    → end_of whose (seen other (run_links (map (λ call. CallsOn link who call) calls) links)) ≡ end_of whose (seen other links)
other_ends sees who link other [] links differ whose = refl
other_ends sees who link other (call ∷ calls) links differ whose =
    other_ends sees who link other calls (happened_to (CallsOn link who call) links) differ whose
    ∙ ap (end_of whose) (other_call sees who other link call links (apart other link differ)) ∙ elsewhere_end whose (length (sent_by who call (seen link links))) (seen other links)

pub other_representations : Sees → (who : Role) (link other : ℕ) (calls : List Call) (links : Links) → other ≢ link
    → represented (seen other (run_links (map (λ call. CallsOn link who call) calls) links)) ≡ represented (seen other links)
other_representations sees who link other [] links differ = refl
other_representations sees who link other (call ∷ calls) links differ =
    other_representations sees who link other calls (happened_to (CallsOn link who call) links) differ
    ∙ ap represented (other_call sees who other link call links (apart other link differ)) ∙ elsewhere_representation (length (sent_by who call (seen link links))) (seen other links)

-- ---- a client of many

-- datagrams of other links leave a client where it is
passed_over : (calls : List Call) (count : ℕ) (ends last : Ends) → ClientIsAfter calls (happened (Elsewhere count) ends) last → ClientIsAfter calls ends last
passed_over calls count ends last after = record { given = after.given; taken = after.taken; server = after.server; inside = after.inside }

none_after : (ends : Ends) → ClientIsAfter [] ends ends
unfolding has_begun given_after taken_after
none_after ends = record { given = refl; taken = refl; server = refl; inside = λ opened. inl opened }

abbrev pub KeepsTime : Type 0
KeepsTime = (count : ℕ) (names : ℕ → Names) (event : LinksEvent) (links : Links) → AreLinks count names → AreTimely count names links
    → MayHappenTo count names event links → AreTimely count names (happened_to event links)

module _ (laws : EventLaws) (sees : Sees) (happens : MayHappen) (keeps : KeepsTime) (count : ℕ) (names : ℕ → Names) (are : AreLinks count names) where
  one_call : (links : Links) → AreTimely count names links → (link : ℕ) → link < count → (first : NodeCall) → MayHappenTo count names (CallsOn first.link role.Client first.call) links
      → (calls : List Call) (last : Ends) → ClientIsAfter calls (seen link (happened_to (CallsOn first.link role.Client first.call) links)) last
      → ClientIsAfter (if link == first.link then first.call ∷ calls else calls) (seen link links) last
  one_call links timely link below first may calls last rest = by_place (link == first.link) refl where
    next : Links
    next = happened_to (CallsOn first.link role.Client first.call) links

    chosen : MayRun (names link) (if link == first.link then Calls role.Client first.call ∷ [] else Elsewhere (length (sent_by role.Client first.call (seen first.link links))) ∷ []) (seen link links)
    chosen = happens count names (CallsOn first.link role.Client first.call) links are timely may link below

    own : (link == first.link) ≡ true → seen link next ≡ called role.Client first.call (seen link links)
    own e = ap (λ (at : ℕ). seen link (happened_to (CallsOn at role.Client first.call) links)) (sym (equal link first.link e)) ∙ own_call sees role.Client link first.call links

    by_place : (mine : Bool) → (link == first.link) ≡ mine → ClientIsAfter (if link == first.link then first.call ∷ calls else calls) (seen link links) last
    by_place true e = subst (λ (b : Bool). ClientIsAfter (if b then first.call ∷ calls else calls) (seen link links) last) (sym e)
        (call_then laws (names link) (are.each link below) first.call calls (seen link links) last (timely.each link below)
        (subst (λ (b : Bool). MayRun (names link) (if b then Calls role.Client first.call ∷ [] else Elsewhere (length (sent_by role.Client first.call (seen first.link links))) ∷ []) (seen link links)) e chosen).0
        (subst (λ (ends : Ends). ClientIsAfter calls ends last) (own e) rest))
    by_place false e = subst (λ (b : Bool). ClientIsAfter (if b then first.call ∷ calls else calls) (seen link links) last) (sym e)
        (passed_over calls (length (sent_by role.Client first.call (seen first.link links))) (seen link links) last
        (subst (λ (ends : Ends). ClientIsAfter calls ends last) (other_call sees role.Client link first.link first.call links e) rest))

  pub clients_after : (calls : List NodeCall) (links : Links) → AreTimely count names links → MayRunLinks count names (calls_of role.Client calls) links → (link : ℕ) → link < count
      → ClientIsAfter (at_link link calls) (seen link links) (seen link (run_links (calls_of role.Client calls) links))
  clients_after [] links timely may link below = none_after (seen link links)
  clients_after (first ∷ others) links timely may link below =
      one_call links timely link below first may.0 (at_link link others) (seen link (run_links (calls_of role.Client others) (happened_to (CallsOn first.link role.Client first.call) links)))
      (clients_after others (happened_to (CallsOn first.link role.Client first.call) links) (keeps count names (CallsOn first.link role.Client first.call) links are timely may.0) may.1 link below)
