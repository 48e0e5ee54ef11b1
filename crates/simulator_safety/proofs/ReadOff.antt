-- What the ends of a world's links gave is read off its datagrams.
use Rattle.std.proofs.Common.{◌≡◌, ◌∙◌, ℕ, List, Some, sym, ap}
use Rattle.simulator_link_laws.specs.layout.Entries.{Site}
use Rattle.simulator_link_laws.specs.rasta_core.Given.{items_given}
use Rattle.simulator_link_laws.specs.rasta_core.Links.{OnLink, of_link, seen}
use Rattle.simulator_link_laws.specs.rasta_core.Names.{partner_of}
use Rattle.simulator_link_laws.specs.rasta_core.Safe.{AreCounted, AreSafe}
use Rattle.simulator_link_laws.specs.rasta_core.identity.Role.{Role}
use Rattle.simulator_link_laws.specs.rasta_core.identity.Role.TheVariants as role
use Rattle.simulator_link_laws.specs.simulator_move_laws.Lawful.{IsLawful}
use Rattle.simulator_link_laws.specs.HasLinks.{HasLinks, links_in}
use Rattle.simulator_link_laws.specs.simulator_spec.Links.{names_at}
use Rattle.simulator_link_laws.specs.simulator_spec.State.{WorldState}
use Rattle.simulator_safety.specs.InFlight.{given_on}
use Rattle.simulator_safety.specs.Reached.{IsReadOff, IsTakenOf, end_at}

module _ (site : Site) (world : WorldState) (has : HasLinks site world) (link : ℕ) (lawful : IsLawful (names_at site link) (seen link (links_in has))) (safe : AreSafe (seen link (links_in has)))
    (counted : AreCounted (seen link (links_in has))) where
  given : (who : Role) (connection : ℕ) → (end_at who link has).connection ≡ Some connection → (end_at who link has).given ≡ given_on site world link who connection
  given who connection is = lawful.given who connection is ∙ ap (λ (sent : List OnLink). items_given (names_at site link) who connection (of_link link sent)) has.are.sent_is

  taken : (who : Role) (connection : ℕ) → (end_at who link has).connection ≡ Some connection → (end_at (partner_of who) link has).connection ≡ Some connection
      → IsTakenOf (given_on site world link who connection) (end_at (partner_of who) link has)
  taken role.Client connection client server =
      let of = (safe connection client server).0 in record {
        rest = of.rest;
        beginning = sym (given role.Client connection client) ∙ of.beginning;
        counted = (counted connection client server).1;
      }
  taken role.Server connection server client =
      let of = (safe connection client server).1 in record {
        rest = of.rest;
        beginning = sym (given role.Server connection server) ∙ of.beginning;
        counted = (counted connection client server).0;
      }

  pub read_off : (who : Role) (connection : ℕ) → (end_at who link has).connection ≡ Some connection
      → IsReadOff (given_on site world link who connection) connection (end_at who link has) (end_at (partner_of who) link has)
  read_off who connection is = record { given = given who connection is; taken = taken who connection is }
