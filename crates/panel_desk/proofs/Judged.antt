-- Whether a route that waits may be tried.
use Rattle.std.proofs.Common.{◌≡◌, ◌∙◌, ◌↔◌, ◌<◌, ◌≤◌, ℕ, Bool, true, false, List, length, sym, arith}
use Rattle.std.specs.Prelude.{IsTrue}
use Rattle.std.proofs.lemmas.Bool.{false≢true}
use Rattle.node_lines.specs.layout.Entries.{Site}
use Rattle.panel_desk.specs.Inside.{IsLetBy, IsOpposed}
use Rattle.panel_desk.specs.StandingOrders.{MayBeTried, rested}
use Rattle.panel_desk.specs.declared.panel_line.PanelLine.{PanelLine}
use Rattle.panel_desk.specs.declared.standing_orders.Waiting.{Waiting}
use Rattle.panel_desk.proofs.InTheWay.{never_so}

isnt_so : (answer : Bool) → answer ≡ false → answer ≡ true → ⊥
isnt_so answer is so = false≢true (sym is ∙ so)

module _ (site : Site) (lines : List PanelLine) (now : ℕ) (earlier : List Waiting) (one : Waiting) where
  pub not_there : length site.routes ≤ one.route.0 → IsTrue false ↔ MayBeTried site lines now earlier one
  not_there above = never_so (MayBeTried site lines now earlier one) (λ may. beyond may.there)
    where
      beyond : one.route.0 < length site.routes → ⊥
      beyond below = omega (arith, below, above)

  pub opposed : (answer : Bool) → answer ≡ true → IsTrue answer ↔ IsOpposed site lines one.route → IsTrue false ↔ MayBeTried site lines now earlier one
  opposed answer is law =
      let against = law.0 is in
      never_so (MayBeTried site lines now earlier one) (λ may. may.unopposed against.0 against.1 against.2)

  pub behind : (answer : Bool) → answer ≡ false → IsTrue answer ↔ IsLetBy site lines earlier one.route → IsTrue false ↔ MayBeTried site lines now earlier one
  behind answer isnt law =
      never_so (MayBeTried site lines now earlier one) (λ may. isnt_so answer isnt (law.1 (λ other has. record { hindered = may.first other has })))

  pub rests : (answer against by : Bool) → one.route.0 < length site.routes → against ≡ false → IsTrue against ↔ IsOpposed site lines one.route → by ≡ true → IsTrue by ↔ IsLetBy site lines earlier one.route
      → answer ≡ rested one.tried now → IsTrue answer ↔ MayBeTried site lines now earlier one
  rests answer against by below free law let_by other is = (
    λ so. record {
      there = below;
      rested_is = sym is ∙ so;
      unopposed = λ line has stands. isnt_so against free (law.1 (line, has, stands));
      first = λ longer has. (other.0 let_by longer has).hindered;
    },
    λ may. is ∙ may.rested_is,
  )
