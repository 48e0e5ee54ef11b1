-- What the machine's point does in a step of its host: it goes on, takes moves, is driven or not, and reports.
use Rattle.std.proofs.Common.{◌≡◌, ◌≤◌, ◌⊎◌, ◌+◌, ◌-◌, ℕ, zero, suc, inl, inr, Bool, true, false, List, [], ◌∷◌, ◌++◌, length, append_assoc, arith, refl, ap, sym, ◌∙◌, subst}
use Rattle.std.specs.List.{All}
use Rattle.std.specs.Prelude.{Some}
use Rattle.std.proofs.lemmas.List.{append-nil, length-append}
use Rattle.std.proofs.lemmas.List.Elements.{All-head, All-tail}
use Rattle.simulator_machine.specs.Link.{In}
use Rattle.simulator_machine.specs.Point.{DriveEnds, Point, PointMay, PointMove, Position, Reaches, Reports, Side, Takes, point_after, reports_made}
use Rattle.simulator_machine.specs.Chains.{PointMayChain, point_chained}
use Rattle.simulator_move_laws.proofs.Controllers.Lists.{chain_joined, chain_may}

-- a list of moves leads from one state of a point to another
pub record Leads (old new : Point) : Type 0 where
  pub moves : List PointMove
  pub may : PointMayChain moves old
  pub leads : point_chained moves old ≡ new

pub stays : (point : Point) → Leads point point
stays point = record { moves = []; may = tt; leads = refl }

pub one : (move : PointMove) (point : Point) → PointMay move point → Leads point (point_after move point)
one move point may = record { moves = move ∷ []; may = (may, tt); leads = refl }

pub joined : (old mid new : Point) → Leads old mid → Leads mid new → Leads old new
joined old mid new first more = record {
  moves = first.moves ++ more.moves;
  may = chain_may PointMay point_after first.moves more.moves old first.may (subst (PointMayChain more.moves) (sym first.leads) more.may);
  leads = chain_joined PointMay point_after first.moves more.moves old ∙ ap (point_chained more.moves) first.leads ∙ more.leads;
}

-- a side that is reported is where the point stands
abbrev pub IsTrueAt : Position → Position → Type 0
IsTrueAt stands report = (side : Side) → report ≡ Some side → stands ≡ Some side

pub reach_leads : (position : Position) (point : Point) → (position ≡ point.position) ⊎ (point.driven ≡ true) → Leads point (record point { position = position })
reach_leads position point (inl same) = subst (λ p. Leads point (record point { position = p })) (sym same) (stays point)
reach_leads position point (inr driven) = one (Reaches position) point driven

-- the motor is switched off, or goes on
pub drive_leads : (driven : Bool) (point : Point) → (driven ≡ true → point.driven ≡ true) → Leads point (record point { driven = driven })
drive_leads false point was = one DriveEnds point tt
drive_leads true point was = subst (λ d. Leads point (record point { driven = d })) (was refl) (stays point)

some_under_way : (count flight : ℕ) → suc count ≤ flight → 1 ≤ flight
some_under_way count flight few = omega (arith, few)

fewer_under_way : (count flight : ℕ) → suc count ≤ flight → count ≤ flight - 1
fewer_under_way count flight few = omega (arith, few)

taken_then : (taken count : ℕ) → taken + 1 + count ≡ taken + suc count
taken_then taken count = omega arith

left_then : (flight count : ℕ) → flight - 1 - count ≡ flight - suc count
left_then flight count = omega arith

none_taken : (n : ℕ) → n ≡ n + 0
none_taken n = omega arith

none_left : (n : ℕ) → n ≡ n - 0
none_left n = omega arith

-- moves are taken, and then it is driven or isn't
pub takes_lead : (count : ℕ) (driven : Bool) (point : Point) → point.link.server ≡ In → count ≤ point.flight → (count ≡ 0 → driven ≡ true → point.driven ≡ true) →
    Leads point (record point { taken = point.taken + count; flight = point.flight - count; driven = driven })
takes_lead zero driven point inside few was =
    subst (λ n. Leads point (record point { taken = n; flight = point.flight - 0; driven = driven })) (none_taken point.taken)
    (subst (λ n. Leads point (record point { taken = point.taken; flight = n; driven = driven })) (none_left point.flight) (drive_leads driven point (was refl)))
takes_lead (suc count) driven point inside few was =
    let next : Point = record point { taken = point.taken + 1; flight = point.flight - 1; driven = driven }
    in let last : ℕ → ℕ → Point = λ taken flight. record point { taken = taken; flight = flight; driven = driven }
    in subst (λ n. Leads point (last n (point.flight - suc count))) (taken_then point.taken count)
    (subst (λ n. Leads point (last (point.taken + 1 + count) n)) (left_then point.flight count)
    (joined point next _ (one (Takes driven) point (inside, some_under_way count point.flight few))
    (takes_lead count driven next inside (fewer_under_way count point.flight few) (λ _ is. is))))

owed_first : (made more taken : ℕ) → made + suc more ≤ taken + 1 → made ≤ taken
owed_first made more taken owed = omega (arith, owed)

owed_then : (made next more taken : ℕ) → next ≡ made + 1 → made + suc more ≤ taken + 1 → next + more ≤ taken + 1
owed_then made next more taken is owed = omega (arith, is, owed)

-- one report more
pub made_more : (point : Point) (reports : List Position) → point.heard ++ (point.coming ++ reports) ≡ reports_made point ++ reports
made_more point reports = sym (append_assoc point.heard point.coming reports)

-- reports are made
pub reports_lead : (reports : List Position) (point : Point) → point.link.server ≡ In → (reports ≡ []) ⊎ (point.driven ≡ false) →
    length (reports_made point) + length reports ≤ point.taken + 1 → All (IsTrueAt point.position) reports → Leads point (record point { coming = point.coming ++ reports })
reports_lead [] point inside still owed true_each = subst (λ coming. Leads point (record point { coming = coming })) (sym (append-nil point.coming)) (stays point)
reports_lead (report ∷ others) point inside (inl none) owed true_each = absurd (cc (none))
reports_lead (report ∷ others) point inside (inr still) owed true_each =
    let next : Point = record point { coming = point.coming ++ report ∷ [] }
    in let first : Leads point next = one (Reports report) point (record {
      inside = inside;
      undriven = still;
      owed = owed_first (length (reports_made point)) (length others) point.taken owed;
      true_side = All-head (IsTrueAt point.position) report others true_each;
    })
    in let made = ap length (made_more point (report ∷ [])) ∙ length-append (reports_made point) (report ∷ [])
    in subst (λ coming. Leads point (record point { coming = coming })) (append_assoc point.coming (report ∷ []) others)
    (joined point next _ first
    (reports_lead others next inside (inr still) (owed_then (length (reports_made point)) _ (length others) point.taken made owed)
    (All-tail (IsTrueAt point.position) report others true_each)))

-- What a step does with a point in its connection: it stands here, first reports its status, takes moves, and then makes its
-- final reports. It is driven as it was found before the moves are taken, and then as they leave it.
pub record Work (point : Point) : Type 0 where
  pub position : Position
  pub status : List Position
  pub count : ℕ
  pub finals : List Position
  pub found : Bool
  pub moving : Bool
  pub inside : point.link.server ≡ In
  pub reaches : (position ≡ point.position) ⊎ (point.driven ≡ true)
  pub was : found ≡ true → point.driven ≡ true
  pub status_still : (status ≡ []) ⊎ (found ≡ false)
  pub status_owed : length (reports_made point) + length status ≤ point.taken + 1
  pub status_true : All (IsTrueAt position) status
  pub few : count ≤ point.flight
  pub begins : count ≡ 0 → moving ≡ true → found ≡ true
  pub finals_still : (finals ≡ []) ⊎ (moving ≡ false)
  pub finals_owed : (length (reports_made point) + length status) + length finals ≤ (point.taken + count) + 1
  pub finals_true : All (IsTrueAt position) finals

-- the point after it
abbrev pub worked : (point : Point) → Work point → Point
worked point work = record point {
  taken = point.taken + work.count;
  flight = point.flight - work.count;
  coming = point.coming ++ (work.status ++ work.finals);
  driven = work.moving;
  position = work.position;
}

pub work_leads : (point : Point) (work : Work point) → Leads point (worked point work)
work_leads point work =
    let here : Point = record point { position = work.position }
    in let found : Point = record here { driven = work.found }
    in let told : Point = record found { coming = point.coming ++ work.status }
    in let moved : Point = record told { taken = point.taken + work.count; flight = point.flight - work.count; driven = work.moving }
    in let made : length (reports_made moved) ≡ length (reports_made point) + length work.status =
    ap length (made_more point work.status) ∙ length-append (reports_made point) work.status
    in let owed = subst (λ n. n + length work.finals ≤ (point.taken + work.count) + 1) (sym made) work.finals_owed
    in subst (λ coming. Leads point (record moved { coming = coming })) (append_assoc point.coming work.status work.finals)
    (joined point here _ (reach_leads work.position point work.reaches)
    (joined here found _ (drive_leads work.found here work.was)
    (joined found told _ (reports_lead work.status found work.inside work.status_still work.status_owed work.status_true)
    (joined told moved _ (takes_lead work.count work.moving told work.inside work.few work.begins)
    (reports_lead work.finals moved work.inside work.finals_still owed work.finals_true)))))
