-- A point stays sound, what was settled stays settled, and where a point is known it is settled.
use Rattle.std.proofs.Common.{◌≡◌, ◌+◌, ◌-◌, ◌≤◌, Bool, true, false, List, [], ◌∷◌, ◌++◌, length, Some, None, refl, sym, ap, ◌∙◌, append_assoc, arith}
use Rattle.std.proofs.lemmas.List.{length-append, append-nil}
use Rattle.std.specs.Prelude.{◌≢◌}
use Rattle.simulator_machine.specs.Lists.{last_of}
use Rattle.simulator_machine.specs.Link.{Up, Server, Before, In, Gone, Link, LinkMove, Opens, Enters, ComesUp, Closes, Leaves, QuietEnds, LinkMay, link_after}
use Rattle.simulator_machine.specs.Point.{Side, Position, Point, moves_given, reports_made, IsKnownAt, PointMove, PointLink, Takes, DriveEnds, Reaches, Reports, Hears, RecountsMoves, RecountsReports, MayReport, PointMay, point_linked, heard_next, move_given, point_after}
use Rattle.simulator_machine.specs.Invariant.{IsLinkSound, IsPointSound, IsSettled}
use Rattle.simulator_machine.proofs.Lists.{last_added, none_left}
use Rattle.simulator_machine.proofs.Signals.{link_kept}

-- a point whose link changes, but not its server
same_server : (point : Point) (link : Link) → IsPointSound point → link.server ≡ point.link.server → IsLinkSound link → IsPointSound (record point { link = link })
same_server point link sound same link_sound = record {
  link = link_sound;
  none_given = λ e. sound.none_given (sym same ∙ e);
  none_made = λ e. sound.none_made (sym same ∙ e);
  given = sound.given;
  taken = λ e. sound.taken (sym same ∙ e);
  last = sound.last;
  driver = λ e. same ∙ sound.driver e;
  owing = sound.owing;
}

undriven_out : (point : Point) → IsPointSound point → point.link.server ≢ In → point.driven ≡ true → ⊥
undriven_out point sound out driven = out (sound.driver driven)

linked_kept : (move : LinkMove) (point : Point) → IsPointSound point → LinkMay move point.link → IsPointSound (point_linked move point)
linked_kept Opens point sound may = record {
  link = link_kept Opens point.link sound.link may;
  none_given = λ e. omega arith;
  none_made = λ e. refl;
  given = omega arith;
  taken = λ e. omega arith;
  last = λ e side last. absurd (cc (last));
  driver = λ e. absurd (undriven_out point sound (sound.link.quiet may) e);
  owing = λ e. omega arith;
}
linked_kept Enters point sound may = record {
  link = link_kept Enters point.link sound.link may;
  none_given = λ e. absurd (cc (e));
  none_made = λ e. absurd (cc (e));
  given = sound.given;
  taken = λ e. omega (arith, ap length (sound.none_made may.0));
  last = sound.last;
  driver = λ e. refl;
  owing = sound.owing;
}
linked_kept ComesUp point sound may = same_server point (link_after ComesUp point.link) sound refl (link_kept ComesUp point.link sound.link may)
linked_kept Closes point sound may = same_server point (link_after Closes point.link) sound refl (link_kept Closes point.link sound.link may)
linked_kept Leaves point sound may = record {
  link = link_kept Leaves point.link sound.link may;
  none_given = λ e. absurd (cc (e));
  none_made = λ e. absurd (cc (e));
  given = sound.given;
  taken = λ e. absurd (cc (e));
  last = sound.last;
  driver = λ e. absurd (cc (e));
  owing = λ e. absurd (cc (e));
}
linked_kept QuietEnds point sound may = same_server point (link_after QuietEnds point.link) sound refl (link_kept QuietEnds point.link sound.link may)

pub move_given_kept : (point : Point) → IsPointSound point → point.link.client ≡ Up → IsPointSound (move_given point)
move_given_kept point sound up = record {
  link = sound.link;
  none_given = λ e. absurd (sound.link.up up e);
  none_made = sound.none_made;
  given = omega (arith, sound.given);
  taken = sound.taken;
  last = λ e. absurd (omega (arith, sound.given, e));
  driver = sound.driver;
  owing = sound.owing;
}

takes_kept : (drives : Bool) (point : Point) → IsPointSound point → point.link.server ≡ In → 1 ≤ point.flight
    → IsPointSound (record point { taken = point.taken + 1; flight = point.flight - 1; driven = drives })
takes_kept drives point sound inside some = record {
  link = sound.link;
  none_given = λ e. absurd (cc (e, inside));
  none_made = sound.none_made;
  given = omega (arith, sound.given);
  taken = λ e. omega (arith, sound.taken inside);
  last = λ e. sound.last (omega (arith, e));
  driver = λ e. inside;
  owing = λ e. sound.taken inside;
}

-- the reports with one more
made : (position : Position) (point : Point) → point.heard ++ (point.coming ++ position ∷ []) ≡ reports_made point ++ position ∷ []
made position point = sym (append_assoc point.heard point.coming (position ∷ []))

made_count : (position : Position) (point : Point) → length (point.heard ++ (point.coming ++ position ∷ [])) ≡ length (reports_made point) + 1
made_count position point = ap length (made position point) ∙ length-append (reports_made point) (position ∷ [])

made_last : (position : Position) (point : Point) → last_of None (point.heard ++ (point.coming ++ position ∷ [])) ≡ position
made_last position point = ap (last_of None) (made position point) ∙ last_added None (reports_made point) position

reports_kept : (position : Position) (point : Point) → IsPointSound point → MayReport position point → IsPointSound (record point { coming = point.coming ++ position ∷ [] })
reports_kept position point sound may = record {
  link = sound.link;
  none_given = sound.none_given;
  none_made = λ e. absurd (cc (e, may.inside));
  given = omega (arith, made_count position point, may.owed);
  taken = λ e. omega (arith, made_count position point, may.owed);
  last = λ e side last. may.true_side side (sym (made_last position point) ∙ last);
  driver = sound.driver;
  owing = λ e. absurd (cc (e, may.undriven));
}

-- a point of which the same reports were made, however many of them were heard
same_reports : (heard coming : List Position) (point : Point) → IsPointSound point → heard ++ coming ≡ reports_made point
    → IsPointSound (record point { heard = heard; coming = coming })
same_reports heard coming point sound same = record {
  link = sound.link;
  none_given = sound.none_given;
  none_made = λ e. same ∙ sound.none_made e;
  given = omega (arith, sound.given, ap length same);
  taken = λ e. omega (arith, sound.taken e, ap length same);
  last = λ e side last. sound.last (sym (ap length same) ∙ e) side (sym (ap (last_of None) same) ∙ last);
  driver = sound.driver;
  owing = λ e. omega (arith, sound.owing e, ap length same);
}

hears_kept : (coming : List Position) (point : Point) → point.coming ≡ coming → IsPointSound point → IsPointSound (heard_next coming point)
hears_kept [] point is sound = sound
hears_kept (next ∷ later) point is sound =
    same_reports (point.heard ++ next ∷ []) later point sound (append_assoc point.heard (next ∷ []) later ∙ ap (λ back. point.heard ++ back) (sym is))

pub point_kept : (move : PointMove) (point : Point) → IsPointSound point → PointMay move point → IsPointSound (point_after move point)
point_kept (PointLink move) point sound may = linked_kept move point sound may
point_kept (Takes drives) point sound may = takes_kept drives point sound may.0 may.1
point_kept DriveEnds point sound may = record {
  link = sound.link;
  none_given = sound.none_given;
  none_made = sound.none_made;
  given = sound.given;
  taken = sound.taken;
  last = sound.last;
  driver = λ e. absurd (cc (e));
  owing = λ e. absurd (cc (e));
}
point_kept (Reaches position) point sound may = record {
  link = sound.link;
  none_given = sound.none_given;
  none_made = sound.none_made;
  given = sound.given;
  taken = sound.taken;
  last = λ e. absurd (omega (arith, e, sound.owing may));
  driver = sound.driver;
  owing = sound.owing;
}
point_kept (Reports position) point sound may = reports_kept position point sound may
point_kept Hears point sound may = hears_kept point.coming point refl sound
point_kept (RecountsMoves taken flight) point sound may = record {
  link = sound.link;
  none_given = λ e. absurd (cc (e, may.0));
  none_made = sound.none_made;
  given = omega (arith, sound.given, may.1);
  taken = λ e. absurd (cc (e, may.0));
  last = λ e. sound.last (e ∙ ap (λ n. n + 1) may.1);
  driver = sound.driver;
  owing = λ e. absurd (undriven_out point sound (λ inside. cc (inside, may.0)) e);
}
point_kept (RecountsReports heard coming) point sound may = same_reports heard coming point sound may

-- ---- settled

linked_settled : (move : LinkMove) (side : Side) (point : Point) → LinkMay move point.link → IsSettled side point → IsSettled side (point_linked move point)
linked_settled Opens side point may settled = record { stands = record { stands = settled.stands.stands; undriven = settled.stands.undriven }; unmoved = λ stays. refl }
linked_settled Enters side point may settled =
    record { stands = record { stands = settled.stands.stands; undriven = settled.stands.undriven }; unmoved = λ stays. settled.unmoved (λ e. cc (e, may.0)) }
linked_settled ComesUp side point may settled = record { stands = record { stands = settled.stands.stands; undriven = settled.stands.undriven }; unmoved = settled.unmoved }
linked_settled Closes side point may settled = record { stands = record { stands = settled.stands.stands; undriven = settled.stands.undriven }; unmoved = settled.unmoved }
linked_settled Leaves side point may settled = record { stands = record { stands = settled.stands.stands; undriven = refl }; unmoved = λ stays. absurd (stays refl) }
linked_settled QuietEnds side point may settled = record { stands = record { stands = settled.stands.stands; undriven = settled.stands.undriven }; unmoved = settled.unmoved }

hears_settled : (coming : List Position) (side : Side) (point : Point) → IsSettled side point → IsSettled side (heard_next coming point)
hears_settled [] side point settled = settled
hears_settled (next ∷ later) side point settled = record { stands = record { stands = settled.stands.stands; undriven = settled.stands.undriven }; unmoved = settled.unmoved }

-- no move of a point alone unsettles it
pub settled_kept : (move : PointMove) (side : Side) (point : Point) → PointMay move point → IsSettled side point → IsSettled side (point_after move point)
settled_kept (PointLink move) side point may settled = linked_settled move side point may settled
settled_kept (Takes drives) side point may settled = absurd (omega (arith, may.1, settled.unmoved (λ e. cc (e, may.0))))
settled_kept DriveEnds side point may settled = record { stands = record { stands = settled.stands.stands; undriven = refl }; unmoved = settled.unmoved }
settled_kept (Reaches position) side point may settled = absurd (cc (may, settled.stands.undriven))
settled_kept (Reports position) side point may settled = record { stands = record { stands = settled.stands.stands; undriven = settled.stands.undriven }; unmoved = settled.unmoved }
settled_kept Hears side point may settled = hears_settled point.coming side point settled
settled_kept (RecountsMoves taken flight) side point may settled =
    record { stands = record { stands = settled.stands.stands; undriven = settled.stands.undriven }; unmoved = λ stays. absurd (stays may.0) }
settled_kept (RecountsReports heard coming) side point may settled =
    record { stands = record { stands = settled.stands.stands; undriven = settled.stands.undriven }; unmoved = settled.unmoved }

-- where a point is known it is settled
pub known_settled : (side : Side) (point : Point) → IsPointSound point → IsKnownAt side point → IsSettled side point
known_settled side point sound known = record {
  stands = record { stands = sound.last all side last; undriven = undriven point.driven refl };
  unmoved = λ stays. unmoved point.link.server refl stays;
}
  where
    none_coming : point.coming ≡ []
    none_coming = none_left point.coming (omega (arith, sound.given, known.answered, length-append point.heard point.coming))

    all : length (reports_made point) ≡ moves_given point + 1
    all = ap (λ (coming : List Position). length (point.heard ++ coming)) none_coming ∙ (ap length (append-nil point.heard) ∙ known.answered)

    last : last_of None (reports_made point) ≡ Some side
    last = ap (λ (coming : List Position). last_of None (point.heard ++ coming)) none_coming ∙ (ap (last_of None) (append-nil point.heard) ∙ known.last)

    undriven : (driven : Bool) → point.driven ≡ driven → point.driven ≡ false
    undriven true is = absurd (omega (arith, all, sound.owing is))
    undriven false is = is

    unmoved : (server : Server) → point.link.server ≡ server → point.link.server ≢ Gone → point.flight ≡ 0
    unmoved Before is stays = absurd (sound.link.up known.up is)
    unmoved In is stays = omega (arith, all, sound.taken is)
    unmoved Gone is stays = absurd (stays is)
