use Rattle.std.proofs.Common.{◌≡◌, ◌∙◌, ◌+◌, ◌-◌, ℕ, suc, true, false, length, List, [], ◌∷◌, ◌++◌, Option, Some, None, sym, ap, subst, arith}
use Rattle.station_track.specs.Places.{place_number}
use Rattle.station_track.specs.Ports.{front, track_behind, beyond}
use Rattle.station_track.specs.Throats.{has_signal, throat_from}
use Rattle.station_track.specs.Meaning.{IfPort}
use Rattle.station_track.proofs.Loops.{with_front, throat-goes_on, throat-ends, throat-stops, beyond-there}
use Rattle.station_track.proofs.paths.throat_from.Goals as goal

pub returns-in_default : goal.returns-in_default
returns-in_default c =
    let n : ℕ = length c.args.layout.now.tracks - (c.loop-step.step + 1) in
    let one : length c.args.layout.now.tracks - c.loop-step.step ≡ suc n = omega (arith, ap length c.tracks-step-end.ensures) in
    let total : Option (List ℕ) = throat_from c.args.layout.now (length c.args.layout.now.tracks) c.args.entered in
    let none : track_behind c.loop-step.next ≡ None = cc in
    c.new.ensures.items
    ∙ throat-stops c.args.layout.now c.loop-step.places.items n c.loop-step.next total none
    (subst (λ k. with_front c.loop-step.places.items (throat_from c.args.layout.now k c.loop-step.next) ≡ total) one c.loop-step.invariant.0)

pub returns-then-has_signal : goal.returns-then-has_signal
returns-then-has_signal c =
    let n : ℕ = length c.args.layout.now.tracks - (c.loop-step.step + 1) in
    let one : length c.args.layout.now.tracks - c.loop-step.step ≡ suc n = omega (arith, ap length c.tracks-step-end.ensures) in
    let total : Option (List ℕ) = throat_from c.args.layout.now (length c.args.layout.now.tracks) c.args.entered in
    let at : track_behind c.loop-step.next ≡ Some c.in-Some.place = cc in
    let lit : has_signal c.args.layout.now (front c.in-Some.place) ≡ true = cc in
    c.in_ok-push.ensures.items ∙ ap (λ k. c.loop-step.places.items ++ k ∷ []) c.place_number.ensures
    ∙ throat-ends c.args.layout.now c.loop-step.places.items n c.loop-step.next total c.in-Some.place at lit
    (subst (λ k. with_front c.loop-step.places.items (throat_from c.args.layout.now k c.loop-step.next) ≡ total) one c.loop-step.invariant.0)

pub loop-step-preserved : goal.loop-step-preserved
loop-step-preserved c =
    let n : ℕ = length c.args.layout.now.tracks - (c.loop-step.step + 1) in
    let one : length c.args.layout.now.tracks - c.loop-step.step ≡ suc n = omega (arith, ap length c.tracks-step-end.ensures) in
    let total : Option (List ℕ) = throat_from c.args.layout.now (length c.args.layout.now.tracks) c.args.entered in
    let at : track_behind c.loop-step.next ≡ Some c.in-Some.place = cc in
    let dark : has_signal c.args.layout.now (front c.in-Some.place) ≡ false = cc in
    let made : c.push.new.self.items ≡ c.loop-step.places.items ++ place_number c.args.layout.now c.in-Some.place ∷ [] =
    c.in_ok-push.ensures.items ∙ ap (λ k. c.loop-step.places.items ++ k ∷ []) c.place_number.ensures in
    let next : c.beyond-next.result ≡ beyond c.args.layout.now.joints (front c.in-Some.place) = cc in
    let on = throat-goes_on c.args.layout.now c.loop-step.places.items n c.loop-step.next total c.in-Some.place at dark
    (subst (λ k. with_front c.loop-step.places.items (throat_from c.args.layout.now k c.loop-step.next) ≡ total) one c.loop-step.invariant.0) in (
      ap (λ ns. with_front ns (throat_from c.args.layout.now n c.beyond-next.result)) made
          ∙ ap (λ r. with_front (c.loop-step.places.items ++ place_number c.args.layout.now c.in-Some.place ∷ []) (throat_from c.args.layout.now n r)) next ∙ on,
      subst (IfPort c.args.layout.now) (sym next) (beyond-there c.args.layout.now c.joints.ensures.station (front c.in-Some.place)),
    )
