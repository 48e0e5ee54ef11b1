use Rattle.std.proofs.lemmas.Bool.{false≢true}
use Rattle.std.proofs.Common.{refl, ◌≡◌, subst, arith}
use Rattle.ixl_spec.specs.sci_telegram.declared.message.Aspect.{Aspect}
use Rattle.ixl_spec.specs.control_table.Table.{HasAspect}
use Rattle.simulator_event.proofs.Safety.{protected_from, protected_only, protected_aspect, protected_points}
use Rattle.simulator_event.proofs.snapshot.Snapshot.is_protected_by.Goals as goal

pub returns-then-not-is_only : goal.returns-then-not-is_only
returns-then-not-is_only c =
    (λ f. absurd (false≢true f), λ p. c.if-not-is_only.ensures.1 (protected_only c.args.table.now c.args.self.now c.args.signal c.args.aspect c.args.route p c.requires.held))

pub returns-then-ne : goal.returns-then-ne
returns-then-ne c = (
  λ f. absurd (false≢true f),
  λ p.
      let e : c.aspect.result ≡ c.args.aspect = protected_aspect c.args.table.now c.args.self.now c.args.signal c.args.aspect c.args.route c.aspect.result p c.requires.held c.aspect.ensures.aspect
      in absurd (grind (arith, e)),
)

pub returns : goal.returns
returns c =
    let e : c.aspect.result ≡ c.args.aspect = grind arith in
    let P : Aspect → Type 0 = λ a. HasAspect c.args.table.now c.args.route a in (
      λ yes. protected_from c.args.table.now c.args.self.now c.args.signal c.args.aspect c.args.route c.required.result.now
          c.requires.held (c.if-not-is_only.ensures.0 refl) (subst P e c.aspect.ensures.aspect) c.required.ensures (c.all_stand.ensures.0 yes),
      λ p. c.all_stand.ensures.1 (protected_points c.args.table.now c.args.self.now c.args.signal c.args.aspect c.args.route c.required.result.now p c.requires.held c.required.ensures),
    )
