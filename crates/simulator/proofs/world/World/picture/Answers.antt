use Rattle.std.proofs.Common.{◌∙◌, ◌++◌, ◌/◌, ap, List, ℕ, Bool, codes, string_bytes}
use Rattle.std.specs.Fmt.{decimal}
use Rattle.simulator_spec.specs.Picture.{safe_text}
use Rattle.simulator.proofs.Whole.{all_points, whole}
use Rattle.simulator.proofs.world.World.picture.Goals as goal

pub push_points-requires : goal.push_points-requires
push_points-requires c =
    let world = c.args.self.now
    in let seen = c.safe-is_safe.ensures.seen
    in all_points world.sited.site world.sited.table world.run seen.0 seen.1 (seen.2.0 c.safe-is_safe.ensures.always)

pub returns : goal.returns
returns c =
    let world = c.args.self.now
    in let seen = c.safe-is_safe.ensures.seen
    in let routes = string_bytes c.push_routes.new.text
    in record {
      text_is =
          whole world.sited.site world.sited.table world.run (string_bytes c.in_ok-text.text) (string_bytes c.push_signals.new.text) (string_bytes c.push_points.new.text)
          (string_bytes c.push_sections.new.text) routes (string_bytes c.write.new.self)
          (c.in_ok-text.ensures.ok ∙ ap (λ (t : ℕ). codes "time " ++ decimal (t / 1000)) c.time.ensures)
          c.in_ok-push_signals.ensures c.in_ok-push_points.ensures c.in_ok-push_sections.ensures c.in_ok-push_routes.ensures
          (c.in_ok-write.ensures.bytes ∙ ap (λ (w : List ℕ). routes ++ (codes "\n" ++ w)) (c.safe_word-last.ensures ∙ ap (λ (b : Bool). safe_text b) c.safe-is_safe.ensures.always));
      seen = seen.0;
      seen_is = seen.1;
      safe = seen.2.0 c.safe-is_safe.ensures.always;
    }
