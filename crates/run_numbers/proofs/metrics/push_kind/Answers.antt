use Rattle.std.proofs.Common.{◌∙◌, ◌++◌, ◌∷◌, [], refl, ap, codes, string_bytes}
use Rattle.std.proofs.lemmas.Slice.{pushed}
use Rattle.run_numbers.proofs.Pushed.{last_pushed}
use Rattle.run_numbers.proofs.metrics.push_kind.Goals as goal

pub returns : goal.returns
returns c =
    let before = string_bytes c.args.text.now in
    let first = pushed (codes "# TYPE zendurai_") refl c.in_ok-push_str.was c.push_str.ensures.bytes in
    let second = pushed c.name.result.now first c.in_ok-push_str-2.was c.push_str-2.ensures.bytes in
    last_pushed c.push_str-3.result before (codes "# TYPE zendurai_") c.name.result.now c.as_str.result.now c.push_str-3.ensures.bytes second c.name.ensures (c.as_str.ensures.value ∙ c.in_ok-kind.ensures.ok ∙ ap (λ k. 32 ∷ (k ++ 10 ∷ [])) c.kind-kind.ensures)
