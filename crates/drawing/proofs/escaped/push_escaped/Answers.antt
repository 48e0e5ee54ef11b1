use Rattle.std.proofs.Common.{◌∙◌, ℕ, ◌<◌, ◌≤◌, List, ◌++◌, length, get_or, ap, subst}
use Rattle.std.proofs.lemmas.List.{get_or_default}
use Rattle.drawing.specs.Escaped.{escaped_byte}
use Rattle.drawing.proofs.Grown.{grown_by_all, grows}
use Rattle.drawing.proofs.escaped.push_escaped.Goals as goal

pub loop-byte-preserved : goal.loop-byte-preserved
loop-byte-preserved c =
    let text = c.args.text.now
    in let index = c.loop-byte.byte-index
    in let byte = get_or text index 0
    in let same = c.as_bytes-byte-items.ensures.value
    in let within : index < length text = subst (λ (bytes : List ℕ). index < length bytes) same c.loop-byte-test.true
    in grows escaped_byte c.args.svg.now.items text index byte c.loop-byte.svg.items c.push_escaped_byte.new.svg.items within (get_or_default text index 0 byte within) c.loop-byte.invariant
    (c.in_ok-push_escaped_byte.ensures ∙ ap (λ (bytes : List ℕ). c.loop-byte.svg.items ++ escaped_byte (get_or bytes index 0)) same)

pub returns : goal.returns
returns c =
    let text = c.args.text.now
    in let index = c.loop-byte.byte-index
    in let past : length text ≤ index = subst (λ (bytes : List ℕ). length bytes ≤ index) c.as_bytes-byte-items.ensures.value c.loop-byte-test.false
    in grown_by_all escaped_byte c.args.svg.now.items text index c.loop-byte.svg.items past c.loop-byte.invariant
