use Rattle.std.proofs.Common.{◌≡◌, arith}
use Rattle.std.proofs.lemmas.Grind.{common_steps}
use Rattle.station_layout.specs.UnknownAdvice.{first_missed, route_missed}
use Rattle.station_layout.specs.declared.advice.Missed.TheVariants as missing
use Rattle.station_layout.specs.declared.field_key.FieldKey.TheVariants as key
use Rattle.station_layout.proofs.unknown.route_missed.Goals as goal

pub returns-in-Some-first_missed-2 : goal.returns-in-Some-first_missed-2
unfolding route_missed
returns-in-Some-first_missed-2 c =
    let told : c.first_missed-2.result ≡ first_missed c.args.written.now c.args.place key.Approach (λ name. missing.Section name) 0 c.deref-2.result.now = c.first_missed-2.ensures in
    grind (arith, common_steps, told)

pub returns : goal.returns
unfolding route_missed
returns c =
    let sections : c.first_missed-2.result ≡ first_missed c.args.written.now c.args.place key.Approach (λ name. missing.Section name) 0 c.deref-2.result.now = c.first_missed-2.ensures in
    let routes : c.first_missed-3.result ≡ first_missed c.args.written.now c.args.place key.Extra (λ name. missing.Route name) 0 c.deref-3.result.now = c.first_missed-3.ensures in
    grind (arith, common_steps, sections, routes)
