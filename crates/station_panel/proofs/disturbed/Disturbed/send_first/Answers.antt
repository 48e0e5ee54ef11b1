use Rattle.std.proofs.Common.{◌∙◌, ℕ, List, refl, subst, sym}
use Rattle.station_drive.specs.Told.{Sends}
use Rattle.station_panel.proofs.DisturbedCalls.{none_goes, one_goes}
use Rattle.station_panel.proofs.disturbed.Disturbed.send_first.Goals as goal

pub returns-in_default : goal.returns-in_default
returns-in_default g c = none_goes g.N.Datagrams.told g.N.Datagrams.carries _ _ _ (sym c.args.self.now.late.ok.0 ∙ c.in_default.ensures.cases.0)

pub returns : goal.returns
returns g c =
    let carries = g.N.Datagrams.carries in
    let told = g.N.Datagrams.told in
    let first = c.in-Some.first in
    let sent = subst (λ (l : List ℕ). carries (told c.args.self.now.net) (Sends first.to l) (told c.send.new.self)) c.deref.ensures.value c.send.ensures.told in
    one_goes g.N.Datagrams.told g.N.Datagrams.carries _ _ _ _ _ c.send.new.self c.in-Some.ensures.items sent refl
