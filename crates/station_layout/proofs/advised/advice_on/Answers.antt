use Rattle.std.proofs.Common.{inl, inr, refl, subst, sym, ◌∙◌}
use Rattle.control_table.specs.layout.Entries.{Site}
use Rattle.control_table.specs.Faults.{IsFirstFault}
use Rattle.control_table.specs.Table.{Sound}
use Rattle.control_table.specs.declared.fault.TableFault.TheVariants as fault
use Rattle.station_layout.specs.RouteDetails.{table_detail}
use Rattle.station_layout.proofs.TableFaults.{of_fault, of_none}
use Rattle.station_layout.proofs.advised.advice_on.Goals as goal

pub returns-in_default : goal.returns-in_default
unfolding table_detail
returns-in_default c = inl (fault.OutOfMemory, tt, refl)

pub returns-in-Some : goal.returns-in-Some
returns-in-Some c =
    let first = of_fault (IsFirstFault c.in-Ok.copy) c.check.result c.in-Some.fault c.check.ensures.refuses (sym c.err.ensures.value ∙ c.in-Some.is) in
    inl (c.in-Some.fault, subst (λ (l : Site). IsFirstFault l c.in-Some.fault) c.in-Ok.ensures first, c.table_advice.ensures)

pub returns-in-None : goal.returns-in-None
returns-in-None c =
    let sound = of_none (Sound c.in-Ok.copy) c.check.result c.check.ensures.accepts (sym c.err.ensures.value ∙ c.in-None.is) in
    inr (subst (λ (l : Site). Sound l) c.in-Ok.ensures sound, refl)
