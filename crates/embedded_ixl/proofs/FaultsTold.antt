-- What a fault of a table tells.
use Rattle.std.proofs.Common.{◌≡◌, ℕ, List, Result, Ok, Err, subst, sym}
use Rattle.std.specs.Result.{IfErr, IsErrAnd}
use Rattle.ixl_state.specs.control_table.Faults.{IsFirstFault}
use Rattle.ixl_state.specs.control_table.declared.fault.TableFault.{TableFault}
use Rattle.ixl_state.specs.control_table.declared.fault.TableFault.TheVariants.{PathBroken, PathRepeats, PointMissing, PointWrong, FlankMissing, FlankOpen, FlankContradicts, SignalPlace, NotSymmetric, OutOfMemory}
use Rattle.ixl_state.specs.layout.Entries.{Site}
use Rattle.ixl_state.specs.layout.NamesResolved.{layout_in}
use Rattle.embedded_ixl.specs.Made.{Explains, fault_of_table}
use Rattle.embedded_ixl.specs.declared.start_fault.StartFault.{StartFault}

pub explains_table : (text : List ℕ) (site : Site) (fault : TableFault) → layout_in text ≡ Ok site → IsFirstFault site fault → Explains text (fault_of_table fault)
explains_table text site (PathBroken at) read first = (site, read, first)
explains_table text site (PathRepeats at) read first = (site, read, first)
explains_table text site (PointMissing at) read first = (site, read, first)
explains_table text site (PointWrong at) read first = (site, read, first)
explains_table text site (FlankMissing at) read first = (site, read, first)
explains_table text site (FlankOpen at) read first = (site, read, first)
explains_table text site (FlankContradicts at) read first = (site, read, first)
explains_table text site (SignalPlace at) read first = (site, read, first)
explains_table text site (NotSymmetric at) read first = (site, read, first)
explains_table text site OutOfMemory read first = tt

-- what is told is that fault
pub told_by : {Y : Type 0} (text : List ℕ) (told : Result Y StartFault) (fault : StartFault) → IsErrAnd told (λ why. why ≡ fault) → Explains text fault → IfErr told (Explains text)
told_by text (Ok made) fault is explains = absurd is
told_by text (Err why) fault is explains = subst (Explains text) (sym is) explains
