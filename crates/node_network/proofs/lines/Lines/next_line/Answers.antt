use Rattle.std.proofs.Common.{Result, Ok, Err}
use Rattle.std.specs.Prelude.{IfOk}
use Rattle.node_network.proofs.lines.Lines.next_line.Goals as goal

any_ok : {A E : Type 0} {P : A → Type 0} (result : Result A E) → ((x : A) → P x) → IfOk result P
any_ok (Ok x) f = f x
any_ok (Err e) f = tt

-- these are lines of field equipment
pub returns-in-Field : goal.returns-in-Field
returns-in-Field g c = record { field = any_ok c.next_line.result (λ answer closed. (c.in-Field.lines, c.in-Field.is)) }
