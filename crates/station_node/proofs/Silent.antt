-- A process of which the calls aren't told, but what its clock read last.
use Rattle.std.proofs.Common.{◌≡◌, ◌∷◌, [], ℕ, List, Result, Ok, Err, sym, subst}
use Rattle.std.specs.Prelude.{OnErr, OnOk}
use Rattle.node_kinds.specs.node_drive.Calls.{BreaksOff, Call, Calls, Rises, Told, Writes}
use Rattle.station_node.specs.Takeover.{untold}

pub silent : (a b : Told) (calls : List Call) → Calls a b calls → Calls (untold a) (untold b) calls
silent a b calls p = record { grows = tt; rises = p.rises }

-- what reads no clock comes after it
pub silent_then : (a b c : Told) (calls : List Call) → Calls a b calls → c.latest ≡ b.latest → Calls (untold a) (untold c) calls
silent_then a b c calls p is = record { grows = tt; rises = subst (λ (n : ℕ). Rises a.latest calls n) (sym is) p.rises }

pub silent_done : {T E : Type 0} (result : Result T E) (a b : Told) (calls : List Call) → OnOk result (Calls a b calls) → OnOk result (Calls (untold a) (untold b) calls)
silent_done (Ok x) a b calls p = silent a b calls p
silent_done (Err e) a b calls p = tt

pub silent_failed : {T E : Type 0} (result : Result T E) (a b : Told) (calls : List Call) → OnErr result (Calls a b calls) → OnErr result (Calls (untold a) (untold b) calls)
silent_failed (Ok x) a b calls p = tt
silent_failed (Err e) a b calls p = silent a b calls p

-- a line is written, or broken off
pub writing_reads_nothing : {T E : Type 0} (result : Result T E) (a b : Told) (text : List ℕ) → OnOk result (Calls a b (Writes text ∷ [])) → OnErr result (Calls a b (BreaksOff text ∷ [])) → b.latest ≡ a.latest
writing_reads_nothing (Ok x) a b text done failed = done.rises
writing_reads_nothing (Err e) a b text done failed = failed.rises
