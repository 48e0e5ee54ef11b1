-- When an operator is told to have begun to listen.
use Rattle.std.specs.Prelude.{◌≡◌, ◌&&◌, not, Bool, true, false, Option, Some, None}
use Rattle.node_network.specs.Lines.{nothing_waits}
use Rattle.node_network.specs.declared.lines.Kind.{Kind}
use Rattle.node_network.specs.declared.lines.Kind.TheVariants.{Field, Operator, Connection}
use Rattle.node_network.specs.declared.stream_lines.StreamLines.{StreamLines}

-- whether somebody is there
abbrev pub is_there : {A : Type 0} → Option A → Bool
is_there (Some one) = true
is_there None = false

-- streams of which nothing came yet
abbrev pub first_lines : {I O : Type 0} → I → O → StreamLines I O
first_lines input output = record { input = record { input = input; buffer = nothing_waits; ended = false }; output = output }

-- lines of field equipment
abbrev pub is_field : {R I O S L : Type 0} → Kind R I O S L → Bool
is_field (Field lines) = true
is_field lines = false

-- an operator over a connection who isn't there
abbrev pub IsForNobody : {R I O S L : Type 0} → Kind R I O S L → Type 0
IsForNobody (Connection lines) = is_there lines.operator ≡ false
IsForNobody lines = ⊥

-- Field equipment never does, an operator on the streams at the first question, and one over a connection who is there and wasn't.
abbrev pub began : {R I O S L : Type 0} → Kind R I O S L → Kind R I O S L → Bool
began (Field lines) after = false
began (Operator lines) after = not lines.told
began (Connection lines) (Connection after) = not (is_there lines.operator) && is_there after.operator
began (Connection lines) after = false
