-- What comes to a node and what it sends, by its record.
use Rattle.std.specs.Prelude.{ℕ, ◌==◌, nat_le, if◌then◌else◌, Bool, false, List, [], ◌∷◌, ◌++◌, Option, Some, None}
use Rattle.std.specs.Option.{option_to_list}
use Rattle.node_record.specs.RecordLines.{Line, Reads, Comes, ThrowsAway, Sends}
use Rattle.node_record.specs.declared.passage.Reception.{Reception}
use Rattle.node_record.specs.declared.passage.Reception.TheVariants.{Delivered, FromNoPartner, ThrownAway, Unread}
use Rattle.node_record.specs.declared.passage.Way.{Way}
use Rattle.node_record.specs.declared.passage.Way.TheVariants.{Sent, Came}

-- a datagram, the reading of the node's clock in milliseconds, and whither it went or whence it came
pub record Passed : Type 0 where
  pub reading : ℕ
  pub way : Way
  pub bytes : List ℕ

-- The interlocking, which is the node 0, has a link with each other node, and each of these with it.
abbrev pub is_partner : ℕ → Option ℕ → Bool
is_partner node None = false
is_partner node (Some from) = if node == 0 then nat_le 1 from else from == 0

-- ---- what came

-- What became of a datagram. The clock is read after each that comes. What may have waited too long is then thrown away, with
-- all that wait; of the others those are taken that came from the address of a partner.
abbrev pub became_read : Bool → List Line → Reception
became_read partner (ThrowsAway ∷ more) = ThrownAway
became_read partner behind = if partner then Delivered else FromNoPartner

abbrev pub became : Bool → List Line → Reception
became partner (Reads reading ∷ more) = became_read partner more
became partner behind = Unread

-- the reading that was taken after it, or else the last one before
abbrev pub reading_behind : ℕ → List Line → ℕ
reading_behind latest (Reads reading ∷ more) = reading
reading_behind latest behind = latest

-- ---- all of it

-- the datagram of which a line tells, where the last reading before and the lines after it are these
abbrev pub passed_at : ℕ → ℕ → Line → List Line → Option Passed
passed_at node latest (Comes from over bytes) behind =
    Some (record { reading = reading_behind latest behind; way = Came from over (became (is_partner node from) behind); bytes = bytes })
passed_at node latest (Sends to bytes) behind = Some (record { reading = latest; way = Sent to; bytes = bytes })
passed_at node latest line behind = None

abbrev pub latest_behind : ℕ → Line → ℕ
latest_behind latest (Reads reading) = reading
latest_behind latest line = latest

-- One line after another. Before the first reading the clock counts as 0.
abbrev pub traffic : ℕ → ℕ → List Line → List Passed
traffic node latest [] = []
traffic node latest (line ∷ behind) = option_to_list (passed_at node latest line behind) ++ traffic node (latest_behind latest line) behind
