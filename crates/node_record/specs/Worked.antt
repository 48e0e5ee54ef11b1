-- Lines of records, and what goes over the network and what is drawn by them, worked by hand.
use Rattle.std.specs.Prelude.{◌≡◌, ℕ, List, [], ◌∷◌, codes, Option, Some, None, Ok, Err}
use Rattle.control_table.specs.layout.Entries.{Site}
use Rattle.control_table.specs.sci_telegram.declared.message.Aspect.TheVariants as aspect
use Rattle.control_table.specs.sci_telegram.declared.message.Side.TheVariants as side
use Rattle.lane_chart.specs.declared.change.Change.{Change}
use Rattle.lane_chart.specs.declared.lane.Kind.{Kind}
use Rattle.lane_chart.specs.declared.lane.Kind.TheVariants as kind
use Rattle.lane_chart.specs.declared.lane.Seen.{Seen}
use Rattle.lane_chart.specs.declared.lane.Seen.TheVariants as seen
use Rattle.replay_words.specs.Cut.{words}
use Rattle.station_check.specs.node_addresses.declared.network.Network.TheVariants.{Alone, Second}
use Rattle.replay_words.specs.declared.fault.Fault.TheVariants.{Number, Words}
use Rattle.node_record.specs.CapturedRecord.{captured}
use Rattle.node_record.specs.Courses.{first_course}
use Rattle.node_record.specs.NodeChanges.{Mark, changes_from, marks_from}
use Rattle.node_record.specs.NodeEnds.{Ends}
use Rattle.node_record.specs.NodeLines.{came_text}
use Rattle.node_record.specs.NodeTraffic.{Passed, traffic}
use Rattle.node_record.specs.RecordLines.{Reads, Comes, ThrowsAway, Sends, Other, comes_over, line_said}
use Rattle.node_record.specs.Records.{time_said, whole_lines}
use Rattle.node_record.specs.declared.passage.Reception.{Reception}
use Rattle.node_record.specs.declared.passage.Reception.TheVariants.{Delivered, FromNoPartner, ThrownAway, Unread}
use Rattle.node_record.specs.declared.passage.Way.TheVariants.{Sent, Came}
use Rattle.control_table.specs.layout.Nodes as nodes

-- a datagram of one byte that came at a reading, and one that was sent
abbrev pub came : ℕ → Option ℕ → Reception → ℕ → Passed
came reading from became byte = record { reading = reading; way = Came from Alone became; bytes = byte ∷ [] }

abbrev pub sent : ℕ → ℕ → ℕ → Passed
sent reading to byte = record { reading = reading; way = Sent to; bytes = byte ∷ [] }

-- the ends of no nodes
abbrev pub nowhere : Ends
nowhere = record { first = []; second = [] }

-- that the lane of this kind at place 3 shows this, by a line
abbrev pub shows : ℕ → ℕ → Kind → Seen → Change
shows number time what this = record { line = number; time = time; lane = record { kind = what; place = 3 }; seen = this }

-- a command or an answer, by a line
abbrev pub said : ℕ → ℕ → List ℕ → Mark
said number time words = record { line = number; time = time; node = None; words = words }

pub record Worked (site : Site) : Type 0 where
  -- lines
  pub read : line_said site (words (codes "at 12000")) ≡ Ok (Reads 12000)
  pub away : line_said site (words (codes "throws away all 12")) ≡ Ok ThrowsAway
  pub away_in_part : line_said site (words (codes "throws away 4096")) ≡ Ok ThrowsAway
  pub away_uncounted : line_said site (words (codes "throws away")) ≡ Err Words
  pub over_one : line_said site (words (codes "from S1 0102")) ≡ comes_over site (Ok Alone) (codes "S1") (codes "0102")
  pub over_second : line_said site (words (codes "from S1 over 2 0102")) ≡ comes_over site (Ok Second) (codes "S1") (codes "0102")
  pub over_third : line_said site (words (codes "from S1 over 3 0102")) ≡ Err Words
  pub over_none : line_said site (words (codes "from S1 over 0102")) ≡ Err Words
  pub failed : line_said site (words (codes "fails to receive")) ≡ Ok Other
  pub heard : line_said site (words (codes "hears set R1")) ≡ Ok Other
  pub heard_nothing : line_said site (words (codes "hears ")) ≡ Ok Other
  pub written : line_said site (words (codes "writes 7 at 12000 show stop")) ≡ Ok Other
  pub broken_off : line_said site (words (codes "breaks off 7 at 12000 show st")) ≡ Ok Other
  pub complained : line_said site (words (codes "complains 3 1")) ≡ Ok Other
  pub no_number : line_said site (words (codes "at noon")) ≡ Err Number
  pub no_text : line_said site (words (codes "hears")) ≡ Err Words
  pub no_line : line_said site (words (codes "at 1 2")) ≡ Err Words
  pub broken : whole_lines (codes "at 10\nlistens\nat 2") ≡ codes "at 10" ∷ codes "listens" ∷ []
  pub for_ever : time_said [] ≡ Ok None
  pub for_a_minute : time_said (words (codes "for 60000")) ≡ Ok (Some 60000)
  -- a datagram comes at the reading after it, and what it brings about is sent at that reading
  pub answered : traffic 1 0 (Reads 10 ∷ Comes (Some 0) Alone (7 ∷ []) ∷ Reads 12 ∷ Other ∷ Sends 0 (8 ∷ []) ∷ []) ≡ came 12 (Some 0) Delivered 7 ∷ sent 12 0 8 ∷ []
  -- a controller takes what comes from the address of the interlocking alone, and the interlocking what comes from those of the others
  pub stranger : traffic 1 0 (Comes None Alone (7 ∷ []) ∷ Reads 12 ∷ []) ≡ came 12 None FromNoPartner 7 ∷ []
  pub another : traffic 1 0 (Comes (Some 2) Alone (7 ∷ []) ∷ Reads 12 ∷ []) ≡ came 12 (Some 2) FromNoPartner 7 ∷ []
  pub controller : traffic 0 0 (Comes (Some 2) Alone (7 ∷ []) ∷ Reads 12 ∷ []) ≡ came 12 (Some 2) Delivered 7 ∷ []
  -- what is thrown away isn't delivered, from whomever it came
  pub late : traffic 1 0 (Comes (Some 0) Alone (7 ∷ []) ∷ Reads 1600 ∷ ThrowsAway ∷ Reads 1600 ∷ Comes (Some 0) Alone (9 ∷ []) ∷ Reads 1610 ∷ [])
      ≡ came 1600 (Some 0) ThrownAway 7 ∷ came 1610 (Some 0) Delivered 9 ∷ []
  -- a record that is broken off after a datagram
  pub unread : traffic 1 0 (Reads 10 ∷ Comes (Some 0) Alone (7 ∷ []) ∷ []) ≡ came 10 (Some 0) Unread 7 ∷ []
  -- over which of two networks it came
  pub told_over : came_text (codes "S1") Second Delivered ≡ codes "delivered to S1 over 2"
  pub told_over_one : came_text (codes "S1") Alone Unread ≡ codes "not delivered to S1, not read"
  -- what was sent goes from the node, and what came goes to it
  pub outward : (captured nowhere 1 (sent 12 0 8)).journey.sender.address ≡ 10 ∷ 0 ∷ 0 ∷ 2 ∷ []
  pub inward : (captured nowhere 1 (came 12 (Some 0) Delivered 7)).journey.sender.address ≡ 10 ∷ 0 ∷ 0 ∷ 1 ∷ []
  pub inward_over_second : (captured nowhere 1 (record { reading = 12; way = Came (Some 0) Second Delivered; bytes = [] })).journey.sender.address ≡ 10 ∷ 1 ∷ 0 ∷ 1 ∷ []
  pub stamped : (captured nowhere 1 (came 12 (Some 0) Delivered 7)).journey.time ≡ 12000
  pub unremarked : (captured nowhere 1 (came 12 (Some 0) Delivered 7)).comment ≡ []
  pub remarked : (captured nowhere 1 (came 12 None FromNoPartner 7)).comment ≡ codes "from no partner"
  -- an order that is renewed tells nothing new, and the lamp falls at the end of the last one, though no line is written then
  pub lamp : changes_from site (nodes.Signal 3) first_course ((2, codes "at 10") ∷ (3, codes "writes 1 at 10 show proceed until 50") ∷ (4, codes "at 40")
      ∷ (5, codes "writes 2 at 40 show proceed until 70") ∷ (6, codes "at 69") ∷ (7, codes "at 80") ∷ [])
      ≡ shows 3 10000 kind.Aspect (seen.Aspect (Some aspect.Proceed)) ∷ shows 7 70000 kind.Aspect (seen.Aspect (Some aspect.Stop)) ∷ []
  -- a motor that is told to stop
  pub motor : changes_from site (nodes.Point 3) first_course ((2, codes "at 10") ∷ (3, codes "writes 1 at 10 drive left until 50") ∷ (4, codes "at 40") ∷ (5, codes "writes 2 at 40 drive none") ∷ (6, codes "at 80") ∷ [])
      ≡ shows 3 10000 kind.Drive (seen.Drive (Some side.Left)) ∷ shows 5 40000 kind.Drive (seen.Drive None) ∷ []
  -- a detector gives no orders
  pub ordered_nothing : changes_from site (nodes.Detector 3) first_course ((2, codes "at 10") ∷ (3, codes "writes 1 at 10 show proceed until 50") ∷ []) ≡ []
  -- a command and its answer; what is known is no mark
  pub commands : marks_from site nodes.Interlocking 0 (record first_course { first = Some 10; reading = 10 }) ((3, codes "hears set R1") ∷ (4, codes "at 20") ∷ (5, codes "writes refused 5 R2") ∷ (6, codes "writes holding") ∷ (7, codes "writes route R1 free") ∷ [])
      ≡ said 3 10000 (codes "set R1") ∷ said 5 20000 (codes "refused 5 R2") ∷ said 6 20000 (codes "holding") ∷ []
