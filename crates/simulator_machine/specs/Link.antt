-- A link of the interlocking, its client, with a controller, its server. All that is said of it is of the connection
-- that the client began last.
use Rattle.std.specs.Prelude.{◌≡◌, ◌≢◌}

-- where the client is: out of any connection while its quiet time runs, or after it; in a connection that isn't
-- answered yet, or that is
pub data Client : Type 0 where
  Quiet Down Start Up : Client

-- where the server is: it hasn't entered the connection, it is in it, or it has left it
pub data Server : Type 0 where
  Before In Gone : Server

pub record Link : Type 0 where
  pub client : Client
  pub server : Server

-- what can happen to a link
pub data LinkMove : Type 0 where
  -- the client begins a connection
  Opens : LinkMove
  -- the server enters it
  Enters : LinkMove
  -- the client has the server's answer
  ComesUp : LinkMove
  -- the client leaves it, or is made anew
  Closes : LinkMove
  -- the server leaves it, or is made anew
  Leaves : LinkMove
  -- the client's quiet time is over
  QuietEnds : LinkMove

-- When it can happen. A connection is begun after the quiet time, which outlasts every server in a connection, and what
-- was sent before it. The client is answered by a server that has entered.
abbrev pub LinkMay : LinkMove → Link → Type 0
LinkMay Opens link = link.client ≡ Down
LinkMay Enters link = (link.server ≡ Before) × (link.client ≢ Down)
LinkMay ComesUp link = link.server ≢ Before
LinkMay Closes link = Unit {0}
LinkMay Leaves link = Unit {0}
LinkMay QuietEnds link = link.server ≢ In

-- the link after it
abbrev pub link_after : LinkMove → Link → Link
link_after Opens link = record { client = Start; server = Before }
link_after Enters link = record link { server = In }
link_after ComesUp link = record link { client = Up }
link_after Closes link = record link { client = Quiet }
link_after Leaves link = record link { server = Gone }
link_after QuietEnds link = record link { client = Down }
