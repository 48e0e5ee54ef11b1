-- An end of a line: what it keeps, and what it sees.
use Rattle.std.specs.Prelude.{Bool, false, Option}
use Rattle.line_laws.specs.declared.words.Position.{Position}
use Rattle.line_laws.specs.declared.words.QueryOut.{QueryOut}
use Rattle.line_laws.specs.declared.words.QueryOut.TheVariants.{No}

-- What is kept over a restart, in a file: whether the line's token is here, and where the lock lies.
pub record File : Type 0 where
  pub token : Bool
  pub lock : Position

pub record End : Type 0 where
  -- as in the file
  pub token : Bool
  pub lock : Position
  -- the line is known to be empty
  pub empty : Bool
  -- its own query
  pub query : QueryOut
  -- the partner's Ask, its Query is unanswered
  pub asked : Bool
  pub queried : Bool
  -- its own Ask is unanswered
  pub asking : Bool
  -- the first end was told, the second has said, that the second had no token as the connection began
  pub none_told : Bool
  pub none_said : Bool

-- What an end sees when it looks.
pub record Seen : Type 0 where
  -- a contact of its part of the line is occupied
  pub busy : Bool
  -- how its station drives the lock
  pub drive : Option Position
  -- its operator asks for the line
  pub wish : Bool

abbrev pub file_of : End → File
file_of end = record { token = end.token; lock = end.lock }

-- made anew from its file
abbrev pub made_anew : File → End
made_anew file =
    record { token = file.token; lock = file.lock; empty = false; query = No; asked = false; queried = false; asking = false; none_told = false; none_said = false }

-- out of any connection: nothing is asked, queried or told in it
abbrev pub unlinked : End → End
unlinked end = record end { query = No; asked = false; queried = false; asking = false; none_told = false; none_said = false }
