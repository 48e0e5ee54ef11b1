-- What every move of a line keeps, and what its promises follow from.
use Rattle.std.specs.Prelude.{◌≡◌, ◌+◌, ◌≤◌, ℕ, Bool, true, false, not, List, [], ◌∷◌}
use Rattle.line_laws.specs.declared.words.Position.TheVariants.{Right}
use Rattle.line_laws.specs.declared.words.Item.{Item}
use Rattle.line_laws.specs.declared.words.Item.TheVariants.{Ask, Give, Query, Clear, NoToken}
use Rattle.line_laws.specs.declared.words.QueryOut.{QueryOut}
use Rattle.line_laws.specs.declared.words.QueryOut.TheVariants.{Sound}
use Rattle.line_laws.specs.End.{file_of, unlinked}
use Rattle.line_laws.specs.Step.{is_no}
use Rattle.line_laws.specs.Link.{is_up, is_gone}
use Rattle.line_laws.specs.Line.{Node, Line}

-- ---- counting

abbrev pub number : Bool → ℕ
number false = 0
number true = 1

abbrev pub how_many : (Item → Bool) → List Item → ℕ
how_many is [] = 0
how_many is (item ∷ items) = number (is item) + how_many is items

abbrev pub is_give : Item → Bool
is_give Ask = false
is_give Give = true
is_give Query = false
is_give Clear = false
is_give NoToken = false

abbrev pub is_query : Item → Bool
is_query Ask = false
is_query Give = false
is_query Query = true
is_query Clear = false
is_query NoToken = false

abbrev pub is_clear : Item → Bool
is_clear Ask = false
is_clear Give = false
is_clear Query = false
is_clear Clear = true
is_clear NoToken = false

abbrev pub is_none : Item → Bool
is_none Ask = false
is_none Give = false
is_none Query = false
is_none Clear = false
is_none NoToken = true

-- the Gives that a node may still take, and so on
abbrev pub gives : Node → ℕ
gives node = how_many is_give node.coming

abbrev pub queries : Node → ℕ
queries node = how_many is_query node.coming

abbrev pub clears : Node → ℕ
clears node = how_many is_clear node.coming

abbrev pub nones : Node → ℕ
nones node = how_many is_none node.coming

-- all items but the next
abbrev pub later : List Item → List Item
later [] = []
later (item ∷ items) = items

abbrev pub is_out : QueryOut → Bool
is_out query = not (is_no query)

-- ---- an end

-- An end by itself, where Known says that the line was clear at a moment since which this end has had the token, and no
-- contact of its own was occupied.
pub record IsEndSound (Known : Type 0) (node : Node) : Type 0 where
  -- the lock lies at the right only where the token is
  pub locked : node.end.lock ≡ Right → node.end.token ≡ true
  -- where its link isn't up, nothing is asked, queried or told
  pub down : is_up node.place ≡ false → node.end ≡ unlinked node.end
  -- where it has left, it may take nothing
  pub gone : is_gone node.place ≡ true → node.coming ≡ []
  -- a sound query: the token is here, and the own part is free
  pub token : node.end.query ≡ Sound → node.end.token ≡ true
  pub free : node.end.query ≡ Sound → node.busy ≡ false
  -- when its answer comes, the line was clear
  pub answered : node.end.query ≡ Sound → 1 ≤ clears node → Known
  -- so it was where it is known to be empty
  pub empty_token : node.end.empty ≡ true → node.end.token ≡ true
  pub empty_free : node.end.empty ≡ true → node.busy ≡ false
  pub empty_known : node.end.empty ≡ true → Known

-- ---- two ends

-- Tokens: at most one, counting those on the way that may still be taken.
abbrev pub OneToken : Node → Node → Type 0
OneToken near far = number near.end.token + number far.end.token + (gives near + gives far) ≤ 1

-- Queries: of the near end, which hasn't left, at most one is on the way, unanswered or answered, and none where none
-- is out.
abbrev pub OneQuery : Node → Node → Type 0
OneQuery near far = is_gone near.place ≡ false → queries far + number far.end.queried + clears near ≤ number (is_out near.end.query)

pub record IsPairSound (Near Far : Type 0) (near far : Node) : Type 0 where
  pub one_token : OneToken near far
  pub near_end : IsEndSound Near near
  pub far_end : IsEndSound Far far
  pub near_query : OneQuery near far
  pub far_query : OneQuery far near

-- the token isn't at the second end, and not on the way
pub record IsAway (first second : Node) : Type 0 where
  pub token : second.end.token ≡ false
  pub coming : gives first ≡ 0
  pub going : gives second ≡ 0

-- the second end has given nothing in this connection, and no token is on the way to it
pub record IsSilent (first second : Node) : Type 0 where
  pub nothing : first.coming ≡ []
  pub unasked : first.end.asked ≡ false
  pub going : gives second ≡ 0

-- What it means that the second end says that it has no token.
pub record IsNoneSound (first second : Node) : Type 0 where
  -- where it hasn't spoken, and hasn't left
  pub silent : is_gone second.place ≡ false → second.end.none_said ≡ false → IsSilent first second
  -- it is the first that it says
  pub first_said : how_many is_none (later first.coming) ≡ 0
  -- until it is taken, nothing was asked
  pub unasked : 1 ≤ nones first → first.end.asked ≡ false
  pub coming : 1 ≤ nones first → IsAway first second
  -- where it was taken, and no token given since
  pub told : first.end.none_told ≡ true → IsAway first second

-- ---- a line

pub record IsLineSound (First Second : Type 0) (line : Line) : Type 0 where
  pub ends : IsPairSound First Second line.first line.second
  pub none : IsNoneSound line.first line.second
  -- each file is what its end has
  pub first_file : line.first.file ≡ file_of line.first.end
  pub second_file : line.second.file ≡ file_of line.second.end
