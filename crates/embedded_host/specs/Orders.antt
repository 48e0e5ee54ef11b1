-- What the equipment follows: the orders that were put in force.
use Rattle.std.specs.Prelude.{◌≡◌, ◌||◌, if◌then◌else◌, Bool, true, false, List, [], ◌∷◌, ◌++◌}
use Rattle.object_host.specs.Behaviour.{Behaviour}
use Rattle.embedded_host.specs.Embedded.{EmbeddedState}
use Rattle.embedded_host.specs.Calls.{Call, Done, after_call}
use Rattle.embedded_host.specs.Inputs.{host_after, inputs_by}

abbrev pub is_done : Call → Bool
is_done Done = true
is_done _ = false

-- whether an order is put in force by one of these
abbrev pub has_done : List Call → Bool
has_done [] = false
has_done (first ∷ others) = is_done first || has_done others

-- The calls up to the last `done`. What came by them counts: of a later step no order is in force, and nothing has left.
abbrev pub up_to_done : List Call → List Call
up_to_done [] = []
up_to_done (first ∷ others) = if has_done (first ∷ others) then first ∷ up_to_done others else []

module _ {Object : Type 0} where
  -- the object whose order the equipment follows: with `done` the present one, and else the one that it followed
  abbrev pub followed_by : Bool → Object → Object → Object
  followed_by true present followed = present
  followed_by false present followed = followed

  unfoldable pub followed_after : Behaviour Object → List Call → EmbeddedState Object → Object → Object
  followed_after does [] it followed = followed
  followed_after does (first ∷ others) it followed =
      let new = after_call does first it
      in followed_after does others new (followed_by (is_done first) new.hosted.host.object followed)

  -- What the equipment follows is the order of a controller to which came what came up to the last `done`. Since then no order was
  -- put in force, so nothing left of a step that was made since.
  pub record FollowsABeginning (does : Behaviour Object) (it : EmbeddedState Object) (calls : List Call) (followed : Object) : Type 0 where
    pub earlier : List Call
    pub later : List Call
    pub calls_are : calls ≡ earlier ++ later
    pub followed_is : followed ≡ (host_after does (inputs_by does earlier it) it.hosted.host).object
    pub none_since : has_done later ≡ false
