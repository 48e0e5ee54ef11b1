-- What two ends of a line have said and heard in their last connections.
use Rattle.std.proofs.Common.{◌≡◌, ◌∙◌, ◌++◌, ℕ, List, [], ◌∷◌, ap, map, refl, subst, sym}
use Rattle.std.proofs.lemmas.List.{append_assoc, map-append}
use Rattle.line_host.specs.Host.{role_of}
use Rattle.line_host.specs.Talk.{TalkState}
use Rattle.line_laws.specs.declared.words.Item.{Item}
use Rattle.line_laws.specs.declared.words.Side.{Side}
use Rattle.line_laws.specs.declared.words.Side.TheVariants.{First, Second}
use Rattle.line_telegram.specs.LineMessages.{writing}
use Rattle.line_telegram.specs.declared.greeting.Stage.{Stage}
use Rattle.line_telegram.specs.declared.greeting.Stage.TheVariants.{Agreed, AwaitsAnswer, AwaitsCheck}
use Rattle.line_telegram.specs.declared.message.LineMessage.{LineMessage}
use Rattle.line_telegram.specs.declared.message.LineMessage.TheVariants.{Line}
use Rattle.line_world.specs.Names.{link_names, named, other}
use Rattle.line_world.specs.declared.names.LineNames.{LineNames}
use Rattle.rasta_core.specs.Ends.{EndState}
use Rattle.rasta_core.specs.Names.{partner_of}
use Rattle.rasta_core.specs.Run.{Ends, end_of}
use Rattle.line_world.proofs.AtEnds.{AreEnds, HasMade}
use Rattle.line_world.proofs.Hears.{greeting_of}

-- ---- one end

-- what an end has said in its last connection, and heard
pub record Talked : Type 0 where
  pub said : List LineMessage
  pub heard : List LineMessage

abbrev pub nothing_said : Talked
nothing_said = record { said = []; heard = [] }

-- its greeting, and then items
abbrev pub begun_with : Side → List Item → List LineMessage
begun_with side items = greeting_of side ∷ map Line items

-- it has said nothing, or so it has begun
pub data IsSaid (side : Side) (said : List LineMessage) : Type 0 where
  nothing : said ≡ [] → IsSaid side said
  begins : (items : List Item) → said ≡ begun_with side items → IsSaid side said

-- how far an end whose link is up is tells its stage
pub data IsAtStage (side : Side) (stage : Stage) (talked : Talked) : Type 0 where
  awaits_check : side ≡ Second → stage ≡ AwaitsCheck → talked.said ≡ [] → talked.heard ≡ [] → IsAtStage side stage talked
  awaits_answer : side ≡ First → stage ≡ AwaitsAnswer → talked.said ≡ begun_with side [] → talked.heard ≡ [] → IsAtStage side stage talked
  has_agreed : stage ≡ Agreed → (said heard : List Item) → talked.said ≡ begun_with side said → talked.heard ≡ begun_with (other side) heard → IsAtStage side stage talked

-- as the end at a side writes them
abbrev pub writer : LineNames → Side → LineMessage → List ℕ
writer names side message = writing (named side names).name (named (other side) names).name message

abbrev pub texts : LineNames → Side → List LineMessage → List (List ℕ)
texts names side messages = map (writer names side) messages

-- an end of the link has given and taken these
pub record IsTalked (names : LineNames) (side : Side) (mine : EndState) (talked : Talked) : Type 0 where
  pub given : mine.given ≡ texts names side talked.said
  pub taken : mine.taken ≡ texts names (other side) talked.heard

-- ---- both

-- what was heard is a beginning of what was said
pub record Follows (said heard : List LineMessage) : Type 0 where
  pub rest : List LineMessage
  pub is : said ≡ heard ++ rest

-- the last connection of both is the same
abbrev pub AreSame : Ends → Type 0
AreSame ends = ends.server.connection ≡ ends.client.connection

abbrev pub near_end : Side → Ends → EndState
near_end side ends = end_of (role_of side) ends

abbrev pub far_end : Side → Ends → EndState
far_end side ends = end_of (role_of (other side)) ends

pub record AreLinked (names : LineNames) (side : Side) (ends : Ends) (own far : Talked) : Type 0 where
  pub are : AreEnds (link_names names) ends
  pub own_talks : IsTalked names side (near_end side ends) own
  pub far_talks : IsTalked names (other side) (far_end side ends) far
  pub own_shape : IsSaid side own.said
  pub far_shape : IsSaid (other side) far.said
  pub there : AreSame ends → Follows own.said far.heard
  pub back : AreSame ends → Follows far.said own.heard

pub from_there : {names : LineNames} {ends : Ends} {own far : Talked} → (side : Side) → AreLinked names side ends own far → AreLinked names (other side) ends far own
from_there First linked = record {
  are = linked.are;
  own_talks = linked.far_talks;
  far_talks = linked.own_talks;
  own_shape = linked.far_shape;
  far_shape = linked.own_shape;
  there = linked.back;
  back = linked.there;
}
from_there Second linked = record {
  are = linked.are;
  own_talks = linked.far_talks;
  far_talks = linked.own_talks;
  own_shape = linked.far_shape;
  far_shape = linked.own_shape;
  there = linked.back;
  back = linked.there;
}

-- ---- an end, by its side

pub far_is : (side : Side) (ends : Ends) → end_of (partner_of (role_of side)) ends ≡ far_end side ends
far_is First ends = refl
far_is Second ends = refl

-- where one end has the connection that it had, and the other stayed
pub same_before : (side : Side) (old new : Ends) → (near_end side new).connection ≡ (near_end side old).connection → far_end side new ≡ far_end side old → AreSame new → AreSame old
same_before First old new own far same = sym (ap (λ (e : EndState). e.connection) far) ∙ (same ∙ own)
same_before Second old new own far same = sym own ∙ (same ∙ ap (λ (e : EndState). e.connection) far)

pub same_after : (side : Side) (old new : Ends) → (near_end side new).connection ≡ (near_end side old).connection → far_end side new ≡ far_end side old → AreSame old → AreSame new
same_after First old new own far same = ap (λ (e : EndState). e.connection) far ∙ (same ∙ sym own)
same_after Second old new own far same = own ∙ (same ∙ sym (ap (λ (e : EndState). e.connection) far))

-- ---- more is said

pub follows_more : (said more heard : List LineMessage) → Follows said heard → Follows (said ++ more) heard
follows_more said more heard follows = record {
  rest = follows.rest ++ more;
  is = ap (λ (list : List LineMessage). list ++ more) follows.is ∙ append_assoc heard follows.rest more;
}

abbrev pub saying_more : List LineMessage → Talked → Talked
saying_more more talked = record talked { said = talked.said ++ more }

-- an end has made this of its talk, whose names are its names
pub linked_on : (names : LineNames) (side : Side) (old new : Ends) (own far : Talked) (talk next : TalkState) (more : List LineMessage) → AreLinked names side old own far
    → HasMade (link_names names) (role_of side) old new talk next more → talk.own_name ≡ (named side names).name → talk.peer_name ≡ (named (other side) names).name
    → IsSaid side (own.said ++ more) → AreLinked names side new (saying_more more own) far
linked_on names side old new own far talk next more linked made own_name peer_name shape =
    let far_same : far_end side new ≡ far_end side old = sym (far_is side new) ∙ (made.partner ∙ far_is side old)
    in let written : map (writing talk.own_name talk.peer_name) more ≡ texts names side more =
    ap (λ (name : List ℕ). map (writing name talk.peer_name) more) own_name ∙ ap (λ (name : List ℕ). map (writing (named side names).name name) more) peer_name
    in record {
      are = made.ends;
      own_talks = record {
        given =
            made.given
            ∙ (ap (λ (list : List (List ℕ)). list ++ map (writing talk.own_name talk.peer_name) more) linked.own_talks.given
            ∙ (ap (λ (list : List (List ℕ)). texts names side own.said ++ list) written
            ∙ sym (map-append (writer names side) own.said more)));
        taken = made.taken ∙ linked.own_talks.taken;
      };
      far_talks = subst (λ (e : EndState). IsTalked names (other side) e far) (sym far_same) linked.far_talks;
      own_shape = shape;
      far_shape = linked.far_shape;
      there = λ same. follows_more own.said more far.heard (linked.there (same_before side old new made.connection far_same same));
      back = λ same. linked.back (same_before side old new made.connection far_same same);
    }
