-- What is kept when an end leaves its connection or is made anew, and when one begins or comes up.
use Rattle.std.proofs.Common.{◌≡◌, ◌+◌, ◌≤◌, Bool, true, false, List, [], ◌++◌, refl, sym, ap, ◌∙◌, arith}
use Rattle.line_laws.specs.declared.words.Side.{Side}
use Rattle.line_laws.specs.declared.words.Side.TheVariants.{First, Second}
use Rattle.line_laws.specs.declared.words.Item.{Item}
use Rattle.line_laws.specs.declared.words.QueryOut.TheVariants.{No, Sound}
use Rattle.line_laws.specs.End.{End, unlinked}
use Rattle.line_laws.specs.Link.{Place, Before, Started, Up, Gone, is_up, is_gone, is_inside, place_left, coming_left}
use Rattle.line_laws.specs.Line.{Node}
use Rattle.line_laws.specs.Invariant.{number, how_many, is_give, is_query, is_clear, is_none, is_out, IsEndSound, IsPairSound, IsAway, IsNoneSound}
use Rattle.line_laws.proofs.Counting.{less_fewer, less_later, less_none, left_fewer, left_later, left_none}
use Rattle.line_laws.proofs.Steps.{NoneBy, IsLookSound}

-- an end that is out of its connection, with this end in it and these contacts
abbrev pub out_near : End → Bool → Node → Node
out_near end busy near = record near { end = end; busy = busy; place = place_left near.place; coming = coming_left near.place near.coming }

abbrev pub far_with : List Item → Node → Node
far_with coming far = record far { coming = coming }

-- what an end has when it left, or was made anew, of what it had before
pub record IsOut (Known : Type 0) (old new : End) (busy : Bool) : Type 0 where
  pub token : new.token ≡ old.token
  pub lock : new.lock ≡ old.lock
  pub nothing : new ≡ unlinked new
  pub empty_token : new.empty ≡ true → new.token ≡ true
  pub empty_free : new.empty ≡ true → busy ≡ false
  pub empty_known : new.empty ≡ true → Known

-- Out of the connection, an end has no query, and nothing was asked or told.
none_out : {Known : Type 0} {old new : End} {busy : Bool} (out : IsOut Known old new busy) → is_out new.query ≡ false
none_out out = ap (λ (end : End). is_out end.query) out.nothing

gone_left : (place : Place) (coming : List Item) → is_gone (place_left place) ≡ true → coming_left place coming ≡ []
gone_left Before coming gone = cc
gone_left Started coming gone = refl
gone_left Up coming gone = refl
gone_left Gone coming gone = refl

down_up : (place : Place) → is_up (place_left place) ≡ true → ⊥
down_up Before up = cc
down_up Started up = cc
down_up Up up = cc
down_up Gone up = cc

-- where it hasn't left, it hadn't entered
stays_before : (place : Place) → is_gone (place_left place) ≡ false → place ≡ Before
stays_before Before stays = refl
stays_before Started stays = cc
stays_before Up stays = cc
stays_before Gone stays = cc

pair_out : {Near Far : Type 0} {near far : Node} (pair : IsPairSound Near Far near far) (new : End) (busy : Bool) (coming lost : List Item) → far.coming ≡ coming ++ lost
    → IsOut Near near.end new busy
    → IsPairSound Near Far (out_near new busy near) (far_with coming far)
pair_out {Near} {Far} {near} {far} pair new busy coming lost less out = record {
  one_token = omega (arith, pair.one_token, ap number out.token, left_fewer is_give near.place near.coming, less_fewer is_give coming lost far.coming less);
  near_end = record {
    locked = λ lock. out.token ∙ pair.near_end.locked (sym out.lock ∙ lock);
    down = λ down. out.nothing;
    gone = gone_left near.place near.coming;
    token = λ query. absurd (unqueried query);
    free = λ query. absurd (unqueried query);
    answered = λ query. absurd (unqueried query);
    empty_token = out.empty_token;
    empty_free = out.empty_free;
    empty_known = out.empty_known;
  };
  far_end = record {
    locked = pair.far_end.locked;
    down = pair.far_end.down;
    gone = λ gone. less_none coming lost far.coming less (pair.far_end.gone gone);
    token = pair.far_end.token;
    free = pair.far_end.free;
    answered = λ query some. pair.far_end.answered query (omega (arith, some, less_fewer is_clear coming lost far.coming less));
    empty_token = pair.far_end.empty_token;
    empty_free = pair.far_end.empty_free;
    empty_known = pair.far_end.empty_known;
  };
  near_query = λ stays. near_query (stays_before near.place stays);
  far_query = λ stays.
      omega (arith, pair.far_query stays, ap number unanswered, left_fewer is_query near.place near.coming, less_fewer is_clear coming lost far.coming less);
}
  where
    unqueried : new.query ≡ Sound → ⊥
    unqueried query = let no : new.query ≡ No = ap (λ (end : End). end.query) out.nothing in cc (query, no)

    unanswered : new.queried ≡ false
    unanswered = ap (λ (end : End). end.queried) out.nothing

    near_query : near.place ≡ Before → how_many is_query coming + number far.end.queried + how_many is_clear (coming_left near.place near.coming) ≤ number (is_out new.query)
    near_query before =
        let none : number (is_out near.end.query) ≡ 0 = ap (λ (end : End). number (is_out end.query)) (pair.near_end.down (ap is_up before))
        in omega (arith, pair.near_query (ap is_gone before), none, left_fewer is_clear near.place near.coming, less_fewer is_query coming lost far.coming less)

none_out_by : {Known : Type 0} (side : Side) (near far : Node) (down : is_up near.place ≡ false → near.end ≡ unlinked near.end) (none : NoneBy side near far) (new : End) (busy : Bool)
    (coming lost : List Item) → far.coming ≡ coming ++ lost
    → IsOut Known near.end new busy
    → NoneBy side (out_near new busy near) (far_with coming far)
none_out_by First near far down none new busy coming lost less out = record {
  silent = λ stays unsaid.
      let old = none.silent stays unsaid
      in record {
        nothing = left_none near.place near.coming old.nothing;
        unasked = ap (λ (end : End). end.asked) out.nothing;
        going = omega (arith, old.going, less_fewer is_give coming lost far.coming less);
      };
  first_said = omega (arith, none.first_said, left_later is_none near.place near.coming);
  unasked = λ some. ap (λ (end : End). end.asked) out.nothing;
  coming = λ some.
      let old = none.coming (omega (arith, some, left_fewer is_none near.place near.coming))
      in record {
        token = old.token;
        coming = omega (arith, old.coming, left_fewer is_give near.place near.coming);
        going = omega (arith, old.going, less_fewer is_give coming lost far.coming less);
      };
  told = λ is. let untold : new.none_told ≡ false = ap (λ (end : End). end.none_told) out.nothing in absurd (cc (is, untold));
}
none_out_by Second near far down none new busy coming lost less out = record {
  silent = λ stays unsaid.
      let before = stays_before near.place stays
      in let old = none.silent (ap is_gone before) (ap (λ (end : End). end.none_said) (down (ap is_up before)))
      in record {
        nothing = less_none coming lost far.coming less old.nothing;
        unasked = old.unasked;
        going = omega (arith, old.going, left_fewer is_give near.place near.coming);
      };
  first_said = omega (arith, none.first_said, less_later is_none coming lost far.coming less);
  unasked = λ some. none.unasked (omega (arith, some, less_fewer is_none coming lost far.coming less));
  coming = λ some. away (none.coming (omega (arith, some, less_fewer is_none coming lost far.coming less)));
  told = λ is. away (none.told is);
}
  where
    away : IsAway far near → IsAway (far_with coming far) (out_near new busy near)
    away old = record {
      token = out.token ∙ old.token;
      coming = omega (arith, old.coming, less_fewer is_give coming lost far.coming less);
      going = omega (arith, old.going, left_fewer is_give near.place near.coming);
    }

-- An end leaves or is made anew, and of what it gave last some may be lost.
pub gone_out : {Near Far : Type 0} (side : Side) {near far : Node} (sound : IsLookSound Near Far side near far) (new : End) (busy : Bool) (coming lost : List Item)
    → far.coming ≡ coming ++ lost
    → IsOut Near near.end new busy
    → IsLookSound Near Far side (out_near new busy near) (far_with coming far)
gone_out side {near} {far} sound new busy coming lost less out = record {
  pair = pair_out sound.pair new busy coming lost less out;
  none = none_out_by side near far sound.pair.near_end.down sound.none new busy coming lost less out;
}

-- ---- a connection begins

inside_down : (place : Place) → is_inside place ≡ false → is_up place ≡ false
inside_down Before out = refl
inside_down Started out = cc
inside_down Up out = cc
inside_down Gone out = refl

gone_down : (place : Place) → is_gone place ≡ true → is_up place ≡ false
gone_down Before gone = refl
gone_down Started gone = refl
gone_down Up gone = cc
gone_down Gone gone = refl

-- a node that isn't up enters at this place, where nothing comes yet
entered_end : {Known : Type 0} {node : Node} (sound : IsEndSound Known node) (place : Place) → is_up node.place ≡ false
    → IsEndSound Known (record node { place = place; coming = [] })
entered_end sound place down = record {
  locked = sound.locked;
  down = λ none. sound.down down;
  gone = λ gone. refl;
  token = sound.token;
  free = sound.free;
  answered = λ query some. absurd (omega (arith, some));
  empty_token = sound.empty_token;
  empty_free = sound.empty_free;
  empty_known = sound.empty_known;
}

pub opened_kept : {Near Far : Type 0} {first second : Node} (pair : IsPairSound Near Far first second) (none : IsNoneSound first second) → is_gone first.place ≡ true
    → is_inside second.place ≡ false
    → IsLookSound Near Far First (record first { place = Started; coming = [] }) (record second { place = Before; coming = [] })
opened_kept {Near} {Far} {first} {second} pair none gone outside =
    let first_down = gone_down first.place gone
    in let second_down = inside_down second.place outside
    in let first_out = pair.near_end.down first_down
    in let second_out = pair.far_end.down second_down
    in record {
      pair = record {
        one_token = omega (arith, pair.one_token);
        near_end = entered_end pair.near_end Started first_down;
        far_end = entered_end pair.far_end Before second_down;
        near_query = λ stays. omega (arith, ap (λ (end : End). number end.queried) second_out);
        far_query = λ stays. omega (arith, ap (λ (end : End). number end.queried) first_out);
      };
      none = record {
        silent = λ stays unsaid. record { nothing = refl; unasked = ap (λ (end : End). end.asked) first_out; going = refl };
        first_said = refl;
        unasked = λ some. absurd (omega (arith, some));
        coming = λ some. absurd (omega (arith, some));
        told = λ is. let untold : first.end.none_told ≡ false = ap (λ (end : End). end.none_told) first_out in absurd (cc (is, untold));
      };
    }

-- ---- a node comes to another place in the same connection

placed_end : {Known : Type 0} {node : Node} (sound : IsEndSound Known node) (place : Place) → is_gone place ≡ is_gone node.place
    → (is_up place ≡ false → is_up node.place ≡ false)
    → IsEndSound Known (record node { place = place })
placed_end sound place same down = record {
  locked = sound.locked;
  down = λ none. sound.down (down none);
  gone = λ gone. sound.gone (sym same ∙ gone);
  token = sound.token;
  free = sound.free;
  answered = sound.answered;
  empty_token = sound.empty_token;
  empty_free = sound.empty_free;
  empty_known = sound.empty_known;
}

placed_none : (side : Side) (near far : Node) (none : NoneBy side near far) (place : Place) → is_gone place ≡ is_gone near.place
    → NoneBy side (record near { place = place }) far
placed_none First near far none place same = record {
  silent = λ stays unsaid. let old = none.silent stays unsaid in record { nothing = old.nothing; unasked = old.unasked; going = old.going };
  first_said = none.first_said;
  unasked = none.unasked;
  coming = λ some. let old = none.coming some in record { token = old.token; coming = old.coming; going = old.going };
  told = λ is. let old = none.told is in record { token = old.token; coming = old.coming; going = old.going };
}
placed_none Second near far none place same = record {
  silent = λ stays unsaid. let old = none.silent (sym same ∙ stays) unsaid in record { nothing = old.nothing; unasked = old.unasked; going = old.going };
  first_said = none.first_said;
  unasked = none.unasked;
  coming = λ some. let old = none.coming some in record { token = old.token; coming = old.coming; going = old.going };
  told = λ is. let old = none.told is in record { token = old.token; coming = old.coming; going = old.going };
}

pub placed_kept : {Near Far : Type 0} (side : Side) {near far : Node} (sound : IsLookSound Near Far side near far) (place : Place) → is_gone place ≡ is_gone near.place
    → (is_up place ≡ false → is_up near.place ≡ false)
    → IsLookSound Near Far side (record near { place = place }) far
placed_kept side {near} {far} sound place same down = record {
  pair = record {
    one_token = sound.pair.one_token;
    near_end = placed_end sound.pair.near_end place same down;
    far_end = sound.pair.far_end;
    near_query = λ stays. sound.pair.near_query (sym same ∙ stays);
    far_query = sound.pair.far_query;
  };
  none = placed_none side near far sound.none place same;
}
