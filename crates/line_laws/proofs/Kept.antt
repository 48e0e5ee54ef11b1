-- What every move of a line keeps, and what follows from it.
use Rattle.std.proofs.Common.{◌≡◌, ℕ, zero, suc, true, false, List, [], ◌∷◌, take, drop, refl, sym, ap, subst, arith}
use Rattle.std.proofs.lemmas.List.{append-nil, take-append-drop}
use Rattle.std.specs.Prelude.{map}
use Rattle.line_laws.specs.declared.words.Side.{Side}
use Rattle.line_laws.specs.declared.words.Side.TheVariants.{First, Second}
use Rattle.line_laws.specs.declared.words.Item.{Item}
use Rattle.line_laws.specs.End.{File, Seen, file_of, made_anew, unlinked}
use Rattle.line_laws.specs.Step.{StepSoFar, step}
use Rattle.line_laws.specs.Link.{Place, Before, Started, Up, Gone, is_up, is_gone, place_left, coming_left, coming_more, coming_taken, coming_rest}
use Rattle.line_laws.specs.Line.{Node, Gives, effects, file_after, items_given, Outcome, Whole, Refused, Cut, right_rules, left, with_coming, stepped, looked_so, looked, after}
use Rattle.line_laws.specs.Invariant.{IsEndSound, IsPairSound}
use Rattle.line_laws.proofs.Counting.{given_less, nothing_given}
use Rattle.line_laws.proofs.Steps.{NoneBy, IsLookSound, stepped_near, stepped_up, stepped_down}
use Rattle.line_laws.proofs.Out.{out_near, IsOut, gone_out}

-- ---- effects

all_given : (items : List Item) → items_given (map Gives items) ≡ items
all_given [] = refl
all_given (item ∷ items) = ap (λ (list : List Item). item ∷ list) (all_given items)

first_given : (count : ℕ) (items : List Item) → items_given (take count (map Gives items)) ≡ take count items
first_given zero items = refl
first_given (suc count) [] = refl
first_given (suc count) (item ∷ items) = ap (λ (list : List Item). item ∷ list) (first_given count items)

file_stays : (items : List Item) (file : File) → file_after (map Gives items) file ≡ file
file_stays [] file = refl
file_stays (item ∷ items) file = file_stays items file

file_stays_first : (count : ℕ) (items : List Item) (file : File) → file_after (take count (map Gives items)) file ≡ file
file_stays_first zero items file = refl
file_stays_first (suc count) [] file = refl
file_stays_first (suc count) (item ∷ items) file = file_stays_first count items file

-- ---- what isn't read

refiled_none : (side : Side) (near far : Node) (none : NoneBy side near far) (file : File) → NoneBy side (record near { file = file }) far
refiled_none First near far none file = record {
  silent = λ stays unsaid. let old = none.silent stays unsaid in record { nothing = old.nothing; unasked = old.unasked; going = old.going };
  first_said = none.first_said;
  unasked = none.unasked;
  coming = λ some. let old = none.coming some in record { token = old.token; coming = old.coming; going = old.going };
  told = λ is. let old = none.told is in record { token = old.token; coming = old.coming; going = old.going };
}
refiled_none Second near far none file = record {
  silent = λ stays unsaid. let old = none.silent stays unsaid in record { nothing = old.nothing; unasked = old.unasked; going = old.going };
  first_said = none.first_said;
  unasked = none.unasked;
  coming = λ some. let old = none.coming some in record { token = old.token; coming = old.coming; going = old.going };
  told = λ is. let old = none.told is in record { token = old.token; coming = old.coming; going = old.going };
}

-- the file of the near end
refiled : {Near Far : Type 0} (side : Side) {near far : Node} (sound : IsLookSound Near Far side near far) (file : File)
    → IsLookSound Near Far side (record near { file = file }) far
refiled side {near} {far} sound file = record {
  pair = record {
    one_token = sound.pair.one_token;
    near_end = record {
      locked = sound.pair.near_end.locked;
      down = sound.pair.near_end.down;
      gone = sound.pair.near_end.gone;
      token = sound.pair.near_end.token;
      free = sound.pair.near_end.free;
      answered = sound.pair.near_end.answered;
      empty_token = sound.pair.near_end.empty_token;
      empty_free = sound.pair.near_end.empty_free;
      empty_known = sound.pair.near_end.empty_known;
    };
    far_end = sound.pair.far_end;
    near_query = sound.pair.near_query;
    far_query = sound.pair.far_query;
  };
  none = refiled_none side near far sound.none file;
}

-- ---- what is known

known_end : {Known New : Type 0} {node : Node} (sound : IsEndSound Known node) → (node.end.token ≡ true → node.busy ≡ false → Known → New) → IsEndSound New node
known_end sound known = record {
  locked = sound.locked;
  down = sound.down;
  gone = sound.gone;
  token = sound.token;
  free = sound.free;
  answered = λ query some. known (sound.token query) (sound.free query) (sound.answered query some);
  empty_token = sound.empty_token;
  empty_free = sound.empty_free;
  empty_known = λ empty. known (sound.empty_token empty) (sound.empty_free empty) (sound.empty_known empty);
}

pub known_pair : {Near Far NewNear NewFar : Type 0} {near far : Node} (pair : IsPairSound Near Far near far)
    → (near.end.token ≡ true → near.busy ≡ false → Near → NewNear)
    → (far.end.token ≡ true → far.busy ≡ false → Far → NewFar)
    → IsPairSound NewNear NewFar near far
known_pair pair near_known far_known = record {
  one_token = pair.one_token;
  near_end = known_end pair.near_end near_known;
  far_end = known_end pair.far_end far_known;
  near_query = pair.near_query;
  far_query = pair.far_query;
}

pub turned : {Near Far : Type 0} {near far : Node} (pair : IsPairSound Near Far near far) → IsPairSound Far Near far near
turned pair = record {
  one_token = omega (arith, pair.one_token);
  near_end = pair.far_end;
  far_end = pair.near_end;
  near_query = pair.far_query;
  far_query = pair.near_query;
}

-- ---- a look

stepped_any : {Near Far : Type 0} (side : Side) (near far : Node) (sound : IsLookSound Near Far side near far) (seen : Seen) (count : ℕ)
    → (seen.busy ≡ false → far.busy ≡ false → Far) → (place : Place) → near.place ≡ place
    → IsLookSound Near Far side (stepped_near seen (coming_rest place count near.coming) (step side (is_up place) seen (coming_taken place count near.coming) near.end) near)
    (with_coming (step side (is_up place) seen (coming_taken place count near.coming) near.end).given far)
stepped_any side near far sound seen count known Before is = stepped_down side near far sound seen (ap is_up is)
stepped_any side near far sound seen count known Started is = stepped_down side near far sound seen (ap is_up is)
stepped_any side near far sound seen count known Up is =
    stepped_up side near far sound seen (ap is_up is) (ap is_gone is) known (take count near.coming) (drop count near.coming) (sym (take-append-drop count near.coming))
stepped_any side near far sound seen count known Gone is = stepped_down side near far sound seen (ap is_up is)

rest_left : (place : Place) (count : ℕ) (coming : List Item) → coming_left place coming ≡ coming_left place (coming_rest place count coming)
rest_left Before count coming = refl
rest_left Started count coming = refl
rest_left Up count coming = refl
rest_left Gone count coming = refl

-- what comes of it, where this is the step
outcome_kept : {Near Far : Type 0} (side : Side) (near far : Node) (sound : IsLookSound Near Far side near far) (seen : Seen) (count : ℕ) (so_far : StepSoFar)
    → IsLookSound Near Far side (stepped_near seen (coming_rest near.place count near.coming) so_far near) (with_coming so_far.given far)
    → near.file ≡ file_of near.end
    → (outcome : Outcome)
    → IsLookSound Near Far side (looked_so right_rules seen count outcome so_far near far).near (looked_so right_rules seen count outcome so_far near far).far
outcome_kept {Near} {Far} side near far sound seen count so_far after file Whole =
    subst
    (λ (items : List Item).
    IsLookSound Near Far side (stepped seen count so_far.end (effects (file_of so_far.end) so_far.given) near) (with_coming items far))
    (sym (all_given so_far.given)) (refiled side after (file_after (effects (file_of so_far.end) so_far.given) near.file))
outcome_kept {Near} {Far} side near far sound seen count so_far after file (Refused items) =
    let less = given_less far.place items so_far.given far.coming
    in let out : IsOut Near so_far.end (unlinked so_far.end) seen.busy =
    record {
      token = refl;
      lock = refl;
      nothing = refl;
      empty_token = after.pair.near_end.empty_token;
      empty_free = after.pair.near_end.empty_free;
      empty_known = after.pair.near_end.empty_known;
    }
    in subst
    (λ (all : List Item).
    IsLookSound Near Far side (left (stepped seen count so_far.end (effects (file_of so_far.end) so_far.given) near)) (with_coming (take items all) far))
    (sym (all_given so_far.given))
    (refiled side (gone_out side after (unlinked so_far.end) seen.busy (coming_more far.place (take items so_far.given) far.coming) less.0 less.1 out)
    (file_after (effects (file_of so_far.end) so_far.given) near.file))
outcome_kept {Near} {Far} side near far sound seen count so_far after file (Cut zero) =
    let out : IsOut Near near.end (made_anew near.file) seen.busy =
    record {
      token = ap (λ (file : File). file.token) file;
      lock = ap (λ (file : File). file.lock) file;
      nothing = refl;
      empty_token = λ empty. absurd (cc (empty));
      empty_free = λ empty. absurd (cc (empty));
      empty_known = λ empty. absurd (cc (empty));
    }
    in let gone : IsLookSound Near Far side (out_near (made_anew near.file) seen.busy near) far =
    gone_out side sound (made_anew near.file) seen.busy far.coming [] (sym (append-nil far.coming)) out
    in let rest : IsLookSound Near Far side (record (out_near (made_anew near.file) seen.busy near) { coming = coming_left near.place (coming_rest near.place count near.coming) }) far =
    subst (λ (coming : List Item). IsLookSound Near Far side (record (out_near (made_anew near.file) seen.busy near) { coming = coming }) far)
    (rest_left near.place count near.coming) gone
    in subst
    (λ (node : Node).
    IsLookSound Near Far side (record (out_near (made_anew near.file) seen.busy near) { coming = coming_left near.place (coming_rest near.place count near.coming) }) node)
    (sym (nothing_given far)) rest
outcome_kept {Near} {Far} side near far sound seen count so_far after file (Cut (suc done)) =
    let less = given_less far.place done so_far.given far.coming
    in let out : IsOut Near so_far.end (made_anew (file_of so_far.end)) seen.busy =
    record {
      token = refl;
      lock = refl;
      nothing = refl;
      empty_token = λ empty. absurd (cc (empty));
      empty_free = λ empty. absurd (cc (empty));
      empty_known = λ empty. absurd (cc (empty));
    }
    in let gone : IsLookSound Near Far side (anew (file_of so_far.end)) (with_coming (take done so_far.given) far) =
    refiled side (gone_out side after (made_anew (file_of so_far.end)) seen.busy (coming_more far.place (take done so_far.given) far.coming) less.0 less.1 out)
    (file_of so_far.end)
    in let filed : IsLookSound Near Far side (anew (file_after (take done (map Gives so_far.given)) (file_of so_far.end))) (with_coming (take done so_far.given) far) =
    subst (λ (file : File). IsLookSound Near Far side (anew file) (with_coming (take done so_far.given) far))
    (sym (file_stays_first done so_far.given (file_of so_far.end))) gone
    in subst (λ (items : List Item). IsLookSound Near Far side (anew (file_after (take done (map Gives so_far.given)) (file_of so_far.end))) (with_coming items far))
    (sym (first_given done so_far.given)) filed
  where
    -- the near end made anew from this file
    anew : File → Node
    anew file = record {
      end = made_anew file;
      file = file;
      busy = seen.busy;
      place = place_left near.place;
      coming = coming_left near.place (coming_rest near.place count near.coming);
    }

pub looked_kept : {Near Far : Type 0} (side : Side) (near far : Node) (sound : IsLookSound Near Far side near far) (seen : Seen) (count : ℕ)
    → (seen.busy ≡ false → far.busy ≡ false → Far) → near.file ≡ file_of near.end → (outcome : Outcome)
    → IsLookSound Near Far side (looked right_rules side seen count outcome near far).near (looked right_rules side seen count outcome near far).far
looked_kept side near far sound seen count known file outcome =
    outcome_kept side near far sound seen count (step side (is_up near.place) seen (coming_taken near.place count near.coming) near.end)
    (stepped_any side near far sound seen count known near.place refl) file outcome

-- the files, and the contacts
pub near_filed : (seen : Seen) (count : ℕ) (so_far : StepSoFar) (near far : Node) (outcome : Outcome)
    → (looked_so right_rules seen count outcome so_far near far).near.file ≡ file_of (looked_so right_rules seen count outcome so_far near far).near.end
near_filed seen count so_far near far Whole = file_stays so_far.given (file_of so_far.end)
near_filed seen count so_far near far (Refused items) = file_stays so_far.given (file_of so_far.end)
near_filed seen count so_far near far (Cut effects) = refl

pub far_filed : (seen : Seen) (count : ℕ) (so_far : StepSoFar) (near far : Node) (outcome : Outcome) → far.file ≡ file_of far.end
    → (looked_so right_rules seen count outcome so_far near far).far.file ≡ file_of (looked_so right_rules seen count outcome so_far near far).far.end
far_filed seen count so_far near far Whole file = file
far_filed seen count so_far near far (Refused items) file = file
far_filed seen count so_far near far (Cut effects) file = file

pub near_contacts : (seen : Seen) (count : ℕ) (so_far : StepSoFar) (near far : Node) (outcome : Outcome) → (looked_so right_rules seen count outcome so_far near far).near.busy ≡ seen.busy
near_contacts seen count so_far near far Whole = refl
near_contacts seen count so_far near far (Refused items) = refl
near_contacts seen count so_far near far (Cut effects) = refl

pub far_contacts : (seen : Seen) (count : ℕ) (so_far : StepSoFar) (near far : Node) (outcome : Outcome) → (looked_so right_rules seen count outcome so_far near far).far.busy ≡ far.busy
far_contacts seen count so_far near far Whole = refl
far_contacts seen count so_far near far (Refused items) = refl
far_contacts seen count so_far near far (Cut effects) = refl
