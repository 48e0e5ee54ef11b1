-- Over which files a desk writes.
use Rattle.std.specs.Prelude.{◌≡◌, ℕ, Bool, List, [], ◌∷◌, codes, Option, Some}
use Rattle.std.specs.Fmt.{decimal}
use Rattle.draw_desk.specs.Answers.{DeskView}
use Rattle.draw_desk.specs.Asked.{ComesFromThePage, Says}
use Rattle.draw_desk.specs.Calls.{Call, Reads, Writes, recorded}
use Rattle.draw_desk.specs.Seen.{AccessView, SentView}
use Rattle.draw_desk.specs.declared.known.Known.{Known}

-- What was found may be written over: the page says the number of the text that was read or written last, and this is what was found; or
-- it says that it writes over anything.
pub data MayBeLost (known : Known) (said found : Option (List ℕ)) : Type 0 where
  is_known : Says said (decimal known.number) → known.text ≡ found → MayBeLost known said found
  is_asked : Says said (codes "anything") → MayBeLost known said found

-- The calls of the file for one request: none; one look; or a look, and a write over what may be lost, of the text that the desk's own
-- page posted with its token.
pub data WritesOverKnown (access : AccessView) (known : Known) (sent : SentView) : List Call → Type 0 where
  nothing : WritesOverKnown access known sent []
  looks : (found : Option (Option (List ℕ))) → WritesOverKnown access known sent (Reads found ∷ [])
  writes : (found : Option (List ℕ)) → (done : Bool) → MayBeLost known sent.known found → ComesFromThePage access sent
      → WritesOverKnown access known sent (Reads (Some found) ∷ Writes sent.body done ∷ [])

-- what is told of calls once these were made, too
abbrev pub grown : List Call → Option (List Call) → Option (List Call)
grown [] calls = calls
grown (call ∷ more) calls = grown more (recorded call calls)

-- A request led from one state of the desk to another: these calls were made for it.
pub record MadeCalls (sent : SentView) (old new : DeskView) : Type 0 where
  pub calls : List Call
  pub made : new.calls ≡ grown calls old.calls
  pub rightly : WritesOverKnown old.access old.known sent calls
