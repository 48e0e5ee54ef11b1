-- What a page is told once, by what is asked for it.
use Rattle.std.specs.Prelude.{ℕ, List}
use Rattle.serde_json.specs.Data.{Data}
use Rattle.panel_desk.specs.State.{about}
use Rattle.panel_desk.specs.declared.about.About.{About}
use Rattle.panel_desk.specs.declared.desk_opened.PageAsked.{PageAsked}

abbrev pub about_of : About → Data
about_of told = about told.kind.now told.layout.now told.name.now told.record.now told.plan.now told.token.now told.version.now

-- of a station with this name, where its page is given this token
abbrev pub told_once : PageAsked → (name token : List ℕ) → Data
told_once asked name token = about asked.kind.now asked.layout.now name asked.record.now asked.plan.now token asked.version.now
