-- What is wrong with a route, in words.
use Rattle.std.specs.Prelude.{ℕ, List, ◌++◌, codes}
use Rattle.control_table.specs.Sides.{other}
use Rattle.control_table.specs.sci_telegram.Words.{side_word}
use Rattle.station_layout.specs.PortWords.{port_words}
use Rattle.station_layout.specs.declared.detail.PathDetail.{PathDetail}
use Rattle.station_layout.specs.declared.detail.PathDetail.TheVariants.{Empty, DeadEnd, Astray, Twice, ComesBack, OpenLeg, FlankLacks, EndsElsewhere, EndsAtEntry, InTheWay}
use Rattle.station_layout.specs.declared.detail.PointDetail.{PointDetail}
use Rattle.station_layout.specs.declared.detail.PointDetail.TheVariants.{BothSides, FlankAt, OffPath, OnPath, PointAt}

-- the words for what is wrong with a path, after those that it is the path of its route
unfoldable pub path_words : PathDetail → List ℕ
path_words Empty = codes "is empty"
path_words (DeadEnd port) = codes "breaks at " ++ (port_words port ++ codes ": nothing is joined to it")
path_words (Astray before entered left) =
    codes "breaks at " ++ (port_words before ++ (codes ": it is joined to " ++ (port_words entered ++ (codes ", from where no train leaves by " ++ port_words left))))
path_words (Twice name) = codes "leads over " ++ (name ++ codes " twice")
path_words (ComesBack section) = codes "comes back to section " ++ (section ++ codes ", which it left")
path_words (OpenLeg leg from) =
    codes "doesn't use " ++ (port_words leg ++ (codes ", which is open: no signal stands at " ++ (port_words from ++ codes ", to which it is joined")))
path_words (FlankLacks leg from s) =
    codes "doesn't use " ++ (port_words leg ++ (codes ", which is joined to " ++ (port_words from ++ (codes ": point "
    ++ (from.element ++ (codes " has to be written " ++ (side_word s ++ codes " under `flank`")))))))
path_words (EndsElsewhere port exit) = codes "ends at " ++ (port_words port ++ (codes ", where its exit " ++ (exit ++ codes " isn't")))
path_words (EndsAtEntry entry) = codes "has its entry signal " ++ (entry ++ codes " for its exit")
path_words (InTheWay name port) = codes "passes " ++ (port_words port ++ (codes ", where signal " ++ (name ++ codes " stands in the way")))

-- the words for what is wrong with the points of a route, after the route
unfoldable pub point_words : PointDetail → List ℕ
point_words (OffPath name) = codes "writes point " ++ (name ++ codes " under `points`, and its path doesn't lead over it")
point_words (PointAt name s) =
    codes "writes point " ++ (name ++ (codes " " ++ (side_word s ++ (codes " under `points`, and requires it " ++ side_word (other s)))))
point_words (OnPath name) = codes "writes point " ++ (name ++ codes " under `flank`, and its path leads over it")
point_words (FlankAt name s) = codes "writes point " ++ (name ++ (codes " " ++ (side_word s ++ codes " under `flank`, and doesn't require it so")))
point_words (BothSides name) = codes "requires point " ++ (name ++ codes " at both sides")
