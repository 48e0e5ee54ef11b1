-- Where the layouts of a railway are.
use Rattle.std.specs.Prelude.{ℕ, List, []}
use Rattle.std.specs.Option.{unwrap_or}
use Rattle.std.specs.Path.{path_join, path_parent}

-- the folder of a file; it is empty where the file is named without one
abbrev pub folder_of : List ℕ → List ℕ
folder_of file = unwrap_or (path_parent file) []

-- The file of a layout, by the file of the railway and what the railway's text says. A path that begins with a slash stands for
-- itself, and another one is meant from the railway's folder.
abbrev pub layout_file : List ℕ → List ℕ → List ℕ
layout_file railway layout = path_join (folder_of railway) layout
