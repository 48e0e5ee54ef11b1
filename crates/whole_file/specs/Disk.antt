-- A place of a file on a disk, and what the calls leave of it.
use Rattle.std.specs.Prelude.{ℕ, Bool, true, false, List, Option, Some, None, if◌then◌else◌}

pub record DiskFile : Type 0 where
  pub bytes : List ℕ
  -- they outlive a cut of the power
  pub synced : Bool

pub record Disk : Type 0 where
  -- what stands under the new name
  pub fresh : Option DiskFile
  -- what stands under the own name, as programs find it
  pub own : Option DiskFile
  -- and what will stand there after a cut of the power
  pub durable : Option DiskFile

abbrev pub bytes_of : Option DiskFile → Option (List ℕ)
bytes_of None = None
bytes_of (Some file) = Some file.bytes

abbrev pub synced_file : Option DiskFile → Option DiskFile
synced_file None = None
synced_file (Some file) = Some (record file { synced = true })

-- ---- what a call leaves that was done

abbrev pub written : List ℕ → Disk → Disk
written bytes disk = record disk { fresh = Some (record { bytes = bytes; synced = false }) }

abbrev pub synced : Disk → Disk
synced disk = record disk { fresh = synced_file disk.fresh }

abbrev pub replaced : Disk → Disk
replaced disk = record disk { own = disk.fresh; fresh = None }

-- the own name leads after a cut of the power to what it leads to now
abbrev pub settled : Disk → Disk
settled disk = record disk { durable = disk.own }

-- ---- what a cut of the power leaves

-- A file that wasn't synced may have any bytes.
abbrev pub after_cut : List ℕ → Option DiskFile → Option DiskFile
after_cut any None = None
after_cut any (Some file) = Some (if file.synced then file else record { bytes = any; synced = true })

-- The new name may lead to anything.
abbrev pub cut : Option DiskFile → List ℕ → Disk → Disk
cut fresh any disk = record { fresh = fresh; own = after_cut any disk.durable; durable = after_cut any disk.durable }
