-- Which parts of a source are joined into one, and where each of them has to stand. docs/FORMATS.md, "Folder of a watch".
use Rattle.std.specs.Prelude.{◌≡◌, ◌<◌, ◌≤◌, ◌+◌, ℕ, List, [], get_or, length, slice_range}
use Rattle.std.specs.List.{All, sum_by}
use Rattle.watch_state.specs.Digests.{digest_then}
use Rattle.watch_state.specs.declared.name.PartFile.{PartFile}
use Rattle.watch_state.specs.declared.name.PartName.{PartName}
use Rattle.watch_state.specs.declared.seam.Seam.{Seam}

-- how many parts are joined
abbrev pub joined : ℕ
joined = 8

-- how many bytes the file of a part has at most
abbrev pub most_of_a_part : ℕ
most_of_a_part = 67108864

-- those that are joined where the join begins at this one
abbrev pub run_at : List PartFile → ℕ → List PartFile
run_at parts i = slice_range parts i (i + joined)

-- how many bytes they have together
abbrev pub bytes_of : List PartFile → ℕ
bytes_of run = sum_by (λ (p : PartFile). p.bytes) run

abbrev pub no_part : PartFile
no_part = record { name = record { replica = 0; source = 0; log = 0; place = 0; front = [] }; bytes = 0 }

-- the log of the part that stands there
abbrev pub log_at : List PartFile → ℕ → ℕ
log_at parts i = (get_or parts i no_part).name.log

-- so many parts stand there, all of one log, and one file may have their bytes
pub record IsRun (parts : List PartFile) (i : ℕ) : Type 0 where
  pub there : i + joined ≤ length parts
  pub one_log : All (λ (p : PartFile). p.name.log ≡ log_at parts i) (run_at parts i)
  pub fits : bytes_of (run_at parts i) ≤ most_of_a_part

-- the first of those with the fewest bytes
pub record IsShortestRun (parts : List PartFile) (i : ℕ) : Type 0 where
  pub run : IsRun parts i
  pub least : (k : ℕ) → IsRun parts k → bytes_of (run_at parts i) ≤ bytes_of (run_at parts k)
  pub first : (k : ℕ) → k < i → IsRun parts k → bytes_of (run_at parts i) < bytes_of (run_at parts k)

-- the parts of a source, and those that go since their frames stand in others
pub record Kept : Type 0 where
  pub parts : List PartFile
  pub leftovers : List PartFile

-- in front of this part
abbrev pub seam_before : PartName → Seam
seam_before p = record { log = p.log; place = p.place; front = p.front }

-- behind one frame more, of this digest
abbrev pub seam_then : Seam → List ℕ → Seam
seam_then s d = record { log = s.log; place = s.place + 1; front = digest_then s.front d }
