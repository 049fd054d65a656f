-- Layers of hostile sizes that their digests spell (defined by this project, for tests). A digest's byte 0 is a role, bytes 1 to 4
-- are a number, the most significant byte first, and bytes 5 to 31 are 0. Every other digest has no layer.
use Rattle.std.specs.Prelude.{ℕ, ◌+◌, ◌/◌, ◌%◌, ◌==◌, ◌&&◌, nat_le, if◌then◌else◌, slice_index, List, [], ◌∷◌, ◌++◌, drop, map, codes, Option, Some, None}
use Rattle.std.specs.List.{list_all, range_with_len, repeat}
use Rattle.cv_desk.specs.Stored.{Stored}
use Rattle.cv_desk_drill.specs.Generated.{directory, file, number_of, status_file}

-- a number below 100,000,000 in eight digits
abbrev pub eight_digits : ℕ → List ℕ
eight_digits n =
    (48 + n / 10000000 % 10) ∷ (48 + n / 1000000 % 10) ∷ (48 + n / 100000 % 10) ∷ (48 + n / 10000 % 10)
    ∷ (48 + n / 1000 % 10) ∷ (48 + n / 100 % 10) ∷ (48 + n / 10 % 10) ∷ (48 + n % 10) ∷ []

-- the name of a file, by its number
abbrev pub file_name : ℕ → List ℕ
file_name n = codes "f" ++ eight_digits n

abbrev pub empty_file : ℕ → Stored
empty_file n = file (file_name n) []

-- this number of empty files, which are numbered from 0
abbrev pub empty_files : ℕ → List Stored
empty_files s = map empty_file (range_with_len 0 s)

-- the path of a directory `d` with this number of directories above it, all of this name
abbrev pub nested_text : ℕ → List ℕ
nested_text depth = repeat depth (codes "d/") ++ codes "d"

abbrev pub nested_directory : ℕ → Stored
nested_directory depth = directory (nested_text depth)

-- this number of directories, each in the one before
abbrev pub nested_directories : ℕ → List Stored
nested_directories s = map nested_directory (range_with_len 0 s)

-- a dpkg status of this number of line feeds
abbrev pub line_feeds : ℕ → List Stored
line_feeds s = status_file (repeat s (10 ∷ []))

-- the tree of a role and a number
abbrev pub hostile_tree : ℕ → ℕ → Option (List Stored)
hostile_tree role s =
    if role == 4 && nat_le s 1000001 then Some (empty_files s)
    else (if role == 5 && nat_le s 2048 then Some (nested_directories s)
    else (if role == 6 && nat_le s 33554433 then Some (line_feeds s) else None))

-- the tree of a digest
abbrev pub hostile : List ℕ → Option (List Stored)
hostile digest =
    if list_all (λ byte. byte == 0) (drop 5 digest)
    then hostile_tree (slice_index digest 0) (number_of (slice_index digest 1) (slice_index digest 2) (slice_index digest 3) (slice_index digest 4))
    else None
