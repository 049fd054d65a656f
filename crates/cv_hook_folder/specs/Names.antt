-- The names of files by which notifications are handed over (defined by this project).
use Rattle.std.specs.Prelude.{ℕ, List, ◌++◌, codes, decimal}

-- the file of the notification of a number
abbrev pub file_name : ℕ → List ℕ
file_name number = codes "hook/" ++ decimal number ++ codes ".json"
