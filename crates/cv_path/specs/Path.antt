-- Paths within a layer, after the OCI image specification 1.1, layer.md: components with a slash between
-- two of them, and none at the two ends. Defined by this project: a path has at most 4,096 bytes, and no
-- component is empty, `.` or `..`, or has a NUL.
use Rattle.std.specs.Prelude.{◌≡◌, ⊤, ℕ, Bool, true, false, ◌&&◌, ◌==◌, nat_lt, if◌then◌else◌, not, List, [], ◌∷◌, ◌++◌, length, codes, Option, None, Some, Result, Ok, Err}
use Rattle.std.specs.Cmp.Lexicographic.{pointwise, slice_cmp}
use Rattle.std.specs.List.{join_with_byte, list_all, list_any, slice_split}
use Rattle.std.specs.Ordering.{nat_cmp}
use Rattle.std.specs.declared.cmp.Ordering.{Ordering}
use Rattle.cv_path.specs.Texts.{same}
use Rattle.cv_path.specs.declared.limits.TheConstants.{MAX_PATH_LEN}
use Rattle.cv_path.specs.declared.path.PathError.{PathError}
use Rattle.cv_path.specs.declared.path.PathError.TheVariants.{Empty, TooLong, BadComponent}

-- a path is the list of its components; that of the top is empty
abbrev pub Path : Type 0
Path = List (List ℕ)

-- whether two paths are the same
abbrev pub same_path : Path → Path → Bool
same_path = pointwise same

-- the byte between two components
abbrev pub is_slash : ℕ → Bool
is_slash byte = byte == 47

-- the components of a text
abbrev pub components : List ℕ → Path
components [] = []
components (byte ∷ bytes) = slice_split is_slash (byte ∷ bytes)

-- the texts without a NUL that are no component
abbrev pub is_special : List ℕ → Bool
is_special text = list_any (same text) ([] ∷ codes "." ∷ codes ".." ∷ [])

-- what may stand between two slashes
abbrev pub is_component : List ℕ → Bool
is_component text = not (is_special text) && not (list_any (λ b. b == 0) text)

-- how a text is read as a path: the empty text is refused first, and then one that is too long
abbrev pub path_of : List ℕ → Result Path PathError
path_of [] = Err Empty
path_of (b ∷ bs) =
    if nat_lt MAX_PATH_LEN (length (b ∷ bs)) then Err TooLong
    else (if list_all is_component (components (b ∷ bs)) then Ok (components (b ∷ bs)) else Err BadComponent)

-- the text of a path: its components with a slash between two of them
abbrev pub path_text : Path → List ℕ
path_text = join_with_byte 47

-- the lists of components that are a path: the top, and what is read from its own text
abbrev pub IsPath : Path → Type 0
IsPath [] = ⊤
IsPath (c ∷ cs) = path_of (path_text (c ∷ cs)) ≡ Ok (c ∷ cs)

-- the directory of a path: all components but the last one. That of the top is the top
abbrev pub parent_of : Path → Path
parent_of [] = []
parent_of (c ∷ []) = []
parent_of (c ∷ d ∷ ds) = c ∷ parent_of (d ∷ ds)

-- the name of a path in its directory: the last component. The top has none
abbrev pub file_name_of : Path → Option (List ℕ)
file_name_of [] = None
file_name_of (c ∷ []) = Some c
file_name_of (c ∷ d ∷ ds) = file_name_of (d ∷ ds)

-- what may be the name of an entry in a directory
abbrev pub is_name : List ℕ → Bool
is_name text = is_component text && not (list_any is_slash text)

-- the path with another name in the same directory
abbrev pub beside : Path → List ℕ → Result Path PathError
beside path name =
    if not (is_name name) then Err BadComponent
    else (if nat_lt MAX_PATH_LEN (length (path_text (parent_of path ++ name ∷ []))) then Err TooLong
    else Ok (parent_of path ++ name ∷ []))

-- a path is above another one if it is a proper prefix of it
abbrev pub is_above : Path → Path → Bool
is_above [] [] = false
is_above [] (y ∷ ys) = true
is_above (x ∷ xs) [] = false
is_above (x ∷ xs) (y ∷ ys) = same x y && is_above xs ys

-- paths are ordered by their first differing component, by bytes, a proper prefix first
abbrev pub path_cmp : Path → Path → Ordering
path_cmp = slice_cmp (slice_cmp nat_cmp)
