-- A byte of a name, as the code adds it to the normalized name.
use Rattle.std.specs.Prelude.{ℕ, ◌&&◌, if◌then◌else◌, List, [], ◌∷◌}
use Rattle.cv_pypi.specs.Name.{begins_with_separator, is_separator, normal_byte}

-- what a byte adds in front of these: nothing where its run of separators goes on
abbrev pub added : ℕ → List ℕ → List ℕ
added x xs = if is_separator x && begins_with_separator xs then [] else normal_byte x ∷ []
