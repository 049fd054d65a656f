-- Examples of the definitions.
use Rattle.std.proofs.Common.{◌≡◌, ℕ, List, refl}
use Rattle.std.specs.Prelude.{[], ◌∷◌, codes, length, Some, None}
use Rattle.std.specs.Option.{option_map}
use Rattle.cv_base.specs.Path.{components}
use Rattle.cv_desk_drill.specs.Hostile.{file_name, hostile_tree, nested_text}

-- the names of files sort as their numbers do
first_file : file_name 0 ≡ codes "f00000000"
first_file = refl

last_file : file_name 1000000 ≡ codes "f01000000"
last_file = refl

-- the third directory lies in the second, and that in the first
third_directory : components (nested_text 2) ≡ codes "d" ∷ codes "d" ∷ codes "d" ∷ []
third_directory = refl

-- how many entries there are
three_files : option_map length (hostile_tree 4 3) ≡ Some 3
three_files = refl

two_directories : option_map length (hostile_tree 5 2) ≡ Some 2
two_directories = refl

-- a number above the most has no layer
too_many : hostile_tree 4 1000002 ≡ None
too_many = refl

too_deep : hostile_tree 5 2049 ≡ None
too_deep = refl

too_large : hostile_tree 6 33554434 ≡ None
too_large = refl

of_a_drill : hostile_tree 3 1 ≡ None
of_a_drill = refl
