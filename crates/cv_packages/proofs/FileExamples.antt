-- What a package file has, computed.
use Rattle.std.specs.Prelude.{◌≡◌, ℕ, nat_lt, true, List, length, refl}
use Rattle.cv_base.specs.declared.limits.TheConstants.{PACKAGE_FILE_LIMIT}
use Rattle.cv_path.specs.declared.places.Place.{Place}
use Rattle.cv_base.specs.declared.tree.Content.TheVariants as content
use Rattle.cv_packages.specs.Found.{found_in}
use Rattle.cv_packages.specs.declared.found.Found.TheVariants as found

-- a file of more bytes than the limit is too large at each place
large_file : (place : Place) (bytes : List ℕ) → nat_lt PACKAGE_FILE_LIMIT (length bytes) ≡ true → found_in place (content.Bytes bytes) ≡ found.TooLarge
large_file place bytes h = rw h refl
