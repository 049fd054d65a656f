-- The definitions, computed on examples.
use Rattle.std.proofs.Common.{◌≡◌, [], refl, codes, None, Some}
use Rattle.serde_json.specs.Data.{null, number, unsigned, string, array, no_items, object, member, no_members}
use Rattle.std.specs.Str.{is_utf8, chars}
use Rattle.serde_json.proofs.OnLiterals.{serde_json_on_literals}
use Rattle.cv_npm.specs.Npm.{npm, package_in}

-- both members are texts
read : package_in (object (member (codes "name") (string (codes "x")) (member (codes "version") (string (codes "1.0.0")) no_members)))
    ≡ Some (record { name = codes "x"; version = codes "1.0.0" })
read = refl

-- no object, a member that is absent, an empty one, and one that is no text
no_package : (package_in (array no_items) ≡ None) × (package_in (object (member (codes "version") (string (codes "1")) no_members)) ≡ None)
    × (package_in (object (member (codes "name") (string (codes "x")) no_members)) ≡ None)
    × (package_in (object (member (codes "name") (string []) (member (codes "version") (string (codes "1")) no_members))) ≡ None)
    × (package_in (object (member (codes "name") (string (codes "x")) (member (codes "version") (string []) no_members))) ≡ None)
    × (package_in (object (member (codes "name") null (member (codes "version") (string (codes "1")) no_members))) ≡ None)
    × (package_in (object (member (codes "name") (string (codes "x")) (member (codes "version") (number (unsigned 1)) no_members))) ≡ None)
no_package = (refl, refl, refl, refl, refl, refl, refl)

-- a whole file
file : npm (codes "{\"name\":\"x\",\"version\":\"1.0.0\"}") ≡ Some (record { name = codes "x"; version = codes "1.0.0" })
unfolding serde_json_on_literals is_utf8 chars
file = refl
