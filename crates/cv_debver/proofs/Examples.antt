-- The definitions, computed on examples: those of Debian Policy 5.6.12 and of the archive.
use Rattle.std.proofs.Common.{◌≡◌, true, false, [], ◌∷◌, refl, codes}
use Rattle.std.specs.declared.cmp.Ordering.TheVariants.{Less, Equal, Greater}
use Rattle.cv_debver.specs.Grammar.{is_version}
use Rattle.cv_debver.specs.Parts.{of, pairs, part_cmp}
use Rattle.cv_debver.specs.Version.{version_of, version_cmp}

-- which texts are versions
versions : (is_version (codes "1:1.2.13.dfsg-1") ≡ true) × (is_version (codes "2.0~rc1-1~bpo12+1") ≡ true) × (is_version (codes "0") ≡ true)
versions = (refl, refl, refl)

others : (is_version (codes "a:1") ≡ false) × (is_version (codes "1:1:1") ≡ false) × (is_version (codes "1.0-") ≡ false) × (is_version (codes "1:") ≡ false) × (is_version [] ≡ false)
others = (refl, refl, refl, refl, refl)

-- a text is cut into its parts at the first colon and the last hyphen, and an absent part is `0`
whole : version_of (codes "1:2-3-4") ≡ record { epoch = codes "1"; upstream = codes "2-3"; revision = codes "4" }
whole = refl

bare : version_of (codes "1.0") ≡ record { epoch = codes "0"; upstream = codes "1.0"; revision = codes "0" }
bare = refl

-- a part is cut into words and digits, of which the first word may be empty, and the last digits
cut : pairs (codes "1.a+22b") ≡ of [] (codes "1") ∷ of (codes ".a+") (codes "22") ∷ of (codes "b") [] ∷ []
cut = refl

-- a tilde is less than the end: Policy's own row, `~~`, `~~a`, `~`, the empty part, `a`
tildes : (part_cmp (codes "~~") (codes "~~a") ≡ Less) × (part_cmp (codes "~~a") (codes "~") ≡ Less) × (part_cmp (codes "~") [] ≡ Less) × (part_cmp [] (codes "a") ≡ Less)
tildes = (refl, refl, refl, refl)

candidate : version_cmp (codes "1.0~rc1") (codes "1.0") ≡ Less
candidate = refl

-- an absent revision is `0`, and a build after the revision is more
revisions : (version_cmp (codes "1.0") (codes "1.0-0") ≡ Equal) × (version_cmp (codes "1.0-1") (codes "1.0-1+b1") ≡ Less)
revisions = (refl, refl)

-- an epoch comes before all else
epochs : (version_cmp (codes "1:0") (codes "9") ≡ Greater) × (version_cmp (codes "0:9") (codes "9") ≡ Equal)
epochs = (refl, refl)

-- letters are less than other bytes
letters : version_cmp (codes "1.0a") (codes "1.0+") ≡ Less
letters = refl

-- digits are numbers of any length, and leading zeros do not count
numbers : (version_cmp (codes "1.9") (codes "1.10") ≡ Less) × (version_cmp (codes "1.007") (codes "1.7") ≡ Equal)
numbers = (refl, refl)

long : version_cmp (codes "100000000000000000000000000001") (codes "100000000000000000000000000000") ≡ Greater
long = refl
