-- The grammar and the order, computed on examples.
use Rattle.std.proofs.Common.{◌≡◌, true, false, [], ◌∷◌, Some, refl, codes}
use Rattle.std.specs.declared.cmp.Ordering.TheVariants.{Less, Equal, Greater}
use Rattle.cv_apkver.specs.Grammar.{Written, text_of}
use Rattle.cv_apkver.specs.Order.{key_of, version_cmp}
use Rattle.cv_apkver.specs.Parts.{is_version}

-- a version with all its parts, and its text
abbrev whole : Written
whole = record {
  first = codes "1";
  more = codes "20" ∷ codes "3" ∷ [];
  letter = Some 100;
  suffixes = record { word = codes "beta"; digits = codes "2" } ∷ record { word = codes "p"; digits = [] } ∷ [];
  build = Some (codes "4");
}

written : text_of whole ≡ codes "1.20.3d_beta2_p-r4"
written = refl

-- its key, read from the text: 100 is `d`, 1 and 9 are the ranks of `beta` and `p`
parts : key_of (codes "1.20.3d_beta2_p-r4") ≡ record {
  numbers = codes "1" ∷ codes "20" ∷ codes "3" ∷ [];
  letter = Some 100;
  suffixes = record { rank = 1; number = codes "2" } ∷ record { rank = 9; number = [] } ∷ [];
  build = codes "4";
}
parts = refl

-- each is less than the next
ascending : (version_cmp (codes "1.2_rc1") (codes "1.2") ≡ Less) × (version_cmp (codes "1.2") (codes "1.2_p1") ≡ Less)
    × (version_cmp (codes "1.2_p1") (codes "1.2a") ≡ Less) × (version_cmp (codes "1.2a") (codes "1.2.0") ≡ Less)
    × (version_cmp (codes "1.2.0") (codes "1.2.0-r1") ≡ Less)
ascending = (refl, refl, refl, refl, refl)

-- what is absent counts as 0, and so do leading zeros
equal : (version_cmp (codes "1.02_rc-r0") (codes "01.2_rc0") ≡ Equal) × (version_cmp (codes "1.2.0") (codes "1.2") ≡ Greater)
equal = (refl, refl)

-- numbers past 64 bits
long : version_cmp (codes "1.18446744073709551616") (codes "1.9") ≡ Greater
long = refl

-- versions
versions : (is_version (codes "0") ≡ true) × (is_version (codes "1.20.3d_beta2_p-r4") ≡ true) × (is_version (codes "1_git20240101-r0") ≡ true)
versions = (refl, refl, refl)

-- texts that are none
others : (is_version (codes "1.2~ab") ≡ false) × (is_version [] ≡ false) × (is_version (codes "1..2") ≡ false) × (is_version (codes "1.2ab") ≡ false)
    × (is_version (codes "1_foo") ≡ false) × (is_version (codes "1-1") ≡ false) × (is_version (codes "1-r") ≡ false) × (is_version (codes "1a.2") ≡ false)
others = (refl, refl, refl, refl, refl, refl, refl, refl)
