-- The grammar and the order, computed on examples.
use Rattle.std.proofs.Common.{◌≡◌, true, false, [], ◌∷◌, Some, None, refl, codes}
use Rattle.std.specs.List.{list_all, list_any}
use Rattle.std.specs.declared.cmp.Ordering.TheVariants.{Less, Equal, Greater}
use Rattle.cv_pep440.specs.Grammar.{Bare, Written, text_of}
use Rattle.cv_pep440.specs.Key.{key_of}
use Rattle.cv_pep440.specs.Order.{version_cmp, without_last_zeros}
use Rattle.cv_pep440.specs.Parts.{is_version}

-- a version with all its parts, and its text: 86 is `V`, 45 `-`, 46 `.` and 95 `_`
abbrev whole : Written
whole = record {
  mark = Some 86;
  epoch = Some (codes "1");
  first = codes "2";
  more = codes "0" ∷ codes "10" ∷ [];
  pre = Some (record { separator = Some 45; word = codes "Beta"; number = Some (record { separator = Some 46; digits = codes "3" }) });
  post = Some (Bare (codes "4"));
  dev = Some (record { separator = None; word = codes "DEV"; number = None });
  local = Some (record { first = codes "Ab"; more = record { separator = 95; run = codes "5" } ∷ [] });
}

written : text_of whole ≡ codes "V1!2.0.10-Beta.3-4DEV+Ab_5"
written = refl

-- its key, read from the text: 2 is the rank of `beta`
parts : key_of (codes "V1!2.0.10-Beta.3-4DEV+Ab_5") ≡ record {
  epoch = codes "1";
  release = codes "2" ∷ codes "0" ∷ codes "10" ∷ [];
  pre = record { rank = 2; number = codes "3" };
  post = Some (codes "4");
  dev = Some [];
  local = Some (codes "Ab" ∷ codes "5" ∷ []);
}
parts = refl

-- each is less than the next
ascending : (version_cmp (codes "1.0.dev1") (codes "1.0a1") ≡ Less) × (version_cmp (codes "1.0a1") (codes "1.0a1.post1") ≡ Less)
    × (version_cmp (codes "1.0a1.post1") (codes "1.0rc1") ≡ Less) × (version_cmp (codes "1.0rc1") (codes "1.0") ≡ Less)
    × (version_cmp (codes "1.0") (codes "1.0+abc") ≡ Less) × (version_cmp (codes "1.0+abc") (codes "1.0+5") ≡ Less)
    × (version_cmp (codes "1.0+5") (codes "1.0.post1") ≡ Less) × (version_cmp (codes "1.0.post1") (codes "1!0") ≡ Less)
ascending = (refl, refl, refl, refl, refl, refl, refl, refl)

-- written otherwise, and equal
equal : (version_cmp (codes "1.0") (codes "1.0.0") ≡ Equal) × (version_cmp (codes "1.0-1") (codes "1.0.post1") ≡ Equal)
    × (version_cmp (codes "v1.0c1") (codes "1.0RC1") ≡ Equal) × (version_cmp (codes "1.0alpha") (codes "1.0a0") ≡ Equal)
    × (version_cmp (codes "1.0+a-01") (codes "1.0+A.1") ≡ Equal)
equal = (refl, refl, refl, refl, refl)

-- a number after the word of a pre-release is its own: one after a hyphen is a post-release only if there is one before it
hyphens : (version_cmp (codes "1.0a-1") (codes "1.0a1") ≡ Equal) × (version_cmp (codes "1.0a1-1") (codes "1.0a1.post1") ≡ Equal)
    × ((key_of (codes "1.0a-1")).post ≡ None) × ((key_of (codes "1.0a1-1")).post ≡ Some (codes "1"))
hyphens = (refl, refl, refl, refl)

-- a post-release of a pre-release, and a development release of each
suffixes : (version_cmp (codes "1.0a1.post1.dev1") (codes "1.0a1") ≡ Greater) × (version_cmp (codes "1.0a1.dev1") (codes "1.0a1") ≡ Less)
    × (version_cmp (codes "1.0.post1.dev1") (codes "1.0.post1") ≡ Less) × (version_cmp (codes "1.0.post0.dev1") (codes "1.0") ≡ Greater)
    × (version_cmp (codes "1.0.post") (codes "1.0.post0") ≡ Equal) × (version_cmp (codes "1.0dev") (codes "1.0.dev0") ≡ Equal)
suffixes = (refl, refl, refl, refl, refl, refl)

-- an absent epoch is 0, and an epoch comes before all else
epochs : (version_cmp (codes "0!1.0") (codes "1.0") ≡ Equal) × (version_cmp (codes "2!1") (codes "10!0") ≡ Less) × (version_cmp (codes "1!1.dev0") (codes "9") ≡ Greater)
epochs = (refl, refl, refl)

-- local versions run by run: one that goes on is greater, and a run with a letter is one of letters
locals : (version_cmp (codes "1.0+1") (codes "1.0+1.0") ≡ Less) × (version_cmp (codes "1.0+9") (codes "1.0+10") ≡ Less) × (version_cmp (codes "1.0+0a") (codes "1.0+A") ≡ Less)
    × (version_cmp (codes "1.0+9z.1") (codes "1.0+0") ≡ Less) × (version_cmp (codes "1.0a1+x") (codes "1.0a1") ≡ Greater)
locals = (refl, refl, refl, refl, refl)

-- zeros at the end of a release do not count, and a release that goes on is greater
releases : (without_last_zeros (codes "1" ∷ codes "0" ∷ codes "00" ∷ []) ≡ codes "1" ∷ []) × (version_cmp (codes "1.0.1") (codes "1") ≡ Greater)
releases = (refl, refl)

-- numbers past 64 bits
long : version_cmp (codes "1.18446744073709551616") (codes "1.9") ≡ Greater
long = refl

-- versions
versions : list_all is_version
    (codes "0" ∷ codes "1.0.dev1" ∷ codes "1.0a1" ∷ codes "1.0a1.post1" ∷ codes "1.0rc1" ∷ codes "1.0" ∷ codes "1.0+abc" ∷ codes "1.0+5" ∷ codes "1.0.post1" ∷ codes "1!0"
    ∷ codes "1.0.0" ∷ codes "1.0-1" ∷ codes "v1.0c1" ∷ codes "1.0RC1" ∷ codes "1.0a-1" ∷ codes "1.0a1-1" ∷ codes "1.0_preview.3" ∷ codes "1.0arev2dev" ∷ codes "1.0a.dev1"
    ∷ codes "V1!2.0.10-Beta.3-4DEV+Ab_5" ∷ []) ≡ true
versions = refl

-- texts that are none
others : list_any is_version
    ([] ∷ codes "v" ∷ codes "!1" ∷ codes "1!" ∷ codes " 1.0" ∷ codes "1.0 " ∷ codes "1." ∷ codes "1.0a. 1" ∷ codes "1.0a." ∷ codes "1.0foo" ∷ codes "1.0ab1" ∷ codes "1.0.post1a1"
    ∷ codes "1.0-1-1" ∷ codes "1.0-" ∷ codes "1.0+" ∷ codes "1.0+a." ∷ codes "1.0+a..b" ∷ codes "1.0+a+b" ∷ []) ≡ false
others = refl
