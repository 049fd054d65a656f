-- Component lists, computed.
use Rattle.std.specs.Prelude.{◌≡◌, ℕ, List, [], ◌∷◌, ◌++◌, codes, replicate, Some, None, Ok, Err, refl}
use Rattle.std.specs.Fmt.{digits}
use Rattle.std.specs.Str.{chars, is_utf8}
use Rattle.hex.specs.Hex.{encode_with}
use Rattle.serde_json.proofs.OnLiterals.{serde_json_on_literals}
use Rattle.serde_json.specs.Data.{Data, array, item, member, no_items, no_members, null, object, string}
use Rattle.cv_base.specs.declared.package.Package.{Package}
use Rattle.cv_base.specs.declared.package.PackageKind.TheVariants.{Deb}
use Rattle.cv_sbom.specs.Component.{package_in, texts_of}
use Rattle.cv_sbom.specs.ListRead.{image_in, list_in, list_read, list_with}
use Rattle.cv_sbom.specs.ListText.{component_data, list_text, property_data}
use Rattle.cv_sbom.specs.Member.{property}
use Rattle.cv_sbom.specs.declared.error.ListFault.TheVariants.{BadJson, BadList}
use Rattle.cv_sbom.specs.declared.error.ListWhat.TheVariants.{NotObject, BadFormat, BadComponents}

-- a package of Debian, whose architecture is not known
abbrev libssl : Package
libssl = record {
  kind = Deb;
  path = codes "var" ∷ codes "lib" ∷ codes "dpkg" ∷ codes "status" ∷ [];
  name = codes "libssl3";
  version = codes "3.0.9-1+b1";
  source = codes "openssl";
  source_version = codes "3.0.9-1";
  arch = [];
  ecosystem = codes "Debian:12";
}

-- its list for an image
written :
    list_text (replicate 32 17) (libssl ∷ [])
    ≡ codes "{\"bomFormat\":\"CycloneDX\",\"components\":[{\"name\":\"libssl3\",\"properties\":["
    ++ codes "{\"name\":\"cvwatch:arch\",\"value\":\"\"},{\"name\":\"cvwatch:ecosystem\",\"value\":\"Debian:12\"},"
    ++ codes "{\"name\":\"cvwatch:kind\",\"value\":\"deb\"},{\"name\":\"cvwatch:path\",\"value\":\"var/lib/dpkg/status\"},"
    ++ codes "{\"name\":\"cvwatch:source\",\"value\":\"openssl\"},{\"name\":\"cvwatch:source_version\",\"value\":\"3.0.9-1\"}],"
    ++ codes "\"type\":\"library\",\"version\":\"3.0.9-1+b1\"}],\"metadata\":{\"component\":{\"name\":\"sha256:"
    ++ replicate 64 49
    ++ codes "\",\"type\":\"container\"}},\"specVersion\":\"1.5\",\"version\":1}"
unfolding list_text serde_json_on_literals encode_with digits
written = refl

-- the list of another tool: its component is skipped
foreign :
    list_read (codes "{\"bomFormat\":\"CycloneDX\",\"components\":[{\"name\":\"x\",\"type\":\"library\",\"version\":\"1\"}],\"specVersion\":\"1.4\",\"version\":1}")
    ≡ Ok (list_with None [] 1)
unfolding is_utf8 chars serde_json_on_literals list_read list_in package_in texts_of
foreign = refl

-- no JSON, no object, another format and a format that is no text
refused :
    (list_read (codes "{") ≡ Err BadJson)
    × (list_read (codes "[]") ≡ Err (BadList NotObject))
    × (list_read (codes "{\"bomFormat\":\"SPDX\"}") ≡ Err (BadList BadFormat))
    × (list_read (codes "{\"bomFormat\":[\"CycloneDX\"]}") ≡ Err (BadList BadFormat))
unfolding is_utf8 chars serde_json_on_literals list_read list_in
refused = (refl, refl, refl, refl)

-- a list by the value of its components
abbrev of_components : Data → Data
of_components found = object (member (codes "bomFormat") (string (codes "CycloneDX")) (member (codes "components") found no_members))

-- components that are null or no list are refused, and absent ones are none
components :
    (list_in (of_components null) ≡ Err BadComponents)
    × (list_in (of_components (object no_members)) ≡ Err BadComponents)
    × (list_in (object (member (codes "bomFormat") (string (codes "CycloneDX")) no_members)) ≡ Ok (list_with None [] 0))
unfolding list_in
components = (refl, refl, refl)

-- a component that is no object is skipped, and one that comes twice is one package
counted : list_in (of_components (array (item null (item (component_data libssl) (item (component_data libssl) no_items))))) ≡ Ok (list_with None (libssl ∷ []) 1)
unfolding list_in package_in texts_of
counted = refl

-- the first property with a name counts, also if it has no text
first :
    (property (codes "a") (item (property_data (codes "b") (codes "1")) (item (property_data (codes "a") (codes "2")) (item (property_data (codes "a") (codes "3")) no_items))) ≡ Some (codes "2"))
    × (property (codes "a") (item (object (member (codes "name") (string (codes "a")) no_members)) (item (property_data (codes "a") (codes "3")) no_items)) ≡ None)
first = (refl, refl)

-- a component of this kind at this path
abbrev component_at : List ℕ → List ℕ → Data
component_at kind path =
    object (member (codes "name") (string (codes "a"))
    (member (codes "properties") (array
    (item (property_data (codes "cvwatch:arch") [])
    (item (property_data (codes "cvwatch:ecosystem") (codes "npm"))
    (item (property_data (codes "cvwatch:kind") kind)
    (item (property_data (codes "cvwatch:path") path)
    (item (property_data (codes "cvwatch:source") (codes "a"))
    (item (property_data (codes "cvwatch:source_version") (codes "1")) no_items)))))))
    (member (codes "version") (string (codes "1")) no_members)))

-- a kind that is not known, a path with a leading slash and an empty path
others :
    (package_in (component_at (codes "rpm") (codes "a/b")) ≡ None)
    × (package_in (component_at (codes "deb") (codes "/a")) ≡ None)
    × (package_in (component_at (codes "deb") []) ≡ None)
unfolding package_in texts_of
others = (refl, refl, refl)

-- an image that is no digest is none
images :
    (image_in (object (member (codes "metadata") (object (member (codes "component") (object (member (codes "name") (string (codes "alpine:3.18")) no_members)) no_members)) no_members)) ≡ None)
    × (image_in (object (member (codes "metadata") null no_members)) ≡ None)
images = (refl, refl)
