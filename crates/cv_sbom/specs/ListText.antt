-- The component list of an image as text: JSON of CycloneDX 1.5, of which this project's profile uses these members alone. Members
-- stand in the order of their names. Beside name and version a component has six properties, which are this project's own.
use Rattle.std.specs.Prelude.{ℕ, List, map, codes}
use Rattle.serde_json.specs.Data.{Data, no_items, item, no_members, member, array, number, object, string, unsigned}
use Rattle.serde_json.specs.View.{items_of}
use Rattle.serde_json.specs.Written.{compact_text}
use Rattle.cv_base.specs.Digest.{digest_text}
use Rattle.cv_base.specs.Path.{path_text}
use Rattle.cv_base.specs.declared.package.Package.{Package}
use Rattle.cv_scan_output.specs.Finding.{kind_text}

-- a property of a component
abbrev pub property_data : List ℕ → List ℕ → Data
property_data name value = object (member (codes "name") (string name) (member (codes "value") (string value) no_members))

-- the properties of a package
abbrev pub properties_data : Package → Data
properties_data p =
    array (item (property_data (codes "cvwatch:arch") p.arch)
    (item (property_data (codes "cvwatch:ecosystem") p.ecosystem)
    (item (property_data (codes "cvwatch:kind") (kind_text p.kind))
    (item (property_data (codes "cvwatch:path") (path_text p.path))
    (item (property_data (codes "cvwatch:source") p.source)
    (item (property_data (codes "cvwatch:source_version") p.source_version) no_items))))))

-- the component that a package is
abbrev pub component_data : Package → Data
component_data p =
    object (member (codes "name") (string p.name)
    (member (codes "properties") (properties_data p)
    (member (codes "type") (string (codes "library"))
    (member (codes "version") (string p.version) no_members))))

-- the components that packages are, in their order
abbrev pub components_data : List Package → Data
components_data packages = array (items_of (map component_data packages))

-- what the list is about: the image
abbrev pub metadata_data : List ℕ → Data
metadata_data image =
    object (member (codes "component")
    (object (member (codes "name") (string (digest_text image)) (member (codes "type") (string (codes "container")) no_members))) no_members)

-- the JSON value of a component list
abbrev pub list_data : List ℕ → List Package → Data
list_data image packages =
    object (member (codes "bomFormat") (string (codes "CycloneDX"))
    (member (codes "components") (components_data packages)
    (member (codes "metadata") (metadata_data image)
    (member (codes "specVersion") (string (codes "1.5"))
    (member (codes "version") (number (unsigned 1)) no_members)))))

-- the packages of an image as a component list, in one line without its LF
unfoldable pub list_text : List ℕ → List Package → List ℕ
list_text image packages = compact_text (list_data image packages)
