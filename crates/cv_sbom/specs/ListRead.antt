-- What a line is as a component list (CycloneDX 1.5, JSON): the image that it names, its packages and how many components are no
-- packages, or its first fault. The order of the faults is defined by this project. Read leniently: other members, other
-- versions of the format and components of other tools are accepted.
use Rattle.std.specs.Prelude.{ℕ, Bool, if◌then◌else◌, List, codes, filter, length, Option, Some, None, is_none, is_some, option_and_then, Result, Ok, Err}
use Rattle.std.specs.List.{filter_map}
use Rattle.std.specs.Option.{ok_or}
use Rattle.serde_json.specs.Data.{Data, Items, no_items}
use Rattle.serde_json.specs.Find.{as_array, as_object, get}
use Rattle.cv_base.specs.Digest.{digest_of}
use Rattle.cv_base.specs.InOrder.{in_order}
use Rattle.cv_base.specs.Results.{◌>>=◌}
use Rattle.cv_base.specs.declared.package.Package.{Package}
use Rattle.cv_match.specs.Findings.{package_cmp}
use Rattle.cv_osv.specs.Json.{items_list}
use Rattle.cv_request.specs.Line.{json_of}
use Rattle.cv_sbom.specs.Component.{package_in}
use Rattle.cv_sbom.specs.Fault.{refusing}
use Rattle.cv_sbom.specs.Member.{is_text, text_at}
use Rattle.cv_sbom.specs.declared.error.ListFault.{ListFault}
use Rattle.cv_sbom.specs.declared.error.ListFault.TheVariants.{BadJson}
use Rattle.cv_sbom.specs.declared.error.ListWhat.{ListWhat}
use Rattle.cv_sbom.specs.declared.error.ListWhat.TheVariants.{NotObject, BadFormat, BadComponents}
use Rattle.cv_sbom.specs.declared.list.ComponentList.{ComponentList}

-- whether the format is that of CycloneDX
abbrev pub is_cyclonedx : Data → Bool
is_cyclonedx value = is_text (codes "CycloneDX") (text_at (codes "bomFormat") value)

-- the items of a list that may be absent, and then has none
abbrev pub items_or : Option Data → Result Items ListWhat
items_or None = Ok no_items
items_or (Some found) = ok_or (as_array found) BadComponents

-- the components
abbrev pub components_or : Data → Result Items ListWhat
components_or value = items_or (get (codes "components") value)

-- the image that a list names, if it is a digest
abbrev pub image_in : Data → Option (List ℕ)
image_in value =
    option_and_then digest_of
    (option_and_then (text_at (codes "name")) (option_and_then (get (codes "component")) (get (codes "metadata") value)))

-- the packages that components are, in their order
abbrev pub packages_in : Items → List Package
packages_in components = filter_map package_in (items_list components)

-- how many components are no packages
abbrev pub skipped_in : Items → ℕ
skipped_in components = length (filter (λ component. is_none (package_in component)) (items_list components))

-- the list of an image with these packages, which are sorted by their fields, each once
abbrev pub list_with : Option (List ℕ) → List Package → ℕ → ComponentList
list_with image packages skipped = record { image = image; packages = in_order package_cmp packages; skipped = skipped }

-- a value as a component list
unfoldable pub list_in : Data → Result ComponentList ListWhat
list_in value =
    if is_some (as_object value) then
    (if is_cyclonedx value then (components_or value >>= λ components. Ok (list_with (image_in value) (packages_in components) (skipped_in components)))
    else Err BadFormat)
    else Err NotObject

-- a line as a component list
unfoldable pub list_read : List ℕ → Result ComponentList ListFault
list_read line = ok_or (json_of line) BadJson >>= λ value. refusing (list_in value)
