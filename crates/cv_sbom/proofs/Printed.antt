-- A component list that was printed is read back as its JSON value.
use Rattle.std.proofs.Common.{◌≡◌, ℕ, ◌≤◌, List, [], ◌∷◌, ◌++◌, map, Some, refl, sym, ap, ◌∙◌, arith, append-nil}
use Rattle.std.specs.Prelude.{Option, option_and_then}
use Rattle.json.specs.Json as json
use Rattle.json.specs.Lex.{tokens}
use Rattle.json.specs.Token.{Token}
use Rattle.json.specs.Tree as tree
use Rattle.json.proofs.Printed.Decimals.{IsNumber-decimal}
use Rattle.json.proofs.Printed.Tokens.{tokens-print}
use Rattle.json.proofs.Printed.Trees.{ArePrintable-json_tokens, value-json_tokens}
use Rattle.serde_json.specs.Data.{Data}
use Rattle.serde_json.specs.Read.{max_depth, of_items, of_json, read}
use Rattle.serde_json.specs.View.{items_of}
use Rattle.serde_json.specs.Written.{compact_text, items_outline, outline}
use Rattle.serde_json.proofs.Numbers.{number_of-decimal}
use Rattle.serde_json.proofs.Texts.{print-outline}
use Rattle.cv_base.specs.declared.package.Package.{Package}
use Rattle.cv_sbom.specs.ListText.{component_data, list_data, list_text, property_data}

-- the value of a text by its tree and the tokens after it
abbrev whole : Option (json.Json × List Token) → Option Data
whole found = option_and_then of_json (option_and_then (λ p. json.if_last p.0 p.1) found)

-- a value whose numbers are whole is read back
pub read_printed : (d : Data) → tree.HasNumbers (outline d) → tree.depth (outline d) ≤ max_depth → of_json (outline d) ≡ Some d → read (compact_text d) ≡ Some d
read_printed d numbers shallow same =
    let j = outline d in
    let printed : tokens (compact_text d) ≡ tree.json_tokens j ++ [] =
    ap tokens (sym (print-outline d)) ∙ tokens-print (tree.json_tokens j) (ArePrintable-json_tokens j numbers) ∙ sym (append-nil (tree.json_tokens j)) in
    ap whole (ap (json.value max_depth) printed ∙ value-json_tokens j max_depth [] shallow) ∙ same

-- the components as a tree
abbrev components : List Package → json.Items
components packages = items_outline (items_of (map component_data packages))

components_number : (packages : List Package) → tree.ItemsHaveNumbers (components packages)
components_number [] = tt
components_number (p ∷ ps) =
    let property : tree.HasNumbers (outline (property_data [] [])) = (tt, (tt, tt)) in
    ((tt, ((property, (property, (property, (property, (property, (property, tt)))))), (tt, (tt, tt)))), components_number ps)

components_depth : (packages : List Package) → tree.items_depth (components packages) ≤ 3
components_depth [] = omega arith
components_depth (p ∷ ps) = omega (arith, components_depth ps)

components_same : (packages : List Package) → of_items (components packages) ≡ Some (items_of (map component_data packages))
components_same [] = refl
components_same (p ∷ ps) = rw (components_same ps) refl

-- a component list is read back
pub list_printed : (image : List ℕ) (packages : List Package) → read (list_text image packages) ≡ Some (list_data image packages)
unfolding list_text
list_printed image packages =
    read_printed (list_data image packages)
    (tt, (components_number packages, (((tt, (tt, tt)), tt), (tt, (IsNumber-decimal 1 (omega arith), tt)))))
    (omega (arith, components_depth packages))
    (rw (components_same packages, number_of-decimal 1 (omega arith)) refl)
