-- The lines of refused input lines of the commands (defined by this project). Lines count from 1. A printed name is the words of
-- the variant's name in lower case with `_` between them.
use Rattle.std.specs.Prelude.{ℕ, List, codes}
use Rattle.serde_json.specs.Data.{Data, no_members, member, number, object, string, unsigned}
use Rattle.cv_request.specs.Fault.{error_of}
use Rattle.cv_sbom.specs.declared.error.ListFault.{ListFault}
use Rattle.cv_sbom.specs.declared.error.ListFault.TheVariants as list
use Rattle.cv_sbom.specs.declared.error.ListWhat.{ListWhat}
use Rattle.cv_sbom.specs.declared.error.ListWhat.TheVariants.{NotObject, BadFormat, BadComponents}
use Rattle.cv_scan_input.specs.declared.error.InputFault.{InputFault}
use Rattle.cv_scan_input.specs.declared.error.InputFault.TheVariants.{Request, Components, ExtraLine}
use Rattle.cv_scan_output.specs.Line.{line_text}
use Rattle.cv_scan_output.specs.Refusal.{refusal_text, refused_text}

-- a list that is malformed, by the name of what is wrong
abbrev pub named_list_data : ℕ → List ℕ → Data
named_list_data line what =
    object (member (codes "line") (number (unsigned line))
    (member (codes "refused") (string (codes "bad_list"))
    (member (codes "what") (string what) no_members)))

-- a list that is malformed
abbrev pub bad_list_data : ℕ → ListWhat → Data
bad_list_data line NotObject = named_list_data line (codes "not_object")
bad_list_data line BadFormat = named_list_data line (codes "bad_format")
bad_list_data line BadComponents = named_list_data line (codes "bad_components")

-- its line
unfoldable pub bad_list_text : ℕ → ListWhat → List ℕ
bad_list_text line what = line_text (bad_list_data line what)

-- a line that is no list of components
abbrev pub list_fault_text : ℕ → ListFault → List ℕ
list_fault_text line list.BadJson = refused_text line (codes "bad_json")
list_fault_text line (list.BadList what) = bad_list_text line what

-- a refused line
abbrev pub fault_text : ℕ → InputFault → List ℕ
fault_text line (Request fault) = refusal_text line (error_of fault)
fault_text line (Components fault) = list_fault_text line fault
fault_text line ExtraLine = refused_text line (codes "extra_line")

-- the line of an input that should begin with a list of components and has no line
abbrev pub no_list_text : List ℕ
no_list_text = refused_text 1 (codes "no_list")
