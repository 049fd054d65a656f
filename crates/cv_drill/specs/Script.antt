-- The input of the drill (defined by this project): 64 images are registered, and once they are indexed a feed of 2,000 records
-- comes, and then comes again with changes. At the end there is a report on each image, and the list of notifications.
use Rattle.std.specs.Prelude.{ℕ, ◌%◌, List, [], ◌∷◌, ◌++◌, map, codes}
use Rattle.serde_json.specs.Data.{Data, no_members, member, number, unsigned, object, string}
use Rattle.cv_drill.specs.Images.{register_data, report_data}
use Rattle.cv_drill.specs.Lines.{json_text, lines_text, numbers}
use Rattle.cv_drill.specs.Records.{update_data}
use Rattle.cv_drill.specs.declared.record.Update.TheVariants.{First, Second}

-- the request for the list of notifications
abbrev pub list_data : Data
list_data = object (member (codes "do") (string (codes "list")) (member (codes "lane") (number (unsigned 0)) no_members))

-- the line that ends a round
abbrev pub round_end : List (List ℕ)
round_end = [] ∷ []

-- the lines that register images
abbrev pub register_lines : ℕ → ℕ → List (List ℕ)
register_lines offset images = map (λ i. json_text (register_data offset i)) (numbers images)

-- the lines that ask for reports
abbrev pub report_lines : ℕ → List (List ℕ)
report_lines images = map (λ i. json_text (report_data i)) (numbers images)

-- the lines in order, for these numbers of images and records. An empty round is run, so that each image is indexed before the first
-- update
unfoldable pub script_lines : ℕ → ℕ → ℕ → List (List ℕ)
script_lines offset images records =
    register_lines offset images ++ round_end ++ round_end
    ++ (json_text (update_data First records) ∷ []) ++ round_end
    ++ (json_text (update_data Second records) ∷ []) ++ round_end
    ++ report_lines images ++ (json_text list_data ∷ [])

-- the input of a seed. The layers are numbered from the last three digits of the seed on
unfoldable pub script : ℕ → List ℕ
script seed = lines_text (script_lines (seed % 1000) 64 2000)
