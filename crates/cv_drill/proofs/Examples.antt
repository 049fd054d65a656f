-- The summary on worked examples.
use Rattle.std.proofs.Common.{◌≡◌, ℕ, List, [], ◌∷◌, codes, refl, Some, None}
use Rattle.serde_json.specs.Data.{Data, Items, array, null, number, unsigned, object, string, no_items, item, no_members, member}
use Rattle.cv_drill.specs.Lines.{json_text}
use Rattle.cv_drill.specs.Summary.{findings, generation, last_report, numberless_list, replies, rows, standing}

-- a reply is counted by its word
said : List ℕ → Data
said word = object (member (codes "reply") (string word) no_members)

counted : replies (codes "registered") (said (codes "registered") ∷ said (codes "entered") ∷ []) ≡ 1
unfolding said
counted = refl

-- the greatest generation of an update
updated : List ℕ → ℕ → Data
updated event n = object (member (codes "event") (string event) (member (codes "generation") (number (unsigned n)) no_members))

greatest_counts : generation (updated (codes "update") 5 ∷ updated (codes "update") 3 ∷ updated (codes "claim") 9 ∷ []) ≡ 5
unfolding updated
greatest_counts = refl

-- the last list of notifications; an item without rows has none
listed : Items → Data
listed notices = object (member (codes "notifications") (array notices) no_members)

row_count : ℕ → Data
row_count n = object (member (codes "rows") (number (unsigned n)) no_members)

last_counts : rows (standing (listed (item (row_count 4) no_items) ∷ listed (item (row_count 1) (item null (item (row_count 2) no_items))) ∷ said [] ∷ [])) ≡ 3
unfolding said listed row_count
last_counts = refl

-- a number at any depth keeps a list out
deep_number : numberless_list (array (item (array (item (object (member (codes "a") (number (unsigned 7)) no_members)) no_items)) no_items)) ≡ None
deep_number = refl

-- the last good report on an image counts, and all findings are counted
good : List ℕ → List ℕ → Data
good image found =
    object (member (codes "findings") (array (item (string found) no_items))
    (member (codes "image") (string image)
    (member (codes "read") (string (codes "report"))
    (member (codes "reply") (string (codes "good")) no_members))))

last_wins : last_report (good (codes "i") (codes "old") ∷ good (codes "i") (codes "new") ∷ good (codes "k") (codes "other") ∷ []) (codes "i")
    ≡ Some (json_text (array (item (string (codes "new")) no_items)))
unfolding good
last_wins = refl

all_counted : findings (good (codes "i") (codes "old") ∷ good (codes "i") (codes "new") ∷ said (codes "good") ∷ []) ≡ 2
unfolding good said
all_counted = refl
