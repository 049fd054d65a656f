-- A list of texts that is read item by item: the texts so far, and then the remaining items.
use Rattle.std.specs.Prelude.{◌≡◌, ℕ, List, [], ◌∷◌, ◌++◌, Some, Ok, Err}
use Rattle.cv_base.specs.Results.{onto}
use Rattle.cv_osv.specs.Json.{each, text_or}
use Rattle.cv_osv.proofs.Onto.{each_bad, each_more}
use Rattle.cv_request.specs.Member.{text_of}
use Rattle.cv_request.specs.declared.error.RequestWhat.{RequestWhat}
use Rattle.serde_json.specs.Data.{Data, Items, item}

-- one more item is a text
pub texts_more : (bad : RequestWhat) (front : List (List ℕ)) (d : Data) (ds : Items) (text : List ℕ) → text_or bad (Some d) ≡ Ok text
    → onto (front ++ text ∷ []) (each (text_of bad) ds) ≡ onto front (each (text_of bad) (item d ds))
texts_more bad front d ds text e = each_more (text_of bad) front d ds text e

-- an item is no text
pub texts_bad : (bad : RequestWhat) (front : List (List ℕ)) (d : Data) (ds : Items) (what : RequestWhat) → text_or bad (Some d) ≡ Err what
    → onto front (each (text_of bad) (item d ds)) ≡ Err what
texts_bad bad front d ds what e = each_bad (text_of bad) front d ds what e
