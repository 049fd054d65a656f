-- A list that is read item by item: what has been read, and then the remaining items.
use Rattle.std.specs.Prelude.{◌≡◌, List, [], ◌∷◌, ◌++◌, Result, Ok, Err, refl}
use Rattle.cv_base.specs.Results.{onto}
use Rattle.cv_base.proofs.Results.{onto_joined, onto_one}
use Rattle.cv_osv.specs.Json.{each, each_joined}
use Rattle.serde_json.specs.Data.{Data, Items, item}

-- one more item was read
pub each_more : {A E : Type 0} (f : Data → Result A E) (front : List A) (d : Data) (ds : Items) (x : A) → f d ≡ Ok x → onto (front ++ x ∷ []) (each f ds) ≡ onto front (each f (item d ds))
each_more f front d ds x e = rw e (onto_one front x (each f ds))

-- an item was refused
pub each_bad : {A E : Type 0} (f : Data → Result A E) (front : List A) (d : Data) (ds : Items) (bad : E) → f d ≡ Err bad → onto front (each f (item d ds)) ≡ Err bad
each_bad f front d ds bad e = rw e refl

-- the same two if an item is read as several things
pub joined_more : {A E : Type 0} (f : Data → Result (List A) E) (front : List A) (d : Data) (ds : Items) (x : List A) → f d ≡ Ok x → onto (front ++ x) (each_joined f ds) ≡ onto front (each_joined f (item d ds))
joined_more f front d ds x e = rw e (onto_joined front x (each_joined f ds))

pub joined_bad : {A E : Type 0} (f : Data → Result (List A) E) (front : List A) (d : Data) (ds : Items) (bad : E) → f d ≡ Err bad → onto front (each_joined f (item d ds)) ≡ Err bad
joined_bad f front d ds bad e = rw e refl
