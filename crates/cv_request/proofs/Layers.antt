-- The layers of a manifest, one after the other.
use Rattle.std.proofs.Common.{◌≡◌, ℕ, List, [], ◌∷◌, length, map, refl, ap, arith}
use Rattle.std.specs.Prelude.{IfSome, Option, None, Some, Result, Ok, Err, codes}
use Rattle.serde_json.specs.Data.{Data}
use Rattle.serde_json.specs.Find.{get}
use Rattle.serde_json.specs.View.{items_of}
use Rattle.cv_base.specs.Results.{◌>>=◌}
use Rattle.cv_osv.specs.Json.{object_or}
use Rattle.cv_request.specs.Fault.{refusing}
use Rattle.cv_request.specs.Manifest.{count, digest_or, layers_in, manifest_of, manifest_with}
use Rattle.cv_request.specs.declared.error.RequestFault.{RequestFault}
use Rattle.cv_request.specs.declared.error.RequestFault.TheVariants.{BadRequest}
use Rattle.cv_request.specs.declared.error.RequestWhat.{RequestWhat}
use Rattle.cv_request.specs.declared.error.RequestWhat.TheVariants.{BadManifest, BadHash}

-- the items of a slice are as many
pub count_items : {A : Type 0} (f : A → Data) (items : List A) → count (items_of (map f items)) ≡ length items
count_items f [] = refl
count_items f (v ∷ vs) = rw (count_items f vs) (omega arith)

fails_by : {A B : Type 0} (r : Result A RequestWhat) (f : A → Result B RequestWhat) (fault : Option RequestFault)
    → IfSome fault (λ x. refusing r ≡ Err x) → IfSome fault (λ x. refusing (r >>= f) ≡ Err x)
fails_by r f None h = tt
fails_by (Ok x) f (Some bad) h = absurd (cc)
fails_by (Err what) f (Some bad) h = let k : BadRequest what ≡ bad = cc in ap Err k

-- if the layers are refused, the manifest is
pub manifest_fails : (d : Data) (hash : List ℕ) (fault : Option RequestFault) → object_or BadManifest d ≡ Ok tt → digest_or BadHash (get (codes "hash") d) ≡ Ok hash
    → IfSome fault (λ x. refusing (layers_in (get (codes "layers") d)) ≡ Err x)
    → IfSome fault (λ x. refusing (manifest_of d) ≡ Err x)
unfolding manifest_of
manifest_fails d hash fault h k refused =
    rw (h, k) (fails_by (layers_in (get (codes "layers") d)) (λ layers. Ok (manifest_with hash layers)) fault refused)
