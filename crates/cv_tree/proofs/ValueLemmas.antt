-- Values seen through a function: a look-up, a new entry and a removal go through it.
use Rattle.std.specs.Prelude.{◌≡◌, Bool, true, false, cond, List, [], ◌∷◌, Some, refl}
use Rattle.std.specs.Map.{keys_of}
use Rattle.std.specs.Option.{option_map}
use Rattle.std.specs.Ordering.{is_eq, match_ordering}
use Rattle.std.specs.declared.cmp.Ordering.{Ordering}
use Rattle.std.specs.declared.cmp.Ordering.TheVariants.{Less, Equal, Greater}
use Rattle.std.proofs.Common.{ap}
use Rattle.cv_tree.specs.Entries.{at, map_values, with_entry, without_key}

pub mapped_keys : {K V W : Type 0} (f : V → W) (es : List (K × V)) → keys_of (map_values f es) ≡ keys_of es
mapped_keys f [] = refl
mapped_keys {K} f (e ∷ es) = ap (λ (ks : List K). e.0 ∷ ks) (mapped_keys f es)

pub mapped_at : {K V W : Type 0} (cmp : K → K → Ordering) (f : V → W) (es : List (K × V)) (k : K) → at cmp (map_values f es) k ≡ option_map f (at cmp es k)
mapped_at cmp f [] k = refl
mapped_at {K} {V} {W} cmp f (e ∷ es) k = by_test (is_eq (cmp k e.0)) (mapped_at cmp f es k) where
  by_test : (b : Bool) → at cmp (map_values f es) k ≡ option_map f (at cmp es k)
      → cond b (Some (f e.1)) (at cmp (map_values f es) k) ≡ option_map f (cond b (Some e.1) (at cmp es k))
  by_test true rest = refl
  by_test false rest = rest

pub mapped_with : {K V W : Type 0} (cmp : K → K → Ordering) (f : V → W) (es : List (K × V)) (k : K) (v : V)
    → map_values f (with_entry cmp es k v) ≡ with_entry cmp (map_values f es) k (f v)
mapped_with cmp f [] k v = refl
mapped_with {K} {V} {W} cmp f (e ∷ es) k v = by_order (cmp k e.0) (mapped_with cmp f es k v) where
  by_order : (r : Ordering) → map_values f (with_entry cmp es k v) ≡ with_entry cmp (map_values f es) k (f v)
      → map_values f (match_ordering r ((k, v) ∷ e ∷ es) ((e.0, v) ∷ es) (e ∷ with_entry cmp es k v))
      ≡ match_ordering r ((k, f v) ∷ (e.0, f e.1) ∷ map_values f es) ((e.0, f v) ∷ map_values f es) ((e.0, f e.1) ∷ with_entry cmp (map_values f es) k (f v))
  by_order Less rest = refl
  by_order Equal rest = refl
  by_order Greater rest = ap (λ (xs : List (K × W)). (e.0, f e.1) ∷ xs) rest

pub mapped_without : {K V W : Type 0} (cmp : K → K → Ordering) (f : V → W) (es : List (K × V)) (k : K)
    → map_values f (without_key cmp es k) ≡ without_key cmp (map_values f es) k
mapped_without cmp f [] k = refl
mapped_without {K} {V} {W} cmp f (e ∷ es) k = by_test (is_eq (cmp k e.0)) (mapped_without cmp f es k) where
  by_test : (b : Bool) → map_values f (without_key cmp es k) ≡ without_key cmp (map_values f es) k
      → map_values f (cond b es (e ∷ without_key cmp es k)) ≡ cond b (map_values f es) ((e.0, f e.1) ∷ without_key cmp (map_values f es) k)
  by_test true rest = refl
  by_test false rest = ap (λ (xs : List (K × W)). (e.0, f e.1) ∷ xs) rest
