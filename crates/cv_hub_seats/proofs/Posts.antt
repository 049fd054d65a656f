-- Which steps keep the rule of what is published: one that shows no fewer events than before, and all those of readers.
use Rattle.std.proofs.Common.{◌≡◌, ℕ, ◌≤◌, ◌≢◌, max, List, [], ◌∷◌, ◌++◌, length, set, refl, sym, subst, ⊎_elim, le_refl, le_trans, zero-le, arith}
use mathlib.Core.Option.{some, some-ne-none}
use lib.ListN.{get_elem?}
use Rattle.logbook.specs.Pages.{Book}
use Rattle.left_right.specs.Register.{Admits, TurnsAt, Forks, Merges}
use Rattle.atomic_table.proofs.Lists.{at_set, at_snoc}
use Rattle.cv_core_machine.specs.declared.limits.Limits.{Limits}
use Rattle.cv_hub_seats.specs.Events.{DeskTrees}
use Rattle.cv_hub_seats.specs.Posts.{AllBelow, Enters, IsPosted, PostView, Shows}

set_below : (n : ℕ) (views : List ℕ) (place v : ℕ) → AllBelow n views → v ≤ n → AllBelow n (set views place v)
set_below n views place v h low j u e = ⊎_elim (λ (t : (j ≡ place) × (v ≡ u)). subst (λ (z : ℕ). z ≤ n) t.1 low) (λ (t : (j ≢ place) × (get_elem? views j ≡ some u)). h j u t.1) (at_set views place j v u e)

snoc_below : (n : ℕ) (views : List ℕ) (v : ℕ) → AllBelow n views → v ≤ n → AllBelow n (views ++ v ∷ [])
snoc_below n views v h low j u e = ⊎_elim (h j u) (λ (same : v ≡ u). subst (λ (z : ℕ). z ≤ n) same low) (at_snoc views v u j e)

none_below : (n : ℕ) → AllBelow n []
none_below n j u e = absurd (some-ne-none u (sym e))

module _ (tree : DeskTrees) (limits : Limits) (parts : ℕ) (named : Book) where
  -- the first value, of which the writer knows nothing
  pub opens : (post : PostView) → Shows tree limits parts named post → IsPosted tree limits parts named post (0 ∷ [])
  opens post shows = (shows, snoc_below (length post.list) [] 0 (none_below (length post.list)) zero-le)

  -- a new reader, which knows nothing
  pub admits : Admits (IsPosted tree limits parts named) 0
  admits x views h = (h.0, snoc_below (length x.list) views 0 h.1 zero-le)

  -- a publication of a list that is no shorter
  pub rises : (place v : ℕ) (x y : PostView) → Shows tree limits parts named y → length x.list ≤ length y.list
      → TurnsAt (IsPosted tree limits parts named) place v x y (Enters tree limits parts named)
  rises place v x y shows up views h at =
      let others : AllBelow (length y.list) views = λ j u e. le_trans (h.1 j u e) up in
      (length y.list, (shows, set_below (length y.list) views place (length y.list) others (le_refl (length y.list))), (h.1 place v at, refl, shows))

  -- a read
  pub looks : (place v : ℕ) (x : PostView) → TurnsAt (IsPosted tree limits parts named) place v x x (Enters tree limits parts named)
  looks place v x views h at = rises place v x x h.0 (le_refl (length x.list)) views h at

  -- who tells keeps what it knows
  pub forks : (place v : ℕ) → Forks (IsPosted tree limits parts named) place v v v
  forks place v x views h at =
      (h.0, snoc_below (length x.list) (set views place v) v (set_below (length x.list) views place v h.1 (h.1 place v at)) (h.1 place v at))

  -- who is told knows the larger number
  pub merges : (place v other w : ℕ) → Merges (IsPosted tree limits parts named) place v other w (max v w) 0
  merges place v other w x views h at apart there =
      let a = h.1 place v at in
      let b : w ≤ length x.list = ⊎_elim (λ (t : (other ≡ place) × (max v w ≡ w)). absurd (apart t.0)) (λ (t : (other ≢ place) × (get_elem? views other ≡ some w)). h.1 other w t.1) (at_set views place other (max v w) w there) in
      (h.0, set_below (length x.list) (set views place (max v w)) other 0 (set_below (length x.list) views place (max v w) h.1 (omega arith)) zero-le)
