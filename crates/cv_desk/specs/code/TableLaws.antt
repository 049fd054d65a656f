-- Rows that are added one by one make the tree of a table. Each entry stands at a path, and no path stands twice.
use Rattle.std.specs.Prelude.{◌≡◌, Bool, true, false, ◌&&◌, ◌||◌, not, cond, List, [], ◌∷◌, ◌++◌, Option, Some, None, option_map, option_to_list, Result, Ok, Err, refl, fold}
use Rattle.std.specs.List.{AllByRecursion, list_any}
use Rattle.std.proofs.Common.{ap, append-nil, append_assoc, sym, ◌∙◌}
use Rattle.std.proofs.Math.Bool.{or_comm}
use Rattle.cv_base.specs.Path.{Path, path_of, same_path}
use Rattle.cv_path.proofs.Same.{path_is}
use Rattle.cv_path.specs.declared.path.PathError.{PathError}
use Rattle.cv_seq.proofs.AllItems.{all_both}
use Rattle.cv_base.proofs.Lists.{any_last}
use Rattle.cv_desk.specs.Row.{Row}
use Rattle.cv_desk.specs.Stored.{ArePathsIn, IsRead, Stored, is_distinct, IsDistinctIn, item_at}
use Rattle.cv_desk.specs.Table.{entries_after, entry_after, entry_read, have, is_path, item_of, tree_of_rows}
use Rattle.cv_desk.specs.code.TableSteps.{first_at, stands, with_read, with_row}

-- No path stands twice in entries that were added one by one.

append_by : (x y z : Bool) (later longer : Bool) → not x && later ≡ true → y || z ≡ false → (later ≡ true → z ≡ false → longer ≡ true) → not (x || y) && longer ≡ true
append_by true y z later longer d s others = cc
append_by false true z later longer d s others = cc
append_by false false z later longer d s others = others d s

append_distinct : (entries : List Stored) (entry : Stored) → is_distinct entries ≡ true → stands entries entry.path ≡ false → is_distinct (entries ++ entry ∷ []) ≡ true
append_distinct [] entry d s = refl
append_distinct (e ∷ es) entry d s =
    rw (any_last (λ f. same_path e.path f.path) es entry)
    (append_by (list_any (λ f. same_path e.path f.path) es) (same_path e.path entry.path) (stands es entry.path) (is_distinct es) (is_distinct (es ++ entry ∷ []))
    d s (λ h k. append_distinct es entry h k))

with_distinct : (entries : List Stored) (entry : Stored) (b : Bool) → stands entries entry.path ≡ b → is_distinct entries ≡ true
    → is_distinct (cond b entries (entries ++ entry ∷ [])) ≡ true
with_distinct entries entry true s d = d
with_distinct entries entry false s d = append_distinct entries entry d s

read_distinct : (entries : List Stored) (row : Row) (found : Result Path PathError) → is_distinct entries ≡ true → is_distinct (with_read entries row found) ≡ true
read_distinct entries row (Ok path) d =
    let entry : Stored = record { path = path; item = item_of row.kind row.bytes } in
    with_distinct entries entry (stands entries entry.path) refl d
read_distinct entries row (Err error) d = d

rows_distinct : (entries : List Stored) (rows : List Row) → is_distinct entries ≡ true → is_distinct (fold with_row entries rows) ≡ true
rows_distinct entries [] d = d
rows_distinct entries (row ∷ rows) d = rows_distinct (with_row entries row) rows (read_distinct entries row (path_of row.path) d)

-- The entries that were added one by one are those of the tree.

-- the entries have the paths that the rows have
abbrev Alike : List Stored → List Row → Type 0
Alike entries rows = (p : Path) → stands entries p ≡ have rows p

-- the later rows add their entries to some that are alike to the rows before
abbrev Adds : List Row → List Row → Type 0
Adds before rows = (entries : List Stored) → Alike entries before → fold with_row entries rows ≡ entries ++ entries_after before rows

-- a row whose text is not a valid path, or whose path an entry has already, leaves the entries alike
alike_refused : (entries : List Stored) (before : List Row) (row : Row) (error : PathError) → path_of row.path ≡ Err error → Alike entries before → Alike entries (row ∷ before)
alike_refused entries before row error e alike = λ p. alike p ∙ sym (ap (λ found. is_path found p || have before p) e)

alike_again : (entries : List Stored) (before : List Row) (row : Row) (path : Path) → path_of row.path ≡ Ok path → stands entries path ≡ true → Alike entries before
    → Alike entries (row ∷ before)
alike_again entries before row path e s alike = λ p. by_test p (same_path path p) refl ∙ sym (ap (λ found. is_path found p || have before p) e) where
  by_test : (p : Path) (b : Bool) → same_path path p ≡ b → stands entries p ≡ b || have before p
  by_test p true h = sym (ap (stands entries) (path_is path p h)) ∙ s
  by_test p false h = alike p

-- a row of a new path leaves them alike with its entry
alike_new : (entries : List Stored) (before : List Row) (row : Row) (entry : Stored) → path_of row.path ≡ Ok entry.path → Alike entries before
    → Alike (entries ++ entry ∷ []) (row ∷ before)
alike_new entries before row entry e alike = λ p.
    any_last (λ f. same_path f.path p) entries entry ∙ ap (λ b. b || same_path entry.path p) (alike p) ∙ or_comm (have before p) (same_path entry.path p)
    ∙ sym (ap (λ found. is_path found p || have before p) e)

row_adds : (entries : List Stored) (before rows : List Row) (row : Row) (found : Result Path PathError) → path_of row.path ≡ found → Alike entries before
    → Adds (row ∷ before) rows
    → fold with_row (with_read entries row found) rows ≡ entries ++ (option_to_list (entry_read before row found) ++ entries_after (row ∷ before) rows)
row_adds entries before rows row (Err error) e alike adds = adds entries (alike_refused entries before row error e alike)
row_adds entries before rows row (Ok path) e alike adds =
    let entry : Stored = record { path = path; item = item_of row.kind row.bytes } in
    by_test entry e (stands entries path) refl (have before path) (alike path) where
      by_test : (entry : Stored) → path_of row.path ≡ Ok entry.path → (b : Bool) → stands entries entry.path ≡ b → (c : Bool) → b ≡ c
          → fold with_row (cond b entries (entries ++ entry ∷ [])) rows ≡ entries ++ (option_to_list (cond c None (Some entry)) ++ entries_after (row ∷ before) rows)
      by_test entry e true s true h = adds entries (alike_again entries before row entry.path e s alike)
      by_test entry e true s false h = cc
      by_test entry e false s true h = cc
      by_test entry e false s false h =
          adds (entries ++ entry ∷ []) (alike_new entries before row entry e alike) ∙ append_assoc entries (entry ∷ []) (entries_after (row ∷ before) rows)

rows_add : (before rows : List Row) → Adds before rows
rows_add before [] = λ entries alike. sym (append-nil entries)
rows_add before (row ∷ rows) = λ entries alike. row_adds entries before rows row (path_of row.path) refl alike (rows_add (row ∷ before) rows)

-- all rows, from no entry
pub rows_added : (rows : List Row) → fold with_row [] rows ≡ tree_of_rows rows
rows_added rows = rows_add [] rows [] (λ p. refl)

-- The tree has at a path what the first row of that path has.

not_by : (row : Row) (before : List Row) (p : Path) (found : Result Path PathError) → path_of row.path ≡ found → is_path found p ≡ false → have before p ≡ false
    → have (row ∷ before) p ≡ false
not_by row before p found e k h = ap (λ read. is_path read p || have before p) e ∙ ap (λ b. b || have before p) k ∙ h

row_found : (before rows : List Row) (row : Row) (p : Path) (found : Result Path PathError) → path_of row.path ≡ found → have before p ≡ false
    → (have (row ∷ before) p ≡ false → item_at (entries_after (row ∷ before) rows) p ≡ first_at rows p)
    → item_at (option_to_list (entry_read before row found) ++ entries_after (row ∷ before) rows) p ≡ cond (is_path found p) (Some (item_of row.kind row.bytes)) (first_at rows p)
row_found before rows row p (Err error) e h others = others (not_by row before p (Err error) e refl h)
row_found before rows row p (Ok path) e h others = by_test (same_path path p) refl (have before path) refl where
  by_test : (b : Bool) → same_path path p ≡ b → (c : Bool) → have before path ≡ c
      → item_at (option_to_list (cond c None (Some (record { path = path; item = item_of row.kind row.bytes }))) ++ entries_after (row ∷ before) rows) p
      ≡ cond b (Some (item_of row.kind row.bytes)) (first_at rows p)
  by_test true k true s = let clash : true ≡ false = sym s ∙ ap (have before) (path_is path p k) ∙ h in cc
  by_test true k false s = ap (λ b. cond b (Some (item_of row.kind row.bytes)) (item_at (entries_after (row ∷ before) rows) p)) k
  by_test false k true s = others (not_by row before p (Ok path) e k h)
  by_test false k false s =
      ap (λ b. cond b (Some (item_of row.kind row.bytes)) (item_at (entries_after (row ∷ before) rows) p)) k ∙ others (not_by row before p (Ok path) e k h)

after_found : (before rows : List Row) (p : Path) → have before p ≡ false → item_at (entries_after before rows) p ≡ first_at rows p
after_found before [] p h = refl
after_found before (row ∷ rows) p h = row_found before rows row p (path_of row.path) refl h (λ k. after_found (row ∷ before) rows p k)

-- what the first row of a path has is what the tree has there
pub first_found : (rows : List Row) (p : Path) → first_at rows p ≡ item_at (tree_of_rows rows) p
first_found rows p = sym (after_found [] rows p refl)

-- a table's tree, if it has a layer
pub table_distinct : (found : Option (List Row)) → IsDistinctIn (Some (option_map tree_of_rows found))
table_distinct None = tt
table_distinct (Some rows) = sym (ap is_distinct (rows_added rows)) ∙ rows_distinct [] rows refl

-- Each entry of the tree stands at a path.

read_paths : (before : List Row) (row : Row) (found : Result Path PathError) → path_of row.path ≡ found
    → AllByRecursion (λ (e : Stored). IsRead e.path) (option_to_list (entry_read before row found))
read_paths before row (Err error) is = tt
read_paths before row (Ok path) is = by_test (have before path) where
  by_test : (b : Bool) → AllByRecursion (λ (e : Stored). IsRead e.path) (option_to_list (cond b None (Some (record { path = path; item = item_of row.kind row.bytes }))))
  by_test true = tt
  by_test false = ((row.path, is), tt)

rows_paths : (before rows : List Row) → AllByRecursion (λ (e : Stored). IsRead e.path) (entries_after before rows)
rows_paths before [] = tt
rows_paths before (row ∷ rows) =
    all_both (λ (e : Stored). IsRead e.path) (option_to_list (entry_after before row)) (entries_after (row ∷ before) rows)
    (read_paths before row (path_of row.path) refl) (rows_paths (row ∷ before) rows)

-- a table's tree, if it has a layer
pub table_paths : (found : Option (List Row)) → ArePathsIn (Some (option_map tree_of_rows found))
table_paths None = tt
table_paths (Some rows) = rows_paths [] rows
