-- How many reads a load makes.
use Rattle.std.proofs.Common.{◌≡◌, ℕ, zero, suc, ◌+◌, ◌-◌, ◌^◌, ◌≤◌, Bool, true, false, ◌&&◌, ◌||◌, not, cond, min, List, [], ◌∷◌, ◌++◌, map, Option, Some, None, is_none, refl, sym, ◌∙◌, ap, arith}
use Rattle.std.specs.Prelude.{IfOk, IfSome, OnOk, Result, Ok, Err}
use Rattle.std.specs.Option.{option_map}
use Rattle.std.specs.List.{count_by}
use Rattle.std.proofs.lemmas.Bool.{false≢true}
use Rattle.std.proofs.lemmas.List.Sums.{sum_by-append, sum_by-cons}
use Rattle.cv_base.specs.Path.{Path}
use Rattle.cv_base.specs.Place.{place_of}
use Rattle.cv_base.specs.declared.tree.Kind.{Kind}
use Rattle.cv_base.specs.declared.tree.Kind.TheVariants as kind
use Rattle.cv_base.specs.declared.tree.ListEntry.{ListEntry}
use Rattle.cv_base.specs.declared.tree.Node.{Node}
use Rattle.cv_base.specs.declared.tree.Node.TheVariants as node
use Rattle.cv_base.specs.declared.tree.Tree.{Tree}
use Rattle.cv_base.specs.declared.tree.TreeEntry.{TreeEntry}
use Rattle.cv_desk.specs.declared.desk.DeskFault.{DeskFault}
use Rattle.cv_desk.specs.Counts.{HasReads, count_after, is_file, is_other, is_package_file, is_package_other, package_files}
use Rattle.cv_desk.specs.Loaded.{loaded}
use Rattle.cv_desk.specs.Stored.{Item, Dir, File, Other, Stored, listed}
use Rattle.cv_desk.specs.code.Listed.{FitsFound, FitsReads, IsAnswer, files_to_read, is_file_kind, is_to_read}

-- one item more at the front
pub count_by-cons : {X : Type 0} (p : X → Bool) (x : X) (xs : List X) → count_by p (x ∷ xs) ≡ cond (p x) 1 0 + count_by p xs
count_by-cons p x xs = sum_by-cons (λ y. cond (p y) 1 0) x xs

-- one item more at the end
count_by-snoc : {X : Type 0} (p : X → Bool) (xs : List X) (x : X) → count_by p (xs ++ x ∷ []) ≡ count_by p xs + cond (p x) 1 0
count_by-snoc {X} p xs x =
    let whole : count_by p (xs ++ x ∷ []) ≡ count_by p xs + count_by p (x ∷ []) = sum_by-append (λ y. cond (p y) 1 0) xs (x ∷ []) in
    let last : count_by p (x ∷ []) ≡ cond (p x) 1 0 + 0 = count_by-cons p x [] in
    omega (arith, whole, last)

-- reads after reads
min_twice : (count some more most : ℕ) → min (min (count + suc some) most + suc more) most ≡ min (count + suc (some + suc more)) most
min_twice count some more most = omega arith

pub count_after-more : (count some more : ℕ) → count_after (count_after count some) more ≡ count_after count (some + more)
count_after-more count some zero = let e : some ≡ some + 0 = omega arith in ap (count_after count) e
count_after-more count zero (suc more) = let e : suc more ≡ 0 + suc more = omega arith in ap (count_after count) e
count_after-more count (suc some) (suc more) =
    let e : suc (some + suc more) ≡ suc some + suc more = omega arith in
    min_twice count some more (2 ^ 64 - 1) ∙ ap (count_after count) e

-- the reads of one more entry
pub reads_snoc : (count reads next : ℕ) (es : List ListEntry) (e : ListEntry) → reads ≡ count_after count (count_by is_to_read es) → next ≡ count_after reads (cond (is_to_read e) 1 0)
    → next ≡ count_after count (count_by is_to_read (es ++ e ∷ []))
reads_snoc count reads next es e h k =
    k ∙ ap (λ n. count_after n (cond (is_to_read e) 1 0)) h ∙ count_after-more count (count_by is_to_read es) (cond (is_to_read e) 1 0)
    ∙ ap (count_after count) (sym (count_by-snoc is_to_read es e))

-- one more entry and its answer
pub fits_snoc : (out longer : List TreeEntry) (es : List ListEntry) (o : TreeEntry) (e : ListEntry) → longer ≡ out ++ o ∷ [] → FitsReads out (count_by is_to_read es) → IsAnswer e o
    → FitsReads longer (count_by is_to_read (es ++ e ∷ []))
fits_snoc out longer es o e more fits answer =
    let files = ap (count_by is_package_file) more ∙ count_by-snoc is_package_file out o in
    let others = ap (count_by is_package_other) more ∙ count_by-snoc is_package_other out o in
    let reads = count_by-snoc is_to_read es e in
    record {
      at_least = omega (arith, files, reads, fits.at_least, answer.file);
      at_most = omega (arith, files, others, reads, fits.at_most, answer.read);
    }

-- a listed file is loaded as a file or as something else
pub answer_read : (path : Path) (size : ℕ) (found : Node) → is_file found || is_other found ≡ true
    → IsAnswer (record { path = path; kind = kind.File; size = size }) (record { path = path; node = found })
answer_read path size found h = record { file = (by (is_none (place_of path)) found h).0; read = (by (is_none (place_of path)) found h).1 } where
  by : (b : Bool) (n : Node) → is_file n || is_other n ≡ true
      → (cond (is_file n && not b) 1 0 ≤ cond (not b) 1 0) × (cond (not b) 1 0 ≤ cond (is_file n && not b) 1 0 + cond (is_other n && not b) 1 0)
  by b node.Dir k = absurd (false≢true k)
  by b (node.File content) k = (omega arith, omega arith)
  by true node.Other k = (omega arith, omega arith)
  by false node.Other k = (omega arith, omega arith)

-- a listed file is read at a place of package files, and nowhere else
pub file_reads : (path : Path) (k : Kind) (before now : ℕ) → k ≡ kind.File → now ≡ count_after before (cond (is_none (place_of path)) 0 1)
    → now ≡ count_after before (cond (is_file_kind k && not (is_none (place_of path))) 1 0)
file_reads path k before now e h = by (is_none (place_of path)) h ∙ ap (λ x. count_after before (cond (is_file_kind x && not (is_none (place_of path))) 1 0)) (sym e) where
  by : (b : Bool) → now ≡ count_after before (cond b 0 1) → now ≡ count_after before (cond (not b) 1 0)
  by true k = k
  by false k = k

-- nothing else is read
pub dir_reads : (path : Path) (k : Kind) (before now : ℕ) → k ≡ kind.Dir → now ≡ before → now ≡ count_after before (cond (is_file_kind k && not (is_none (place_of path))) 1 0)
dir_reads path k before now e h = h ∙ ap (λ x. count_after before (cond (is_file_kind x && not (is_none (place_of path))) 1 0)) (sym e)

pub other_reads : (path : Path) (k : Kind) (before now : ℕ) → k ≡ kind.Other → now ≡ before → now ≡ count_after before (cond (is_file_kind k && not (is_none (place_of path))) 1 0)
other_reads path k before now e h = h ∙ ap (λ x. count_after before (cond (is_file_kind x && not (is_none (place_of path))) 1 0)) (sym e)

-- the files to read of a known listing are the package files of the loaded layer
same_test : (path : Path) (item : Item) → is_to_read (listed (record { path = path; item = item })) ≡ is_package_file (loaded (record { path = path; item = item }))
same_test path Dir = refl
same_test path (File bytes) = refl
same_test path Other = refl

files_known : (es : List Stored) → count_by is_to_read (map listed es) ≡ count_by is_package_file (map loaded es)
files_known [] = refl
files_known (e ∷ es) =
    let same : cond (is_to_read (listed e)) 1 0 ≡ cond (is_package_file (loaded e)) 1 0 = ap (λ (b : Bool). cond {A = ℕ} b 1 0) (same_test e.path e.item) in
    let rest = files_known es in
    let reads = count_by-cons is_to_read (listed e) (map listed es) in
    let files = count_by-cons is_package_file (loaded e) (map loaded es) in
    omega (arith, same, rest, reads, files)

-- the entries of what was loaded
abbrev entries_in : Option Tree → Option (List TreeEntry)
entries_in found = option_map (λ tree. tree.entries) found

files_in : (out : Option Tree) (entries : Option (List Stored)) → entries_in out ≡ option_map (map loaded) entries
    → files_to_read (option_map (map listed) entries) ≡ package_files out
files_in None None h = refl
files_in None (Some es) h = absurd (cc)
files_in (Some tree) None h = absurd (cc)
files_in (Some tree) (Some es) h = let e : tree.entries ≡ map loaded es = cc in files_known es ∙ ap (count_by is_package_file) (sym e)

-- the reads of a load whose layer is known
pub reads_known : (tree : Option (Option (List Stored))) (found : Option (List ListEntry)) (r : Result (Option Tree) DeskFault) (before now : ℕ)
    → IfSome tree (λ t. found ≡ option_map (map listed) t) → IfSome tree (λ t. IfOk r (λ out. entries_in out ≡ option_map (map loaded) t))
    → OnOk r (now ≡ count_after before (files_to_read found)) → IfSome tree (λ _. IfOk r (λ out. now ≡ count_after before (package_files out)))
reads_known None found r before now h k reads = tt
reads_known (Some t) found (Err e) before now h k reads = tt
reads_known (Some t) found (Ok out) before now h k reads =
    reads ∙ ap (λ l. count_after before (files_to_read l)) h ∙ ap (count_after before) (files_in out t k)

-- the reads of any load
pub reads_any : (found : Option (List ListEntry)) (r : Result (Option Tree) DeskFault) (before now : ℕ) → OnOk r (now ≡ count_after before (files_to_read found))
    → IfOk r (λ out. FitsFound out (files_to_read found)) → IfOk r (λ out. HasReads out before now)
reads_any found (Err e) before now reads fits = tt
reads_any found (Ok None) before now reads fits = record { gone = 0; at_most = omega arith; counted = reads ∙ ap (count_after before) fits }
reads_any found (Ok (Some tree)) before now reads fits =
    let files = count_by is_package_file tree.entries in
    let gone : files + (files_to_read found - files) ≡ files_to_read found = omega (arith, fits.at_least) in
    record {
      gone = files_to_read found - files;
      at_most = omega (arith, fits.at_least, fits.at_most);
      counted = reads ∙ ap (count_after before) (sym gone);
    }
