-- The pages of rows, one after the other, are all rows; each but the last is full, and none is empty.
use Rattle.std.specs.Prelude.{◌≡◌, ℕ, ◌+◌, ◌-◌, ◌*◌, ◌/◌, ◌%◌, ◌<◌, ◌≤◌, min, List, ◌++◌, take, drop, length, refl}
use Rattle.std.specs.List.{flat_map, range_with_len}
use Rattle.std.proofs.Common.{ap, arith, drop-drop, length-drop, length-take, suc, sym, take-add, take_all, zero, ◌∙◌}
use Rattle.std.proofs.Math.Nat.{mul-le-mul_left}
use Rattle.cv_base.specs.declared.finding.Row.{Row}
use Rattle.cv_core_records.specs.Pages.{page_count, page_rows}

-- as many pages as are counted have room for all
enough_by : (n size r : ℕ) → 1 ≤ size → n % size ≡ r → n ≤ (n / size + min 1 r) * size
enough_by n size zero s e = let q : n / size + min 1 0 ≡ n / size = omega arith in rw q (omega (arith, e))
enough_by n size (suc r) s e = let q : n / size + min 1 (suc r) ≡ n / size + 1 = omega arith in rw q (omega (arith, e))

-- a page that there is begins before the end
start_by : (n size p r : ℕ) → 1 ≤ size → n % size ≡ r → p + 1 ≤ n / size + min 1 r → p * size < n
start_by n size p zero s e h = let h' : p + 1 ≤ n / size = omega arith in omega (arith, e, mul-le-mul_left size h')
start_by n size p (suc r) s e h = let h' : p ≤ n / size = omega arith in omega (arith, e, mul-le-mul_left size h')

-- a page before another one ends before the end
end_by : (n size p r : ℕ) → 1 ≤ size → p + 1 < n / size + min 1 r → p * size + size ≤ n
end_by n size p r s h = let h' : p + 1 ≤ n / size = omega arith in omega (arith, mul-le-mul_left size h')

pages_from : (n p size : ℕ) (rows : List Row) → flat_map (λ page. page_rows size page rows) (range_with_len (p + 1) n) ≡ take (n * size) (drop (p * size) rows)
pages_from zero p size rows = let none : 0 ≡ 0 * size = omega arith in ap (λ (m : ℕ). take m (drop (p * size) rows)) none
pages_from (suc n) p size rows =
    let later : List Row = flat_map (λ page. page_rows size page rows) (range_with_len (p + 1 + 1) n) in
    let back : p + 1 - 1 ≡ p = omega arith in
    let next : (p + 1) * size ≡ p * size + size = omega arith in
    let more : size + n * size ≡ suc n * size = omega arith in
    ap (λ (q : ℕ). take size (drop (q * size) rows) ++ later) back
    ∙ ap (λ (xs : List Row). take size (drop (p * size) rows) ++ xs) (
    pages_from n (p + 1) size rows
    ∙ ap (λ (m : ℕ). take (n * size) (drop m rows)) next
    ∙ ap (λ (xs : List Row). take (n * size) xs) (sym (drop-drop size (p * size) rows))
    )
    ∙ sym (take-add size (n * size) (drop (p * size) rows))
    ∙ ap (λ (m : ℕ). take m (drop (p * size) rows)) more

pub pages_whole : (rows : List Row) (size : ℕ) → 1 ≤ size → flat_map (λ page. page_rows size page rows) (range_with_len 1 (page_count size rows)) ≡ rows
pages_whole rows size s =
    let none : 0 * size ≡ 0 = omega arith in
    pages_from (page_count size rows) 0 size rows
    ∙ ap (λ (m : ℕ). take (page_count size rows * size) (drop m rows)) none
    ∙ take_all (page_count size rows * size) rows (enough_by (length rows) size (length rows % size) s refl)

pub page_full : (rows : List Row) (size page : ℕ) → 1 ≤ size → 1 ≤ page → page < page_count size rows → length (page_rows size page rows) ≡ size
page_full rows size page s p h =
    let room = end_by (length rows) size (page - 1) (length rows % size) s (omega (arith, h)) in
    omega (arith, length-take size (drop ((page - 1) * size) rows), length-drop ((page - 1) * size) rows, room)

pub page_not_empty : (rows : List Row) (size page : ℕ) → 1 ≤ size → 1 ≤ page → page ≤ page_count size rows → 0 < length (page_rows size page rows)
page_not_empty rows size page s p h =
    let room = start_by (length rows) size (page - 1) (length rows % size) s refl (omega (arith, h)) in
    omega (arith, length-take size (drop ((page - 1) * size) rows), length-drop ((page - 1) * size) rows, room)
