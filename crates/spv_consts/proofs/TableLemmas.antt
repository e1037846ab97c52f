-- A constant found by its place, and a constant added at the end.
use Rattle.std.proofs.Common.{◌≡◌, ◌∙◌, ℕ, suc, ◌+◌, ◌≤◌, ◌==◌, Bool, true, false, List, [], ◌∷◌, ◌++◌, length, length-append, append_assoc, take, drop, drop_of_length-le, get_or, Option, Some, None, refl, sym, ap, subst, arith}
use Rattle.std.specs.Prelude.{if◌then◌else◌}
use Rattle.std.specs.List.{AllByRecursion}
use Rattle.std.specs.Option.{option_map, option_or}
use Rattle.std.proofs.lemmas.List.{drop-append-le, drop-drop, length-drop, length-take, map-append, take-append-drop, take-append-le}
use Rattle.std.proofs.Math.Seq.{drop-append_seam, take-append_seam}
use Rattle.spv_base.specs.Entries.{reads}
use Rattle.spv_base.specs.Cell.{Cell}
use Rattle.spv_index.specs.Firsts.{place_of, slot}
use Rattle.spv_index.proofs.Exports.{place_push}
use Rattle.spv_consts.specs.declared.table.Entry.{Entry}
use Rattle.spv_consts.specs.declared.table.RowPlace.{RowPlace}
use Rattle.spv_consts.specs.Table.{AreInRow, AreRows, Constants, all_cells, entry_row, place_from, row_at, rows_of}

-- ---- entries one behind the other

-- entries within some cells, and the places of their ids
pub record AreHeld (cells : List Cell) (entries : List Entry) (places : List (Option ℕ)) : Type 0 where
  pub within : AllByRecursion (λ (e : Entry). e.start + e.len ≤ length cells) entries
  pub places_are : (id : ℕ) → slot places id ≡ place_of (rows_of cells entries) id

-- where they begin and where they end
row_ends : (start end : ℕ) (es : List Entry) → AreInRow start es end → start ≤ end
row_ends start end [] h = omega arith
row_ends start end (e ∷ es) h = let rest = row_ends (start + e.len) end es h.1 in omega arith

within_row : (start end : ℕ) (es : List Entry) → AreInRow start es end → AllByRecursion (λ (e : Entry). e.start + e.len ≤ end) es
within_row start end [] h = tt
within_row start end (e ∷ es) h = let rest = row_ends (start + e.len) end es h.1 in (omega (arith, h.0), within_row (start + e.len) end es h.1)

pub held : (cells : List Cell) (es : List Entry) (places : List (Option ℕ)) → AreRows cells es places → AreHeld cells es places
held cells es places rows = record { within = within_row 0 (length cells) es rows.in_row; places_are = rows.places_are }

-- one more at the end
row_push : (start end : ℕ) (es : List Entry) (e : Entry) → AreInRow start es end → e.start ≡ end → AreInRow start (es ++ e ∷ []) (end + e.len)
row_push start end [] e h at = (at ∙ sym h, ap (λ n. n + e.len) h)
row_push start end (x ∷ es) e h at = (h.0, row_push (start + x.len) end es e h.1 at)

pub row_more : (cells more now : List Cell) (es : List Entry) (places : List (Option ℕ)) (e : Entry) → AreRows cells es places → now ≡ cells ++ more → e.start ≡ length cells → e.len ≡ length more → AreInRow 0 (es ++ e ∷ []) (length now)
row_more cells more now es places e rows is at long =
    let end : length cells + e.len ≡ length now = rw (is, long) (sym (length-append cells more)) in
    subst (λ (n : ℕ). AreInRow 0 (es ++ e ∷ []) n) end (row_push 0 (length cells) es e rows.in_row at)

-- their rows take all cells from the first on
rows_take : (cells : List Cell) (start : ℕ) (es : List Entry) → AreInRow start es (length cells) → all_cells (rows_of cells es) ≡ drop start cells
rows_take cells start [] h = sym (drop_of_length-le cells (omega (arith, h)))
rows_take cells start (e ∷ es) h =
    rw (h.0, rows_take cells (start + e.len) es h.1, ← drop-drop e.len start cells) (take-append-drop e.len (drop start cells))

pub all_taken : (cells : List Cell) (es : List Entry) (places : List (Option ℕ)) → AreRows cells es places → all_cells (rows_of cells es) ≡ cells
all_taken cells es places rows = rows_take cells 0 es rows.in_row

-- the place of an entry's row
abbrev pub place_at : Entry → RowPlace
place_at e = record { ty = e.ty; start = e.start; len = e.len }

row_long : (cells : List Cell) (e : Entry) → e.start + e.len ≤ length cells → length (take e.len (drop e.start cells)) ≡ e.len
row_long cells e h = omega (arith, h, length-take e.len (drop e.start cells), length-drop e.start cells)

row_found : (cells : List Cell) (start : ℕ) (es : List Entry) (id k : ℕ) (e : Entry) → AreInRow start es (length cells) → place_of (rows_of cells es) id ≡ Some k → e ≡ get_or es k e
    → place_from start (rows_of cells es) id ≡ Some (place_at e)
row_found cells start [] id k e h found is = cc
row_found cells start (x ∷ es) id k e h found is = by_test (λ j found is. row_found cells (start + x.len) es id j e h.1 found is) (x.id == id) k found is
  where
    long : length (take x.len (drop x.start cells)) ≡ x.len
    long = row_long cells x (within_row start (length cells) (x ∷ es) h).0

    by_place : ((j : ℕ) → place_of (rows_of cells es) id ≡ Some j → e ≡ get_or es j e → place_from (start + x.len) (rows_of cells es) id ≡ Some (place_at e)) → (o : Option ℕ) (k : ℕ) → place_of (rows_of cells es) id ≡ o → option_map suc o ≡ Some k → e ≡ get_or (x ∷ es) k e → place_from (start + length (take x.len (drop x.start cells))) (rows_of cells es) id ≡ Some (place_at e)
    by_place behind None k found same is = cc
    by_place behind (Some j) k found same is = let number : suc j ≡ k = cc in rw long (behind j found (subst (λ (n : ℕ). e ≡ get_or (x ∷ es) n e) (sym number) is))

    by_test : ((j : ℕ) → place_of (rows_of cells es) id ≡ Some j → e ≡ get_or es j e → place_from (start + x.len) (rows_of cells es) id ≡ Some (place_at e))
        → (b : Bool) (k : ℕ) → (if b then Some 0 else option_map suc (place_of (rows_of cells es) id)) ≡ Some k → e ≡ get_or (x ∷ es) k e
        → (if b then Some (record { ty = x.ty; start = start; len = length (take x.len (drop x.start cells)) }) else place_from (start + length (take x.len (drop x.start cells))) (rows_of cells es) id) ≡ Some (place_at e)
    by_test behind true k found is =
        let first : 0 ≡ k = cc in
        let same : e ≡ x = subst (λ (n : ℕ). e ≡ get_or (x ∷ es) n e) (sym first) is in
        rw (same, long, h.0) refl
    by_test behind false k found is = by_place behind (place_of (rows_of cells es) id) k refl found is

pub entry_place : (cells : List Cell) (es : List Entry) (places : List (Option ℕ)) (id k : ℕ) (e : Entry) → AreRows cells es places → place_of (rows_of cells es) id ≡ Some k → e ≡ get_or es k e
    → place_from 0 (rows_of cells es) id ≡ Some (place_at e)
entry_place cells es places id k e rows found is = row_found cells 0 es id k e rows.in_row found is

pub no_place : (start : ℕ) (cs : Constants) (id : ℕ) → place_of cs id ≡ None → place_from start cs id ≡ None
no_place start [] id h = refl
no_place start (c ∷ cs) id h = step (c.0 == id) (place_of cs id) (place_from (start + length c.1.cells) cs id) h (no_place (start + length c.1.cells) cs id)
  where
    step : (b : Bool) (o : Option ℕ) (p : Option RowPlace) → (if b then Some 0 else option_map suc o) ≡ None → (o ≡ None → p ≡ None) → (if b then Some (record { ty = c.1.ty; start = start; len = length c.1.cells }) else p) ≡ None
    step true o p h ih = cc
    step false None p h ih = ih refl
    step false (Some m) p h ih = cc

-- the row at the place of an id is the row of that id
row_there : (before : List Cell) (cs : Constants) (id : ℕ) (all : List Cell) → all ≡ before ++ all_cells cs
    → option_map (λ (p : RowPlace). record { ty = p.ty; cells = take p.len (drop p.start all) }) (place_from (length before) cs id) ≡ reads id cs
row_there before [] id all is = refl
row_there before (c ∷ cs) id all is = by_test (row_there (before ++ c.1.cells) cs id all (is ∙ sym (append_assoc before c.1.cells (all_cells cs)))) (c.0 == id)
  where
    own : take (length c.1.cells) (drop (length before) all) ≡ c.1.cells
    own = rw (is, drop-append_seam before (c.1.cells ++ all_cells cs)) (take-append_seam c.1.cells (all_cells cs))

    by_test : option_map (λ (p : RowPlace). record { ty = p.ty; cells = take p.len (drop p.start all) }) (place_from (length (before ++ c.1.cells)) cs id) ≡ reads id cs
        → (b : Bool)
        → option_map (λ (p : RowPlace). record { ty = p.ty; cells = take p.len (drop p.start all) }) (if b then Some (record { ty = c.1.ty; start = length before; len = length c.1.cells }) else place_from (length before + length c.1.cells) cs id)
        ≡ (if b then Some c.1 else reads id cs)
    by_test behind true = rw own refl
    by_test behind false = rw (length-append before c.1.cells) at behind

pub row_is : (cs : Constants) (id : ℕ) → option_map (row_at cs) (place_from 0 cs id) ≡ reads id cs
row_is cs id = row_there [] cs id (all_cells cs) refl

-- ---- entries in one list of cells

pub rows_long : (cells : List Cell) (es : List Entry) → length (rows_of cells es) ≡ length es
rows_long cells [] = refl
rows_long cells (e ∷ es) = ap suc (rows_long cells es)

-- ---- more cells

row_kept : (cells more : List Cell) (e : Entry) → e.start + e.len ≤ length cells → entry_row (cells ++ more) e ≡ entry_row cells e
row_kept cells more e h =
    let from : e.start ≤ length cells = omega arith in
    let to : e.len ≤ length (drop e.start cells) = omega (arith, length-drop e.start cells) in
    rw (drop-append-le e.start cells more from, take-append-le e.len (drop e.start cells) more to) refl

rows_kept : (cells more : List Cell) (es : List Entry) → AllByRecursion (λ (e : Entry). e.start + e.len ≤ length cells) es → rows_of (cells ++ more) es ≡ rows_of cells es
rows_kept cells more [] h = refl
rows_kept cells more (e ∷ es) h = rw (row_kept cells more e h.0, rows_kept cells more es h.1) refl

within_more : (cells more : List Cell) (es : List Entry) → AllByRecursion (λ (e : Entry). e.start + e.len ≤ length cells) es → AllByRecursion (λ (e : Entry). e.start + e.len ≤ length (cells ++ more)) es
within_more cells more [] h = tt
within_more cells more (e ∷ es) h = (omega (arith, h.0, length-append cells more), within_more cells more es h.1)

pub same_rows : (cells more now : List Cell) (es : List Entry) (places : List (Option ℕ)) → AreHeld cells es places → now ≡ cells ++ more → rows_of now es ≡ rows_of cells es
same_rows cells more now es places rows e = rw e (rows_kept cells more es rows.within)

pub more_cells : (cells more now : List Cell) (es : List Entry) (places : List (Option ℕ)) → AreHeld cells es places → now ≡ cells ++ more → AreHeld now es places
more_cells cells more now es places rows e = rw e (record {
  within = within_more cells more es rows.within;
  places_are = λ id. rows.places_are id ∙ ap (λ (cs : Constants). place_of cs id) (sym (rows_kept cells more es rows.within));
})

-- ---- one more entry

new_row : (cells more : List Cell) (n : ℕ) → n ≡ length more → take n (drop (length cells) (cells ++ more)) ≡ more
new_row cells more n h = rw (drop-append_seam cells more, h) (all more)
  where
    all : (xs : List Cell) → take (length xs) xs ≡ xs
    all [] = refl
    all (x ∷ xs) = ap (λ (ys : List Cell). x ∷ ys) (all xs)

within_push : (k : ℕ) (es : List Entry) (e : Entry) → AllByRecursion (λ (e : Entry). e.start + e.len ≤ k) es → e.start + e.len ≤ k → AllByRecursion (λ (e : Entry). e.start + e.len ≤ k) (es ++ e ∷ [])
within_push k [] e h last = (last, tt)
within_push k (x ∷ es) e h last = (h.0, within_push k es e h.1 last)

-- the rows with one more, of the cells that were added last
pub pushed_rows : (cells more now : List Cell) (es : List Entry) (places : List (Option ℕ)) (id ty start len : ℕ) → AreHeld cells es places → now ≡ cells ++ more → start ≡ length cells → len ≡ length more
    → rows_of now (es ++ record { id = id; ty = ty; start = start; len = len } ∷ []) ≡ rows_of cells es ++ (id, record { ty = ty; cells = more }) ∷ []
pushed_rows cells more now es places id ty start len rows e from long =
    map-append (entry_row now) es (record { id = id; ty = ty; start = start; len = len } ∷ [])
    ∙ rw (same_rows cells more now es places rows e, from, e, new_row cells more len long) refl

-- whose place is put under its id
pub pushed : (cells : List Cell) (es : List Entry) (places now : List (Option ℕ)) (e : Entry) (n : ℕ) → AreHeld cells es places → e.start + e.len ≤ length cells → n ≡ length es
    → ((q : ℕ) → slot now q ≡ option_or (slot places q) (if e.id == q then Some n else None)) → AreHeld cells (es ++ e ∷ []) now
pushed cells es places now e n rows inside number put = record {
  within = within_push (length cells) es e rows.within inside;
  places_are = λ q. put q ∙ rw (rows.places_are q, number, map-append, place_push, rows_long) refl;
}
