-- Values of one outline: a value is its outline and its leaves, and a path names parts of one outline in both, behind as many leaves.
use Rattle.std.proofs.Common.{◌≡◌, ◌∙◌, ℕ, ◌+◌, List, [], ◌∷◌, ◌++◌, Option, Some, None, map, length, length-append, take, drop, take_at, drop_at, slice_get, refl, sym, ap, subst, rules}
use Rattle.std.specs.List.{flat_map}
use Rattle.std.specs.Option.{option_and_then, option_map, option_map_or}
use Rattle.std.proofs.lemmas.Option.{slice_get-map}
use Rattle.std.proofs.lemmas.List.{take-map}
use Rattle.spv_base.specs.Cell.{Cell, undefined_cell}
use Rattle.spv_base.specs.Parts.{part_at, parts_in}
use Rattle.spv_base.specs.declared.values.Pointer.{Pointer}
use Rattle.spv_base.specs.declared.values.Value.{Value, Scalar, List as Many, Ptr, ind-Value, map-Value, out-Value, roll-Value, the_lemmas}
use Rattle.spv_base.specs.declared.values.Value.TheOpen.{Value-F}
use Rattle.spv_types.specs.Rows.{leaves}
use Rattle.spv_types.proofs.Exports.{leaves_many, leaves_scalar, many_by, many_row, pointer_by, scalar_by}
use Rattle.spv_mem.specs.Targets.{count_in}
use Rattle.std.proofs.lemmas.List.{length-map}
use Rattle.spv_touch.specs.Ranges.{before, count}
use Rattle.spv_touch.specs.Views.{outline}

-- ---- by the outermost level

pub outline_scalar : (c : Cell) → outline (Scalar c) ≡ Scalar (undefined_cell 0)
unfolding outline
outline_scalar c = search (rules, the_lemmas)

pub outline_many : (vs : List Value) → outline (Many vs) ≡ Many (map outline vs)
unfolding outline
outline_many vs = search (rules, the_lemmas)

outline_pointer : (q : Pointer) → outline (Ptr q) ≡ Ptr q
unfolding outline
outline_pointer q = search (rules, the_lemmas)

out_scalar : (c : Cell) → out-Value (Scalar c) ≡ Value-F.Scalar c
out_scalar c = search (rules, the_lemmas)

out_many : (vs : List Value) → out-Value (Many vs) ≡ Value-F.List vs
out_many vs = search (rules, the_lemmas)

out_pointer : (q : Pointer) → out-Value (Ptr q) ≡ Value-F.Ptr q
out_pointer q = search (rules, the_lemmas)

abbrev levelled : Value-F Value → Value-F Value
levelled (Value-F.Scalar c) = Value-F.Scalar (undefined_cell 0)
levelled (Value-F.List vs) = Value-F.List (map outline vs)
levelled (Value-F.Ptr q) = Value-F.Ptr q

out_outline : (v : Value) → out-Value (outline v) ≡ levelled (out-Value v)
out_outline v = level (out-Value v) refl
  where
    level : (l : Value-F Value) → out-Value v ≡ l → out-Value (outline v) ≡ levelled l
    level (Value-F.Scalar c) e = ap (λ (x : Value). out-Value (outline x)) (scalar_by v c e) ∙ ap out-Value (outline_scalar c) ∙ out_scalar (undefined_cell 0)
    level (Value-F.List vs) e = ap (λ (x : Value). out-Value (outline x)) (many_by v vs e) ∙ ap out-Value (outline_many vs) ∙ out_many (map outline vs)
    level (Value-F.Ptr q) e = ap (λ (x : Value). out-Value (outline x)) (pointer_by v q e) ∙ ap out-Value (outline_pointer q) ∙ out_pointer q

-- values of one outline have levels of one outline
levels : (v w : Value) → outline v ≡ outline w → levelled (out-Value v) ≡ levelled (out-Value w)
levels v w h = sym (out_outline v) ∙ ap out-Value h ∙ out_outline w

-- ---- as many leaves

abbrev IsCounted : Value → Type 0
IsCounted v = count (outline v) ≡ count v

abbrev Counted : Type 0
Counted = (v : Value) × IsCounted v

abbrev counteds : List Counted → List Value
counteds es = map (λ (e : Counted). e.0) es

each_counted : (es : List Counted) → length (flat_map leaves (map outline (counteds es))) ≡ length (flat_map leaves (counteds es))
each_counted [] = refl
each_counted (e ∷ es) =
    length-append (leaves (outline e.0)) (flat_map leaves (map outline (counteds es))) ∙ ap (λ (n : ℕ). n + length (flat_map leaves (map outline (counteds es)))) e.1
    ∙ ap (λ (n : ℕ). count e.0 + n) (each_counted es) ∙ sym (length-append (leaves e.0) (flat_map leaves (counteds es)))

scalar_counted : (c : Cell) → IsCounted (Scalar c)
scalar_counted c = ap count (outline_scalar c) ∙ ap length (leaves_scalar (undefined_cell 0)) ∙ sym (ap length (leaves_scalar c))

many_counted : (es : List Counted) → IsCounted (Many (counteds es))
many_counted es =
    ap count (outline_many (counteds es)) ∙ ap length (leaves_many (map outline (counteds es))) ∙ each_counted es ∙ sym (ap length (leaves_many (counteds es)))

pointer_counted : (q : Pointer) → IsCounted (Ptr q)
pointer_counted q = ap count (outline_pointer q)

level_counted : (x : Value-F Value) (y : Value-F Counted) → map-Value Counted Value (λ (e : Counted). e.0) y ≡ x → IsCounted (roll-Value x)
unfolding roll-Value denote.Hole.Carrier.roll
level_counted x (Value-F.Scalar c) is = subst (λ (z : Value-F Value). IsCounted (roll-Value z)) is (scalar_counted c)
level_counted x (Value-F.List es) is = subst (λ (z : Value-F Value). IsCounted (roll-Value z)) is (many_counted es)
level_counted x (Value-F.Ptr q) is = subst (λ (z : Value-F Value). IsCounted (roll-Value z)) is (pointer_counted q)

pub outline_count : (v : Value) → count (outline v) ≡ count v
outline_count = ind-Value IsCounted level_counted

pub same_count : (v w : Value) → outline v ≡ outline w → count v ≡ count w
same_count v w h = sym (outline_count v) ∙ ap count h ∙ outline_count w

-- ---- the value

abbrev IsTold : Value → Type 0
IsTold v = (w : Value) → outline v ≡ outline w → leaves v ≡ leaves w → v ≡ w

abbrev Told : Type 0
Told = (v : Value) × IsTold v

abbrev tolds : List Told → List Value
tolds es = map (λ (e : Told). e.0) es

-- two lists that begin with as many items
split : (a b c d : List Cell) → length a ≡ length b → a ++ c ≡ b ++ d → (a ≡ b) × (c ≡ d)
split a b c d l h = (
  sym (take_at a c (length b) l) ∙ ap (take (length b)) h ∙ take_at b d (length b) refl,
  sym (drop_at a c (length b) l) ∙ ap (drop (length b)) h ∙ drop_at b d (length b) refl,
)

each_told : (es : List Told) (ws : List Value) → map outline (tolds es) ≡ map outline ws → flat_map leaves (tolds es) ≡ flat_map leaves ws → tolds es ≡ ws
each_told [] [] o h = refl
each_told [] (w ∷ ws) o h = cc
each_told (e ∷ es) [] o h = cc
each_told (e ∷ es) (w ∷ ws) o h =
    let one : outline e.0 ≡ outline w = cc in
    let more : map outline (tolds es) ≡ map outline ws = cc in
    let parts = split (leaves e.0) (leaves w) (flat_map leaves (tolds es)) (flat_map leaves ws) (same_count e.0 w one) h in
    let first : e.0 ≡ w = e.1 w one parts.0 in
    let rest : tolds es ≡ ws = each_told es ws more parts.1 in
    cc

scalar_told : (c : Cell) → IsTold (Scalar c)
scalar_told c w o h = level (out-Value w) refl (sym (ap levelled (out_scalar c)) ∙ levels (Scalar c) w o)
  where
    level : (l : Value-F Value) → out-Value w ≡ l → Value-F.Scalar (undefined_cell 0) ≡ levelled (out-Value w) → Scalar c ≡ w
    level (Value-F.Scalar d) e k =
        let is : w ≡ Scalar d = scalar_by w d e in
        let rows : c ∷ [] ≡ d ∷ [] = sym (leaves_scalar c) ∙ h ∙ ap leaves is ∙ leaves_scalar d in
        let same : c ≡ d = cc in
        ap Scalar same ∙ sym is
    level (Value-F.List ws) e k = let f : levelled (out-Value w) ≡ Value-F.List (map outline ws) = ap levelled e in cc
    level (Value-F.Ptr q) e k = let f : levelled (out-Value w) ≡ Value-F.Ptr q = ap levelled e in cc

pointer_told : (q : Pointer) → IsTold (Ptr q)
pointer_told q w o h = level (out-Value w) refl (sym (ap levelled (out_pointer q)) ∙ levels (Ptr q) w o)
  where
    level : (l : Value-F Value) → out-Value w ≡ l → Value-F.Ptr q ≡ levelled (out-Value w) → Ptr q ≡ w
    level (Value-F.Scalar d) e k = let f : levelled (out-Value w) ≡ Value-F.Scalar (undefined_cell 0) = ap levelled e in cc
    level (Value-F.List ws) e k = let f : levelled (out-Value w) ≡ Value-F.List (map outline ws) = ap levelled e in cc
    level (Value-F.Ptr r) e k =
        let f : levelled (out-Value w) ≡ Value-F.Ptr r = ap levelled e in
        let same : q ≡ r = cc in
        ap Ptr same ∙ sym (pointer_by w r e)

many_told : (es : List Told) → IsTold (Many (tolds es))
many_told es w o h = level (out-Value w) refl (sym (ap levelled (out_many (tolds es))) ∙ levels (Many (tolds es)) w o)
  where
    level : (l : Value-F Value) → out-Value w ≡ l → Value-F.List (map outline (tolds es)) ≡ levelled (out-Value w) → Many (tolds es) ≡ w
    level (Value-F.Scalar d) e k = let f : levelled (out-Value w) ≡ Value-F.Scalar (undefined_cell 0) = ap levelled e in cc
    level (Value-F.Ptr r) e k = let f : levelled (out-Value w) ≡ Value-F.Ptr r = ap levelled e in cc
    level (Value-F.List ws) e k =
        let f : levelled (out-Value w) ≡ Value-F.List (map outline ws) = ap levelled e in
        let outlines : map outline (tolds es) ≡ map outline ws = cc in
        let rows : flat_map leaves (tolds es) ≡ flat_map leaves ws = sym (leaves_many (tolds es)) ∙ h ∙ many_row w ws e in
        ap Many (each_told es ws outlines rows) ∙ sym (many_by w ws e)

level_told : (x : Value-F Value) (y : Value-F Told) → map-Value Told Value (λ (e : Told). e.0) y ≡ x → IsTold (roll-Value x)
unfolding roll-Value denote.Hole.Carrier.roll
level_told x (Value-F.Scalar c) is = subst (λ (z : Value-F Value). IsTold (roll-Value z)) is (scalar_told c)
level_told x (Value-F.List es) is = subst (λ (z : Value-F Value). IsTold (roll-Value z)) is (many_told es)
level_told x (Value-F.Ptr q) is = subst (λ (z : Value-F Value). IsTold (roll-Value z)) is (pointer_told q)

-- a value is its outline and its leaves
pub same_value : (v w : Value) → outline v ≡ outline w → leaves v ≡ leaves w → v ≡ w
same_value = ind-Value IsTold level_told

-- ---- parts

pub part_outline : (path : List ℕ) (v : Value) → option_map outline (part_at v path) ≡ part_at (outline v) path
part_outline [] v = refl
part_outline (k ∷ path) v =
    level (part_outline path) (out-Value v) ∙ ap (λ (l : Value-F Value). option_and_then (λ u. part_at u path) (option_and_then (λ vs. slice_get vs k) (parts_in l))) (sym (out_outline v))
  where
    item : ((u : Value) → option_map outline (part_at u path) ≡ part_at (outline u) path) → (o : Option Value)
        → option_map outline (option_and_then (λ u. part_at u path) o) ≡ option_and_then (λ u. part_at u path) (option_map outline o)
    item inner None = refl
    item inner (Some u) = inner u

    level : ((u : Value) → option_map outline (part_at u path) ≡ part_at (outline u) path) → (l : Value-F Value)
        → option_map outline (option_and_then (λ u. part_at u path) (option_and_then (λ vs. slice_get vs k) (parts_in l)))
        ≡ option_and_then (λ u. part_at u path) (option_and_then (λ vs. slice_get vs k) (parts_in (levelled l)))
    level inner (Value-F.Scalar c) = refl
    level inner (Value-F.Ptr q) = refl
    level inner (Value-F.List vs) = item inner (slice_get vs k) ∙ ap (option_and_then (λ u. part_at u path)) (sym (slice_get-map outline vs k))

-- values of one outline have parts of one outline
pub same_parts : (v w : Value) (path : List ℕ) → outline v ≡ outline w → option_map outline (part_at v path) ≡ option_map outline (part_at w path)
same_parts v w path h = part_outline path v ∙ ap (λ (x : Value). part_at x path) h ∙ sym (part_outline path w)

many_outlined : (vs : List Value) → count (Many (map outline vs)) ≡ count (Many vs)
many_outlined vs = ap count (sym (outline_many vs)) ∙ outline_count (Many vs)

abbrev before_in : ℕ → List ℕ → Option (List Value) → ℕ
before_in k path o = option_map_or (λ vs. count (Many (take k vs)) + option_map_or (λ u. before u path) (slice_get vs k) 0) o 0

before_outline : (path : List ℕ) (v : Value) → before (outline v) path ≡ before v path
before_outline [] v = refl
before_outline (k ∷ path) v = ap (λ (l : Value-F Value). before_in k path (parts_in l)) (out_outline v) ∙ level (before_outline path) (out-Value v)
  where
    item : ((u : Value) → before (outline u) path ≡ before u path) → (o : Option Value) → option_map_or (λ u. before u path) (option_map outline o) 0 ≡ option_map_or (λ u. before u path) o 0
    item inner None = refl
    item inner (Some u) = inner u

    level : ((u : Value) → before (outline u) path ≡ before u path) → (l : Value-F Value) → before_in k path (parts_in (levelled l)) ≡ before_in k path (parts_in l)
    level inner (Value-F.Scalar c) = refl
    level inner (Value-F.Ptr q) = refl
    level inner (Value-F.List vs) =
        ap (λ (xs : List Value). count (Many xs) + option_map_or (λ u. before u path) (slice_get (map outline vs) k) 0) (take-map outline k vs)
        ∙ ap (λ (n : ℕ). n + option_map_or (λ u. before u path) (slice_get (map outline vs) k) 0) (many_outlined (take k vs))
        ∙ ap (λ (o : Option Value). count (Many (take k vs)) + option_map_or (λ u. before u path) o 0) (slice_get-map outline vs k)
        ∙ ap (λ (n : ℕ). count (Many (take k vs)) + n) (item inner (slice_get vs k))

-- and a part stands behind as many leaves in both
pub same_before : (v w : Value) (path : List ℕ) → outline v ≡ outline w → before v path ≡ before w path
same_before v w path h = sym (before_outline path v) ∙ ap (λ (x : Value). before x path) h ∙ before_outline path w

-- how many parts a value has is told by its outline
pub count_outline : (v : Value) → count_in (outline v) ≡ count_in v
count_outline v = ap (λ (l : Value-F Value). option_map_or length (parts_in l) 0) (out_outline v) ∙ level (out-Value v)
  where
    level : (l : Value-F Value) → option_map_or length (parts_in (levelled l)) 0 ≡ option_map_or length (parts_in l) 0
    level (Value-F.Scalar c) = refl
    level (Value-F.Ptr q) = refl
    level (Value-F.List vs) = length-map vs outline

pub same_counts : (a b : Option Value) → option_map outline a ≡ option_map outline b → option_map count_in a ≡ option_map count_in b
same_counts None None h = refl
same_counts None (Some w) h = cc
same_counts (Some v) None h = cc
same_counts (Some v) (Some w) h =
    let same : outline v ≡ outline w = cc in
    ap (λ (n : ℕ). Some n) (sym (count_outline v) ∙ ap count_in same ∙ count_outline w)
