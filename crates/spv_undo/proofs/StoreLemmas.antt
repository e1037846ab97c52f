-- A part of a variable that was stored, and the old one that is put back.
use Rattle.std.proofs.Common.{◌≡◌, ◌∙◌, ℕ, ◌+◌, ◌≤◌, true, List, ◌++◌, Option, Some, None, IsSome, length, length-append, take, drop, slice_get, unwrap_or, refl, sym, ap, subst, arith}
use Rattle.std.specs.Option.{option_and_then, option_map}
use Rattle.std.proofs.Math.Logic.{∥∥₁_elim, ∥∥₁_map}
use Rattle.std.proofs.Props.{props}
use Rattle.std.proofs.Math.Seq.{drop-append-add, drop-append_seam, take-append_seam}
use Rattle.std.proofs.lemmas.List.{length-take-le}
use Rattle.spv_base.specs.Entries.{reads, writes}
use Rattle.spv_base.specs.Cell.{Cell}
use Rattle.spv_base.specs.Parts.{part_at, with_part}
use Rattle.spv_base.specs.Variables.{Roots, root_id}
use Rattle.spv_base.specs.declared.values.Pointer.{Pointer}
use Rattle.spv_base.specs.declared.values.Root.{Root}
use Rattle.spv_base.specs.declared.values.Root.TheVariants.{Shared, Private, Local}
use Rattle.spv_base.specs.declared.values.Value.{Value}
use Rattle.spv_base.proofs.Exports.{change_back, writes_back, change_here, slice_get-set_same, reads_put, set_back, some_at}
use Rattle.spv_types.specs.Cells.{cells_of}
use Rattle.spv_types.specs.Rows.{leaves, no_roots}
use Rattle.spv_types.specs.Shapes.{HasShape, reached_type}
use Rattle.spv_types.specs.Types.{Types}
use Rattle.spv_types.proofs.Exports.{put_back, put_is_there, put_twice, shapes_count, shapes_keep}
use Rattle.spv_values.specs.Places.{IsRowAt}
use Rattle.spv_mem.specs.Memory.{Held as Memory, IsMemory, Levels, MayStore, load_of, root_value, roots_in, stored, with_level, with_roots}
use Rattle.spv_mem.specs.Singles.{NamesRow}
use Rattle.spv_mem.specs.Targets.{is_counted}
use Rattle.spv_state.specs.State.{State, put_store}
use Rattle.spv_undo.proofs.ReachLemmas.{reached}

-- ---- the list in which the variable stands

level_put : (depth : ℕ) (es xs : Roots) (o : Option Levels) → option_and_then (λ (l : Levels). slice_get l.list depth) o ≡ Some xs → option_and_then (λ (l : Levels). slice_get l.list depth) (option_map (with_level depth es) o) ≡ Some es
level_put depth es xs None h = cc
level_put depth es xs (Some l) h = slice_get-set_same l.list depth xs es h

roots_put : (m : Memory) (i : ℕ) (r : Root) (es xs : Roots) → roots_in m i r ≡ Some xs → roots_in (with_roots i r es m) i r ≡ Some es
roots_put m i (Shared id) es xs h = refl
roots_put m i (Private id) es xs h = slice_get-set_same m.privates i xs es h
roots_put m i (Local depth id) es xs h =
    ap (λ (o : Option Levels). option_and_then (λ (l : Levels). slice_get l.list depth) o) (change_here i (with_level depth es) m.locals) ∙ level_put depth es xs (slice_get m.locals i) h

level_at : (depth : ℕ) (xs : Roots) (o : Option Levels) (l : Levels) → option_and_then (λ (x : Levels). slice_get x.list depth) o ≡ Some xs → o ≡ Some l → slice_get l.list depth ≡ Some xs
level_at depth xs None l h e = cc
level_at depth xs (Some k) l h e = let same : k ≡ l = cc in subst (λ (x : Levels). slice_get x.list depth ≡ Some xs) same h

roots_back : (m : Memory) (i : ℕ) (r : Root) (es xs : Roots) → roots_in m i r ≡ Some xs → with_roots i r xs (with_roots i r es m) ≡ m
roots_back m i (Shared id) es xs h = let same : m.shared ≡ xs = cc in ap (λ (ys : Roots). record m { shared = ys }) (sym same)
roots_back m i (Private id) es xs h = ap (λ (ls : List Roots). record m { privates = ls }) (set_back m.privates i xs es h)
roots_back m i (Local depth id) es xs h =
    ap (λ (ls : List Levels). record m { locals = ls })
    (change_back i (with_level depth es) (with_level depth xs) m.locals
    (λ l at. ap (λ (ls : List Roots). record l { list = ls }) (set_back l.list depth xs es (level_at depth xs (slice_get m.locals i) l h at))))

types_stay : (m : Memory) (i : ℕ) (r : Root) (es : Roots) → ((with_roots i r es m).types ≡ m.types) × ((with_roots i r es m).targets ≡ m.targets)
types_stay m i (Shared id) es = (refl, refl)
types_stay m i (Private id) es = (refl, refl)
types_stay m i (Local depth id) es = (refl, refl)

-- ---- the variable

-- the part that a pointer names, with its variable
record Part (m : Memory) (i : ℕ) (p : Pointer) (w : Value) : Type 0 where
  roots : Roots
  value : Value
  list : roots_in m i p.root ≡ Some roots
  variable : reads (root_id p.root) roots ≡ Some value
  part : part_at value p.path ≡ Some w

part_of : (m : Memory) (i : ℕ) (p : Pointer) (w : Value) → load_of m i p ≡ Some w → Part m i p w
part_of m i p w h = outer (roots_in m i p.root) refl h
  where
    inner : (es : Roots) → roots_in m i p.root ≡ Some es → (o : Option Value) → reads (root_id p.root) es ≡ o → option_and_then (λ v. part_at v p.path) o ≡ Some w → Part m i p w
    inner es at None e g = absurd cc
    inner es at (Some v) e g = record { roots = es; value = v; list = at; variable = e; part = g }

    outer : (o : Option Roots) → roots_in m i p.root ≡ o → option_and_then (λ v. part_at v p.path) (option_and_then (reads (root_id p.root)) o) ≡ Some w → Part m i p w
    outer None at g = absurd cc
    outer (Some es) at g = inner es at (reads (root_id p.root) es) refl g

-- the memory with another part
record After (m : Memory) (i : ℕ) (p : Pointer) (u w : Value) (x : Part m i p w) : Type 0 where
  is : stored i p u m ≡ with_roots i p.root (writes (root_id p.root) (with_part x.value p.path u) x.roots) m
  list : roots_in (stored i p u m) i p.root ≡ Some (writes (root_id p.root) (with_part x.value p.path u) x.roots)
  variable : reads (root_id p.root) (writes (root_id p.root) (with_part x.value p.path u) x.roots) ≡ Some (with_part x.value p.path u)

after : (m : Memory) (i : ℕ) (p : Pointer) (u w : Value) (x : Part m i p w) → After m i p u w x
after m i p u w x =
    let is : stored i p u m ≡ with_roots i p.root (writes (root_id p.root) (with_part x.value p.path u) x.roots) m = rw (x.list, x.variable) refl in
    record {
      is = is;
      list = ap (λ (n : Memory). roots_in n i p.root) is ∙ roots_put m i p.root (writes (root_id p.root) (with_part x.value p.path u) x.roots) x.roots x.list;
      variable = reads_put (root_id p.root) (with_part x.value p.path u) x.value x.roots x.variable;
    }

value_after : (m : Memory) (i : ℕ) (p : Pointer) (u w : Value) (x : Part m i p w) → root_value (stored i p u m) i p.root ≡ Some (with_part x.value p.path u)
value_after m i p u w x = let a = after m i p u w x in ap (λ (o : Option Roots). option_and_then (reads (root_id p.root)) o) a.list ∙ a.variable

-- ---- what is put back

pub store_back : (m : Memory) (i : ℕ) (p : Pointer) (u w : Value) → load_of m i p ≡ Some w → stored i p w (stored i p u m) ≡ m
store_back m i p u w h =
    let x = part_of m i p w h in
    let a = after m i p u w x in
    let id = root_id p.root in
    let old : with_part (with_part x.value p.path u) p.path w ≡ x.value = put_twice p.path x.value w u w x.part ∙ put_back p.path x.value w x.part in
    let entries : writes id (with_part (with_part x.value p.path u) p.path w) (writes id (with_part x.value p.path u) x.roots) ≡ x.roots =
    ap (λ (v : Value). writes id v (writes id (with_part x.value p.path u) x.roots)) old ∙ writes_back id (with_part x.value p.path u) x.value x.roots (ap (λ (o : Option Value). unwrap_or o x.value) x.variable) in
    let one : stored i p w (stored i p u m) ≡ with_roots i p.root (writes id (with_part (with_part x.value p.path u) p.path w) (writes id (with_part x.value p.path u) x.roots)) (stored i p u m) = rw (a.list, a.variable) refl in
    one ∙ ap (λ (es : Roots). with_roots i p.root es (stored i p u m)) entries ∙ ap (with_roots i p.root x.roots) a.is ∙ roots_back m i p.root (writes id (with_part x.value p.path u) x.roots) x.roots x.list

load_after : (m : Memory) (i : ℕ) (p : Pointer) (u w : Value) → load_of m i p ≡ Some w → load_of (stored i p u m) i p ≡ Some u
load_after m i p u w h =
    let x = part_of m i p w h in
    ap (λ (o : Option Value). option_and_then (λ v. part_at v p.path) o) (value_after m i p u w x) ∙ put_is_there p.path x.value w u x.part

pub may_after : (m : Memory) (i : ℕ) (p : Pointer) (u w : Value) → load_of m i p ≡ Some w → ∥ IsMemory m ∥₁ → ∥ MayStore m i p u ∥₁ → ∥ MayStore (stored i p u m) i p w ∥₁
may_after m i p u w h is may = ∥∥₁_elim is (hlevel props) (λ (k : IsMemory m). ∥∥₁_map may (λ (a : MayStore m i p u). go k a))
  where
    x : Part m i p w
    x = part_of m i p w h

    go : IsMemory m → MayStore m i p u → MayStore (stored i p u m) i p w
    go k a ty v named there t y reach at =
        let types = types_stay m i p.root (writes (root_id p.root) (with_part x.value p.path u) x.roots) in
        let same_types : (stored i p u m).types ≡ m.types = ap (λ (n : Memory). n.types) (after m i p u w x).is ∙ types.0 in
        let same_targets : (stored i p u m).targets ≡ m.targets = ap (λ (n : Memory). n.targets) (after m i p u w x).is ∙ types.1 in
        let typed : reads (root_id p.root) m.targets ≡ Some ty = ap (reads (root_id p.root)) (sym same_targets) ∙ named in
        let value : root_value m i p.root ≡ Some x.value = rw x.list x.variable in
        let reach' : reached_type m.types ty p.path ≡ Some t = subst (λ ts. reached_type ts ty p.path ≡ Some t) same_types reach in
        let put = a ty x.value typed value t w reach' x.part in
        let var = k.variables i p.root x.roots x.list (root_id p.root) x.value x.variable in
        let one : var.type ≡ ty = let e = var.named in cc in
        let shape : HasShape m.types no_roots ty x.value = subst (λ (n : ℕ). HasShape m.types no_roots n x.value) one var.shape in
        let kept = shapes_keep m.types no_roots k.sound p.path ty t x.value w u shape reach' x.part in
        subst (λ ts. (is_counted ts t ≡ true) × HasShape ts no_roots t w) (sym same_types) (put.0, kept.0)

-- ---- what is put in a part's place has as many leaves as the part

same_count : (ts : Types) (t : ℕ) (u w : Value) → is_counted ts t ≡ true → HasShape ts no_roots t w → HasShape ts no_roots t u → length (leaves w) ≡ length (leaves u)
same_count ts t u w counted old new = let n = some_at (cells_of ts t) counted in shapes_count ts no_roots t w n.0 old n.1 ∙ sym (shapes_count ts no_roots t u n.0 new n.1)

as_many_leaves : (m : Memory) (i : ℕ) (p : Pointer) (u w : Value) → load_of m i p ≡ Some w → ∥ IsMemory m ∥₁ → ∥ MayStore m i p u ∥₁ → length (leaves w) ≡ length (leaves u)
as_many_leaves m i p u w h is may = ∥∥₁_elim is (hlevel props) (λ (k : IsMemory m). ∥∥₁_elim may (hlevel props) (λ (a : MayStore m i p u). go k a))
  where
    x : Part m i p w
    x = part_of m i p w h

    go : IsMemory m → MayStore m i p u → length (leaves w) ≡ length (leaves u)
    go k a =
        let var = k.variables i p.root x.roots x.list (root_id p.root) x.value x.variable in
        let value : root_value m i p.root ≡ Some x.value = rw x.list x.variable in
        let t = reached m.types no_roots k.sound p.path var.type x.value w var.shape x.part in
        let put = a var.type x.value var.named value t.0 w t.1 x.part in
        let old = (shapes_keep m.types no_roots k.sound p.path var.type t.0 x.value w u var.shape t.1 x.part).0 in
        same_count m.types t.0 u w put.0 old put.1

-- ---- a store that is made again with what was there

pub record PutBack (i : ℕ) (p : Pointer) (u w : Value) (s t : State) : Type 0 where
  pub back : put_store i (Some (p, w)) t ≡ s
  pub load : load_of t.memory i p ≡ Some u
  pub may : ∥ MayStore t.memory i p w ∥₁
  pub alike : length (leaves w) ≡ length (leaves u)

pub put_back_part : (i : ℕ) (p : Pointer) (u w : Value) (s t : State) → t ≡ put_store i (Some (p, u)) s → load_of s.memory i p ≡ Some w → ∥ IsMemory s.memory ∥₁ → ∥ MayStore s.memory i p u ∥₁
    → PutBack i p u w s t
put_back_part i p u w s t after h is may = subst (PutBack i p u w s) (sym after) (record {
  back = ap (λ (m : Memory). record s { memory = m }) (store_back s.memory i p u w h);
  load = load_after s.memory i p u w h;
  may = may_after s.memory i p u w h is may;
  alike = as_many_leaves s.memory i p u w h is may;
})

-- ---- where the part lies

-- a part lies where the one before it lay, if it has as many leaves
row_stays : (v : Value) (path : List ℕ) (n k : ℕ) (u : Value) → IsRowAt v path n k → length (leaves u) ≡ k → IsRowAt (with_part v path u) path n k
row_stays v path n k u h long = by_part (part_at v path) refl h.there
  where
    front : length (take n (leaves v)) ≡ n
    front = let w = h.within in length-take-le n (leaves v) (omega arith)

    rest : List Cell
    rest = leaves u ++ drop (n + k) (leaves v)

    before : take n (leaves (with_part v path u)) ≡ take n (leaves v)
    before = ap (take n) (h.written u) ∙ subst (λ (m : ℕ). take m (take n (leaves v) ++ rest) ≡ take n (leaves v)) front (take-append_seam (take n (leaves v)) rest)

    behind : (m : ℕ) → drop (n + m) (leaves (with_part v path u)) ≡ drop m rest
    behind m = ap (drop (n + m)) (h.written u) ∙ subst (λ (x : ℕ). drop (x + m) (take n (leaves v) ++ rest) ≡ drop m rest) front (drop-append-add (take n (leaves v)) rest m)

    after_it : drop (n + k) (leaves (with_part v path u)) ≡ drop (n + k) (leaves v)
    after_it = behind k ∙ subst (λ (x : ℕ). drop x rest ≡ drop (n + k) (leaves v)) long (drop-append_seam (leaves u) (drop (n + k) (leaves v)))

    at_it : drop n (leaves (with_part v path u)) ≡ rest
    at_it = subst (λ (x : ℕ). drop x (leaves (with_part v path u)) ≡ rest) (let e : n + 0 ≡ n = omega arith in e) (behind 0)

    many : n + k ≤ length (leaves (with_part v path u))
    many =
        let all = ap length (h.written u) ∙ length-append (take n (leaves v)) rest in
        let part = length-append (leaves u) (drop (n + k) (leaves v)) in
        omega (arith, all, part, front, long)

    by_part : (o : Option Value) → part_at v path ≡ o → IsSome o → IsRowAt (with_part v path u) path n k
    by_part None e some = absurd cc
    by_part (Some w) e some =
        let there : part_at (with_part v path u) path ≡ Some u = put_is_there path v w u e in
        record {
          there = subst IsSome (sym there) refl;
          within = many;
          row = λ x at.
              let same : u ≡ x = let one = sym there ∙ at in cc in
              ap (take k) at_it ∙ subst (λ (m : ℕ). take m rest ≡ leaves u) long (take-append_seam (leaves u) (drop (n + k) (leaves v))) ∙ ap leaves same;
          written = λ x.
              ap leaves (put_twice path v w u x e) ∙ h.written x ∙ ap (λ (ls : List Cell). ls ++ (leaves x ++ drop (n + k) (leaves v))) (sym before)
              ∙ ap (λ (ls : List Cell). take n (leaves (with_part v path u)) ++ (leaves x ++ ls)) (sym after_it);
        }

pub names_after : (m : Memory) (i : ℕ) (p : Pointer) (u w : Value) (n k : ℕ) → load_of m i p ≡ Some w → length (leaves u) ≡ k → NamesRow m i p n k → NamesRow (stored i p u m) i p n k
names_after m i p u w n k h long names =
    let x = part_of m i p w h in
    let value : root_value m i p.root ≡ Some x.value = rw x.list x.variable in
    let same : names.value ≡ x.value = let one = sym names.is ∙ value in cc in
    record {
      value = with_part x.value p.path u;
      is = value_after m i p u w x;
      row = row_stays x.value p.path n k u (subst (λ (v : Value). IsRowAt v p.path n k) same names.row) long;
    }

-- ---- a leaf that is exchanged again with what was there

pub record LeafBack (i : ℕ) (p : Pointer) (n : ℕ) (u w : Value) (s t : State) : Type 0 where
  pub back : put_store i (Some (p, w)) t ≡ s
  pub load : load_of t.memory i p ≡ Some u
  pub names : ∥ NamesRow t.memory i p n 1 ∥₁
  pub may : ∥ MayStore t.memory i p w ∥₁

pub put_back_leaf : (i : ℕ) (p : Pointer) (n : ℕ) (u w : Value) (s t : State) → t ≡ put_store i (Some (p, u)) s → load_of s.memory i p ≡ Some w → length (leaves u) ≡ 1 → ∥ NamesRow s.memory i p n 1 ∥₁ → ∥ IsMemory s.memory ∥₁
    → ∥ MayStore s.memory i p u ∥₁ → LeafBack i p n u w s t
put_back_leaf i p n u w s t after h one names is may =
    let b = put_back_part i p u w s t after h is may in
    record {
      back = b.back;
      load = b.load;
      names = subst (λ (x : State). ∥ NamesRow x.memory i p n 1 ∥₁) (sym after) (∥∥₁_map names (λ (a : NamesRow s.memory i p n 1). names_after s.memory i p u w n 1 h one a));
      may = b.may;
    }

-- ---- an entry of a store

pub undoes_at : (i : ℕ) (p q : Pointer) (w x : Value) (s : State) → q ≡ p → x ≡ w → put_store i (Some (q, x)) s ≡ put_store i (Some (p, w)) s
undoes_at i p q w x s place value = ap (λ (y : Pointer). put_store i (Some (y, x)) s) place ∙ ap (λ (y : Value). put_store i (Some (p, y)) s) value

pub there_at : (m : Memory) (i : ℕ) (p q : Pointer) → q ≡ p → IsSome (load_of m i p) → IsSome (load_of m i q)
there_at m i p q place h = subst (λ (y : Pointer). IsSome (load_of m i y)) (sym place) h

pub may_at : (m : Memory) (i : ℕ) (p q : Pointer) (w x : Value) → q ≡ p → x ≡ w → ∥ MayStore m i p w ∥₁ → ∥ MayStore m i q x ∥₁
may_at m i p q w x place value h = subst (λ (y : Pointer). ∥ MayStore m i y x ∥₁) (sym place) (subst (λ (y : Value). ∥ MayStore m i p y ∥₁) (sym value) h)

-- what the entry of a leaf asks, and where it leads back
pub record LeafUndone (i : ℕ) (q : Pointer) (n : ℕ) (x : Value) (s t : State) : Type 0 where
  pub back : put_store i (Some (q, x)) t ≡ s
  pub there : IsSome (load_of t.memory i q)
  pub names : ∥ NamesRow t.memory i q n 1 ∥₁
  pub may : ∥ MayStore t.memory i q x ∥₁

pub leaf_undone : (i : ℕ) (p q : Pointer) (n : ℕ) (u w x : Value) (s t : State) → LeafBack i p n u w s t → q ≡ p → x ≡ w → LeafUndone i q n x s t
leaf_undone i p q n u w x s t b place value = record {
  back = undoes_at i p q w x t place value ∙ b.back;
  there = there_at t.memory i p q place (subst IsSome (sym b.load) refl);
  names = subst (λ (y : Pointer). ∥ NamesRow t.memory i y n 1 ∥₁) (sym place) b.names;
  may = may_at t.memory i p q w x place value b.may;
}
