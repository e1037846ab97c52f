-- What the memory is asked for by the Expressions of events.
use Rattle.std.proofs.Common.{◌≡◌, ◌∙◌, ℕ, ℤ, ◌==◌, ◌&&◌, ◌||◌, Bool, true, false, List, [], ◌∷◌, Option, Some, None, refl, sym, ap, arith}
use Rattle.std.specs.Prelude.{if◌then◌else◌, slice_index, ⊤}
use Rattle.std.specs.List.{list_all}
use Rattle.std.specs.Option.{option_and_then, option_map, option_map_or}
use Rattle.spv_base.specs.Cell.{Cell, defined_cell}
use Rattle.spv_base.specs.declared.values.PassedEvent.{PassedEvent}
use Rattle.spv_base.specs.declared.values.Pointer.{Pointer}
use Rattle.spv_base.specs.declared.values.Value.{Value, Ptr, out-Value}
use Rattle.spv_base.proofs.Exports.{out_pointer}
use Rattle.spv_consts.specs.Table.{only}
use Rattle.spv_dbg.specs.declared.insts.DebugInst.{DebugInst}
use Rattle.spv_dbg.specs.Tables.{Tables, names_scalar, with_id}
use Rattle.spv_mem.specs.Memory.{Held as Memory, load_of}
use Rattle.spv_parts.specs.Parts.{literal}
use Rattle.spv_types.specs.Rows.{leaves}
use Rattle.spv_types.specs.Shapes.{pointer_in}
use Rattle.spv_expr.specs.Bits.{bits_of, entry_cells, piece_bits}
use Rattle.spv_expr.specs.Expressions.{Entry, number, whole, address, arithmetic, captured, dereferenced, difference, evaluated, loaded, operated, operation, piece_of, pushed, result, sum, swapped, typed}
use Rattle.spv_expr.specs.Looks.{is_plain}
use Rattle.spv_expr.proofs.EntryLemmas.{data_captured}

-- ---- no memory is asked for where no entry is a pointer

abbrev NoPointer : Entry → Type 0
NoPointer (number c) = ⊤
NoPointer (whole v) = ⊤
NoPointer (address p) = ⊥

abbrev NoPointers : List Entry → Type 0
NoPointers [] = ⊤
NoPointers (e ∷ es) = NoPointer e × NoPointers es

abbrev IfNoPointers : Option (List Entry) → Type 0
IfNoPointers None = ⊤
IfNoPointers (Some es) = NoPointers es

typed_no_pointer : (scalar : Bool) (v : Value) → NoPointer (typed scalar v)
typed_no_pointer false v = tt
typed_no_pointer true v = by (only (leaves v))
  where
    by : (o : Option Cell) → NoPointer (option_map_or number o (whole v))
    by None = tt
    by (Some c) = tt

deref_none : (m : Memory) (inv : ℕ) (es : List Entry) → NoPointers es → dereferenced m inv es ≡ None
deref_none m inv [] h = refl
deref_none m inv (number c ∷ es) h = refl
deref_none m inv (whole v ∷ es) h = refl
deref_none m inv (address p ∷ es) h = absurd h.0

arithmetic_free : (f : ℕ → ℕ → ℤ) (es : List Entry) → NoPointers es → IfNoPointers (arithmetic f es)
arithmetic_free f [] h = tt
arithmetic_free f (whole v ∷ es) h = tt
arithmetic_free f (address p ∷ es) h = tt
arithmetic_free f (number b ∷ []) h = tt
arithmetic_free f (number b ∷ number a ∷ es) h = (tt, h.1.1)
arithmetic_free f (number b ∷ whole v ∷ es) h = tt
arithmetic_free f (number b ∷ address p ∷ es) h = tt

swapped_free : (es : List Entry) → NoPointers es → IfNoPointers (swapped es)
swapped_free [] h = tt
swapped_free (b ∷ []) h = tt
swapped_free (b ∷ a ∷ es) h = (h.1.0, (h.0, h.1.1))

if_free : (b : Bool) (x y : Option (List Entry)) → IfNoPointers x → IfNoPointers y → IfNoPointers (if b then x else y)
if_free true x y h k = h
if_free false x y h k = k

module _ (inv : ℕ) (opcode operand : ℕ) (es : List Entry) (h : NoPointers es) where
  -- all but Deref
  abbrev others : Option (List Entry)
  others =
      if opcode == 1 then arithmetic sum es
      else if opcode == 2 then arithmetic difference es
      else if opcode == 3 then arithmetic sum (pushed (defined_cell 32 operand) es)
      else if opcode == 5 then swapped es
      else if opcode == 8 then Some (pushed (defined_cell 32 operand) es)
      else if opcode == 7 then Some es
      else if opcode == 9 then Some es
      else None

  operated_is : (m : Memory) → operated m inv opcode operand es ≡ (if opcode == 0 then None else others)
  operated_is m = ap (λ (o : Option (List Entry)). if opcode == 0 then o else others) (deref_none m inv es h)

  others_free : IfNoPointers others
  others_free = if_free (opcode == 1) _ _ (arithmetic_free sum es h) (if_free (opcode == 2) _ _ (arithmetic_free difference es h)
      (if_free (opcode == 3) _ _ (arithmetic_free sum (pushed (defined_cell 32 operand) es) (tt, h)) (if_free (opcode == 5) _ _ (swapped_free es h)
      (if_free (opcode == 8) _ _ (tt, h) (if_free (opcode == 7) _ _ h (if_free (opcode == 9) _ _ h tt))))))

  operated_same : (m n : Memory) → operated m inv opcode operand es ≡ operated n inv opcode operand es
  operated_same m n = operated_is m ∙ sym (operated_is n)

  operated_free : (m : Memory) → IfNoPointers (operated m inv opcode operand es)
  operated_free m = rw (operated_is m) (if_free (opcode == 0) None others tt others_free)

evaluated_same : (m n : Memory) (inv : ℕ) (t : Tables) (ids : List ℕ) (es : List Entry) → NoPointers es → evaluated m inv t ids es ≡ evaluated n inv t ids es
evaluated_same m n inv t [] es h = refl
evaluated_same m n inv t (id ∷ ids) es h = by (λ (fs : List Entry) (k : NoPointers fs). evaluated_same m n inv t ids fs k) (with_id t id)
  where
    next : ((fs : List Entry) → NoPointers fs → evaluated m inv t ids fs ≡ evaluated n inv t ids fs) → (o : Option (List Entry)) → IfNoPointers o
        → option_and_then (evaluated m inv t ids) o ≡ option_and_then (evaluated n inv t ids) o
    next rest None k = refl
    next rest (Some fs) k = rest fs k

    by : ((fs : List Entry) → NoPointers fs → evaluated m inv t ids fs ≡ evaluated n inv t ids fs) → (o : Option DebugInst)
        → option_and_then (evaluated m inv t ids) (option_and_then (operation m inv t es) o) ≡ option_and_then (evaluated n inv t ids) (option_and_then (operation n inv t es) o)
    by rest None = refl
    by rest (Some d) =
        let code = literal t (slice_index d.operands 0) in
        let operand = literal t (slice_index d.operands 1) in
        ap (option_and_then (evaluated m inv t ids)) (operated_same inv code operand es h m n) ∙ next rest (operation n inv t es d) (operated_free inv code operand es h n)

evaluated_free : (m : Memory) (inv : ℕ) (t : Tables) (ids : List ℕ) (es : List Entry) → NoPointers es → IfNoPointers (evaluated m inv t ids es)
evaluated_free m inv t [] es h = h
evaluated_free m inv t (id ∷ ids) es h = by (λ (fs : List Entry) (k : NoPointers fs). evaluated_free m inv t ids fs k) (with_id t id)
  where
    next : ((fs : List Entry) → NoPointers fs → IfNoPointers (evaluated m inv t ids fs)) → (o : Option (List Entry)) → IfNoPointers o → IfNoPointers (option_and_then (evaluated m inv t ids) o)
    next rest None k = tt
    next rest (Some fs) k = rest fs k

    by : ((fs : List Entry) → NoPointers fs → IfNoPointers (evaluated m inv t ids fs)) → (o : Option DebugInst)
        → IfNoPointers (option_and_then (evaluated m inv t ids) (option_and_then (operation m inv t es) o))
    by rest None = tt
    by rest (Some d) = next rest (operation m inv t es d) (operated_free inv (literal t (slice_index d.operands 0)) (literal t (slice_index d.operands 1)) es h m)

result_same : (m n : Memory) (inv kind : ℕ) (es : List Entry) → NoPointers es → result m inv kind es ≡ result n inv kind es
result_same m n inv kind [] h = refl
result_same m n inv kind (number c ∷ es) h = refl
result_same m n inv kind (whole v ∷ es) h = refl
result_same m n inv kind (address p ∷ es) h = absurd h.0

captured_free : (t : Tables) (word : ℕ) (v : Value) → ∥ pointer_in (out-Value v) ≡ None ∥₁ → NoPointer (captured t word v)
captured_free t word v h = rw (data_captured t word v h) (typed_no_pointer (names_scalar t word) v)

-- what an event gives that captured no pointer
piece_same : (m n : Memory) (inv : ℕ) (t : Tables) (d : DebugInst) (v : Value) → ∥ pointer_in (out-Value v) ≡ None ∥₁ → piece_of m inv t d v ≡ piece_of n inv t d v
piece_same m n inv t d v h = by (with_id t (slice_index d.operands 2))
  where
    one : List Entry
    one = captured t d.word v ∷ []

    free : NoPointers one
    free = (captured_free t d.word v h, tt)

    next : (o : Option (List Entry)) → IfNoPointers o → option_and_then (result m inv d.number) o ≡ option_and_then (result n inv d.number) o
    next None h = refl
    next (Some es) h = result_same m n inv d.number es h

    by : (o : Option DebugInst) → option_and_then (λ (x : DebugInst). option_and_then (result m inv d.number) (evaluated m inv t x.operands one)) o
        ≡ option_and_then (λ (x : DebugInst). option_and_then (result n inv d.number) (evaluated n inv t x.operands one)) o
    by None = refl
    by (Some x) =
        ap (option_and_then (result m inv d.number)) (evaluated_same m n inv t x.operands one free) ∙ next (evaluated n inv t x.operands one) (evaluated_free n inv t x.operands one free)

abbrev shown_bits : Option Entry → Option (List (Option Bool))
shown_bits o = option_map (λ entry. bits_of (entry_cells entry)) o

pub data_same : (t : Tables) (d : DebugInst) (e : PassedEvent) (v : Value) → e.value ≡ Some v → ∥ pointer_in (out-Value v) ≡ None ∥₁ → (inv : ℕ) (m n : Memory) → piece_bits m inv t d e ≡ piece_bits n inv t d e
data_same t d e v is plain inv m n = rw is (ap shown_bits (piece_same m n inv t d v plain))

pub nothing_same : (t : Tables) (d : DebugInst) (e : PassedEvent) → e.value ≡ None → (inv : ℕ) (m n : Memory) → piece_bits m inv t d e ≡ piece_bits n inv t d e
nothing_same t d e is inv m n = rw is refl

-- nothing is read without an Expression
pub unread_same : (t : Tables) (d : DebugInst) (e : PassedEvent) → with_id t (slice_index d.operands 2) ≡ None → (inv : ℕ) (m n : Memory) → piece_bits m inv t d e ≡ piece_bits n inv t d e
unread_same t d e is inv m n = by e.value
  where
    by : (o : Option Value) → shown_bits (option_and_then (piece_of m inv t d) o) ≡ shown_bits (option_and_then (piece_of n inv t d) o)
    by None = refl
    by (Some v) = rw is refl

-- ---- a pointer under Operations that read at most what it leads to

entry_typed : (scalar : Bool) (v : Value) → entry_cells (typed scalar v) ≡ leaves v
entry_typed false v = refl
entry_typed true v = by (leaves v) refl
  where
    by : (cs : List Cell) → leaves v ≡ cs → entry_cells (option_map_or number (only cs) (whole v)) ≡ cs
    by [] is = is
    by (c ∷ []) is = refl
    by (c ∷ d ∷ ds) is = is

-- what becomes of it: it is kept, or replaced by what it leads to, or the Expression can't be read
data Fate : Type 0 where
  kept : Fate
  read : Fate
  lost : Fate

abbrev behind : ℕ → Fate → Fate
behind opcode kept = if opcode == 0 then read else kept
behind opcode read = if opcode == 0 then lost else read
behind opcode lost = lost

-- whether the leaves that it leads to are given
abbrev is_given : ℕ → Fate → Bool
is_given kind kept = kind == 28
is_given kind read = true
is_given kind lost = false

abbrev fate : Tables → List ℕ → Fate → Fate
fate t [] f = f
fate t (id ∷ ids) f = fate t ids (option_map_or (λ (d : DebugInst). behind (literal t (slice_index d.operands 0)) f) (with_id t id) lost)

plain_cases : (P : ℕ → Type 0) (n : ℕ) → P 0 → P 7 → P 9 → (n == 0 || (n == 7 || n == 9)) ≡ true → P n
plain_cases P n zero seven nine h = by (n == 0) refl (n == 7) refl (n == 9) refl h
  where
    by : (a : Bool) → (n == 0) ≡ a → (b : Bool) → (n == 7) ≡ b → (c : Bool) → (n == 9) ≡ c → (a || (b || c)) ≡ true → P n
    by true is b is_b c is_c h = let e : n ≡ 0 = grind arith in rw e zero
    by false is_a true is c is_c h = let e : n ≡ 7 = grind arith in rw e seven
    by false is_a false is_b true is h = let e : n ≡ 9 = grind arith in rw e nine
    by false is_a false is_b false is_c h = absurd (cc)

both_true : (a b : Bool) → (a && b) ≡ true → (a ≡ true) × (b ≡ true)
both_true true b h = (refl, h)
both_true false b h = absurd (cc)

module _ (m : Memory) (inv : ℕ) (p : Pointer) where
  abbrev stack_of : Fate → Option (List Entry)
  stack_of kept = Some (address p ∷ [])
  stack_of read = option_map (λ v. loaded v ∷ []) (load_of m inv p)
  stack_of lost = None

  loaded_none : (v : Value) → dereferenced m inv (loaded v ∷ []) ≡ None
  loaded_none v = deref_none m inv (loaded v ∷ []) (typed_no_pointer _ v, tt)

  deref_fate : (f : Fate) → option_and_then (dereferenced m inv) (stack_of f) ≡ stack_of (behind 0 f)
  deref_fate kept = refl
  deref_fate lost = refl
  deref_fate read = by (load_of m inv p)
    where
      by : (o : Option Value) → option_and_then (dereferenced m inv) (option_map (λ v. loaded v ∷ []) o) ≡ None
      by None = refl
      by (Some v) = loaded_none v

  same_fate : (f : Fate) → option_and_then Some (stack_of f) ≡ stack_of f
  same_fate kept = refl
  same_fate lost = refl
  same_fate read = by (load_of m inv p)
    where
      by : (o : Option Value) → option_and_then Some (option_map (λ v. loaded v ∷ []) o) ≡ option_map (λ v. loaded v ∷ []) o
      by None = refl
      by (Some v) = refl

  kept_fate : (f : Fate) → behind 7 f ≡ f
  kept_fate kept = refl
  kept_fate read = refl
  kept_fate lost = refl

  operated_fate : (opcode operand : ℕ) → (opcode == 0 || (opcode == 7 || opcode == 9)) ≡ true → (f : Fate) → option_and_then (operated m inv opcode operand) (stack_of f) ≡ stack_of (behind opcode f)
  operated_fate opcode operand h f =
      plain_cases (λ n. option_and_then (operated m inv n operand) (stack_of f) ≡ stack_of (behind n f)) opcode (deref_fate f) (same_fate f ∙ ap stack_of (sym (kept_fate f))) (same_fate f ∙ ap stack_of (sym (kept_fate f))) h

  module _ (t : Tables) where
    evaluated_fate : (ids : List ℕ) → list_all (is_plain t) ids ≡ true → (f : Fate) → option_and_then (evaluated m inv t ids) (stack_of f) ≡ stack_of (fate t ids f)
    evaluated_fate [] h f = same_fate f
    evaluated_fate (id ∷ ids) h f =
        let both = both_true (is_plain t id) (list_all (is_plain t) ids) h in
        assoc (stack_of f) ∙ ap (option_and_then (evaluated m inv t ids)) (by (with_id t id) both.0)
        ∙ evaluated_fate ids both.1 (option_map_or (λ (d : DebugInst). behind (literal t (slice_index d.operands 0)) f) (with_id t id) lost)
      where
        assoc : (o : Option (List Entry)) → option_and_then (evaluated m inv t (id ∷ ids)) o
            ≡ option_and_then (evaluated m inv t ids) (option_and_then (λ es. option_and_then (operation m inv t es) (with_id t id)) o)
        assoc None = refl
        assoc (Some es) = refl

        by : (o : Option DebugInst)
            → option_map_or (λ (d : DebugInst). literal t (slice_index d.operands 0) == 0 || (literal t (slice_index d.operands 0) == 7 || literal t (slice_index d.operands 0) == 9)) o false ≡ true
            → option_and_then (λ es. option_and_then (operation m inv t es) o) (stack_of f) ≡ stack_of (option_map_or (λ (d : DebugInst). behind (literal t (slice_index d.operands 0)) f) o lost)
        by None h = absurd (cc)
        by (Some d) h = operated_fate (literal t (slice_index d.operands 0)) (literal t (slice_index d.operands 1)) h f

  result_fate : (kind : ℕ) (f : Fate) → shown_bits (option_and_then (result m inv kind) (stack_of f)) ≡ (if is_given kind f then option_map bits_of (option_map leaves (load_of m inv p)) else None)
  result_fate kind lost = refl
  result_fate kind kept = by (kind == 28) (load_of m inv p)
    where
      by : (b : Bool) (o : Option Value) → shown_bits (if b then option_map loaded o else None) ≡ (if b then option_map bits_of (option_map leaves o) else None)
      by false o = refl
      by true None = refl
      by true (Some v) = ap (λ (cells : List Cell). Some (bits_of cells)) (entry_typed _ v)
  result_fate kind read = by (load_of m inv p)
    where
      same : (e : Entry) → NoPointer e → result m inv kind (e ∷ []) ≡ Some e
      same (number c) h = refl
      same (whole v) h = refl
      same (address q) h = absurd h

      by : (o : Option Value) → shown_bits (option_and_then (result m inv kind) (option_map (λ v. loaded v ∷ []) o)) ≡ option_map bits_of (option_map leaves o)
      by None = refl
      by (Some v) = ap shown_bits (same (loaded v) (typed_no_pointer _ v)) ∙ ap (λ (cells : List Cell). Some (bits_of cells)) (entry_typed _ v)

captured_pointer : (t : Tables) (word : ℕ) (p : Pointer) → captured t word (Ptr p) ≡ address p
captured_pointer t word p = rw (out_pointer p) refl

module _ (t : Tables) (d : DebugInst) (e : PassedEvent) (p : Pointer) (ids : List ℕ) where
  pointer_bits : e.value ≡ Some (Ptr p) → Some ids ≡ option_map (λ (x : DebugInst). x.operands) (with_id t (slice_index d.operands 2)) → list_all (is_plain t) ids ≡ true → (m : Memory) (inv : ℕ)
      → piece_bits m inv t d e ≡ (if is_given d.number (fate t ids kept) then option_map bits_of (option_map leaves (load_of m inv p)) else None)
  pointer_bits value are plain m inv = rw value (by (with_id t (slice_index d.operands 2)) are)
    where
      by : (o : Option DebugInst) → Some ids ≡ option_map (λ (x : DebugInst). x.operands) o
          → shown_bits (option_and_then (λ (x : DebugInst). option_and_then (result m inv d.number) (evaluated m inv t x.operands (captured t d.word (Ptr p) ∷ []))) o)
          ≡ (if is_given d.number (fate t ids kept) then option_map bits_of (option_map leaves (load_of m inv p)) else None)
      by None are = absurd (cc)
      by (Some x) are =
          let same : x.operands ≡ ids = cc in
          rw (same, captured_pointer t d.word p) (ap (λ (o : Option (List Entry)). shown_bits (option_and_then (result m inv d.number) o)) (evaluated_fate m inv p t ids plain kept) ∙ result_fate m inv p d.number (fate t ids kept))

  pub pointer_same : e.value ≡ Some (Ptr p) → Some ids ≡ option_map (λ (x : DebugInst). x.operands) (with_id t (slice_index d.operands 2)) → list_all (is_plain t) ids ≡ true
      → (inv : ℕ) (m n : Memory) → option_map leaves (load_of m inv p) ≡ option_map leaves (load_of n inv p) → piece_bits m inv t d e ≡ piece_bits n inv t d e
  pointer_same value are plain inv m n same =
      pointer_bits value are plain m inv ∙ ap (λ (o : Option (List Cell)). if is_given d.number (fate t ids kept) then option_map bits_of o else None) same ∙ sym (pointer_bits value are plain n inv)
