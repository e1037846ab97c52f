-- What is loaded in two states that look alike to an invocation.
use Rattle.std.proofs.Common.{◌≡◌, ◌∙◌, ℕ, ◌+◌, ◌==◌, Bool, true, false, List, [], ◌∷◌, Option, Some, None, slice_get, refl, sym, ap, subst, arith}
use Rattle.std.specs.Prelude.{if◌then◌else◌, ⊤}
use Rattle.std.specs.Option.{option_and_then, option_map, option_map_or}
use Rattle.std.proofs.lemmas.Bool.{eqb-true}
use Rattle.spv_base.specs.Entries.{reads}
use Rattle.spv_base.specs.Parts.{part_at}
use Rattle.spv_base.specs.Variables.{Roots}
use Rattle.spv_base.specs.declared.values.Pointer.{Pointer}
use Rattle.spv_base.specs.declared.values.Root.{Root}
use Rattle.spv_base.specs.declared.values.Root.TheVariants.{Shared, Private, Local}
use Rattle.spv_base.specs.declared.values.Value.{Value}
use Rattle.spv_mem.specs.Memory.{Levels, load_of}
use Rattle.spv_state.specs.State.{State}
use Rattle.spv_order.specs.Order.{Holds}
use Rattle.spv_touch.specs.Ranges.{before, below, count, leaves_at, range}
use Rattle.spv_touch.specs.Views.{AreApart, Differ, LookAlike, VariablesDiffer, outline}
use Rattle.spv_order.specs.declared.events.Leaves.{Leaves}
use Rattle.spv_touch.proofs.OutlineLemmas.{same_before, same_count, same_parts}
use Rattle.spv_touch.proofs.PartLemmas.{same_part}

-- ---- one variable

-- a variable is in neither, or it differs in these leaves
abbrev pub Agree : (ℕ → Type 0) → Option Value → Option Value → Type 0
Agree some None None = ⊤
Agree some None (Some w) = ⊥
Agree some (Some v) None = ⊥
Agree some (Some v) (Some w) = Differ some v w

pub reads_agree : (some : List Leaves) (es fs : Roots) (id : ℕ) → VariablesDiffer some es fs → Agree (Holds some id) (reads id es) (reads id fs)
reads_agree some [] [] id h = tt
reads_agree some [] (f ∷ fs) id h = absurd h
reads_agree some (e ∷ es) [] id h = absurd h
reads_agree some (e ∷ es) (f ∷ fs) id h =
    subst (λ (k : ℕ). Agree (Holds some id) (if e.0 == id then Some e.1 else reads id es) (if k == id then Some f.1 else reads id fs)) h.0.0
    (test (e.0 == id) refl (reads_agree some es fs id h.1))
  where
    test : (b : Bool) → (e.0 == id) ≡ b → Agree (Holds some id) (reads id es) (reads id fs)
        → Agree (Holds some id) (if b then Some e.1 else reads id es) (if b then Some f.1 else reads id fs)
    test false is rest = rest
    test true is rest = subst (λ (k : ℕ). Differ (Holds some k) e.1 f.1) (eqb-true e.0 id is) h.0.1

-- ---- parts

parts_alike : (some : ℕ → Type 0) (o p : Option Value) (path : List ℕ) → Agree some o p
    → option_map outline (option_and_then (λ v. part_at v path) o) ≡ option_map outline (option_and_then (λ v. part_at v path) p)
parts_alike some None None path h = refl
parts_alike some None (Some w) path h = absurd h
parts_alike some (Some v) None path h = absurd h
parts_alike some (Some v) (Some w) path h = same_parts v w path h.outline

abbrev pub range_in : ℕ → List ℕ → Option Value → List Leaves
range_in id path o = option_map_or (λ v. option_map_or (λ part. range id v path part ∷ []) (part_at v path) []) o []

-- a part lies in the same leaves
ranges_alike : (some : ℕ → Type 0) (o p : Option Value) (id : ℕ) (path : List ℕ) → Agree some o p → range_in id path o ≡ range_in id path p
ranges_alike some None None id path h = refl
ranges_alike some None (Some w) id path h = absurd h
ranges_alike some (Some v) None id path h = absurd h
ranges_alike some (Some v) (Some w) id path h = parts (part_at v path) (part_at w path) (same_parts v w path h.outline)
  where
    parts : (a b : Option Value) → option_map outline a ≡ option_map outline b
        → option_map_or (λ part. range id v path part ∷ []) a [] ≡ option_map_or (λ part. range id w path part ∷ []) b []
    parts None None e = refl
    parts None (Some b) e = cc
    parts (Some a) None e = cc
    parts (Some a) (Some b) e =
        let outlines : outline a ≡ outline b = cc in
        let first : before v path ≡ before w path = same_before v w path h.outline in
        let many : count a ≡ count b = same_count a b outlines in
        ap (λ (n : ℕ). record { root = id; first = n; end = n + count a } ∷ []) first ∙ ap (λ (n : ℕ). record { root = id; first = before w path; end = before w path + n } ∷ []) many

-- a part that lies in no leaf that differs is the same in both
parts_same : (some : List Leaves) (o p : Option Value) (id : ℕ) (path : List ℕ) → Agree (Holds some id) o p → AreApart some (range_in id path o)
    → option_and_then (λ v. part_at v path) o ≡ option_and_then (λ v. part_at v path) p
parts_same some None None id path h apart = refl
parts_same some None (Some w) id path h apart = absurd h
parts_same some (Some v) None id path h apart = absurd h
parts_same some (Some v) (Some w) id path h apart = parts (part_at v path) (part_at w path) refl refl (same_parts v w path h.outline)
  where
    parts : (a b : Option Value) → part_at v path ≡ a → part_at w path ≡ b → option_map outline a ≡ option_map outline b → part_at v path ≡ part_at w path
    parts None None e f k = e ∙ sym f
    parts None (Some b) e f k = cc
    parts (Some a) None e f k = cc
    parts (Some a) (Some b) e f k =
        let listed : range_in id path (Some v) ≡ range id v path a ∷ [] = ap (λ (x : Option Value). option_map_or (λ part. range id v path part ∷ []) x []) e in
        let same : a ≡ b = same_part (Holds some id) v w a b path h e f
        (λ m low high holds. subst (λ (ranges : List Leaves). AreApart some ranges) listed apart id m holds (range id v path a, (0, omega arith, refl), refl, low, high)) in
        e ∙ ap (λ (x : Value). Some x) same ∙ sym f

-- ---- loads

-- what a pointer names has one outline in both states
pub loads_alike : (i : ℕ) (some : List Leaves) (s t : State) → LookAlike i some s t → (q : Pointer) → option_map outline (load_of s.memory i q) ≡ option_map outline (load_of t.memory i q)
loads_alike i some s t alike q = by_root q.root
  where
    by_root : (r : Root) → option_map outline (load_of s.memory i (record { root = r; path = q.path })) ≡ option_map outline (load_of t.memory i (record { root = r; path = q.path }))
    by_root (Shared id) = parts_alike (Holds some id) (reads id s.memory.shared) (reads id t.memory.shared) q.path (reads_agree some s.memory.shared t.memory.shared id alike.shared)
    by_root (Private id) = ap (λ (es : Option Roots). option_map outline (option_and_then (λ v. part_at v q.path) (option_and_then (reads id) es))) alike.privates
    by_root (Local depth id) =
        ap (λ (l : Option Levels). option_map outline (option_and_then (λ v. part_at v q.path) (option_and_then (reads id) (option_and_then (λ (k : Levels). slice_get k.list depth) l)))) alike.locals

-- and lies in the same leaves
pub leaves_alike : (i : ℕ) (some : List Leaves) (s t : State) → LookAlike i some s t → (q : Pointer) → leaves_at s.memory q ≡ leaves_at t.memory q
leaves_alike i some s t alike q = by_root q.root
  where
    by_root : (r : Root) → below s.memory r q.path ≡ below t.memory r q.path
    by_root (Shared id) = ranges_alike (Holds some id) (reads id s.memory.shared) (reads id t.memory.shared) id q.path (reads_agree some s.memory.shared t.memory.shared id alike.shared)
    by_root (Private id) = refl
    by_root (Local depth id) = refl

-- it is the same where none of them differs
pub loads_same : (i : ℕ) (some : List Leaves) (s t : State) → LookAlike i some s t → (q : Pointer) → AreApart some (leaves_at s.memory q) → load_of s.memory i q ≡ load_of t.memory i q
loads_same i some s t alike q apart = by_root q.root apart
  where
    by_root : (r : Root) → AreApart some (below s.memory r q.path) → load_of s.memory i (record { root = r; path = q.path }) ≡ load_of t.memory i (record { root = r; path = q.path })
    by_root (Shared id) apart = parts_same some (reads id s.memory.shared) (reads id t.memory.shared) id q.path (reads_agree some s.memory.shared t.memory.shared id alike.shared) apart
    by_root (Private id) apart = ap (λ (es : Option Roots). option_and_then (λ v. part_at v q.path) (option_and_then (reads id) es)) alike.privates
    by_root (Local depth id) apart =
        ap (λ (l : Option Levels). option_and_then (λ v. part_at v q.path) (option_and_then (reads id) (option_and_then (λ (k : Levels). slice_get k.list depth) l))) alike.locals
