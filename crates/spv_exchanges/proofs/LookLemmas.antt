-- States that look alike to invocations: either way round, and all of them alike.
use Rattle.std.proofs.Common.{◌≡◌, ◌∙◌, ℕ, zero, suc, ◌≤◌, ◌<◌, List, [], ◌∷◌, Option, Some, None, slice_get, inl, inr, refl, sym, ap, subst, arith}
use Rattle.std.specs.Prelude.{◌⊎◌, length, slice_index_or}
use Rattle.std.specs.Option.{option_map}
use Rattle.std.proofs.lemmas.Bool.{cases_eq, cases_lt}
use Rattle.std.proofs.Math.Logic.{∥∥₁_elim}
use Rattle.std.proofs.Props.{props}
use Rattle.std.specs.Coded.{codes}
use Rattle.spv_touch.specs.Below.spv_base.specs.contracts.values.Value as value
use Rattle.spv_touch.specs.Below.spv_base.specs.Variables.{Roots}
use Rattle.spv_touch.specs.Below.spv_base.specs.declared.values.Pointer.{Pointer}
use Rattle.spv_touch.specs.Below.spv_base.specs.declared.values.Value.{Value}
use Rattle.spv_touch.specs.Below.spv_types.specs.Rows.{leaves}
use Rattle.spv_touch.specs.Below.spv_mem.specs.Memory.{Held as Memory, Levels, load_of}
use Rattle.spv_touch.specs.Below.spv_frame.specs.Stacks.{Stacked}
use Rattle.spv_order.specs.Order.{Holds}
use Rattle.spv_order.specs.declared.events.Leaves.{Leaves}
use Rattle.spv_touch.specs.Below.spv_statuses.specs.Group.{Held as Statuses}
use Rattle.spv_touch.specs.Below.spv_statuses.specs.declared.invocations.Status.{Status}
use Rattle.spv_touch.specs.Below.spv_state.specs.Program.{Program}
use Rattle.spv_touch.specs.Below.spv_state.specs.State.{State}
use Rattle.spv_touch.specs.Touching.{touched_of}
use Rattle.spv_touch.specs.Views.{AreApart, Differ, KeepsOutline, LookAlike, StoreFits, VariablesDiffer, outline}
use Rattle.spv_touch.proofs.Exports.{loads_alike, same_due, same_value}

-- ---- either way round

turned_values : (some : ℕ → Type 0) (v w : Value) → Differ some v w → Differ some w v
turned_values some v w d = record { outline = sym d.outline; leaves = λ n out. sym (d.leaves n out) }

turned_variables : (some : List Leaves) (es fs : Roots) → VariablesDiffer some es fs → VariablesDiffer some fs es
turned_variables some [] [] h = tt
turned_variables some [] (f ∷ fs) h = absurd h
turned_variables some (e ∷ es) [] h = absurd h
turned_variables some (e ∷ es) (f ∷ fs) h =
    ((sym h.0.0, subst (λ (k : ℕ). Differ (Holds some k) f.1 e.1) h.0.0 (turned_values (Holds some e.0) e.1 f.1 h.0.1)), turned_variables some es fs h.1)

pub turned : (i : ℕ) (some : List Leaves) (s t : State) → LookAlike i some s t → LookAlike i some t s
turned i some s t a = record {
  plans = sym a.plans;
  types = sym a.types;
  targets = sym a.targets;
  shared = turned_variables some s.memory.shared t.memory.shared a.shared;
  privates = sym a.privates;
  locals = sym a.locals;
  stack = sym a.stack;
  words = sym a.words;
  status = sym a.status;
}

-- ---- what is stored

kept_alike : (i : ℕ) (some : List Leaves) (s t : State) → LookAlike i some s t → (o : Option (Pointer × Value)) → KeepsOutline s i o → KeepsOutline t i o
kept_alike i some s t alike None keeps = tt
kept_alike i some s t alike (Some e) keeps = there (load_of t.memory i e.0) refl (sym (loads_alike i some s t alike e.0) ∙ ap (option_map outline) keeps.1)
  where
    there : (o : Option Value) → load_of t.memory i e.0 ≡ o → option_map outline (load_of t.memory i e.0) ≡ Some (outline keeps.0) → KeepsOutline t i (Some e)
    there None is h = let h2 : option_map outline None ≡ Some (outline keeps.0) = ap (option_map outline) (sym is) ∙ h in absurd (cc)
    there (Some w) is h =
        let h2 : Some (outline w) ≡ Some (outline keeps.0) = ap (option_map outline) (sym is) ∙ h in
        let same : outline w ≡ outline keeps.0 = cc in
        (w, is, same ∙ keeps.2)

pub fits_alike : (p : Program) (i : ℕ) (some : List Leaves) (s t : State) → LookAlike i some s t → AreApart some (touched_of p s i).reads → StoreFits p s i → StoreFits p t i
fits_alike p i some s t alike apart fits e due = kept_alike i some s t alike e.effect.store (fits e (same_due p s t i some alike apart ∙ due))

-- it holds where it is known to hold
known_kept : (s : State) (i : ℕ) (o : Option (Pointer × Value)) → ∥ KeepsOutline s i o ∥₁ → KeepsOutline s i o
known_kept s i None known = tt
known_kept s i (Some e) known = by (load_of s.memory i e.0) refl
  where
    by : (o : Option Value) → load_of s.memory i e.0 ≡ o → KeepsOutline s i (Some e)
    by None is =
        absurd (∥∥₁_elim known (hlevel props) (λ (k : KeepsOutline s i (Some e)). let there : None ≡ Some k.0 = sym is ∙ k.1 in let no : ⊥ = absurd (cc) in no))
    by (Some w) is = (
      w,
      is,
      ∥∥₁_elim known (hlevel (props, codes, value.the_row.coded))
          (λ (k : KeepsOutline s i (Some e)). let there : Some w ≡ Some k.0 = sym is ∙ k.1 in let same : w ≡ k.0 = cc in ap outline same ∙ k.2),
    )

pub known_fits : (p : Program) (s : State) (i : ℕ) → ∥ StoreFits p s i ∥₁ → StoreFits p s i
known_fits p s i known e due = known_kept s i e.effect.store (∥∥₁_elim known (hlevel props) (λ (fits : StoreFits p s i). ∣ fits e due ∣₁))

-- ---- all the same

-- whether a leaf is in one of some ranges
among : (r : Leaves) (root leaf : ℕ) → ((r.root ≡ root) × (r.first ≤ leaf) × (leaf < r.end)) ⊎ ((r.root ≡ root) × (r.first ≤ leaf) × (leaf < r.end) → ⊥)
among r root leaf = elim (cases_eq r.root root) [
  | inr other ↦ inr (λ h. other h.0)
  | inl same ↦ elim (cases_lt leaf r.first) [
    | inl low ↦ inr (λ h. let from = h.1 in omega (arith, low, from))
    | inr from ↦ elim (cases_lt leaf r.end) [ inl below ↦ inl (same, from, below) | inr high ↦ inr (λ h. let below = h.2 in omega (arith, high, below)) ]
  ]
]

not_behind : (r : Leaves) (ranges : List Leaves) (root leaf : ℕ) → ((r.root ≡ root) × (r.first ≤ leaf) × (leaf < r.end) → ⊥) → (Holds ranges root leaf → ⊥)
    → (q : Leaves) (k : ℕ) → k < length (r ∷ ranges) → slice_index_or (r ∷ ranges) k q ≡ q → q.root ≡ root → q.first ≤ leaf → leaf < q.end → ⊥
not_behind r ranges root leaf not_here none q zero low is a b c = not_here (subst (λ (x : Leaves). (x.root ≡ root) × (x.first ≤ leaf) × (leaf < x.end)) (sym is) (a, b, c))
not_behind r ranges root leaf not_here none q (suc k) low is a b c = none (q, (k, omega (arith, low), is), a, b, c)

held : (ranges : List Leaves) (root leaf : ℕ) → Holds ranges root leaf ⊎ (Holds ranges root leaf → ⊥)
held [] root leaf = inr (λ h. let none = h.1.1 in omega (arith, none))
held (r ∷ ranges) root leaf = elim (among r root leaf) [
  | inl here ↦ inl (r, (0, omega arith, refl), here.0, here.1, here.2)
  | inr not_here ↦ elim (held ranges root leaf) [
    | inl h ↦ let low = h.1.1 in inl (h.0, (suc h.1.0, omega (arith, low), h.1.2), h.2, h.3, h.4)
    | inr none ↦ inr (λ h. not_behind r ranges root leaf not_here none h.0 h.1.0 h.1.1 h.1.2 h.2 h.3 h.4)
  ]
]

same_items : {X : Type 0} (xs ys : List X) → ((n : ℕ) → slice_get xs n ≡ slice_get ys n) → xs ≡ ys
same_items [] [] h = refl
same_items [] (y ∷ ys) h = let first = h zero in cc
same_items (x ∷ xs) [] h = let first = h zero in cc
same_items (x ∷ xs) (y ∷ ys) h =
    let first = h zero in
    let rest : xs ≡ ys = same_items xs ys (λ n. h (suc n)) in
    cc

module _ (some others : List Leaves) (apart : AreApart some others) where
  same_values : (id : ℕ) (v w : Value) → Differ (Holds some id) v w → Differ (Holds others id) v w → v ≡ w
  same_values id v w d e =
      same_value v w d.outline (same_items (leaves v) (leaves w) (λ n. elim (held some id n) [ inl h ↦ e.leaves n (apart id n h) | inr out ↦ d.leaves n out ]))

  same_variables : (es fs : Roots) → VariablesDiffer some es fs → VariablesDiffer others es fs → es ≡ fs
  same_variables [] [] h k = refl
  same_variables [] (f ∷ fs) h k = absurd h
  same_variables (e ∷ es) [] h k = absurd h
  same_variables (e ∷ es) (f ∷ fs) h k =
      let value : e.1 ≡ f.1 = same_values e.0 e.1 f.1 h.0.1 k.0.1 in
      let one : e ≡ f = ap (λ (id : ℕ). (id, e.1)) h.0.0 ∙ ap (λ (v : Value). (f.0, v)) value in
      let rest : es ≡ fs = same_variables es fs h.1 k.1 in
      cc

-- what an invocation alone sees
pub record Own : Type 0 where
  pub privates : Option Roots
  pub locals : Option Levels
  pub stack : Option Stacked
  pub status : Option Status

abbrev pub own_of : State → ℕ → Own
own_of s i = record {
  privates = slice_get s.memory.privates i;
  locals = slice_get s.memory.locals i;
  stack = slice_get s.stacks i;
  status = slice_get s.statuses.list i;
}

pub same_own : (i : ℕ) (some : List Leaves) (s t : State) → LookAlike i some s t → own_of s i ≡ own_of t i
same_own i some s t a = let b = a.privates in let c = a.locals in let d = a.stack in let e = a.status in cc

-- two states are one, where two invocations see the same but for leaves apart, and each has the same of its own
pub told : (i j : ℕ) (some others : List Leaves) (s t : State) → AreApart some others → LookAlike i some s t → LookAlike j others s t → ((k : ℕ) → own_of s k ≡ own_of t k) → s ≡ t
told i j some others s t apart a b own =
    let plans = a.plans in
    let types = a.types in
    let targets = a.targets in
    let words = a.words in
    let shared : s.memory.shared ≡ t.memory.shared = same_variables some others apart s.memory.shared t.memory.shared a.shared b.shared in
    let privates : s.memory.privates ≡ t.memory.privates = same_items s.memory.privates t.memory.privates (λ k. ap (λ (o : Own). o.privates) (own k)) in
    let locals : s.memory.locals ≡ t.memory.locals = same_items s.memory.locals t.memory.locals (λ k. ap (λ (o : Own). o.locals) (own k)) in
    let stacks : s.stacks ≡ t.stacks = same_items s.stacks t.stacks (λ k. ap (λ (o : Own). o.stack) (own k)) in
    let list : s.statuses.list ≡ t.statuses.list = same_items s.statuses.list t.statuses.list (λ k. ap (λ (o : Own). o.status) (own k)) in
    let memory : ◌≡◌ {A = Memory} (record { types = s.memory.types; targets = s.memory.targets; shared = s.memory.shared; privates = s.memory.privates; locals = s.memory.locals })
    (record { types = t.memory.types; targets = t.memory.targets; shared = t.memory.shared; privates = t.memory.privates; locals = t.memory.locals }) = cc in
    let statuses : ◌≡◌ {A = Statuses} (record { list = s.statuses.list; words = s.statuses.words }) (record { list = t.statuses.list; words = t.statuses.words }) = cc in
    let both : ◌≡◌ {A = State} (record { plans = s.plans; memory = s.memory; stacks = s.stacks; statuses = s.statuses })
    (record { plans = t.plans; memory = t.memory; stacks = t.stacks; statuses = t.statuses }) = cc in
    both
