-- A frame that is entered for each invocation.
use Rattle.std.proofs.Common.{◌≡◌, ◌∙◌, ℕ, zero, suc, ◌+◌, ◌<◌, ◌≤◌, List, [], ◌∷◌, ◌++◌, length, take, drop, map, refl, sym, ap, subst, arith}
use Rattle.std.proofs.Math.Logic.{∥∥₁_elim}
use Rattle.std.proofs.Props.{props}
use Rattle.spv_base.specs.Entries.{change}
use Rattle.spv_base.specs.Variables.{Roots}
use Rattle.spv_types.specs.Types.{Types}
use Rattle.spv_mem.specs.Memory.{AreVariables, Held as Memory, Levels, entered}
use Rattle.spv_valid.specs.Acceptance.{Accepted}
use Rattle.spv_initial.specs.Start.{local_roots}
use Rattle.spv_initial.specs.Variables.{HaveTargets}
use Rattle.spv_initial.specs.declared.variables.Declared.{Declared}

-- ---- a change of the first so many

abbrev pub changed_to : {A : Type 0} → (A → A) → ℕ → List A → List A
changed_to f k xs = map f (take k xs) ++ drop k xs

next_changed : {A : Type 0} (f : A → A) (k : ℕ) (xs : List A) → k < length xs → change k f (changed_to f k xs) ≡ changed_to f (suc k) xs
next_changed f k [] inside = absurd (omega (arith, inside))
next_changed f zero (x ∷ xs) inside = refl
next_changed f (suc k) (x ∷ xs) inside = ap (λ ys. f x ∷ ys) (next_changed f k xs (omega (arith, inside)))

all_changed : {A : Type 0} (f : A → A) (k : ℕ) (xs : List A) → length xs ≤ k → changed_to f k xs ≡ map f xs
all_changed f zero [] all = refl
all_changed f (suc k) [] all = refl
all_changed f zero (x ∷ xs) all = absurd (omega (arith, all))
all_changed f (suc k) (x ∷ xs) all = ap (λ ys. f x ∷ ys) (all_changed f k xs (omega (arith, all)))

length_changed : {A : Type 0} (f : A → A) (k : ℕ) (xs : List A) → length (changed_to f k xs) ≡ length xs
length_changed f zero xs = refl
length_changed f (suc k) [] = refl
length_changed f (suc k) (x ∷ xs) = ap (λ (n : ℕ). suc n) (length_changed f k xs)

-- ---- locals

-- those of one frame more
abbrev pub with_locals : Roots → Levels → Levels
with_locals es l = record l { list = l.list ++ es ∷ [] }

-- a memory in which the first so many invocations have entered a frame
abbrev pub entered_to : Roots → ℕ → Memory → Memory
entered_to es k m = record m { locals = changed_to (with_locals es) k m.locals }

pub enter_inside : (es : Roots) (k count : ℕ) (m b : Memory) → m ≡ entered_to es k b → length b.locals ≡ count → k < count → k < length m.locals
enter_inside es k count m b so_far total inside =
    let same : length m.locals ≡ count = ap (λ (x : Memory). length x.locals) so_far ∙ length_changed (with_locals es) k b.locals ∙ total in
    subst (λ (n : ℕ). k < n) (sym same) inside

pub enter_may : (a : Accepted) (ds : List Declared) (es : Roots) (k : ℕ) (m b : Memory) → m ≡ entered_to (local_roots a ds) k b → b.types ≡ a.types → ∥ HaveTargets b.targets ds ∥₁
    → ((targets : List (ℕ × ℕ)) → HaveTargets targets ds → ∥ AreVariables a.types targets es ∥₁) → ∥ AreVariables m.types m.targets es ∥₁
enter_may a ds es k m b so_far types named may =
    subst (λ (x : Memory). ∥ AreVariables x.types x.targets es ∥₁) (sym so_far)
    (subst (λ (ts : Types). ∥ AreVariables ts b.targets es ∥₁) (sym types) (∥∥₁_elim named (hlevel props) (may b.targets)))

pub enter_next : (es own : Roots) (k count : ℕ) (m new b : Memory) → m ≡ entered_to es k b → length b.locals ≡ count → k < count → own ≡ es → new ≡ entered k own m → new ≡ entered_to es (k + 1) b
enter_next es own k count m new b so_far total inside same made =
    let within : k < length b.locals = subst (λ (n : ℕ). k < n) (sym total) inside in
    let next : suc k ≡ k + 1 = omega arith in
    made ∙ ap (λ (xs : Roots). entered k xs m) same ∙ ap (entered k es) so_far
    ∙ ap (λ (ls : List Levels). record b { locals = ls }) (next_changed (with_locals es) k b.locals within ∙ ap (λ (n : ℕ). changed_to (with_locals es) n b.locals) next)

pub enter_all : (es : Roots) (k count : ℕ) (m b : Memory) → m ≡ entered_to es k b → length b.locals ≡ count → count ≤ k → m ≡ record b { locals = map (with_locals es) b.locals }
enter_all es k count m b so_far total done =
    let all : length b.locals ≤ k = subst (λ (n : ℕ). n ≤ k) (sym total) done in
    so_far ∙ ap (λ (ls : List Levels). record b { locals = ls }) (all_changed (with_locals es) k b.locals all)
