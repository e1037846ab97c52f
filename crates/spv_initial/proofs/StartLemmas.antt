-- The memory that a run starts with, a variable after another.
use Rattle.std.proofs.Common.{◌≡◌, ◌∙◌, ℕ, zero, suc, ◌+◌, ◌-◌, ◌<◌, ◌≤◌, List, [], ◌∷◌, ◌++◌, length, map, replicate, take, get_or, slice_get, append-nil, Option, Some, None, refl, sym, ap, subst, arith}
use Rattle.std.specs.List.{cons_option, filter_map, range_with_len}
use Rattle.std.specs.Option.{option_map}
use Rattle.std.specs.Coded.{codes}
use Rattle.std.proofs.Math.Logic.{∥∥₁_elim, ∥∥₁_map}
use Rattle.std.proofs.Props.{props}
use Rattle.std.proofs.lemmas.Option.{slice_get_within}
use Rattle.spv_base.specs.Entries.{change, reads}
use Rattle.spv_base.specs.Variables.{Roots}
use Rattle.spv_base.specs.declared.instructions.Inst.{Inst}
use Rattle.spv_base.specs.declared.values.Value.{Value}
use Rattle.spv_base.specs.contracts.values.Value.{the_row}
use Rattle.spv_base.proofs.Exports.{length_change, change_same, change_here}
use Rattle.spv_types.specs.Laws.{AreSound}
use Rattle.spv_types.specs.Rows.{no_roots}
use Rattle.spv_types.specs.Shapes.{HasShape}
use Rattle.spv_types.specs.Types.{Types}
use Rattle.spv_valid.specs.Acceptance.{Accepted, invocations}
use Rattle.spv_valid.specs.Validity.{IsValid}
use Rattle.spv_setup.specs.declared.settings.Settings.{Settings}
use Rattle.spv_mem.specs.Memory.{AreTargets, Held, IsVariable, empty}
use Rattle.spv_initial.specs.Start.{own_roots, root, shared_roots, starting_with, variables}
use Rattle.spv_initial.specs.Values.{Suits, own_value, shared_value}
use Rattle.spv_initial.specs.Variables.{AreDeclared, Holds, declared_in, targets_of}
use Rattle.spv_initial.specs.declared.variables.Declared.{Declared}
use Rattle.spv_initial.proofs.VariableLemmas.{UnderIds, are_declared, each_at, filter_map_next, fresh, named, root_under, targets_hold}

-- ---- an accepted module

pub types_are_sound : (a : Accepted) → ∥ IsValid a ∥₁ → ∥ AreSound a.types ∥₁
types_are_sound a valid = ∥∥₁_map valid (λ (v : IsValid a). v.types)

pub variables_are : (a : Accepted) → ∥ IsValid a ∥₁ → ∥ AreDeclared a.types (variables a) ∥₁
variables_are a valid = ∥∥₁_map valid (λ (v : IsValid a). are_declared a.types a.insts v.named.distinct)

pub are_targets : (a : Accepted) (ds : List Declared) (targets : List (ℕ × ℕ)) (ts : Types) → ∥ IsValid a ∥₁ → ∥ AreDeclared a.types ds ∥₁ → targets ≡ targets_of ds → ts ≡ a.types
    → ∥ AreTargets ts targets ∥₁
are_targets a ds targets ts valid are is same =
    subst (λ (types : Types). ∥ AreTargets types targets ∥₁) (sym same) (subst (λ (list : List (ℕ × ℕ)). ∥ AreTargets a.types list ∥₁) (sym is)
    (∥∥₁_elim valid (hlevel props) (λ (v : IsValid a). ∥∥₁_map are (λ (k : AreDeclared a.types ds). (v.types, λ id ty named. targets_hold a.types ds id ty k.hold named)))))

-- ---- one variable

pub one_holds : (ts : Types) (ds : List Declared) (k : ℕ) (d : Declared) → ∥ AreDeclared ts ds ∥₁ → k < length ds → d ≡ get_or ds k d → Holds ts d
one_holds ts ds k d are inside is = ∥∥₁_elim are (hlevel props) (λ (h : AreDeclared ts ds). each_at (Holds ts) ds k d h.hold inside is)

pub one_named : (ts : Types) (ds : List Declared) (k : ℕ) (d : Declared) (targets : List (ℕ × ℕ)) → ∥ AreDeclared ts ds ∥₁ → k < length ds → d ≡ get_or ds k d → targets ≡ targets_of ds
    → reads d.id targets ≡ Some d.target
one_named ts ds k d targets are inside is same = ap (reads d.id) same ∙ ∥∥₁_elim are (hlevel props) (λ (h : AreDeclared ts ds). named ds k d h.apart inside is)

pub one_fresh : (ts : Types) (f : Declared → Option (ℕ × Value)) → UnderIds f → (ds : List Declared) (k : ℕ) (d : Declared) → ∥ AreDeclared ts ds ∥₁ → k < length ds → d ≡ get_or ds k d
    → reads d.id (filter_map f (take k ds)) ≡ None
one_fresh ts f under ds k d are inside is = ∥∥₁_elim are (hlevel (props, codes, the_row.coded)) (λ (h : AreDeclared ts ds). fresh f under ds k d h.apart inside is)

pub may_add : (a : Accepted) (m : Held) (d : Declared) (v : Value) → ∥ IsValid a ∥₁ → Suits a.types d v → Holds a.types d → m.types ≡ a.types → reads d.id m.targets ≡ Some d.target
    → ∥ IsVariable m.types m.targets d.id v ∥₁
may_add a m d v valid suits holds types named =
    ∥∥₁_map (suits (types_are_sound a valid) holds)
    (λ (shape : HasShape a.types no_roots d.target v). record { type = d.target; named = named; shape = subst (λ (ts : Types). HasShape ts no_roots d.target v) (sym types) shape })

-- a memory with more in the list of an invocation
abbrev pub more_own : ℕ → Declared → Held → Option Value → Held
more_own i d m o = record m { privates = change i (λ (es : Roots). es ++ cons_option (root d o) []) m.privates }

pub own_same : (m new : Held) (i : ℕ) (d : Declared) (o : Option Value) → None ≡ o → new ≡ m → new ≡ more_own i d m o
own_same m new i d o none is =
    is ∙ ap (λ (ls : List Roots). record m { privates = ls }) (sym (change_same i (λ (es : Roots). es ++ []) m.privates (λ (es : Roots). append-nil es))) ∙ ap (more_own i d m) none

-- ---- the shared ones

-- the value that each has, under its id
abbrev pub shared_of : Accepted → Settings → Declared → Option (ℕ × Value)
shared_of a s d = root d (shared_value a s d)

pub shared_fresh : (a : Accepted) (s : Settings) (ds : List Declared) (k : ℕ) (d : Declared) (m b : Held) → ∥ AreDeclared a.types ds ∥₁ → k < length ds → d ≡ get_or ds k d
    → m ≡ record b { shared = shared_roots a s (take k ds) } → reads d.id m.shared ≡ None
shared_fresh a s ds k d m b are inside is so_far =
    ap (λ (x : Held). reads d.id x.shared) so_far ∙ one_fresh a.types (shared_of a s) (root_under (shared_value a s)) ds k d are inside is

pub shared_next : (a : Accepted) (s : Settings) (ds : List Declared) (k : ℕ) (d : Declared) (m new b : Held) → k < length ds → d ≡ get_or ds k d
    → m ≡ record b { shared = shared_roots a s (take k ds) } → new ≡ record m { shared = m.shared ++ cons_option (shared_of a s d) [] }
    → new ≡ record b { shared = shared_roots a s (take (k + 1) ds) }
shared_next a s ds k d m new b inside is so_far more =
    more ∙ ap (λ (x : Held). record x { shared = x.shared ++ cons_option (shared_of a s d) [] }) so_far
    ∙ ap (λ (es : Roots). record b { shared = es }) (sym (filter_map_next (shared_of a s) ds k d inside is))

-- ---- those of an invocation

abbrev pub own_of : Accepted → Settings → ℕ → Declared → Option (ℕ × Value)
own_of a s n d = root d (own_value a s n d)

change_twice : {A : Type 0} (i : ℕ) (f g : A → A) (xs : List A) → change i f (change i g xs) ≡ change i (λ (x : A). f (g x)) xs
change_twice i f g [] = refl
change_twice zero f g (x ∷ xs) = refl
change_twice (suc i) f g (x ∷ xs) = ap (λ ys. x ∷ ys) (change_twice i f g xs)

change_to : {A : Type 0} (i : ℕ) (y : A) (xs : List A) → slice_get xs i ≡ Some y → change i (λ (x : A). y) xs ≡ xs
change_to i y [] h = refl
change_to zero y (x ∷ xs) h = let same : x ≡ y = cc in ap (λ z. z ∷ xs) (sym same)
change_to (suc i) y (x ∷ xs) h = ap (λ ys. x ∷ ys) (change_to i y xs h)

-- a memory in which an invocation has other variables
abbrev pub with_own : ℕ → Roots → Held → Held
with_own i es b = record b { privates = change i (λ (old : Roots). es) b.privates }

pub own_none : (a : Accepted) (s : Settings) (ds : List Declared) (i : ℕ) (m b : Held) → m ≡ b → slice_get b.privates i ≡ Some [] → m ≡ with_own i (own_roots a s (take 0 ds) i) b
own_none a s ds i m b is none = is ∙ ap (λ (ls : List Roots). record b { privates = ls }) (sym (change_to i [] b.privates none))

pub own_inside : (i : ℕ) (es : Roots) (m b : Held) → slice_get b.privates i ≡ Some [] → m ≡ with_own i es b → i < length m.privates
own_inside i es m b none so_far =
    subst (λ (n : ℕ). i < n) (sym (ap (λ (x : Held). length x.privates) so_far ∙ length_change i (λ (old : Roots). es) b.privates)) (slice_get_within b.privates i [] none)

pub own_fresh : (a : Accepted) (s : Settings) (ds : List Declared) (k i : ℕ) (d : Declared) (m b : Held) → ∥ AreDeclared a.types ds ∥₁ → k < length ds → d ≡ get_or ds k d
    → slice_get b.privates i ≡ Some [] → m ≡ with_own i (own_roots a s (take k ds) i) b → (es : Roots) → slice_get m.privates i ≡ Some es → reads d.id es ≡ None
own_fresh a s ds k i d m b are inside is none so_far es at =
    let here : slice_get m.privates i ≡ Some (own_roots a s (take k ds) i) =
    ap (λ (x : Held). slice_get x.privates i) so_far ∙ change_here i (λ (old : Roots). own_roots a s (take k ds) i) b.privates ∙ ap (option_map (λ (old : Roots). own_roots a s (take k ds) i)) none in
    let same : es ≡ own_roots a s (take k ds) i = cc in
    ap (reads d.id) same ∙ one_fresh a.types (own_of a s i) (root_under (own_value a s i)) ds k d are inside is

pub own_next : (a : Accepted) (s : Settings) (ds : List Declared) (k i : ℕ) (d : Declared) (m new b : Held) → k < length ds → d ≡ get_or ds k d
    → m ≡ with_own i (own_roots a s (take k ds) i) b → new ≡ more_own i d m (own_value a s i d) → new ≡ with_own i (own_roots a s (take (k + 1) ds) i) b
own_next a s ds k i d m new b inside is so_far more =
    more ∙ ap (λ (x : Held). more_own i d x (own_value a s i d)) so_far
    ∙ ap (λ (ls : List Roots). record b { privates = ls })
    (change_twice i (λ (es : Roots). es ++ cons_option (own_of a s i d) []) (λ (old : Roots). own_roots a s (take k ds) i) b.privates
    ∙ ap (λ (es : Roots). change i (λ (old : Roots). es) b.privates) (sym (filter_map_next (own_of a s i) ds k d inside is)))

-- ---- those of all invocations

-- the first so many have none yet
abbrev pub owned_from : (ℕ → Roots) → ℕ → ℕ → List Roots
owned_from f left count = replicate left [] ++ map f (range_with_len left (count - left))

pub owned_none : (f : ℕ → Roots) (count : ℕ) → ◌≡◌ {A = List Roots} (replicate count []) (owned_from f count count)
owned_none f count =
    let none : count - count ≡ 0 = omega arith in
    sym (ap (λ (n : ℕ). replicate count [] ++ map f (range_with_len count n)) none ∙ append-nil (replicate count []))

pub owned_all : (f : ℕ → Roots) (left count : ℕ) → left ≤ 0 → owned_from f left count ≡ map f (range_with_len 0 count)
owned_all f left count low =
    let none : left ≡ 0 = omega (arith, low) in
    let all : count - 0 ≡ count = omega arith in
    ap (λ (n : ℕ). owned_from f n count) none ∙ ap (λ (n : ℕ). map f (range_with_len 0 n)) all

last_changed : (k : ℕ) (es : Roots) (rest : List Roots) → change k (λ (old : Roots). es) (replicate (suc k) [] ++ rest) ≡ replicate k [] ++ es ∷ rest
last_changed zero es rest = refl
last_changed (suc k) es rest = ap (λ (ls : List Roots). [] ∷ ls) (last_changed k es rest)

last_got : (k : ℕ) (rest : List Roots) → slice_get (replicate (suc k) [] ++ rest) k ≡ Some []
last_got zero rest = refl
last_got (suc k) rest = last_got k rest

pub owned_empty : (f : ℕ → Roots) (left count : ℕ) → 0 < left → slice_get (owned_from f left count) (left - 1) ≡ Some []
owned_empty f zero count some = absurd (omega (arith, some))
owned_empty f (suc k) count some =
    let less : suc k - 1 ≡ k = omega arith in
    ap (slice_get (owned_from f (suc k) count)) less ∙ last_got k (map f (range_with_len (suc k) (count - suc k)))

pub owned_next : (f : ℕ → Roots) (left count : ℕ) → 0 < left → left ≤ count → change (left - 1) (λ (old : Roots). f (left - 1)) (owned_from f left count) ≡ owned_from f (left - 1) count
owned_next f zero count some within = absurd (omega (arith, some))
owned_next f (suc k) count some within =
    let less : suc k - 1 ≡ k = omega arith in
    let more : count - k ≡ suc (count - suc k) = omega (arith, within) in
    let next : k + 1 ≡ suc k = omega arith in
    let rest : List Roots = map f (range_with_len (suc k) (count - suc k)) in
    let whole : map f (range_with_len k (count - k)) ≡ f k ∷ rest =
    ap (λ (n : ℕ). map f (range_with_len k n)) more ∙ ap (λ (n : ℕ). f k ∷ map f (range_with_len n (count - suc k))) next in
    ap (λ (n : ℕ). change n (λ (old : Roots). f n) (owned_from f (suc k) count)) less ∙ last_changed k (f k) rest
    ∙ ap (λ (ls : List Roots). replicate k [] ++ ls) (sym whole) ∙ ap (λ (n : ℕ). owned_from f n count) (sym less)

pub each_none : (f : ℕ → Roots) (count : ℕ) (m : Held) → m.privates ≡ replicate count [] → m ≡ record m { privates = owned_from f count count }
each_none f count m none = ap (λ (ls : List Roots). record m { privates = ls }) (none ∙ owned_none f count)

pub each_empty : (f : ℕ → Roots) (left count : ℕ) (m b : Held) → m ≡ record b { privates = owned_from f left count } → 0 < left → slice_get m.privates (left - 1) ≡ Some []
each_empty f left count m b so_far some = ap (λ (x : Held). slice_get x.privates (left - 1)) so_far ∙ owned_empty f left count some

pub each_next : (f : ℕ → Roots) (left count : ℕ) (m new b : Held) → m ≡ record b { privates = owned_from f left count } → 0 < left → left ≤ count
    → new ≡ record m { privates = change (left - 1) (λ (old : Roots). f (left - 1)) m.privates } → new ≡ record b { privates = owned_from f (left - 1) count }
each_next f left count m new b so_far some within more =
    more ∙ ap (λ (x : Held). record x { privates = change (left - 1) (λ (old : Roots). f (left - 1)) x.privates }) so_far
    ∙ ap (λ (ls : List Roots). record b { privates = ls }) (owned_next f left count some within)

pub each_done : (f : ℕ → Roots) (left count : ℕ) (m b : Held) → m ≡ record b { privates = owned_from f left count } → left ≤ 0 → m ≡ record b { privates = map f (range_with_len 0 count) }
each_done f left count m b so_far low = so_far ∙ ap (λ (ls : List Roots). record b { privates = ls }) (owned_all f left count low)

-- ---- all

pub starting_is : (a : Accepted) (s : Settings) (ds : List Declared) (n : ℕ) (e sh new : Held) → n ≡ invocations a → e ≡ empty a.types (targets_of ds) (invocations a) a.depth
    → sh ≡ record e { shared = shared_roots a s ds } → new ≡ record sh { privates = map (own_roots a s ds) (range_with_len 0 n) } → new ≡ starting_with a s ds
starting_is a s ds n e sh new count is shared own =
    own ∙ ap (λ (k : ℕ). record sh { privates = map (own_roots a s ds) (range_with_len 0 k) }) count
    ∙ ap (λ (x : Held). record x { privates = map (own_roots a s ds) (range_with_len 0 (invocations a)) }) (shared ∙ ap (λ (x : Held). record x { shared = shared_roots a s ds }) is)

pub variables_read : (a : Accepted) (ts : Types) (insts : List Inst) (ds : List Declared) → ts ≡ a.types → insts ≡ a.insts → ds ≡ declared_in ts insts → ds ≡ variables a
variables_read a ts insts ds types all is = is ∙ ap (λ (x : Types). declared_in x insts) types ∙ ap (declared_in a.types) all

pub read_are : (a : Accepted) (ds : List Declared) → ∥ IsValid a ∥₁ → ds ≡ variables a → ∥ AreDeclared a.types ds ∥₁
read_are a ds valid is = subst (λ (list : List Declared). ∥ AreDeclared a.types list ∥₁) (sym is) (variables_are a valid)
