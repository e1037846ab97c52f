-- The state at the start of a run, put together.
use Rattle.std.proofs.Common.{◌≡◌, ◌∙◌, ℕ, ◌<◌, ◌^◌, List, [], ◌∷◌, length, map, replicate, sym, ap, subst, arith, slice_get}
use Rattle.std.proofs.lemmas.List.{length-replicate}
use Rattle.spv_setup.specs.declared.settings.Settings.{Settings}
use Rattle.spv_valid.specs.Acceptance.{Accepted, invocations}
use Rattle.spv_valid.specs.Validity.{IsValid}
use Rattle.spv_frame.specs.Frames.{fresh}
use Rattle.spv_frame.specs.Registers.{Planned}
use Rattle.spv_frame.specs.Stacks.{Stacked}
use Rattle.spv_mem.specs.Memory.{Held as Memory}
use Rattle.spv_initial.specs.Start.{local_roots, starting, variables}
use Rattle.spv_initial.specs.Variables.{AreDeclared, HaveTargets, targets_of}
use Rattle.spv_initial.specs.declared.variables.Declared.{Declared}
use Rattle.spv_plans.specs.Plans.{plan_of, plans_in}
use Rattle.spv_statuses.specs.Group.{Held as Statuses}
use Rattle.spv_statuses.specs.declared.invocations.Status.TheVariants.{Ready}
use Rattle.spv_state.specs.Events.{passed}
use Rattle.spv_state.specs.Program.{Program, words_of}
use Rattle.spv_state.specs.Rooms.{AreBounded, IsBounded}
use Rattle.spv_state.specs.Start.{begun, start_of}
use Rattle.spv_state.specs.Variables.{is_variable_of, variables_of}
use Rattle.spv_state.proofs.ChangeLemmas.{seen}
use Rattle.spv_state.proofs.EnterLemmas.{with_locals}
use Rattle.spv_state.proofs.VariableLemmas.{kept_are, kept_targets}
use Rattle.spv_base.proofs.Exports.{get_replicate}

-- ---- the variables of a function

pub function_are : (b a : Accepted) (function : ℕ) (ds : List Declared) → b ≡ a → ∥ IsValid b ∥₁ → ds ≡ variables_of a function → ∥ AreDeclared b.types ds ∥₁
function_are b a function ds same valid are =
    let own : ds ≡ variables_of b function = are ∙ ap (λ (x : Accepted). variables_of x function) (sym same) in
    subst (λ (xs : List Declared). ∥ AreDeclared b.types xs ∥₁) (sym own) (kept_are b (is_variable_of b function) valid)

pub starting_types : (a : Accepted) (s : Settings) (m : Memory) → m ≡ starting a s → m.types ≡ a.types
unfolding starting
starting_types a s m is = ap (λ (x : Memory). x.types) is

starting_targets : (a : Accepted) (s : Settings) (m : Memory) → m ≡ starting a s → m.targets ≡ targets_of (variables a)
unfolding starting
starting_targets a s m is = ap (λ (x : Memory). x.targets) is

pub starting_count : (a : Accepted) (s : Settings) (m : Memory) (count : ℕ) → m ≡ starting a s → count ≡ invocations a → length m.locals ≡ count
unfolding starting
starting_count a s m count is same = ap (λ (x : Memory). length x.locals) is ∙ length-replicate (invocations a) _ ∙ sym same

pub function_targets : (b a : Accepted) (s : Settings) (function : ℕ) (m : Memory) (ds : List Declared) → b ≡ a → ∥ IsValid b ∥₁ → m ≡ starting b s → ds ≡ variables_of a function
    → ∥ HaveTargets m.targets ds ∥₁
function_targets b a s function m ds same valid made are =
    let own : ds ≡ variables_of b function = are ∙ ap (λ (x : Accepted). variables_of x function) (sym same) in
    subst (λ (targets : List (ℕ × ℕ)). ∥ HaveTargets targets ds ∥₁) (sym (starting_targets b s m made))
    (subst (λ (xs : List Declared). ∥ HaveTargets (targets_of (variables b)) xs ∥₁) (sym own) (kept_targets b (is_variable_of b function) valid))

-- ---- the memory

abbrev with_frames : Accepted → List Declared → Memory → Memory
with_frames a ds m = record m { locals = map (with_locals (local_roots a ds)) m.locals }

pub begun_is : (a b : Accepted) (s t : Settings) (function : ℕ) (ds : List Declared) (m new : Memory) → b ≡ a → t ≡ s → function ≡ b.entry → ds ≡ variables_of a function → m ≡ starting b t
    → new ≡ with_frames b ds m → new ≡ begun a (starting a s)
begun_is a b s t function ds m new module_is setup_is function_is are made entered =
    entered ∙ ap (with_frames b ds) made ∙ ap (λ (xs : List Declared). with_frames b xs (starting b t)) (are ∙ ap (variables_of a) function_is ∙ ap (λ (x : Accepted). variables_of x b.entry) (sym module_is))
    ∙ ap (λ (x : Accepted). begun x (starting x t)) module_is ∙ ap (λ (x : Settings). begun a (starting a x)) setup_is

-- ---- the stacks

-- one frame with a plan, in an accepted module
abbrev one_frame : Accepted → Planned → ℕ → Stacked
one_frame a plan room = record { frames = passed a 0 (fresh plan) ∷ []; room = room }

pub start_bounded : (a : Accepted) (plan : Planned) (room count : ℕ) (ks : List Stacked) → ks ≡ replicate count (one_frame a plan room) → 0 < room → room < 2 ^ 32 → AreBounded ks
start_bounded a plan room count ks are some narrow i k at =
    let own : k ≡ one_frame a plan room = get_replicate count i (one_frame a plan room) k (ap (λ (xs : List Stacked). slice_get xs i) (sym are) ∙ at) in
    subst IsBounded (sym own) (record { within = omega (arith, some); narrow = narrow })

-- ---- the state

abbrev all_ready : ℕ → ℕ → Statuses
all_ready count words = record { list = replicate count Ready; words = words }

abbrev start_memory : Program → Memory
start_memory p = begun p.accepted (starting p.accepted p.setup)

abbrev start_stacks : Accepted → Accepted → List Stacked
start_stacks a b = replicate (invocations b) (one_frame a (plan_of b b.entry) b.depth)

pub start_is : (p : Program) (b : Accepted) (ps : List Planned) (m : Memory) (ks : List Stacked) (ts : Statuses) (plan : Planned) (count room words : ℕ) → b ≡ p.accepted → ps ≡ plans_in b
    → m ≡ begun p.accepted (starting p.accepted p.setup) → plan ≡ plan_of b b.entry → count ≡ invocations b → room ≡ b.depth → ks ≡ replicate count (one_frame p.accepted plan room)
    → words ≡ words_of b → ts ≡ all_ready count words → seen ps m ks ts ≡ start_of p
unfolding start_of
start_is p b ps m ks ts plan count room words module_is plans memory plan_is count_is room_is stacks words_is statuses =
    ap (λ (xs : List Planned). seen xs m ks ts) plans ∙ ap (λ (x : Memory). seen (plans_in b) x ks ts) memory
    ∙ ap (λ (xs : List Stacked). seen (plans_in b) (start_memory p) xs ts)
    (stacks ∙ ap (λ (x : Planned). replicate count (one_frame p.accepted x room)) plan_is ∙ ap (λ (n : ℕ). replicate count (one_frame p.accepted (plan_of b b.entry) n)) room_is
    ∙ ap (λ (n : ℕ). replicate n (one_frame p.accepted (plan_of b b.entry) b.depth)) count_is)
    ∙ ap (λ (x : Statuses). seen (plans_in b) (start_memory p) (start_stacks p.accepted b) x) (statuses ∙ ap (all_ready count) words_is ∙ ap (λ (n : ℕ). all_ready n (words_of b)) count_is)
    ∙ ap (λ (x : Accepted). seen (plans_in x) (start_memory p) (start_stacks p.accepted x) (all_ready (invocations x) (words_of x))) module_is
