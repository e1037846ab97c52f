-- What the pass of the entry point tells of an accepted module, and that the other passes have no breach.
use Rattle.std.proofs.Common.{◌≡◌, ◌∙◌, ◌&&◌, ℕ, ℤ, Bool, true, false, List, [], ◌∷◌, Option, Some, None, Result, Ok, Err, refl, ap, subst}
use Rattle.std.specs.Prelude.{find, if◌then◌else◌, IsOk, option_and_then}
use Rattle.std.specs.List.{AllByRecursion}
use Rattle.std.proofs.lemmas.Option.{option_and_then_some}
use Rattle.spv_base.specs.Entries.{reads}
use Rattle.spv_base.specs.Order.{Ascend}
use Rattle.spv_base.specs.declared.causes.Refusal.{Refusal}
use Rattle.spv_base.specs.declared.instructions.Inst.{Inst}
use Rattle.spv_ops.specs.Module.{Decoded}
use Rattle.spv_index.specs.Operands.{id_operand}
use Rattle.spv_types.specs.Types.{Types}
use Rattle.spv_index.specs.Definitions.{before_functions}
use Rattle.spv_types.specs.Build.{type_breaches}
use Rattle.spv_consts.specs.Table.{Constants}
use Rattle.spv_consts.specs.Build.{constant_breaches, constants_of}
use Rattle.spv_valid.specs.declared.entry.Entry.{Entry}
use Rattle.spv_valid.specs.Acceptance.{Accepted, Passes, acceptance, decoded_in}
use Rattle.spv_valid.specs.Breaches.{breaches, breaches_by, first_with, known_read, layout_breaches}
use Rattle.spv_valid.specs.Entry.{Size, entry_in, entry_of, entry_point, entry_with, if_compute, is_compute, is_entry_point, is_named, is_plain_function, is_size, required, size_of}
use Rattle.spv_valid.specs.Validity.{HasEntry}
use Rattle.spv_valid.proofs.LeastLemmas.{accepted_none}
use Rattle.spv_valid.proofs.PassLemmas.{known_is, tells_all, types_are}
use Rattle.std.proofs.lemmas.Bool.{and_parts}
use Rattle.spv_types.specs.Typing.{types_read}

found_passes : (p : Inst → Bool) (insts : List Inst) (i : Inst) → find p insts ≡ Some i → p i ≡ true
found_passes p [] i h = absurd (cc)
found_passes p (j ∷ js) i h = go (p j) refl h (found_passes p js i) where
  go : (b : Bool) → p j ≡ b → (if b then Some j else find p js) ≡ Some i → (find p js ≡ Some i → p i ≡ true) → p i ≡ true
  go true e same rest = let is : j ≡ i = cc in rw is at e
  go false e same rest = rest same

if_computes : (o : Option Inst) (i : Inst) → if_compute o ≡ Some i → is_compute i ≡ true
if_computes None i h = absurd (cc)
if_computes (Some j) i h = go (is_compute j) refl h where
  go : (b : Bool) → is_compute j ≡ b → (if b then Some j else None) ≡ Some i → is_compute i ≡ true
  go true e same = let is : j ≡ i = cc in subst (λ (x : Inst). is_compute x ≡ true) is e
  go false e same = absurd (cc)

computes : (insts : List Inst) (name : Option (List ℕ)) (i : Inst) → entry_point insts name ≡ Some i → is_compute i ≡ true
computes insts None i h = if_computes (find is_entry_point insts) i h
computes insts (Some name) i h =
    (and_parts (is_compute i) _ (and_parts (is_entry_point i) _ (found_passes (is_named name) insts i h)).1).0

-- ---- the entry

pub required_some : (o : Option Entry) (e : Entry) → required o ≡ Ok e → o ≡ Some e
required_some None e is = absurd (cc)
required_some (Some x) e is = cc

record Kept (ts : Types) (insts : List Inst) (f depth : ℕ) (size : Size) (e : Entry) : Type 0 where
  plain : is_plain_function ts insts f ≡ true
  allowed : is_size size ≡ true
  function : f ≡ e.function
  sizes : size ≡ e.size
  depths : depth ≡ e.depth

kept : (ts : Types) (constants : Constants) (insts : List Inst) (f depth : ℕ) (size : Size) (e : Entry) → entry_with ts constants insts f depth size ≡ Some e → Kept ts insts f depth size e
kept ts constants insts f depth size e is = go _ refl is where
  go : (b : Bool) → (is_plain_function ts insts f && is_size size) ≡ b → (if b then Some (record { function = f; size = size; depth = depth }) else None) ≡ Some e → Kept ts insts f depth size e
  go true h same = let parts = and_parts (is_plain_function ts insts f) (is_size size) h in record { plain = parts.0; allowed = parts.1; function = cc; sizes = cc; depths = cc }
  go false h same = absurd (cc)

pub has_entry : (a : Accepted) (name : Option (List ℕ)) → entry_of a.types a.constants a.flow a.insts name ≡ Ok (record { function = a.entry; size = a.size; depth = a.depth }) → HasEntry a
unfolding entry_of
has_entry a name is =
    let e : Entry = record { function = a.entry; size = a.size; depth = a.depth } in
    option_and_then_some (entry_in a.types a.constants a.flow a.insts) (option_and_then (λ i. id_operand i 1) (entry_point a.insts name)) e (required_some _ e is) (λ f found rest.
    option_and_then_some (λ i. id_operand i 1) (entry_point a.insts name) f found (λ i point function.
    option_and_then_some _ (reads f a.flow.depths) e rest (λ depth read more.
    option_and_then_some (entry_with a.types a.constants a.insts f depth) (size_of a.types a.constants a.insts f) e more (λ size size_is last.
    let k = kept a.types a.constants a.insts f depth size e last in
    record {
      name = name;
      point = i;
      is_point = point;
      compute = computes a.insts name i point;
      function = function ∙ ap Some k.function;
      plain = rw k.function at k.plain;
      size = rw k.sizes at k.allowed;
      depth = rw k.function at (read ∙ ap Some k.depths);
    }))))

-- ---- the breaches of the passes

first_none : (rss : List (List Refusal)) → first_with rss ≡ [] → AllByRecursion (λ (rs : List Refusal). rs ≡ []) rss
first_none [] e = tt
first_none ([] ∷ later) e = (refl, first_none later e)
first_none ((r ∷ rs) ∷ later) e = absurd (cc)

accepted_ok : {T : Type 0} (due : Result T Refusal) (x : T) → due ≡ Ok x → IsOk due
accepted_ok (Ok y) x is = refl
accepted_ok (Err r) x is = absurd (cc)

pub record NoneBroken (a : Accepted) (over : List (ℕ × ℤ)) : Type 0 where
  pub declared : type_breaches a.insts [] (before_functions a.insts) ≡ []
  pub limits : constant_breaches (types_read a.insts) a.insts over ≡ []
  pub layout : layout_breaches a.types a.insts ≡ []

pub none_broken : (a : Accepted) (name : Option (List ℕ)) (over : List (ℕ × ℤ)) → Ascend 0 a.insts → acceptance (decoded_in a) name over ≡ Ok a → Passes a name over → NoneBroken a over
unfolding breaches
none_broken a name over ascend is passes =
    let m : Decoded = decoded_in a in
    let none : first_with (breaches_by m name over (types_read m.insts) (known_read m.insts over)) ≡ []
    = accepted_none (acceptance m name over) (breaches m name over) (tells_all m name over ascend) (accepted_ok (acceptance m name over) a is) in
    let lists = first_none (breaches_by m name over (types_read m.insts) (known_read m.insts over)) none in
    let read : constants_of (types_read a.insts) a.insts over ≡ Ok (a.types, a.constants)
    = subst (λ (ts : Types). constants_of ts a.insts over ≡ Ok (a.types, a.constants)) (types_are a.insts passes.declared passes.types) passes.constants in
    let known : known_read a.insts over ≡ (a.types, a.constants) = known_is a.insts over (a.types, a.constants) read in
    record {
      declared = lists.1.1.1.0;
      limits = lists.1.1.1.1.0;
      layout = subst (λ (k : Types × Constants). layout_breaches k.0 a.insts ≡ []) known lists.1.1.1.1.1.0;
    }
