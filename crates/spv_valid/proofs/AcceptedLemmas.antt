-- Modules in which no pass has a breach.
use Rattle.std.proofs.Common.{◌≡◌, ℕ, ℤ, Bool, true, false, cond, List, Option, Some, None, Result, Ok, Err, option_and_then, refl, sym, ap, ◌∙◌, subst}
use Rattle.std.proofs.lemmas.Option.{option_and_then_some}
use Rattle.spv_base.specs.Entries.{reads}
use Rattle.spv_base.specs.declared.causes.Refusal.{Refusal}
use Rattle.spv_base.specs.declared.instructions.Inst.{Inst}
use Rattle.spv_ops.specs.Module.{Decoded, IsDecoded}
use Rattle.spv_index.specs.Operands.{id_operand}
use Rattle.spv_types.specs.Types.{Types}
use Rattle.spv_types.specs.Build.{types_of}
use Rattle.spv_types.specs.InterfaceBlocks.{layout_of, nothing}
use Rattle.spv_cfg.specs.Calls.{calls_in}
use Rattle.spv_cfg.specs.Flow.{Flow, flow_of}
use Rattle.spv_sections.specs.Sections.{sections_of}
use Rattle.spv_sections.specs.Ids.{ids_of}
use Rattle.spv_sections.specs.Capabilities.{capabilities_of}
use Rattle.spv_consts.specs.Build.{constants_of}
use Rattle.spv_bodies.specs.Bodies.{bodies_of}
use Rattle.spv_consts.specs.Table.{Constants}
use Rattle.spv_valid.specs.declared.acceptance.Parts.{Parts}
use Rattle.spv_valid.specs.declared.entry.Entry.{Entry}
use Rattle.spv_valid.specs.Entry.{Size, entry_in, entry_of, entry_point, entry_with, required, size_of}
use Rattle.spv_valid.specs.Stack.{stack_cells}
use Rattle.spv_base.specs.Answers.{after}
use Rattle.spv_valid.specs.Acceptance.{Accepted, IsAccepted, Passes, acceptance, accepted, flow_with_bodies, decoded_in, front_of, known_of, parts_in}
use Rattle.spv_valid.proofs.PassLemmas.{flow_is}

after-after : {T U V : Type 0} (due : Result T Refusal) (next : T → Result U Refusal) (last : U → Result V Refusal)
    → after (after due next) last ≡ after due (λ x. after (next x) last)
after-after (Ok x) next last = refl
after-after (Err r) next last = refl

-- the passes, some of them together
pub in_parts : (m : Decoded) (name : Option (List ℕ)) (over : List (ℕ × ℤ)) → acceptance m name over ≡
    after (front_of m) (λ _. after (known_of m.insts over) (λ known. after (flow_with_bodies known m.insts) (λ flow.
    after (entry_of known.0 known.1 flow m.insts name) (λ entry. Ok (accepted m known flow entry)))))
unfolding acceptance
in_parts m name over = simp after-after

-- what a pass gave, where all went on to the end
pub after_ok : {T U : Type 0} (due : Result T Refusal) (next : T → Result U Refusal) (y : U) → after due next ≡ Ok y → (x : T) × (due ≡ Ok x) × (next x ≡ Ok y)
after_ok (Ok x) next y is = (x, refl, is)
after_ok (Err r) next y is = absurd (cc)

-- the calls of a control flow whose bodies keep the rules are those of the module
pub flow_calls : (known : Types × Constants) (insts : List Inst) (flow : Flow) → flow_with_bodies known insts ≡ Ok flow → flow.calls ≡ calls_in insts
flow_calls known insts flow is =
    let read = after_ok (flow_of insts) _ flow is in
    let bodies = after_ok (bodies_of known.0 known.1 insts) _ flow read.2 in
    let same : read.0 ≡ flow = ok_same read.0 flow bodies.2 in
    ap (λ (f : Flow). f.calls) (sym same ∙ flow_is insts read.0 read.1)
  where
    ok_same : (x y : Flow) → Path (Result Flow Refusal) (Ok x) (Ok y) → x ≡ y
    ok_same x y same = cc

-- what is read off a module of these parts
abbrev pub seen : Decoded → Parts → Accepted
seen m p = record (accepted m (p.types, p.consts) p.start.flow p.start.entry) { stack_cells = p.start.stack_cells }

pub is_of_parts : (m : Decoded) (name : Option (List ℕ)) (over : List (ℕ × ℤ)) → acceptance m name over ≡ after (parts_in m name over) (λ p. Ok (seen m p))
unfolding acceptance
is_of_parts m name over = simp after-after

made_accepted : (m : Decoded) (name : Option (List ℕ)) (over : List (ℕ × ℤ)) (p : Parts) → parts_in m name over ≡ Ok p → acceptance m name over ≡ Ok (seen m p)
made_accepted m name over p is = rw (is_of_parts, is) refl

pub accepted_of : (m : Decoded) (name : Option (List ℕ)) (over : List (ℕ × ℤ)) (p : Parts) → IsDecoded m → parts_in m name over ≡ Ok p → IsAccepted (seen m p)
accepted_of m name over p decoded is = record { decoded = decoded; name = name; over = over; is = made_accepted m name over p is }

-- ---- what the pass of the entry point says

required_some : (o : Option Entry) (e : Entry) → required o ≡ Ok e → o ≡ Some e
required_some None e is = absurd (cc)
required_some (Some x) e is = cc

entry_with-depth : (ts : Types) (constants : Constants) (insts : List Inst) (f depth : ℕ) (size : Size) (e : Entry)
    → entry_with ts constants insts f depth size ≡ Some e → (e.function ≡ f) × (e.depth ≡ depth)
entry_with-depth ts constants insts f depth size e is = by_test _ is
  where
    by_test : (b : Bool) → (cond b (Some (record { function = f; size = size; depth = depth })) None) ≡ Some e → (e.function ≡ f) × (e.depth ≡ depth)
    by_test true same = (cc, cc)
    by_test false same = absurd (cc)

entry_in-depth : (ts : Types) (constants : Constants) (flow : Flow) (insts : List Inst) (f : ℕ) (e : Entry)
    → entry_in ts constants flow insts f ≡ Some e → reads e.function flow.depths ≡ Some e.depth
entry_in-depth ts constants flow insts f e is =
    option_and_then_some _ (reads f flow.depths) e is (λ depth read rest.
    option_and_then_some _ (size_of ts constants insts f) e rest (λ size size_is last.
    let same = entry_with-depth ts constants insts f depth size e last in
    rw (same.0, same.1) read))

pub entry_depth : (ts : Types) (constants : Constants) (flow : Flow) (insts : List Inst) (name : Option (List ℕ)) (e : Entry)
    → entry_of ts constants flow insts name ≡ Ok e → reads e.function flow.depths ≡ Some e.depth
unfolding entry_of
entry_depth ts constants flow insts name e is =
    option_and_then_some (entry_in ts constants flow insts) (option_and_then (λ i. id_operand i 1) (entry_point insts name)) e (required_some _ e is) (λ f found rest. entry_in-depth ts constants flow insts f e rest)

depth-carried : (b a : Accepted) → b ≡ a → reads b.entry b.flow.depths ≡ Some b.depth → reads a.entry a.flow.depths ≡ Some a.depth
depth-carried b a same depth = subst (λ (x : Accepted). reads x.entry x.flow.depths ≡ Some x.depth) same depth

pub accepted_depth : (a : Accepted) → IsAccepted a → reads a.entry a.flow.depths ≡ Some a.depth
accepted_depth a h =
    let front = after_ok (front_of (decoded_in a)) _ a (rw in_parts at h.is) in
    let known = after_ok (known_of a.insts h.over) _ a front.2 in
    let flow = after_ok (flow_with_bodies known.0 a.insts) _ a known.2 in
    let entry = after_ok (entry_of known.0.0 known.0.1 flow.0 a.insts h.name) _ a flow.2 in
    depth-carried (accepted (decoded_in a) known.0 flow.0 entry.0) a (cc) (entry_depth known.0.0 known.0.1 flow.0 a.insts h.name entry.0 entry.1)

-- ---- pass by pass

passes_seen : (m : Decoded) (name : Option (List ℕ)) (over : List (ℕ × ℤ)) (declared : Types) (known : Types × Constants) (flow : Flow) (entry : Entry)
    → sections_of m.insts ≡ Ok nothing → ids_of m ≡ Ok nothing → capabilities_of m.insts ≡ Ok nothing → types_of m.insts ≡ Ok declared
    → constants_of declared m.insts over ≡ Ok known → layout_of known.0 m.insts ≡ Ok nothing → flow_of m.insts ≡ Ok flow → bodies_of known.0 known.1 m.insts ≡ Ok nothing
    → entry_of known.0 known.1 flow m.insts name ≡ Ok entry → Passes (accepted m known flow entry) name over
passes_seen m name over declared known flow entry sections ids capabilities types constants layout code bodies start = record {
  sections = sections;
  ids = ids;
  capabilities = capabilities;
  declared = declared;
  types = types;
  constants = constants;
  layout = layout;
  flow = code;
  bodies = bodies;
  entry = start;
  cells = refl;
}

passes_carried : (b a : Accepted) (name : Option (List ℕ)) (over : List (ℕ × ℤ)) → b ≡ a → Passes b name over → Passes a name over
passes_carried b a name over same passes = subst (λ (x : Accepted). Passes x name over) same passes

pub accepted_passes : (a : Accepted) (name : Option (List ℕ)) (over : List (ℕ × ℤ)) → acceptance (decoded_in a) name over ≡ Ok a → Passes a name over
unfolding acceptance
accepted_passes a name over is =
    let sections = after_ok (sections_of a.insts) _ a is in
    let ids = after_ok (ids_of (decoded_in a)) _ a sections.2 in
    let capabilities = after_ok (capabilities_of a.insts) _ a ids.2 in
    let types = after_ok (types_of a.insts) _ a capabilities.2 in
    let constants = after_ok (constants_of types.0 a.insts over) _ a types.2 in
    let layout = after_ok (layout_of constants.0.0 a.insts) _ a constants.2 in
    let flow = after_ok (flow_of a.insts) _ a layout.2 in
    let bodies = after_ok (bodies_of constants.0.0 constants.0.1 a.insts) _ a flow.2 in
    let entry = after_ok (entry_of constants.0.0 constants.0.1 flow.0 a.insts name) _ a bodies.2 in
    passes_carried (accepted (decoded_in a) constants.0 flow.0 entry.0) a name over (cc)
    (passes_seen (decoded_in a) name over types.0 constants.0 flow.0 entry.0 sections.1 ids.1 capabilities.1 types.1 constants.1 layout.1 flow.1 bodies.1 entry.1)

pub passed_accepted : (a : Accepted) (name : Option (List ℕ)) (over : List (ℕ × ℤ)) → Passes a name over → acceptance (decoded_in a) name over ≡ Ok a
unfolding acceptance
passed_accepted a name over passes =
    rw (passes.sections, passes.ids, passes.capabilities, passes.types, passes.constants, passes.layout, passes.flow, passes.bodies, passes.entry, ← passes.cells) refl
