-- Which modules are accepted, and what an accepted module is: the rules of each pass over all instructions (SPIR-V 1.6
-- section 2.16, and this project's profile), where a pass is read only where the passes before it have no breach.
use Rattle.std.specs.Prelude.{◌≡◌, ℕ, ℤ, ◌*◌, List, Option, Result, Ok}
use Rattle.spv_base.specs.Answers.{after}
use Rattle.spv_base.specs.declared.causes.Refusal.{Refusal}
use Rattle.spv_base.specs.declared.instructions.Inst.{Inst}
use Rattle.spv_ops.specs.Module.{Decoded, IsDecoded}
use Rattle.spv_types.specs.Types.{Types}
use Rattle.spv_types.specs.Build.{types_of}
use Rattle.spv_types.specs.InterfaceBlocks.{layout_of, nothing}
use Rattle.spv_cfg.specs.Flow.{Flow, flow_of}
use Rattle.spv_sections.specs.Sections.{sections_of}
use Rattle.spv_sections.specs.Ids.{ids_of}
use Rattle.spv_sections.specs.Capabilities.{capabilities_of}
use Rattle.spv_consts.specs.Table.{Constants}
use Rattle.spv_consts.specs.Build.{constants_of}
use Rattle.spv_bodies.specs.Bodies.{bodies_of}
use Rattle.spv_valid.specs.declared.acceptance.Parts.{Parts}
use Rattle.spv_valid.specs.declared.acceptance.Start.{Start}
use Rattle.spv_valid.specs.declared.entry.Entry.{Entry}
use Rattle.spv_valid.specs.Entry.{Size, entry_of}
use Rattle.spv_valid.specs.Stack.{stack_cells}

-- what a debugger reads off an accepted module
pub record Accepted : Type 0 where
  pub insts : List Inst
  pub bound : ℕ  -- every id is below it
  pub types : Types
  pub constants : Constants
  pub flow : Flow
  pub entry : ℕ  -- the id of the entry point's function
  pub size : Size  -- of the workgroup
  pub depth : ℕ  -- how many functions the longest chain of calls from the entry point has
  pub stack_cells : ℕ  -- the most cells that the frames of an invocation have together

-- how many invocations a workgroup has
abbrev pub invocations : Accepted → ℕ
invocations a = a.size.0 * a.size.1 * a.size.2

-- what is read off a module in which no pass has a breach
abbrev pub accepted : Decoded → Types × Constants → Flow → Entry → Accepted
accepted m known flow entry = record {
  insts = m.insts;
  bound = m.bound;
  types = known.0;
  constants = known.1;
  flow = flow;
  entry = entry.function;
  size = entry.size;
  depth = entry.depth;
  stack_cells = stack_cells known.0 m.insts entry.function;
}

-- A decoded module, for an entry point of a name or the first one, and values for its SpecIds: the order of
-- its sections, its ids, what it declares, its types, its constants, the layout of its blocks, its functions and their
-- blocks, the bodies of the functions, and its entry point.
unfoldable pub acceptance : Decoded → Option (List ℕ) → List (ℕ × ℤ) → Result Accepted Refusal
acceptance m name over =
    after (sections_of m.insts) (λ _.
    after (ids_of m) (λ _.
    after (capabilities_of m.insts) (λ _.
    after (types_of m.insts) (λ types.
    after (constants_of types m.insts over) (λ known.
    after (layout_of known.0 m.insts) (λ _.
    after (flow_of m.insts) (λ flow.
    after (bodies_of known.0 known.1 m.insts) (λ _.
    after (entry_of known.0 known.1 flow m.insts name) (λ entry.
    Ok (accepted m known flow entry))))))))))

-- the decoded module
abbrev pub decoded_in : Accepted → Decoded
decoded_in a = record { insts = a.insts; bound = a.bound }

-- a decoded module that is accepted with some entry point and values
pub record IsAccepted (a : Accepted) : Type 0 where
  pub decoded : IsDecoded (decoded_in a)
  pub name : Option (List ℕ)
  pub over : List (ℕ × ℤ)
  pub is : acceptance (decoded_in a) name over ≡ Ok a

-- no pass over a module has a breach, and what is read off it is what they give
pub record Passes (a : Accepted) (name : Option (List ℕ)) (over : List (ℕ × ℤ)) : Type 0 where
  pub sections : sections_of a.insts ≡ Ok nothing
  pub ids : ids_of (decoded_in a) ≡ Ok nothing
  pub capabilities : capabilities_of a.insts ≡ Ok nothing
  pub declared : Types
  pub types : types_of a.insts ≡ Ok declared
  pub constants : constants_of declared a.insts over ≡ Ok (a.types, a.constants)
  pub layout : layout_of a.types a.insts ≡ Ok nothing
  pub flow : flow_of a.insts ≡ Ok a.flow
  pub bodies : bodies_of a.types a.constants a.insts ≡ Ok nothing
  pub entry : entry_of a.types a.constants a.flow a.insts name ≡ Ok (record { function = a.entry; size = a.size; depth = a.depth })
  pub cells : a.stack_cells ≡ stack_cells a.types a.insts a.entry

-- ---- some passes together

-- the order of the sections, the ids and what a module declares
abbrev pub front_of : Decoded → Result (Unit {0}) Refusal
front_of m = after (sections_of m.insts) (λ _. after (ids_of m) (λ _. capabilities_of m.insts))

-- the types with the lengths of their arrays, and the constants, where blocks are laid out
abbrev pub known_of : List Inst → List (ℕ × ℤ) → Result (Types × Constants) Refusal
known_of insts over = after (types_of insts) (λ types. after (constants_of types insts over) (λ known. after (layout_of known.0 insts) (λ _. Ok known)))

-- the control flow, where the bodies keep the rules
abbrev pub flow_with_bodies : Types × Constants → List Inst → Result Flow Refusal
flow_with_bodies known insts = after (flow_of insts) (λ flow. after (bodies_of known.0 known.1 insts) (λ _. Ok flow))

-- the control flow, the entry point and the depth of the stack
abbrev pub start_in : Types × Constants → List Inst → Option (List ℕ) → Result Start Refusal
start_in known insts name =
    after (flow_with_bodies known insts) (λ flow.
    after (entry_of known.0 known.1 flow insts name) (λ entry.
    Ok (record { flow = flow; entry = entry; stack_cells = stack_cells known.0 insts entry.function })))

-- all that is read off a module in which no pass has a breach
abbrev pub parts_in : Decoded → Option (List ℕ) → List (ℕ × ℤ) → Result Parts Refusal
parts_in m name over =
    after (front_of m) (λ _.
    after (known_of m.insts over) (λ known.
    after (start_in known m.insts name) (λ start.
    Ok (record { types = known.0; consts = known.1; start = start }))))
