-- The start of a run: the memory of the module's variables, and each invocation at the entry point (SPIR-V 1.6 section 2.4, Entry Point).
use Rattle.std.specs.Prelude.{ℕ, [], ◌∷◌, ◌++◌, map, replicate}
use Rattle.spv_base.specs.Variables.{Roots}
use Rattle.spv_valid.specs.Acceptance.{Accepted, invocations}
use Rattle.spv_mem.specs.Memory.{Held as Memory, Levels}
use Rattle.spv_initial.specs.Start.{local_roots, starting}
use Rattle.spv_frame.specs.Frames.{fresh}
use Rattle.spv_plans.specs.Plans.{plan_of, plans_in}
use Rattle.spv_statuses.specs.declared.invocations.Status.TheVariants.{Ready}
use Rattle.spv_state.specs.Events.{passed}
use Rattle.spv_state.specs.Program.{Program, words_of}
use Rattle.spv_state.specs.State.{State}
use Rattle.spv_state.specs.Variables.{variables_of}

-- the variables of a frame of a function, each with what it begins with
abbrev pub frame_roots : Accepted → ℕ → Roots
frame_roots a function = local_roots a (variables_of a function)

-- the memory that a run starts with, and in it the variables of the entry point's frame for each invocation
abbrev pub begun : Accepted → Memory → Memory
begun a m = record m { locals = map (λ (l : Levels). record l { list = l.list ++ frame_roots a a.entry ∷ [] }) m.locals }

-- Each invocation is Ready, and has come to the first executable of the entry function.
unfoldable pub start_of : Program → State
start_of p = record {
  plans = plans_in p.accepted;
  memory = begun p.accepted (starting p.accepted p.setup);
  stacks = replicate (invocations p.accepted) (record { frames = passed p.accepted 0 (fresh (plan_of p.accepted p.accepted.entry)) ∷ []; room = p.accepted.depth });
  statuses = record { list = replicate (invocations p.accepted) Ready; words = words_of p.accepted };
}
