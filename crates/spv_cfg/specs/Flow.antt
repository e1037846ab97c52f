-- The control flow of a module: what a debugger reads off its functions and blocks, and the lowest breach of their rules.
use Rattle.std.specs.Prelude.{ℕ, length, List, ◌++◌, Option, Some, None, Result, Ok, Err, nat_lt, if◌then◌else◌}
use Rattle.spv_base.specs.declared.causes.Refusal.{Refusal}
use Rattle.spv_base.specs.declared.instructions.Inst.{Inst}
use Rattle.spv_cfg.specs.Executables.{executables_of, followers_of}
use Rattle.spv_base.specs.Lowest.{lowest}
use Rattle.spv_cfg.specs.Layout.{layout_breaches}
use Rattle.spv_cfg.specs.Branches.{branch_breaches}
use Rattle.spv_cfg.specs.Phis.{phi_breaches}
use Rattle.spv_cfg.specs.Calls.{Calls, functions_of, calls_of, calls_in, depths, too_deep}
use Rattle.spv_cfg.specs.Chains.{lengths}

-- The executables, each with the label of its block before it; the executables, each with the one after it in its block;
-- the functions, each with the length of the longest chain of calls from it; and the calls.
pub record Flow : Type 0 where
  pub blocks : List (ℕ × ℕ)
  pub nexts : List (ℕ × Option ℕ)
  pub depths : List (ℕ × ℕ)
  pub calls : Calls

-- the length of the longest chain of calls from each function
abbrev pub lengths_of : List Inst → List ℕ
lengths_of insts = lengths (calls_of insts) 0 (length (functions_of insts))

abbrev pub flow_in : List Inst → Flow
flow_in insts = record {
  blocks = executables_of insts;
  nexts = followers_of (executables_of insts);
  depths = depths (functions_of insts) (lengths_of insts);
  calls = calls_in insts;
}

-- where a rule of blocks, terminators or phis is broken
abbrev pub block_breaches : List Inst → List ℕ
block_breaches insts =
    layout_breaches insts ++ (branch_breaches insts ++ phi_breaches insts)

-- where a chain of calls is too long, or a cycle
abbrev pub call_breaches : List Inst → List ℕ
call_breaches insts = too_deep (functions_of insts) (lengths_of insts)

-- the lower of two breaches; at one word the lower code
abbrev pub refusal : Option ℕ → Option ℕ → Option Refusal
refusal None None = None
refusal None (Some call) = Some (record { code = 16; word = call })
refusal (Some block) None = Some (record { code = 15; word = block })
refusal (Some block) (Some call) = Some (if nat_lt call block then record { code = 16; word = call } else record { code = 15; word = block })

abbrev pub unless_refused : Option Refusal → Flow → Result Flow Refusal
unless_refused None flow = Ok flow
unless_refused (Some refusal) flow = Err refusal

-- the flow of a module, unless a rule is broken: then the lowest breach
unfoldable pub flow_of : List Inst → Result Flow Refusal
flow_of insts = unless_refused (refusal (lowest (block_breaches insts)) (lowest (call_breaches insts))) (flow_in insts)
