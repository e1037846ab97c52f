-- Scopes and what encloses them, and the calls that were inlined (NonSemantic.Shader.DebugInfo.100). A scope names the one around it by its
-- Parent, and an InlinedAt the one around it by its Inlined. Both stand earlier in the module, so the debug instructions are gone through
-- from the last one back.
use Rattle.std.specs.Prelude.{ℕ, ◌==◌, ◌&&◌, ◌||◌, Bool, if◌then◌else◌, List, [], ◌∷◌, ◌++◌, slice_index}
use Rattle.spv_dbg.specs.declared.insts.DebugInst.{DebugInst}
use Rattle.spv_dbg.specs.Tables.{Tables}
use Rattle.spv_scopes.specs.declared.scopes.Enclosing.{Enclosing}
use Rattle.spv_scopes.specs.declared.places.Place.{Place}
use Rattle.spv_scopes.specs.InForce.{file_of, literal}

-- ---- outward along Parents

-- The Parent of a TypeComposite (10), a LexicalBlock (21) or a LexicalBlockDiscriminator (22). No other scope has one that is followed.
abbrev pub parent_in : DebugInst → ℕ
parent_in d =
    if d.number == 10 then slice_index d.operands 5
    else if d.number == 21 then slice_index d.operands 3
    else if d.number == 22 then slice_index d.operands 2
    else 0

-- the scope that is looked for before a debug instruction: the Parent of the one that is it
abbrev pub outward : DebugInst → ℕ → ℕ
outward d scope = if d.id == scope then parent_in d else scope

-- the Function (20) that encloses a scope, or is it, and 0 where there is none
abbrev pub function_around : List DebugInst → ℕ → ℕ
function_around [] scope = 0
function_around (d ∷ back) scope = if d.id == scope && d.number == 20 then d.id else function_around back (outward d scope)

-- a Function (20) or a LexicalBlock (21)
abbrev pub has_source : DebugInst → Bool
has_source d = d.number == 20 || d.number == 21

abbrev pub source_in : DebugInst → ℕ
source_in d = slice_index d.operands (if d.number == 20 then 2 else 0)

-- the Source of the nearest LexicalBlock or Function from a scope outward, and 0 where there is none
abbrev pub source_around : List DebugInst → ℕ → ℕ
source_around [] scope = 0
source_around (d ∷ back) scope = if d.id == scope && has_source d then source_in d else source_around back (outward d scope)

abbrev pub enclosing : List DebugInst → ℕ → Enclosing
enclosing back scope = record { function = function_around back scope; source = source_around back scope }

-- ---- outward along Inlined

-- InlinedAt (25): Line, Scope, Inlined
abbrev pub is_call : DebugInst → ℕ → Bool
is_call d inlined = d.id == inlined && d.number == 25

-- The place of a call that was inlined: its line, in the Source around its Scope. A line 0 is no line, and has no file.
abbrev pub call_place : Tables → List DebugInst → DebugInst → Place
call_place t back d = record {
  scope = slice_index d.operands 1;
  inlined = slice_index d.operands 2;
  function = function_around back (slice_index d.operands 1);
  file = if literal t (slice_index d.operands 0) == 0 then 0 else file_of t (source_around back (slice_index d.operands 1));
  line = literal t (slice_index d.operands 0);
}

-- the calls that were inlined, from an InlinedAt outward
abbrev pub calls_around : Tables → List DebugInst → ℕ → List Place
calls_around t [] inlined = []
calls_around t (d ∷ back) inlined =
    (if is_call d inlined then call_place t back d ∷ [] else []) ++ calls_around t back (if is_call d inlined then slice_index d.operands 2 else inlined)
