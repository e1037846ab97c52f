-- The instructions of the module that is made, in their order (SPIR-V 1.6 section 3.42, and NonSemantic.Shader.DebugInfo.100,
-- revision 1.00). It is a compute shader of 64 invocations. Each keeps a sum and puts it into the shared array; so often as the constant
-- `turns` says, it doubles the sum and adds what the invocation beside it has there, with a barrier before and behind the reading. At its
-- end each puts its sum into the buffer.
use Rattle.std.specs.Prelude.{ℕ, List, [], ◌∷◌, ◌++◌, map, codes}
use Rattle.spv_base.specs.declared.instructions.Inst.{Inst}
use Rattle.spv_base.specs.declared.instructions.Operand.{Operand}
use Rattle.spv_base.specs.declared.instructions.Operand.TheVariants.{Id, Lit, Text}
use Rattle.spv_make.specs.Ids.{debug_set, file_name, main_name, acc_name, uint_name, void, main_type, bool, uint}
use Rattle.spv_make.specs.Ids.{c0, c1, c2, c3, c4, c5, c6, c32, c64, c264, turns}
use Rattle.spv_make.specs.Ids.{buffer_array, shared_array, buffer_block, input_pointer, array_pointer, shared_pointer, block_pointer, buffer_pointer}
use Rattle.spv_make.specs.Ids.{index, shared, buffer, source, unit, nothing, uint_record, type_record, main_record, acc_record, expression, main}
use Rattle.spv_make.specs.Ids.{entry, own, place, head, count, acc, goes, body, other, other_place, theirs, doubled, acc_next, count_next, done, out}

-- ---- instructions by what stands before their operands; their words do not depend on where they stand

-- neither a type nor a result
abbrev pub plain : ℕ → List Operand → Inst
plain op operands = record { word = 0; op = op; ty = 0; id = 0; operands = operands }

-- a result
abbrev pub defined : ℕ → ℕ → List Operand → Inst
defined id op operands = record { word = 0; op = op; ty = 0; id = id; operands = operands }

-- a result of a type
abbrev pub typed : ℕ → ℕ → ℕ → List Operand → Inst
typed id op ty operands = record { word = 0; op = op; ty = ty; id = id; operands = operands }

-- OpExtInst 12 with an instruction of the debug set: its number and the ids that are its operands
abbrev pub debug : ℕ → ℕ → List ℕ → Inst
debug id number ids = typed id 12 void (Id debug_set ∷ Lit number ∷ map Id ids)

-- DebugScope 23 of main
abbrev pub scope : ℕ → Inst
scope id = debug id 23 (main_record ∷ [])

-- DebugLine 103: the line with the number that a constant has
abbrev pub line : ℕ → ℕ → Inst
line id number = debug id 103 (source ∷ number ∷ number ∷ c0 ∷ c0 ∷ [])

-- ---- the parts of the module

-- OpCapability 17 Shader, OpExtension 10, OpExtInstImport 11, OpMemoryModel 14 Logical GLSL450, OpEntryPoint 15 GLCompute,
-- OpExecutionMode 16 LocalSize 17
abbrev pub beginning : List Inst
beginning =
    plain 17 (Lit 1 ∷ [])
    ∷ plain 10 (Text (codes "SPV_KHR_non_semantic_info") ∷ [])
    ∷ defined debug_set 11 (Text (codes "NonSemantic.Shader.DebugInfo.100") ∷ [])
    ∷ plain 14 (Lit 0 ∷ Lit 1 ∷ [])
    ∷ plain 15 (Lit 5 ∷ Id main ∷ Text (codes "main") ∷ Id index ∷ Id shared ∷ Id buffer ∷ [])
    ∷ plain 16 (Id main ∷ Lit 17 ∷ Lit 64 ∷ Lit 1 ∷ Lit 1 ∷ []) ∷ []

-- OpString 7
abbrev pub strings : List Inst
strings =
    defined file_name 7 (Text (codes "make.comp") ∷ [])
    ∷ defined main_name 7 (Text (codes "main") ∷ [])
    ∷ defined acc_name 7 (Text (codes "acc") ∷ [])
    ∷ defined uint_name 7 (Text (codes "uint") ∷ []) ∷ []

-- OpDecorate 71 and OpMemberDecorate 72: BuiltIn 11 LocalInvocationIndex 29, Block 2, Offset 35, ArrayStride 6, DescriptorSet 34, Binding 33
abbrev pub decorations : List Inst
decorations =
    plain 71 (Id index ∷ Lit 11 ∷ Lit 29 ∷ [])
    ∷ plain 71 (Id buffer_block ∷ Lit 2 ∷ [])
    ∷ plain 72 (Id buffer_block ∷ Lit 0 ∷ Lit 35 ∷ Lit 0 ∷ [])
    ∷ plain 71 (Id buffer_array ∷ Lit 6 ∷ Lit 4 ∷ [])
    ∷ plain 71 (Id buffer ∷ Lit 34 ∷ Lit 0 ∷ [])
    ∷ plain 71 (Id buffer ∷ Lit 33 ∷ Lit 0 ∷ []) ∷ []

-- OpTypeVoid 19, OpTypeFunction 33, OpTypeBool 20, OpTypeInt 21
abbrev pub scalar_types : List Inst
scalar_types = defined void 19 [] ∷ defined main_type 33 (Id void ∷ []) ∷ defined bool 20 [] ∷ defined uint 21 (Lit 32 ∷ Lit 0 ∷ []) ∷ []

-- OpConstant 43 of the type uint
abbrev pub constant : ℕ → ℕ → Inst
constant id value = typed id 43 uint (Lit value ∷ [])

abbrev pub constants : ℕ → List Inst
constants number_of_turns =
    constant c0 0 ∷ constant c1 1 ∷ constant c2 2 ∷ constant c3 3 ∷ constant c4 4 ∷ constant c5 5 ∷ constant c6 6
    ∷ constant c32 32 ∷ constant c64 64 ∷ constant c264 264 ∷ constant turns number_of_turns ∷ []

-- OpTypeArray 28, OpTypeStruct 30, and OpTypePointer 32 of the storage classes Input 1, Workgroup 4 and StorageBuffer 12
abbrev pub memory_types : List Inst
memory_types =
    defined buffer_array 28 (Id uint ∷ Id c64 ∷ [])
    ∷ defined shared_array 28 (Id uint ∷ Id c64 ∷ [])
    ∷ defined buffer_block 30 (Id buffer_array ∷ [])
    ∷ defined input_pointer 32 (Lit 1 ∷ Id uint ∷ [])
    ∷ defined array_pointer 32 (Lit 4 ∷ Id shared_array ∷ [])
    ∷ defined shared_pointer 32 (Lit 4 ∷ Id uint ∷ [])
    ∷ defined block_pointer 32 (Lit 12 ∷ Id buffer_block ∷ [])
    ∷ defined buffer_pointer 32 (Lit 12 ∷ Id uint ∷ []) ∷ []

-- OpVariable 59
abbrev pub variables : List Inst
variables =
    typed index 59 input_pointer (Lit 1 ∷ []) ∷ typed shared 59 array_pointer (Lit 4 ∷ []) ∷ typed buffer 59 block_pointer (Lit 12 ∷ []) ∷ []

-- DebugSource 35, DebugCompilationUnit 1, DebugInfoNone 0, DebugTypeBasic 2 (Unsigned 6, 32 bits), DebugTypeFunction 8, DebugFunction 20,
-- DebugLocalVariable 26, DebugExpression 31
abbrev pub records : List Inst
records =
    debug source 35 (file_name ∷ [])
    ∷ debug unit 1 (c1 ∷ c4 ∷ source ∷ c2 ∷ [])
    ∷ debug nothing 0 []
    ∷ debug uint_record 2 (uint_name ∷ c32 ∷ c6 ∷ c0 ∷ [])
    ∷ debug type_record 8 (c0 ∷ nothing ∷ [])
    ∷ debug main_record 20 (main_name ∷ type_record ∷ source ∷ c1 ∷ c0 ∷ unit ∷ main_name ∷ c0 ∷ c1 ∷ [])
    ∷ debug acc_record 26 (acc_name ∷ uint_record ∷ source ∷ c2 ∷ c0 ∷ main_record ∷ c0 ∷ [])
    ∷ debug expression 31 [] ∷ []

-- OpFunction 54, OpLabel 248, DebugFunctionDefinition 101, OpLoad 61, OpAccessChain 65, OpStore 62, OpBranch 249
abbrev pub entry_block : List Inst
entry_block =
    typed main 54 void (Lit 0 ∷ Id main_type ∷ [])
    ∷ defined entry 248 []
    ∷ debug 42 101 (main_record ∷ main ∷ [])
    ∷ scope 43
    ∷ line 44 c1
    ∷ typed own 61 uint (Id index ∷ [])
    ∷ typed place 65 shared_pointer (Id shared ∷ Id own ∷ [])
    ∷ plain 62 (Id place ∷ Id own ∷ [])
    ∷ plain 249 (Id head ∷ []) ∷ []

-- OpPhi 245, DebugValue 29, OpULessThan 176, OpLoopMerge 246, OpBranchConditional 250
abbrev pub head_block : List Inst
head_block =
    defined head 248 []
    ∷ typed count 245 uint (Id c0 ∷ Id entry ∷ Id count_next ∷ Id body ∷ [])
    ∷ typed acc 245 uint (Id own ∷ Id entry ∷ Id acc_next ∷ Id body ∷ [])
    ∷ scope 50
    ∷ line 51 c2
    ∷ debug 52 29 (acc_record ∷ acc ∷ expression ∷ [])
    ∷ typed goes 176 bool (Id count ∷ Id turns ∷ [])
    ∷ plain 246 (Id done ∷ Id body ∷ Lit 0 ∷ [])
    ∷ plain 250 (Id goes ∷ Id body ∷ Id done ∷ []) ∷ []

-- OpBitwiseXor 198, OpControlBarrier 224 of the workgroup, OpIAdd 128
abbrev pub body_block : List Inst
body_block =
    defined body 248 []
    ∷ scope 55
    ∷ line 56 c3
    ∷ typed other 198 uint (Id own ∷ Id c1 ∷ [])
    ∷ typed other_place 65 shared_pointer (Id shared ∷ Id other ∷ [])
    ∷ plain 224 (Id c2 ∷ Id c2 ∷ Id c264 ∷ [])
    ∷ typed theirs 61 uint (Id other_place ∷ [])
    ∷ plain 224 (Id c2 ∷ Id c2 ∷ Id c264 ∷ [])
    ∷ line 60 c4
    ∷ typed doubled 128 uint (Id acc ∷ Id acc ∷ [])
    ∷ typed acc_next 128 uint (Id doubled ∷ Id theirs ∷ [])
    ∷ plain 62 (Id place ∷ Id acc_next ∷ [])
    ∷ typed count_next 128 uint (Id count ∷ Id c1 ∷ [])
    ∷ plain 249 (Id head ∷ []) ∷ []

-- OpReturn 253, OpFunctionEnd 56
abbrev pub done_block : List Inst
done_block =
    defined done 248 []
    ∷ scope 65
    ∷ line 66 c5
    ∷ typed out 65 buffer_pointer (Id buffer ∷ Id c0 ∷ Id own ∷ [])
    ∷ plain 62 (Id out ∷ Id acc ∷ [])
    ∷ plain 253 []
    ∷ plain 56 [] ∷ []

-- all of them, where each invocation goes round its loop so many times
unfoldable pub instructions : ℕ → List Inst
instructions number_of_turns =
    beginning ++ strings ++ decorations ++ scalar_types ++ constants number_of_turns ++ memory_types ++ variables ++ records
    ++ entry_block ++ head_block ++ body_block ++ done_block
