-- The opcodes that are read, each with its grammar (SPIR-V 1.6 section 3, Instructions), a line for each grammar.
use Rattle.std.specs.Prelude.{ℕ, List, [], ◌∷◌, ◌++◌, map, codes}
use Rattle.spv_ops.specs.declared.grammar.Head.{Head}
use Rattle.spv_ops.specs.declared.grammar.Head.TheVariants.{Plain, Result, TypedResult}
use Rattle.spv_ops.specs.declared.grammar.Part.{Part}
use Rattle.spv_ops.specs.declared.grammar.Part.TheVariants.{Id, Literal, String, MayEnd, MemoryOperands}
use Rattle.spv_ops.specs.declared.grammar.Rest.{Rest}
use Rattle.spv_ops.specs.declared.grammar.Rest.TheVariants.{Nothing, Ids, Literals, IdPairs, LoopControl, Decoration, ExecutionMode, ExecutionModeIds}

-- an opcode: its number, its name, what stands before the operands, the parts of its grammar, what stands after them
abbrev pub Row : Type 0
Row = ℕ × List ℕ × Head × List Part × Rest

-- these opcodes have this grammar
abbrev pub each : Head → List Part → Rest → List (ℕ × List ℕ) → List Row
each head parts rest opcodes = map (λ opcode. (opcode.0, opcode.1, head, parts, rest)) opcodes

unfoldable pub table : List Row
table =
    each Plain [] Nothing
    ((0, codes "Nop") ∷ (56, codes "FunctionEnd") ∷ (317, codes "NoLine") ∷ (253, codes "Return") ∷
    (255, codes "Unreachable") ∷ [])
    ++ each Plain (Literal ∷ []) Nothing ((17, codes "Capability") ∷ [])
    ++ each Plain (String ∷ []) Nothing
    ((2, codes "SourceContinued") ∷ (4, codes "SourceExtension") ∷ (10, codes "Extension") ∷
    (330, codes "ModuleProcessed") ∷ [])
    ++ each Plain (Literal ∷ Literal ∷ MayEnd ∷ Id ∷ MayEnd ∷ String ∷ []) Nothing
    ((3, codes "Source") ∷ [])
    ++ each Plain (Id ∷ String ∷ []) Nothing ((5, codes "Name") ∷ [])
    ++ each Plain (Id ∷ Literal ∷ String ∷ []) Nothing ((6, codes "MemberName") ∷ [])
    ++ each Result (String ∷ []) Nothing ((7, codes "String") ∷ (11, codes "ExtInstImport") ∷ [])
    ++ each Plain (Id ∷ Literal ∷ Literal ∷ []) Nothing ((8, codes "Line") ∷ [])
    ++ each TypedResult (Id ∷ Literal ∷ []) Ids ((12, codes "ExtInst") ∷ [])
    ++ each Plain (Literal ∷ Literal ∷ []) Nothing ((14, codes "MemoryModel") ∷ [])
    ++ each Plain (Literal ∷ Id ∷ String ∷ []) Ids ((15, codes "EntryPoint") ∷ [])
    ++ each Plain (Id ∷ []) ExecutionMode ((16, codes "ExecutionMode") ∷ [])
    ++ each Plain (Id ∷ []) ExecutionModeIds ((331, codes "ExecutionModeId") ∷ [])
    ++ each Plain (Id ∷ []) Decoration ((71, codes "Decorate") ∷ [])
    ++ each Plain (Id ∷ Literal ∷ []) Decoration ((72, codes "MemberDecorate") ∷ [])
    ++ each Result [] Nothing ((19, codes "TypeVoid") ∷ (20, codes "TypeBool") ∷ (248, codes "Label") ∷ [])
    ++ each Result (Literal ∷ Literal ∷ []) Nothing ((21, codes "TypeInt") ∷ [])
    ++ each Result (Id ∷ Literal ∷ []) Nothing ((23, codes "TypeVector") ∷ [])
    ++ each Result (Id ∷ Id ∷ []) Nothing ((28, codes "TypeArray") ∷ [])
    ++ each Result (Id ∷ []) Nothing ((29, codes "TypeRuntimeArray") ∷ [])
    ++ each Result [] Ids ((30, codes "TypeStruct") ∷ [])
    ++ each Result (Literal ∷ Id ∷ []) Nothing ((32, codes "TypePointer") ∷ [])
    ++ each Result (Id ∷ []) Ids ((33, codes "TypeFunction") ∷ [])
    ++ each TypedResult [] Nothing
    ((1, codes "Undef") ∷ (41, codes "ConstantTrue") ∷ (42, codes "ConstantFalse") ∷ (46, codes "ConstantNull") ∷
    (48, codes "SpecConstantTrue") ∷ (49, codes "SpecConstantFalse") ∷ (55, codes "FunctionParameter") ∷ [])
    ++ each TypedResult (Literal ∷ []) Literals ((43, codes "Constant") ∷ (50, codes "SpecConstant") ∷ [])
    ++ each TypedResult [] Ids
    ((44, codes "ConstantComposite") ∷ (51, codes "SpecConstantComposite") ∷ (80, codes "CompositeConstruct") ∷ [])
    ++ each TypedResult (Literal ∷ []) Ids ((52, codes "SpecConstantOp") ∷ [])
    ++ each TypedResult (Literal ∷ Id ∷ []) Nothing ((54, codes "Function") ∷ [])
    ++ each TypedResult (Id ∷ []) Ids
    ((57, codes "FunctionCall") ∷ (65, codes "AccessChain") ∷ (66, codes "InBoundsAccessChain") ∷ [])
    ++ each TypedResult (Literal ∷ MayEnd ∷ Id ∷ []) Nothing ((59, codes "Variable") ∷ [])
    ++ each TypedResult (Id ∷ MayEnd ∷ MemoryOperands ∷ []) Nothing ((61, codes "Load") ∷ [])
    ++ each Plain (Id ∷ Id ∷ MayEnd ∷ MemoryOperands ∷ []) Nothing ((62, codes "Store") ∷ [])
    ++ each Plain (Id ∷ Id ∷ MayEnd ∷ MemoryOperands ∷ MayEnd ∷ MemoryOperands ∷ []) Nothing
    ((63, codes "CopyMemory") ∷ [])
    ++ each TypedResult (Id ∷ Id ∷ []) Ids ((67, codes "PtrAccessChain") ∷ [])
    ++ each TypedResult (Id ∷ Literal ∷ []) Nothing ((68, codes "ArrayLength") ∷ [])
    ++ each TypedResult (Id ∷ Id ∷ []) Nothing
    ((77, codes "VectorExtractDynamic") ∷ (401, codes "PtrEqual") ∷ (402, codes "PtrNotEqual") ∷ [])
    ++ each TypedResult (Id ∷ Id ∷ []) Nothing
    ((128, codes "IAdd") ∷ (130, codes "ISub") ∷ (132, codes "IMul") ∷ (134, codes "UDiv") ∷ (135, codes "SDiv") ∷
    (137, codes "UMod") ∷ (138, codes "SRem") ∷ (139, codes "SMod") ∷ (149, codes "IAddCarry") ∷
    (150, codes "ISubBorrow") ∷ (151, codes "UMulExtended") ∷ (152, codes "SMulExtended") ∷
    (164, codes "LogicalEqual") ∷ (165, codes "LogicalNotEqual") ∷ (166, codes "LogicalOr") ∷
    (167, codes "LogicalAnd") ∷ (170, codes "IEqual") ∷ (171, codes "INotEqual") ∷ (172, codes "UGreaterThan") ∷
    (173, codes "SGreaterThan") ∷ (174, codes "UGreaterThanEqual") ∷ (175, codes "SGreaterThanEqual") ∷
    (176, codes "ULessThan") ∷ (177, codes "SLessThan") ∷ (178, codes "ULessThanEqual") ∷
    (179, codes "SLessThanEqual") ∷ (194, codes "ShiftRightLogical") ∷ (195, codes "ShiftRightArithmetic") ∷
    (196, codes "ShiftLeftLogical") ∷ (197, codes "BitwiseOr") ∷ (198, codes "BitwiseXor") ∷
    (199, codes "BitwiseAnd") ∷ [])
    ++ each TypedResult (Id ∷ Id ∷ Id ∷ []) Nothing
    ((78, codes "VectorInsertDynamic") ∷ (169, codes "Select") ∷ (202, codes "BitFieldSExtract") ∷
    (203, codes "BitFieldUExtract") ∷ (227, codes "AtomicLoad") ∷ (232, codes "AtomicIIncrement") ∷
    (233, codes "AtomicIDecrement") ∷ [])
    ++ each TypedResult (Id ∷ Id ∷ Literal ∷ []) Literals ((79, codes "VectorShuffle") ∷ [])
    ++ each TypedResult (Id ∷ []) Literals ((81, codes "CompositeExtract") ∷ [])
    ++ each TypedResult (Id ∷ Id ∷ []) Literals ((82, codes "CompositeInsert") ∷ [])
    ++ each TypedResult (Id ∷ []) Nothing ((83, codes "CopyObject") ∷ (400, codes "CopyLogical") ∷ [])
    ++ each TypedResult (Id ∷ []) Nothing
    ((113, codes "UConvert") ∷ (114, codes "SConvert") ∷ (124, codes "Bitcast") ∷ (126, codes "SNegate") ∷
    (154, codes "Any") ∷ (155, codes "All") ∷ (168, codes "LogicalNot") ∷ (200, codes "Not") ∷
    (204, codes "BitReverse") ∷ (205, codes "BitCount") ∷ [])
    ++ each TypedResult (Id ∷ Id ∷ Id ∷ Id ∷ []) Nothing
    ((201, codes "BitFieldInsert") ∷ (229, codes "AtomicExchange") ∷ (234, codes "AtomicIAdd") ∷
    (235, codes "AtomicISub") ∷ (236, codes "AtomicSMin") ∷ (237, codes "AtomicUMin") ∷
    (238, codes "AtomicSMax") ∷ (239, codes "AtomicUMax") ∷ (240, codes "AtomicAnd") ∷ (241, codes "AtomicOr") ∷
    (242, codes "AtomicXor") ∷ [])
    ++ each TypedResult (Id ∷ Id ∷ Id ∷ Id ∷ Id ∷ Id ∷ []) Nothing
    ((230, codes "AtomicCompareExchange") ∷ [])
    ++ each Plain (Id ∷ Id ∷ Id ∷ []) Nothing ((224, codes "ControlBarrier") ∷ [])
    ++ each Plain (Id ∷ Id ∷ []) Nothing ((225, codes "MemoryBarrier") ∷ [])
    ++ each Plain (Id ∷ Id ∷ Id ∷ Id ∷ []) Nothing ((228, codes "AtomicStore") ∷ [])
    ++ each TypedResult [] IdPairs ((245, codes "Phi") ∷ [])
    ++ each Plain (Id ∷ Id ∷ []) LoopControl ((246, codes "LoopMerge") ∷ [])
    ++ each Plain (Id ∷ Literal ∷ []) Nothing ((247, codes "SelectionMerge") ∷ [])
    ++ each Plain (Id ∷ []) Nothing ((249, codes "Branch") ∷ [])
    ++ each Plain (Id ∷ Id ∷ Id ∷ MayEnd ∷ Literal ∷ Literal ∷ []) Nothing
    ((250, codes "BranchConditional") ∷ [])
    ++ each Plain (Id ∷ Id ∷ []) Literals ((251, codes "Switch") ∷ [])
    ++ each Plain (Id ∷ []) Nothing ((254, codes "ReturnValue") ∷ [])
