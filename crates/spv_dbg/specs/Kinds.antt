-- The instructions of the set NonSemantic.Shader.DebugInfo.100 by their numbers: which operands each has to have, and what these have to be.
use Rattle.std.specs.Prelude.{ℕ, List, [], ◌∷◌, Option}
use Rattle.spv_base.specs.Entries.{reads}
use Rattle.spv_dbg.specs.declared.kinds.Role.{Role}
use Rattle.spv_dbg.specs.declared.kinds.Role.TheVariants.{Any, Literal, Text, DebugType, Scope, Source, InlinedAt, Local, Variable, Expression, Operation}
use Rattle.spv_dbg.specs.declared.kinds.More.{More}
use Rattle.spv_dbg.specs.declared.kinds.More.TheVariants.{Nothing, Optional, Many, Pairs}

-- A kind: its number, what its operands have to be, and what those behind them have to be. Any is an operand that is only counted.
abbrev pub Kind : Type 0
Kind = ℕ × (List Role × More)

-- what the operands of the first kind with a number have to be
abbrev pub kind_with : ℕ → List Kind → Option (List Role × More)
kind_with number table = reads number table

unfoldable pub kinds : List Kind
kinds =
    (0, ([], Nothing))  -- InfoNone
    ∷ (1, (Any ∷ Any ∷ Any ∷ Any ∷ [], Nothing))  -- CompilationUnit: Version, DWARF Version, Source, Language
    ∷ (2, (Any ∷ Literal ∷ Literal ∷ Any ∷ [], Nothing))  -- TypeBasic: Name, Size, Encoding, Flags
    ∷ (3, (Any ∷ Any ∷ Any ∷ [], Nothing))  -- TypePointer: Base, Storage Class, Flags
    ∷ (4, (DebugType ∷ Any ∷ [], Nothing))  -- TypeQualifier: Base, Qualifier
    ∷ (5, (DebugType ∷ Literal ∷ [], Many Literal))  -- TypeArray: Base, Counts
    ∷ (6, (DebugType ∷ Literal ∷ [], Nothing))  -- TypeVector: Base, Count
    ∷ (7, (Any ∷ DebugType ∷ Any ∷ Any ∷ Any ∷ Any ∷ [], Nothing))  -- Typedef: Name, Base, Source, Line, Column, Parent
    ∷ (8, (Any ∷ Any ∷ [], Nothing))  -- TypeFunction: Flags, Return
    ∷ (9, (Any ∷ DebugType ∷ Any ∷ Any ∷ Any ∷ Any ∷ Any ∷ Any ∷ [], Pairs Literal Text))  -- TypeEnum: Name, Underlying, Source, Line, Column, Parent, Size, Flags; Values and Names
    ∷ (10, (Any ∷ Any ∷ Any ∷ Any ∷ Any ∷ Scope ∷ Any ∷ Any ∷ Any ∷ [], Nothing))  -- TypeComposite: Name, Tag, Source, Line, Column, Parent, Linkage Name, Size, Flags; Members
    ∷ (11, (Text ∷ DebugType ∷ Any ∷ Any ∷ Any ∷ Any ∷ Any ∷ Any ∷ [], Nothing))  -- TypeMember: Name, Type, Source, Line, Column, Offset, Size, Flags
    ∷ (12, ([], Nothing)) ∷ (13, ([], Nothing)) ∷ (14, ([], Nothing))  -- inheritance, pointers to members, templates
    ∷ (15, ([], Nothing)) ∷ (16, ([], Nothing)) ∷ (17, ([], Nothing))  -- parameters of templates
    ∷ (18, (Text ∷ DebugType ∷ Any ∷ Any ∷ Any ∷ Any ∷ Any ∷ Any ∷ Any ∷ [], Nothing))  -- GlobalVariable: Name, Type, Source, Line, Column, Parent, Linkage Name, Variable, Flags
    ∷ (19, ([], Nothing))  -- FunctionDeclaration
    ∷ (20, (Text ∷ Any ∷ Source ∷ Any ∷ Any ∷ Any ∷ Any ∷ Any ∷ Any ∷ [], Nothing))  -- Function: Name, Type, Source, Line, Column, Parent, Linkage Name, Flags, Scope Line
    ∷ (21, (Source ∷ Any ∷ Any ∷ Scope ∷ [], Nothing))  -- LexicalBlock: Source, Line, Column, Parent
    ∷ (22, (Any ∷ Any ∷ Scope ∷ [], Nothing))  -- LexicalBlockDiscriminator: Source, Discriminator, Parent
    ∷ (23, (Scope ∷ [], Optional InlinedAt))  -- Scope: Scope, InlinedAt
    ∷ (24, ([], Nothing))  -- NoScope
    ∷ (25, (Literal ∷ Scope ∷ [], Optional InlinedAt))  -- InlinedAt: Line, Scope, Inlined
    ∷ (26, (Text ∷ DebugType ∷ Any ∷ Any ∷ Any ∷ Scope ∷ Any ∷ [], Nothing))  -- LocalVariable: Name, Type, Source, Line, Column, Parent, Flags
    ∷ (27, (Local ∷ InlinedAt ∷ [], Nothing))  -- InlinedVariable: Variable, Inlined
    ∷ (28, (Variable ∷ Any ∷ Expression ∷ [], Many Literal))  -- Declare: Local Variable, Variable, Expression, Indexes
    ∷ (29, (Variable ∷ Any ∷ Expression ∷ [], Many Literal))  -- Value: Local Variable, Value, Expression, Indexes
    ∷ (30, (Literal ∷ [], Nothing))  -- Operation: OpCode, and what it asks
    ∷ (31, ([], Many Operation))  -- Expression: Operations
    ∷ (32, ([], Nothing)) ∷ (33, ([], Nothing)) ∷ (34, ([], Nothing))  -- macros and imported entities
    ∷ (35, (Text ∷ [], Optional Text))  -- Source: File, Text
    ∷ (101, (Any ∷ Any ∷ [], Nothing))  -- FunctionDefinition: Function, Definition
    ∷ (102, (Text ∷ [], Nothing))  -- SourceContinued: Text
    ∷ (103, (Source ∷ Literal ∷ Any ∷ Any ∷ Any ∷ [], Nothing))  -- Line: Source, Line Start, Line End, Column Start, Column End
    ∷ (104, ([], Nothing))  -- NoLine
    ∷ (105, ([], Nothing)) ∷ (106, ([], Nothing)) ∷ (107, ([], Nothing))  -- BuildIdentifier, StoragePath, EntryPoint
    ∷ (108, (DebugType ∷ Literal ∷ Any ∷ [], Nothing))  -- TypeMatrix: Vector Type, Vector Count, Column Major
    ∷ []

-- The numbers that an operand which names another debug instruction may lead to. InfoNone (0) stands for a type or a scope that is not told.
abbrev pub numbers_for : Role → List ℕ
numbers_for Any = []
numbers_for Literal = []
numbers_for Text = []
numbers_for DebugType = 0 ∷ 2 ∷ 3 ∷ 4 ∷ 5 ∷ 6 ∷ 7 ∷ 8 ∷ 9 ∷ 10 ∷ 108 ∷ []
numbers_for Scope = 0 ∷ 1 ∷ 10 ∷ 20 ∷ 21 ∷ 22 ∷ []
numbers_for Source = 35 ∷ []
numbers_for InlinedAt = 25 ∷ []
numbers_for Local = 26 ∷ []
numbers_for Variable = 26 ∷ 27 ∷ []
numbers_for Expression = 31 ∷ []
numbers_for Operation = 30 ∷ []

-- What stands behind the OpCode of an Operation, no more and no less: Deref, Plus, Minus, PlusUconst, BitPiece, Swap, Xderef, StackValue, Constu and
-- Fragment.
unfoldable pub operations : List (ℕ × List Role)
operations =
    (0, []) ∷ (1, []) ∷ (2, []) ∷ (3, Literal ∷ []) ∷ (4, Any ∷ Any ∷ []) ∷ (5, []) ∷ (6, []) ∷ (7, []) ∷ (8, Literal ∷ []) ∷ (9, Literal ∷ Literal ∷ []) ∷ []

-- Scope, NoScope, Declare, Value, Line and NoLine have a meaning in blocks alone.
abbrev pub in_blocks_alone : List ℕ
in_blocks_alone = 23 ∷ 24 ∷ 28 ∷ 29 ∷ 103 ∷ 104 ∷ []
