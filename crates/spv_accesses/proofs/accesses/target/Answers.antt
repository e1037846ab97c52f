use Rattle.std.proofs.Common.{◌≡◌, ◌∙◌, Ok, [], ap, refl, sym}
use Rattle.spv_base.specs.declared.values.Pointer.{Pointer as Reference}
use Rattle.spv_base.specs.declared.values.Root.{Root}
use Rattle.spv_operands.specs.Operands.{shown}
use Rattle.spv_operands.specs.Values.{pointer_to}
use Rattle.spv_operands.specs.declared.operands.Operand.{Operand}
use Rattle.spv_sites.specs.Effects.{pointer}
use Rattle.spv_accesses.proofs.accesses.target.Goals as goal
use Rattle.spv_base.proofs.Exports.{out_pointer}

-- the pointer that a whole variable is
whole_pointer : (r : Root) → pointer (pointer_to r) ≡ Ok (record { root = r; path = [] })
whole_pointer r = rw (out_pointer (record { root = r; path = [] })) refl

pub returns-in-Variable : goal.returns-in-Variable
returns-in-Variable c =
    ap (λ (o : Operand). pointer (shown o)) c.in-Variable.is ∙ whole_pointer c.in-Variable.root ∙ ap (λ (q : Reference). Ok q) (sym c.whole.ensures)
