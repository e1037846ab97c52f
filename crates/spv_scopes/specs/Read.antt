-- What is known of scopes and of calls that were inlined behind some debug instructions, which are given from the last one back.
use Rattle.std.specs.Prelude.{◌≡◌, ℕ, ◌<◌, IfSome, List, length, reverse, unwrap_or}
use Rattle.std.specs.BTreeMap as tree
use Rattle.std.specs.BTreeMap.{BTreeMap}
use Rattle.std.specs.Ordering.{nat_cmp}
use Rattle.spv_dbg.specs.declared.insts.DebugInst.{DebugInst}
use Rattle.spv_dbg.specs.Tables.{Tables}
use Rattle.spv_scopes.specs.declared.scopes.Calls.{Calls}
use Rattle.spv_scopes.specs.declared.scopes.Enclosing.{Enclosing}
use Rattle.spv_scopes.specs.Calls.{calls_from}
use Rattle.spv_scopes.specs.Scopes.{calls_around, enclosing}

abbrev pub nothing : Enclosing
nothing = record { function = 0; source = 0 }

-- what a map has under an id
abbrev pub enclosing_in : BTreeMap ℕ Enclosing → ℕ → Enclosing
enclosing_in enclosings id = unwrap_or (tree.get nat_cmp enclosings id) nothing

-- under each id stands what encloses it
pub record AreScopesRead (back : List DebugInst) (enclosings : BTreeMap ℕ Enclosing) : Type 0 where
  pub enclosed : (id : ℕ) → enclosing_in enclosings id ≡ enclosing back id

-- under each id stands the number of its call, which leads along the calls around it
pub record AreCallsRead (t : Tables) (back : List DebugInst) (calls : Calls) : Type 0 where
  pub within : (id : ℕ) → IfSome (tree.get nat_cmp calls.numbers id) (λ n. n < length calls.list.items)
  pub around : (id : ℕ) → calls_from (reverse calls.list.items) (tree.get nat_cmp calls.numbers id) ≡ calls_around t back id
