-- The variables of a module by their scopes.
use Rattle.std.proofs.Common.{◌≡◌, ◌∙◌, ℕ, ◌==◌, Bool, true, false, List, [], ◌∷◌, ◌++◌, Option, Some, None, find, flat_map, refl, sym, ap}
use Rattle.std.specs.Prelude.{filter, slice_index}
use Rattle.std.specs.Option.{option_or}
use Rattle.std.proofs.lemmas.List.Folds.{find-append}
use Rattle.spv_dbg.specs.declared.insts.DebugInst.{DebugInst}
use Rattle.spv_dbg.specs.Tables.{Tables, ids_of}
use Rattle.spv_parts.specs.Composites.{is_named}
use Rattle.spv_paths.specs.Variables.{Variables, globals, ids_with, is_local_of, local_entries, locals, locals_of, scopes, variable_named, variables_of}

-- those after a Parent are the locals of the scope
local_ids : (scope : ℕ) (insts : List DebugInst) → ids_with (local_entries insts) scope ≡ ids_of (filter (is_local_of scope) insts)
local_ids scope [] = refl
local_ids scope (d ∷ ds) = by (d.number == 26) refl (local_ids scope ds)
  where
    of_scope : (b : Bool) → (slice_index d.operands 5 == scope) ≡ b → (d.number == 26) ≡ true → ids_with (local_entries ds) scope ≡ ids_of (filter (is_local_of scope) ds)
        → ids_with (local_entries (d ∷ ds)) scope ≡ ids_of (filter (is_local_of scope) (d ∷ ds))
    of_scope false e is same = rw (is, e) same
    of_scope true e is same = rw (is, e) (ap (λ (ids : List ℕ). d.id ∷ ids) same)

    by : (b : Bool) → (d.number == 26) ≡ b → ids_with (local_entries ds) scope ≡ ids_of (filter (is_local_of scope) ds)
        → ids_with (local_entries (d ∷ ds)) scope ≡ ids_of (filter (is_local_of scope) (d ∷ ds))
    by false e same = rw e same
    by true e same = of_scope (slice_index d.operands 5 == scope) refl e same

each_same : (f g : ℕ → List ℕ) → ((k : ℕ) → f k ≡ g k) → (ks : List ℕ) → flat_map f ks ≡ flat_map g ks
each_same f g same [] = refl
each_same f g same (k ∷ ks) = rw (same k) (ap (λ (xs : List ℕ). g k ++ xs) (each_same f g same ks))

module _ (t : Tables) (v : Variables) (is : v ≡ variables_of t) (each : ℕ → List ℕ) (index : (scope : ℕ) → each scope ≡ ids_with v.locals scope) where
  -- what an index gives for each scope, from one outward
  pub index_locals : (scope : ℕ) → flat_map each (scopes t scope) ≡ locals t scope
  index_locals scope = each_same each (locals_of t) (λ k. index k ∙ ap (λ (x : Variables). ids_with x.locals k) is ∙ local_ids k t.insts) (scopes t scope)

  module _ (scope : ℕ) (name : List ℕ) where
    both : option_or (find (is_named t name) (flat_map each (scopes t scope))) (find (is_named t name) v.globals) ≡ variable_named t scope name
    both = ap (λ (ids : List ℕ). option_or (find (is_named t name) ids) (find (is_named t name) v.globals)) (index_locals scope)
        ∙ ap (λ (x : Variables). option_or (find (is_named t name) (locals t scope)) (find (is_named t name) x.globals)) is
        ∙ sym (find-append (is_named t name) (locals t scope) (globals t))

    pub local_found : (id : ℕ) → Some id ≡ find (is_named t name) (flat_map each (scopes t scope)) → Some id ≡ variable_named t scope name
    local_found id found = rw (sym found) at both

    pub global_found : (result : Option ℕ) → None ≡ find (is_named t name) (flat_map each (scopes t scope)) → result ≡ find (is_named t name) v.globals → result ≡ variable_named t scope name
    global_found result none found = found ∙ rw (sym none) at both
