-- Scopes outward, with the variables of each.
use Rattle.std.proofs.Common.{◌≡◌, ◌∙◌, ℕ, suc, ◌+◌, ◌-◌, ◌<◌, Bool, List, ◌++◌, Option, Some, None, find, flat_map, append_assoc, sym, ap, arith}
use Rattle.std.specs.Option.{option_or}
use Rattle.std.proofs.lemmas.List.{append-nil}
use Rattle.std.proofs.lemmas.List.Concat.{flat_map-cons}
use Rattle.std.proofs.lemmas.List.Folds.{find-append}
use Rattle.spv_dbg.specs.declared.insts.DebugInst.{DebugInst}
use Rattle.spv_dbg.specs.Tables.{Tables, with_id}
use Rattle.spv_paths.specs.Variables.{scopes_within}
use Rattle.spv_scopes.specs.Scopes.{parent_in}

module _ (t : Tables) (each : ℕ → List ℕ) (len n at : ℕ) (lt : n < len) where
  -- those of a scope stand before those of the scope around it
  outward : (d : DebugInst) → Some d ≡ with_id t at → flat_map each (scopes_within (len - n) t at) ≡ each at ++ flat_map each (scopes_within (len - (n + 1)) t (parent_in d))
  outward d is = let one : len - n ≡ suc (len - (n + 1)) = omega arith in rw (one, sym is) (flat_map-cons each at (scopes_within (len - (n + 1)) t (parent_in d)))

  -- a name is found in a scope, or later
  module _ (has : ℕ → Bool) (d : DebugInst) (is : Some d ≡ with_id t at) (result : Option ℕ) (e : find has (flat_map each (scopes_within (len - n) t at)) ≡ result) where
    split : option_or (find has (each at)) (find has (flat_map each (scopes_within (len - (n + 1)) t (parent_in d)))) ≡ result
    split = sym (find-append has (each at) (flat_map each (scopes_within (len - (n + 1)) t (parent_in d)))) ∙ sym (ap (find has) (outward d is)) ∙ e

    pub found_here : (id : ℕ) → Some id ≡ find has (each at) → Some id ≡ result
    found_here id found = rw (sym found) at split

    pub found_later : None ≡ find has (each at) → find has (flat_map each (scopes_within (len - (n + 1)) t (parent_in d))) ≡ result
    found_later found = rw (sym found) at split

  -- all are listed
  pub listed : (d : DebugInst) (ids whole : List ℕ) → Some d ≡ with_id t at → ids ++ flat_map each (scopes_within (len - n) t at) ≡ whole
      → (ids ++ each at) ++ flat_map each (scopes_within (len - (n + 1)) t (parent_in d)) ≡ whole
  listed d ids whole is e = append_assoc ids (each at) (flat_map each (scopes_within (len - (n + 1)) t (parent_in d))) ∙ ap (λ (xs : List ℕ). ids ++ xs) (sym (outward d is)) ∙ e

  pub listed_all : (ids whole : List ℕ) → None ≡ with_id t at → ids ++ flat_map each (scopes_within (len - n) t at) ≡ whole → ids ≡ whole
  listed_all ids whole none e = let one : len - n ≡ suc (len - (n + 1)) = omega arith in sym (append-nil ids) ∙ rw (sym none) at (rw one at e)
