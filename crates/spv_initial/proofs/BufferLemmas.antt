-- The buffers of a setup, by descriptor set and binding.
use Rattle.std.proofs.Common.{◌≡◌, ◌∙◌, ℕ, ◌-◌, ◌<◌, ◌≤◌, Bool, true, false, cond, List, length, get_or, drop, slice_get, Option, Some, None, refl, sym, ap, arith}
use Rattle.std.proofs.Common.{drop_of_length-le}
use Rattle.std.specs.List.{find}
use Rattle.std.specs.Option.{option_and_then}
use Rattle.std.specs.Ordering.{is_eq}
use Rattle.std.proofs.lemmas.Option.{slice_get_read}
use Rattle.spv_index.specs.Keys.{pair_cmp}
use Rattle.spv_index.proofs.Exports.{drop_back, same_pair}
use Rattle.spv_setup.specs.declared.settings.Buffer.{Buffer}
use Rattle.spv_fit.specs.Given.{is_bound}

-- ---- the map

-- no buffer yet
pub no_number : (bs : List Buffer) (set binding : ℕ) (o : Option ℕ) → o ≡ None → option_and_then (slice_get bs) o ≡ find (is_bound set binding) (drop (length bs) bs)
no_number bs set binding o none = rw (none, drop_of_length-le bs {i = length bs} (omega arith)) refl

-- one more buffer, before those in the map
pub back_number : (bs : List Buffer) (n : ℕ) (b : Buffer) (set binding : ℕ) (new old : Option ℕ) → 0 < n → n ≤ length bs → b ≡ get_or bs (n - 1) b
    → new ≡ cond (is_eq (pair_cmp (b.set, b.binding) (set, binding))) (Some (n - 1)) old → option_and_then (slice_get bs) old ≡ find (is_bound set binding) (drop n bs)
    → option_and_then (slice_get bs) new ≡ find (is_bound set binding) (drop (n - 1) bs)
back_number bs n b set binding new old some le is put before =
    let inside : n - 1 < length bs = omega (arith, some, le) in
    let at : slice_get bs (n - 1) ≡ Some b = slice_get_read bs (length bs) (n - 1) b refl inside is in
    let first : find (is_bound set binding) (drop (n - 1) bs) ≡ cond (is_bound set binding b) (Some b) (find (is_bound set binding) (drop n bs)) = rw (drop_back bs n b some le, ← is) refl in
    ap (option_and_then (slice_get bs)) (put ∙ ap (λ (t : Bool). cond t (Some (n - 1)) old) (same_pair b.set b.binding set binding)) ∙ by_test (is_bound set binding b) at before ∙ sym first
  where
    by_test : (t : Bool) → slice_get bs (n - 1) ≡ Some b → option_and_then (slice_get bs) old ≡ find (is_bound set binding) (drop n bs)
        → option_and_then (slice_get bs) (cond t (Some (n - 1)) old) ≡ cond t (Some b) (find (is_bound set binding) (drop n bs))
    by_test true at before = at
    by_test false at before = before
