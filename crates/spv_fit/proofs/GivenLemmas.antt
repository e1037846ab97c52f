-- One more buffer, before those in the map.
use Rattle.std.proofs.Common.{◌≡◌, ◌∙◌, ℕ, ◌-◌, ◌<◌, ◌≤◌, Bool, true, false, cond, List, ◌∷◌, length, get_or, drop, drop_of_length-le, Option, Some, None, refl, sym, ap, arith}
use Rattle.std.specs.List.{find}
use Rattle.std.specs.Option.{option_map}
use Rattle.std.specs.Ordering.{is_eq}
use Rattle.spv_index.specs.Keys.{pair_cmp}
use Rattle.spv_index.proofs.Exports.{drop_back, same_pair}
use Rattle.spv_base.specs.declared.instructions.Inst.{Inst}
use Rattle.spv_base.specs.Lowest.{lower}
use Rattle.spv_types.specs.Types.{Types}
use Rattle.spv_setup.specs.declared.settings.Settings.{Settings}
use Rattle.spv_setup.specs.declared.settings.Buffer.{Buffer}
use Rattle.spv_fit.specs.declared.given.Given.{Given}
use Rattle.spv_fit.specs.Given.{is_bound, buffer_given, given_at, short_for, lowest_short}

given_first : (bs : List Buffer) (b : Buffer) (set binding : ℕ) → given_at (b ∷ bs) set binding ≡ cond (is_bound set binding b) (Some (buffer_given b)) (given_at bs set binding)
unfolding given_at
given_first bs b set binding = by_test (is_bound set binding b)
  where
    by_test : (t : Bool) → option_map buffer_given (cond t (Some b) (find (is_bound set binding) bs)) ≡ cond t (Some (buffer_given b)) (option_map buffer_given (find (is_bound set binding) bs))
    by_test true = refl
    by_test false = refl

pub back_more : (bs : List Buffer) (n : ℕ) (b : Buffer) (set binding : ℕ) (given : Given) (new old : Option Given) → 0 < n → n ≤ length bs → b ≡ get_or bs (n - 1) b
    → given ≡ buffer_given b
    → new ≡ cond (is_eq (pair_cmp (b.set, b.binding) (set, binding))) (Some given) old → old ≡ given_at (drop n bs) set binding → new ≡ given_at (drop (n - 1) bs) set binding
back_more bs n b set binding given new old some le is given_is put before =
    rw (drop_back bs n b some le, ← is, given_first (drop n bs) b set binding, ← before, ← given_is, ← same_pair b.set b.binding set binding) put

pub none_given : (bs : List Buffer) (set binding : ℕ) → given_at (drop (length bs) bs) set binding ≡ None
unfolding given_at
none_given bs set binding = rw (drop_of_length-le bs {i = length bs} (omega arith)) refl

-- ---- variables, one after another

pub short_back : (all : List Inst) (ts : Types) (s : Settings) (insts : List Inst) (n : ℕ) (i : Inst) → 0 < n → n ≤ length insts → i ≡ get_or insts (n - 1) i
    → lowest_short all ts s (drop (n - 1) insts) ≡ lower (short_for all ts s i) (lowest_short all ts s (drop n insts))
unfolding lowest_short
short_back all ts s insts n i some le e = rw (drop_back insts n i some le, ← e) refl

pub short_none : (all : List Inst) (ts : Types) (s : Settings) (insts : List Inst) → lowest_short all ts s (drop (length insts) insts) ≡ None
unfolding lowest_short
short_none all ts s insts = rw (drop_of_length-le insts {i = length insts} (omega arith)) refl

pub short_more : (all : List Inst) (ts : Types) (s : Settings) (insts : List Inst) (n : ℕ) (i : Inst) (now short old : Option ℕ) → 0 < n → n ≤ length insts → i ≡ get_or insts (n - 1) i
    → now ≡ lower short old → short ≡ short_for all ts s i → old ≡ lowest_short all ts s (drop n insts) → now ≡ lowest_short all ts s (drop (n - 1) insts)
short_more all ts s insts n i now short old some le at is e before =
    is ∙ ap (λ (a : Option ℕ). lower a old) e ∙ ap (lower (short_for all ts s i)) before ∙ sym (short_back all ts s insts n i some le at)
