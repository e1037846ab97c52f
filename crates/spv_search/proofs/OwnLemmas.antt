-- What commands ask for, by the event that they speak of.
use Rattle.std.proofs.Common.{◌≡◌, ◌∙◌, ◌+◌, ◌-◌, ◌==◌, ℕ, suc, Bool, true, false, List, Option, Some, None, Result, Ok, Err, refl, ap, sym, arith, add-one}
use Rattle.std.specs.Prelude.{◌&&◌, ◌||◌, IfOk, not, nat_le, nat_lt, slice_get}
use Rattle.std.specs.Option.{option_map_or}
use Rattle.spv_base.specs.declared.happenings.Happening.{Happening}
use Rattle.spv_state.specs.Program.{Program}
use Rattle.spv_group.specs.Group.{Held as Group, entries_in, group_at}
use Rattle.spv_group.specs.Run.{happening_at, happening_before}
use Rattle.spv_search.specs.declared.commands.Backward.{Backward}
use Rattle.spv_search.specs.declared.commands.Backward.TheVariants.{Rstepi, Rstep, Rnext, Rfinish, Rcontinue}
use Rattle.spv_search.specs.Keys.{at_head, depth_in, key_in, same_key}
use Rattle.spv_search.specs.Moves.{has_landed, has_moved, is_arrival, moves}
use Rattle.spv_search.specs.Own.{own_backward, own_before, own_next}
use Rattle.spv_search.specs.Sights.{asks_before, compares, differs, is_such, stands_for}
use Rattle.spv_search.proofs.MoveLemmas.{other_entry}

-- ---- events

pub event_behind : (p : Program) (es : List ℕ) (n : ℕ) (h : Happening) → happening_at p es n ≡ Some h → happening_before p es (n + 1) ≡ Some h
event_behind p es n h is = rw add-one is

pub back_again : (n : ℕ) → (n + 1) - 1 ≡ n
back_again n = omega arith

-- ---- what a command asks for of the event before a position, in parts

abbrev such : Backward → ℕ → Group → Bool
such command i g = option_map_or (is_such command i) (happening_before g.program (entries_in g) g.position) false

and_false : (a : Bool) → false ≡ (a && false)
and_false true = refl
and_false false = refl

one_more : (a b c : Bool) → (a && (b && c)) ≡ (a && ((b && true) && c))
one_more false b c = refl
one_more true false c = refl
one_more true true c = refl

one_last : (a b c d : Bool) → ((a && (b && c)) && d) ≡ (a && ((b && d) && c))
one_last false b c d = refl
one_last true false c d = refl
one_last true true true true = refl
one_last true true true false = refl
one_last true true false true = refl
one_last true true false false = refl

one_alone : (a b : Bool) → (a && b) ≡ (a && (b && true))
one_alone false b = refl
one_alone true false = refl
one_alone true true = refl

parts : (command : Backward) (i : ℕ) (p g : Group) → own_before command i p g ≡ (such command i g && (stands_for command i p g && differs command i g))
parts (Rstepi n) i p g = and_false (such (Rstepi n) i g)
parts Rstep i p g = one_more (has_landed g i) (at_head g i) (not (same_key (key_in g i) (key_in (group_at (g.position - 1) g) i)))
parts Rnext i p g = one_last (has_landed g i) (at_head g i) (not (same_key (key_in g i) (key_in (group_at (g.position - 1) g) i))) (nat_le (depth_in g i) (depth_in p i))
parts Rfinish i p g = one_alone (has_moved g i) (nat_lt (depth_in g i) (depth_in p i))
parts Rcontinue i p g = and_false (such Rcontinue i g)

none_such : (command : Backward) (i : ℕ) (p g : Group) → such command i g ≡ false → own_before command i p g ≡ false
none_such command i p g e = parts command i p g ∙ ap (λ b. b && (stands_for command i p g && differs command i g)) e

such_before : (command : Backward) (i : ℕ) (g : Group) (h : Happening) → happening_before g.program (entries_in g) g.position ≡ Some h → such command i g ≡ is_such command i h
such_before command i g h is = ap (λ o. option_map_or (is_such command i) o false) is

module _ (command : Backward) (i : ℕ) (p g : Group) (h : Happening) (event : happening_before g.program (entries_in g) g.position ≡ Some h) where
  pub not_such : is_such command i h ≡ false → false ≡ own_before command i p g
  not_such e = sym (none_such command i p g (such_before command i g h event ∙ e))

  module _ (is : is_such command i h ≡ true) (stands : stands_for command i p g ≡ true) where
    rest : own_before command i p g ≡ differs command i g
    rest =
        parts command i p g
        ∙ ap (λ b. b && (stands_for command i p g && differs command i g)) (such_before command i g h event ∙ is)
        ∙ ap (λ b. b && differs command i g) stands

    pub by_keys : compares command ≡ true → not (same_key (key_in g i) (key_in (group_at (g.position - 1) g) i)) ≡ own_before command i p g
    by_keys e = sym (rest ∙ ap (λ b. not b || not (same_key (key_in g i) (key_in (group_at (g.position - 1) g) i))) e)

-- what doesn't move the invocation isn't asked for
pub still_not_such : (command : Backward) (i : ℕ) (h : Happening) → moves i h ≡ false → is_such command i h ≡ false
still_not_such (Rstepi n) i h stays = refl
still_not_such Rstep i h stays = ap (λ b. b && not (is_arrival h.kind)) stays
still_not_such Rnext i h stays = ap (λ b. b && not (is_arrival h.kind)) stays
still_not_such Rfinish i h stays = stays
still_not_such Rcontinue i h stays = refl

pub not_asked : (command : Backward) (i : ℕ) (p g : Group) → asks_before command ≡ false → own_before command i p g ≡ false
not_asked (Rstepi n) i p g e = refl
not_asked Rstep i p g e = absurd (cc)
not_asked Rnext i p g e = absurd (cc)
not_asked Rfinish i p g e = absurd (cc)
not_asked Rcontinue i p g e = refl

-- nor does what is an event of another
other_such : (command : Backward) (i : ℕ) (o : Option Happening) → ((h : Happening) → o ≡ Some h → moves i h ≡ false) → option_map_or (is_such command i) o false ≡ false
other_such command i None stays = refl
other_such command i (Some h) stays = still_not_such command i h (stays h refl)

pub other_before : (command : Backward) (i : ℕ) (p g : Group) (n : ℕ) → g.position ≡ suc n → option_map_or (λ j. j == i) (slice_get (entries_in g) n) false ≡ false → own_before command i p g ≡ false
other_before command i p g n here other =
    none_such command i p g
    (ap (λ k. option_map_or (is_such command i) (happening_before g.program (entries_in g) k) false) here
    ∙ other_such command i (happening_at g.program (entries_in g) n) (λ h is. other_entry g.program (entries_in g) n i h other is))

-- nothing is at the start
pub none_at_start : (command : Backward) (i : ℕ) (p g : Group) → g.position ≡ 0 → own_before command i p g ≡ false
none_at_start command i p g start = none_such command i p g (ap (λ k. option_map_or (is_such command i) (happening_before g.program (entries_in g) k) false) start)

-- ---- both together

or_false : (b : Bool) → b ≡ (b || false)
or_false true = refl
or_false false = refl

pub either_way : (command : Backward) (i : ℕ) (p g : Group) → own_backward command i p g ≡ (own_next command i p g || own_before command i p g)
either_way (Rstepi n) i p g = or_false (own_backward (Rstepi n) i p g)
either_way Rstep i p g = refl
either_way Rnext i p g = refl
either_way Rfinish i p g = refl
either_way Rcontinue i p g = refl

-- what it asks for of the event at a position, and else of that before it
module _ (command : Backward) (i : ℕ) (p g : Group) where
  pub own_by_next : own_next command i p g ≡ true → true ≡ own_backward command i p g
  own_by_next e = sym (either_way command i p g ∙ ap (λ b. b || own_before command i p g) e)

  pub own_by_before : (b : Bool) → own_next command i p g ≡ false → b ≡ own_before command i p g → b ≡ own_backward command i p g
  own_by_before b e is = is ∙ sym (either_way command i p g ∙ ap (λ c. c || own_before command i p g) e)

pub if_ok : {T E : Type 0} (r : Result T E) (P Q : T → Type 0) → ((x : T) → P x → Q x) → IfOk r P → IfOk r Q
if_ok (Ok x) P Q f is = f x is
if_ok (Err e) P Q f is = is

pub either_is : (hit own : Bool) → own ≡ true → true ≡ (hit || own)
either_is true own e = refl
either_is false own e = sym e

pub turned : (hit own done : Bool) → done ≡ own → (done || hit) ≡ (hit || own)
turned true own true e = refl
turned true own false e = refl
turned false own true e = e
turned false own false e = e
