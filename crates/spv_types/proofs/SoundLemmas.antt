-- What keeps the rule of a form keeps it among other types that count as the same.
use Rattle.std.proofs.Common.{◌≡◌, ℕ, ◌==◌, Bool, true, false, List, [], ◌∷◌, length, refl}
use Rattle.std.proofs.lemmas.Bool.{and_parts, and_from}
use Rattle.std.specs.Prelude.{◌&&◌, ◌||◌}
use Rattle.spv_types.specs.declared.forms.Form.{Form}
use Rattle.spv_types.specs.declared.forms.Form.TheVariants.{Void, Bool as Boolean, Int, Vector, Array, Runtime, Struct, Pointer, Function}
use Rattle.spv_types.specs.declared.forms.Member.{Member}
use Rattle.spv_types.specs.Types.{Types, form_of}
use Rattle.spv_types.specs.Rules.{is_data, is_runtime, is_scalar, is_sized_data, keep_members, keeps_form, keeps_member}

-- ---- tests

pub impossible : {A : Type 0} → false ≡ true → A
impossible h = absurd (cc)

-- one of two tests that holds, carried along
either_carried : (a b c d : Bool) → (a ≡ true → c ≡ true) → (b ≡ true → d ≡ true) → (a || b) ≡ true → (c || d) ≡ true
either_carried true b c d f g h = rw (f refl) refl
either_carried false b true d f g h = refl
either_carried false b false d f g h = g h

both_carried : (a b c d : Bool) → (a ≡ true → c ≡ true) → (b ≡ true → d ≡ true) → (a && b) ≡ true → (c && d) ≡ true
both_carried a b c d f g h = let parts = and_parts a b h in and_from c d (f parts.0) (g parts.1)

-- ---- rules

-- what a rule may ask of a part among some types holds of it among others
pub record CountAlike (ts us : Types) : Type 0 where
  pub scalars : (id : ℕ) → is_scalar (form_of ts id) ≡ true → is_scalar (form_of us id) ≡ true
  pub parts : (id : ℕ) → is_data (form_of ts id) ≡ true → is_data (form_of us id) ≡ true
  pub sized : (id : ℕ) → is_sized_data ts id ≡ true → is_sized_data us id ≡ true
  pub runtimes : (id : ℕ) → is_runtime (form_of ts id) ≡ true → is_runtime (form_of us id) ≡ true

member_carried : (ts us : Types) (block last : Bool) (ty : ℕ) → CountAlike ts us → keeps_member ts block last ty ≡ true → keeps_member us block last ty ≡ true
member_carried ts us block last ty alike h =
    either_carried (is_sized_data ts ty) (last && (block && is_runtime (form_of ts ty))) (is_sized_data us ty) (last && (block && is_runtime (form_of us ty)))
    (alike.sized ty)
    (both_carried last (block && is_runtime (form_of ts ty)) last (block && is_runtime (form_of us ty)) (λ e. e)
    (both_carried block (is_runtime (form_of ts ty)) block (is_runtime (form_of us ty)) (λ e. e) (alike.runtimes ty)))
    h

members_carried : (ts us : Types) (block : Bool) (ms : List Member) → CountAlike ts us → keep_members ts block ms ≡ true → keep_members us block ms ≡ true
unfolding keep_members
members_carried ts us block [] alike h = refl
members_carried ts us block (m ∷ ms) alike h =
    both_carried (keeps_member ts block (length ms == 0) m.ty) (keep_members ts block ms) (keeps_member us block (length ms == 0) m.ty) (keep_members us block ms)
    (member_carried ts us block (length ms == 0) m.ty alike) (members_carried ts us block ms alike) h

pub form_carried : (ts us : Types) (f : Form) → CountAlike ts us → keeps_form ts f ≡ true → keeps_form us f ≡ true
form_carried ts us Void alike h = refl
form_carried ts us Boolean alike h = refl
form_carried ts us (Int width sign) alike h = h
form_carried ts us (Vector component count) alike h = both_carried _ _ _ _ (alike.scalars component) (λ e. e) h
form_carried ts us (Array element n stride) alike h = alike.sized element h
form_carried ts us (Runtime element stride) alike h = alike.sized element h
form_carried ts us (Struct members block) alike h = members_carried ts us block members alike h
form_carried ts us (Pointer class target) alike h = both_carried _ _ _ _ (λ e. e) (alike.parts target) h
form_carried ts us (Function returns parameters) alike h = refl
